-- The contracts can be met: a history of six calls on Figure 1, and a pick and a measure on the table that it leaves, each field by computation; and what the third
-- demand and `no_spare_node` say of it. A table with a spare node does not meet them. Assumes nothing.
use mathlib.Core.Path.{◌≡◌, refl, ap, ◌∙◌}
use mathlib.Core.Logic.{◌⊎◌, inl, inr}
use mathlib.Core.Bool.{true}
use mathlib.Core.List.Memᴰ
use mathlib.Core.List.{List, [], ◌∷◌}
use Prim.Native.Nat.{ℕ, zero, suc, ◌<◌}
use native.Mathlib.Nat.{not-suc-le-zero}
use native.Mathlib.Omega.{arith}
use lib.ListN.{length, get_or, take}
use Rattle.base.specs.Lists.{any}
use Rattle.itemset.specs.Words.{width, value_of}
use Rattle.itemset.specs.declared.Items.{Items}
use Rattle.itemset.specs.Items.{holds, insideb, without, apartb, belowb, size}
use Rattle.zdd.specs.Table.{nodes_of, capacity, families, family, order, all_sets, sets, filter, soundb, eq_set, elem, has, ◌∈◌}
use Rattle.zdd.specs.Operations.{combine, including, excluding, within, is_union, unites, join}
use Rattle.zdd.specs.Below.{Below, new_below, labels_below}
use Rattle.zdd.specs.Branches.{starting, others, weight, branches_to, branches, eq_family, amongb, fresh, missing}
use Rattle.exact_cover.specs.Cover.{keys_from, keys_of, holders, all_inside, takes, once, covers, covering, fits, down, candidates}
use Rattle.exact_cover.specs.Steps.{each, visit, steps}
use Rattle.statement.specs.Refusals.{first_of, oversize, stray, stray_optional, nothing_compulsory, disordered, unsound, unknown_answer, overlap, unknown_item, short_work}
use Rattle.statement.specs.Refusals.{spent, full, uncountable, past_end, short_page, pick_refusal, measure_refusal}
use Rattle.statement.specs.Replies.{Report, refused, gives}
use Rattle.statement.specs.Calls.{call_refusal, cover_refusal}
use Rattle.statement.specs.declared.Call.TheVariants.{Cover, Only, With, Without, Join}
use Rattle.exact_cover.specs.Problem.{count_from, earliest, times, each_once, lead, done}
use Rattle.query.specs.Questions.{unknown_package}
use Rattle.statement.specs.Postconditions.{CoverPost, WithPost, WithoutPost, OnlyPost, JoinPost, PickPost, MeasurePost}
use Rattle.history.specs.Histories.{entry, Calls, given, History, start, next, SameSet, Posting, no_timetable, ledger, Returns, Demanded, Needed}
use Rattle.history.proofs.Contract.{gives_one}
use Rattle.history.proofs.Demand.{demand3}
use Rattle.history.proofs.Spare.{no_spare_node}
use Rattle.statement.specs.Examples.{figure1, figure1_in, reversed, public_slot, four_slots, halves_table, empty_table}

-- 2 is {2}; 3 is {4, 2}; 4 is {1, 4, 2}; 5 is {0, 2} and {1, 4, 2}
abbrev covered : List ℕ
covered = 4 ∷ 2 ∷ 0 ∷ 1 ∷ 4 ∷ 0 ∷ 2 ∷ 1 ∷ 0 ∷ 3 ∷ 0 ∷ 4 ∷ 2 ∷ 0 ∷ 0 ∷ 0 ∷ 0 ∷ 0 ∷ 0 ∷ []

-- 6 is {0, 2}
abbrev final : List ℕ
final = 5 ∷ 2 ∷ 0 ∷ 1 ∷ 4 ∷ 0 ∷ 2 ∷ 1 ∷ 0 ∷ 3 ∷ 0 ∷ 4 ∷ 2 ∷ 0 ∷ 0 ∷ 2 ∷ 0 ∷ 0 ∷ 0 ∷ []

abbrev report : ℕ → ℕ → ℕ → Report
report a s c = record { outcome = gives a; steps = s; made = c }

first-cover : CoverPost figure1 6 (empty_table 6) 63 6 256 (report 5 6 4) covered
unfolding holds insideb without belowb size count_from earliest times each_once lead done nodes_of capacity families family order all_sets sets filter soundb eq_set elem starting
    others weight branches_to branches eq_family amongb fresh missing new_below keys_from keys_of holders all_inside takes once covers covering fits down candidates each
    visit steps first_of oversize any stray stray_optional nothing_compulsory disordered unsound unknown_item short_work spent full call_refusal width value_of
first-cover = record {
  declined = λ l. absurd (not-suc-le-zero l);
  answered = λ e. record { number = 5; outcome = refl; known = omega arith; holds = refl; steps = refl; long = refl; sound = refl; old = refl; grown = refl; made = refl };
}

-- B is 5
second_cover : CoverPost figure1 6 covered 63 5 256 (record { outcome = refused 9; steps = 0; made = 0 }) covered
unfolding holds insideb without belowb size count_from earliest times each_once lead done nodes_of capacity order all_sets sets filter soundb eq_set keys_from keys_of fits down
    candidates each visit steps first_of oversize any stray stray_optional nothing_compulsory disordered unsound unknown_item short_work spent call_refusal width value_of
second_cover = record {
  declined = λ l. record { outcome = refl; steps = refl; made = refl; table = refl };
  answered = λ (e : cover_refusal figure1 6 covered 63 5 256 ≡ 0). absurd (omega arith);
}

with_0 : WithPost figure1 6 covered 5 0 2 (report 6 0 1) final
unfolding holds insideb without belowb size count_from earliest times each_once lead done nodes_of capacity families family order all_sets sets filter soundb eq_set elem has starting
    others weight branches_to branches eq_family amongb fresh missing new_below keys_from keys_of first_of oversize any stray stray_optional nothing_compulsory disordered unsound unknown_answer
    unknown_package short_work full including call_refusal width value_of
with_0 = record {
  declined = λ l. absurd (not-suc-le-zero l);
  answered = λ e. record { number = 6; outcome = refl; known = omega arith; holds = refl; steps = refl; long = refl; sound = refl; old = refl; grown = refl; made = refl };
}

-- {1, 4, 2} is number 4 already
only_other : OnlyPost figure1 6 final 5 6 2 (report 4 0 0) final
unfolding holds insideb without belowb size count_from earliest times each_once lead done nodes_of capacity families family order all_sets sets filter soundb eq_set elem has combine
    starting others weight branches_to branches eq_family amongb fresh missing new_below keys_from keys_of first_of oversize any stray stray_optional nothing_compulsory disordered unsound unknown_answer
    short_work full call_refusal width value_of
only_other = record {
  declined = λ l. absurd (not-suc-le-zero l);
  answered = λ e. record { number = 4; outcome = refl; known = omega arith; holds = refl; steps = refl; long = refl; sound = refl; old = refl; grown = refl; made = refl };
}

-- and so it is made another way
without_0 : WithoutPost figure1 6 final 5 0 2 (report 4 0 0) final
unfolding holds insideb without belowb size count_from earliest times each_once lead done nodes_of capacity families family order all_sets sets filter soundb eq_set elem has starting
    others weight branches_to branches eq_family amongb fresh missing new_below keys_from keys_of first_of oversize any stray stray_optional nothing_compulsory disordered unsound unknown_answer
    unknown_package short_work full excluding call_refusal width value_of
without_0 = record {
  declined = λ l. absurd (not-suc-le-zero l);
  answered = λ e. record { number = 4; outcome = refl; known = omega arith; holds = refl; steps = refl; long = refl; sound = refl; old = refl; grown = refl; made = refl };
}

-- the first cover again: the same steps, and no node made
third_cover : CoverPost figure1 6 final 63 6 256 (report 5 6 0) final
unfolding holds insideb without belowb size count_from earliest times each_once lead done nodes_of capacity families family order all_sets sets filter soundb eq_set elem starting
    others weight branches_to branches eq_family amongb fresh missing new_below keys_from keys_of holders all_inside takes once covers covering fits down candidates each
    visit steps first_of oversize any stray stray_optional nothing_compulsory disordered unsound unknown_item short_work spent full call_refusal width value_of
third_cover = record {
  declined = λ l. absurd (not-suc-le-zero l);
  answered = λ e. record { number = 5; outcome = refl; known = omega arith; holds = refl; steps = refl; long = refl; sound = refl; old = refl; grown = refl; made = refl };
}

-- the items 0 to 5
abbrev d63 : Items
d63 = record { w0 = 63; w1 = 0; w2 = 0 }

abbrev calls : Calls
calls =
    (entry 6 (Cover d63 6) 256, report 5 6 0)
    ∷ (entry 6 (Without 5 0) 2, report 4 0 0)
    ∷ (entry 6 (Only 5 6) 2, report 4 0 0)
    ∷ (entry 6 (With 5 0) 2, report 6 0 1)
    ∷ (entry 6 (Cover d63 5) 256, record { outcome = refused 9; steps = 0; made = 0 })
    ∷ (entry 6 (Cover d63 6) 256, report 5 6 4)
    ∷ []

history : History figure1 calls final
unfolding call_refusal value_of
history =
    next (next (next (next (next (next (start 19)
    (entry 6 (Cover d63 6) 256) (report 5 6 4) covered (λ x m. absurd (Memᴰ.not-nil m)) first-cover)
    (entry 6 (Cover d63 5) 256) (record { outcome = refused 9; steps = 0; made = 0 }) covered tt second_cover)
    (entry 6 (With 5 0) 2) (report 6 0 1) final (λ x m. one x (Memᴰ.cases_cons m)) with_0)
    (entry 6 (Only 5 6) 2) (report 4 0 0) final (λ x m. two x (Memᴰ.cases_cons m)) only_other)
    (entry 6 (Without 5 0) 2) (report 4 0 0) final (λ x m. five x (Memᴰ.cases_cons m)) without_0)
    (entry 6 (Cover d63 6) 256) (report 5 6 0) final (λ x m. absurd (Memᴰ.not-nil m)) third_cover
  where
    one : (x : ℕ) → (x ≡ 5) ⊎ (x ∈ []) → x ∈ 5 ∷ 0 ∷ 1 ∷ []
    one x (inl e) = Memᴰ.head e
    one x (inr m) = absurd (Memᴰ.not-nil m)

    five : (x : ℕ) → (x ≡ 5) ⊎ (x ∈ []) → x ∈ 4 ∷ 6 ∷ 5 ∷ 0 ∷ 1 ∷ []
    five x (inl e) = Memᴰ.tail (Memᴰ.tail (Memᴰ.head e))
    five x (inr m) = absurd (Memᴰ.not-nil m)

    last : (x : ℕ) → (x ≡ 6) ⊎ (x ∈ []) → x ∈ 6 ∷ 5 ∷ 0 ∷ 1 ∷ []
    last x (inl e) = Memᴰ.head e
    last x (inr m) = absurd (Memᴰ.not-nil m)

    two : (x : ℕ) → (x ≡ 5) ⊎ (x ∈ 6 ∷ []) → x ∈ 6 ∷ 5 ∷ 0 ∷ 1 ∷ []
    two x (inl e) = Memᴰ.tail (Memᴰ.head e)
    two x (inr m) = last x (Memᴰ.cases_cons m)

demanded : Demanded figure1 calls final
demanded = demand3 figure1 calls final history

-- ---- the demand is not empty here: the postings, the latest first

in_list : {A : Type 0} (l : List A) (k : ℕ) (d : A) → k < length l → get_or l k d ∈ l
in_list [] k d h = absurd (not-suc-le-zero h)
in_list (x ∷ l) zero d h = Memᴰ.head refl
in_list (x ∷ l) (suc k) d h = Memᴰ.tail (in_list l k d (omega arith))

abbrev posting : ℕ → Posting
posting k = get_or (ledger figure1 calls) k (record { number = 0; set = no_timetable })

posted : (k : ℕ) → k < 7 → posting k ∈ ledger figure1 calls
posted k h = in_list (ledger figure1 calls) k (record { number = 0; set = no_timetable }) h

-- the two covers have the number 5
covered-twice : SameSet figure1 (posting 0).set (posting 4).set
covered-twice = (demanded.numbers (posting 0) (posting 4) (posted 0 (omega arith)) (posted 4 (omega arith))).0 refl

-- the timetables of 5 that are not in 6, and those of 5 that do not hold 0: both have the number 4, so they are the same
made-twice : SameSet figure1 (posting 1).set (posting 2).set
made-twice = (demanded.numbers (posting 1) (posting 2) (posted 1 (omega arith)) (posted 2 (omega arith))).0 refl

-- 5 and 4 are not the same
two_sets : SameSet figure1 (posting 0).set (posting 1).set → ⊥
two_sets e = let z : ◌≡◌ {A = ℕ} 5 4 = (demanded.numbers (posting 0) (posting 1) (posted 0 (omega arith)) (posted 1 (omega arith))).1 e in omega arith

-- the second timetable of 5, on a page of four
picked : PickPost figure1 6 final 5 1 6 (7 ∷ 7 ∷ 7 ∷ 7 ∷ []) (gives 3) (1 ∷ 4 ∷ 2 ∷ 7 ∷ [])
unfolding holds insideb without belowb count_from earliest times each_once lead done nodes_of capacity families family soundb keys_from keys_of first_of oversize
    any stray stray_optional nothing_compulsory disordered unsound
    unknown_answer short_work uncountable past_end short_page pick_refusal width value_of
picked = record { result = refl; pages = refl }

-- it is what the demand says
second_of_five : Returns (1 ∷ 4 ∷ 2 ∷ []) (7 ∷ 7 ∷ 7 ∷ 7 ∷ []) (gives 3) (1 ∷ 4 ∷ 2 ∷ 7 ∷ [])
unfolding holds insideb without belowb size count_from earliest times each_once lead done order all_sets sets filter keys_from keys_of holders all_inside takes once covers width value_of
second_of_five =
    (demanded.picks (posting 0) (posted 0 (omega arith)) (omega arith) 6 (Memᴰ.head refl) 6 (omega arith) 1
    (7 ∷ 7 ∷ 7 ∷ 7 ∷ []) (gives 3) (1 ∷ 4 ∷ 2 ∷ 7 ∷ []) picked).0 (omega arith) (omega arith)

-- measured, with no page
measured : MeasurePost figure1 6 final 5 1 6 (gives 3)
unfolding holds insideb without belowb count_from earliest times each_once lead done nodes_of capacity families family soundb keys_from keys_of first_of oversize
    any stray stray_optional nothing_compulsory disordered unsound
    unknown_answer short_work uncountable past_end measure_refusal width value_of
measured = record { result = refl }

three_packages : gives 3 ≡ gives (length {A = ℕ} (1 ∷ 4 ∷ 2 ∷ []))
unfolding holds insideb without belowb size count_from earliest times each_once lead done order all_sets sets filter keys_from keys_of holders all_inside takes once covers width value_of
three_packages =
    (demanded.measures (posting 0) (posted 0 (omega arith)) (omega arith) 6 (Memᴰ.head refl) 6 (omega arith) 1
    (gives 3) measured).0 (omega arith)

-- ---- the nodes of the table: below the answer 5 are 2, 3, 4 and 5, below 6 are 2 and 6

below-five : new_below 0 (nodes_of final) 5 ≡ 2 ∷ 3 ∷ 4 ∷ 5 ∷ []
unfolding nodes_of new_below
below-five = refl

below-six : new_below 0 (nodes_of final) 6 ≡ 2 ∷ 6 ∷ []
unfolding nodes_of new_below
below-six = refl

needed : Needed calls final
needed = no_spare_node figure1 calls final history

-- 3 is no answer given, and is below one
three_needed : (a : ℕ) × (a ∈ given calls) × Below (nodes_of final) a 3
three_needed = (needed 3 (omega arith)).0 (omega arith)

-- 7 is below none: the table has no such node
seven_not : (a : ℕ) → a ∈ given calls → Below (nodes_of final) a 7 → ⊥
seven_not a m b = let l : 7 < 7 = (needed 7 (omega arith)).1 (a, m, b) in omega arith

-- `final` with the node 7, which is {3}
abbrev spare : List ℕ
spare = 6 ∷ 2 ∷ 0 ∷ 1 ∷ 4 ∷ 0 ∷ 2 ∷ 1 ∷ 0 ∷ 3 ∷ 0 ∷ 4 ∷ 2 ∷ 0 ∷ 0 ∷ 2 ∷ 3 ∷ 0 ∷ 1 ∷ []

-- it is sound, the old nodes stand first, and 5 still holds the covers of all items
spare_sound : (soundb (keys_of figure1) spare ≡ true) × (take 5 (nodes_of spare) ≡ nodes_of final) × (family (nodes_of spare) 5 ≡ covering figure1 63)
unfolding holds insideb without belowb size count_from earliest times each_once lead done nodes_of capacity families family order all_sets sets filter soundb keys_from keys_of holders all_inside
    takes once covers covering width value_of
spare_sound = (refl, refl, refl)

-- but a cover that makes that node, fewer than the four branch nodes of its answer, does not meet its contract
no_spare : CoverPost figure1 6 final 63 6 256 (report 5 6 1) spare → ⊥
unfolding holds insideb without belowb size count_from earliest times each_once lead done nodes_of capacity families family order all_sets sets filter soundb eq_set elem starting
    others weight branches_to branches eq_family amongb fresh missing new_below keys_from keys_of holders all_inside takes once covers covering fits down candidates
    each visit steps first_of oversize any stray stray_optional nothing_compulsory disordered unsound unknown_item short_work spent full call_refusal width value_of
no_spare C =
    let A = C.answered refl in
    let five : A.number ≡ 5 = gives_one (gives 5) A.number 5 A.outcome refl in
    let none : ◌≡◌ {A = ℕ} 1 0 = A.made ∙ ap (λ (a : ℕ). length (new_below 5 (nodes_of spare) a)) five in
    omega arith

-- ---- a history with an optional set [document 02, No. 1]: the demand is for every problem, so for this one

-- 2 is {3}; 3 is {1, 3}; 4 is {2} and {3}; 5 is {0, 2}, {0, 3} and {1, 3}
abbrev public_table : List ℕ
public_table = 4 ∷ 3 ∷ 0 ∷ 1 ∷ 1 ∷ 0 ∷ 2 ∷ 2 ∷ 2 ∷ 1 ∷ 0 ∷ 3 ∷ 4 ∷ []

public-cover : CoverPost public_slot 3 (empty_table 4) 7 6 256 (report 5 6 4) public_table
unfolding holds insideb without belowb size count_from earliest times each_once lead done nodes_of capacity families family order all_sets sets filter soundb eq_set elem starting
    others weight branches_to branches eq_family amongb fresh missing new_below keys_from keys_of holders all_inside takes once covers covering fits down candidates each
    visit steps first_of oversize any stray stray_optional nothing_compulsory disordered unsound unknown_item short_work spent full call_refusal width value_of
public-cover = record {
  declined = λ l. absurd (not-suc-le-zero l);
  answered = λ e. record { number = 5; outcome = refl; known = omega arith; holds = refl; steps = refl; long = refl; sound = refl; old = refl; grown = refl; made = refl };
}

-- D is the optional item alone: nothing must be covered
optional-cover : CoverPost public_slot 3 public_table 4 1 4 (report 1 1 0) public_table
unfolding holds insideb without belowb size count_from earliest times each_once lead done nodes_of capacity families family order all_sets sets filter soundb eq_set elem starting
    others weight branches_to branches eq_family amongb fresh missing new_below keys_from keys_of holders all_inside takes once covers covering fits down candidates each
    visit steps first_of oversize any stray stray_optional nothing_compulsory disordered unsound unknown_item short_work spent full call_refusal width value_of
optional-cover = record {
  declined = λ l. absurd (not-suc-le-zero l);
  answered = λ e. record { number = 1; outcome = refl; known = omega arith; holds = refl; steps = refl; long = refl; sound = refl; old = refl; grown = refl; made = refl };
}

abbrev public-calls : Calls
public-calls =
    (entry 3 (Cover (record { w0 = 4; w1 = 0; w2 = 0 }) 1) 4, report 1 1 0)
    ∷ (entry 3 (Cover (record { w0 = 7; w1 = 0; w2 = 0 }) 6) 256, report 5 6 4)
    ∷ []

public_history : History public_slot public-calls public_table
unfolding call_refusal value_of
public_history =
    next (next (start 13)
    (entry 3 (Cover (record { w0 = 7; w1 = 0; w2 = 0 }) 6) 256) (report 5 6 4) public_table (λ x m. absurd (Memᴰ.not-nil m)) public-cover)
    (entry 3 (Cover (record { w0 = 4; w1 = 0; w2 = 0 }) 1) 4) (report 1 1 0) public_table (λ x m. absurd (Memᴰ.not-nil m)) optional-cover

public_demanded : Demanded public_slot public-calls public_table
public_demanded = demand3 public_slot public-calls public_table public_history

abbrev public-posting : ℕ → Posting
public-posting k = get_or (ledger public_slot public-calls) k (record { number = 0; set = no_timetable })

public_posted : (k : ℕ) → k < 4 → public-posting k ∈ ledger public_slot public-calls
public_posted k h = in_list (ledger public_slot public-calls) k (record { number = 0; set = no_timetable }) h

-- the cover of the optional item alone has the number 1: it is the set of the empty timetable
nothing_due : SameSet public_slot (public-posting 0).set (public-posting 3).set
nothing_due = (public_demanded.numbers (public-posting 0) (public-posting 3) (public_posted 0 (omega arith)) (public_posted 3 (omega arith))).0 refl

-- the second timetable of 5 leaves the optional item to nobody
public-picked : PickPost public_slot 3 public_table 5 1 6 (7 ∷ 7 ∷ []) (gives 2) (0 ∷ 3 ∷ [])
unfolding holds insideb without belowb count_from earliest times each_once lead done nodes_of capacity families family soundb keys_from keys_of first_of oversize any stray stray_optional
    nothing_compulsory disordered unsound unknown_answer short_work uncountable past_end short_page pick_refusal width value_of
public-picked = record { result = refl; pages = refl }

second_of_public : Returns (0 ∷ 3 ∷ []) (7 ∷ 7 ∷ []) (gives 2) (0 ∷ 3 ∷ [])
unfolding holds insideb without belowb size count_from earliest times each_once lead done order all_sets sets filter keys_from keys_of holders all_inside takes once covers width value_of
second_of_public =
    (public_demanded.picks (public-posting 1) (public_posted 1 (omega arith)) (omega arith) 3 (Memᴰ.head refl) 6 (omega arith) 1
    (7 ∷ 7 ∷ []) (gives 2) (0 ∷ 3 ∷ []) public-picked).0 (omega arith) (omega arith)

-- each of its nodes is below an answer given
public_needed : Needed public-calls public_table
public_needed = no_spare_node public_slot public-calls public_table public_history

-- ---- a history in another order [document 02, No. 4]

-- 2 is {1}; 3 is {4, 1}; 4 is {0} and {4, 1}; 5 is {2, 0} and {2, 4, 1}
abbrev reversed_table : List ℕ
reversed_table = 4 ∷ 1 ∷ 0 ∷ 1 ∷ 4 ∷ 0 ∷ 2 ∷ 0 ∷ 3 ∷ 1 ∷ 2 ∷ 0 ∷ 4 ∷ []

reversed-cover : CoverPost (figure1_in reversed) 6 (empty_table 4) 63 6 256 (report 5 6 4) reversed_table
unfolding holds insideb without belowb size count_from earliest times each_once lead done nodes_of capacity families family order all_sets sets filter soundb eq_set elem starting
    others weight branches_to branches eq_family amongb fresh missing new_below keys_from keys_of holders all_inside takes once covers covering fits down candidates each
    visit steps first_of oversize any stray stray_optional nothing_compulsory disordered unsound unknown_item short_work spent full call_refusal width value_of
reversed-cover = record {
  declined = λ l. absurd (not-suc-le-zero l);
  answered = λ e. record { number = 5; outcome = refl; known = omega arith; holds = refl; steps = refl; long = refl; sound = refl; old = refl; grown = refl; made = refl };
}

abbrev reversed-calls : Calls
reversed-calls = (entry 6 (Cover (record { w0 = 63; w1 = 0; w2 = 0 }) 6) 256, report 5 6 4) ∷ []

reversed_history : History (figure1_in reversed) reversed-calls reversed_table
unfolding call_refusal value_of
reversed_history =
    next (start 13) (entry 6 (Cover (record { w0 = 63; w1 = 0; w2 = 0 }) 6) 256) (report 5 6 4) reversed_table (λ x m. absurd (Memᴰ.not-nil m)) reversed-cover

reversed_demanded : Demanded (figure1_in reversed) reversed-calls reversed_table
reversed_demanded = demand3 (figure1_in reversed) reversed-calls reversed_table reversed_history

-- each of its nodes is below an answer given
reversed_needed : Needed reversed-calls reversed_table
reversed_needed = no_spare_node (figure1_in reversed) reversed-calls reversed_table reversed_history

-- the second timetable, written by the order
reversed-picked : PickPost (figure1_in reversed) 6 reversed_table 5 1 6 (7 ∷ 7 ∷ 7 ∷ []) (gives 3) (2 ∷ 4 ∷ 1 ∷ [])
unfolding holds insideb without belowb count_from earliest times each_once lead done nodes_of capacity families family soundb keys_from keys_of first_of oversize any stray
    stray_optional nothing_compulsory disordered unsound unknown_answer short_work uncountable past_end short_page pick_refusal width value_of
reversed-picked = record { result = refl; pages = refl }

second_of_reversed : Returns (2 ∷ 4 ∷ 1 ∷ []) (7 ∷ 7 ∷ 7 ∷ []) (gives 3) (2 ∷ 4 ∷ 1 ∷ [])
unfolding holds insideb without belowb size count_from earliest times each_once lead done order all_sets sets filter keys_from keys_of holders all_inside takes once covers width value_of
second_of_reversed =
    (reversed_demanded.picks (get_or (ledger (figure1_in reversed) reversed-calls) 0 (record { number = 0; set = no_timetable }))
    (in_list (ledger (figure1_in reversed) reversed-calls) 0 (record { number = 0; set = no_timetable }) (omega arith)) (omega arith) 6 (Memᴰ.head refl) 6 (omega arith) 1
    (7 ∷ 7 ∷ 7 ∷ []) (gives 3) (2 ∷ 4 ∷ 1 ∷ []) reversed-picked).0 (omega arith) (omega arith)

-- ---- a history with joins [document 02, No. 5]

-- 2 is {2}; 3 is {0, 2}
abbrev half_table : List ℕ
half_table = 2 ∷ 2 ∷ 0 ∷ 1 ∷ 0 ∷ 0 ∷ 2 ∷ 0 ∷ 0 ∷ 0 ∷ 0 ∷ 0 ∷ 0 ∷ 0 ∷ 0 ∷ 0 ∷ 0 ∷ 0 ∷ 0 ∷ 0 ∷ 0 ∷ 0 ∷ []

-- 4 is {3}; 5 is {1, 3}: `halves_table 3`. And 6 is {2, 3}; 7 is {1, 2, 3}; 8 is {0, 1, 2, 3}
abbrev joined_table : List ℕ
joined_table = 7 ∷ 2 ∷ 0 ∷ 1 ∷ 0 ∷ 0 ∷ 2 ∷ 3 ∷ 0 ∷ 1 ∷ 1 ∷ 0 ∷ 4 ∷ 2 ∷ 0 ∷ 4 ∷ 1 ∷ 0 ∷ 6 ∷ 0 ∷ 0 ∷ 7 ∷ []

half-cover : CoverPost four_slots 4 (empty_table 7) 5 3 256 (report 3 3 2) half_table
unfolding holds insideb without belowb size count_from earliest times each_once lead done nodes_of capacity families family order all_sets sets filter soundb eq_set elem starting
    others weight branches_to branches eq_family amongb fresh missing new_below keys_from keys_of holders all_inside takes once covers covering fits down candidates each
    visit steps first_of oversize any stray stray_optional nothing_compulsory disordered unsound unknown_item short_work spent full call_refusal width value_of
half-cover = record {
  declined = λ l. absurd (not-suc-le-zero l);
  answered = λ e. record { number = 3; outcome = refl; known = omega arith; holds = refl; steps = refl; long = refl; sound = refl; old = refl; grown = refl; made = refl };
}

other_cover : CoverPost four_slots 4 half_table 10 3 256 (report 5 3 2) (halves_table 3)
unfolding holds insideb without belowb size count_from earliest times each_once lead done nodes_of capacity families family order all_sets sets filter soundb eq_set elem starting
    others weight branches_to branches eq_family amongb fresh missing new_below keys_from keys_of holders all_inside takes once covers covering fits down candidates each
    visit steps first_of oversize any stray stray_optional nothing_compulsory disordered unsound unknown_item short_work spent full call_refusal width value_of
other_cover = record {
  declined = λ l. absurd (not-suc-le-zero l);
  answered = λ e. record { number = 5; outcome = refl; known = omega arith; holds = refl; steps = refl; long = refl; sound = refl; old = refl; grown = refl; made = refl };
}

halves_join : JoinPost four_slots 4 (halves_table 3) 3 5 6 (report 8 0 3) joined_table
unfolding holds insideb without apartb belowb size count_from earliest times each_once lead done nodes_of capacity families family order all_sets sets filter soundb eq_set elem has
    within is_union unites join starting others weight branches_to branches eq_family amongb fresh missing new_below labels_below keys_from keys_of first_of oversize any stray
    stray_optional nothing_compulsory disordered unsound unknown_answer overlap short_work full call_refusal width value_of
halves_join = record {
  declined = λ l. absurd (not-suc-le-zero l);
  answered = λ e. record { number = 8; outcome = refl; known = omega arith; holds = refl; steps = refl; long = refl; sound = refl; old = refl; grown = refl; made = refl };
}

-- a part of it with the whole, and no working words
overlapping : JoinPost four_slots 4 joined_table 3 8 0 (record { outcome = refused 35; steps = 0; made = 0 }) joined_table
unfolding holds insideb without apartb belowb size count_from earliest times each_once lead done nodes_of capacity families family order all_sets sets filter soundb eq_set elem has
    new_below labels_below keys_from keys_of first_of oversize any stray stray_optional nothing_compulsory disordered unsound unknown_answer overlap short_work call_refusal width value_of
overlapping = record {
  declined = λ l. record { outcome = refl; steps = refl; made = refl; table = refl };
  answered = λ (e : call_refusal four_slots 4 joined_table (Join 3 8) 0 ≡ 0). absurd (omega arith);
}

-- the cover of all four items finds it
whole-cover : CoverPost four_slots 4 joined_table 15 5 256 (report 8 5 0) joined_table
unfolding holds insideb without belowb size count_from earliest times each_once lead done nodes_of capacity families family order all_sets sets filter soundb eq_set elem starting
    others weight branches_to branches eq_family amongb fresh missing new_below keys_from keys_of holders all_inside takes once covers covering fits down candidates each
    visit steps first_of oversize any stray stray_optional nothing_compulsory disordered unsound unknown_item short_work spent full call_refusal width value_of
whole-cover = record {
  declined = λ l. absurd (not-suc-le-zero l);
  answered = λ e. record { number = 8; outcome = refl; known = omega arith; holds = refl; steps = refl; long = refl; sound = refl; old = refl; grown = refl; made = refl };
}

-- the items of a set below 2 ^ 64
abbrev low : ℕ → Items
low x = record { w0 = x; w1 = 0; w2 = 0 }

abbrev joined-calls : Calls
joined-calls =
    (entry 4 (Cover (low 15) 5) 256, report 8 5 0)
    ∷ (entry 4 (Join 3 8) 0, record { outcome = refused 35; steps = 0; made = 0 })
    ∷ (entry 4 (Join 3 5) 6, report 8 0 3)
    ∷ (entry 4 (Cover (low 10) 3) 256, report 5 3 2)
    ∷ (entry 4 (Cover (low 5) 3) 256, report 3 3 2)
    ∷ []

joined_history : History four_slots joined-calls joined_table
unfolding call_refusal value_of
joined_history =
    next (next (next (next (next (start 22)
    (entry 4 (Cover (low 5) 3) 256) (report 3 3 2) half_table (λ x m. absurd (Memᴰ.not-nil m)) half-cover)
    (entry 4 (Cover (low 10) 3) 256) (report 5 3 2) (halves_table 3) (λ x m. absurd (Memᴰ.not-nil m)) other_cover)
    (entry 4 (Join 3 5) 6) (report 8 0 3) joined_table (λ x m. halves x (Memᴰ.cases_cons m)) halves_join)
    (entry 4 (Join 3 8) 0) (record { outcome = refused 35; steps = 0; made = 0 }) joined_table tt overlapping)
    (entry 4 (Cover (low 15) 5) 256) (report 8 5 0) joined_table (λ x m. absurd (Memᴰ.not-nil m)) whole-cover
  where
    halves : (x : ℕ) → (x ≡ 3) ⊎ (x ∈ 5 ∷ []) → x ∈ 5 ∷ 3 ∷ 0 ∷ 1 ∷ []
    halves x (inl e) = Memᴰ.tail (Memᴰ.head e)
    halves x (inr m) = Memᴰ.head (Memᴰ.eq_of_singleton m)

joined_demanded : Demanded four_slots joined-calls joined_table
joined_demanded = demand3 four_slots joined-calls joined_table joined_history

-- each of its nodes is below an answer given
joined_needed : Needed joined-calls joined_table
joined_needed = no_spare_node four_slots joined-calls joined_table joined_history

abbrev joined-posting : ℕ → Posting
joined-posting k = get_or (ledger four_slots joined-calls) k (record { number = 0; set = no_timetable })

joined_posted : (k : ℕ) → k < 6 → joined-posting k ∈ ledger four_slots joined-calls
joined_posted k h = in_list (ledger four_slots joined-calls) k (record { number = 0; set = no_timetable }) h

-- the join and the cover of all items have one number: every cover of the four items is a union of one of {0, 2} and one of {1, 3}, and every such union covers them
whole-week : SameSet four_slots (joined-posting 0).set (joined-posting 1).set
whole-week = (joined_demanded.numbers (joined-posting 0) (joined-posting 1) (joined_posted 0 (omega arith)) (joined_posted 1 (omega arith))).0 refl
