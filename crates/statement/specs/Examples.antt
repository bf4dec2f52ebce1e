-- Document 01's examples P1 to P8, Figure 1 on items of three words, weeks with optional items, Figure 1 in other orders, joins, the closest and withdrawals, each as
-- one record; `proofs/Examples.antt` proves them by computation. Assumes nothing.
use Rattle.std.specs.Prelude.{◌≡◌, List, [], ◌∷◌, ℕ, ◌+◌, ◌-◌, ◌*◌, ◌/◌, ◌%◌, ◌^◌, replicate}
use Rattle.zdd.specs.Table.{Family, nodes_of}
use Rattle.zdd.specs.Operations.{join}
use Rattle.zdd.specs.Branches.{missing}
use Rattle.zdd.specs.Withdrawal.{withdrawn}
use Rattle.exact_cover.specs.Problem.{Problem, up_to}
use Rattle.exact_cover.specs.Cover.{keys_of, covering}
use Rattle.exact_cover.specs.Steps.{steps}
use Rattle.exact_cover.specs.Shortened.{shorten}
use Rattle.query.specs.Questions.{family_at, difference, closest}
use Rattle.statement.specs.declared.Call.TheVariants.{Join}
use Rattle.statement.specs.Refusals.{check_refusal, place_refusal, cheapest_refusal, closest_refusal, withdraw_refusal}
use Rattle.statement.specs.Calls.{call_refusal, cover_refusal}

-- all items below m
abbrev pub all_items : ℕ → ℕ
all_items m = 2 ^ m - 1

-- no packages, in the plain order of m items
abbrev pub no_packages : ℕ → Problem
no_packages m = record { packages = []; optional = 0; order = up_to m }

-- Figure 1 of document 000, numbered from 0: {0,1,2,4}, {0,1}, {3,5}, {2,3,5}, {2,4}; in an order of its items, and in the plain one
abbrev pub figure1_in : List ℕ → Problem
figure1_in order = record { packages = 0b010111 ∷ 0b000011 ∷ 0b101000 ∷ 0b101100 ∷ 0b010100 ∷ []; optional = 0; order = order }

abbrev pub figure1 : Problem
figure1 = figure1_in (up_to 6)

-- an empty table that has room for c nodes
abbrev pub empty_table : ℕ → List ℕ
empty_table c = replicate (1 + 3 * c) 0

pub record PaperExamples : Type 0 where
  -- M 0, N 0: one timetable, empty
  pub p1 : covering (no_packages 0) (all_items 0) ≡ [] ∷ []
  -- M 1, N 0: none
  pub p2 : covering (no_packages 1) (all_items 1) ≡ []
  -- packages {0}, {0}: two timetables, 0 then 1
  pub p3 : covering (record { packages = 1 ∷ 1 ∷ []; optional = 0; order = up_to 1 }) (all_items 1) ≡ (0 ∷ []) ∷ (1 ∷ []) ∷ []
  -- Figure 1: listing "0 2", "1 4 2"
  pub p4 : covering figure1 (all_items 6) ≡ (0 ∷ 2 ∷ []) ∷ (1 ∷ 4 ∷ 2 ∷ []) ∷ []
  -- the same, P = 64: 6 steps
  pub p5 : steps figure1 64 (all_items 6) ≡ 6
  -- P = 4: 7 steps
  pub p6 : steps figure1 4 (all_items 6) ≡ 7
  -- the same (16 working words are 4 places) needs 4 nodes; capacity 4 answers, 3 is full
  pub p7_needs : missing (nodes_of (empty_table 0)) (covering figure1 (all_items 6)) ≡ 4
  pub p7_answers : cover_refusal figure1 6 (empty_table 4) (all_items 6) 1000 16 ≡ 0
  pub p7_full : cover_refusal figure1 6 (empty_table 3) (all_items 6) 1000 16 ≡ 10
  -- B = 6 with P = 64, which is 256 words, answers; B = 5 is spent
  pub p8_answers : cover_refusal figure1 6 (empty_table 4) (all_items 6) 6 256 ≡ 0
  pub p8_spent : cover_refusal figure1 6 (empty_table 4) (all_items 6) 5 256 ≡ 9

-- Figure 1 with its items at 0, 1, 64, 65, 128 and 129: two in each word of a set. The first package straddles all three [document 02, No. 7]
abbrev pub wide_item : ℕ → ℕ
wide_item i = 2 ^ (64 * (i / 2) + i % 2)

abbrev pub wide_figure1 : Problem
wide_figure1 = record {
  packages =
      (wide_item 0 + wide_item 1 + wide_item 2 + wide_item 4)
      ∷ (wide_item 0 + wide_item 1)
      ∷ (wide_item 3 + wide_item 5)
      ∷ (wide_item 2 + wide_item 3 + wide_item 5)
      ∷ (wide_item 2 + wide_item 4)
      ∷ [];
  optional = 0;
  order = up_to 130;
}

abbrev pub wide_figure1_items : ℕ
wide_figure1_items = wide_item 0 + wide_item 1 + wide_item 2 + wide_item 3 + wide_item 4 + wide_item 5

pub record WideExamples : Type 0 where
  -- the same timetables
  pub lists : covering wide_figure1 wide_figure1_items ≡ (0 ∷ 2 ∷ []) ∷ (1 ∷ 4 ∷ 2 ∷ []) ∷ []
  -- the steps go by all three words of a set
  pub steps3 : steps wide_figure1 3 wide_figure1_items ≡ 7
  pub steps4 : steps wide_figure1 4 wide_figure1_items ≡ 7
  pub steps5 : steps wide_figure1 5 wide_figure1_items ≡ 6
  pub steps7 : steps wide_figure1 7 wide_figure1_items ≡ 6
  pub steps64 : steps wide_figure1 64 wide_figure1_items ≡ 7
  -- M 192 answers, 193 is oversize; with 3 working words 8, with 4 to 7 one place
  pub most : cover_refusal (no_packages 192) 192 (empty_table 0) 0 1 4 ≡ 0
  pub oversize : cover_refusal (no_packages 193) 193 (empty_table 0) 0 1 4 ≡ 1
  pub short : cover_refusal wide_figure1 130 (empty_table 4) wide_figure1_items 8 3 ≡ 8
  pub one_place : steps wide_figure1 1 wide_figure1_items ≡ 7
  pub four_words : cover_refusal wide_figure1 130 (empty_table 4) wide_figure1_items 7 4 ≡ 0
  pub seven_words : cover_refusal wide_figure1 130 (empty_table 4) wide_figure1_items 6 7 ≡ 9
  -- 15 words are 3 places, 20 are 5
  pub fifteen_words : cover_refusal wide_figure1 130 (empty_table 4) wide_figure1_items 6 15 ≡ 9
  pub twenty_words : cover_refusal wide_figure1 130 (empty_table 4) wide_figure1_items 6 20 ≡ 0
  -- an item of M or above in the highest word
  pub unknown-item : cover_refusal wide_figure1 130 (empty_table 4) (2 ^ 130) 7 7 ≡ 7

-- ---- optional items [document 02, No. 1]

-- packages {0}, {0,2}, {1,2}, {1}; item 2 is optional
abbrev pub public_slot : Problem
public_slot = record { packages = 0b001 ∷ 0b101 ∷ 0b110 ∷ 0b010 ∷ []; optional = 0b100; order = up_to 3 }

-- packages {1}, {0,2}; item 0 is optional, so the second package's lowest compulsory item is 2
abbrev pub late_first : Problem
late_first = record { packages = 0b010 ∷ 0b101 ∷ []; optional = 0b001; order = up_to 3 }

-- the same packages, each of them inside the optional set, which has an item above the packages'
abbrev pub all_public : Problem
all_public = record { packages = 0b010 ∷ 0b101 ∷ []; optional = 0b1111; order = up_to 4 }

pub record OptionalExamples : Type 0 where
  -- listing "0 2", "0 3", "1 3", 6 steps, 4 nodes. A memo by the compulsory items alone would take {1,2} for the {1} that was searched before: 4 steps, and
  -- "0 2" would be lost
  pub lists : covering public_slot 0b111 ≡ (0 ∷ 2 ∷ []) ∷ (0 ∷ 3 ∷ []) ∷ (1 ∷ 3 ∷ []) ∷ []
  pub steps6 : steps public_slot 64 0b111 ≡ 6
  pub nodes4 : missing (nodes_of (empty_table 0)) (covering public_slot 0b111) ≡ 4
  pub answers : cover_refusal public_slot 3 (empty_table 4) 0b111 6 256 ≡ 0
  pub spent : cover_refusal public_slot 3 (empty_table 4) 0b111 5 256 ≡ 9
  pub full : cover_refusal public_slot 3 (empty_table 3) 0b111 6 256 ≡ 10
  -- a timetable is written by the lowest compulsory items: "0 1"
  pub precedence : covering late_first 0b111 ≡ (0 ∷ 1 ∷ []) ∷ []
  -- D empty, or all of it optional: the empty timetable, in one step
  pub empty : covering public_slot 0 ≡ [] ∷ []
  pub empty-steps : steps public_slot 64 0 ≡ 1
  pub all-optional : covering public_slot 0b100 ≡ [] ∷ []
  pub all-optional-steps : steps public_slot 64 0b100 ≡ 1
  -- 29 before 30; 30 before 3 and 4
  pub stray-optional : check_refusal all_public 3 [] ≡ 29
  pub nothing-compulsory : check_refusal all_public 4 [] ≡ 30
  pub before_costs : cheapest_refusal all_public 4 [] [] 0 0 [] ≡ 30

-- ---- orders [document 02, No. 4]

abbrev pub reversed : List ℕ
reversed = 5 ∷ 4 ∷ 3 ∷ 2 ∷ 1 ∷ 0 ∷ []

-- item 2, which is in three packages, first
abbrev pub contested_first : List ℕ
contested_first = 2 ∷ 0 ∷ 1 ∷ 3 ∷ 4 ∷ 5 ∷ []

-- the table with Figure 1's answer in the plain order: the branch nodes 2 to 5, and 5 is the answer
abbrev pub figure1_table : List ℕ
figure1_table = 4 ∷ 2 ∷ 0 ∷ 1 ∷ 4 ∷ 0 ∷ 2 ∷ 1 ∷ 0 ∷ 3 ∷ 0 ∷ 4 ∷ 2 ∷ []

pub record OrderExamples : Type 0 where
  -- reversed, the packages with item 5 come first: listing "2 0", "2 4 1"
  pub lists : covering (figure1_in reversed) (all_items 6) ≡ (2 ∷ 0 ∷ []) ∷ (2 ∷ 4 ∷ 1 ∷ []) ∷ []
  -- item 2 first: P = 64, 7 and 4
  pub steps64 : steps (figure1_in contested_first) 64 (all_items 6) ≡ 7
  pub steps7 : steps (figure1_in contested_first) 7 (all_items 6) ≡ 8
  pub steps4 : steps (figure1_in contested_first) 4 (all_items 6) ≡ 8
  -- 34: an item twice, too short, too long, an item of M
  pub twice : check_refusal (figure1_in (0 ∷ 0 ∷ 2 ∷ 3 ∷ 4 ∷ 5 ∷ [])) 6 (empty_table 4) ≡ 34
  pub short : check_refusal (figure1_in (up_to 5)) 6 (empty_table 4) ≡ 34
  pub long : check_refusal (figure1_in (0 ∷ 1 ∷ 2 ∷ 3 ∷ 4 ∷ 5 ∷ 6 ∷ [])) 6 (empty_table 4) ≡ 34
  pub item-six : check_refusal (figure1_in (0 ∷ 1 ∷ 2 ∷ 3 ∷ 4 ∷ 6 ∷ [])) 6 (empty_table 4) ≡ 34
  -- with M 0 the empty order alone will do
  pub no_item : check_refusal (no_packages 0) 0 (empty_table 0) ≡ 0
  pub item-zero : check_refusal (no_packages 1) 0 (empty_table 0) ≡ 34
  -- 30 before 34; 34 before 3 and 4
  pub nothing-compulsory : check_refusal all_public 5 [] ≡ 30
  pub before_costs : cheapest_refusal (figure1_in (up_to 5)) 6 [] [] 0 0 [] ≡ 34
  pub costs : cheapest_refusal figure1 6 [] [] 0 0 [] ≡ 3
  pub before_table : check_refusal (figure1_in (up_to 5)) 6 [] ≡ 34
  pub table : check_refusal figure1 6 [] ≡ 4
  -- the places follow the order: "1 4 2" is a timetable in the plain one, the second, and out of precedence in the reversed one
  pub placed : place_refusal figure1 6 figure1_table 5 (1 ∷ 4 ∷ 2 ∷ []) 6 ≡ 0
  pub out_of_precedence : place_refusal (figure1_in reversed) 6 (empty_table 4) 1 (1 ∷ 4 ∷ 2 ∷ []) 2 ≡ 6
  -- and so does soundness
  pub plain-table : check_refusal figure1 6 figure1_table ≡ 0
  pub reversed-table : check_refusal (figure1_in reversed) 6 figure1_table ≡ 4

-- ---- join [document 02, No. 5]

-- packages {0}, {1}, {2}, {3}
abbrev pub four_slots : Problem
four_slots = record { packages = 0b0001 ∷ 0b0010 ∷ 0b0100 ∷ 0b1000 ∷ []; optional = 0; order = up_to 4 }

-- a table after the covers of {0, 2} and {1, 3}: 2 is {2}, 3 is {0, 2}, 4 is {3}, 5 is {1, 3}; behind it n free places
abbrev pub halves_table : ℕ → List ℕ
halves_table n = 4 ∷ 2 ∷ 0 ∷ 1 ∷ 0 ∷ 0 ∷ 2 ∷ 3 ∷ 0 ∷ 1 ∷ 1 ∷ 0 ∷ 4 ∷ replicate (3 * n) 0

-- packages {0, 2}, {1, 2}; item 2 is optional
abbrev pub shared_slot : Problem
shared_slot = record { packages = 0b101 ∷ 0b110 ∷ []; optional = 0b100; order = up_to 3 }

-- 2 is the first package's timetable, 3 the second's
abbrev pub shared_table : List ℕ
shared_table = 2 ∷ 0 ∷ 0 ∷ 1 ∷ 1 ∷ 0 ∷ 1 ∷ []

pub record JoinExamples : Type 0 where
  -- listing "0 1 2 3", 3 nodes made
  pub lists : join (keys_of four_slots) (family_at (halves_table 3) 3) (family_at (halves_table 3) 5) ≡ (0 ∷ 1 ∷ 2 ∷ 3 ∷ []) ∷ []
  pub nodes3 : missing (nodes_of (halves_table 3)) (join (keys_of four_slots) (family_at (halves_table 3) 3) (family_at (halves_table 3) 5)) ≡ 3
  pub answers : call_refusal four_slots 4 (halves_table 3) (Join 3 5) 6 ≡ 0
  pub full : call_refusal four_slots 4 (halves_table 2) (Join 3 5) 6 ≡ 10
  pub short : call_refusal four_slots 4 (halves_table 3) (Join 3 5) 5 ≡ 8
  -- with itself: 35 with no working words; 5 comes first
  pub itself : call_refusal four_slots 4 (halves_table 3) (Join 3 3) 0 ≡ 35
  pub below : call_refusal four_slots 4 (halves_table 3) (Join 3 2) 0 ≡ 35
  pub unknown : call_refusal four_slots 4 (halves_table 3) (Join 3 6) 0 ≡ 5
  -- a shared item is one though it is optional
  pub shared : call_refusal shared_slot 3 shared_table (Join 2 3) 0 ≡ 35
  -- 0 and 1 have no package, and take two words
  pub ends : call_refusal four_slots 4 (halves_table 3) (Join 1 1) 2 ≡ 0
  pub ends-short : call_refusal four_slots 4 (halves_table 3) (Join 0 1) 1 ≡ 8

-- ---- closest [document 02, No. 9]

-- two equal packages {0}, {0}, and the table with their answer: 2 is the second's timetable, and 3 has both
abbrev pub twins : Problem
twins = record { packages = 1 ∷ 1 ∷ []; optional = 0; order = up_to 1 }

abbrev pub twins_table : List ℕ
twins_table = 2 ∷ 1 ∷ 0 ∷ 1 ∷ 0 ∷ 2 ∷ 1 ∷ []

-- in Figure 1's answer: the closest to s is u, and they differ in d packages
pub record ClosestTo (s u : List ℕ) (d : ℕ) : Type 0 where
  pub nearest : closest s (family_at figure1_table 5) ≡ u
  pub by : difference s u ≡ d

-- the refusal of one that asks for it, with so many working words and places on the page
abbrev pub figure1_closest : List ℕ → ℕ → ℕ → ℕ
figure1_closest s words room = closest_refusal figure1 6 figure1_table 5 s words (replicate room 0)

pub record ClosestExamples : Type 0 where
  -- to nothing: the one with fewer packages
  pub to-nothing : ClosestTo [] (0 ∷ 2 ∷ []) 2
  -- to a part of one, and to all of it
  pub to_part : ClosestTo (1 ∷ 4 ∷ []) (1 ∷ 4 ∷ 2 ∷ []) 1
  pub to_member : ClosestTo (1 ∷ 4 ∷ 2 ∷ []) (1 ∷ 4 ∷ 2 ∷ []) 0
  -- to a package of neither: it counts against both
  pub to_stranger : ClosestTo (3 ∷ []) (0 ∷ 2 ∷ []) 3
  -- to two packages that share items
  pub to_overlapping : ClosestTo (0 ∷ 1 ∷ []) (0 ∷ 2 ∷ []) 2
  pub overlapping : figure1_closest (0 ∷ 1 ∷ []) 6 2 ≡ 0
  -- of two that differ in as many the first listed
  pub tie : closest [] (family_at twins_table 3) ≡ 0 ∷ []
  pub tie_by : difference [] (0 ∷ []) ≡ difference [] (1 ∷ [])
  pub tie_table : closest_refusal twins 1 twins_table 3 [] 4 (0 ∷ []) ≡ 0
  -- the answer 1 has the empty timetable alone, and an empty page will do
  pub empty : closest (0 ∷ []) (family_at figure1_table 1) ≡ []
  pub empty_by : difference (0 ∷ []) [] ≡ 1
  pub empty_page : closest_refusal figure1 6 figure1_table 1 (0 ∷ []) 2 [] ≡ 0
  -- 6: out of precedence, repeating, an unknown package. It is said with no working words; 5 comes first
  pub out_of_precedence : figure1_closest (2 ∷ 0 ∷ []) 6 2 ≡ 6
  pub repeating : figure1_closest (0 ∷ 0 ∷ []) 6 2 ≡ 6
  pub an_unknown_package : figure1_closest (5 ∷ []) 6 2 ≡ 6
  pub before_words : figure1_closest (2 ∷ 0 ∷ []) 0 2 ≡ 6
  pub unknown : closest_refusal figure1 6 figure1_table 6 (2 ∷ 0 ∷ []) 0 [] ≡ 5
  -- precedence goes by the order
  pub plain : closest_refusal figure1 6 (empty_table 4) 1 (1 ∷ 4 ∷ []) 2 [] ≡ 0
  pub reversed : closest_refusal (figure1_in reversed) 6 (empty_table 4) 1 (1 ∷ 4 ∷ []) 2 [] ≡ 6
  -- a working words are one too few
  pub short : figure1_closest [] 5 2 ≡ 8
  pub enough : figure1_closest [] 6 2 ≡ 0
  -- 13 for the answer 0, behind 8
  pub nothing-short : closest_refusal figure1 6 figure1_table 0 [] 0 [] ≡ 8
  pub nothing : closest_refusal figure1 6 figure1_table 0 [] 1 [] ≡ 13
  -- the page goes by what is written, not by what is given
  pub a_short_page : figure1_closest (1 ∷ 4 ∷ []) 6 2 ≡ 15
  pub page : figure1_closest (1 ∷ 4 ∷ []) 6 3 ≡ 0

-- ---- withdrawals [document 02, No. 8]

-- three equal packages {0}, {0}, {0}, and a table with their cover, 4, and of it those without 2, which are 6, and those without 1, which are 7
abbrev pub three_alike : Problem
three_alike = record { packages = 1 ∷ 1 ∷ 1 ∷ []; optional = 0; order = up_to 1 }

abbrev pub three_table : List ℕ
three_table = 6 ∷ 2 ∷ 0 ∷ 1 ∷ 1 ∷ 2 ∷ 1 ∷ 0 ∷ 3 ∷ 1 ∷ 1 ∷ 0 ∷ 1 ∷ 0 ∷ 5 ∷ 1 ∷ 0 ∷ 2 ∷ 1 ∷ []

-- its family and what is left of it where 1 and 2 are withdrawn
pub record LeftOf (a : ℕ) (F G : Family) : Type 0 where
  pub held : family_at three_table a ≡ F
  pub left : withdrawn (1 ∷ 2 ∷ []) (family_at three_table a) ≡ G

-- the refusal of one that withdraws gone, with the answers and so many working words
abbrev pub three_withdraw : List ℕ → List ℕ → ℕ → ℕ
three_withdraw gone answers words = withdraw_refusal three_alike 1 three_table gone answers words

pub record WithdrawExamples : Type 0 where
  -- three answers become one
  pub cover : LeftOf 4 ((0 ∷ []) ∷ (1 ∷ []) ∷ (2 ∷ []) ∷ []) ((0 ∷ []) ∷ [])
  pub without_2 : LeftOf 6 ((0 ∷ []) ∷ (1 ∷ []) ∷ []) ((0 ∷ []) ∷ [])
  pub without_1 : LeftOf 7 ((0 ∷ []) ∷ (2 ∷ []) ∷ []) ((0 ∷ []) ∷ [])
  -- which a cover of the shortened problem makes
  pub shorter : (shorten three_alike (1 ∷ 2 ∷ [])).packages ≡ 1 ∷ []
  pub again : covering (shorten three_alike (1 ∷ 2 ∷ [])) 1 ≡ (0 ∷ []) ∷ []
  -- the packages that remain are renumbered: without 0, "1" is "0" and "2" is "1"; of Figure 1's "0 2" and "1 4 2" the second is left, as "0 3 1"
  pub renumbered : withdrawn (0 ∷ []) (family_at three_table 4) ≡ (0 ∷ []) ∷ (1 ∷ []) ∷ []
  pub figure : withdrawn (0 ∷ []) (family_at figure1_table 5) ≡ (0 ∷ 3 ∷ 1 ∷ []) ∷ []
  pub figure_again : covering (shorten figure1 (0 ∷ [])) (all_items 6) ≡ (0 ∷ 3 ∷ 1 ∷ []) ∷ []
  -- all are withdrawn, or none
  pub all : withdrawn (0 ∷ 1 ∷ 2 ∷ []) (family_at three_table 4) ≡ []
  pub none : withdrawn [] (family_at three_table 4) ≡ family_at three_table 4
  -- n + 2 working words answer, one fewer does not; with no answer in use too
  pub answers : three_withdraw (1 ∷ 2 ∷ []) (4 ∷ 6 ∷ 7 ∷ []) 8 ≡ 0
  pub short : three_withdraw (1 ∷ 2 ∷ []) (4 ∷ 6 ∷ 7 ∷ []) 7 ≡ 8
  pub nothing-used : three_withdraw [] [] 8 ≡ 0
  -- 36: falling, repeating, an unknown package. It is said with no working words; 5 comes first, and looks at each answer
  pub falling : three_withdraw (2 ∷ 1 ∷ []) (4 ∷ []) 0 ≡ 36
  pub repeating : three_withdraw (1 ∷ 1 ∷ []) (4 ∷ []) 0 ≡ 36
  pub an_unknown_package : three_withdraw (1 ∷ 3 ∷ []) (4 ∷ []) 8 ≡ 36
  pub unknown : three_withdraw (2 ∷ 1 ∷ []) (4 ∷ 8 ∷ []) 0 ≡ 5
  -- 34 and 4 come before it
  pub disordered : withdraw_refusal (record { packages = 1 ∷ []; optional = 0; order = [] }) 1 [] (1 ∷ []) (2 ∷ []) 0 ≡ 34
  pub spoilt : withdraw_refusal three_alike 1 [] (2 ∷ 1 ∷ []) (2 ∷ []) 0 ≡ 4
