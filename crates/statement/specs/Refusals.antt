-- When each call is refused. A call's refusal is the number of the first test of its list that holds, 0 for none: each list is document 01's table
-- read down, with the lines that concern the call and those of document 02: behind 2 No. 1's and 4's, in the place of 6 No. 8's, behind 7 No. 5's. The calls that make an answer have theirs in `Calls`. Q
-- is the problem, m is M, t has the table's words, and `words` is the number of working words. Assumes nothing.
use Rattle.std.specs.Prelude.{◌≡◌, Bool, true, false, not, ◌&&◌, ◌||◌, List, [], ◌∷◌, ℕ, ◌+◌, ◌/◌, eqb, leb, ltb, length}
use Rattle.base.specs.Lists.{any}
use Rattle.itemset.specs.Items.{belowb, apartb}
use Rattle.itemset.specs.Words.{width}
use Rattle.zdd.specs.Table.{Family, count, nodes_of, elem, soundb}
use Rattle.zdd.specs.Below.{labels_below}
use Rattle.zdd.specs.Branches.{no_room}
use Rattle.exact_cover.specs.Problem.{Problem, row, each_once, done}
use Rattle.exact_cover.specs.Cover.{keys_of}
use Rattle.exact_cover.specs.Steps.{steps}
use Rattle.exact_cover.specs.Shortened.{rising}
use Rattle.query.specs.Questions.{family_at, nth, cheapest, closest, any_unknown, ascending}

unfoldable pub first_of : List (Bool × ℕ) → ℕ
first_of [] = 0
first_of (t ∷ ts) = elim t.0 [ true ↦ t.1 | false ↦ first_of ts ]

-- ---- the tests, by their numbers

-- 1 oversize: M above 192 or N above 512
unfoldable pub oversize : ℕ → List ℕ → Bool
oversize m packages = ltb width m || ltb 512 (length packages)

-- 2 stray: an empty package, or an item of M or above in one
abbrev pub stray_package : ℕ → ℕ → Bool
stray_package m x = eqb x 0 || not (belowb x m)

unfoldable pub stray : ℕ → List ℕ → Bool
stray m packages = any (stray_package m) packages

-- 29: an optional item of M or above [document 02, No. 1]
unfoldable pub stray_optional : ℕ → Problem → Bool
stray_optional m Q = not (belowb Q.optional m)

-- 30: a package without a compulsory item
unfoldable pub nothing_compulsory : Problem → Bool
nothing_compulsory Q = any (done Q) Q.packages

-- 34: the order is not each item just once: it is not M long, or some item below M is not in it just once [document 02, No. 4]
unfoldable pub disordered : ℕ → List ℕ → Bool
disordered m order = not (eqb (length order) m && each_once m order)

-- 3 cost list: its length is not N
unfoldable pub unpriced : Problem → List ℕ → Bool
unpriced Q C = not (eqb (length C) (length Q.packages))

-- 4 spoilt: the table is not sound
unfoldable pub unsound : Problem → List ℕ → Bool
unsound Q t = not (soundb (keys_of Q) t)

-- 5 unknown answer: an operand of n + 2 or more
unfoldable pub unknown_answer : List ℕ → ℕ → Bool
unknown_answer t a = leb (count t + 2) a

-- 6 unknown package: p of N or more is `unknown_package` of `query`. In place and closest: a package of N or more in the list, or the list out of precedence or
-- repeating, so that some package does not come before the next
unfoldable pub not_timetable : Problem → List ℕ → Bool
not_timetable Q s = any_unknown Q.packages s || not (ascending (keys_of Q) s)

-- 36: the list of withdrawn packages is repeating or not rising, or has an unknown package [document 02, No. 8]
unfoldable pub not_rising : Problem → List ℕ → Bool
unfolding rising
not_rising Q gone = any_unknown Q.packages gone || not (rising gone)

-- 7 unknown item: D has an item of M or above
unfoldable pub unknown_item : ℕ → ℕ → Bool
unknown_item m d = not (belowb d m)

-- 35 overlap: some package on a node below the answer a, its own node included, shares an item with one below b; optional items are items too. Below 0 and 1
-- there is no node [document 02, No. 5]
unfoldable pub overlap : Problem → List ℕ → ℕ → ℕ → Bool
overlap Q t a b = any (λ p. any (λ q. not (apartb (row Q p) (row Q q))) (labels_below (nodes_of t) b)) (labels_below (nodes_of t) a)

-- 8 short work: fewer working words than the call's least
unfoldable pub short_work : ℕ → ℕ → Bool
short_work least words = ltb words least

-- how many places the memo of cover has: four working words are one, three of a set and one of its answer [document 02, No. 7]
abbrev pub places : ℕ → ℕ
places words = words / 4

-- 9 spent: steps above B, with a memo of as many places as the working words are
unfoldable pub spent : Problem → ℕ → ℕ → ℕ → Bool
spent Q d limit words = ltb limit (steps Q (places words) d)

-- 10 full: the branch nodes of the answer F that are not yet in the table outnumber the free places
unfoldable pub full : List ℕ → Family → Bool
full t F = no_room t F

-- 11 uncountable: more than 18446744073709551615 timetables
unfoldable pub uncountable : Family → Bool
uncountable F = ltb 18446744073709551615 (length F)

-- 12 past the end: k at or above the count
unfoldable pub past_end : Family → ℕ → Bool
past_end F k = leb (length F) k

-- 13 nothing: the answer 0
unfoldable pub nothing : ℕ → Bool
nothing a = eqb a 0

-- 14 absent: the timetable is not in the answer
unfoldable pub absent : Family → List ℕ → Bool
absent F s = not (elem s F)

-- 15 short page: the timetable is longer than the page
unfoldable pub short_page : List ℕ → List ℕ → Bool
short_page page s = ltb (length page) (length s)

-- ---- what every call tests first, in front of its own tests

-- 1 and 2, 29 and 30, 34: the packages, the optional set and the order
abbrev pub package_tests : Problem → ℕ → List (Bool × ℕ) → List (Bool × ℕ)
package_tests Q m ts =
    (oversize m Q.packages, 1) ∷
    (stray m Q.packages, 2) ∷
    (stray_optional m Q, 29) ∷
    (nothing_compulsory Q, 30) ∷
    (disordered m Q.order, 34) ∷
    ts

-- and 4: the table
abbrev pub table_tests : Problem → ℕ → List ℕ → List (Bool × ℕ) → List (Bool × ℕ)
table_tests Q m t ts = package_tests Q m ((unsound Q t, 4) ∷ ts)

-- and 5: of a call that reads the answer a
abbrev pub open_tests : (Q : Problem) (m : ℕ) (t : List ℕ) (a : ℕ) → List (Bool × ℕ)
open_tests Q m t a = table_tests Q m t ((unknown_answer t a, 5) ∷ [])

-- and 6 and 8: of one that is lent the list s of packages
abbrev pub list_tests : (Q : Problem) (m : ℕ) (t : List ℕ) (a : ℕ) (s : List ℕ) (words : ℕ) → List (Bool × ℕ)
list_tests Q m t a s words = table_tests Q m t ((unknown_answer t a, 5) ∷ (not_timetable Q s, 6) ∷ (short_work (a + 1) words, 8) ∷ [])

-- of one that is lent the costs C, 3 in its place
abbrev pub priced_tests : (Q : Problem) (m : ℕ) (C t : List ℕ) (a : ℕ) → List (Bool × ℕ)
priced_tests Q m C t a = package_tests Q m ((unpriced Q C, 3) ∷ (unsound Q t, 4) ∷ (unknown_answer t a, 5) ∷ [])

-- none of 1, 2, 29, 30 and 34 applies
pub record Fit (Q : Problem) (m : ℕ) : Type 0 where
  pub sized : oversize m Q.packages ≡ false
  pub clean : stray m Q.packages ≡ false
  pub known : stray_optional m Q ≡ false
  pub due : nothing_compulsory Q ≡ false
  pub ordered : disordered m Q.order ≡ false

-- ---- the questions

unfoldable pub check_refusal : (Q : Problem) (m : ℕ) (t : List ℕ) → ℕ
check_refusal Q m t = first_of (table_tests Q m t [])

unfoldable pub count_refusal : (Q : Problem) (m : ℕ) (t : List ℕ) (a words : ℕ) → ℕ
count_refusal Q m t a words =
    first_of (table_tests Q m t (
    (unknown_answer t a, 5) ∷
    (short_work (a + 1) words, 8) ∷
    (uncountable (family_at t a), 11) ∷
    []))

unfoldable pub pick_refusal : (Q : Problem) (m : ℕ) (t : List ℕ) (a k words : ℕ) (page : List ℕ) → ℕ
pick_refusal Q m t a k words page =
    first_of (table_tests Q m t (
    (unknown_answer t a, 5) ∷
    (short_work (a + 1) words, 8) ∷
    (uncountable (family_at t a), 11) ∷
    (past_end (family_at t a) k, 12) ∷
    (short_page page (nth (family_at t a) k), 15) ∷
    []))

-- pick's tests but 15 [document 02, No. 3]
abbrev pub measure_tests : (Q : Problem) (m : ℕ) (t : List ℕ) (a k words : ℕ) → List (Bool × ℕ)
measure_tests Q m t a k words =
    table_tests Q m t (
    (unknown_answer t a, 5) ∷ (short_work (a + 1) words, 8) ∷ (uncountable (family_at t a), 11) ∷ (past_end (family_at t a) k, 12) ∷ [])

unfoldable pub measure_refusal : (Q : Problem) (m : ℕ) (t : List ℕ) (a k words : ℕ) → ℕ
measure_refusal Q m t a k words = first_of (measure_tests Q m t a k words)

-- s is the list of packages whose place is asked
unfoldable pub place_refusal : (Q : Problem) (m : ℕ) (t : List ℕ) (a : ℕ) (s : List ℕ) (words : ℕ) → ℕ
place_refusal Q m t a s words =
    first_of (table_tests Q m t (
    (unknown_answer t a, 5) ∷
    (not_timetable Q s, 6) ∷
    (short_work (a + 1) words, 8) ∷
    (uncountable (family_at t a), 11) ∷
    (absent (family_at t a) s, 14) ∷
    []))

-- C has the costs: 3 stands between the tests of the packages and of the table. The least working words are a + 1 [document 02, No. 10]
unfoldable pub cheapest_refusal : (Q : Problem) (m : ℕ) (C : List ℕ) (t : List ℕ) (a words : ℕ) (page : List ℕ) → ℕ
cheapest_refusal Q m C t a words page =
    first_of (package_tests Q m (
    (unpriced Q C, 3) ∷
    (unsound Q t, 4) ∷
    (unknown_answer t a, 5) ∷
    (short_work (a + 1) words, 8) ∷
    (nothing a, 13) ∷
    (short_page page (cheapest C (family_at t a)), 15) ∷
    []))

-- s is the given timetable. Nothing is counted, so there is no 11 [document 02, No. 9]
unfoldable pub closest_refusal : (Q : Problem) (m : ℕ) (t : List ℕ) (a : ℕ) (s : List ℕ) (words : ℕ) (page : List ℕ) → ℕ
closest_refusal Q m t a s words page =
    first_of (table_tests Q m t (
    (unknown_answer t a, 5) ∷
    (not_timetable Q s, 6) ∷
    (short_work (a + 1) words, 8) ∷
    (nothing a, 13) ∷
    (short_page page (closest s (family_at t a)), 15) ∷
    []))

-- ---- the withdrawal

-- gone lists the withdrawn packages, answers the answers still in use: 5 looks at each of them. The least working words are n + 2 [document 02, No. 8]
unfoldable pub withdraw_refusal : (Q : Problem) (m : ℕ) (t gone answers : List ℕ) (words : ℕ) → ℕ
withdraw_refusal Q m t gone answers words =
    first_of (table_tests Q m t (
    (any (unknown_answer t) answers, 5) ∷
    (not_rising Q gone, 36) ∷
    (short_work (count t + 2) words, 8) ∷
    []))
