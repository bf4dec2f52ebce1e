-- THEOREM: document 01's examples P1 to P8, Figure 1 on items of three words, weeks with optional items, Figure 1 in other orders, joins, the closest and withdrawals, by
-- computation from the definitions. P1 to P8 are computed from document 01's own definitions, and hold by the laws for the empty optional set and the plain order
-- (`NoneOptional`, here and in `exact_cover`). Assumes nothing.
use mathlib.Core.Path.{◌≡◌, refl, ap}
use mathlib.Core.List.{[], ◌∷◌}
use Prim.Native.Nat.{ℕ}
use native.Mathlib.Omega.{arith}
use Rattle.base.specs.Lists.{any}
use Rattle.itemset.specs.Items.{holds, insideb, without, apartb, belowb, size, lowest}
use Rattle.itemset.specs.Words.{width}
use Rattle.zdd.specs.Table.{nodes_of, capacity, families, family, order, all_sets, sets, filter, soundb, eq_set, elem, has}
use Rattle.zdd.specs.Operations.{within, is_union, unites, join}
use Rattle.zdd.specs.Below.{new_below, labels_below}
use Rattle.zdd.specs.Branches.{starting, others, weight, branches_to, branches, eq_family, amongb, fresh, missing}
use Rattle.zdd.specs.Withdrawal.{free, rank, withdrawn}
use Rattle.exact_cover.specs.Problem.{Problem, earliest, times, each_once, count_from, lead, done, Rows}
use Rattle.exact_cover.specs.Cover.{keys_from, keys_of, holders, all_inside, takes, once, covers, covering, fits, down, candidates}
use Rattle.exact_cover.specs.Steps.{each, visit, steps}
use Rattle.exact_cover.specs.Shortened.{rising, remain_from, remaining, shorten}
use Rattle.exact_cover.proofs.NoneOptional.{none_optional, keys_from01, keys01, once01, covers01, covering01, fits01, candidates01, visit01, steps01}
use Rattle.exact_cover.proofs.NoneOptional.{covering_as_before, steps_as_before}
use Rattle.query.specs.Questions.{none_below, least, lacking, difference, unknown_package, any_unknown, ascending}
use Rattle.statement.specs.Refusals.{first_of, package_tests, oversize, stray, stray_optional, nothing_compulsory, disordered, unsound, unknown_item}
use Rattle.statement.specs.Refusals.{unpriced, unknown_answer, overlap, not_timetable, short_work, spent, full, uncountable, absent}
use Rattle.statement.specs.Refusals.{nothing, short_page, not_rising, check_refusal, place_refusal, cheapest_refusal, closest_refusal, withdraw_refusal}
use Rattle.statement.specs.Calls.{call_refusal}
use Rattle.statement.specs.Examples.{all_items, no_packages, figure1, empty_table, PaperExamples, WideExamples, OptionalExamples, OrderExamples, JoinExamples, ClosestExamples}
use Rattle.statement.specs.Examples.{WithdrawExamples}
use Rattle.statement.proofs.Admission.{fit_of, rows}
use Rattle.statement.proofs.NoneOptional.{refusals_as_before}

-- packages that no test refuses
searchable : (Q : Problem) (m : ℕ) → first_of (package_tests Q m []) ≡ 0 → Rows Q
searchable Q m e = rows (fit_of {Q = Q} {m = m} [] e).0

-- P1 to P8
pub paper_examples : PaperExamples
unfolding holds insideb without belowb size lowest done count_from times each_once nodes_of capacity families order all_sets sets filter soundb eq_set
    starting others weight branches_to branches eq_family amongb fresh missing keys_from01 keys01 holders all_inside once01 width covers01 covering01 fits01 down
    candidates01 each visit01 steps01 first_of oversize any stray stray_optional nothing_compulsory disordered unknown_item short_work full
paper_examples = record {
  p1 = covering_as_before 0 [] (searchable (no_packages 0) 0 refl) (all_items 0);
  p2 = covering_as_before 1 [] (searchable (no_packages 1) 1 refl) (all_items 1);
  p3 = covering_as_before 1 (1 ∷ 1 ∷ []) (searchable (none_optional 1 (1 ∷ 1 ∷ [])) 1 refl) (all_items 1);
  p4 = covering_as_before 6 figure1.packages (searchable figure1 6 refl) (all_items 6);
  p5 = steps_as_before 6 figure1.packages 64 (all_items 6) (omega arith);
  p6 = steps_as_before 6 figure1.packages 4 (all_items 6) (omega arith);
  p7_needs = ap (missing (nodes_of (empty_table 0))) (covering_as_before 6 figure1.packages (searchable figure1 6 refl) (all_items 6));
  p7_answers = (refusals_as_before figure1.packages 6).cover (empty_table 4) (all_items 6) 1000 16;
  p7_full = (refusals_as_before figure1.packages 6).cover (empty_table 3) (all_items 6) 1000 16;
  p8_answers = (refusals_as_before figure1.packages 6).cover (empty_table 4) (all_items 6) 6 256;
  p8_spent = (refusals_as_before figure1.packages 6).cover (empty_table 4) (all_items 6) 5 256;
}

pub wide_examples : WideExamples
unfolding holds insideb without belowb size lead earliest done count_from times each_once nodes_of capacity families order all_sets sets filter soundb eq_set
    starting others weight branches_to branches eq_family amongb fresh missing keys_from keys_of holders all_inside takes once width covers covering fits down
    candidates each visit steps first_of oversize any stray stray_optional nothing_compulsory disordered unsound unknown_item short_work spent full
wide_examples = record {
  lists = refl;
  steps3 = refl;
  steps4 = refl;
  steps5 = refl;
  steps7 = refl;
  steps64 = refl;
  most = refl;
  oversize = refl;
  short = refl;
  one_place = refl;
  four_words = refl;
  seven_words = refl;
  fifteen_words = refl;
  twenty_words = refl;
  unknown-item = refl;
}

pub optional_examples : OptionalExamples
unfolding holds insideb without belowb size lead earliest done count_from times each_once nodes_of capacity families order all_sets sets filter soundb eq_set
    starting others weight branches_to branches eq_family amongb fresh missing keys_from keys_of holders all_inside takes once width covers covering fits down
    candidates each visit steps first_of oversize any stray stray_optional nothing_compulsory disordered unsound unknown_item short_work spent full check_refusal cheapest_refusal
optional_examples = record {
  lists = refl;
  steps6 = refl;
  nodes4 = refl;
  answers = refl;
  spent = refl;
  full = refl;
  precedence = refl;
  empty = refl;
  empty-steps = refl;
  all-optional = refl;
  all-optional-steps = refl;
  stray-optional = refl;
  nothing-compulsory = refl;
  before_costs = refl;
}

pub order_examples : OrderExamples
unfolding holds insideb without belowb size lead earliest done count_from times each_once nodes_of capacity families family order all_sets sets filter soundb eq_set elem
    keys_from keys_of holders all_inside takes once width covers covering fits down candidates each visit steps unknown_package any_unknown ascending
    first_of oversize any stray stray_optional nothing_compulsory disordered unpriced unsound unknown_answer not_timetable short_work uncountable absent
    check_refusal place_refusal cheapest_refusal
order_examples = record {
  lists = refl;
  steps64 = refl;
  steps7 = refl;
  steps4 = refl;
  twice = refl;
  short = refl;
  long = refl;
  item-six = refl;
  no_item = refl;
  item-zero = refl;
  nothing-compulsory = refl;
  before_costs = refl;
  costs = refl;
  before_table = refl;
  table = refl;
  placed = refl;
  out_of_precedence = refl;
  plain-table = refl;
  reversed-table = refl;
}

pub join_examples : JoinExamples
unfolding holds insideb without apartb belowb lead earliest done count_from times each_once nodes_of capacity families family order all_sets sets filter soundb eq_set elem has
    any within is_union unites join new_below labels_below starting others weight branches_to branches eq_family amongb fresh missing keys_from keys_of width
    first_of oversize stray stray_optional nothing_compulsory disordered unsound unknown_answer overlap short_work full call_refusal
join_examples = record {
  lists = refl;
  nodes3 = refl;
  answers = refl;
  full = refl;
  short = refl;
  itself = refl;
  below = refl;
  unknown = refl;
  shared = refl;
  ends = refl;
  ends-short = refl;
}

pub closest_examples : ClosestExamples
unfolding holds insideb without belowb lead earliest done count_from times each_once nodes_of capacity families family order all_sets sets filter soundb eq_set elem has
    any keys_from keys_of width none_below least lacking difference unknown_package any_unknown ascending
    first_of oversize stray stray_optional nothing_compulsory disordered unsound unknown_answer not_timetable short_work nothing short_page closest_refusal
closest_examples = record {
  to-nothing = record { nearest = refl; by = refl };
  to_part = record { nearest = refl; by = refl };
  to_member = record { nearest = refl; by = refl };
  to_stranger = record { nearest = refl; by = refl };
  to_overlapping = record { nearest = refl; by = refl };
  overlapping = refl;
  tie = refl;
  tie_by = refl;
  tie_table = refl;
  empty = refl;
  empty_by = refl;
  empty_page = refl;
  out_of_precedence = refl;
  repeating = refl;
  an_unknown_package = refl;
  before_words = refl;
  unknown = refl;
  plain = refl;
  reversed = refl;
  short = refl;
  enough = refl;
  nothing-short = refl;
  nothing = refl;
  a_short_page = refl;
  page = refl;
}

pub withdraw_examples : WithdrawExamples
unfolding holds insideb without belowb lead earliest done count_from times each_once nodes_of capacity families family order all_sets sets filter soundb has free rank
    withdrawn remain_from remaining shorten any keys_from keys_of holders all_inside takes once width covers covering unknown_package any_unknown
    first_of oversize stray stray_optional nothing_compulsory disordered unsound unknown_answer rising not_rising short_work withdraw_refusal
withdraw_examples = record {
  cover = record { held = refl; left = refl };
  without_2 = record { held = refl; left = refl };
  without_1 = record { held = refl; left = refl };
  shorter = refl;
  again = refl;
  renumbered = refl;
  figure = refl;
  figure_again = refl;
  all = refl;
  none = refl;
  answers = refl;
  short = refl;
  nothing-used = refl;
  falling = refl;
  repeating = refl;
  an_unknown_package = refl;
  unknown = refl;
  disordered = refl;
  spoilt = refl;
}
