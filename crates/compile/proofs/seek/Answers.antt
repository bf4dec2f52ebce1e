use Rattle.compile.proofs.TopLaws.{blank, lent_problem, cleared_held, sought-ran}
use Rattle.base.proofs.Wiping.{zeros}
use Rattle.zdd.specs.Table.{Sound}
use Rattle.exact_cover.proofs.Permuted.{keys-permuted, rows-permuted}
use Rattle.exact_cover.specs.Problem.{Problem, problem_of, Rows}
use Rattle.exact_cover.specs.Cover.{keys_of}
use Rattle.itemset.specs.Words.{value}
use Prim.Native.Nat.{ℕ}
use mathlib.Core.Path.{refl, ap, ◌∙◌, subst⁻¹}
use mathlib.Core.Bool.{false}
use mathlib.Core.List.{List}
use Rattle.compile.proofs.seek.Goals as goal

pub invert-requires-clause-by_index : goal.invert-requires-clause-by_index
invert-requires-clause-by_index c = zeros 192

pub enlist-requires-clause-rows : goal.enlist-requires-clause-rows
enlist-requires-clause-rows c = let Q : Problem = problem_of c.args.packages.now (value c.args.optional) c.args.order.now in
    let lent = lent_problem Q c.in_positions.new.packs c.number-words.ensures c.in_positions.ensures.packs_after c.positions-public.ensures in
    subst⁻¹ Rows lent (rows-permuted Q c.requires.rows)

pub enlist-requires-clause-no_packs : goal.enlist-requires-clause-no_packs
enlist-requires-clause-no_packs c = blank 706 refl

pub begin-requires-clause-searchable : goal.begin-requires-clause-searchable
begin-requires-clause-searchable c = let Q : Problem = problem_of c.args.packages.now (value c.args.optional) c.args.order.now in
    let lent = lent_problem Q c.in_positions.new.packs c.number-words.ensures c.in_positions.ensures.packs_after c.positions-public.ensures in record {
      sound = subst⁻¹ (λ (K : List ℕ). Sound K c.args.t.now) (ap keys_of lent ∙ keys-permuted Q c.requires.rows) c.requires.sound;
      indexed = c.requires.indexed;
      held = cleared_held c.clear.ensures _ c.args.t.now false c.requires.places_nonzero.0 c.requires.places_nonzero.1;
    }

pub returns : goal.returns
returns c = let Q : Problem = problem_of c.args.packages.now (value c.args.optional) c.args.order.now in
    let lent = lent_problem Q c.in_positions.new.packs c.number-words.ensures c.in_positions.ensures.packs_after c.positions-public.ensures in
    sought-ran c.requires.rows (value c.args.items) c.requires.bound c.invert.ensures c.requires.places_nonzero.0 _ c.enlist.ensures.home _ _ _ _ _ c.clear.ensures
    lent c.place-at.ensures c.positions-goal.ensures c.begin.result c.begin.ensures
