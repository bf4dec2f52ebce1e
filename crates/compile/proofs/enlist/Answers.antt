use Rattle.compile.proofs.TopLaws.{built_more}
use Rattle.exact_cover.proofs.Lead.{open_due}
use Rattle.exact_cover.proofs.Permuted.{plain-lead}
use Rattle.exact_cover.proofs.Listing.{wide as wide-set}
use Rattle.exact_cover.specs.Problem.{Problem, row}
use Rattle.exact_cover.specs.Positions.{in_plain_order}
use Rattle.itemset.proofs.Lists.{width_is}
use Rattle.itemset.specs.Items.{lowest, without}
use Rattle.itemset.specs.Words.{width, value_of, sets_of}
use lib.ListN.{length}
use native.Mathlib.Omega.{arith}
use Prim.Native.Nat.{ℕ, ◌%◌, ◌^◌, ◌<◌}
use mathlib.Core.Path.{sym, ap, ◌∙◌}
use Rattle.compile.proofs.enlist.Goals as goal

pub lowest_compulsory-low-requires : goal.lowest_compulsory-low-requires
lowest_compulsory-low-requires c = let l : c.loop-k.k < length (sets_of c.args.packs.now) = omega (arith, c.number-n.ensures, c.loop-k-test.true) in
    rw c.items.ensures (open_due (in_plain_order (sets_of c.args.packs.now) (value_of c.args.optional.now)) _ (c.requires.rows.some c.loop-k.k l))

pub insert-requires : goal.insert-requires
insert-requires c = (
  omega (arith, width_is, c.lowest_compulsory-low.ensures.upper_bound),
  omega (arith, c.loop-k.invariant.long, c.requires.rows.few, c.number-n.ensures, c.loop-k-test.true),
)

pub loop-k-preserved : goal.loop-k-preserved
loop-k-preserved c = let Q : Problem = in_plain_order (sets_of c.args.packs.now) (value_of c.args.optional.now) in
    let l : c.loop-k.k < length Q.packages = omega (arith, c.number-n.ensures, c.loop-k-test.true) in
    let small : row Q c.loop-k.k < 2 ^ width = wide-set c.requires.rows (c.requires.rows.inside c.loop-k.k l) in
    rw c.insert.ensures
    (built_more c.loop-k.k c.lowest_compulsory-low.result c.place.result c.requires.rows l (omega (arith, width_is, c.lowest_compulsory-low.ensures.upper_bound))
    (c.lowest_compulsory-low.ensures.value ∙ ap (λ (x : ℕ). lowest (without x (value_of c.args.optional.now))) c.items.ensures
    ∙ sym (plain-lead Q.packages Q.optional (row Q c.loop-k.k) small (c.requires.rows.some c.loop-k.k l)))
    (c.place.ensures ∙ ap (λ (x : ℕ). x % c.args.places) c.items-x.ensures) c.loop-k.invariant)
