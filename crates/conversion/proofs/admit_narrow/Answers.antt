use Prim.Native.Nat.{◌-◌, ◌*◌}
use mathlib.Core.Bool.{not}
use mathlib.Core.Path.{sym, ap, ◌∙◌}
use native.Mathlib.Omega.{arith}
use Rattle.itemset.specs.Items.{belowb}
use Rattle.statement.proofs.FirstOf.{hit, pass, none}
use Rattle.bids.specs.Format.{schools}
use Rattle.bids.proofs.Records.{told}
use Rattle.bids.proofs.Places.{header_before}
use Rattle.conversion.specs.Contract.{optional_present}
use Rattle.conversion.proofs.admit_narrow.Goals as goal

pub returns-then-wide_site : goal.returns-then-wide_site
returns-then-wide_site c = sym (hit 32 _ (sym c.wide_site.ensures ∙ c.if-wide_site.true))

pub optional_slots-requires-clause-header_in_bounds : goal.optional_slots-requires-clause-header_in_bounds
optional_slots-requires-clause-header_in_bounds c = omega (arith, header_before c.args.from (schools c.args.file.now), c.requires.file_in_bounds)

pub returns-then-not-below_word : goal.returns-then-not-below_word
unfolding optional_present
returns-then-not-below_word c = let bits = 8 * (c.args.to.header - 9) in
    let fits = told (λ o. belowb o bits) c.optional_slots.ensures c.below_word.ensures in
    sym (pass 32 _ (sym c.wide_site.ensures ∙ c.if-wide_site.false) ∙ hit 33 _ (ap not (fits ∙ c.if-not-below_word.true)))

pub returns : goal.returns
unfolding optional_present
returns c = let bits = 8 * (c.args.to.header - 9) in
    let fits = told (λ o. belowb o bits) c.optional_slots.ensures c.below_word.ensures in
    sym (pass 32 _ (sym c.wide_site.ensures ∙ c.if-wide_site.false) ∙ pass 33 _ (ap not (fits ∙ c.if-not-below_word.false)) ∙ none)
