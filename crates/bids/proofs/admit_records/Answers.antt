use native.Mathlib.Omega.{arith}
use mathlib.Core.Path.{refl, sym, ap, ◌∙◌}
use mathlib.Core.Bool.{not}
use Rattle.statement.proofs.FirstOf.{pass, hit, none}
use Rattle.bids.proofs.Refused.{check_wrong, check_right, optional-of, after_check, after_optional, after_schools, after_stray}
use Rattle.bids.proofs.Places.{header_before, school_before}
use Rattle.bids.proofs.admit_records.Goals as goal

pub returns-then-check-stored : goal.returns-then-check-stored
returns-then-check-stored c =
    sym (hit 23 _ (check_wrong c.args.layout c.args.file.now refl c.check.ensures c.number-stored.ensures.value c.if-check-stored.true))

pub optional_slots-requires-clause-header_in_bounds : goal.optional_slots-requires-clause-header_in_bounds
optional_slots-requires-clause-header_in_bounds c =
    omega (arith, header_before c.args.layout c.args.s, school_before c.args.layout c.args.s c.args.n, c.requires.long)

pub returns-then-not-below_word : goal.returns-then-not-below_word
returns-then-not-below_word c =
    let L = c.args.layout in let b = c.args.file.now in
    let e1 = check_right L b refl c.check.ensures c.number-stored.ensures.value c.if-check-stored.false in
    sym (after_check L b e1 ∙ hit 31 _ (optional-of L b c.optional_slots.ensures c.requires.counts.1.0 c.below_word.ensures (ap not c.if-not-below_word.true)))

pub school_twice-requires-clause-s_in_bounds : goal.school_twice-requires-clause-s_in_bounds
school_twice-requires-clause-s_in_bounds c = omega (arith, school_before c.args.layout c.args.s c.args.n, c.requires.long)

pub returns-then-school_twice : goal.returns-then-school_twice
returns-then-school_twice c =
    let L = c.args.layout in let b = c.args.file.now in
    let e1 = check_right L b refl c.check.ensures c.number-stored.ensures.value c.if-check-stored.false in
    let e2 = optional-of L b c.optional_slots.ensures c.requires.counts.1.0 c.below_word.ensures (ap not c.if-not-below_word.false) in
    sym (after_optional L b e1 e2 ∙ hit 25 _ (sym c.school_twice.ensures ∙ c.if-school_twice.true))

pub returns-then-stray : goal.returns-then-stray
returns-then-stray c =
    let L = c.args.layout in let b = c.args.file.now in
    let e1 = check_right L b refl c.check.ensures c.number-stored.ensures.value c.if-check-stored.false in
    let e2 = optional-of L b c.optional_slots.ensures c.requires.counts.1.0 c.below_word.ensures (ap not c.if-not-below_word.false) in
    sym (after_schools L b e1 e2 c.school_twice.ensures c.if-school_twice.false ∙ hit 26 _ (sym c.stray.ensures ∙ c.if-stray.true))

pub returns-then-package_twice : goal.returns-then-package_twice
returns-then-package_twice c =
    let L = c.args.layout in let b = c.args.file.now in
    let e1 = check_right L b refl c.check.ensures c.number-stored.ensures.value c.if-check-stored.false in
    let e2 = optional-of L b c.optional_slots.ensures c.requires.counts.1.0 c.below_word.ensures (ap not c.if-not-below_word.false) in
    let left = after_stray L b e1 e2 c.school_twice.ensures c.if-school_twice.false c.stray.ensures c.if-stray.false in
    sym (left ∙ hit 27 _ (sym c.package_twice.ensures ∙ c.if-package_twice.true))

pub returns : goal.returns
returns c =
    let L = c.args.layout in let b = c.args.file.now in
    let e1 = check_right L b refl c.check.ensures c.number-stored.ensures.value c.if-check-stored.false in
    let e2 = optional-of L b c.optional_slots.ensures c.requires.counts.1.0 c.below_word.ensures (ap not c.if-not-below_word.false) in
    let left = after_stray L b e1 e2 c.school_twice.ensures c.if-school_twice.false c.stray.ensures c.if-stray.false in
    sym (left ∙ pass 27 _ (sym c.package_twice.ensures ∙ c.if-package_twice.false) ∙ none)
