use Rattle.compile.proofs.PackLaws.{small_items}
use Rattle.compile.proofs.TurnLaws.{turn_start, turn_later, turn_pass, turn-over, turn-none, turn_idle, turn-made, turn-done}
use Rattle.compile.proofs.TurnLaws.{search-over, search-empty, search_hit, search-ran, at_first, at_falls, at_later, rest_is, rest_inside, rest_less}
use Rattle.exact_cover.proofs.Lead.{lead_lt, done-found}
use Rattle.exact_cover.proofs.Permuted.{plain-small, plain-lead}
use Rattle.exact_cover.specs.Problem.{lead, done, Rows}
use Rattle.exact_cover.specs.Positions.{in_plain_order}
use Rattle.itemset.proofs.Three.{known, items_lt}
use Rattle.itemset.proofs.Lists.{width_is}
use Rattle.itemset.specs.Items.{lowest}
use Rattle.itemset.specs.Words.{value, value_of, sets_of, width}
use borrow.Author.Tests.{eqb-true, eqb-false}
use native.Mathlib.Omega.{arith}
use native.Mathlib.Nat.{mod-lt}
use Prim.Native.Nat.{◌+◌, ◌-◌, ◌^◌}
use mathlib.Core.Path.{◌≡◌, refl, sym, ap, ◌∙◌}
use mathlib.Core.Bool.{false}
use mathlib.Core.List.{List}
use Prim.Native.Nat.{ℕ, ◌<◌}
use Rattle.compile.proofs.+search_trial.Goals as goal

-- the lead is an item
low_lt : {ps : List ℕ} {o low : ℕ} (A : ℕ) → Rows (in_plain_order ps o) → A < 2 ^ width → done (in_plain_order ps o) A ≡ false → low ≡ lead (in_plain_order ps o) A → low < 192
low_lt A rows small due is = omega (arith, width_is, is, lead_lt _ A rows.ordered (plain-small small) due, rows.narrow)

pub search-returns-then-limit-steps : goal.search-returns-then-limit-steps
search-returns-then-limit-steps t c = search-over c.requires.packs c.requires.searchable (value c.args.items) _ (omega (arith, c.if-limit-steps.true)) _ _ _

pub search-returns-then-is_empty : goal.search-returns-then-is_empty
search-returns-then-is_empty t c = search-empty c.requires.packs c.requires.searchable (value c.args.items) _ _ (omega (arith, c.if-limit-steps.false)) refl
    (small_items c.args.items c.well_formed.1.1.1.1.1.1.1.1.1.0)
    (done-found _ _ c.compulsory-due.ensures c.is_empty.ensures ∙ c.if-is_empty.true)

pub search-returns-then-is_key : goal.search-returns-then-is_key
search-returns-then-is_key t c = search_hit c.requires.packs c.requires.searchable (value c.args.items) c.args.at c.requires.at_lt_places _ _ (omega (arith, c.if-limit-steps.false)) refl
    (done-found _ _ c.compulsory-due.ensures c.is_empty.ensures ∙ c.if-is_empty.false) (eqb-true _ _ (sym c.is_key.ensures ∙ c.if-is_key.true)) c.number.ensures

pub search-trial-requires : goal.search-trial-requires
search-trial-requires t c = let Q = in_plain_order (sets_of c.args.packs.now) (value_of c.args.optional.now) in
    let A = value c.args.items in
    let o : done Q A ≡ false = done-found Q A c.compulsory-due.ensures c.is_empty.ensures ∙ c.if-is_empty.false in
    let e : c.lowest-low.result ≡ lead Q A = c.lowest-low.ensures.value ∙ ap lowest c.compulsory-due.ensures
    ∙ sym (plain-lead _ _ A (items_lt c.args.items (known c.args.items c.well_formed.1.1.1.1.1.1.1.1.1.0)) o) in
    (omega (arith, c.decreases), (c.requires.packs, (c.requires.searchable, (omega (arith, c.if-limit-steps.false), (o, c.requires.at_lt_places, e)))))

pub search-returns : goal.search-returns
search-returns t c = search-ran c.requires.packs _ _ c.requires.searchable (value c.args.items) c.args.at c.requires.at_lt_places _ _ _ _ c.trial.result refl
    (done-found _ _ c.compulsory-due.ensures c.is_empty.ensures ∙ c.if-is_empty.false) (eqb-false _ _ (sym c.is_key.ensures ∙ c.if-is_key.false)) c.trial.ensures

pub trial-offset_bounds-leads-low : goal.trial-offset_bounds-leads-low
trial-offset_bounds-leads-low t c = omega (
  arith,
  low_lt (value c.args.items) c.requires.packs.rows
      (items_lt c.args.items (known c.args.items c.well_formed.1.1.1.1.1.1.1.1.1.0)) c.requires.value.0 c.requires.value.2,
)

pub trial-bounds-leads-low : goal.trial-bounds-leads-low
trial-bounds-leads-low t c = omega (
  arith,
  low_lt (value c.args.items) c.requires.packs.rows
      (items_lt c.args.items (known c.args.items c.well_formed.1.1.1.1.1.1.1.1.1.0)) c.requires.value.0 c.requires.value.2,
)

pub trial-loop-p-init : goal.trial-loop-p-init
trial-loop-p-init t c = let small = small_items c.args.items c.well_formed.1.1.1.1.1.1.1.1.1.0 in
    rw c.requires.value.2 (
      turn_start c.requires.packs (value c.args.items) c.args.at small c.requires.value.0 c.requires.searchable c.requires.steps_le_limit,
      at_first c.requires.packs (value c.args.items) c.args.at small c.requires.value.0,
    )

pub trial-loop-p-preserved-then-not-inside : goal.trial-loop-p-preserved-then-not-inside
trial-loop-p-preserved-then-not-inside t c = let small = small_items c.args.items c.well_formed.1.1.1.1.1.1.1.1.1.0 in
    let e : c.loop-p.p ≡ (c.loop-p.p - 1) + 1 = omega (arith, c.loop-p-test.true) in (
      turn_pass c.requires.packs (value c.args.items) c.args.at small c.requires.value.0 c.loop-p.p (c.loop-p.p - 1) e c.loop-p.invariant.1
          (rw c.items-pack.ensures at (sym c.inside.ensures ∙ c.if-not-inside.true)) c.loop-p.invariant.0,
      at_later c.requires.packs (value c.args.items) c.args.at small c.requires.value.0 c.loop-p.p (c.loop-p.p - 1) e c.loop-p.invariant.1,
    )

pub trial-search-requires : goal.trial-search-requires
trial-search-requires t c = let small = small_items c.args.items c.well_formed.1.1.1.1.1.1.1.1.1.0 in
    let e : c.loop-p.p ≡ (c.loop-p.p - 1) + 1 = omega (arith, c.loop-p-test.true) in
    let there : c.place_without-there.result < c.args.places = rw c.place_without-there.ensures (mod-lt _ c.requires.searchable.held.some) in
    let i = sym c.inside.ensures ∙ c.if-not-inside.false in (
      omega (
        arith,
        c.decreases,
        rest_less c.requires.packs (value c.args.items) c.args.at small c.requires.value.0 c.loop-p.p
            (c.loop-p.p - 1) e c.loop-p.invariant.1 _ _ c.items-pack.ensures c.without-rest.ensures i,
      ),
      (
        c.requires.packs,
        (
          record { sound = c.loop-p.invariant.0.grown.sound; indexed = c.loop-p.invariant.0.indexed; held = c.loop-p.invariant.0.held },
          (
            c.loop-p.invariant.0.within,
            omega (arith, there),
          ),
        ),
      ),
    )

pub trial-returns-in_err-r : goal.trial-returns-in_err-r
trial-returns-in_err-r t c = let small = small_items c.args.items c.well_formed.1.1.1.1.1.1.1.1.1.0 in
    let e : c.loop-p.p ≡ (c.loop-p.p - 1) + 1 = omega (arith, c.loop-p-test.true) in
    let i = sym c.inside.ensures ∙ c.if-not-inside.false in
    rw c.from_residual.ensures (turn-over c.requires.packs (value c.args.items) c.args.at small c.requires.value.0 c.loop-p.p (c.loop-p.p - 1) _ _ e c.loop-p.invariant.1
    (rest_inside (value c.args.items) c.items-pack.ensures i) (rest_is (value c.args.items) c.items-pack.ensures c.without-rest.ensures) c.place_without-there.ensures
    refl c.loop-p.invariant.0 c.in_err-r.ensures)

pub trial-loop-p-smaller : goal.trial-loop-p-smaller
trial-loop-p-smaller t c = let small = small_items c.args.items c.well_formed.1.1.1.1.1.1.1.1.1.0 in
    let e : c.loop-p.p ≡ (c.loop-p.p - 1) + 1 = omega (arith, c.loop-p-test.true) in
    at_falls c.requires.packs (value c.args.items) c.args.at small c.requires.value.0 c.loop-p.p (c.loop-p.p - 1) e c.loop-p.invariant.1

pub trial-loop-p-preserved-then-y-eq0 : goal.trial-loop-p-preserved-then-y-eq0
trial-loop-p-preserved-then-y-eq0 t c = let small = small_items c.args.items c.well_formed.1.1.1.1.1.1.1.1.1.0 in
    let e : c.loop-p.p ≡ (c.loop-p.p - 1) + 1 = omega (arith, c.loop-p-test.true) in
    let i = sym c.inside.ensures ∙ c.if-not-inside.false in (
      turn_later c.requires.packs (value c.args.items) c.args.at small c.requires.value.0 c.loop-p.p (c.loop-p.p - 1) e c.loop-p.invariant.1
          (turn-none c.requires.packs (value c.args.items) c.args.at small c.requires.value.0 c.loop-p.p (c.loop-p.p - 1) _ _ e c.loop-p.invariant.1
          (rest_inside (value c.args.items) c.items-pack.ensures i) (rest_is (value c.args.items) c.items-pack.ensures c.without-rest.ensures) c.place_without-there.ensures
          refl c.loop-p.invariant.0 c.in_ok-r.ensures c.if-y-eq0.true),
      at_later c.requires.packs (value c.args.items) c.args.at small c.requires.value.0 c.loop-p.p (c.loop-p.p - 1) e c.loop-p.invariant.1,
    )

pub trial-loop-p-preserved-then-r : goal.trial-loop-p-preserved-then-r
trial-loop-p-preserved-then-r t c = let small = small_items c.args.items c.well_formed.1.1.1.1.1.1.1.1.1.0 in
    let e : c.loop-p.p ≡ (c.loop-p.p - 1) + 1 = omega (arith, c.loop-p-test.true) in
    let i = sym c.inside.ensures ∙ c.if-not-inside.false in (
      turn_later c.requires.packs (value c.args.items) c.args.at small c.requires.value.0 c.loop-p.p (c.loop-p.p - 1) e c.loop-p.invariant.1
          (turn_idle c.requires.packs (value c.args.items) c.args.at small c.requires.value.0 c.loop-p.p (c.loop-p.p - 1) _ _ e c.loop-p.invariant.1
          (rest_inside (value c.args.items) c.items-pack.ensures i) (rest_is (value c.args.items) c.items-pack.ensures c.without-rest.ensures) c.place_without-there.ensures
          refl c.loop-p.invariant.0 c.in_ok-r.ensures c.if-r.true),
      at_later c.requires.packs (value c.args.items) c.args.at small c.requires.value.0 c.loop-p.p (c.loop-p.p - 1) e c.loop-p.invariant.1,
    )

pub trial-loop-p-preserved : goal.trial-loop-p-preserved
trial-loop-p-preserved t c = let small = small_items c.args.items c.well_formed.1.1.1.1.1.1.1.1.1.0 in
    let e : c.loop-p.p ≡ (c.loop-p.p - 1) + 1 = omega (arith, c.loop-p-test.true) in
    let i = sym c.inside.ensures ∙ c.if-not-inside.false in (
      turn_later c.requires.packs (value c.args.items) c.args.at small c.requires.value.0 c.loop-p.p (c.loop-p.p - 1) e c.loop-p.invariant.1
          (turn-made c.requires.packs (value c.args.items) c.args.at small c.requires.value.0 c.loop-p.p (c.loop-p.p - 1) _ _ e c.loop-p.invariant.1
          (rest_inside (value c.args.items) c.items-pack.ensures i) (rest_is (value c.args.items) c.items-pack.ensures c.without-rest.ensures) c.place_without-there.ensures
          refl c.loop-p.invariant.0 c.in_ok-r.ensures c.if-r.false (omega (arith, c.if-y-eq0.false)) _ _ refl c.unique-z.ensures),
      at_later c.requires.packs (value c.args.items) c.args.at small c.requires.value.0 c.loop-p.p (c.loop-p.p - 1) e c.loop-p.invariant.1,
    )

pub trial-returns : goal.trial-returns
trial-returns t c = turn-done c.requires.packs (value c.args.items) c.args.at (small_items c.args.items c.well_formed.1.1.1.1.1.1.1.1.1.0) c.requires.value.0 c.loop-p.p
    c.requires.value.1 refl (omega (arith, c.loop-p-test.false)) c.store.ensures c.loop-p.invariant.0
