use Rattle.compile.proofs.PackLaws.{small_items}
use Rattle.compile.proofs.TurnLaws.{search-over, search-empty, search-ran}
use Rattle.exact_cover.proofs.Lead.{open_pos, done-found}
use Rattle.exact_cover.proofs.Permuted.{plain-lead}
use Rattle.exact_cover.specs.Problem.{lead, done}
use Rattle.exact_cover.specs.Positions.{in_plain_order}
use Rattle.itemset.proofs.Three.{known, items_lt}
use Rattle.itemset.specs.Items.{lowest}
use Rattle.itemset.specs.Words.{value, value_of, sets_of}
use native.Mathlib.Omega.{arith}
use mathlib.Core.Path.{◌≡◌, refl, sym, ap, ◌∙◌}
use mathlib.Core.Bool.{false}
use Rattle.compile.proofs.begin.Goals as goal

pub returns-then-limit-eq0 : goal.returns-then-limit-eq0
returns-then-limit-eq0 c = search-over c.requires.packs c.requires.searchable (value c.args.items) c.args.at (omega (arith, c.if-limit-eq0.true)) _ _ _

pub returns-then-is_empty : goal.returns-then-is_empty
returns-then-is_empty c = search-empty c.requires.packs c.requires.searchable (value c.args.items) c.args.at _ (omega (arith, c.if-limit-eq0.false)) refl
    (small_items c.args.items c.well_formed.1.1.1.1.1.1.1.1.1.0)
    (done-found _ _ c.compulsory-due.ensures c.is_empty.ensures ∙ c.if-is_empty.true)

pub trial-requires-clause-value : goal.trial-requires-clause-value
trial-requires-clause-value c = let Q = in_plain_order (sets_of c.args.packs.now) (value_of c.args.optional.now) in
    let A = value c.args.items in
    let o : done Q A ≡ false = done-found Q A c.compulsory-due.ensures c.is_empty.ensures ∙ c.if-is_empty.false in
    let e : c.lowest-low.result ≡ lead Q A =
    c.lowest-low.ensures.value ∙ ap lowest c.compulsory-due.ensures
    ∙ sym (plain-lead _ _ A (items_lt c.args.items (known c.args.items c.well_formed.1.1.1.1.1.1.1.1.1.0)) o) in
    (o, c.requires.at_lt_places, e)

pub returns : goal.returns
returns c = let A = value c.args.items in
    let o = done-found _ _ c.compulsory-due.ensures c.is_empty.ensures ∙ c.if-is_empty.false in
    search-ran c.requires.packs _ _ c.requires.searchable A c.args.at c.requires.at_lt_places _ _ _ _ c.trial.result refl o
    (λ e. omega (arith, e, open_pos _ A o, c.requires.unkeyed c.args.at c.requires.at_lt_places)) c.trial.ensures
