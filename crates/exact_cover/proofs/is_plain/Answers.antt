use mathlib.Core.Path.{◌≡◌, refl, ap, ◌∙◌}
use mathlib.Core.Bool.{Bool, ◌&&◌}
use mathlib.Core.List.{List, [], ◌∷◌}
use Prim.Native.Nat.{ℕ, ◌+◌}
use native.Mathlib.Numerals.{add-one}
use borrow.Author.Rules.{rules}
use borrow.Author.Tests.{tests}
use lib.Dec.{eqb}
use Rattle.std.specs.List.{list_all, enumerate_from}
use Rattle.std.proofs.lemmas.Iterator.{YieldsList-from_slice}
use Rattle.std.proofs.lemmas.Iterator.Consumers.{YieldsList-from_enumerate}
use Rattle.std.proofs.lemmas.Iterator.Search.{all_from_yields_List}
use Rattle.exact_cover.specs.Positions.{plain_from}
use Rattle.exact_cover.proofs.is_plain.Goals as goal

abbrev fits : ℕ × ℕ → Bool
fits p = eqb p.1 p.0

each : (k : ℕ) (is : List ℕ) → list_all fits (enumerate_from k is) ≡ plain_from k is
unfolding plain_from
each k [] = refl
each k (i ∷ is) = ap (λ (b : Bool). eqb i k && b) (each (k + 1) is ∙ ap (λ (n : ℕ). plain_from n is) (add-one k))

pub returns : goal.returns
returns c = all_from_yields_List fits _ _ _ c.all.ensures.ran (YieldsList-from_enumerate (YieldsList-from_slice c.args.order.now (cc)) cc) (λ p b q k. search (rules, tests))
    ∙ each 0 c.args.order.now
