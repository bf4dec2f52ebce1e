-- A problem without its withdrawn packages [document 02, No. 8]: `gone` lists them. Assumes nothing.
use Rattle.std.specs.Prelude.{◌≡◌, Bool, true, cond, ◌&&◌, List, [], ◌∷◌, map, ℕ, zero, suc, ◌*◌, ◌≤◌, ltb, length, get_or, take}
use Rattle.itemset.specs.Words.{sets_of}
use Rattle.zdd.specs.Table.{has}
use Rattle.exact_cover.specs.Problem.{Problem, row}

-- each is greater than the one before [document 02, No. 8: withdrawn packages in rising order; one that repeats is refused too]
unfoldable pub rising : List ℕ → Bool
rising [] = true
rising (p ∷ []) = true
rising (p ∷ q ∷ s) = ltb p q && rising (q ∷ s)

-- those of the n numbers from p on that are not withdrawn, rising
unfoldable pub remain_from : List ℕ → ℕ → ℕ → List ℕ
remain_from gone p zero = []
remain_from gone p (suc n) = cond (has p gone) (remain_from gone (suc p) n) (p ∷ remain_from gone (suc p) n)

-- the packages that remain, by their old numbers: package q of the shortened list was number `get_or _ q 0` [document 02, No. 8: the packages that remain are
-- renumbered from 0 in their old order]
unfoldable pub remaining : Problem → List ℕ → List ℕ
unfolding remain_from
remaining Q gone = remain_from gone 0 (length Q.packages)

-- the problem with the shortened list; the optional set and the order stay
unfoldable pub shorten : Problem → List ℕ → Problem
unfolding remaining
shorten Q gone = record { packages = map (row Q) (remaining Q gone); optional = Q.optional; order = Q.order }

-- a timetable of the shortened list, in the old numbers
unfoldable pub in_old : Problem → List ℕ → List ℕ → List ℕ
unfolding remaining
in_old Q gone s = map (λ (q : ℕ). get_or (remaining Q gone) q 0) s

-- of the packages in the words, those that gone does not list stand first in the words after it, in their order: r of them. gone has to rise
pub record Shortens (packages gone packages' : List ℕ) (r : ℕ) : Type 0 where
  pub long : length packages' ≡ length packages
  pub fewer : 3 * r ≤ length packages
  pub sets : rising gone ≡ true → (Q : Problem) → Q.packages ≡ sets_of packages → sets_of (take (3 * r) packages') ≡ (shorten Q gone).packages
