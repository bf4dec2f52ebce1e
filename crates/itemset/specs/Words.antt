-- A set of items as words of 64 bits, lowest first: the number whose digits to the base 2 ^ 64 they are. Item i is bit i % 64 of word i / 64
-- (`holds_words` of proofs/Lists.antt). Only `width`, the sets of the code and `sets_of` name a number of words. Assumes nothing.
use Rattle.std.specs.Prelude.{List, [], ◌∷◌, ◌++◌, ℕ, zero, suc, ◌*◌, ◌+◌, ◌/◌, ◌%◌, ◌^◌, length, take, drop}
use Rattle.itemset.specs.declared.Items.{Items}

-- how many items there can be: the bits of three words [document 02, No. 7]
unfoldable pub width : ℕ
width = 192

unfoldable pub value_of : List ℕ → ℕ
value_of [] = zero
value_of (w ∷ ws) = value_of ws * 2 ^ 64 + w

-- an `Items` of the code: three words, and the number that they are
abbrev pub words_of : Items → List ℕ
words_of x = x.w0 ∷ x.w1 ∷ x.w2 ∷ []

abbrev pub value : Items → ℕ
value x = value_of (words_of x)

-- ---- sets one after the other

-- the first c sets of words that have n words each
unfoldable pub sets_in : ℕ → ℕ → List ℕ → List ℕ
sets_in n zero ws = []
sets_in n (suc c) ws = value_of (take n ws) ∷ sets_in n c (drop n ws)

-- the sets that are lent as words, three each; one or two words at the end are no set
unfoldable pub sets_of : List ℕ → List ℕ
unfolding sets_in
sets_of ws = sets_in 3 (length ws / 3) ws

-- the other way: the lowest n words of a set, and the words of sets, n each
unfoldable pub words_in : ℕ → ℕ → List ℕ
words_in zero x = []
words_in (suc n) x = x % 2 ^ 64 ∷ words_in n (x / 2 ^ 64)

unfoldable pub spread : ℕ → List ℕ → List ℕ
unfolding words_in
spread n [] = []
spread n (x ∷ xs) = words_in n x ++ spread n xs
