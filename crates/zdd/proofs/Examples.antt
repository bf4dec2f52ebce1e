-- Small tables, computed. Assumes nothing.
use mathlib.Core.Path.{◌≡◌, refl, sym, ap, ◌∙◌}
use mathlib.Core.Bool.{true, false}
use mathlib.Core.List.{List, [], ◌∷◌, map}
use Prim.Native.Nat.{ℕ}
use lib.ListN.{get_or-map}
use Rattle.zdd.specs.Table.{Node, node, nodes_of, family, order, sets, elem, filter, onceb, soundb, Sound, Keys}
use Rattle.zdd.proofs.Tested.{sound_of, once-of}
use Rattle.zdd.specs.Below.{new_below}
use Rattle.zdd.specs.Operations.{union, combine}

-- label 1 comes first, then 2, then 0
abbrev keys : List ℕ
keys = 30 ∷ 10 ∷ 20 ∷ []

-- 2 is {0}; 3 is {2, 0} and the empty set; 4 is {1, 0} and the sets of 3; two words of room are left over
abbrev table : List ℕ
table = 3 ∷ 0 ∷ 0 ∷ 1 ∷ 2 ∷ 1 ∷ 2 ∷ 1 ∷ 3 ∷ 2 ∷ 0 ∷ 0 ∷ []

nodes : nodes_of table ≡ node 0 0 1 ∷ node 2 1 2 ∷ node 1 3 2 ∷ []
unfolding nodes_of
nodes = refl

four : family (nodes_of table) 4 ≡ (1 ∷ 0 ∷ []) ∷ (2 ∷ 0 ∷ []) ∷ [] ∷ []
unfolding nodes_of family
four = refl

ordered : order keys ≡ 1 ∷ 2 ∷ 0 ∷ []
unfolding order
ordered = refl

all : sets keys
    ≡ (1 ∷ 2 ∷ 0 ∷ []) ∷ (1 ∷ 2 ∷ []) ∷ (1 ∷ 0 ∷ []) ∷ (1 ∷ []) ∷ (2 ∷ 0 ∷ []) ∷ (2 ∷ []) ∷ (0 ∷ []) ∷ [] ∷ []
unfolding sets
all = refl

kept : filter (λ t. elem t (family (nodes_of table) 4)) (sets keys) ≡ family (nodes_of table) 4
unfolding nodes_of family sets elem filter
kept = refl

both : union keys (family (nodes_of table) 2) (family (nodes_of table) 4) ≡ (1 ∷ 0 ∷ []) ∷ (2 ∷ 0 ∷ []) ∷ (0 ∷ []) ∷ [] ∷ []
unfolding nodes_of family combine filter sets elem
both = refl

-- below 4 are all its nodes, below 3 only 2 and 3: to a table that has 3 as its answer the node 4 would be one too many
below-four : new_below 0 (nodes_of table) 4 ≡ 2 ∷ 3 ∷ 4 ∷ []
unfolding nodes_of new_below
below-four = refl

below_three : new_below 0 (nodes_of table) 3 ≡ 2 ∷ 3 ∷ []
unfolding nodes_of new_below
below_three = refl

-- a table that had node 2 already
new_four : new_below 1 (nodes_of table) 4 ≡ 3 ∷ 4 ∷ []
unfolding nodes_of new_below
new_four = refl

sound : soundb keys table ≡ true
unfolding soundb
sound = refl

is_sound : Sound keys table
is_sound = sound_of keys table sound

-- no key twice, by the test for nodes
by_key : ℕ → Node
by_key k = node k 0 0

keyed : Keys keys
unfolding onceb by_key
keyed = record { apart = λ p q a b e. once-of (map by_key keys) refl p q a b (get_or-map by_key keys p 0 ∙ ap by_key e ∙ sym (get_or-map by_key keys q 0)) }

-- ---- refused: no word 0; a count past the words; a label past the keys; a child that is no smaller number; hi 0; a child that begins
-- no later; a triple twice; a word behind the nodes

no_word : soundb keys [] ≡ false
unfolding soundb
no_word = refl

no_room_lem : soundb keys (1 ∷ 0 ∷ 0 ∷ []) ≡ false
unfolding soundb
no_room_lem = refl

no_label : soundb keys (1 ∷ 3 ∷ 0 ∷ 1 ∷ []) ≡ false
unfolding soundb
no_label = refl

no_child : soundb keys (1 ∷ 0 ∷ 2 ∷ 1 ∷ []) ≡ false
unfolding soundb
no_child = refl

no_hi : soundb keys (1 ∷ 0 ∷ 1 ∷ 0 ∷ []) ≡ false
unfolding soundb
no_hi = refl

no_order : soundb keys (2 ∷ 1 ∷ 0 ∷ 1 ∷ 2 ∷ 1 ∷ 2 ∷ []) ≡ false
unfolding soundb
no_order = refl

no_twice : soundb keys (2 ∷ 1 ∷ 0 ∷ 1 ∷ 1 ∷ 0 ∷ 1 ∷ []) ≡ false
unfolding soundb
no_twice = refl

no_rest : soundb keys (1 ∷ 1 ∷ 0 ∷ 1 ∷ 0 ∷ 7 ∷ []) ≡ false
unfolding soundb
no_rest = refl
