-- THEOREM: the soundness check and count say of the words that the code makes of the kiosk's list what they say of the table whose words are the
-- number of nodes and then the triples', however long the list is. Assumes nothing.
use Rattle.exact_cover.specs.Problem.{Problem}
use mathlib.Core.Path.{◌≡◌, refl, sym, ap, ◌∙◌, subst}
use mathlib.Core.Bool.{Bool, true, false, cond, not}
use mathlib.Core.List.{List, [], ◌∷◌}
use mathlib.Core.Logic.{◌⊎◌, inl, inr}
use Prim.Native.Nat.{ℕ, zero, suc, ◌+◌, ◌*◌, ◌≤◌, ◌<◌}
use native.Mathlib.Omega.{arith}
use borrow.Author.Tests.{leb-true, leb-false, eq-eqb, ne_eqb}
use lib.Dec.{eqb, leb}
use lib.ListN.{length, get_or, set, drop, replicate, length-set, length-map, length-replicate, get_or-map}
use lib.Seq.{get_or-drop, get_or-set_same, get_or-set_other}
use Rattle.base.proofs.Bools.{is_false, by_test, same_test, never}
use Rattle.zdd.specs.Table.{Node as TableNode, node, blank, count, triples, nodes_of, family, soundb, Nodes, Sound}
use Rattle.zdd.proofs.Tested.{sound_of, sound_test}
use Rattle.exact_cover.specs.Cover.{keys_of}
use Rattle.statement.specs.Replies.{Reply, reply}
use Rattle.statement.specs.Refusals.{first_of, package_tests, unsound, unknown_answer, short_work, uncountable, check_refusal, count_refusal}
use Rattle.statement.specs.Postconditions.{CheckPost, CountPost}
use Rattle.statement.specs.Kiosk.{words_of, table_of, KioskCheckPost, KioskCountPost}
use Rattle.statement.proofs.FirstOf.{hit, front}
use Rattle.statement.proofs.Admission.{fit_of}
use Rattle.statement.proofs.TestLaws.{reply-refused}
use Rattle.statement.proofs.Kiosk.{too_many, over_limit, triple_left}
use Rattle.kiosk.specs.declared.Node.{Node}
use Rattle.kiosk.specs.Triples.{node_in, nodes_in}
use Rattle.kiosk.specs.Flat.{none, filled, numbered, headed}
use Rattle.kiosk.proofs.Filled.{Clear, Spoilt, Dealt, dealt, clear-word}

-- ---- tables of the same words

triples-same : (n : ℕ) (u v : List ℕ) → ((j : ℕ) → get_or u j 0 ≡ get_or v j 0) → triples n u ≡ triples n v
unfolding triples
triples-same zero u v f = refl
triples-same (suc n) u v f = λ i. node (f 0 i) (f 1 i) (f 2 i) ∷ triples-same n (drop 3 u) (drop 3 v) (λ j. get_or-drop 3 u j 0 ∙ f (3 + j) ∙ sym (get_or-drop 3 v j 0)) i

module _ (u v : List ℕ) (f : (j : ℕ) → get_or u j 0 ≡ get_or v j 0) where
  nodes-same : nodes_of u ≡ nodes_of v
  unfolding nodes_of
  nodes-same = ap (λ (n : ℕ). triples n (drop 1 u)) (f 0) ∙ triples-same (count v) (drop 1 u) (drop 1 v) (λ j. get_or-drop 1 u j 0 ∙ f (1 + j) ∙ sym (get_or-drop 1 v j 0))

  -- and if the one is sound, so is the other, if it has room for the nodes
  sound_same : (K : List ℕ) → 3 * count v < length v → Sound K u → Sound K v
  sound_same K room s = record {
    room = room;
    few = omega (arith, s.few, f 0);
    nodes = subst (λ (ns : List TableNode). Nodes K ns) nodes-same s.nodes;
    rest = λ j l. sym (f j) ∙ s.rest j (omega (arith, f 0));
  }

-- the two tables are sound or not together; and where they are, they have the same nodes
pub record Alike (K u v : List ℕ) : Type 0 where
  pub sound : soundb K u ≡ soundb K v
  pub counts : soundb K u ≡ true → count u ≡ count v
  pub nodes : soundb K u ≡ true → nodes_of u ≡ nodes_of v

unsound_alike : {K u v : List ℕ} → soundb K u ≡ false → soundb K v ≡ false → Alike K u v
unsound_alike {K} {u} {v} p q = record { sound = p ∙ sym q; counts = λ e. absurd (never e p); nodes = λ e. absurd (never e p) }

-- a number of nodes that no table can have
no_room_lem : (K u : List ℕ) → 65534 < count u → soundb K u ≡ false
no_room_lem K u e = is_false (soundb K u) (λ h. let s = sound_of K u h in omega (arith, s.few))

-- ---- the calls on such tables

check_alike : {Q : Problem} {m : ℕ} {u v : List ℕ} {r : Reply (Unit {0})} → Alike (keys_of Q) u v → CheckPost Q m u r → CheckPost Q m v r
unfolding check_refusal unsound
check_alike {Q} {m} {u} {v} {r} a p = record {
  result = p.result ∙ ap (λ (b : Bool). reply (first_of (package_tests Q m ((not b, 4) ∷ []))) tt) a.sound;
}

-- refused by 4 or before it, whatever stands behind
shut : (Q : Problem) (m : ℕ) (ts ts' : List (Bool × ℕ)) (x x' : ℕ)
    → reply (first_of (package_tests Q m ((true, 4) ∷ ts))) x ≡ reply (first_of (package_tests Q m ((true, 4) ∷ ts'))) x'
shut Q m ts ts' x x' =
    let some : first_of (package_tests Q m ((true, 4) ∷ [])) ≡ 0 → ⊥ = λ e. omega (arith, sym (fit_of ((true, 4) ∷ []) e).1 ∙ hit 4 [] refl) in
    let k = first_of (package_tests Q m ((true, 4) ∷ [])) in
    sym (reply-refused k x (front (package_tests Q m ((true, 4) ∷ [])) ts some) some)
    ∙ reply-refused k x' (front (package_tests Q m ((true, 4) ∷ [])) ts' some) some

count_alike : {Q : Problem} {m : ℕ} {u v : List ℕ} {a words : ℕ} {r : Reply ℕ} → Alike (keys_of Q) u v → CountPost Q m u a words r → CountPost Q m v a words r
unfolding count_refusal unsound unknown_answer
count_alike {Q} {m} {u} {v} {a} {words} {r} k p = record { result = p.result ∙ by_test (soundb (keys_of Q) u) good bad }
  where
    behind : ℕ → List TableNode → List (Bool × ℕ)
    behind c ns = (leb (c + 2) a, 5) ∷ (short_work (a + 1) words, 8) ∷ (uncountable (family ns a), 11) ∷ []

    -- what count says where the table is sound or not, and has c nodes, ns
    says : Bool → ℕ → List TableNode → Reply ℕ
    says b c ns = reply (first_of (package_tests Q m ((not b, 4) ∷ behind c ns))) (length (family ns a))

    good : soundb (keys_of Q) u ≡ true → says (soundb (keys_of Q) u) (count u) (nodes_of u) ≡ says (soundb (keys_of Q) v) (count v) (nodes_of v)
    good e = λ i. says (k.sound i) (k.counts e i) (k.nodes e i)

    bad : soundb (keys_of Q) u ≡ false → says (soundb (keys_of Q) u) (count u) (nodes_of u) ≡ says (soundb (keys_of Q) v) (count v) (nodes_of v)
    bad e =
        ap (λ (b : Bool). says b (count u) (nodes_of u)) e ∙ shut Q m (behind (count u) (nodes_of u)) (behind (count v) (nodes_of v))
        (length (family (nodes_of u) a)) (length (family (nodes_of v) a))
        ∙ ap (λ (b : Bool). says b (count v) (nodes_of v)) (sym e ∙ k.sound)

-- ---- the words that the code makes, and the table

words_length : (ns : List Node) → length (words_of (nodes_in ns)) ≡ 3 * length ns
unfolding words_of
words_length [] = omega arith
words_length (x ∷ ns) = omega (arith, words_length ns)

module _ (t : List ℕ) (long : length t ≡ 196603) (zeros : (j : ℕ) → get_or t j 0 ≡ 0) (K : List ℕ) (n : ℕ) (ns : List Node) where
  abbrev s : List ℕ
  s = filled t ns (length ns)

  abbrev table : List ℕ
  table = table_of n (nodes_in ns)

  all : Dealt t ns (length ns) s
  all = dealt t long zeros ns (length ns)

  -- a triple past the table's room that is not all 0
  left : Spoilt ns (length ns) s → soundb K table ≡ false
  left p = by_test (leb n 65534)
      (λ e. triple_left K n (nodes_in ns) p.at (omega (arith, leb-true n 65534 e, p.past)) (omega (arith, length-map ns node_in, p.below))
      (λ q. p.some (back (sym (get_or-map node_in ns p.at none) ∙ q))))
      (λ e. over_limit K n (nodes_in ns) (leb-false n 65534 e))
    where
      back : {x : Node} → node_in x ≡ blank → x ≡ none
      back {x} q = λ i. record { label = (q i).label; lo = (q i).lo; hi = (q i).hi }

  -- every triple past it is all 0, and there are as many triples as nodes
  module _ (c : Clear ns (length ns) s) (l : n ≤ length ns) where
    word : (j : ℕ) → get_or (set s 0 n) j 0 ≡ get_or table j 0
    word zero = get_or-set_same s 0 n 0 (omega (arith, all.long))
    word (suc j) = get_or-set_other s 0 (suc j) n 0 (λ q. omega arith) ∙ clear-word t long zeros ns s all c j

    forth : Sound K (set s 0 n) → Sound K table
    forth = sound_same (set s 0 n) table word K (omega (arith, words_length ns))

    back : Sound K table → Sound K (set s 0 n)
    back p = sound_same table (set s 0 n) (λ j. sym (word j)) K (omega (arith, p.few, word 0, length-set s 0 n, all.long)) p

    clear_alike : Alike K (set s 0 n) table
    clear_alike = record {
      sound = same_test (soundb K (set s 0 n)) (soundb K table) (λ e. sound_test K table (forth (sound_of K (set s 0 n) e))) (λ e. sound_test K (set s 0 n) (back (sound_of K table e)));
      counts = λ e. word 0;
      nodes = λ e. nodes-same (set s 0 n) table word;
    }

  pub alike : Alike K (headed s n (length ns)) table
  alike = go all.first
    where
      at : (b : Bool) → leb n (length ns) ≡ b → Clear ns (length ns) s → Alike K (set s 0 (cond b n 4294967295)) table
      at true e c = clear_alike c (leb-true n (length ns) e)
      at false e c = unsound_alike (no_room_lem K (set s 0 4294967295) (omega (arith, get_or-set_same s 0 4294967295 0 (omega (arith, all.long)))))
          (too_many K n (nodes_in ns) (omega (arith, leb-false n (length ns) e, length-map ns node_in)))

      -- word 0 is 0, or not
      head : (b : Bool) → eqb (get_or s 0 0) 0 ≡ b → Alike K (cond b (set s 0 (numbered n (length ns))) s) table → Alike K (headed s n (length ns)) table
      head b e p = subst (λ (d : Bool). Alike K (cond d (set s 0 (numbered n (length ns))) s) table) (sym e) p

      go : Clear ns (length ns) s ⊎ Spoilt ns (length ns) s → Alike K (headed s n (length ns)) table
      go (inl c) = head true (eq-eqb (get_or s 0 0) 0 c.word) (at (leb n (length ns)) refl c)
      go (inr p) = head false (ne_eqb (get_or s 0 0) 0 (λ q. omega (arith, p.word))) (unsound_alike (no_room_lem K s (omega (arith, p.word))) (left p))

-- ---- the contracts: the words are made in an array of zeros

zeros : (n j : ℕ) → get_or {A = ℕ} (replicate n 0) j 0 ≡ 0
zeros zero j = refl
zeros (suc n) zero = refl
zeros (suc n) (suc j) = zeros n j

module _ (Q : Problem) (m n : ℕ) (ns : List Node) where
  made : (k : ℕ) → k ≡ 196603 → Alike (keys_of Q) (headed (filled (replicate k 0) ns (length ns)) n (length ns)) (table_of n (nodes_in ns))
  made k e = alike (replicate k 0) (length-replicate k 0 ∙ e) (zeros k) (keys_of Q) n ns

  pub check-same : (r : Reply (Unit {0})) → CheckPost Q m (headed (filled (replicate 196603 0) ns (length ns)) n (length ns)) r → KioskCheckPost Q m n (nodes_in ns) r
  check-same r p = check_alike (made 196603 refl) p

  pub count_same : (a words : ℕ) (r : Reply ℕ) → CountPost Q m (headed (filled (replicate 196603 0) ns (length ns)) n (length ns)) a words r → KioskCountPost Q m n (nodes_in ns) a words r
  count_same a words r p = count_alike (made 196603 refl) p
