-- The calls that read an answer: what `query`'s functions ask, and what their answers make of the calls' refusals. Assumes nothing.
use mathlib.Core.Path.{◌≡◌, sym, ap, ap₂, ◌∙◌}
use mathlib.Core.Bool.{Bool, true, false, not}
use mathlib.Core.List.{List, [], ◌∷◌, ◌++◌}
use Prim.Native.Nat.{ℕ, ◌+◌, ◌≤◌, ◌<◌}
use native.Mathlib.Omega.{arith}
use lib.ListN.{length}
use borrow.Author.Tests.{le-leb, lt-leb, eqb-true, not-true, not-false}
use Rattle.zdd.specs.Table.{count}
use Rattle.exact_cover.specs.Problem.{Problem}
use Rattle.exact_cover.specs.Cover.{keys_of}
use Rattle.exact_cover.proofs.Order.{length-keys}
use Rattle.query.specs.Questions.{family_at, nth, position, cost, cheapest, difference, closest, in_precedence}
use Rattle.query.specs.Reading.{Readable, Priceable, Filled, count_word}
use Rattle.query.specs.Answers.{Told, Wrote, PlaceFound, Weighed}
use Rattle.query.specs.declared.Chosen.{Chosen}
use Rattle.std.specs.Prelude.{Option, Some, None, Result}
use Rattle.std.specs.Option.{ok_or}
use Rattle.statement.specs.declared.Refusal.{Refusal}
use Rattle.statement.specs.declared.Refusal.TheVariants.{Uncountable, Absent, ShortPage}
use Rattle.statement.specs.Replies.{Reply, refused, gives, reply, reply_of}
use Rattle.statement.specs.Refusals.{first_of, package_tests, table_tests, open_tests, list_tests, priced_tests, unpriced, not_timetable, uncountable, past_end, absent, short_page}
use Rattle.statement.specs.Refusals.{count_refusal, measure_refusal, pick_refusal, place_refusal, cheapest_refusal, closest_refusal}
use Rattle.statement.specs.Postconditions.{CountPost, MeasurePost, PickPost, PlacePost, CheapestPost, ClosestPost, written}
use Rattle.statement.proofs.FirstOf.{pass, hit, none, passed, front, Numbered, behind}
use Rattle.statement.proofs.Admission.{fit_passes, fit_of, fit_refused, table-passes}
use Rattle.statement.proofs.TestLaws.{reply-refused, reply_gives, page_left, page_written, all-priced, not-priced, answer-known, answer-unknown, enough, too_few}
use Rattle.statement.proofs.TestLaws.{countable, too_many, listed_test, something, is_nothing, page_fits, page_short}
use Rattle.statement.proofs.Measure.{pick_before, pick_last}
use Rattle.engine.specs.Opened.{Opened, Reachable, OpenedAt, OpenedList}
use Rattle.guard.specs.Admitted.{Usable, Admitted}
use Rattle.guard.proofs.GuardLaws.{admit-refused}

module _ {Q : Problem} {t keys index : List ℕ} (g : Usable Q t keys index) where
  pub readable : Readable t
  readable = record { keys = keys_of Q; sound = g.sound; few = omega (arith, length-keys Q, g.rows.few) }

-- ---- refusals 1, 2, 29, 30, 34, 4 and 5

module _ {Q : Problem} {m : ℕ} {t keys index : List ℕ} {r : ℕ} (a : ℕ) (o : Admitted Q m t keys index r) where
  pub opened-refused : (r ≡ 0 → ⊥) → Opened (open_tests Q m t a) Q t keys a r
  opened-refused f = record { says = sym (admit-refused _ o f); ready = λ z. absurd (f z) }

  module _ (e : r ≡ 0) where
    passes : (ts : List (Bool × ℕ)) → first_of (table_tests Q m t ts) ≡ first_of ts
    passes ts = table-passes t ts (o.fit e) (o.usable e).unspoilt

    pub opened-unknown : count t + 2 ≤ a → Opened (open_tests Q m t a) Q t keys a 5
    opened-unknown h = record { says = sym (passes _ ∙ hit 5 _ (answer-unknown t a h)); ready = λ z. absurd (omega arith) }

    pub opened-known : a < count t + 2 → Opened (open_tests Q m t a) Q t keys a 0
    opened-known h = record {
      says = sym (passes _ ∙ pass 5 _ (answer-known t a h) ∙ none);
      ready = λ z. record { index = index; usable = o.usable e; known = h };
    }

-- ---- the tests of the packages, in front of others and passed again

module _ {Q : Problem} (m : ℕ) {ts : List (Bool × ℕ)} {t keys : List ℕ} {a r : ℕ} where
  pub opened-packages : r ≡ first_of (package_tests Q m []) → (r ≡ 0 → ⊥) → Opened (package_tests Q m ts) Q t keys a r
  opened-packages e f = record { says = sym (fit_refused Q m ts e f); ready = λ z. absurd (f z) }

  module _ (e : first_of (package_tests Q m []) ≡ 0) where
    pub opened_rest : Opened ts Q t keys a r → Opened (package_tests Q m ts) Q t keys a r
    opened_rest o = record { says = o.says ∙ sym (fit_passes ts (fit_of [] e).0); ready = o.ready }

    pub opened_again : Opened (package_tests Q m ts) Q t keys a r → Opened ts Q t keys a r
    opened_again o = record { says = o.says ∙ fit_passes ts (fit_of [] e).0; ready = o.ready }

-- ---- and 3

module _ {Q : Problem} (C : List ℕ) {t keys : List ℕ} {a : ℕ} where
  pub priced_3 : {ts : List (Bool × ℕ)} → (length C ≡ length Q.packages → ⊥) → Opened ((unpriced Q C, 3) ∷ ts) Q t keys a 3
  priced_3 h = record { says = sym (hit 3 _ (not-priced Q C h)); ready = λ z. absurd (omega arith) }

  pub priced_rest : {ts : List (Bool × ℕ)} {r : ℕ} → length C ≡ length Q.packages → Opened ts Q t keys a r → Opened ((unpriced Q C, 3) ∷ ts) Q t keys a r
  priced_rest e o = record { says = o.says ∙ sym (pass 3 _ (all-priced Q C e)); ready = o.ready }

-- ---- other tests stand behind them

module _ (xs : List (Bool × ℕ)) {r : ℕ} (says : r ≡ first_of xs) (ts : List (Bool × ℕ)) where
  refused_by : (r ≡ 0 → ⊥) → first_of (xs ++ ts) ≡ r
  refused_by f = front xs ts (λ z. f (says ∙ z)) ∙ sym says

  passed_by : Numbered xs → r ≡ 0 → first_of (xs ++ ts) ≡ first_of ts
  passed_by n z = behind xs ts n (sym says ∙ z)

-- what `query::count` asks, of the answer as an index n
pub counting : {ts : List (Bool × ℕ)} {Q : Problem} {t keys : List ℕ} {a r n words : ℕ} → Opened ts Q t keys a r → r ≡ 0 → n ≡ a → n < words
    → Readable t × ((n < count t + 2) × (n < words))
counting o ok e l = (readable (o.ready ok).usable, (omega (arith, (o.ready ok).known), l))

-- ---- count

module _ {Q : Problem} {m : ℕ} {t keys : List ℕ} {a words r : ℕ} (o : Opened (open_tests Q m t a) Q t keys a r) where
  pub count-refused : (r ≡ 0 → ⊥) → CountPost Q m t a words (refused r)
  unfolding count_refusal
  count-refused f = record { result = reply-refused r _ (refused_by (open_tests Q m t a) o.says _ f) f }

  module _ (ok : r ≡ 0) where
    pub count_words : words ≤ a → CountPost Q m t a words (refused 8)
    unfolding count_refusal
    count_words h = record { result = reply-refused 8 _ (passed_by (open_tests Q m t a) o.says _ tt ok ∙ hit 8 _ (too_few (a + 1) words (omega arith))) (λ z. omega arith) }

    pub count_delivers : a < words → {x : Result ℕ Refusal} (c : Option ℕ) → x ≡ ok_or c Uncountable → Told c (length (family_at t a)) → CountPost Q m t a words (reply_of x)
    unfolding count_refusal
    count_delivers room c d e = record { result = rw d (go c e) }
      where
        so_far : count_refusal Q m t a words ≡ first_of ((uncountable (family_at t a), 11) ∷ [])
        so_far = passed_by (open_tests Q m t a) o.says _ tt ok ∙ pass 8 _ (enough (a + 1) words (omega arith))

        go : (c : Option ℕ) → Told c (length (family_at t a)) → reply_of (ok_or c Uncountable) ≡ reply (count_refusal Q m t a words) (length (family_at t a))
        go (Some n) e = ap gives e.0 ∙ reply_gives _ (so_far ∙ pass 11 _ (countable (family_at t a) e.1) ∙ none)
        go None e = reply-refused 11 _ (so_far ∙ hit 11 _ (too_many (family_at t a) e)) (λ z. omega arith)

-- ---- the k-th timetable

-- only 11 and 12 are left
measured_last : (Q : Problem) (m : ℕ) (t : List ℕ) (a k words : ℕ) {keys : List ℕ} {r : ℕ} → Opened (open_tests Q m t a) Q t keys a r → r ≡ 0 → a < words
    → measure_refusal Q m t a k words ≡ first_of ((uncountable (family_at t a), 11) ∷ (past_end (family_at t a) k, 12) ∷ [])
unfolding measure_refusal
measured_last Q m t a k words o ok room = passed_by (open_tests Q m t a) o.says _ tt ok ∙ pass 8 _ (enough (a + 1) words (omega arith))

module _ {Q : Problem} {m : ℕ} {t keys : List ℕ} {a k words q : ℕ} {w : List ℕ} (o : Opened (open_tests Q m t a) Q t keys a q) where
  pub at-refused : (q ≡ 0 → ⊥) → OpenedAt Q m t a k words w q
  unfolding measure_refusal
  at-refused f = record { says = sym (refused_by (open_tests Q m t a) o.says _ f); ready = λ z. absurd (f z) }

  module _ (ok : q ≡ 0) where
    pub at_words : words ≤ a → OpenedAt Q m t a k words w 8
    unfolding measure_refusal
    at_words h = record { says = sym (passed_by (open_tests Q m t a) o.says _ tt ok ∙ hit 8 _ (too_few (a + 1) words (omega arith))); ready = λ z. absurd (omega arith) }

    module _ (room : a < words) where
      pub at_uncountable : Told None (length (family_at t a)) → OpenedAt Q m t a k words w 11
      at_uncountable d = record { says = sym (measured_last Q m t a k words o ok room ∙ hit 11 _ (too_many (family_at t a) d)); ready = λ z. absurd (omega arith) }

      module _ {n : ℕ} (told : Told (Some n) (length (family_at t a))) where
        pub at_end : n ≤ k → OpenedAt Q m t a k words w 12
        unfolding past_end
        at_end h = record {
          says = sym (measured_last Q m t a k words o ok room ∙ pass 11 _ (countable (family_at t a) told.1) ∙ hit 12 _ (le-leb _ _ (omega (arith, told.0))));
          ready = λ z. absurd (omega arith);
        }

        pub at-counted : k < n → Filled (count_word t) (a + 1) w → OpenedAt Q m t a k words w 0
        unfolding past_end
        at-counted h filled = record {
          says = sym (measured_last Q m t a k words o ok room ∙ pass 11 _ (countable (family_at t a) told.1) ∙ pass 12 _ (lt-leb _ _ (omega (arith, told.0))) ∙ none);
          ready = λ z. record {
            readable = readable (o.ready ok).usable;
            known = (o.ready ok).known;
            inside = omega (arith, told.0);
            counted = filled;
          };
        }

-- what `query`'s walks ask, of the answer as an index n
pub walks : {t w : List ℕ} {a k n : ℕ} → Reachable t a k w → n ≡ a
    → Readable t × (((n < count t + 2) × (k < length (family_at t n))) × Filled (count_word t) (n + 1) w)
walks R e = (R.readable, ((omega (arith, R.known), rw e R.inside), rw e R.counted))

-- ---- measure and pick

module _ {Q : Problem} {m : ℕ} {t : List ℕ} {a k words r : ℕ} {w : List ℕ} (o : OpenedAt Q m t a k words w r) where
  pub measure-refused : (r ≡ 0 → ⊥) → MeasurePost Q m t a k words (refused r)
  measure-refused f = record { result = reply-refused r _ (sym o.says) f }

  pub measure_delivers : {n : ℕ} → r ≡ 0 → n ≡ length (nth (family_at t a) k) → MeasurePost Q m t a k words (gives n)
  measure_delivers ok e = record { result = ap gives e ∙ reply_gives _ (sym o.says ∙ ok) }

  pub pick-refused : {page : List ℕ} → (r ≡ 0 → ⊥) → PickPost Q m t a k words page (refused r) page
  pick-refused {page} f = let e = pick_before Q m t a k words page (sym o.says) f in record { result = reply-refused r _ e f; pages = page_left r _ page e f }

  pub pick_delivers : {page page' : List ℕ} → r ≡ 0 → {x : Result ℕ Refusal} (w : Option ℕ) → x ≡ ok_or w ShortPage
      → Wrote (nth (family_at t a) k) page page' w → PickPost Q m t a k words page (reply_of x) page'
  pick_delivers {page} {page'} ok w d p = rw d (go w p)
    where
      s : List ℕ
      s = nth (family_at t a) k

      so_far : pick_refusal Q m t a k words page ≡ first_of ((short_page page s, 15) ∷ [])
      so_far = pick_last Q m t a k words page (sym o.says ∙ ok)

      go : (w : Option ℕ) → Wrote (nth (family_at t a) k) page page' w → PickPost Q m t a k words page (reply_of (ok_or w ShortPage)) page'
      go (Some n) p =
          let z : pick_refusal Q m t a k words page ≡ 0 = so_far ∙ pass 15 _ (page_fits page s p.1) ∙ none in
          record { result = ap gives p.0 ∙ reply_gives (length s) z; pages = p.2 ∙ page_written s page z }
      go None p =
          let z : pick_refusal Q m t a k words page ≡ 15 = so_far ∙ hit 15 _ (page_short page s p.0) in
          record { result = reply-refused 15 _ z (λ y. omega arith); pages = p.1 ∙ page_left 15 s page z (λ y. omega arith) }

-- ---- a list of packages

-- in_precedence tells refusal 6
module _ (Q : Problem) (s : List ℕ) {b : Bool} (is : b ≡ in_precedence (keys_of Q) s) where
  says : b ≡ not (not_timetable Q s)
  says = is ∙ listed_test Q s

  no_list : b ≡ false → not_timetable Q s ≡ true
  no_list e = not-false _ (sym says ∙ e)

  is_list : b ≡ true → not_timetable Q s ≡ false
  is_list e = not-true _ (sym says ∙ e)

module _ {Q : Problem} {m : ℕ} {t keys : List ℕ} {a : ℕ} {s : List ℕ} {words r : ℕ} (o : Opened (open_tests Q m t a) Q t keys a r) where
  pub list-refused : (r ≡ 0 → ⊥) → OpenedList Q m t a s words r
  list-refused f = record { says = sym (refused_by (open_tests Q m t a) o.says _ f); ready = λ z. absurd (f z) }

  module _ (ok : r ≡ 0) {b : Bool} (is : b ≡ in_precedence (keys_of Q) s) where
    pub list-disordered : b ≡ false → OpenedList Q m t a s words 6
    list-disordered e = record {
      says = sym (passed_by (open_tests Q m t a) o.says _ tt ok ∙ hit 6 _ (no_list Q s is e));
      ready = λ z. absurd (omega arith);
    }

    module _ (e : b ≡ true) where
      pub list_words : words ≤ a → OpenedList Q m t a s words 8
      list_words h = record { says = sym (passed_by (open_tests Q m t a) o.says _ tt ok ∙ pass 6 _ (is_list Q s is e) ∙ hit 8 _ (too_few (a + 1) words (omega arith))); ready = λ z. absurd (omega arith) }

      pub list-ready : a < words → OpenedList Q m t a s words 0
      unfolding readable
      list-ready h = record {
        says = sym (passed_by (open_tests Q m t a) o.says _ tt ok ∙ pass 6 _ (is_list Q s is e) ∙ pass 8 _ (enough (a + 1) words (omega arith)) ∙ none);
        ready = λ z. record {
          comparable = record {
            table = readable (o.ready ok).usable;
            few = omega (arith, length-keys Q, (o.ready ok).usable.rows.few);
            listed = sym is ∙ e;
          };
          known = (o.ready ok).known;
          room = h;
        };
      }

-- ---- place

-- only 11 and 14 are left
placed_last : (Q : Problem) (m : ℕ) (t : List ℕ) (a : ℕ) (s : List ℕ) (words : ℕ) {r : ℕ} → OpenedList Q m t a s words r → r ≡ 0
    → place_refusal Q m t a s words ≡ first_of ((uncountable (family_at t a), 11) ∷ (absent (family_at t a) s, 14) ∷ [])
unfolding place_refusal
placed_last Q m t a s words o ok = passed_by (list_tests Q m t a s words) o.says _ tt ok

module _ {Q : Problem} {m : ℕ} {t : List ℕ} {a : ℕ} {s : List ℕ} {words r : ℕ} (o : OpenedList Q m t a s words r) where
  pub place-refused : (r ≡ 0 → ⊥) → PlacePost Q m t a s words (refused r)
  unfolding place_refusal
  place-refused f = record { result = reply-refused r _ (refused_by (list_tests Q m t a s words) o.says _ f) f }

  module _ (ok : r ≡ 0) where
    pub place_uncountable : Told None (length (family_at t a)) → PlacePost Q m t a s words (refused 11)
    place_uncountable e = record { result = reply-refused 11 _ (placed_last Q m t a s words o ok ∙ hit 11 _ (too_many (family_at t a) e)) (λ z. omega arith) }

    pub place_delivers : {n : ℕ} → Told (Some n) (length (family_at t a)) → {x : Result ℕ Refusal} (p : Option ℕ) → x ≡ ok_or p Absent
        → PlaceFound s (family_at t a) p → PlacePost Q m t a s words (reply_of x)
    unfolding absent
    place_delivers e p d q = record { result = rw d (go p q) }
      where
        go : (p : Option ℕ) → PlaceFound s (family_at t a) p → reply_of (ok_or p Absent) ≡ reply (place_refusal Q m t a s words) (position s (family_at t a))
        go (Some k) p = ap gives (p.1 e.1) ∙ reply_gives _ (placed_last Q m t a s words o ok ∙ pass 11 _ (countable (family_at t a) e.1) ∙ pass 14 _ (ap not p.0) ∙ none)
        go None p = reply-refused 14 _ (placed_last Q m t a s words o ok ∙ pass 11 _ (countable (family_at t a) e.1) ∙ hit 14 _ (ap not p)) (λ z. omega arith)

-- ---- a chosen timetable

-- where only 15 is left: the timetable s, of weight x, was written, or the page is too short
module _ (n : ℕ) (s : List ℕ) (x : ℕ) (page : List ℕ) (last : n ≡ first_of ((short_page page s, 15) ∷ [])) {page' : List ℕ} where
  pub chosen_written : {z : Chosen} → Weighed s x page page' (Some z) → (◌≡◌ {A = Reply (ℕ × ℕ)} (gives (z.packages, z.weight)) (reply n (length s, x))) × (page' ≡ written n s page)
  chosen_written p =
      let z : n ≡ 0 = last ∙ pass 15 _ (page_fits page s p.2) ∙ none in
      (ap₂ (λ (i j : ℕ). gives (i, j)) p.0 p.1 ∙ reply_gives (length s, x) z, p.3 ∙ page_written s page z)

  pub chosen_short : Weighed s x page page' None → (◌≡◌ {A = Reply (ℕ × ℕ)} (refused 15) (reply n (length s, x))) × (page' ≡ written n s page)
  chosen_short p =
      let z : n ≡ 15 = last ∙ hit 15 _ (page_short page s p.0) in
      (reply-refused 15 _ z (λ y. omega arith), p.1 ∙ page_left 15 s page z (λ y. omega arith))

-- ---- cheapest

module _ {Q : Problem} (m : ℕ) (C : List ℕ) {t keys : List ℕ} {a r : ℕ} (o : Opened (priced_tests Q m C t a) Q t keys a r) (ok : r ≡ 0) where
  priced : length C ≡ length Q.packages
  unfolding unpriced
  priced = eqb-true _ _ (not-false _ (passed _ 2 _ (fit_of _ (sym o.says ∙ ok)).1).0)

  pub priceable : Priceable t C
  unfolding readable
  priceable = record { table = readable (o.ready ok).usable; priced = omega (arith, length-keys Q, priced) }

module _ {Q : Problem} {m : ℕ} {C t : List ℕ} {a words : ℕ} {page : List ℕ} where
  cheapest-post : {r : ℕ} → cheapest_refusal Q m C t a words page ≡ r → (r ≡ 0 → ⊥) → CheapestPost Q m C t a words page (refused r) page
  cheapest-post {r} e f = record { result = reply-refused r _ e f; pages = page_left r _ page e f }

-- only 15 is left
cheapest_last : (Q : Problem) (m : ℕ) (C t : List ℕ) (a words : ℕ) (page : List ℕ) {keys : List ℕ} {r : ℕ} → Opened (priced_tests Q m C t a) Q t keys a r → r ≡ 0
    → a + 1 ≤ words → (a ≡ 0 → ⊥) → cheapest_refusal Q m C t a words page ≡ first_of ((short_page page (cheapest C (family_at t a)), 15) ∷ [])
unfolding cheapest_refusal
cheapest_last Q m C t a words page o ok room some =
    passed_by (priced_tests Q m C t a) o.says _ tt ok ∙ pass 8 _ (enough (a + 1) words room) ∙ pass 13 _ (something a some)

module _ {Q : Problem} {m : ℕ} {C t keys : List ℕ} {a words r : ℕ} {page : List ℕ} (o : Opened (priced_tests Q m C t a) Q t keys a r) where
  pub cheapest-refused : (r ≡ 0 → ⊥) → CheapestPost Q m C t a words page (refused r) page
  unfolding cheapest_refusal
  cheapest-refused f = cheapest-post (refused_by (priced_tests Q m C t a) o.says _ f) f

  module _ (ok : r ≡ 0) where
    pub cheapest_words : words < a + 1 → CheapestPost Q m C t a words page (refused 8) page
    unfolding cheapest_refusal
    cheapest_words h = cheapest-post (passed_by (priced_tests Q m C t a) o.says _ tt ok ∙ hit 8 _ (too_few (a + 1) words h)) (λ z. omega arith)

    module _ (room : a + 1 ≤ words) where
      pub cheapest-nothing : a ≡ 0 → CheapestPost Q m C t a words page (refused 13) page
      unfolding cheapest_refusal
      cheapest-nothing e =
          cheapest-post (passed_by (priced_tests Q m C t a) o.says _ tt ok ∙ pass 8 _ (enough (a + 1) words room) ∙ hit 13 _ (is_nothing a e)) (λ z. omega arith)

      module _ (some : a ≡ 0 → ⊥) {page' : List ℕ} where
        pub cheapest_short : Weighed (cheapest C (family_at t a)) (cost C (cheapest C (family_at t a))) page page' None → CheapestPost Q m C t a words page (refused 15) page'
        cheapest_short p = let r = chosen_short _ _ _ page (cheapest_last Q m C t a words page o ok room some) p in record { result = r.0; pages = r.1 }

        pub cheapest_delivers : {z : Chosen} → Weighed (cheapest C (family_at t a)) (cost C (cheapest C (family_at t a))) page page' (Some z)
            → CheapestPost Q m C t a words page (gives (z.packages, z.weight)) page'
        cheapest_delivers p = let r = chosen_written _ _ _ page (cheapest_last Q m C t a words page o ok room some) p in record { result = r.0; pages = r.1 }

-- ---- closest

-- only 15 is left
closest_last : (Q : Problem) (m : ℕ) (t : List ℕ) (a : ℕ) (s : List ℕ) (words : ℕ) (page : List ℕ) {r : ℕ} → OpenedList Q m t a s words r → r ≡ 0 → (a ≡ 0 → ⊥)
    → closest_refusal Q m t a s words page ≡ first_of ((short_page page (closest s (family_at t a)), 15) ∷ [])
unfolding closest_refusal
closest_last Q m t a s words page o ok some = passed_by (list_tests Q m t a s words) o.says _ tt ok ∙ pass 13 _ (something a some)

module _ {Q : Problem} {m : ℕ} {t : List ℕ} {a : ℕ} {s : List ℕ} {words r : ℕ} {page : List ℕ} (o : OpenedList Q m t a s words r) where
  closest-post : {n : ℕ} → closest_refusal Q m t a s words page ≡ n → (n ≡ 0 → ⊥) → ClosestPost Q m t a s words page (refused n) page
  closest-post {n} e f = record { result = reply-refused n _ e f; pages = page_left n _ page e f }

  pub closest-refused : (r ≡ 0 → ⊥) → ClosestPost Q m t a s words page (refused r) page
  unfolding closest_refusal
  closest-refused f = closest-post (refused_by (list_tests Q m t a s words) o.says _ f) f

  module _ (ok : r ≡ 0) where
    pub closest-nothing : a ≡ 0 → ClosestPost Q m t a s words page (refused 13) page
    unfolding closest_refusal
    closest-nothing e = closest-post (passed_by (list_tests Q m t a s words) o.says _ tt ok ∙ hit 13 _ (is_nothing a e)) (λ z. omega arith)

    module _ (some : a ≡ 0 → ⊥) {page' : List ℕ} where
      pub closest_short : Weighed (closest s (family_at t a)) (difference s (closest s (family_at t a))) page page' None → ClosestPost Q m t a s words page (refused 15) page'
      closest_short p = let r = chosen_short _ _ _ page (closest_last Q m t a s words page o ok some) p in record { result = r.0; pages = r.1 }

      pub closest_delivers : {z : Chosen} → Weighed (closest s (family_at t a)) (difference s (closest s (family_at t a))) page page' (Some z)
          → ClosestPost Q m t a s words page (gives (z.packages, z.weight)) page'
      closest_delivers p = let r = chosen_written _ _ _ page (closest_last Q m t a s words page o ok some) p in record { result = r.0; pages = r.1 }
