-- THEOREMS: from version 1 to version 2 and back: what the converter says to a file b, and what it writes. After a refusal the buffer is as before, from
-- either version to the other: `refusal_leaves` of `Between`. `Bytes b` says that each byte is below 256, as the bytes of a slice are. Assumes nothing.
use mathlib.Core.Path.{◌≡◌, refl, sym, ap, ◌∙◌}
use mathlib.Core.Bool.{Bool, true, false, not}
use mathlib.Core.Logic.{◌↔◌}
use mathlib.Core.List.{List, [], ◌∷◌, ◌++◌}
use Prim.Native.Nat.{ℕ, ◌+◌, ◌*◌, ◌<◌, ◌≤◌}
use native.Mathlib.Omega.{arith}
use borrow.Author.Tests.{eqb-true, not-false}
use lib.Dec.{eqb, ltb}
use lib.ListN.{length, take}
use Rattle.base.proofs.Bools.{by_test}
use Rattle.statement.specs.Refusals.{first_of}
use Rattle.statement.specs.Replies.{Reply, gives}
use Rattle.statement.proofs.FirstOf.{pass, exchanged, Avoids, avoided, neither}
use Rattle.bids.specs.Bytes.{number_at}
use Rattle.bids.specs.Contents.{Contents, nth_school}
use Rattle.bids.specs.Format.{version1, version2, schools, packages, optional_slots, schools_in, school_place, package_place, file_length, contents, refusal}
use Rattle.bids.specs.Format.{cut, header_tests, record_tests}
use Rattle.bids.specs.Contract.{Legible}
use Rattle.bids.specs.declared.Layout.{Layout}
use Rattle.bids.proofs.Accepted.{accepted, as_other_version}
use Rattle.bids.proofs.Numbers.{Bytes}
use Rattle.bids.proofs.Places.{legible1, legible2}
use Rattle.bids.proofs.Records.{school_count}
use Rattle.conversion.specs.Writing.{file_of}
use Rattle.conversion.specs.Contract.{convert_refusal, says2, own_layout, other_layout, ConvertPost}
use Rattle.conversion.proofs.Restored.{fits}
use Rattle.conversion.proofs.Between.{Narrow, wide, present, narrow-says, Given, same-contents, still_accepted, back, converts}
use Rattle.conversion.proofs.Between.{short, only-narrow, length-written, was_accepted, says_own}
use Rattle.conversion.proofs.Between.{Converted, call_answers, call_converts, call_returns}
use Rattle.conversion.proofs.Answers.{by_file}

-- the length of a version 1 file, and of a version 2 file, with the schools and packages of b
abbrev pub length1 : List ℕ → ℕ
length1 b = 13 + 2 * schools b + 12 * packages b

abbrev pub length2 : List ℕ → ℕ
length2 b = 21 + 3 * schools b + 13 * packages b

is_length1 : (b : List ℕ) → file_length version1 (schools b) (packages b) ≡ length1 b
unfolding package_place school_place
is_length1 b = omega arith

is_length2 : (b : List ℕ) → file_length version2 (schools b) (packages b) ≡ length2 b
unfolding package_place school_place
is_length2 b = omega arith

-- what a call of `turn` leaves, from the version that the file says it has to the other
abbrev pub TurnPost : List ℕ → Reply ℕ → List ℕ → List ℕ → Type 0
TurnPost b r out out' = ConvertPost (own_layout b) (other_layout b) b r out out'

-- ---- an accepted file is of one version

module _ (b : List ℕ) (z : refusal version1 b ≡ 0) where
  -- THEOREM: an accepted version 1 file is 22 as version 2, to the reader and to the converter down
  pub not-version2 : refusal version2 b ≡ 22
  not-version2 = as_other_version (accepted z) version2 (λ e. omega arith)

  pub down-of-version1 : (room : ℕ) → convert_refusal version2 version1 b room ≡ 22
  down-of-version1 room = by_file version2 version1 b room (sym not-version2) (λ e. omega arith)

  -- THEOREM: it says that it is not of version 2, so a call of `turn` is one of the converter up
  pub says-version1 : says2 b ≡ false
  says-version1 = says_own (accepted z)

  pub layouts_version1 : (own_layout b ≡ version1) × (other_layout b ≡ version2)
  layouts_version1 = rw says-version1 (refl, refl)

  pub turn_is_up : {r : Reply ℕ} {out out' : List ℕ} → TurnPost b r out out' → ConvertPost version1 version2 b r out out'
  turn_is_up post = rw says-version1 at post

module _ (b : List ℕ) (z : refusal version2 b ≡ 0) where
  -- THEOREM: an accepted version 2 file is 22 as version 1, to the reader and to the converter up
  pub not-version1 : refusal version1 b ≡ 22
  not-version1 = as_other_version (accepted z) version1 (λ e. omega arith)

  pub up-of-version2 : (room : ℕ) → convert_refusal version1 version2 b room ≡ 22
  up-of-version2 room = by_file version1 version2 b room (sym not-version1) (λ e. omega arith)

  -- THEOREM: it says that it is of version 2, so a call of `turn` is one of the converter down
  pub says-version2 : says2 b ≡ true
  says-version2 = says_own (accepted z)

  pub layouts_version2 : (own_layout b ≡ version2) × (other_layout b ≡ version1)
  layouts_version2 = rw says-version2 (refl, refl)

  pub turn_is_down : {r : Reply ℕ} {out out' : List ℕ} → TurnPost b r out out' → ConvertPost version2 version1 b r out out'
  turn_is_down post = rw says-version2 at post

-- ---- up

-- a version 2 file that says what a version 1 file says has no optional slot
none-optional : (b c : List ℕ) → contents version2 c ≡ contents version1 b → optional_slots version2 c ≡ 0
unfolding optional_slots number_at
none-optional b c e = ap (λ (x : Contents). x.optional) e

module _ (b : List ℕ) (h : Bytes b) (z : refusal version1 b ≡ 0) where
  up : Given version1 version2 b
  up = record { readable = legible1; writable = legible2; version = omega arith; bytes = h; accepted = z }

  up-narrow : Narrow version2 (contents version1 b)
  unfolding optional_slots number_at
  up-narrow = record {
    sites = λ j l. let f = ((fits h legible1 (accepted z)).each_school j l).site in omega arith;
    optional = omega arith;
  }

  -- THEOREM: an accepted version 1 file is converted where there is room for the other
  pub up_converts : (room : ℕ) → length2 b ≤ room → convert_refusal version1 version2 b room ≡ 0
  up_converts room l = converts up room up-narrow (rw is_length2 l)

  -- THEOREM: and only there
  pub up_exactly : (room : ℕ) → (convert_refusal version1 version2 b room ≡ 0) ↔ (length2 b ≤ room)
  up_exactly room = ((λ e. rw is_length2 at (only-narrow up room e).1), up_converts room)

  -- THEOREM: without that room it is 15
  pub up-short : (room : ℕ) → room < length2 b → convert_refusal version1 version2 b room ≡ 15
  up-short room l = short up room up-narrow (rw is_length2 l)

  -- THEOREM: the file that is written is accepted as version 2, says the same, and has no optional slot
  pub up_accepted : refusal version2 (file_of version2 (contents version1 b)) ≡ 0
  up_accepted = still_accepted up up-narrow

  pub up-contents : contents version2 (file_of version2 (contents version1 b)) ≡ contents version1 b
  up-contents = same-contents up up-narrow

  pub up-optional : optional_slots version2 (file_of version2 (contents version1 b)) ≡ 0
  up-optional = none-optional b _ up-contents

  -- THEOREM: back from it comes the file itself, byte for byte
  pub up-down : file_of version1 (contents version2 (file_of version2 (contents version1 b))) ≡ b
  up-down = back up up-narrow

  -- THEOREM: what a call leaves that has the room
  pub up-call : {r : Reply ℕ} {out out' : List ℕ} → ConvertPost version1 version2 b r out out' → length2 b ≤ length out
      → Converted version2 (contents version1 b) (length2 b) r out out'
  up-call {r} {out} {out'} post l = rw (← is_length2 b) (call_converts up post (up_converts (length out) l))

  -- THEOREM: and the file that it writes has no optional slot
  pub up-call-optional : {r : Reply ℕ} {out out' : List ℕ} → ConvertPost version1 version2 b r out out' → length2 b ≤ length out
      → optional_slots version2 (take (length2 b) out') ≡ 0
  up-call-optional post l = none-optional b _ (up-call post l).says

  -- THEOREM: and a call back from what it wrote returns the file itself
  pub up-down-calls : {r r₂ : Reply ℕ} {out out' out₂ out₂' : List ℕ} → ConvertPost version1 version2 b r out out' → length2 b ≤ length out
      → ConvertPost version2 version1 (take (length2 b) out') r₂ out₂ out₂' → length b ≤ length out₂
      → (r₂ ≡ gives (length b)) × (take (length b) out₂' ≡ b)
  up-down-calls {out} {out'} post l post₂ l₂ = call_returns up post (up_converts (length out) l) (rw (← is_length2 b) at post₂) l₂

  -- THEOREM: a call of `turn` that has the room leaves what one of the converter up leaves
  pub turn_up : {r : Reply ℕ} {out out' : List ℕ} → TurnPost b r out out' → length2 b ≤ length out
      → Converted version2 (contents version1 b) (length2 b) r out out'
  turn_up post l = up-call (turn_is_up b z post) l

-- THEOREM: what is said going up, of any file: the reader's own refusal, else 15 where there is no room
pub up-says : (b : List ℕ) (room : ℕ) → Bytes b
    → convert_refusal version1 version2 b room ≡ first_of ((not (eqb (refusal version1 b) 0), refusal version1 b) ∷ (ltb room (length2 b), 15) ∷ [])
unfolding convert_refusal
up-says b room h =
    exchanged (not (eqb (refusal version1 b) 0)) (refusal version1 b) _ _ (λ e.
    let z = eqb-true (refusal version1 b) 0 (not-false (eqb (refusal version1 b) 0) e) in
    sym (pass (refusal version1 b) _ e) ∙ rw (← is_length2 b) (narrow-says (up b h z) room (up-narrow b h z)))

-- THEOREM: so neither 32 nor 33
pub up_never : (b : List ℕ) (room : ℕ) → Bytes b → (convert_refusal version1 version2 b room ≡ 32 → ⊥) × (convert_refusal version1 version2 b room ≡ 33 → ⊥)
unfolding refusal
up_never b room h = (never 32 tt (λ q. omega arith) (λ q. omega arith), never 33 tt (λ q. omega arith) (λ q. omega arith))
  where
    tests : List (Bool × ℕ)
    tests = (cut b, 20) ∷ (header_tests version1 b ++ record_tests version1 b)

    never : (n : ℕ) → Avoids n tests → (n ≡ 0 → ⊥) → (n ≡ 15 → ⊥) → convert_refusal version1 version2 b room ≡ n → ⊥
    never n a f g e = neither _ _ f (λ q. avoided n tests a (sym q)) g (sym (up-says b room h) ∙ e)

-- ---- down

-- a version 2 file that says nothing that version 1 cannot: no site of 256 or above, and no optional slot
pub record Plain (b : List ℕ) : Type 0 where
  pub sites : (j : ℕ) → j < schools b → (nth_school (schools_in version2 b) j).site < 256
  pub optional : optional_slots version2 b ≡ 0

module _ (b : List ℕ) (h : Bytes b) (z : refusal version2 b ≡ 0) where
  down : Given version2 version1 b
  down = record { readable = legible2; writable = legible1; version = omega arith; bytes = h; accepted = z }

  plain-narrow : Plain b → Narrow version1 (contents version2 b)
  plain-narrow p = record { sites = λ j l. p.sites j (rw school_count at l); optional = omega (arith, p.optional) }

  narrow-plain : Narrow version1 (contents version2 b) → Plain b
  narrow-plain n = record { sites = λ j l. n.sites j (rw school_count l); optional = omega (arith, n.optional) }

  -- THEOREM: an accepted version 2 file is converted exactly where it is plain and there is room for the other
  pub down_exactly : (room : ℕ) → (convert_refusal version2 version1 b room ≡ 0) ↔ (Plain b × (length1 b ≤ room))
  down_exactly room = (
    (λ e. let p = only-narrow down room e in (narrow-plain p.0, rw is_length1 at p.1)),
    (λ p. converts down room (plain-narrow p.0) (rw is_length1 p.1)),
  )

  -- THEOREM: so a call that answers had a plain file and the room, and the answer is the length of the other file
  pub down-only : {r : Reply ℕ} {out out' : List ℕ} {n : ℕ} → ConvertPost version2 version1 b r out out' → r ≡ gives n
      → Plain b × ((n ≡ length1 b) × (length1 b ≤ length out))
  down-only {out} post e =
      let w = call_answers post e in
      let p = (down_exactly (length out)).0 w.0 in (p.0, (w.1 ∙ length-written down ∙ is_length1 b, p.1))

  -- THEOREM: it is 32 where a listed school has a site of 256 or above
  pub down-wide : (room j : ℕ) → j < schools b → 256 ≤ (nth_school (schools_in version2 b) j).site → convert_refusal version2 version1 b room ≡ 32
  down-wide room j l w = wide down room j l w

  -- THEOREM: it is 33 where no listed school has, and a slot is optional
  pub down-optional : (room : ℕ) → ((j : ℕ) → j < schools b → (nth_school (schools_in version2 b) j).site < 256) → 0 < optional_slots version2 b
      → convert_refusal version2 version1 b room ≡ 33
  down-optional room s o = present down room (λ j l. s j (rw school_count at l)) o

  module _ (p : Plain b) where
    -- THEOREM: the file that is written is accepted as version 1, and says the same
    pub down_accepted : refusal version1 (file_of version1 (contents version2 b)) ≡ 0
    down_accepted = still_accepted down (plain-narrow p)

    pub down-contents : contents version1 (file_of version1 (contents version2 b)) ≡ contents version2 b
    down-contents = same-contents down (plain-narrow p)

    -- THEOREM: back from it comes the file itself, byte for byte
    pub down-up : file_of version2 (contents version1 (file_of version1 (contents version2 b))) ≡ b
    down-up = back down (plain-narrow p)

    -- THEOREM: without room it is 15
    pub down-short : (room : ℕ) → room < length1 b → convert_refusal version2 version1 b room ≡ 15
    down-short room l = short down room (plain-narrow p) (rw is_length1 l)

    -- THEOREM: what a call leaves that has the room
    pub down-call : {r : Reply ℕ} {out out' : List ℕ} → ConvertPost version2 version1 b r out out' → length1 b ≤ length out
        → Converted version1 (contents version2 b) (length1 b) r out out'
    down-call {r} {out} {out'} post l = rw (← is_length1 b) (call_converts down post ((down_exactly (length out)).1 (p, l)))

    -- THEOREM: and a call back from what it wrote returns the file itself
    pub down-up-calls : {r r₂ : Reply ℕ} {out out' out₂ out₂' : List ℕ} → ConvertPost version2 version1 b r out out' → length1 b ≤ length out
        → ConvertPost version1 version2 (take (length1 b) out') r₂ out₂ out₂' → length b ≤ length out₂
        → (r₂ ≡ gives (length b)) × (take (length b) out₂' ≡ b)
    down-up-calls {out} {out'} post l post₂ l₂ = call_returns down post ((down_exactly (length out)).1 (p, l)) (rw (← is_length1 b) at post₂) l₂

    -- THEOREM: a call of `turn` that has the room leaves what one of the converter down leaves
    pub turn-down : {r : Reply ℕ} {out out' : List ℕ} → TurnPost b r out out' → length1 b ≤ length out
        → Converted version1 (contents version2 b) (length1 b) r out out'
    turn-down post l = down-call (turn_is_down b z post) l

-- ---- turn, and turn again

-- THEOREM: where a call of `turn` answers, as in `turn_up` and `turn-down`, whatever the file b, a second call on what the first wrote returns b itself
pub turn_twice : (b : List ℕ) → Bytes b → {r r₂ : Reply ℕ} {out out' out₂ out₂' : List ℕ} {n : ℕ} → TurnPost b r out out' → r ≡ gives n
    → TurnPost (take n out') r₂ out₂ out₂' → length b ≤ length out₂ → (r₂ ≡ gives (length b)) × (take (length b) out₂' ≡ b)
turn_twice b h {r} {r₂} {out} {out'} {out₂} {out₂'} {n} post e post₂ l₂ =
    by_test (says2 b)
    (λ s. twice legible2 legible1 (omega arith) (rw s at post) (λ z. turn_is_up (take n out') z post₂))
    (λ s. twice legible1 legible2 (omega arith) (rw s at post) (λ z. turn_is_down (take n out') z post₂))
  where
    twice : {from to : Layout} → Legible from → Legible to → to.version < 65536 → ConvertPost from to b r out out'
        → (refusal to (take n out') ≡ 0 → ConvertPost to from (take n out') r₂ out₂ out₂') → (r₂ ≡ gives (length b)) × (take (length b) out₂' ≡ b)
    twice {from} {to} p q v first second =
        let w = call_answers first e in
        let g : Given from to b = record { readable = p; writable = q; version = v; bytes = h; accepted = was_accepted from to b (length out) w.0 } in
        let m = w.1 ∙ length-written g in
        call_returns g first w.0 (rw m at (second (rw m (call_converts g first w.0).accepted))) l₂
