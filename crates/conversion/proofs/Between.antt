-- From one layout to another, whatever the two are: when the converter writes, what the file says that it writes, and what a call leaves. Assumes nothing.
use mathlib.Core.Path.{◌≡◌, sym, ap, subst, ◌∙◌}
use mathlib.Core.Bool.{false, not}
use mathlib.Core.List.{List, [], ◌∷◌, ◌++◌}
use Prim.Native.Nat.{ℕ, zero, suc, ◌-◌, ◌*◌, ◌^◌, ◌<◌, ◌≤◌}
use native.Mathlib.Omega.{arith}
use borrow.Author.Tests.{lt-ltb, le-ltb, eq-eqb, ltb-false, eqb-true, not-false}
use lib.Dec.{eqb, ltb}
use lib.ListN.{length, take, drop}
use lib.Seq.{take_at, drop_at}
use Rattle.base.proofs.Bools.{by_test, and_left}
use Rattle.itemset.specs.Items.{belowb}
use Rattle.itemset.proofs.Laws.{below_lt, lt_below}
use Rattle.statement.specs.Refusals.{first_of}
use Rattle.statement.specs.Replies.{Reply, refused, gives, reply}
use Rattle.statement.specs.Postconditions.{written}
use Rattle.statement.proofs.FirstOf.{pass, hit, none, passed}
use Rattle.statement.proofs.TestLaws.{was_given}
use Rattle.bids.specs.Contents.{Contents, nth_school, nth_package, same_school, school_in}
use Rattle.bids.specs.Format.{optional_slots, schools_in, file_length, contents, cut, content_tests, refusal}
use Rattle.bids.specs.Format as F
use Rattle.bids.specs.Contract.{Legible}
use Rattle.bids.specs.declared.Layout.{Layout}
use Rattle.bids.specs.declared.School.{School}
use Rattle.bids.proofs.Accepted.{Accepted, accepted, none-stray}
use Rattle.bids.proofs.Fit.{kept}
use Rattle.bids.proofs.Laws.{first_holds, none-some, all_none}
use Rattle.bids.proofs.Numbers.{Bytes, pow_bytes}
use Rattle.bids.proofs.Records.{school_count, package_count}
use Rattle.conversion.specs.Writing.{file_of}
use Rattle.conversion.specs.Contract.{wide_site, optional_present, convert_refusal, says2, ConvertPost}
use Rattle.conversion.proofs.Written.{length-file, file-small}
use Rattle.conversion.proofs.Restored.{Fits, fits, contents-written, written_accepted, restored}

-- sites, and contents, for which the layout has the bytes
abbrev pub NarrowSites : Layout → List School → Type 0
NarrowSites L us = (j : ℕ) → j < length us → (nth_school us j).site < 256 ^ L.site

pub record Narrow (L : Layout) (x : Contents) : Type 0 where
  pub sites : NarrowSites L x.schools
  pub optional : x.optional < 256 ^ (L.header - 9)

-- ---- the tests 32 and 33

below_bytes : (v w : ℕ) → v < 256 ^ w → not (belowb v (8 * w)) ≡ false
below_bytes v w h = rw (lt_below v (8 * w) (rw pow_bytes h))

bytes_below : (v w : ℕ) → not (belowb v (8 * w)) ≡ false → v < 256 ^ w
bytes_below v w e = rw pow_bytes at (below_lt v (8 * w) (not-false (belowb v (8 * w)) e))

module _ (L : Layout) where
  not_wide : (us : List School) → NarrowSites L us → wide_site L us ≡ false
  unfolding wide_site
  not_wide us h = all_none _ (length us) (λ j l. below_bytes _ L.site (h j l))

  wide-not : (us : List School) → wide_site L us ≡ false → NarrowSites L us
  unfolding wide_site
  wide-not us e j l = bytes_below _ L.site (none-some _ (length us) j e l)

  not_present : (x : Contents) → x.optional < 256 ^ (L.header - 9) → optional_present L x ≡ false
  unfolding optional_present
  not_present x h = below_bytes x.optional (L.header - 9) h

  present_not : (x : Contents) → optional_present L x ≡ false → x.optional < 256 ^ (L.header - 9)
  unfolding optional_present
  present_not x e = bytes_below x.optional (L.header - 9) e

-- ---- contents that fit one layout and are narrow enough for another fit that

-- the place of package k's school in the list
abbrev school_of : Contents → ℕ → ℕ
school_of x k = school_in x.schools (length x.schools) (nth_package x.packages k).school

-- a package's school is listed, so its site is that school's
site-listed : (x : Contents) (k : ℕ) → school_of x k < length x.schools
    → (nth_school x.schools (school_of x k)).site ≡ (nth_package x.packages k).school.site
unfolding school_in same_school
site-listed x k l =
    let u = (nth_package x.packages k).school in
    eqb-true _ _ (and_left (eqb (nth_school x.schools (school_of x k)).site u.site) _ (first_holds _ (length x.schools) l))

refit : {from to : Layout} {x : Contents} → to.version < 65536 → first_of (content_tests x) ≡ 0 → Fits from x → Narrow to x → Fits to x
refit {from} {to} {x} version sensible f n = record {
  version = version;
  schools = f.schools;
  slots = f.slots;
  packages = f.packages;
  optional = n.optional;
  each_school = λ j l. record { site = n.sites j l; number = (f.each_school j l).number };
  each_package = λ k l.
      let p = f.each_package k l in
      let q = (kept x (none-stray x sensible) k l).0 in
      record {
        school = record { site = rw (site-listed x k q) at (n.sites (school_of x k) q); number = p.school.number };
        slots = p.slots;
        cost = p.cost;
      };
}

-- ---- an accepted file of one layout, and a layout in which another is written

pub record Given (from to : Layout) (b : List ℕ) : Type 0 where
  pub readable : Legible from
  pub writable : Legible to
  pub version : to.version < 65536
  pub bytes : Bytes b
  pub accepted : refusal from b ≡ 0

module _ {from to : Layout} {b : List ℕ} (g : Given from to b) where
  pub length-written : length (file_of to (contents from b)) ≡ file_length to (F.schools b) (F.packages b)
  length-written = length-file to (contents from b) g.writable.header.0 ∙ rw (school_count from b, package_count from b)

  fits_own : Fits from (contents from b)
  fits_own = fits g.bytes g.readable (accepted g.accepted)

  module _ (n : Narrow to (contents from b)) where
    fitting : Fits to (contents from b)
    fitting = refit g.version (accepted g.accepted).sensible fits_own n

    pub same-contents : contents to (file_of to (contents from b)) ≡ contents from b
    same-contents = contents-written g.writable fitting

    pub still_accepted : refusal to (file_of to (contents from b)) ≡ 0
    still_accepted =
        let a = accepted g.accepted in
        written_accepted g.writable fitting (rw school_count a.items) (rw package_count a.few) a.sensible

    -- back from it comes the file itself
    pub back : file_of from (contents to (file_of to (contents from b))) ≡ b
    back = ap (file_of from) same-contents ∙ restored from b g.readable g.bytes g.accepted

  -- ---- the converter's refusal

  own_passed : not (eqb (refusal from b) 0) ≡ false
  own_passed = rw (eq-eqb (refusal from b) 0 g.accepted)

  module _ (room : ℕ) where
    -- 32
    pub wide : (j : ℕ) → j < F.schools b → 256 ^ to.site ≤ (nth_school (schools_in from b) j).site → convert_refusal from to b room ≡ 32
    unfolding convert_refusal
    wide j l h =
        pass _ _ own_passed
        ∙ hit 32 _ (by_test (wide_site to (schools_in from b)) (λ e. e) (λ e. absurd (omega (arith, wide-not to (schools_in from b) e j (rw school_count l)))))

    narrow_sites : NarrowSites to (schools_in from b) → convert_refusal from to b room
        ≡ first_of ((optional_present to (contents from b), 33) ∷ (ltb room (length (file_of to (contents from b))), 15) ∷ [])
    unfolding convert_refusal
    narrow_sites s = pass _ _ own_passed ∙ pass 32 _ (not_wide to (schools_in from b) s)

    -- 33
    pub present : NarrowSites to (schools_in from b) → 256 ^ (to.header - 9) ≤ optional_slots from b → convert_refusal from to b room ≡ 33
    present s h =
        narrow_sites s
        ∙ hit 33 _ (by_test (optional_present to (contents from b)) (λ e. e) (λ e. absurd (omega (arith, present_not to (contents from b) e))))

    -- neither: 15, or none
    pub narrow-says : Narrow to (contents from b)
        → convert_refusal from to b room ≡ first_of ((ltb room (file_length to (F.schools b) (F.packages b)), 15) ∷ [])
    narrow-says n = rw (← length-written) (narrow_sites n.sites ∙ pass 33 _ (not_present to (contents from b) n.optional))

    pub converts : Narrow to (contents from b) → file_length to (F.schools b) (F.packages b) ≤ room → convert_refusal from to b room ≡ 0
    converts n l = narrow-says n ∙ pass 15 [] (le-ltb room _ l) ∙ none

    pub short : Narrow to (contents from b) → room < file_length to (F.schools b) (F.packages b) → convert_refusal from to b room ≡ 15
    short n l = narrow-says n ∙ hit 15 [] (lt-ltb room _ l)

    pub only-narrow : convert_refusal from to b room ≡ 0 → Narrow to (contents from b) × (file_length to (F.schools b) (F.packages b) ≤ room)
    unfolding convert_refusal
    only-narrow e =
        let p = passed (wide_site to (schools_in from b)) 31 _ (sym (pass _ _ own_passed) ∙ e) in
        let q = passed (optional_present to (contents from b)) 32 _ p.1 in
        let r = passed (ltb room (length (file_of to (contents from b)))) 14 [] q.1 in (
          record { sites = wide-not to (schools_in from b) p.0; optional = present_not to (contents from b) q.0 },
          rw length-written at (ltb-false room _ r.0),
        )

-- what is converted was accepted
pub was_accepted : (from to : Layout) (b : List ℕ) (room : ℕ) → convert_refusal from to b room ≡ 0 → refusal from b ≡ 0
unfolding convert_refusal
was_accepted from to b room e = by_test (eqb (refusal from b) 0) (eqb-true (refusal from b) 0) (λ f. sym (hit (refusal from b) _ (ap not f)) ∙ e)

-- an accepted file says the version of its layout
pub says_own : {L : Layout} {b : List ℕ} → Accepted L b → says2 b ≡ eqb L.version 2
unfolding says2 cut
says_own {L} {b} a = rw (le-ltb (length b) 13 a.uncut, a.version)

-- ---- a call

-- r says that n bytes were written: they are the file of the layout L that says x, which is accepted, and the rest of the buffer is unchanged
pub record Converted (L : Layout) (x : Contents) (n : ℕ) (r : Reply ℕ) (out out' : List ℕ) : Type 0 where
  pub answer : r ≡ gives n
  pub file : take n out' ≡ file_of L x
  pub accepted : refusal L (take n out') ≡ 0
  pub says : contents L (take n out') ≡ x
  pub rest : drop n out' ≡ drop n out

-- THEOREM: a refusal leaves the buffer as it was
pub refusal_leaves : {from to : Layout} {b : List ℕ} {r : Reply ℕ} {out out' : List ℕ} {n : ℕ} → ConvertPost from to b r out out'
    → r ≡ refused n → out' ≡ out
refusal_leaves {from} {to} {b} {r} {out} {out'} post e = go (convert_refusal from to b (length out)) post.answer post.file
  where
    go : (k : ℕ) → r ≡ reply k (length (file_of to (contents from b))) → out' ≡ written k (file_of to (contents from b)) out → out' ≡ out
    go zero p q = let z : ◌≡◌ {A = ℕ} 0 1 = cc in absurd (omega arith)
    go (suc k) p q = q

-- a call that answers converts, and the answer is the length of the file
pub call_answers : {from to : Layout} {b : List ℕ} {r : Reply ℕ} {out out' : List ℕ} {n : ℕ} → ConvertPost from to b r out out'
    → r ≡ gives n → (convert_refusal from to b (length out) ≡ 0) × (n ≡ length (file_of to (contents from b)))
call_answers {from} {to} {b} {out} {n} post e = was_given n (convert_refusal from to b (length out)) _ (sym e ∙ post.answer)

module _ {from to : Layout} {b : List ℕ} (g : Given from to b) {r : Reply ℕ} {out out' : List ℕ} (post : ConvertPost from to b r out out')
    (e : convert_refusal from to b (length out) ≡ 0) where
  pub call_converts : Converted to (contents from b) (file_length to (F.schools b) (F.packages b)) r out out'
  call_converts =
      let n = file_length to (F.schools b) (F.packages b) in
      let narrow = (only-narrow g (length out) e).0 in
      let l = length-written g in
      let f : out' ≡ file_of to (contents from b) ++ drop n out = rw (e, l) at post.file in
      let t : take n out' ≡ file_of to (contents from b) = rw f (take_at (file_of to (contents from b)) (drop n out) n l) in
      record {
        answer = rw (e, l) at post.answer;
        file = t;
        accepted = rw t (still_accepted g narrow);
        says = ap (contents to) t ∙ same-contents g narrow;
        rest = rw f (drop_at (file_of to (contents from b)) (drop n out) n l);
      }

-- a second call that converts what the first wrote returns the file itself
pub call_returns : {from to : Layout} {b : List ℕ} → Given from to b → {r r₂ : Reply ℕ} {out out' out₂ out₂' : List ℕ}
    → ConvertPost from to b r out out' → convert_refusal from to b (length out) ≡ 0
    → ConvertPost to from (take (file_length to (F.schools b) (F.packages b)) out') r₂ out₂ out₂' → length b ≤ length out₂
    → (r₂ ≡ gives (length b)) × (take (length b) out₂' ≡ b)
call_returns {from} {to} {b} g {out'} {out₂} post e post₂ room =
    let c = take (file_length to (F.schools b) (F.packages b)) out' in
    let first = call_converts g post e in
    let own = fits_own g in
    let g₂ : Given to from c = record {
      readable = g.writable;
      writable = g.readable;
      version = own.version;
      bytes = rw first.file (file-small to (contents from b));
      accepted = first.accepted;
    } in
    let narrow : Narrow from (contents to c) =
    subst (λ (x : Contents). Narrow from x) (sym first.says) (record { sites = λ j l. (own.each_school j l).site; optional = own.optional }) in
    let file : file_of from (contents to c) ≡ b = ap (file_of from) first.says ∙ restored from b g.readable g.bytes g.accepted in
    let long : file_length from (F.schools c) (F.packages c) ≡ length b = sym (length-written g₂) ∙ ap length file in
    let second = call_converts g₂ post₂ (converts g₂ (length out₂) narrow (rw long room)) in
    (second.answer ∙ ap gives long, rw (← long) (second.file ∙ file))
