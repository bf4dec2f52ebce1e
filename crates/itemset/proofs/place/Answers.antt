use mathlib.Core.Path.{sym, ap, ◌∙◌}
use Prim.Native.Nat.{ℕ, ◌+◌, ◌*◌, ◌%◌, ◌^◌}
use Rattle.itemset.proofs.Places.{place_words, place_words_lem, place_one}
use Rattle.itemset.proofs.Three.{one_word, words, known}
use Rattle.itemset.proofs.place.Goals as goal

pub returns-then-x : goal.returns-then-x
returns-then-x c = ap (λ (n : ℕ). n % c.args.places) (sym (one_word c.args.x c.if-x.true))

pub returns : goal.returns
unfolding place_words
returns c = c.step-2.ensures ∙ ap (λ (n : ℕ). (n * 2 ^ 64 + c.args.x.w0) % c.args.places) c.step.ensures
    ∙ ap (λ (n : ℕ). ((n * 2 ^ 64 + c.args.x.w1) % c.args.places * 2 ^ 64 + c.args.x.w0) % c.args.places) (sym (place_one c.args.x.w2 c.args.places))
    ∙ sym (place_words_lem (words c.args.x (known c.args.x c.well_formed.0)) c.args.places)
