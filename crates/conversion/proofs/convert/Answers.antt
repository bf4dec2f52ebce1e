use mathlib.Core.Path.{refl, sym, ◌∙◌}
use native.Mathlib.Omega.{arith}
use lib.ListN.{length}
use Rattle.std.specs.Prelude.{Err}
use Rattle.statement.specs.declared.Refusal.TheVariants.{ShortPage}
use Rattle.statement.proofs.Results.{none_said, passed_up, not_none}
use Rattle.statement.proofs.TestLaws.{reply_gives}
use Rattle.bids.specs.Format.{contents}
use Rattle.bids.proofs.Accepted.{accepted_sized}
use Rattle.conversion.specs.Writing.{file_of}
use Rattle.conversion.proofs.Answers.{by_file, by_lost, too_long, converted, convert-refused}
use Rattle.conversion.proofs.Putting.{schools-inside, file-long}
use Rattle.conversion.proofs.convert.Goals as goal

pub returns-in_err-h : goal.returns-in_err-h
returns-in_err-h c =
    let s = c.from_residual.result in let p = c.from_residual.ensures.1 in let w = c.in_err-h.was in
    convert-refused s (by_file _ _ _ _ (passed_up s p w ∙ c.admit.ensures.refusal) (not_none s p w)) (not_none s p w)

pub admit_narrow-requires-clause-file_in_bounds : goal.admit_narrow-requires-clause-file_in_bounds
admit_narrow-requires-clause-file_in_bounds c =
    let sized = accepted_sized c.args.from c.args.file.now (sym c.in_ok-h.ensures.refusal) c.requires.0 refl refl refl in
    (schools-inside c.args.from sized, c.in_ok-h.ensures.header.schools)

pub returns-in_err-admit_narrow : goal.returns-in_err-admit_narrow
returns-in_err-admit_narrow c =
    let r = c.from_residual-in_err-admit_narrow in let s = r.result in let p = r.ensures.1 in let w = c.in_err-admit_narrow.was in
    convert-refused s (by_lost _ _ _ _ (sym c.in_ok-h.ensures.refusal) (passed_up s p w ∙ c.admit_narrow.ensures) (not_none s p w)) (not_none s p w)

pub returns-then-out-length : goal.returns-then-out-length
returns-then-out-length c =
    let y = sym c.admit_narrow.ensures ∙ none_said c.in_ok-admit_narrow.was in
    let long = file-long c.args.from c.args.to c.in_ok-h.ensures.header c.requires.1 in
    convert-refused (Err ShortPage) (too_long _ _ _ _ (sym c.in_ok-h.ensures.refusal) y (omega (arith, long, c.file_length-length.ensures, c.if-out-length.true)))
    (λ z. omega arith)

pub write-requires-clause-header_post : goal.write-requires-clause-header_post
write-requires-clause-header_post c =
    let h = c.in_ok-h.ensures.header in
    (h, accepted_sized c.args.from c.args.file.now (sym c.in_ok-h.ensures.refusal) c.requires.0 h.schools h.slots h.packages)

pub returns : goal.returns
returns c =
    let y = sym c.admit_narrow.ensures ∙ none_said c.in_ok-admit_narrow.was in
    let long = file-long c.args.from c.args.to c.in_ok-h.ensures.header c.requires.1 in
    let e = converted c.args.from c.args.to c.args.file.now (length c.args.out.now) (sym c.in_ok-h.ensures.refusal) y
    (omega (arith, long, c.file_length-length.ensures, c.if-out-length.false)) in
    record {
      answer = rw (c.file_length-length.ensures ∙ sym long) (reply_gives (length (file_of c.args.to (contents c.args.from c.args.file.now))) e);
      file = rw e c.write.ensures;
    }
