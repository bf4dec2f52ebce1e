use mathlib.Core.Path.{sym, ◌∙◌}
use mathlib.Core.List.{[]}
use Rattle.statement.proofs.Results.{none_said, passed_up, not_none}
use Rattle.bids.proofs.Refused.{is_cut, by_header, header_passed, by_records, sized}
use Rattle.bids.proofs.admit.Goals as goal

pub returns-then-file-lt13-clause-refusal : goal.returns-then-file-lt13-clause-refusal
returns-then-file-lt13-clause-refusal c = is_cut c.args.layout c.args.file.now c.if-file-lt13.true

pub returns-in_err-admit_header-clause-refusal : goal.returns-in_err-admit_header-clause-refusal
returns-in_err-admit_header-clause-refusal c =
    let s = c.from_residual.result in let p = c.from_residual.ensures.1 in let w = c.in_err-admit_header.was in
    by_header c.args.layout c.args.file.now c.if-file-lt13.false (passed_up s p w ∙ c.admit_header.ensures) (not_none s p w)

pub admit_records-requires : goal.admit_records-requires
admit_records-requires c =
    let h = c.read_header-h.ensures in
    let passed = header_passed c.args.layout c.args.file.now [] (sym c.admit_header.ensures ∙ none_said c.in_ok-admit_header.was) in
    sized c.args.layout c.args.file.now c.requires h.schools h.slots h.packages passed.0

pub returns-in_err-admit_records-clause-refusal : goal.returns-in_err-admit_records-clause-refusal
returns-in_err-admit_records-clause-refusal c =
    let r = c.from_residual-in_err-admit_records in
    let behind = by_records c.args.layout c.args.file.now c.if-file-lt13.false (sym c.admit_header.ensures ∙ none_said c.in_ok-admit_header.was) in
    passed_up r.result r.ensures.1 c.in_err-admit_records.was ∙ c.admit_records.ensures ∙ sym behind

pub returns-clause-refusal : goal.returns-clause-refusal
returns-clause-refusal c =
    let behind = by_records c.args.layout c.args.file.now c.if-file-lt13.false (sym c.admit_header.ensures ∙ none_said c.in_ok-admit_header.was) in
    sym (none_said c.in_ok-admit_records.was) ∙ c.admit_records.ensures ∙ sym behind
