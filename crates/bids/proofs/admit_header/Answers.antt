use mathlib.Core.Path.{sym, ◌∙◌}
use Rattle.statement.proofs.FirstOf.{pass, hit, none}
use Rattle.bids.proofs.Refused.{mark_test, other_version_lem, many-items, many-packages, other_length, same_length, after_mark, after_version, after_size}
use Rattle.bids.proofs.admit_header.Goals as goal

pub returns-then-not-h : goal.returns-then-not-h
returns-then-not-h c = sym (hit 21 _ (mark_test c.requires.0 ∙ c.if-not-h.true))

pub returns-then-h-layout : goal.returns-then-h-layout
returns-then-h-layout c =
    let p = c.requires.0 in
    sym (after_mark p c.args.layout c.if-not-h.false ∙ hit 22 _ (other_version_lem p c.args.layout c.if-h-layout.true))

pub returns-then-h-gt64 : goal.returns-then-h-gt64
returns-then-h-gt64 c =
    let p = c.requires.0 in
    sym (after_version p c.args.layout c.if-not-h.false c.if-h-layout.false ∙ hit 24 _ (many-items p c.if-h-gt64.true))

pub returns-then-h-gt512 : goal.returns-then-h-gt512
returns-then-h-gt512 c =
    let p = c.requires.0 in
    sym (after_version p c.args.layout c.if-not-h.false c.if-h-layout.false ∙ hit 24 _ (many-packages p c.if-h-gt64.false c.if-h-gt512.true))

pub returns-then-file-file_length : goal.returns-then-file-file_length
returns-then-file-file_length c =
    let p = c.requires.0 in
    let left = after_size p c.args.layout c.if-not-h.false c.if-h-layout.false c.if-h-gt64.false c.if-h-gt512.false in
    sym (left ∙ hit 20 _ (other_length p c.args.layout c.file_length.ensures c.if-file-file_length.true))

pub returns : goal.returns
returns c =
    let p = c.requires.0 in
    let left = after_size p c.args.layout c.if-not-h.false c.if-h-layout.false c.if-h-gt64.false c.if-h-gt512.false in
    sym (left ∙ pass 20 _ (same_length p c.args.layout c.file_length.ensures c.if-file-file_length.false) ∙ none)
