-- No header on line 1, or what comes after it.
use mathlib.Core.Path.{◌≡◌, sym, ◌∙◌}
use borrow.Author.Tests.{eq-eqb}
use Rattle.std.proofs.lemmas.Result.{err_from_is_err_and}
use Rattle.rules.specs.Frames.{frame_at}
use Rattle.rules.specs.Reading.{sheet_by, sheet_of}
use Rattle.rules.specs.declared.answers.Refusal.TheVariants.{Line}
use Rattle.sheet.proofs.HeaderLaws.{header_is, header_none}
use Rattle.sheet.proofs.SheetLaws.{kept, header_within}
use Rattle.sheet.proofs.header.sheet.Goals as goal

pub returns-in_err-header : goal.returns-in_err-header
unfolding sheet_of
returns-in_err-header c =
    let p = err_from_is_err_and c.from_residual.result c.from_residual.ensures.1 in
    let e = c.in_err-header.ensures in
    let none = header_none c.args.text.now (frame_at c.args.text.now 0) (sym c.header_frame.ensures ∙ e.ok_part) in
    let refusal : c.in_err-header.field-0.0 ≡ Line 1 = cc (rw e.ok_part at e.value) in
    rw (p.1, p.2, refusal, none) (kept (Line 1) _ _ c.requires)

pub after_header-requires-clause-next_le_line_bytes : goal.after_header-requires-clause-next_le_line_bytes
after_header-requires-clause-next_le_line_bytes c =
    let h = header_is (frame_at c.args.text.now 0) _ (sym c.header_frame.ensures ∙ c.in_ok-header.ensures.ok_part) in
    header_within _ _ h.0

pub returns : goal.returns
unfolding sheet_of sheet_by
returns c =
    let h = header_is (frame_at c.args.text.now 0) _ (sym c.header_frame.ensures ∙ c.in_ok-header.ensures.ok_part) in
    rw (h.0, eq-eqb _ 0 h.1) c.after_header.ensures
