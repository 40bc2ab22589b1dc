-- No frame, or by the frame's kind.
use mathlib.Core.Path.{◌≡◌, sym, ◌∙◌}
use Rattle.std.specs.Prelude.{None}
use Rattle.std.proofs.lemmas.Result.{err_from_is_err_and}
use Rattle.rules.specs.Reading.{line_by}
use Rattle.rules.specs.declared.answers.Refusal.TheVariants.{Line}
use Rattle.sheet.proofs.HeaderLaws.{later_line, end_frame, node_frame}
use Rattle.sheet.proofs.line.line_at.Goals as goal

pub returns-in_err-frame : goal.returns-in_err-frame
unfolding line_by
returns-in_err-frame c =
    let p = err_from_is_err_and c.from_residual.result c.from_residual.ensures.1 in
    let e = c.in_err-frame.ensures in
    let refusal : c.in_err-frame.field-0.0 ≡ Line c.args.here.line = cc (rw e.ok_part at e.value) in
    rw (p.1, p.2, refusal) (later_line _ _ _ None (sym e.ok_part ∙ c.later_frame.ensures))

pub returns-then-frame-number : goal.returns-then-frame-number
returns-then-frame-number c =
    c.end_line.ensures
    ∙ end_frame _ _ _ _ (sym c.in_ok-frame.ensures.ok_part ∙ c.later_frame.ensures) (c.if-frame-number.true ∙ c.number.ensures)

pub returns-else-frame-number : goal.returns-else-frame-number
returns-else-frame-number c =
    c.node_line.ensures
    ∙ node_frame _ _ _ _ (sym c.in_ok-frame.ensures.ok_part ∙ c.later_frame.ensures) (λ e. c.if-frame-number.false (e ∙ sym c.number.ensures))
