-- The first answer that is a refusal, else the placed tables' figures (FigureLaws).
use mathlib.Core.Path.{◌∙◌}
use Rattle.std.proofs.lemmas.Result.{err_from_is_err_and}
use Rattle.printing.proofs.FigureLaws.{placed_unread, placed_refused, placed_never_refused, placed_countable, placed_told}
use Rattle.printing.proofs.figures.placed_figures.Goals as goal

pub returns-in_err-answer : goal.returns-in_err-answer
returns-in_err-answer c =
    let a = c.args in
    let p = err_from_is_err_and c.from_residual.result c.from_residual.ensures.1 in
    rw (p.1, p.2, c.in_err-answer.was) (placed_unread a.head.now a.nodes.now a.rule _)

pub returns-in_err-program : goal.returns-in_err-program
returns-in_err-program c =
    let a = c.args in
    let p = err_from_is_err_and c.from_residual-in_err-program.result c.from_residual-in_err-program.ensures.1 in
    rw (p.1, p.2, c.in_ok-answer.was) (placed_refused a.head.now a.nodes.now a.rule _ c.plan.ensures _ c.in_err-program.was)

pub returns-in_err-place : goal.returns-in_err-place
returns-in_err-place c =
    let a = c.args in
    absurd (placed_never_refused a.head.now a.nodes.now a.rule _ c.plan.ensures _ c.in_ok-program.was _ c.place.ensures _ c.in_err-place.was)

pub tree_figures-requires : goal.tree_figures-requires
tree_figures-requires c =
    let a = c.args in
    placed_countable a.head.now a.nodes.now a.rule _ c.plan.ensures _ c.in_ok-program.was _ c.place.ensures

pub returns : goal.returns
returns c =
    let a = c.args in
    rw c.in_ok-answer.was
    (c.tree_figures.ensures ∙ placed_told a.head.now a.nodes.now a.rule _ c.plan.ensures _ c.in_ok-program.was _ c.place.ensures)
