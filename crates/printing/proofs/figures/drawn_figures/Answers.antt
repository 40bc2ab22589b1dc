-- The first answer that is a refusal, else the tables' figures (FigureLaws).
use mathlib.Core.Path.{◌∙◌}
use Rattle.std.proofs.lemmas.Result.{err_from_is_err_and}
use Rattle.printing.proofs.FigureLaws.{drawn_unread, drawn_refused, drawn_countable, drawn_told}
use Rattle.printing.proofs.figures.drawn_figures.Goals as goal

pub returns-in_err-answer : goal.returns-in_err-answer
returns-in_err-answer c =
    let a = c.args in
    let p = err_from_is_err_and c.from_residual.result c.from_residual.ensures.1 in
    rw (p.1, p.2, c.in_err-answer.was) (drawn_unread a.head.now a.nodes.now _)

pub returns-in_err-program : goal.returns-in_err-program
returns-in_err-program c =
    let a = c.args in
    let p = err_from_is_err_and c.from_residual-in_err-program.result c.from_residual-in_err-program.ensures.1 in
    rw (p.1, p.2, c.in_ok-answer.was) (drawn_refused a.head.now a.nodes.now _ c.translate.ensures _ c.in_err-program.was)

pub tree_figures-requires : goal.tree_figures-requires
tree_figures-requires c =
    let a = c.args in
    drawn_countable a.head.now a.nodes.now _ c.translate.ensures _ c.in_ok-program.was

pub returns : goal.returns
returns c =
    let a = c.args in
    rw c.in_ok-answer.was
    (c.tree_figures.ensures ∙ drawn_told a.head.now a.nodes.now _ c.translate.ensures _ c.in_ok-program.was)
