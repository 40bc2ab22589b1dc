-- One line fills its table (LineLaws).
use mathlib.Core.Path.{refl, ◌∙◌}
use Rattle.printing.proofs.LineLaws.{drawn_shown}
use Rattle.printing.proofs.drawn.Goals as goal

pub returns : goal.returns
returns c =
    let a = c.args in
    c.put_line.ensures
    ∙ drawn_shown a.text.now _ _ c.read_start-answer.ensures refl (c.told.ensures ∙ c.drawn_figures-figures.ensures)
