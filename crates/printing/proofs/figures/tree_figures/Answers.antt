-- Each figure is its function's.
use Rattle.printing.proofs.figures.tree_figures.Goals as goal

pub returns : goal.returns
returns c =
    rw (c.count_steps-steps.ensures, c.size-size.ensures, c.count_shifts-shifts.ensures, c.header_of-header.ensures)
