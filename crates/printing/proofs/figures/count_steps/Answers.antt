-- At most 2^16 times 2^10 steps in the body.
use native.Mathlib.Omega.{arith}
use Rattle.printing.proofs.FigureLaws.{few_body_steps}
use Rattle.printing.proofs.figures.count_steps.Goals as goal

pub overflow_mul-result : goal.overflow_mul-result
overflow_mul-result c = rw c.saturating_sub.ensures (omega (arith, few_body_steps _ c.requires))

pub overflow_add-result : goal.overflow_add-result
overflow_add-result c = rw c.saturating_sub.ensures (omega (arith, few_body_steps _ c.requires, c.requires.prologue))

pub overflow_add-result-2 : goal.overflow_add-result-2
overflow_add-result-2 c =
    rw c.saturating_sub.ensures (omega (arith, few_body_steps _ c.requires, c.requires.prologue, c.requires.epilogue))
