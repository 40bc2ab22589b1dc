-- The shifts among the nodes that were looked at.
use mathlib.Core.Path.{◌≡◌}
use Rattle.rules.specs.Trees.{node_at}
use Rattle.printing.specs.Figuring.{shifts_in}
use Rattle.printing.proofs.figures.count_shifts.Given as goal

abbrev pub invariant-loop-k : goal.invariant-loop-k
invariant-loop-k l = l.shifts ≡ shifts_in (node_at l.nodes) l.k
