use native.Mathlib.Omega.{arith}
use Rattle.rules.specs.Trees.{node_at}
use Rattle.printing.proofs.ShiftLaws.{no_shifts, one_node_more, few_shifts}
use Rattle.printing.proofs.figures.count_shifts.Goals as goal

pub loop-k-init : goal.loop-k-init
loop-k-init c = no_shifts _

pub overflow_add-shifts : goal.overflow_add-shifts
overflow_add-shifts c =
    omega (arith, few_shifts (node_at c.args.nodes.now) c.loop-k.k c.node_at.result c.loop-k.invariant c.shift_of-shifts.ensures)

pub loop-k-preserved : goal.loop-k-preserved
loop-k-preserved c = one_node_more (node_at c.args.nodes.now) c.loop-k.k c.loop-k.invariant c.node_at.ensures c.shift_of-shifts.ensures
