-- The measure is twice the number of the node; the code of a shift is below that of its node, and above that of its child.
use Rattle.std.proofs.Common.{◌+◌, ◌*◌}
use Rattle.translating.proofs.expressions.+gen_expr_gen_shift.Given as goal

abbrev pub decreases-gen_expr : goal.decreases-gen_expr
decreases-gen_expr l = 2 * l.k

abbrev pub decreases-gen_shift : goal.decreases-gen_shift
decreases-gen_shift l = 2 * l.child + 1
