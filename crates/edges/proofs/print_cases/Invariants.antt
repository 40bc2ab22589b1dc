-- The place stays within the input, and each case ends further on.
use Prim.Native.Nat.{◌-◌, ◌≤◌}
use lib.ListN.{length}
use Rattle.edges.proofs.print_cases.Given as goal

abbrev pub invariant-loop-case : goal.invariant-loop-case
invariant-loop-case g l = l.at ≤ length l.input

abbrev pub decreases-loop-case : goal.decreases-loop-case
decreases-loop-case g l = length l.input - l.at
