-- The invariant is Going; each line keeps it, stops or ends.
use Prim.Native.Nat.{◌-◌}
use lib.ListN.{length}
use Rattle.rules.specs.Units.{width_bytes}
use Rattle.sheet.proofs.LineLaws.{Going}
use Rattle.sheet.proofs.lines.read_lines.Given as goal

abbrev pub invariant-loop-node : goal.invariant-loop-node
invariant-loop-node l = Going l.text (width_bytes l.width) (length l.initial.nodes) l.initial.here l.here l.nodes

abbrev pub decreases-loop-node : goal.decreases-loop-node
decreases-loop-node l = 64 - l.here.count
