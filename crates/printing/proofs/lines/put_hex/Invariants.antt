-- Two digits more for each byte (LineLaws).
use mathlib.Core.Path.{◌≡◌}
use lib.ListN.{length}
use Rattle.printing.proofs.LineLaws.{digits}
use Rattle.printing.proofs.lines.put_hex.Given as goal

abbrev pub invariant-loop-i : goal.invariant-loop-i
invariant-loop-i l = (l.out ≡ digits l.initial.out l.said l.at l.i) × (length l.out ≡ length l.initial.out)
