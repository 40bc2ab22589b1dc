-- A line more for each rule (LineLaws).
use mathlib.Core.Path.{◌≡◌}
use Rattle.sheet.specs.Left.{sheet_left}
use Rattle.printing.proofs.LineLaws.{shown}
use Rattle.printing.proofs.places.Given as goal

abbrev pub invariant-loop-rule : goal.invariant-loop-rule
invariant-loop-rule l = l.out ≡ shown (sheet_left l.answer l.head l.nodes) l.initial.out l.rule
