-- The invariant: the passes from j on, run from here, end as the whole body run from its first pass does.
use Prim.Native.Nat.{◌-◌}
use mathlib.Core.Path.{◌≡◌}
use Rattle.rules.specs.Limits.{vector_bytes}
use Rattle.rules.specs.Units.{width_bytes}
use Rattle.rules.specs.Answers.{DONE}
use Rattle.rules.specs.Machine.{passes, standing, runs}
use Rattle.machine_kinds.specs.Trying.{state}
use Rattle.machine.specs.Running.{instructions}
use Rattle.machine.proofs.passes.Run.body_passes.Given as goal

abbrev pub invariant-loop-j : goal.invariant-loop-j
invariant-loop-j l =
    runs vector_bytes (width_bytes l.self.element.width) l.self.table.now l.self.budget (standing DONE l.steps (state l.registers l.work))
    (passes (l.full - l.j) l.j (instructions l.body))
    ≡ runs vector_bytes (width_bytes l.self.element.width) l.self.table.now l.self.budget (standing DONE l.initial.steps (state l.initial.registers l.initial.work))
    (passes (l.full - 1) 1 (instructions l.body))
