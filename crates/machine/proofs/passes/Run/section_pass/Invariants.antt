-- The invariant: what is left of the section, run from here, ends as the whole section run from its start does.
use Prim.Native.Nat.{◌-◌}
use mathlib.Core.Path.{◌≡◌}
use Rattle.rules.specs.Limits.{vector_bytes}
use Rattle.rules.specs.Units.{width_bytes}
use Rattle.rules.specs.Answers.{DONE}
use Rattle.rules.specs.Machine.{instructions_from, in_pass, standing, runs}
use Rattle.machine_kinds.specs.Trying.{state}
use Rattle.machine.specs.Running.{instructions}
use Rattle.machine.proofs.passes.Run.section_pass.Given as goal

abbrev pub invariant-loop-row : goal.invariant-loop-row
invariant-loop-row l =
    runs vector_bytes (width_bytes l.self.element.width) l.self.table.now l.self.budget (standing DONE l.steps (state l.registers l.work))
    (in_pass l.pass.0 (instructions_from l.section.entries.now l.row (l.section.rows - l.row)))
    ≡ runs vector_bytes (width_bytes l.self.element.width) l.self.table.now l.self.budget (standing DONE l.initial.steps (state l.initial.registers l.initial.work))
    (in_pass l.pass.0 (instructions l.section))
