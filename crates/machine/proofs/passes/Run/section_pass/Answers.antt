-- A row that is a FAULT; the other goals are found by PassLaws.
use mathlib.Core.Path.{◌∙◌}
use Rattle.rules.specs.Units.{width_bytes}
use Rattle.machine.proofs.PassLaws.{fault_first}
use Rattle.machine.proofs.passes.Run.section_pass.Goals as goal

pub returns-then-not-act : goal.returns-then-not-act
returns-then-not-act c =
    let l = c.loop-row in
    let a = c.args in
    let acted = rw (c.instruction-i.ensures, c.if-not-act.true) at c.act.ensures in
    fault_first (width_bytes a.self.element.width) a.self.table.now a.self.budget a.section.entries.now a.pass.0 l.row a.section.rows
    c.loop-row-test.true l.steps l.registers l.work _ _ c.if-self-steps.false acted
    ∙ l.invariant
