-- A pass that stops is where the run stops; the other goals are found by PassLaws.
use Prim.Native.Nat.{◌+◌, ◌-◌}
use mathlib.Core.Path.{◌∙◌}
use Rattle.std.proofs.lemmas.Result.{err_from_is_err_and}
use Rattle.rules.specs.Units.{width_bytes}
use Rattle.rules.specs.Answers.{DONE}
use Rattle.rules.specs.Machine.{in_pass, passes, standing}
use Rattle.machine_kinds.specs.Trying.{state}
use Rattle.machine.specs.Running.{instructions}
use Rattle.machine.proofs.PassLaws.{passes_more, part_stopped}
use Rattle.machine.proofs.passes.Run.body_passes.Goals as goal

pub returns-in_err-steps : goal.returns-in_err-steps
returns-in_err-steps c =
    let l = c.loop-j in
    let a = c.args in
    let is = instructions a.body in
    let p = err_from_is_err_and c.from_residual.result c.from_residual.ensures.1 in
    rw (p.1, p.2)
    (part_stopped (width_bytes a.self.element.width) a.self.table.now a.self.budget (standing DONE l.steps (state l.registers l.work))
    (in_pass l.j is) (passes (a.full - (l.j + 1)) (l.j + 1) is) _ _ _ c.in_err-steps.ensures
    ∙ rw (passes_more l.j a.full is c.loop-j-test.true) at l.invariant)
