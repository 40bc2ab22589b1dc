-- Prologue, body and epilogue in turn: what one leaves is what the next begins with.
use Rattle.std.proofs.lemmas.Result.{err_from_is_err_and}
use Rattle.rules.specs.Units.{width_bytes}
use Rattle.rules.specs.Machine.{blank}
use Rattle.machine.specs.Running.{program}
use Rattle.machine.proofs.PassLaws.{prologue_stops, body_stops, epilogue_ends}
use Rattle.machine.proofs.passes.Run.sections.Goals as goal

pub returns-in_err-steps : goal.returns-in_err-steps
unfolding blank
returns-in_err-steps c =
    let a = c.args in
    let p = err_from_is_err_and c.from_residual.result c.from_residual.ensures.1 in
    rw (p.1, p.2)
    (prologue_stops (width_bytes a.self.element.width) a.self.table.now a.self.budget
    (program a.full a.prologue a.body a.epilogue) a.work.now _ _ _ c.in_err-steps.ensures)

pub returns-in_err-steps-2 : goal.returns-in_err-steps-2
unfolding blank
returns-in_err-steps-2 c =
    let a = c.args in
    let r = c.from_residual-in_err-steps-2 in
    let p = err_from_is_err_and r.result r.ensures.1 in
    rw (p.1, p.2)
    (body_stops (width_bytes a.self.element.width) a.self.table.now a.self.budget
    (program a.full a.prologue a.body a.epilogue) a.work.now _ _ _ c.in_ok-steps.ensures _ _ _ c.in_err-steps-2.ensures)

pub returns : goal.returns
unfolding blank
returns c =
    let a = c.args in
    epilogue_ends (width_bytes a.self.element.width) a.self.table.now a.self.budget
    (program a.full a.prologue a.body a.epilogue) a.work.now _ _ _ c.in_ok-steps.ensures _ _ _ c.in_ok-steps-2.ensures
    _ _ _ c.section_pass-2.ensures
