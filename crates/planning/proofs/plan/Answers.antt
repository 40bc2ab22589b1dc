-- A refusal leaves what the definition lays down; where there is none the two steps give the call's program (PlanLaws).
use Rattle.std.proofs.Common.{sym}
use Rattle.planning.proofs.PlanLaws.{refusal_leaves, never_refused, plan_done}
use Rattle.planning.proofs.plan.Goals as goal

pub returns-in-Err : goal.returns-in-Err
returns-in-Err c =
    let a = c.args in
    let left = c.refuse.ensures in
    rw (left.prologue_left, left.body_left, left.epilogue_left)
    (refusal_leaves a.rule a.head.now a.nodes.now a.work_len a.table_len a.prologue.now a.body.now a.epilogue.now _ c.in-Err.ensures.result_value)

pub returns-in_err-place : goal.returns-in_err-place
returns-in_err-place c =
    let a = c.args in
    let fine = sym c.in_default.ensures.result_value in
    absurd (never_refused a.rule a.head.now a.nodes.now a.work_len a.table_len a.prologue.now a.body.now a.epilogue.now fine
    _ _ _ c.in_err-place.ensures)

pub returns : goal.returns
returns c =
    let a = c.args in
    let fine = sym c.in_default.ensures.result_value in
    plan_done a.rule a.head.now a.nodes.now a.work_len a.table_len a.prologue.now a.body.now a.epilogue.now fine
    c.place.result _ _ c.place.ensures c.translate.result _ _ _ c.translate.ensures
