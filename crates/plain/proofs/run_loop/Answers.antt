-- `run_loop`: on done the loop goes, on a refusal nothing does.
use lib.ListN.{length}
use Rattle.std.proofs.lemmas.Result.{err_from_is_err_and}
use Rattle.plain.proofs.JudgeLaws.{done_loopable, loop_done, loop_refused}
use Rattle.plain.proofs.run_loop.Goals as goal

pub each_element-requires : goal.each_element-requires
each_element-requires c =
    let a = c.args in
    rw (c.header_of.ensures, c.left_inputs-left.ensures)
    (done_loopable a.head.now a.nodes.now (length a.work.now) (length a.table.now) c.in_ok-judge.ensures)

pub returns-in_err-judge : goal.returns-in_err-judge
returns-in_err-judge c =
    let a = c.args in
    let p = err_from_is_err_and c.from_residual.result c.from_residual.ensures.1 in
    rw (p.1, p.2) (loop_refused a.head.now a.nodes.now a.work.now a.table.now _ c.in_err-judge.ensures)

pub returns : goal.returns
returns c =
    let a = c.args in
    loop_done a.head.now a.nodes.now a.work.now a.table.now c.in_ok-judge.ensures _ (rw c.header_of.ensures at c.each_element.ensures)
