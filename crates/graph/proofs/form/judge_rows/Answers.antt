use Rattle.std.proofs.Common.{arith}
use Rattle.graph.proofs.RowChecks.{rows_begin, row_next, rows_end}
use Rattle.graph.proofs.form.judge_rows.Goals as goal

pub loop-k-init : goal.loop-k-init
loop-k-init c = rows_begin _

pub loop-k-preserved : goal.loop-k-preserved
loop-k-preserved c =
    row_next _ _ _ c.loop-k.invariant _ c.row_at-row.ensures _ c.row_ok.ensures c.if-not-row_ok.false _ c.takes-taken.ensures
    c.if-waiting-taken.false

pub returns : goal.returns
returns c = rows_end _ _ _ c.loop-k.invariant (omega arith)
