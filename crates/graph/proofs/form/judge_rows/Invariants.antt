-- The rows so far pass (RowChecks), and the count of those that wait is the definition's.
use Rattle.graph.specs.Headers.{graph_in}
use Rattle.graph.proofs.RowChecks.{RowsSo}
use Rattle.graph.proofs.form.judge_rows.Given as goal

abbrev pub invariant-loop-k : goal.invariant-loop-k
invariant-loop-k l = RowsSo (graph_in l.head l.nodes) l.k l.waiting
