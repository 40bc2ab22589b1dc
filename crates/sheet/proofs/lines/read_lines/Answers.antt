-- A line that refuses, a node, or the last.
use native.Mathlib.Omega.{arith}
use mathlib.Core.Path.{sym}
use Rattle.std.proofs.lemmas.Result.{err_from_is_err_and}
use Rattle.sheet.proofs.LineLaws.{stops, ends, node_after, more}
use Rattle.sheet.proofs.lines.read_lines.Goals as goal

pub returns-in_err-node : goal.returns-in_err-node
returns-in_err-node c =
    let p = err_from_is_err_and c.from_residual.result c.from_residual.ensures.1 in
    rw (p.1, p.2) (stops _ _ _ _ c.loop-node.invariant _ (sym c.in_err-node.ensures))

pub loop-node-smaller : goal.loop-node-smaller
loop-node-smaller c =
    let n = node_after _ _ _ _ c.loop-node.invariant _ (rw c.in-Some.is at (sym c.in_ok-node.ensures)) in
    omega arith

pub loop-node-preserved : goal.loop-node-preserved
loop-node-preserved c =
    rw c.put_row.ensures
    (more _ _ _ _ c.loop-node.invariant _ (rw c.in-Some.is at (sym c.in_ok-node.ensures)) c.requires.nodes_most_in_bounds)

pub returns : goal.returns
returns c = ends _ _ _ _ c.loop-node.invariant (rw c.in_default.is at (sym c.in_ok-node.ensures))
