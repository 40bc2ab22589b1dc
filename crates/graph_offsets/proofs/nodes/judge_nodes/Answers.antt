use Rattle.std.proofs.Common.{◌≡◌, refl, arith}
use Rattle.std.proofs.lemmas.Result.{err_from_is_err_and}
use Rattle.graph_offsets.proofs.JudgeLaws.{nodes_none, node_broken, node_kept, nodes_kept}
use Rattle.graph_offsets.proofs.nodes.judge_nodes.Goals as goal

pub loop-k-init : goal.loop-k-init
loop-k-init c = nodes_none _ _ refl

pub returns-in_err-offset : goal.returns-in_err-offset
returns-in_err-offset c =
    let p = err_from_is_err_and c.from_residual.result c.from_residual.ensures.1 in
    rw (p.1, p.2) (node_broken _ _ _ c.loop-k.invariant _ c.args.links.now.count (omega arith) c.in_err-offset.ensures)

pub loop-k-preserved : goal.loop-k-preserved
loop-k-preserved c = node_kept _ _ _ c.loop-k.invariant _ c.in_ok-offset.ensures (omega arith)

pub returns : goal.returns
returns c =
    let all : c.loop-k.k ≡ c.args.links.now.count = omega arith in
    nodes_kept _ c.args.links.now.count c.root.result c.loop-k.offsets _ (rw all at c.loop-k.invariant) c.root.ensures refl
