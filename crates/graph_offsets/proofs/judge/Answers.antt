-- The nodes, then the root (CheckLaws).
use Rattle.std.proofs.Common.{sym, ap, ◌∙◌}
use Rattle.std.proofs.lemmas.Result.{err_from_is_err_and}
use Rattle.rules.specs.Tables.{graph_of}
use Rattle.graph.specs.declared.headers.Header.{Header}
use Rattle.graph_offsets.proofs.CheckLaws.{nodes_broken, root_kept_lem, root_broken}
use Rattle.graph_offsets.proofs.judge.Goals as goal

pub returns-in_err-root : goal.returns-in_err-root
returns-in_err-root c =
    let p = err_from_is_err_and c.from_residual.result c.from_residual.ensures.1 in
    rw (p.1, p.2) (nodes_broken (graph_of c.args.head.now c.args.nodes.now) _ (rw c.new.ensures at c.in_err-root.ensures))

pub returns-then-not-agree : goal.returns-then-not-agree
returns-then-not-agree c =
    root_broken (graph_of c.args.head.now c.args.nodes.now) _ (rw c.new.ensures at c.in_ok-root.ensures) c.header_of.result
    (ap (λ (h : Header). h.store.0) c.header_of.ensures) (sym c.agree.ensures ∙ c.if-not-agree.true)

pub returns : goal.returns
returns c =
    root_kept_lem (graph_of c.args.head.now c.args.nodes.now) _ (rw c.new.ensures at c.in_ok-root.ensures) c.header_of.result
    (ap (λ (h : Header). h.store.0) c.header_of.ensures) (sym c.agree.ensures ∙ c.if-not-agree.false)
