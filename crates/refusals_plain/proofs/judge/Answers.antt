-- `judge`: a graph that passes as if read has the header of its tables, and each check that finds nothing leaves the answer to the next.
use Rattle.std.proofs.Common.{◌∙◌}
use Rattle.graph_lines.proofs.StepLaws.{handed_on, refused, passed, last}
use Rattle.refusals_plain.proofs.JudgeLaws.{graph_same}
use Rattle.refusals_plain.proofs.judge.Goals as goal

pub returns-in_err-align : goal.returns-in_err-align
returns-in_err-align c =
    let same = graph_same c.args.head.now c.args.nodes.now c.in_ok-check.ensures in
    let align = rw (c.header_of-header.ensures, same) at c.in_err-align.ensures in
    handed_on _ _ c.from_residual-in_err-align.ensures.1 ∙ refused _ _ _ align ∙ passed _ _ c.in_ok-windows.ensures
    ∙ passed _ _ c.in_ok-check.ensures

pub returns : goal.returns
returns c =
    let same = graph_same c.args.head.now c.args.nodes.now c.in_ok-check.ensures in
    let align = rw (c.header_of-header.ensures, same) at c.in_ok-align.ensures in
    let bounds = rw (c.header_of-header.ensures, same) at c.bounds.ensures in
    last _ _ bounds ∙ passed _ _ align ∙ passed _ _ c.in_ok-windows.ensures ∙ passed _ _ c.in_ok-check.ensures
