-- The form first, by what its check gave (CheckLaws).
use mathlib.Core.Path.{sym, ◌∙◌}
use Rattle.std.proofs.lemmas.Result.{err_from_is_err_and}
use Rattle.rules.specs.Limits.{vector_bytes}
use Rattle.theory.proofs.Firsts.{checked_formed}
use Rattle.graph_offsets.proofs.CheckLaws.{form_refusal, form_passes}
use Rattle.graph_offsets.proofs.offset_check.Goals as goal

pub judge-requires : goal.judge-requires
judge-requires c =
    checked_formed vector_bytes c.args.head.now c.args.nodes.now (sym c.in_ok-check.ensures)

pub returns-in_err-check : goal.returns-in_err-check
returns-in_err-check c =
    let p = err_from_is_err_and c.from_residual.result c.from_residual.ensures.1 in
    rw (p.1, p.2) (form_refusal c.args.head.now c.args.nodes.now _ c.in_err-check.ensures)

pub returns : goal.returns
returns c =
    c.judge.ensures ∙ form_passes c.args.head.now c.args.nodes.now (sym c.in_ok-check.ensures)
