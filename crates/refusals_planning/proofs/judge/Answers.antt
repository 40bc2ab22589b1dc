-- Each part that finds nothing leaves the answer to the next (graph_lines/BareLaws).
use Rattle.std.proofs.Common.{sym, ◌∙◌}
use mathlib.Core.Bool.{◌||◌}
use Rattle.rules.specs.Checks.{head_short, nodes_short}
use Rattle.theory.proofs.Demands.{tables_roomy}
use Rattle.refusals_planning.specs.Judging.{line_checks}
use Rattle.graph_lines.proofs.BareLaws.{room_refused, rule_refused, form_refused, lines_decide}
use Rattle.graph_lines.proofs.StepLaws.{handed_on}
use Rattle.refusals_planning.proofs.judge.Goals as goal

pub returns-then-tables_short-clause-result_value : goal.returns-then-tables_short-clause-result_value
returns-then-tables_short-clause-result_value c =
    let a = c.args in
    room_refused a.rule a.head.now a.nodes.now _ (line_checks a.work_len a.table_len)
    (sym c.tables_short.ensures ∙ c.if-tables_short.true)

pub returns-in_err-rule-clause-result_value : goal.returns-in_err-rule-clause-result_value
returns-in_err-rule-clause-result_value c =
    let a = c.args in
    let roomy = sym c.tables_short.ensures ∙ c.if-tables_short.false in
    handed_on _ _ c.from_residual.ensures.1
    ∙ rule_refused a.rule a.head.now a.nodes.now _ (line_checks a.work_len a.table_len) roomy _ c.in_err-rule.ensures

pub returns-in_err-check-clause-result_value : goal.returns-in_err-check-clause-result_value
returns-in_err-check-clause-result_value c =
    let a = c.args in
    let roomy = sym c.tables_short.ensures ∙ c.if-tables_short.false in
    let tables = tables_roomy (head_short a.head.now || nodes_short a.nodes.now) _ _ _ roomy in
    handed_on _ _ c.from_residual-in_err-check.ensures.1
    ∙ form_refused a.rule a.head.now a.nodes.now _ (line_checks a.work_len a.table_len) roomy _ c.in_ok-rule.ensures tables _
    c.in_err-check.ensures

pub returns-in_err-judge_lines-clause-result_value : goal.returns-in_err-judge_lines-clause-result_value
returns-in_err-judge_lines-clause-result_value c =
    let a = c.args in
    let roomy = sym c.tables_short.ensures ∙ c.if-tables_short.false in
    let tables = tables_roomy (head_short a.head.now || nodes_short a.nodes.now) _ _ _ roomy in
    handed_on _ _ c.from_residual-in_err-judge_lines.ensures.1
    ∙ lines_decide a.rule a.head.now a.nodes.now _ (line_checks a.work_len a.table_len) roomy _ c.in_ok-rule.ensures tables
    c.in_ok-check.ensures _ (rw c.header_of.ensures at c.in_err-judge_lines.ensures)

pub returns-clause-result_value : goal.returns-clause-result_value
returns-clause-result_value c =
    let a = c.args in
    let roomy = sym c.tables_short.ensures ∙ c.if-tables_short.false in
    let tables = tables_roomy (head_short a.head.now || nodes_short a.nodes.now) _ _ _ roomy in
    lines_decide a.rule a.head.now a.nodes.now _ (line_checks a.work_len a.table_len) roomy _ c.in_ok-rule.ensures tables
    c.in_ok-check.ensures _ (rw c.header_of.ensures at c.in_ok-judge_lines.ensures)
