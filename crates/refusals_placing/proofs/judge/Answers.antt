-- Each part that finds nothing leaves the answer to the next (graph_lines/BareLaws).
use Prim.Native.Nat.{ℕ}
use mathlib.Core.Path.{◌≡◌, sym, ◌∙◌}
use mathlib.Core.Bool.{false, ◌||◌}
use mathlib.Core.List.{List}
use Rattle.rules.specs.Checks.{head_short, nodes_short}
use Rattle.theory.proofs.FormLaws.{neither}
use Rattle.graph_lines.proofs.BareLaws.{room_refused, rule_refused, form_refused, lines_decide}
use Rattle.graph_lines.proofs.StepLaws.{handed_on}
use Rattle.refusals_placing.specs.Judging.{tables_short, line_checks}
use Rattle.refusals_placing.proofs.judge.Goals as goal

own : (head nodes placed_head placed_nodes : List ℕ) → tables_short head nodes placed_head placed_nodes ≡ false
    → (head_short head || nodes_short nodes) ≡ false
own head nodes placed_head placed_nodes e =
    (neither (head_short head || nodes_short nodes) (head_short placed_head) (neither _ (nodes_short placed_nodes) e).0).0

pub returns-then-lacks_room-clause-result_value : goal.returns-then-lacks_room-clause-result_value
returns-then-lacks_room-clause-result_value c =
    let a = c.args in
    room_refused a.rule a.head.now a.nodes.now _ line_checks (sym c.lacks_room.ensures ∙ c.if-lacks_room.true)

pub returns-in_err-rule-clause-result_value : goal.returns-in_err-rule-clause-result_value
returns-in_err-rule-clause-result_value c =
    let a = c.args in
    let room = sym c.lacks_room.ensures ∙ c.if-lacks_room.false in
    handed_on _ _ c.from_residual.ensures.1
    ∙ rule_refused a.rule a.head.now a.nodes.now _ line_checks room _ c.in_err-rule.ensures

pub returns-in_err-check-clause-result_value : goal.returns-in_err-check-clause-result_value
returns-in_err-check-clause-result_value c =
    let a = c.args in
    let room = sym c.lacks_room.ensures ∙ c.if-lacks_room.false in
    let tables = own a.head.now a.nodes.now a.placed_head.now a.placed_nodes.now room in
    handed_on _ _ c.from_residual-in_err-check.ensures.1
    ∙ form_refused a.rule a.head.now a.nodes.now _ line_checks room _ c.in_ok-rule.ensures tables _ c.in_err-check.ensures

pub returns-in_err-judge_lines-clause-result_value : goal.returns-in_err-judge_lines-clause-result_value
returns-in_err-judge_lines-clause-result_value c =
    let a = c.args in
    let room = sym c.lacks_room.ensures ∙ c.if-lacks_room.false in
    let tables = own a.head.now a.nodes.now a.placed_head.now a.placed_nodes.now room in
    handed_on _ _ c.from_residual-in_err-judge_lines.ensures.1
    ∙ lines_decide a.rule a.head.now a.nodes.now _ line_checks room _ c.in_ok-rule.ensures tables c.in_ok-check.ensures _
    (rw c.header_of.ensures at c.in_err-judge_lines.ensures)

pub returns-clause-result_value : goal.returns-clause-result_value
returns-clause-result_value c =
    let a = c.args in
    let room = sym c.lacks_room.ensures ∙ c.if-lacks_room.false in
    let tables = own a.head.now a.nodes.now a.placed_head.now a.placed_nodes.now room in
    lines_decide a.rule a.head.now a.nodes.now _ line_checks room _ c.in_ok-rule.ensures tables c.in_ok-check.ensures _
    (rw c.header_of.ensures at c.in_ok-judge_lines.ensures)
