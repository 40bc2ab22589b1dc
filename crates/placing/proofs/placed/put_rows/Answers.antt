-- The records of the bare sheet, then the rows of its placed tree from the root down.
use Prim.Native.Nat.{◌+◌, ◌-◌}
use mathlib.Core.Path.{◌≡◌, ap, ◌∙◌}
use native.Mathlib.Omega.{arith}
use lib.ListN.{length}
use Rattle.rules.specs.Limits.{vector_bytes}
use Rattle.rules.specs.Kinds.{rule_number}
use Rattle.rules.specs.Placing.{place}
use Rattle.rules.specs.Calls.{graph_tree}
use Rattle.graph.specs.Headers.{graph_in}
use Rattle.graph.proofs.LinkLaws.{lefts_linked}
use Rattle.placing.proofs.HandingLaws.{has_last, placed_room, sheet_ready, last_rows, rows_handed}
use Rattle.placing.proofs.placed.put_rows.Goals as goal

pub new-sheet-requires-clause-linked : goal.new-sheet-requires-clause-linked
new-sheet-requires-clause-linked c =
    lefts_linked vector_bytes (graph_in c.args.head c.args.nodes.now) c.requires.bare_sheet.formed

pub overflow_sub-head : goal.overflow_sub-head
overflow_sub-head c =
    has_last (graph_in c.args.head c.args.nodes.now) c.requires.bare_sheet

pub write-requires : goal.write-requires
write-requires c =
    let g = graph_in c.args.head c.args.nodes.now in
    let made = c.new-sheet.ensures in
    let sheet = c.requires.bare_sheet in
    let rule = rule_number c.args.rule in
    let count : g.N - 1 + 1 ≡ g.N = omega (arith, has_last g sheet) in
    let last = last_rows g sheet rule _ made.recorded (made.moves_kept ∙ c.moves_by-moves.ensures) in
    record {
      ready = rw count (sheet_ready g sheet rule _ made.recorded made.inputs);
      room = omega (arith, placed_room g sheet rule, ap length last, c.new-rows.ensures.first_row);
    }

pub returns : goal.returns
returns c =
    let g = graph_in c.args.head c.args.nodes.now in
    let len = length c.args.placed_nodes.now in
    let made = c.new-sheet.ensures in
    let sheet = c.requires.bare_sheet in
    let rule = rule_number c.args.rule in
    let last = last_rows g sheet rule _ made.recorded (made.moves_kept ∙ c.moves_by-moves.ensures) in
    let handed =
    rows_handed len (place vector_bytes g.S rule (graph_tree g)) _ _ c.new-rows.ensures.first_row (c.new-rows.ensures.entries ∙ c.clear.ensures)
    (omega (arith, placed_room g sheet rule, c.requires.nodes_most_in_bounds)) (rw last at c.write.ensures) in
    let same = c.write.ensures.same_table ∙ c.new-rows.ensures.same_table in record { number = handed.0; table = grind (arith, same, handed.1) }
