-- Rows first, since the head takes their number.
use mathlib.Core.Path.{◌≡◌}
use Rattle.rules.specs.Limits.{vector_bytes}
use Rattle.rules.specs.Tables.{graph_of}
use Rattle.graph.specs.Headers.{graph_in}
use Rattle.graph.proofs.HeaderLaws.{header_graph}
use Rattle.placing.proofs.placed.hand_back.Goals as goal

pub put_rows-count-requires-clause-bare_sheet : goal.put_rows-count-requires-clause-bare_sheet
put_rows-count-requires-clause-bare_sheet c =
    let sheet = c.requires.bare_sheet in
    let same : graph_in c.header_of-header.result c.args.nodes.now ≡ graph_of c.args.head.now c.args.nodes.now =
    rw c.header_of-header.ensures (header_graph vector_bytes c.args.head.now c.args.nodes.now sheet.formed) in
    rw same sheet
