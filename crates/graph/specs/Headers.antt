-- A graph's header as the calls use it, and the graph that it heads.
use Rattle.std.specs.Prelude.{ℕ, min, List, get_or, Bool}
use Rattle.rules.specs.Limits.{nodes_most}
use Rattle.rules.specs.Units.{width_bytes}
use Rattle.rules.specs.Ranges.{head_ok}
use Rattle.rules.specs.Trees.{bytes}
use Rattle.rules.specs.Tables.{Graph}
use Rattle.ranges.specs.Widths.{width_of}
use Rattle.graph.specs.declared.headers.Header.{Header}

-- the header's range, of a head
abbrev pub head_in_range : List ℕ → Bool
head_in_range head = head_ok (get_or head 0 0) (get_or head 1 0) (get_or head 2 0)

-- what a head's first four entries come to; a width and at most 64 nodes, whatever they are
abbrev pub header_of : List ℕ → Header
header_of head =
    record {
      width = width_of (get_or head 0 0);
      elements = get_or head 1 0;
      store = bytes (get_or head 2 0);
      count = min (get_or head 3 0) nodes_most;
    }

abbrev pub graph_in : Header → List ℕ → Graph
graph_in h nodes = record { D = width_bytes h.width; n = h.elements; S = h.store.0; N = h.count; nodes = nodes }
