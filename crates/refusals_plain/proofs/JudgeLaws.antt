-- A graph that passes as if read has the header of its tables.
use Rattle.std.proofs.Common.{◌≡◌, ℕ, List, sym}
use Rattle.rules.specs.Limits.{vector_bytes}
use Rattle.rules.specs.Answers.{done}
use Rattle.rules.specs.Tables.{graph_of}
use Rattle.rules.specs.Calls.{checking}
use Rattle.theory.proofs.Firsts.{checked_formed}
use Rattle.graph.specs.Headers.{header_of, graph_in}
use Rattle.graph.proofs.HeaderLaws.{header_graph}

pub graph_same : (head nodes : List ℕ) → done ≡ checking vector_bytes head nodes → graph_in (header_of head) nodes ≡ graph_of head nodes
graph_same head nodes e = header_graph vector_bytes head nodes (checked_formed vector_bytes head nodes (sym e))
