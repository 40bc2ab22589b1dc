-- A graph that passes is linked (LinkedLaws).
use Rattle.graph.proofs.LinkedLaws.{all_counted, some_counted, graph_linked}
use Rattle.graph.proofs.linked.Links.new.Goals as goal

pub invariant_of-result : goal.invariant_of-result
invariant_of-result c =
    let a = c.args in
    rw (c.left_inputs.ensures, c.header_of.ensures, all_counted a.head.now a.nodes.now c.requires) (
      some_counted a.head.now a.nodes.now c.requires,
      c.requires.most,
      graph_linked a.head.now a.nodes.now c.requires,
    )
