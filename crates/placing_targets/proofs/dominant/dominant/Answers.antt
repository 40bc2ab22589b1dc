-- What is counted is what is met, and the offset met most often is DOMINANT's.
use mathlib.Core.Path.{ap}
use Rattle.rules.specs.Trees.{bytes, node_at}
use Rattle.placing_targets.proofs.MetLaws.{counted_dominant}
use Rattle.placing_targets.proofs.dominant.dominant.Goals as goal

pub returns : goal.returns
returns c =
    let a = c.args in
    ap bytes
    (counted_dominant a.head.store.0 (node_at a.nodes.now) a.head.count _ _ c.count_met-counts.ensures
    c.most_met.ensures)
