-- A refused graph has no size.
use Rattle.graph_size.proofs.SizeLaws.{refused_size}
use Rattle.graph_size.proofs.size.Goals as goal

pub returns-in_default : goal.returns-in_default
returns-in_default c = refused_size c.args.head.now c.args.nodes.now _ c.in_default.ensures
