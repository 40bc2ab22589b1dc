-- The last operation stands for every number above it.
use mathlib.Core.Path.{◌∙◌}
use Rattle.operations.specs.declared.Operation.TheVariants.{SignedMaximum}
use Rattle.vector_lanes.proofs.LaneLaws.{named}
use Rattle.vector_lanes.proofs.vop.Goals as goal

pub returns-in-SignedMaximum : goal.returns-in-SignedMaximum
returns-in-SignedMaximum g c =
    c.each-in-SignedMaximum.ensures
    ∙ named _ _ c.args.operation c.args.v1 c.args.v2 c.try_from.result SignedMaximum c.try_from.ensures c.in-SignedMaximum.ensures
