-- `signed_less`: half a turn on, by the law at D.
use Rattle.std.proofs.Common.{◌∙◌}
use Rattle.operations.proofs.OperationLaws.{signed_order_whole}
use Rattle.operations.proofs.signed_less.Goals as goal

pub returns : goal.returns
returns g c =
    c.less.ensures
    ∙ signed_order_whole g.E.Element.BYTES g.met.E.Element.whole c.turned-left.ensures.fits c.turned-right.ensures.fits c.turned-left.ensures.turned c.turned-right.ensures.turned
