-- `straddling`: what is shifted down and what is shifted up do not meet.
use Rattle.vector_bytes.proofs.PairLaws.{down_is, shifted_up, shifted_fits}
use Rattle.vector_bytes.proofs.straddling.Goals as goal

pub overflow_add-result : goal.overflow_add-result
overflow_add-result c = record { fits = shifted_fits c.args.m c.requires c.args.low c.args.high c.ranges.low.fits }

pub returns : goal.returns
returns c = rw (shifted_up c.args.m c.requires c.args.high, down_is c.args.m c.requires)
