-- The sum of two numbers that were cut.
use Rattle.std.proofs.Common.{◌∙◌}
use Rattle.translating_rows.proofs.PutLaws.{cut_moved}
use Rattle.translating_rows.proofs.moved.Goals as goal

pub returns : goal.returns
returns c = c.low_bits.ensures ∙ cut_moved c.args.address.0 c.args.blocks.0
