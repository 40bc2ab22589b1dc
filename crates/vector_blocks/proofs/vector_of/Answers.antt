-- `vector_of`: sixteen bytes, one by one.
use Rattle.std.proofs.Common.{sym}
use Rattle.vector_blocks.proofs.BlockLaws.{listed_is}
use Rattle.vector_blocks.proofs.vector_of.Goals as goal

pub returns : goal.returns
returns c = sym (listed_is 16 c.args.part.now c.requires)
