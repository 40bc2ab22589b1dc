-- The definition is the cast itself.
use Rattle.std.proofs.Common.{refl}
use Rattle.translating_rows.specs.Putting.{cut}
use Rattle.translating_rows.proofs.low_bits.Goals as goal

pub returns : goal.returns
unfolding cut
returns c = refl
