-- By AddressLaws: too few elements that have room.
use native.Mathlib.Omega.{arith}
use Rattle.graph_lines.proofs.AddressLaws.{width_positive, few_have_room}
use Rattle.graph_lines.proofs.addresses.beyond.Goals as goal

pub returns-else-end-address : goal.returns-else-end-address
returns-else-end-address c = rw c.whole.ensures (search (arith, few_have_room, width_positive))
