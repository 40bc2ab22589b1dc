-- A width is not 0.
use Rattle.translating.proofs.counts.element_of_byte.Goals as goal

pub returns : goal.returns
returns c =
    rw c.bytes-d.ensures
