-- The address is the store's own, held with 2^31 added.
use Rattle.rules.specs.Vectors.{block_zero}
use Rattle.translating_rows.proofs.Writer.store.Goals as goal

pub returns-clause-written : goal.returns-clause-written
unfolding block_zero
returns-clause-written c = rw (c.number.ensures, c.moved.ensures) at c.put.ensures.written
