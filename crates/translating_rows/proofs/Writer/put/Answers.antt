-- The row's number is cut where it is counted up.
use Rattle.translating_rows.specs.Putting.{cut}
use Rattle.translating_rows.proofs.Writer.put.Goals as goal

pub returns-clause-written : goal.returns-clause-written
unfolding cut
returns-clause-written c = rw c.put_row.ensures
