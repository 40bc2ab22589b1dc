-- A row is its three entries.
use native.Mathlib.Nat.{add-zero}
use Rattle.tables.proofs.row_at.Goals as goal

pub returns : goal.returns
returns c = rw (add-zero, c.entry-kind.ensures, c.entry-x.ensures, c.entry-y.ensures)
