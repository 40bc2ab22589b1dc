-- An entry past the end is not written.
use mathlib.Core.Path.{sym}
use lib.Seq.{set_out}
use Rattle.tables.proofs.put.Goals as goal

pub returns-else-i-table : goal.returns-else-i-table
returns-else-i-table c = sym (set_out c.args.table.now c.args.i c.args.value c.if-i-table.false)
