-- Three entries, each put after the one before.
use mathlib.Core.Path.{◌∙◌}
use Rattle.tables.proofs.put_row.Goals as goal

pub returns : goal.returns
returns c =
    c.put-3.ensures ∙ rw (c.put-2.ensures, c.put.ensures)
