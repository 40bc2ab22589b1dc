-- Four entries, each put where the ones before it end.
use mathlib.Core.Path.{◌∙◌}
use Rattle.sheet.proofs.header.put_head.Goals as goal

pub returns : goal.returns
returns c =
    c.put-4.ensures ∙ rw (c.put-3.ensures, c.put-2.ensures, c.put.ensures)
