-- A table filled with 0 is padded from nothing.
use mathlib.Core.Path.{◌∙◌}
use lib.ListN.{length}
use Rattle.tables.proofs.TableLaws.{padded_none}
use Rattle.tables.proofs.clear.Goals as goal

pub returns : goal.returns
returns c = c.fill.ensures.after (λ y e. e) ∙ padded_none (length c.args.table.now)
