-- A shorter text is its own first bytes.
use Rattle.rules.specs.Limits.{text_most}
use Rattle.printing.proofs.LineLaws.{first_bytes}
use Rattle.printing.proofs.read_start.Goals as goal

pub returns : goal.returns
returns c = rw (← first_bytes text_most c.args.text.now c.min-most.ensures) c.read.ensures
