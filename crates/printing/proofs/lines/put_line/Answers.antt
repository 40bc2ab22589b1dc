-- The line's bytes, as digits.
use Rattle.rules.specs.Printing.{line}
use Rattle.printing.proofs.lines.put_line.Goals as goal

pub returns : goal.returns
unfolding line
returns c = rw (← c.line_bytes.ensures) c.put_hex.ensures
