-- The definition goes by the same test: to below from is a left shift.
use Rattle.std.proofs.Common.{le-ltb, lt-ltb}
use Rattle.rules.specs.Code.{pair_up}
use Rattle.translating_rows.proofs.pair_up.Goals as goal

pub returns-then-to-from : goal.returns-then-to-from
unfolding pair_up
returns-then-to-from c = rw (lt-ltb _ _ c.if-to-from.true, c.number-kind.ensures)

pub returns : goal.returns
unfolding pair_up
returns c = rw (le-ltb _ _ c.if-to-from.false, c.number-kind.ensures, c.saturating_sub.ensures)
