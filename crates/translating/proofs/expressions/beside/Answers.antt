-- The definition goes by the same test: to below from is a left shift.
use borrow.Author.Tests.{lt-ltb, le-ltb}
use Rattle.rules.specs.Code.{beside}
use Rattle.translating.proofs.expressions.beside.Goals as goal

pub returns-then-by : goal.returns-then-by
unfolding beside
returns-then-by c = rw (lt-ltb _ _ c.if-by.true)

pub returns-else-by : goal.returns-else-by
unfolding beside
returns-else-by c = rw (le-ltb _ _ c.if-by.false)
