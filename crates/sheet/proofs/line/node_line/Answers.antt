-- The tests of the definition, in its order.
use mathlib.Core.Bool.{or-true}
use borrow.Author.Tests.{lt-ltb, le-ltb, le-leb, lt-leb}
use Rattle.rules.specs.Reading.{node_line}
use Rattle.sheet.proofs.line.node_line.Goals as goal
use Rattle.sheet.proofs.line.node_line.Goals.{then-here-taken-via-then-here-taken, then-here-taken-via-else-here-taken+then-here-ge-NODES}

pub returns-then-not-row_ok : goal.returns-then-not-row_ok
unfolding node_line
returns-then-not-row_ok c = rw (← c.row_ok.ensures, c.if-not-row_ok.true)

pub returns-then-here-taken : goal.returns-then-here-taken
unfolding node_line
returns-then-here-taken c =
    elim c.then-here-taken.branch [
      | then-here-taken-via-then-here-taken w ↦
          rw (← c.row_ok.ensures, c.if-not-row_ok.false, ← c.takes-taken.ensures, lt-ltb _ _ w.if-here-taken.true)
      | then-here-taken-via-else-here-taken+then-here-ge-NODES w ↦
          rw (← c.row_ok.ensures, c.if-not-row_ok.false, ← c.takes-taken.ensures, le-leb 64 _ w.if-here-ge-NODES.true, or-true)
    ]

pub returns : goal.returns
unfolding node_line
returns c =
    rw (
      ← c.row_ok.ensures,
      c.if-not-row_ok.false,
      ← c.takes-taken.ensures,
      le-ltb _ _ c.if-here-taken.false,
      lt-leb 64 _ c.if-here-ge-NODES.false,
    )
