-- ROOM by the lengths; else the tables are cleared, and the sheet is read into them.
use Rattle.sheet.proofs.SheetLaws.{no_room, zeroed, read_into}
use Rattle.sheet.proofs.read.Goals as goal
use mathlib.Core.Bool.{or-true}
use borrow.Author.Tests.{lt-ltb}
use Rattle.sheet.proofs.read.Goals.{then-head-lt-HEAD_ENTRIES-via-then-head-lt-HEAD_ENTRIES, then-head-lt-HEAD_ENTRIES-via-else-head-lt-HEAD_ENTRIES+then-nodes-lt-NODE_ENTRIES}

pub returns-then-head-lt-HEAD_ENTRIES : goal.returns-then-head-lt-HEAD_ENTRIES
returns-then-head-lt-HEAD_ENTRIES c =
    elim c.then-head-lt-HEAD_ENTRIES.branch [
      | then-head-lt-HEAD_ENTRIES-via-then-head-lt-HEAD_ENTRIES w ↦ no_room _ _ _ (rw (lt-ltb _ 10 w.if-head-lt-HEAD_ENTRIES.true))
      | then-head-lt-HEAD_ENTRIES-via-else-head-lt-HEAD_ENTRIES+then-nodes-lt-NODE_ENTRIES w ↦
          no_room _ _ _ (rw (lt-ltb _ 192 w.if-nodes-lt-NODE_ENTRIES.true, or-true))
    ]

pub sheet-requires : goal.sheet-requires
sheet-requires c =
    zeroed _ _ _ _ c.if-head-lt-HEAD_ENTRIES.false c.if-nodes-lt-NODE_ENTRIES.false c.clear.ensures c.clear-2.ensures
    c.clear.auto.table c.clear-2.auto.table

pub returns : goal.returns
returns c =
    let a = c.args in
    read_into _ a.head.now a.nodes.now _ _ c.sheet.result _ _ c.if-head-lt-HEAD_ENTRIES.false c.if-nodes-lt-NODE_ENTRIES.false
    c.clear.auto.table c.clear-2.auto.table c.sheet.ensures
