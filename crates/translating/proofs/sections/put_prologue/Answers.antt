-- The tree and the old block, then what the definition has after them; the writer's section is the one that was lent.
use native.Mathlib.Omega.{arith}
use Rattle.translating.proofs.SectionLaws.{prologue_written}
use Rattle.translating.proofs.sections.put_prologue.Goals as goal

pub returns : goal.returns
returns c =
    let blocks = c.put_blocks-blocks.ensures in
    let begun = rw (c.new-writer.ensures.entries, c.new-writer.ensures.first_row) at blocks.written in
    let stored = rw c.splice-from_start.ensures.register at c.store.ensures.written in
    let all =
    prologue_written c.requires.0 c.requires.1 begun _ _ blocks.new_register blocks.old_register c.store_offset.ensures
    c.splice-from_start.ensures.written stored in
    grind (arith, all)
