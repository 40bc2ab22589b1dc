-- The tree and the old block, then what the definition has after them; the writer's section is the one that was lent.
use mathlib.Core.Path.{ap}
use native.Mathlib.Nat.{mul-le-mul}
use native.Mathlib.Omega.{arith}
use Rattle.rules.specs.Units.{width_bytes}
use Rattle.rules.specs.declared.units.ByteOffset.{ByteOffset}
use Rattle.translating.proofs.CountLaws.{width_most_lem, offset_small}
use Rattle.translating.proofs.SectionLaws.{only_written}
use Rattle.translating.proofs.sections.put_only.Goals as goal

pub overflow_add-end : goal.overflow_add-end
overflow_add-end c =
    let n = ap (λ (x : ByteOffset). x.0) c.byte_of_element-len.ensures in
    let m = mul-le-mul c.requires.2 (width_most_lem c.args.width) in
    let f = offset_small c.args.store.0 in
    omega (arith, c.store_offset-start.ensures)

pub returns : goal.returns
returns c =
    let n = ap (λ (x : ByteOffset). x.0) c.byte_of_element-len.ensures in
    let blocks = c.put_blocks-blocks.ensures in
    let begun = rw (c.new-writer.ensures.entries, c.new-writer.ensures.first_row) at blocks.written in
    let again = rw c.splice-from_start.ensures.register at c.splice-to_end.ensures.written in
    let stored = rw c.splice-to_end.ensures.register at c.store.ensures.written in
    let all =
    only_written c.requires.0 c.requires.1 begun _ _ blocks.new_register blocks.old_register c.store_offset-start.ensures
    (width_bytes c.args.width) c.args.elements.0 (mul-le-mul c.requires.2 (width_most_lem c.args.width)) n
    c.splice-from_start.ensures.written again stored in
    grind (arith, all)
