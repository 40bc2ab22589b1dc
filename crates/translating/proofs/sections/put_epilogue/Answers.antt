-- The tree and the old block, then what the definition has after them; the writer's section is the one that was lent.
use mathlib.Core.Path.{ap}
use native.Mathlib.Nat.{mul-le-mul}
use native.Mathlib.Omega.{arith}
use Rattle.rules.specs.Units.{width_bytes}
use Rattle.rules.specs.declared.units.ByteOffset.{ByteOffset}
use Rattle.translating.proofs.CountLaws.{width_most_lem}
use Rattle.translating.proofs.SectionLaws.{epilogue_written, no_epilogue}
use Rattle.translating.proofs.sections.put_epilogue.Goals as goal

pub returns-then-rest-eq0 : goal.returns-then-rest-eq0
returns-then-rest-eq0 c =
    no_epilogue c.requires.0 c.args.section.now _ _ c.if-rest-eq0.true

pub returns : goal.returns
returns c =
    let n = ap (λ (x : ByteOffset). x.0) c.byte_of_element.ensures in
    let blocks = c.put_blocks-blocks.ensures in
    let begun = rw (c.new-writer.ensures.entries, c.new-writer.ensures.first_row) at blocks.written in
    let stored = rw c.splice-to_end.ensures.register at c.store.ensures.written in
    let all =
    epilogue_written c.requires.0 c.requires.1 begun _ _ blocks.new_register blocks.old_register (width_bytes c.args.width) c.args.rest.0
    c.if-rest-eq0.false (mul-le-mul c.requires.2 (width_most_lem c.args.width)) n
    c.splice-to_end.ensures.written stored in
    grind (arith, all)
