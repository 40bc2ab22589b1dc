-- The old block goes after the tree's code.
use Rattle.std.proofs.Common.{arith, ◌∙◌}
use Rattle.translating.proofs.WritingLaws.{row_after}
use Rattle.translating.proofs.SectionLaws.{root_is, root_ready, tree_room, blocks_written}
use Rattle.translating.proofs.sections.put_blocks.Goals as goal

pub gen_expr-new-requires : goal.gen_expr-new-requires
gen_expr-new-requires c =
    let is = root_is c.args.links.now _ c.root.ensures in
    record { known = omega arith; ready = rw c.requires.2 (root_ready c.requires.0 _ c.root.type_inv is c.requires.1) }

pub returns : goal.returns
returns c =
    let new = c.gen_expr-new.ensures in
    let old = c.load-old.ensures in
    let code = rw (c.requires.2, root_is c.args.links.now _ c.root.ensures) at new.written in
    let room = tree_room c.requires.0 c.requires.1 code in
    let next = row_after _ _ room.1 old.written in
    record {
      same_section = old.same_section ∙ new.same_section;
      written = rw c.requires.2 (blocks_written c.requires.0 c.requires.1 code old.written);
      new_register = omega arith;
      old_register = omega arith;
    }
