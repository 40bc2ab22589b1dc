-- The store goes after the tree's code; the writer's section is the one that was lent.
use native.Mathlib.Omega.{arith}
use Rattle.translating.proofs.SectionLaws.{root_is, root_ready, body_written, no_body}
use Rattle.translating.proofs.sections.put_body.Goals as goal

pub returns-then-full-lt-BODY_FROM : goal.returns-then-full-lt-BODY_FROM
returns-then-full-lt-BODY_FROM c =
    no_body c.requires.0 c.args.section.now _ c.if-full-lt-BODY_FROM.true

pub gen_expr-new-requires : goal.gen_expr-new-requires
gen_expr-new-requires c =
    let is = root_is c.args.links.now _ c.root.ensures in
    record {
      known = omega arith;
      ready = rw (c.new-writer.ensures.entries, c.new-writer.ensures.first_row) (root_ready c.requires.0 _ c.root.type_inv is c.requires.1);
    }

pub returns : goal.returns
returns c =
    let new = c.gen_expr-new.ensures in
    let begun = rw (c.new-writer.ensures.entries, c.new-writer.ensures.first_row, root_is c.args.links.now _ c.root.ensures) at new.written in
    let all = body_written c.requires.0 c.requires.1 begun _ new.register c.args.full.0 c.if-full-lt-BODY_FROM.false c.store.ensures.written in
    grind (arith, all)
