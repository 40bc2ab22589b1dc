-- A case for each of the definition's: no elements, no whole vector, and the three sections.
use Rattle.rules.specs.Limits.{vector_bytes}
use Rattle.rules.specs.Units.{width_bytes}
use Rattle.translating.specs.Writing.{root_of}
use Rattle.translating.proofs.CountLaws.{rest_most}
use Rattle.translating.proofs.ProgramLaws.{emitted_none, emitted_only, emitted_whole}
use borrow.Author.Rules.{rules}
use Rattle.translating.proofs.programs.emit.Goals as goal

pub returns-then-elements-eq0 : goal.returns-then-elements-eq0
returns-then-elements-eq0 c =
    let a = c.args in
    let h = a.header in
    emitted_none vector_bytes (width_bytes h.width) h.elements h.store.0 (root_of a.links.now)
    c.bytes.ensures c.split_stream-split.ensures.full_value c.split_stream-split.ensures.rest_value a.prologue.now a.body.now a.epilogue.now
    c.if-elements-eq0.true

pub returns-then-split-eq0 : goal.returns-then-split-eq0
returns-then-split-eq0 c =
    let a = c.args in
    let h = a.header in
    emitted_only vector_bytes (width_bytes h.width) h.elements h.store.0 (root_of a.links.now)
    c.bytes.ensures c.split_stream-split.ensures.full_value c.split_stream-split.ensures.rest_value a.prologue.now a.body.now a.epilogue.now
    c.if-elements-eq0.false c.if-split-eq0.true c.put_only.ensures

pub put_epilogue-requires : goal.put_epilogue-requires
put_epilogue-requires c =
    let h = c.args.header in
    (c.requires.ready.1, search rules, rw c.split_stream-split.ensures.rest_value (rest_most h.width h.elements h.store.0))

pub returns : goal.returns
returns c =
    let a = c.args in
    let h = a.header in
    emitted_whole vector_bytes (width_bytes h.width) h.elements h.store.0 (root_of a.links.now)
    c.bytes.ensures c.split_stream-split.ensures.full_value c.split_stream-split.ensures.rest_value a.prologue.now a.body.now a.epilogue.now
    c.if-elements-eq0.false (search rules) c.put_prologue.ensures c.put_body.ensures c.put_epilogue.ensures
