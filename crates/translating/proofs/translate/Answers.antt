-- Each answer leaves what the definition lays down, and a graph that nothing refused has a program.
use Rattle.translating.proofs.TranslateLaws.{refusal_leaves, formed, program_ready, cleared_roomy, program_leaves}
use Rattle.translating.proofs.translate.Goals as goal

pub returns-in-Err : goal.returns-in-Err
returns-in-Err c =
    let a = c.args in
    let left = c.refuse.ensures in
    rw (left.prologue_left, left.body_left, left.epilogue_left)
    (refusal_leaves
    a.head.now a.nodes.now a.work_len a.table_len a.prologue.now a.body.now a.epilogue.now
    _ c.in-Err.ensures)

pub new-links-requires : goal.new-links-requires
new-links-requires c =
    let a = c.args in
    formed a.head.now a.nodes.now a.work_len a.table_len a.prologue.now a.body.now a.epilogue.now c.in_default.ensures

pub emit-requires : goal.emit-requires
emit-requires c =
    let a = c.args in
    let zero = c.clear.ensures in
    rw (c.new-links.ensures, c.header_of-header.ensures, zero.prologue_zero, zero.body_zero, zero.epilogue_zero) (record {
      ready =
          program_ready
          a.head.now a.nodes.now a.work_len a.table_len a.prologue.now a.body.now a.epilogue.now
          c.in_default.ensures;
      roomy =
          cleared_roomy
          a.head.now a.nodes.now a.work_len a.table_len a.prologue.now a.body.now a.epilogue.now
          c.in_default.ensures;
    })

pub returns : goal.returns
returns c =
    let a = c.args in
    let zero = c.clear.ensures in
    program_leaves
    a.head.now a.nodes.now a.work_len a.table_len a.prologue.now a.body.now a.epilogue.now
    c.in_default.ensures
    (rw (c.new-links.ensures, c.header_of-header.ensures, zero.prologue_zero, zero.body_zero, zero.epilogue_zero) at c.emit.ensures)
