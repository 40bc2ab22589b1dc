-- Six stores in turn are the row's six entries.
use Rattle.std.proofs.Common.{◌+◌, ◌*◌, le-ltb, lt-ltb}
use Rattle.rules.specs.Limits.{instruction_entries}
use Rattle.translating_rows.specs.Putting.{written}
use Rattle.translating_rows.proofs.PutLaws.{stored_in_turn}
use Rattle.translating_rows.proofs.put_row.Goals as goal

pub returns-then-end-section : goal.returns-then-end-section
unfolding written
returns-then-end-section c =
    let a = c.args in
    let i = a.i in
    rw (
      le-ltb _ (instruction_entries * a.row + instruction_entries) c.if-end-section.true,
      stored_in_turn a.section.now (instruction_entries * a.row) i.kind i.destination i.a i.b i.low i.high,
    )

pub returns-else-end-section : goal.returns-else-end-section
returns-else-end-section c = rw (lt-ltb _ (instruction_entries * c.args.row + instruction_entries) c.if-end-section.false)
