-- A node's rows by its kind: a load's own row with the shift that its rule asks, a splat's, and an op's after the rows of its two
-- inputs. Then a shift, if the node has to go elsewhere.
use Prim.Native.Nat.{◌+◌}
use mathlib.Core.Path.{ap}
use native.Mathlib.Omega.{arith}
use lib.ListN.{length}
use Rattle.rules.specs.Limits.{vector_bytes}
use Rattle.placing.specs.Writing.{Wrote}
use Rattle.placing.proofs.RowLaws.{wrote_on, ready_lower, length_row, own, sent_rows, sent_length, load_rows, load_length, splat_rows, input_below, op_rows, op_length}
use Rattle.placing.proofs.rows.+write.Goals as goal
use Rattle.placing.proofs.rows.+write.Goals.{in-Load, in-Splat, in-Op}

pub put-requires : goal.put-requires
put-requires t c =
    let s = c.args.sheet.now in
    omega (arith, c.requires.room, sent_length vector_bytes s c.args.k c.requires.ready c.args.to, load_length vector_bytes s c.args.k c.requires.ready _ c.in-Load.is)

pub bounds-sheet-left : goal.bounds-sheet-left
bounds-sheet-left t c =
    omega (arith, input_below vector_bytes c.args.sheet.now c.args.k c.requires.ready _ c.in-Op.is, c.requires.ready.most)

pub write-requires : goal.write-requires
write-requires t c =
    let a = c.args in
    let s = a.sheet.now in
    let ready = c.requires.ready in
    let low = input_below vector_bytes s a.k ready _ c.in-Op.is in
    let all = sent_length vector_bytes s a.k ready a.to in
    let parts = op_length vector_bytes s a.k ready _ c.in-Op.is _ c.meeting_at-meet.ensures in
    (omega arith, (ready_lower vector_bytes s (a.k + 1) _ (omega arith) ready, omega (arith, c.requires.room)))

pub write-requires-in-Op : goal.write-requires-in-Op
write-requires-in-Op t c =
    let a = c.args in
    let s = a.sheet.now in
    let ready = c.requires.ready in
    let low = input_below vector_bytes s a.k ready _ c.in-Op.is in
    let all = sent_length vector_bytes s a.k ready a.to in
    let parts = op_length vector_bytes s a.k ready _ c.in-Op.is _ c.meeting_at-meet.ensures in
    let middle = c.write.ensures.free in
    (omega arith, (ready_lower vector_bytes s (a.k + 1) _ (omega arith) ready, omega (arith, c.requires.room)))

pub put-requires-in-Op : goal.put-requires-in-Op
put-requires-in-Op t c =
    let a = c.args in
    let s = a.sheet.now in
    let all = sent_length vector_bytes s a.k c.requires.ready a.to in
    let parts = op_length vector_bytes s a.k c.requires.ready _ c.in-Op.is _ c.meeting_at-meet.ensures in
    omega (arith, c.requires.room, length_row, c.write.ensures.free, c.write-in-Op.ensures.free)

pub shift-requires-2 : goal.shift-requires-2
shift-requires-2 t c =
    let s = c.args.sheet.now in
    let k = c.args.k in
    let ready = c.requires.ready in
    let room = c.requires.room in
    let all = sent_length vector_bytes s k ready c.args.to in
    elim c.match-node.branch [
      | in-Load w ↦
          rw w.rows-is
          (omega (arith, room, w.put.ensures.free, w.shift.ensures.free, load_length vector_bytes s k ready _ w.in-Load.is))
      | in-Splat w ↦
          rw w.rows-is
          (omega (arith, room, w.put-in-Splat.ensures.free, ap length (splat_rows vector_bytes s k ready _ w.in-Splat.is)))
      | in-Op w ↦
          let parts = op_length vector_bytes s k ready _ w.in-Op.is _ w.meeting_at-meet.ensures in
          rw w.rows-is
          (omega (arith, room, length_row, w.write.ensures.free, w.write-in-Op.ensures.free, w.put-in-Op.ensures.free))
    ]

pub returns : goal.returns
returns t c =
    let a = c.args in
    let s = a.sheet.now in
    let ready = c.requires.ready in
    let before : Wrote a.rows.now (own vector_bytes s a.k ready) c.match-node.rows =
    elim c.match-node.branch [
      | in-Load w ↦ rw (w.rows-is, load_rows vector_bytes s a.k ready _ w.in-Load.is) (wrote_on w.put.ensures w.shift.ensures)
      | in-Splat w ↦ rw (w.rows-is, splat_rows vector_bytes s a.k ready _ w.in-Splat.is) w.put-in-Splat.ensures
      | in-Op w ↦
          rw (w.rows-is, op_rows vector_bytes s a.k ready _ w.in-Op.is _ w.meeting_at-meet.ensures)
          (wrote_on (wrote_on w.write.ensures w.write-in-Op.ensures) w.put-in-Op.ensures)
    ] in
    rw (sent_rows vector_bytes s a.k ready a.to) (wrote_on before c.shift-2.ensures)
