-- `Turn.value`: node k by its kind; the numbers of its inputs are below k.
use native.Mathlib.Omega.{arith}
use Rattle.plain.proofs.ValueLaws.{load_valued, splat_valued, op_left, op_right, op_valued, shift_child, shift_valued}
use Rattle.plain.proofs.values.Turn.+value.Goals as goal

pub value-x-requires : goal.value-x-requires
value-x-requires g t c κs within =
    let input = op_left c.requires c.in-Op.ensures in
    (omega arith, (within, input.has))

pub overflow_sub-k : goal.overflow_sub-k
overflow_sub-k g t c = omega (arith, (op_right c.requires c.in-Op.ensures).falls)

pub value-y-requires : goal.value-y-requires
value-y-requires g t c κs within =
    let input = op_right c.requires c.in-Op.ensures in
    (omega arith, (within, input.has))

pub overflow_sub-k-in-Shift : goal.overflow_sub-k-in-Shift
overflow_sub-k-in-Shift g t c = omega (arith, (shift_child c.requires c.in-Shift.ensures).falls)

pub value-requires : goal.value-requires
value-requires g t c κs within =
    let input = shift_child c.requires c.in-Shift.ensures in
    (omega arith, (within, input.has))

pub returns-in-Load : goal.returns-in-Load
returns-in-Load g t c =
    let turn = c.args.self.now in
    load_valued c.requires turn.work.now turn.table.now c.in-Load.ensures c.loaded.ensures

pub returns-in-Splat : goal.returns-in-Splat
returns-in-Splat g t c =
    let turn = c.args.self.now in
    splat_valued c.requires turn.work.now turn.table.now c.in-Splat.ensures c.cut.ensures

pub returns-in-Op : goal.returns-in-Op
returns-in-Op g t c =
    let turn = c.args.self.now in
    op_valued c.requires turn.work.now turn.table.now c.in-Op.ensures c.value-x.ensures c.value-y.ensures c.operate_as.ensures

pub returns-in-Shift : goal.returns-in-Shift
returns-in-Shift g t c =
    let turn = c.args.self.now in
    shift_valued c.requires turn.work.now turn.table.now c.in-Shift.ensures c.value.ensures
