-- The operation at each width, where each field is known (KindLaws).
use native.Mathlib.Omega.{arith}
use mathlib.Core.Path.{◌≡◌, refl}
use mathlib.Core.Bool.{true}
use Rattle.rules.specs.Limits.{vector_bytes}
use Rattle.rules.specs.Frames.{op_kind}
use Rattle.rules.specs.Machine.{fields_as, reaches_as, effect_as}
use Rattle.machine_kinds.proofs.KindLaws.{effect_tried}
use Rattle.machine_kinds.proofs.do_op.Goals as goal

pub returns-in-One : goal.returns-in-One
unfolding fields_as reaches_as effect_as
returns-in-One c table j work =
    let known = c.in-Some.ensures in
    let fine : fields_as op_kind vector_bytes 1 c.args.i ≡ true = search arith in
    rw (c.operate.ensures, c.in-One.is, known.1, known.2, known.3) (effect_tried op_kind 1 table j c.args.i _ work refl fine)

pub returns-in-Two : goal.returns-in-Two
unfolding fields_as reaches_as effect_as
returns-in-Two c table j work =
    let known = c.in-Some.ensures in
    let fine : fields_as op_kind vector_bytes 2 c.args.i ≡ true = search arith in
    rw (c.operate-in-Two.ensures, c.in-Two.is, known.1, known.2, known.3) (effect_tried op_kind 2 table j c.args.i _ work refl fine)

pub returns-in-Four : goal.returns-in-Four
unfolding fields_as reaches_as effect_as
returns-in-Four c table j work =
    let known = c.in-Some.ensures in
    let fine : fields_as op_kind vector_bytes 4 c.args.i ≡ true = search arith in
    rw (c.operate-in-Four.ensures, c.in-Four.is, known.1, known.2, known.3) (effect_tried op_kind 4 table j c.args.i _ work refl fine)

pub returns-in-Eight : goal.returns-in-Eight
unfolding fields_as reaches_as effect_as
returns-in-Eight c table j work =
    let known = c.in-Some.ensures in
    let fine : fields_as op_kind vector_bytes 8 c.args.i ≡ true = search arith in
    rw (c.operate-in-Eight.ensures, c.in-Eight.is, known.1, known.2, known.3) (effect_tried op_kind 8 table j c.args.i _ work refl fine)
