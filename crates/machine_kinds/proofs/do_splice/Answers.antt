-- The two registers spliced, where each field is known (KindLaws).
use native.Mathlib.Omega.{arith}
use mathlib.Core.Path.{◌≡◌, refl}
use mathlib.Core.Bool.{true}
use Rattle.rules.specs.Limits.{vector_bytes}
use Rattle.rules.specs.Machine.{splice_kind, fields_as, reaches_as, effect_as}
use Rattle.machine_kinds.specs.Trying.{any_width}
use Rattle.machine_kinds.proofs.KindLaws.{effect_tried}
use Rattle.machine_kinds.proofs.do_splice.Goals as goal

pub returns : goal.returns
unfolding fields_as reaches_as effect_as
returns c table j work =
    let known = c.in-Some.ensures in
    let fine : fields_as splice_kind vector_bytes any_width c.args.i ≡ true = search arith in
    rw (c.vsplice.ensures, known.1, known.2, known.3) (effect_tried splice_kind any_width table j c.args.i _ work refl fine)
