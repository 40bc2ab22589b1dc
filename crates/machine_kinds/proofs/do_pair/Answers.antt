-- The two registers shifted, where each field is known (KindLaws).
use Prim.Native.Nat.{◌%◌}
use native.Mathlib.Omega.{arith}
use mathlib.Core.Path.{◌≡◌, refl}
use mathlib.Core.Bool.{true}
use Rattle.rules.specs.Limits.{vector_bytes}
use Rattle.rules.specs.Machine.{pair_kind, fields_as, reaches_as, effect_as}
use Rattle.machine_kinds.specs.Trying.{any_width}
use Rattle.machine_kinds.proofs.KindLaws.{effect_tried}
use Rattle.machine_kinds.proofs.do_pair.Goals as goal

pub returns : goal.returns
unfolding fields_as reaches_as effect_as
returns c table j work =
    let known = c.in-Some.ensures in
    let fine : fields_as pair_kind vector_bytes any_width c.args.i ≡ true = search arith in
    let kept : c.args.i.low % vector_bytes ≡ c.args.i.low = omega arith in
    rw (c.vshiftpair.ensures, kept, known.1, known.2, known.3) (effect_tried pair_kind any_width table j c.args.i _ work refl fine)
