use mathlib.Core.Path.{refl}
use native.Mathlib.Omega.{arith}
use lib.ListN.{length-set}
use Rattle.printing.proofs.LineLaws.{no_digits, two_digits, line_ended}
use Rattle.printing.proofs.lines.put_hex.Goals as goal

pub loop-i-init : goal.loop-i-init
loop-i-init c = (no_digits c.args.out.now c.args.said.now c.args.at, refl)

pub loop-i-preserved : goal.loop-i-preserved
loop-i-preserved c =
    let a = c.args in
    let i = c.loop-i.invariant in (
      two_digits a.out.now a.said.now a.at c.loop-i.i c.loop-i-test.true i.0 c.digit_byte.ensures c.digit_byte-in-loop-i.ensures refl,
      simp length-set i.1,
    )

pub returns : goal.returns
returns c =
    let a = c.args in
    line_ended a.out.now a.said.now a.at {i = c.loop-i.i} (omega arith) (omega arith) c.loop-i.invariant.0
