-- A byte that is no digit ends it; a digit is one more.
use native.Mathlib.Omega.{arith}
use native.Mathlib.Nat.{zero-add}
use mathlib.Core.Path.{◌≡◌}
use lib.ListN.{length}
use Rattle.sheet_frames.proofs.DigitLaws.{short_none, short_more, short_here, spelled_none, spelled_more, spelled_small, spelled_fits, number_is, number_broken, no_digit, a_digit}
use Rattle.sheet_frames.proofs.digits.number.Goals as goal

pub loop-b-init : goal.loop-b-init
loop-b-init c = (spelled_none c.args.digits.now 0, short_none c.args.digits.now 0)

pub overflow_mul-value : goal.overflow_mul-value
overflow_mul-value c =
    omega (arith, spelled_small c.args.digits.now 0 c.loop-b.b-index (omega arith))

pub returns-in_err-value : goal.returns-in_err-value
returns-in_err-value c =
    let digits = c.args.digits.now in
    rw c.from_residual.ensures
    (number_broken digits 0 _
    (short_here digits 0 c.loop-b.b-index _ c.loop-b-test.true (rw zero-add (no_digit _ c.in_err-value.ensures))))

pub overflow_add-value : goal.overflow_add-value
overflow_add-value c =
    let digits = c.args.digits.now in
    let d = a_digit _ _ c.in_ok-value.ensures in
    let more = rw zero-add at (spelled_more digits 0 c.loop-b.b-index) in
    omega (arith, d.1, more, spelled_fits digits 0 c.loop-b.b-index (omega arith))

pub loop-b-preserved : goal.loop-b-preserved
loop-b-preserved c =
    let digits = c.args.digits.now in
    let d = a_digit _ _ c.in_ok-value.ensures in (
      rw (spelled_more digits 0 c.loop-b.b-index, zero-add, c.loop-b.invariant.0, d.1),
      short_more digits 0 c.loop-b.b-index c.loop-b.invariant.1 (rw zero-add d.0),
    )

pub returns : goal.returns
returns c =
    let digits = c.args.digits.now in
    let e : c.loop-b.b-index ≡ length digits = omega arith in
    rw (c.loop-b.invariant.0, e) (number_is digits 0 _ (rw e at c.loop-b.invariant.1))
