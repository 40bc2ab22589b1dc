-- `each_of`: an element is evaluated on the windows as the ones before it left them, and stored.
use Prim.Native.Nat.{◌+◌, ◌-◌}
use mathlib.Core.Path.{◌≡◌}
use native.Mathlib.Omega.{arith}
use Rattle.rules.specs.Units.{width_bytes}
use Rattle.plain.proofs.LoopLaws.{begins, next_after, ends}
use Rattle.plain.proofs.looping.each_of.Goals as goal

pub loop-i-init : goal.loop-i-init
loop-i-init g c = begins _ _ _ _ _ _

pub loop-i-preserved : goal.loop-i-preserved
loop-i-preserved g c =
    let at = c.address_in-at.result in
    let count : at + c.BYTES.result - at ≡ width_bytes c.args.header.width = omega (arith, c.BYTES.ensures, c.requires.wide) in
    next_after c.requires.passed c.loop-i.invariant (omega (arith, c.loop-i-test.true)) (rw c.requires.wide at c.value-found.ensures)
    (rw c.requires.wide at c.address_in-at.ensures) count (rw c.requires.wide at c.write.ensures)

pub returns : goal.returns
returns g c = ends c.requires.passed c.loop-i.invariant (omega (arith, c.loop-i-test.false))
