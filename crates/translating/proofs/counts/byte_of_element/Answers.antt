-- At most 4,096 elements of 8 bytes: the product is small.
use Prim.Native.Nat.{◌≤◌}
use native.Mathlib.Nat.{mul-le-mul}
use native.Mathlib.Omega.{arith}
use Rattle.translating.proofs.CountLaws.{width_most_lem}
use Rattle.translating.proofs.counts.byte_of_element.Goals as goal

pub overflow_mul-result : goal.overflow_mul-result
overflow_mul-result c =
    let most : c.bytes-d.result ≤ 8 = rw c.bytes-d.ensures (width_most_lem c.args.width) in
    omega (arith, mul-le-mul c.requires most)

pub returns : goal.returns
returns c =
    rw c.bytes-d.ensures
