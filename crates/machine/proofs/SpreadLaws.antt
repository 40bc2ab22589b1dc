-- The numbers of eight bytes with 1 in every element: a value of half the bytes doubles in each step from a width to the next.
-- Assumes nothing.
use Prim.Native.Nat.{ℕ, ◌+◌, ◌*◌, ◌<◌}
use mathlib.Core.Path.{◌≡◌, ◌∙◌}
use native.Mathlib.Omega.{arith}
use Rattle.rules.specs.Vectors.{vsplat}
use Rattle.vector_bytes.proofs.SplatLaws.{splat_doubled}

pub spread_four : (v : ℕ) → v < 4294967296 → vsplat 16 8 (v * 4294967297) ≡ vsplat 16 4 v
unfolding vsplat
spread_four v h =
    let e : v * 4294967297 ≡ v + 4294967296 * v = omega arith in
    rw e (splat_doubled 4 2 v h)

pub spread_two : (v : ℕ) → v < 65536 → vsplat 16 8 (v * 281479271743489) ≡ vsplat 16 2 v
unfolding vsplat
spread_two v h =
    let e : v * 281479271743489 ≡ (v + 65536 * v) * 4294967297 = omega arith in
    rw e (spread_four (v + 65536 * v) (omega arith) ∙ splat_doubled 2 4 v h)

pub spread_one : (v : ℕ) → v < 256 → vsplat 16 8 (v * 72340172838076673) ≡ vsplat 16 1 v
unfolding vsplat
spread_one v h =
    let e : v * 72340172838076673 ≡ (v + 256 * v) * 281479271743489 = omega arith in
    rw e (spread_two (v + 256 * v) (omega arith) ∙ splat_doubled 1 8 v h)

pub ruleset spreads = (spread_one, spread_two, spread_four)
