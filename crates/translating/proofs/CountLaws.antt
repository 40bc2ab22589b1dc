-- The widths of an element divide a vector: there are lanes, and at most sixteen.
use Prim.Native.Nat.{ℕ, ◌+◌, ◌/◌, ◌≤◌, ◌<◌}
use native.Mathlib.Nat.{mod-lt}
use native.Mathlib.Omega.{arith}
use Rattle.rules.specs.Limits.{vector_bytes, width_most, elements_most}
use Rattle.rules.specs.Units.{width_bytes}
use Rattle.rules.specs.Offsets.{store_offset}
use Rattle.rules.specs.Code.{rest_elements}
use Rattle.rules.specs.declared.units.Width.{Width}
use Rattle.rules.specs.declared.units.Width.TheVariants.{One, Two, Four, Eight}

pub width_some : (w : Width) → 0 < width_bytes w
width_some One = omega arith
width_some Two = omega arith
width_some Four = omega arith
width_some Eight = omega arith

pub width_most_lem : (w : Width) → width_bytes w ≤ width_most
width_most_lem One = omega arith
width_most_lem Two = omega arith
width_most_lem Four = omega arith
width_most_lem Eight = omega arith

pub lanes_some : (w : Width) → 0 < vector_bytes / width_bytes w
lanes_some One = omega arith
lanes_some Two = omega arith
lanes_some Four = omega arith
lanes_some Eight = omega arith

lanes_most : (w : Width) → vector_bytes / width_bytes w ≤ vector_bytes
lanes_most One = omega arith
lanes_most Two = omega arith
lanes_most Four = omega arith
lanes_most Eight = omega arith

pub offset_small : (S : ℕ) → store_offset vector_bytes S < vector_bytes
offset_small S = mod-lt S (omega arith)

pub rest_most : (w : Width) (n S : ℕ) → rest_elements vector_bytes (width_bytes w) n S ≤ elements_most
rest_most w n S = omega (arith, mod-lt (store_offset vector_bytes S / width_bytes w + n) (lanes_some w), lanes_most w)
