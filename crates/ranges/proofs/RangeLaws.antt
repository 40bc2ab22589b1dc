-- A D that is a width is read back from it.
use Prim.Native.Nat.{ℕ}
use mathlib.Core.Path.{◌≡◌, refl}
use mathlib.Core.Bool.{true}
use Rattle.rules.specs.Units.{width_bytes, is_width}
use Rattle.theory.proofs.Checked.{width_is}
use Rattle.ranges.specs.Widths.{width_of}

pub width_back_lem : (D : ℕ) → is_width D ≡ true → width_bytes (width_of D) ≡ D
unfolding width_of
width_back_lem = width_is (λ (D : ℕ). width_bytes (width_of D) ≡ D) refl refl refl refl
