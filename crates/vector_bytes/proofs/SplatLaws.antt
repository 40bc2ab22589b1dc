-- One value in every element: cut to its width before it is repeated, or doubled into elements of twice the bytes.
-- Assumes nothing.
use Prim.Native.Nat.{ℕ, zero, suc, ◌+◌, ◌*◌, ◌%◌, ◌^◌, ◌<◌}
use mathlib.Core.Path.{◌≡◌, refl, sym}
use mathlib.Core.List.{List, ◌++◌, append_assoc}
use native.Mathlib.Omega.{arith}
use Rattle.rules.specs.Elements.{to_bytes, modulus}
use Rattle.rules.specs.Vectors.{lanes}
use Rattle.theory.proofs.Numbers.{modulus_is}
use Rattle.theory.proofs.ElementLaws.{to_bytes_mod, to_bytes_doubled}
use Rattle.vector_elements.proofs.VectorLaws.{lanes_ext}

-- a value cut to its width before it is repeated
pub cut_lanes : (D n v : ℕ) → lanes n (λ k. to_bytes D (v % modulus D)) ≡ lanes n (λ k. to_bytes D v)
cut_lanes D n v = lanes_ext n (λ k. to_bytes D (v % modulus D)) (λ k. to_bytes D v) (λ k l. rw modulus_is (to_bytes_mod D v))

lanes_doubled : (n : ℕ) (x : List ℕ) → lanes n (λ k. x ++ x) ≡ lanes (n + n) (λ k. x)
lanes_doubled zero x = refl
lanes_doubled (suc n) x =
    let e : suc n + suc n ≡ suc (suc (n + n)) = omega arith in
    rw (e, lanes_doubled n x) (sym (append_assoc (lanes (n + n) (λ k. x)) x x))

-- a value in every element of d bytes is one of 2d bytes, with the value in both halves, in every element of 2d
pub splat_doubled : (d n v : ℕ) → v < 256 ^ d → lanes n (λ k. to_bytes (d + d) (v + 256 ^ d * v)) ≡ lanes (n + n) (λ k. to_bytes d v)
splat_doubled d n v h = rw (to_bytes_doubled d v h) (lanes_doubled n (to_bytes d v))
