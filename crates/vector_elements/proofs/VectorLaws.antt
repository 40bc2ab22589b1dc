-- Vectors filled element by element, a vector that is known by its elements, and elements joined from their halves.
-- Assumes nothing.
use Rattle.std.proofs.Common.{◌≡◌, ℕ, zero, suc, ◌+◌, ◌*◌, ◌/◌, ◌%◌, ◌^◌, ◌<◌, ◌≤◌, List, ◌++◌, length, take, refl, sym, ◌∙◌, arith, add-one, mod-eq_of_lt}
use Rattle.std.proofs.Math.Nat.{mul-le-mul_right}
use Rattle.std.proofs.Math.Seq.{paste, take_all}
use Rattle.std.proofs.lemmas.List.Edits.{length-paste, take-paste}
use Rattle.rules.specs.Limits.{vector_bytes}
use Rattle.rules.specs.Elements.{to_bytes}
use Rattle.rules.specs.Vectors.{lanes}
use Rattle.theory.proofs.Numbers.{length_to_bytes}
use Rattle.theory.proofs.ElementLaws.{to_bytes_halves}

-- the first n elements of r are as f says
pub record Filled (D n : ℕ) (f : ℕ → ℕ) (r : List ℕ) : Type 0 where
  pub long : length r ≡ vector_bytes
  pub holds : take (n * D) r ≡ lanes n (λ k. to_bytes D (f k))

pub filled_none : (D : ℕ) (f : ℕ → ℕ) (r : List ℕ) → length r ≡ vector_bytes → Filled D 0 f r
filled_none D f r l = record { long = l; holds = let e : 0 * D ≡ 0 = omega arith in rw e }

-- one element more
pub filled_more : {D n z : ℕ} {f : ℕ → ℕ} {r after : List ℕ} → vector_bytes / D * D ≡ vector_bytes → n < vector_bytes / D → Filled D n f r
    → z ≡ f n → after ≡ paste r (n % (vector_bytes / D) * D) (to_bytes D z) D → Filled D (n + 1) f after
filled_more {D} {n} {z} {f} {r} {after} w l h e p =
    let b = to_bytes D z in
    let long : length b ≡ D = length_to_bytes D z in
    let whole : length r ≡ 16 = h.long in
    let kept : n % (vector_bytes / D) ≡ n = mod-eq_of_lt l in
    let within : n * D + D ≤ 16 = omega (arith, mul-le-mul_right D l) in
    let q = rw kept at p in
    let s : (n + 1) * D ≡ n * D + D = omega arith in
    record {
      long = rw q (length-paste r (n * D) b D (omega arith) (omega arith) ∙ h.long);
      holds = rw (q, s, take-paste r (n * D) b D (omega arith) (omega arith), take_all D b (omega arith), h.holds, add-one, e);
    }

-- filled to its end
pub filled_whole : {D n : ℕ} {f : ℕ → ℕ} {r : List ℕ} → vector_bytes / D * D ≡ vector_bytes → n ≡ vector_bytes / D → Filled D n f r
    → r ≡ lanes (vector_bytes / D) (λ k. to_bytes D (f k))
filled_whole {D} {n} {f} {r} w e h = sym (take_all vector_bytes r (omega (arith, h.long))) ∙ rw (e, w) at h.holds

pub lanes_ext : (n : ℕ) (g h : ℕ → List ℕ) → ((k : ℕ) → k < n → g k ≡ h k) → lanes n g ≡ lanes n h
lanes_ext zero g h e = refl
lanes_ext (suc n) g h e = rw (lanes_ext n g h (λ k l. e k (omega arith)), e n (omega arith))

-- elements joined from their halves
pub halves_joined : (d n : ℕ) (x : ℕ → ℕ)
    → lanes n (λ k. to_bytes d (x k % 256 ^ d) ++ to_bytes d (x k / 256 ^ d % 256 ^ d)) ≡ lanes n (λ k. to_bytes (d + d) (x k))
halves_joined d n x =
    lanes_ext n (λ k. to_bytes d (x k % 256 ^ d) ++ to_bytes d (x k / 256 ^ d % 256 ^ d)) (λ k. to_bytes (d + d) (x k))
    (λ k l. to_bytes_halves d (x k))
