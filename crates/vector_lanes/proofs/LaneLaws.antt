-- Lanes: bytes as elements of one byte, the elements of an operation on two vectors, and an operation above the last.
-- Assumes nothing.
use Rattle.std.specs.Prelude.{ℕ, zero, suc, ◌≡◌, ◌+◌, ◌*◌, List, Result}
use mathlib.Core.Path.{refl, sym, ap, ◌∙◌}
use native.Mathlib.Omega.{arith}
use native.Mathlib.Nat.{mod-eq_of_lt}
use lib.ListN.{length, get_or}
use lib.Seq.{ext_get_or}
use Rattle.std.specs.Result.{result_unwrap_or}
use Rattle.rules.specs.Vectors.{lanes, vop}
use Rattle.operations.specs.Numbered.{operation_number, operation_of}
use Rattle.rules.specs.declared.kinds.Unknown.{Unknown}
use Rattle.operations.specs.declared.Operation.{Operation}
use Rattle.operations.specs.declared.Operation.TheVariants.{SignedMaximum}
use Rattle.rules.specs.Elements.{to_bytes, element, operate}
use Rattle.theory.proofs.Lists.{length_lanes, get_or_lanes}
use Rattle.theory.proofs.Numbers.{Bytes, length_to_bytes}

-- bytes are elements of one byte
pub bytes_lanes : (r : List ℕ) → Bytes r → r ≡ lanes (length r) (λ k. to_bytes 1 (get_or r k 0))
unfolding Bytes
bytes_lanes r b =
    let f : ℕ → List ℕ = λ k. to_bytes 1 (get_or r k 0) in
    let n = length r in
    let s : length (lanes n f) ≡ n * 1 = length_lanes 1 f (λ k. length_to_bytes 1 (get_or r k 0)) n in
    ext_get_or 0 r (lanes n f) (omega arith)
    (λ k l.
    let e : k * 1 + 0 ≡ k = omega arith in
    let g = get_or_lanes 1 f (λ k. length_to_bytes 1 (get_or r k 0)) n k 0 l (omega arith) in
    sym (rw e at g ∙ mod-eq_of_lt (b k)))

-- element k of a lane operation
abbrev pub operated : (D o : ℕ) → List ℕ → List ℕ → ℕ → ℕ
operated D o v1 v2 k = operate D o (element D v1 (k * D)) (element D v2 (k * D))

-- an operation above the last is the last
known : (W D o : ℕ) (v1 v2 : List ℕ)
    → vop W D (operation_number (result_unwrap_or (operation_of o) SignedMaximum)) v1 v2 ≡ vop W D o v1 v2
unfolding vop operate
known W D zero v1 v2 = refl
known W D (suc zero) v1 v2 = refl
known W D (suc (suc zero)) v1 v2 = refl
known W D (suc (suc (suc zero))) v1 v2 = refl
known W D (suc (suc (suc (suc zero)))) v1 v2 = refl
known W D (suc (suc (suc (suc (suc zero))))) v1 v2 = refl
known W D (suc (suc (suc (suc (suc (suc o)))))) v1 v2 = refl

pub named : (W D o : ℕ) (v1 v2 : List ℕ) (found : Result Operation Unknown) (name : Operation) → found ≡ operation_of o
    → name ≡ result_unwrap_or found SignedMaximum → vop W D (operation_number name) v1 v2 ≡ vop W D o v1 v2
named W D o v1 v2 found name e h =
    ap (λ (k : Operation). vop W D (operation_number k) v1 v2) (h ∙ ap (λ (r : Result Operation Unknown). result_unwrap_or r SignedMaximum) e)
    ∙ known W D o v1 v2
