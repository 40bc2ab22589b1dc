-- A part of a window by its bytes.
-- Assumes nothing.
use Rattle.std.proofs.Common.{◌≡◌, ℕ, zero, suc, List, [], ◌∷◌, length, get_or, ap, refl, arith}

-- the numbers f 0 to f (n - 1)
abbrev pub listed : ℕ → (ℕ → ℕ) → List ℕ
listed zero f = []
listed (suc n) f = f 0 ∷ listed n (λ k. f (suc k))

pub listed_is : (n : ℕ) (l : List ℕ) → length l ≡ n → l ≡ listed n (λ k. get_or l k 0)
listed_is zero [] e = refl
listed_is zero (x ∷ l) e = absurd (omega arith)
listed_is (suc n) [] e = absurd (omega arith)
listed_is (suc n) (x ∷ l) e = ap (λ (t : List ℕ). x ∷ t) (listed_is n l (omega arith))
