-- An instruction's six entries put one after the other, and the sum of an address and of vectors, each cut before it is added.
use Rattle.std.proofs.Common.{◌≡◌, ℕ, ◌+◌, ◌*◌, ◌%◌, ◌^◌, List, [], ◌∷◌, set, arith}
use native.Mathlib.Numerals.{towards_suc}
use Rattle.std.proofs.lemmas.List.Edits.{sets}
use Rattle.rules.specs.Limits.{vector_bytes}
use Rattle.translating_rows.specs.Putting.{cut}

-- six stores in turn are a run of stores
pub stored_in_turn : (l : List ℕ) (n a b c d e f : ℕ)
    → set (set (set (set (set (set l n a) (n + 1) b) (n + 2) c) (n + 3) d) (n + 4) e) (n + 5) f ≡ sets l n (a ∷ b ∷ c ∷ d ∷ e ∷ f ∷ [])
stored_in_turn l n a b c d e f = simp towards_suc

pub cut_moved : (address blocks : ℕ) → cut ((address + vector_bytes * blocks % 2 ^ 64) % 2 ^ 64) ≡ cut (address + vector_bytes * blocks)
unfolding cut
cut_moved address blocks = omega arith
