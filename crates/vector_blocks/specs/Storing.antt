-- What a store comes to: whether work has its block, and work afterwards.
use Rattle.std.specs.Prelude.{ℕ, Bool, true, false, cond, List, length}
use Rattle.rules.specs.Vectors.{inside, stored}

pub record Stores : Type 0 where
  pub ok : Bool
  pub work : List ℕ

abbrev pub stores : Bool → List ℕ → Stores
stores ok work = record { ok = ok; work = work }

-- a vector stored at a block: the store rule where work has the block, else nothing
abbrev pub storing : (W : ℕ) → List ℕ → (block : ℕ) → List ℕ → Stores
storing W work block v = cond (inside W (length work) block) (stores true (stored W work block v)) (stores false work)
