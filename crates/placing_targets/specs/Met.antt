-- "the offset met most often among the loads and the store, the smallest on a tie": how often each offset is met in a table.
use Rattle.std.specs.Prelude.{ℕ, zero, suc, ◌-◌, ◌%◌, ◌≤◌, ◌<◌, ◌≡◌, cond, List, [], ◌∷◌, ltb, get_or}
use Rattle.rules.specs.Offsets.{store_offset}
use Rattle.rules.specs.Placing.{times}
use Rattle.rules.specs.declared.nodes.Node.{Node}
use Rattle.rules.specs.declared.nodes.Node.TheVariants.{Load, Splat, Op, Shift}

-- a load's offset, put before those met already
abbrev pub meets : (W : ℕ) → Node → List ℕ → List ℕ
meets W (Load a) met = a.address.0 % W ∷ met
meets W (Splat v) met = met
meets W (Op o) met = met
meets W (Shift s) met = met

-- the offsets of the loads among the first k nodes, the last first, after those met before
unfoldable pub met_in : (W : ℕ) → (ℕ → Node) → List ℕ → ℕ → List ℕ
met_in W node before zero = before
met_in W node before (suc k) = meets W (node k) (met_in W node before k)

-- how often each offset below W is met
unfoldable pub Counted : (W : ℕ) → (met counts : List ℕ) → Type 0
Counted W met counts = (x : ℕ) → x < W → get_or counts x 0 ≡ times x met

abbrev pub count_at : List ℕ → ℕ → ℕ
count_at counts x = get_or counts x 0

-- of the first k counts the largest is at x, and at no place before
pub record Largest (count : ℕ → ℕ) (k x : ℕ) : Type 0 where
  pub one : x < k
  pub often : (y : ℕ) → y < k → count y ≤ count x
  pub small : (y : ℕ) → y < k → count y ≡ count x → x ≤ y

-- where it is, of the counts up to k
unfoldable pub largest : (count : ℕ → ℕ) (k : ℕ) → ℕ
largest count zero = 0
largest count (suc k) = cond (ltb (count (largest count k)) (count (suc k))) (suc k) (largest count k)

-- the offset met most often among the loads of a table and the store, the smallest on a tie
unfoldable pub dominant_in : (W S : ℕ) → (ℕ → Node) → (N : ℕ) → ℕ
dominant_in W S node N = largest (λ (x : ℕ). times x (met_in W node (store_offset W S ∷ []) N)) (W - 1)
