-- A table that begins with some entries, the others zero: an entry or a row written right after them is one more of them.
use Prim.Native.Nat.{ℕ, suc, ◌+◌, ◌-◌, ◌*◌, ◌<◌, ◌≤◌}
use mathlib.Core.Path.{◌≡◌, ◌∙◌}
use mathlib.Core.List.{List, [], ◌∷◌, ◌++◌, append_assoc}
use native.Mathlib.Omega.{arith}
use native.Mathlib.Nat.{sub-zero}
use lib.ListN.{length, set, replicate, length-append}
use lib.Seq.{set_at}
use Rattle.rules.specs.Trees.{node_of, node_at}
use Rattle.rules.specs.Tables.{padded}
use Rattle.rules.specs.declared.sheet.Row.{Row}
use Rattle.tables.specs.Rows.{row_at, row_put}

pub padded_none : (len : ℕ) → replicate len 0 ≡ padded len []
unfolding padded
padded_none len = rw sub-zero

pub padded_put : (len i value : ℕ) (made : List ℕ) → length made ≡ i → i < len
    → set (padded len made) i value ≡ padded len (made ++ value ∷ [])
unfolding padded
padded_put len i value made e h =
    let rest : len - length made ≡ suc (len - (length made + 1)) = omega arith in
    rw (rest, set_at made 0 (replicate (len - (length made + 1)) 0) value i e, length-append, append_assoc)

pub padded_put_row : (len k : ℕ) (row : Row) (made : List ℕ) → length made ≡ 3 * k → 3 * k + 3 ≤ len
    → row_put (padded len made) k row ≡ padded len (made ++ row.kind ∷ row.x ∷ row.y ∷ [])
padded_put_row len k row made e h =
    let one : List ℕ = made ++ row.kind ∷ [] in
    let two : List ℕ = one ++ row.x ∷ [] in
    let e₁ : length one ≡ 3 * k + 1 = length-append made (row.kind ∷ []) ∙ omega arith in
    let e₂ : length two ≡ 3 * k + 2 = length-append one (row.x ∷ []) ∙ omega arith in
    rw (
      padded_put len (3 * k) row.kind made e (omega arith),
      padded_put len (3 * k + 1) row.x one e₁ (omega arith),
      padded_put len (3 * k + 2) row.y two e₂ (omega arith),
      append_assoc one (row.x ∷ []) (row.y ∷ []),
      append_assoc made (row.kind ∷ []) (row.x ∷ row.y ∷ []),
    )

-- the node of a row is by its entries
pub node_of_row : (nodes : List ℕ) (k : ℕ) (row : Row) → row ≡ row_at nodes k → node_of row.kind row.x row.y ≡ node_at nodes k
unfolding node_at
node_of_row nodes k row e = rw e
