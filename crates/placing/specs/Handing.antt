-- What placing stands on, and what of a graph is handed back.
use Rattle.std.specs.Prelude.{ℕ, ◌≡◌, List, [], ◌∷◌, length, get_or, Result, ⊤}
use Rattle.rules.specs.Limits.{vector_bytes}
use Rattle.rules.specs.Answers.{DONE, of_result}
use Rattle.rules.specs.Tables.{Graph, padded}
use Rattle.rules.specs.Checks.{bare_check}
use Rattle.rules.specs.Calls.{WithSheet, placed_graph}
use Rattle.rules.specs.declared.answers.Refusal.{Refusal}
use Rattle.theory.proofs.FormLaws.{Formed}

-- a graph that passes as if read, and is bare
pub record BareSheet (g : Graph) : Type 0 where
  pub formed : Formed vector_bytes g
  pub bare : (bare_check g).number ≡ DONE

-- a head with another number of nodes
abbrev pub head_with : (head : List ℕ) (N : ℕ) → List ℕ
head_with head N = get_or head 0 0 ∷ get_or head 1 0 ∷ get_or head 2 0 ∷ N ∷ []

-- a node table holds the rows of the placed tree, so many, and zeros
pub record RowsPlaced (rule : ℕ) (g : Graph) (before after : List ℕ) (rows : ℕ) : Type 0 where
  pub number : rows ≡ (placed_graph vector_bytes rule g).N
  pub table : after ≡ padded (length before) (placed_graph vector_bytes rule g).nodes

-- everything that placing gives and leaves
abbrev pub sheet_given : Result ⊤ Refusal → (head nodes : List ℕ) → WithSheet
sheet_given r head nodes = record { answer = of_result r; head = head; nodes = nodes }
