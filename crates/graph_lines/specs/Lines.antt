-- The nodes' lines in their order: the first of which a test says yes.
use Rattle.std.specs.Prelude.{ℕ, ◌<◌, ◌≡◌, Bool, true, false, Option, None, Some}
use Rattle.rules.specs.Checks.{line}

-- among the first n nodes, by what the test says of each: none, or its line
unfoldable pub FirstLine : (says : ℕ → Bool → Type 0) (n : ℕ) → Option ℕ → Type 0
FirstLine says n None = (k : ℕ) → k < n → says k false
FirstLine says n (Some place) = (k : ℕ) × (k < n) × (place ≡ line k) × says k true × ((j : ℕ) → j < k → says j false)
