-- What the contract of `place` says of every rule, sheet and lent table: it allows one outcome, and a refusal leaves the lent tables
-- as laid down: ROOM unchanged, every other refusal all zero.
use Prim.Native.Nat.{ℕ}
use mathlib.Core.Path.{◌≡◌, sym, ap, ◌∙◌}
use mathlib.Core.List.{List}
use Rattle.std.specs.Prelude.{Result, ⊤}
use Rattle.rules.specs.Limits.{vector_bytes}
use Rattle.rules.specs.Answers.{of_result}
use Rattle.rules.specs.Calls.{WithSheet, placing}
use Rattle.rules.specs.declared.answers.Refusal.{Refusal}
use Rattle.theory.proofs.AnswerLaws.{result_told_apart}
use Rattle.theory.proofs.Demands.{Leaves, placing_leaves}
use Rattle.placing.specs.Handing.{sheet_given}

module _ (rule : ℕ) (head nodes placed_head placed_nodes : List ℕ) where
  -- the contract of `place`, of an answer and of the lent tables afterwards
  abbrev pub Allowed : Result ⊤ Refusal → (h n : List ℕ) → Type 0
  Allowed r h n = sheet_given r h n ≡ placing vector_bytes rule head nodes placed_head placed_nodes

  pub one_outcome : (r s : Result ⊤ Refusal) (h n i k : List ℕ) → Allowed r h n → Allowed s i k → (r ≡ s) × (h ≡ i) × (n ≡ k)
  one_outcome r s h n i k a b =
      let e : sheet_given r h n ≡ sheet_given s i k = a ∙ sym b in (
        result_told_apart r s (ap (λ (x : WithSheet). x.answer) e),
        ap (λ (x : WithSheet). x.head) e,
        ap (λ (x : WithSheet). x.nodes) e,
      )

  pub refusal_leaves_tables : (r : Result ⊤ Refusal) (h n : List ℕ) → Allowed r h n
      → Leaves (of_result r).number placed_head h × Leaves (of_result r).number placed_nodes n
  refusal_leaves_tables r h n a =
      let laid = placing_leaves vector_bytes rule head nodes placed_head placed_nodes in
      (rw (← a) at laid.0, rw (← a) at laid.1)
