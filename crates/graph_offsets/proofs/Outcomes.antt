-- What the contract of `offset_check` says of every head and node table: it allows one answer. The tables are lent to be read only.
use mathlib.Core.Path.{◌≡◌, sym, ◌∙◌}
use mathlib.Core.List.{List}
use Prim.Native.Nat.{ℕ}
use Rattle.rules.specs.Limits.{vector_bytes}
use Rattle.rules.specs.Answers.{of_result}
use Rattle.rules.specs.Calls.{offset_checking}
use Rattle.std.specs.Prelude.{Result, ⊤}
use Rattle.rules.specs.declared.answers.Refusal.{Refusal}
use Rattle.theory.proofs.AnswerLaws.{result_told_apart}

module _ (head nodes : List ℕ) where
  -- the contract of `offset_check`, of an answer
  abbrev pub Allowed : Result ⊤ Refusal → Type 0
  Allowed r = of_result r ≡ offset_checking vector_bytes head nodes

  pub one_outcome : (r s : Result ⊤ Refusal) → Allowed r → Allowed s → r ≡ s
  one_outcome r s a b = result_told_apart r s (a ∙ sym b)
