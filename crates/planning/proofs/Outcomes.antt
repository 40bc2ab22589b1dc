-- What the contract of `plan` says of every rule, sheet, window length and lent section: it allows one outcome, and a refusal leaves
-- the sections as laid down.
use mathlib.Core.Path.{◌≡◌, sym, ap, ◌∙◌}
use mathlib.Core.List.{List}
use Prim.Native.Nat.{ℕ}
use Rattle.std.specs.Prelude.{Result}
use Rattle.rules.specs.Limits.{vector_bytes}
use Rattle.rules.specs.Calls.{WithProgram, planning}
use Rattle.rules.specs.declared.answers.Refusal.{Refusal}
use Rattle.rules.specs.declared.program.ProgramHead.{ProgramHead}
use Rattle.theory.proofs.Demands.{ProgramLeaves, planning_leaves}
use Rattle.translating.proofs.Outcomes.{given_told_apart}
use Rattle.planning.specs.Planning.{plan_given}

module _ (rule : ℕ) (head nodes : List ℕ) (work_len table_len : ℕ) (prologue body epilogue : List ℕ) where
  -- the contract of `plan`, of what it gives and of the sections afterwards
  abbrev pub Allowed : Result ProgramHead Refusal → (p b e : List ℕ) → Type 0
  Allowed r p b e = plan_given r p b e ≡ planning vector_bytes rule head nodes work_len table_len prologue body epilogue

  pub one_outcome : (r s : Result ProgramHead Refusal) (p p' b b' e e' : List ℕ) → Allowed r p b e → Allowed s p' b' e'
      → (r ≡ s) × (p ≡ p') × (b ≡ b') × (e ≡ e')
  one_outcome r s p p' b b' e e' x y =
      let same : plan_given r p b e ≡ plan_given s p' b' e' = x ∙ sym y in (
        given_told_apart r s p p' b b' e e' same,
        ap (λ (w : WithProgram). w.prologue) same,
        ap (λ (w : WithProgram). w.body) same,
        ap (λ (w : WithProgram). w.epilogue) same,
      )

  pub refusal_leaves : (r : Result ProgramHead Refusal) (p b e : List ℕ) → Allowed r p b e
      → ProgramLeaves (plan_given r p b e) prologue body epilogue
  refusal_leaves r p b e x = rw (← x) at (planning_leaves vector_bytes rule head nodes work_len table_len prologue body epilogue)
