-- What the contract of `translate` says of every graph, of window lengths and of sections: it allows one outcome, and a refusal
-- leaves the sections as laid down, with no program's head.
use Prim.Native.Nat.{ℕ}
use native.Mathlib.Omega.{arith}
use mathlib.Core.Path.{◌≡◌, sym, ap, subst, ◌∙◌}
use mathlib.Core.List.{List}
use Rattle.std.specs.Prelude.{Result, Ok, Err}
use Rattle.rules.specs.Limits.{vector_bytes}
use Rattle.rules.specs.Calls.{WithProgram, translating}
use Rattle.rules.specs.declared.answers.Refusal.{Refusal}
use Rattle.rules.specs.declared.program.ProgramHead.{ProgramHead}
use Rattle.theory.proofs.AnswerLaws.{refusal_told_apart, refusal_not_done}
use Rattle.theory.proofs.Demands.{ProgramLeaves, translating_leaves}
use Rattle.translating.specs.Programs.{program_given}

-- an answer and a head tell the result
pub given_told_apart : (r s : Result ProgramHead Refusal) (p p' b b' e e' : List ℕ) → program_given r p b e ≡ program_given s p' b' e' → r ≡ s
given_told_apart (Ok h) (Ok h') p p' b b' e e' same = ap Ok (ap (λ (x : WithProgram). x.head) same)
given_told_apart (Ok h) (Err r) p p' b b' e e' same = absurd (omega (arith, refusal_not_done r, ap (λ (x : WithProgram). x.answer.number) same))
given_told_apart (Err r) (Ok h) p p' b b' e e' same = absurd (omega (arith, refusal_not_done r, ap (λ (x : WithProgram). x.answer.number) same))
given_told_apart (Err r) (Err s) p p' b b' e e' same = ap Err (refusal_told_apart r s (ap (λ (x : WithProgram). x.answer) same))

module _ (head nodes : List ℕ) (work_len table_len : ℕ) (prologue body epilogue : List ℕ) where
  -- the contract of `translate`, of what it gives and of the sections afterwards
  abbrev pub Allowed : Result ProgramHead Refusal → (prologue body epilogue : List ℕ) → Type 0
  Allowed r p b e = program_given r p b e ≡ translating vector_bytes head nodes work_len table_len prologue body epilogue

  pub one_outcome : (r s : Result ProgramHead Refusal) (p p' b b' e e' : List ℕ) → Allowed r p b e → Allowed s p' b' e'
      → (r ≡ s) × (p ≡ p') × (b ≡ b') × (e ≡ e')
  one_outcome r s p p' b b' e e' one other =
      let same : program_given r p b e ≡ program_given s p' b' e' = one ∙ sym other in (
        given_told_apart r s p p' b b' e e' same,
        ap (λ (x : WithProgram). x.prologue) same,
        ap (λ (x : WithProgram). x.body) same,
        ap (λ (x : WithProgram). x.epilogue) same,
      )

  pub refusal_leaves : (r : Result ProgramHead Refusal) (p b e : List ℕ) → Allowed r p b e
      → ProgramLeaves (program_given r p b e) prologue body epilogue
  refusal_leaves r p b e allowed =
      subst (λ (x : WithProgram). ProgramLeaves x prologue body epilogue) (sym allowed)
      (translating_leaves vector_bytes head nodes work_len table_len prologue body epilogue)
