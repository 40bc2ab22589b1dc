-- What the contract of `run_loop` says of every graph and window: it allows one outcome, and a refusal leaves work as it was.
use Prim.Native.Nat.{ℕ}
use mathlib.Core.Path.{◌≡◌, sym, ap, ◌∙◌}
use mathlib.Core.Logic.{◌≢◌}
use mathlib.Core.List.{List}
use Rattle.rules.specs.Limits.{vector_bytes}
use Rattle.std.specs.Prelude.{Result, ⊤}
use Rattle.rules.specs.Answers.{DONE, of_result}
use Rattle.rules.specs.Calls.{WithWork, looping}
use Rattle.rules.specs.declared.answers.Refusal.{Refusal}
use Rattle.theory.proofs.AnswerLaws.{result_told_apart}
use Rattle.theory.proofs.Demands.{looping_keeps_work}
use Rattle.plain.specs.Looping.{looped}

module _ (head nodes work table : List ℕ) where
  -- the contract of `run_loop`, of an answer and of work afterwards
  abbrev pub Allowed : Result ⊤ Refusal → List ℕ → Type 0
  Allowed r left = looped r left ≡ looping vector_bytes head nodes work table

  pub one_outcome : (r s : Result ⊤ Refusal) (v w : List ℕ) → Allowed r v → Allowed s w → (r ≡ s) × (v ≡ w)
  one_outcome r s v w a b =
      let e : looped r v ≡ looped s w = a ∙ sym b in
      (result_told_apart r s (ap (λ (x : WithWork). x.answer) e), ap (λ (x : WithWork). x.work) e)

  pub refusal_leaves_work : (r : Result ⊤ Refusal) (v : List ℕ) → Allowed r v → (of_result r).number ≢ DONE → v ≡ work
  refusal_leaves_work r v a ne =
      let number : (of_result r).number ≡ (looping vector_bytes head nodes work table).answer.number =
      ap (λ (x : WithWork). x.answer.number) a in
      ap (λ (x : WithWork). x.work) a ∙ looping_keeps_work vector_bytes head nodes work table (λ e. ne (number ∙ e))
