-- What the contract of `read` says of every text and every two lent tables: it allows one outcome, ROOM leaves both tables as they
-- were and every other refusal all zero, a place is a line of the text, and what is read passes the checks of tables.
use mathlib.Core.Path.{◌≡◌, sym, ap, ◌∙◌}
use mathlib.Core.List.{List}
use Prim.Native.Nat.{ℕ, ◌≤◌}
use Rattle.std.specs.Prelude.{Result, ⊤}
use Rattle.rules.specs.Limits.{vector_bytes}
use Rattle.rules.specs.Answers.{DONE, done, of_result}
use Rattle.rules.specs.Calls.{WithSheet, reading, checking}
use Rattle.rules.specs.declared.answers.Refusal.{Refusal}
use Rattle.theory.proofs.AnswerLaws.{result_told_apart}
use Rattle.theory.proofs.ReadingLaws.{reading_place, reading_is_checked}
use Rattle.theory.proofs.Demands.{Leaves, reading_leaves}
use Rattle.sheet.specs.Left.{sheet_left}

module _ (text head nodes : List ℕ) where
  -- the contract of `read`, of an answer and of both tables afterwards
  abbrev pub Allowed : Result ⊤ Refusal → (h n : List ℕ) → Type 0
  Allowed r h n = sheet_left r h n ≡ reading text head nodes

  pub one_outcome : (r s : Result ⊤ Refusal) (h n k m : List ℕ) → Allowed r h n → Allowed s k m → (r ≡ s) × (h ≡ k) × (n ≡ m)
  one_outcome r s h n k m a b =
      let e : sheet_left r h n ≡ sheet_left s k m = a ∙ sym b in (
        result_told_apart r s (ap (λ (x : WithSheet). x.answer) e),
        ap (λ (x : WithSheet). x.head) e,
        ap (λ (x : WithSheet). x.nodes) e,
      )

  pub refusal_leaves_tables : (r : Result ⊤ Refusal) (h n : List ℕ) → Allowed r h n
      → Leaves (of_result r).number head h × Leaves (of_result r).number nodes n
  refusal_leaves_tables r h n a = rw (← a) at (reading_leaves text head nodes)

  pub place_is_a_line : (r : Result ⊤ Refusal) (h n : List ℕ) → Allowed r h n → (of_result r).place ≤ 67
  place_is_a_line r h n a = rw (← a) at (reading_place text head nodes)

  pub read_is_checked : (r : Result ⊤ Refusal) (h n : List ℕ) → Allowed r h n → (of_result r).number ≡ DONE → checking vector_bytes h n ≡ done
  read_is_checked r h n a = rw (← a) at (reading_is_checked text head nodes)
