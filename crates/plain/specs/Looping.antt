-- Everything that the plain loop gives and leaves.
use Rattle.std.specs.Prelude.{ℕ, List, Result, ⊤}
use Rattle.rules.specs.Answers.{of_result}
use Rattle.rules.specs.Calls.{WithWork}
use Rattle.rules.specs.declared.answers.Refusal.{Refusal}

abbrev pub looped : Result ⊤ Refusal → List ℕ → WithWork
looped r work = record { answer = of_result r; work = work }
