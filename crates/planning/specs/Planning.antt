-- Everything that the one-step call gives and leaves: what translating does.
use Rattle.std.specs.Prelude.{List, ℕ, Result}
use Rattle.rules.specs.Calls.{WithProgram}
use Rattle.rules.specs.declared.answers.Refusal.{Refusal}
use Rattle.rules.specs.declared.program.ProgramHead.{ProgramHead}
use Rattle.translating.specs.Programs.{program_given}

abbrev pub plan_given : Result ProgramHead Refusal → (prologue body epilogue : List ℕ) → WithProgram
plan_given r prologue body epilogue = program_given r prologue body epilogue
