-- A program for a caller in C: its head, by value in Rattle, goes in numbers or in a lent table, the program table.
use Rattle.std.specs.Prelude.{ℕ, List, [], ◌∷◌, Bool, cond, ltb, length}
use Rattle.rules.specs.Answers.{ROOM, at}
use Rattle.rules.specs.Tables.{table_left}
use Rattle.rules.specs.Calls.{WithProgram}
use Rattle.rules.specs.declared.program.ProgramHead.{ProgramHead}
use Rattle.sinkerjaw.specs.Packed.{packed}

abbrev pub head_of : (d f prologue body epilogue : ℕ) → ProgramHead
head_of d f prologue body epilogue = record { d = d; f = f; prologue = prologue; body = body; epilogue = epilogue }

-- entries of a program table
abbrev pub program_entries : ℕ
program_entries = 5

abbrev pub program_short : List ℕ → Bool
program_short program = ltb (length program) program_entries

-- a head in its entries
abbrev pub in_entries : ProgramHead → List ℕ
in_entries h = h.d ∷ h.f ∷ h.prologue ∷ h.body ∷ h.epilogue ∷ []

-- a packed answer with a program
pub record PackedProgram : Type 0 where
  pub answer : ℕ
  pub program : List ℕ
  pub prologue : List ℕ
  pub body : List ℕ
  pub epilogue : List ℕ

abbrev pub packed_program : ℕ → (program prologue body epilogue : List ℕ) → PackedProgram
packed_program answer program prologue body epilogue =
    record { answer = answer; program = program; prologue = prologue; body = body; epilogue = epilogue }

-- the program table is one more output table of the call
abbrev pub of_with_program : (program : List ℕ) → WithProgram → PackedProgram
of_with_program program r =
    packed_program (packed r.answer) (table_left r.answer.number program (in_entries r.head)) r.prologue r.body r.epilogue

-- what a call leaves in tables that held these: a program table that is too short is ROOM, which leaves them all
abbrev pub handed : (program prologue body epilogue : List ℕ) → WithProgram → PackedProgram
handed program prologue body epilogue r =
    cond (program_short program) (packed_program (packed (at ROOM 0)) program prologue body epilogue) (of_with_program program r)
