-- A program as it is written: its head, and its sections from their first rows on; and all that translating gives.
use Rattle.std.specs.Prelude.{ℕ, ◌≡◌, List, Result, Ok, Err}
use Rattle.rules.specs.Units.{width_bytes}
use Rattle.rules.specs.Machine.{Program}
use Rattle.rules.specs.Code.{program_of}
use Rattle.rules.specs.Tables.{no_program}
use Rattle.rules.specs.Answers.{of_result}
use Rattle.rules.specs.Calls.{WithProgram}
use Rattle.rules.specs.declared.answers.Refusal.{Refusal}
use Rattle.rules.specs.declared.program.ProgramHead.{ProgramHead}
use Rattle.graph.specs.declared.headers.Header.{Header}
use Rattle.graph.specs.NodeTables.{NodeTable}
use Rattle.translating.specs.Writing.{Written, root_of}

-- the program of a graph's header and its nodes
abbrev pub headed : (W : ℕ) → Header → NodeTable → Program
headed W h table = program_of W (width_bytes h.width) h.elements h.store.0 (root_of table)

-- a head, and the three sections before and after a program of elements of D bytes was written into them
pub record Emitted (D : ℕ) (p : Program) (h : ProgramHead) (prologue body epilogue prologue' body' epilogue' : List ℕ) : Type 0 where
  pub width : h.d ≡ D
  pub full : h.f ≡ p.full
  pub before : Written prologue prologue' 0 h.prologue p.prologue
  pub between : Written body body' 0 h.body p.body
  pub after : Written epilogue epilogue' 0 h.epilogue p.epilogue

-- the head that a call gives: none on a refusal
abbrev pub head_given : Result ProgramHead Refusal → ProgramHead
head_given (Ok head) = head
head_given (Err refusal) = no_program

-- everything that translating gives and leaves
abbrev pub program_given : Result ProgramHead Refusal → (prologue body epilogue : List ℕ) → WithProgram
program_given r prologue body epilogue =
    record { answer = of_result r; head = head_given r; prologue = prologue; body = body; epilogue = epilogue }
