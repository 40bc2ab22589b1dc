-- What a run goes over, and how a part of it comes out, in the machine's own answers.
use Rattle.std.specs.Prelude.{ℕ, List, Result}
use Rattle.rules.specs.Answers.{of_run}
use Rattle.rules.specs.Machine.{instructions_from, Program, Standing, standing}
use Rattle.rules.specs.Calls.{WithWork}
use Rattle.rules.specs.declared.answers.Refusal.{Refusal}
use Rattle.rules.specs.declared.program.Instruction.{Instruction}
use Rattle.machine_kinds.specs.Trying.{state}
use Rattle.machine.specs.declared.sections.Section.{Section}

-- the instructions of a section
abbrev pub instructions : Section → List Instruction
instructions s = instructions_from s.entries.now 0 s.rows

-- the program of three sections
abbrev pub program : (full : ℕ) (prologue body epilogue : Section) → Program
program full prologue body epilogue =
    record { full = full; prologue = instructions prologue; body = instructions body; epilogue = instructions epilogue }

-- an answer with registers and work: DONE while a run goes on
abbrev pub stood : Result ℕ Refusal → List (List ℕ) → List ℕ → Standing
stood r regs work = standing (of_run r).number (of_run r).steps (state regs work)

-- everything that a run gives and leaves
abbrev pub ran : Result ℕ Refusal → List ℕ → WithWork
ran r work = record { answer = of_run r; work = work }
