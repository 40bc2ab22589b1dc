-- How a graph and a program are handed over and handed back: lent tables of numbers.
use Rattle.std.specs.Prelude.{ℕ, zero, suc, ◌-◌, List, [], ◌∷◌, ◌++◌, length, get_or, replicate}
use Rattle.rules.specs.Trees.{Tree, rows, count}
use Rattle.rules.specs.Machine.{Program, instructions_from}
use Rattle.rules.specs.declared.program.Instruction.{Instruction}
use Rattle.rules.specs.declared.program.ProgramHead.{ProgramHead}

-- a sheet or graph: the header's fields, the number of nodes, and the node table
pub record Graph : Type 0 where
  pub D : ℕ
  pub n : ℕ
  pub S : ℕ
  pub N : ℕ
  pub nodes : List ℕ

-- entries 0 to 3 of the head; the others are for further statements, and not read
abbrev pub graph_of : (head nodes : List ℕ) → Graph
graph_of head nodes = record { D = get_or head 0 0; n = get_or head 1 0; S = get_or head 2 0; N = get_or head 3 0; nodes = nodes }

-- a loop's header with a tree for its nodes
abbrev pub with_tree : Graph → Tree → Graph
with_tree g t = record { D = g.D; n = g.n; S = g.S; N = count t; nodes = rows t }

abbrev pub head_of : Graph → List ℕ
head_of g = g.D ∷ g.n ∷ g.S ∷ g.N ∷ []

-- a section's rows
abbrev pub entries : List Instruction → List ℕ
entries [] = []
entries (i ∷ is) = i.kind ∷ i.destination ∷ i.a ∷ i.b ∷ i.low ∷ i.high ∷ entries is

-- the head of a program, and of none
abbrev pub program_head : (D : ℕ) → Program → ProgramHead
program_head D p =
    record { d = D; f = p.full; prologue = length p.prologue; body = length p.body; epilogue = length p.epilogue }

abbrev pub no_program : ProgramHead
no_program = record { d = 0; f = 0; prologue = 0; body = 0; epilogue = 0 }

-- the program that a head and three lent sections hold
abbrev pub program_in : ProgramHead → (prologue body epilogue : List ℕ) → Program
program_in h prologue body epilogue =
    record {
      full = h.f;
      prologue = instructions_from prologue 0 h.prologue;
      body = instructions_from body 0 h.body;
      epilogue = instructions_from epilogue 0 h.epilogue;
    }

-- a table of so many entries that begins with these, the others zero
unfoldable pub padded : ℕ → List ℕ → List ℕ
padded len made = made ++ replicate (len - length made) 0

-- an output table afterwards, by the answer's number: "On done the unused entries of output tables are zero. ROOM leaves tables
-- unchanged; 2 to 11 leave the lent output tables all zero."
abbrev pub table_left : (number : ℕ) → (before made : List ℕ) → List ℕ
table_left zero before made = padded (length before) made
table_left (suc zero) before made = before
table_left (suc (suc number)) before made = padded (length before) []

-- the program's head, which goes by value: zero on every refusal
abbrev pub head_left : (number : ℕ) → ProgramHead → ProgramHead
head_left zero made = made
head_left (suc number) made = no_program
