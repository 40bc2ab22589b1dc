-- An instruction put into a row of a section, and the row after it.
use Rattle.std.specs.Prelude.{ℕ, ◌≡◌, ◌+◌, ◌*◌, ◌%◌, cond, List, [], ◌∷◌, length, nat_lt}
use Rattle.std.proofs.lemmas.List.Edits.{sets}
use Rattle.rules.specs.Limits.{vector_bytes, low_values, instruction_entries}
use Rattle.rules.specs.Vectors.{held}
use Rattle.rules.specs.Machine.{Load, Store}
use Rattle.rules.specs.Code.{pair_up}
use Rattle.rules.specs.Tables.{entries}
use Rattle.rules.specs.declared.nodes.LoadAt.{LoadAt}
use Rattle.rules.specs.declared.nodes.ShiftBy.{ShiftBy}
use Rattle.rules.specs.declared.program.Instruction.{Instruction}
use Rattle.translating_rows.specs.declared.Writer.{Writer}

-- what an entry holds of a number
unfoldable pub cut : ℕ → ℕ
cut n = n % low_values

-- a section with these instructions from a row on, and all else as it was
unfoldable pub written : List ℕ → ℕ → List Instruction → List ℕ
written section row is = sets section (instruction_entries * row) (entries is)

-- a load with so many vectors added to its address, a shift's pair and a store, of numbers as entries hold them
abbrev pub load_of : (row : ℕ) → LoadAt → (blocks : ℕ) → Instruction
load_of row from blocks = Load row (cut from.window) (cut (from.address.0 + vector_bytes * blocks))

abbrev pub pair_of : (row : ℕ) → ShiftBy → (this other : ℕ) → Instruction
pair_of row by this other = pair_up vector_bytes (cut by.«from».0) (cut by.to.0) row this other

abbrev pub store_of : (source S : ℕ) → Instruction
store_of source S = Store source (cut (held vector_bytes S))

-- a row's number and a section, as they are handed back
pub record Handed : Type 0 where
  pub next : ℕ
  pub section : List ℕ

abbrev pub handed : (next : ℕ) (section : List ℕ) → Handed
handed next section = record { next = next; section = section }

-- a row that does not lie in the section is not written
abbrev pub row_put : (section : List ℕ) (row : ℕ) → Instruction → List ℕ
row_put section row i =
    cond (nat_lt (length section) (instruction_entries * row + instruction_entries)) section (written section row (i ∷ []))

abbrev pub putting : (section : List ℕ) (row : ℕ) → Instruction → Handed
putting section row i = handed (cut (row + 1)) (row_put section row i)

-- a writer before and after it put an instruction into its row
abbrev pub Puts : (before after : Writer) → Instruction → Type 0
Puts before after i = handed after.row after.section.now ≡ putting before.section.now before.row i
