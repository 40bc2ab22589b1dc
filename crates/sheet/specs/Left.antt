-- What reading gives and leaves: an answer with both tables, and how the lines after the header come out.
use Rattle.std.specs.Prelude.{ℕ, ◌*◌, ◌≤◌, ◌≡◌, List, [], ◌∷◌, ◌++◌, length, Result, Ok, Err, IfOk, ⊤}
use Rattle.rules.specs.Limits.{nodes_most, head_entries, row_entries}
use Rattle.rules.specs.Answers.{of_result}
use Rattle.rules.specs.Reading.{Sheet, refused, lines_from}
use Rattle.rules.specs.Tables.{padded}
use Rattle.rules.specs.Calls.{WithSheet}
use Rattle.rules.specs.declared.answers.Refusal.{Refusal}
use Rattle.rules.specs.declared.sheet.Cursor.{Cursor}

-- everything that a reading gives and leaves
abbrev pub sheet_left : Result ⊤ Refusal → (head nodes : List ℕ) → WithSheet
sheet_left r head nodes = record { answer = of_result r; head = head; nodes = nodes }

-- a sheet as whole tables of so many entries
abbrev pub filled : (head_len nodes_len : ℕ) → Sheet → WithSheet
filled head_len nodes_len sheet = sheet_left sheet.answer (padded head_len sheet.head) (padded nodes_len sheet.nodes)

-- two tables with room for a sheet, all zero
pub record Zeroed (head nodes : List ℕ) : Type 0 where
  pub head_room : head_entries ≤ length head
  pub nodes_room : row_entries * nodes_most ≤ length nodes
  pub head_zero : head ≡ padded (length head) []
  pub nodes_zero : nodes ≡ padded (length nodes) []

-- the sheet that lines with so many nodes, or with such a refusal, make after a header's fields
abbrev pub ending_sheet : Result ℕ Refusal → (head nodes : List ℕ) → Sheet
ending_sheet (Ok count) head nodes = record { answer = Ok tt; head = head ++ count ∷ []; nodes = nodes }
ending_sheet (Err refusal) head nodes = refused refusal

-- how the lines come out: the sheet that they make after any header's fields, and on done the node table
pub record LinesLeft (text : List ℕ) (D : ℕ) (first : Cursor) (len : ℕ) (r : Result ℕ Refusal) (table : List ℕ) : Type 0 where
  pub nodes : List ℕ
  pub table_is : IfOk r (λ count. table ≡ padded len nodes)
  pub sheet_is : (head : List ℕ) → lines_from nodes_most text D first head [] ≡ ending_sheet r head nodes
