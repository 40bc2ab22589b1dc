-- "Reading: ROOM, then the first line at fault; on one line 2 before 3 before 4": what each line of a sheet does, and what a
-- whole sheet gives, for every byte string.
use Rattle.std.specs.Prelude.{ℕ, zero, suc, ◌+◌, ◌-◌, List, [], ◌∷◌, ◌++◌, cond, ◌&&◌, ◌||◌, length, ltb, leb, eqb, Option, Some, None, Result, Ok, Err, ⊤}
use Rattle.rules.specs.Limits.{vector_bytes, nodes_most}
use Rattle.rules.specs.Frames.{frame_at, header_kind, end_kind}
use Rattle.rules.specs.Ranges.{head_ok, row_ok, takes}
use Rattle.rules.specs.declared.sheet.Fields.{Fields}
use Rattle.rules.specs.declared.sheet.Row.{Row}
use Rattle.rules.specs.declared.sheet.Cursor.{Cursor}
use Rattle.rules.specs.declared.sheet.NodeRead.{NodeRead}
use Rattle.rules.specs.declared.answers.Refusal.{Refusal}
use Rattle.rules.specs.declared.answers.Refusal.TheVariants.{Line, Range, Shape}

-- What a line does: it refuses; or it ends the sheet, None; or it is a node, after which reading stands elsewhere.

-- a node frame: RANGE, then SHAPE where too few wait or it is the 65th; else what it takes is gone, and it waits itself
unfoldable pub node_line : (D : ℕ) → Cursor → Fields → Result (Option NodeRead) Refusal
node_line D here f =
    cond (row_ok vector_bytes D f.kind f.x f.y)
    (cond (ltb here.waiting (takes f.kind) || leb nodes_most here.count) (Err (Shape here.line))
    (Ok (Some (record {
      row = record { kind = f.kind; x = f.x; y = f.y };
      there = record { at = f.next; line = here.line + 1; count = here.count + 1; waiting = here.waiting - takes f.kind + 1 };
    }))))
    (Err (Range here.line))

-- the end frame: SHAPE where its number is wrong or not one waits; "text after end" is LINE at the line after it
unfoldable pub end_line : List ℕ → Cursor → Fields → Result (Option NodeRead) Refusal
end_line text here f =
    cond (eqb f.x here.count && eqb here.waiting 1)
    (cond (ltb f.next (length text)) (Err (Line (here.line + 1))) (Ok None))
    (Err (Shape here.line))

-- a line after the header: no frame is LINE, and so is a "header out of place"
unfoldable pub line_by : List ℕ → (D : ℕ) → Cursor → Option Fields → Result (Option NodeRead) Refusal
line_by text D here None = Err (Line here.line)
line_by text D here (Some f) =
    cond (eqb f.kind end_kind) (end_line text here f)
    (cond (eqb f.kind header_kind) (Err (Line here.line)) (node_line D here f))

unfoldable pub line_at : List ℕ → (D : ℕ) → Cursor → Result (Option NodeRead) Refusal
line_at text D here = line_by text D here (frame_at text here.at)

-- how a sheet comes out: the answer; D, n, S and the number of nodes; and the nodes' kinds and fields in the order of the lines
pub record Sheet : Type 0 where
  pub answer : Result ⊤ Refusal
  pub head : List ℕ
  pub nodes : List ℕ

abbrev pub refused : Refusal → Sheet
refused r = record { answer = Err r; head = []; nodes = [] }

abbrev pub follow : Result (Option NodeRead) Refusal → Cursor → List ℕ → List ℕ → (Row → Cursor → Sheet) → Sheet
follow (Err r) here head nodes next = refused r
follow (Ok None) here head nodes next = record { answer = Ok tt; head = head ++ here.count ∷ []; nodes = nodes }
follow (Ok (Some read)) here head nodes next = next read.row read.there

-- the lines from here on, of which so many more may be nodes. A 65th is SHAPE on its own line (node_line), so nothing ever follows
-- a line that is read with none left
unfoldable pub lines_from : ℕ → List ℕ → (D : ℕ) → Cursor → List ℕ → List ℕ → Sheet
lines_from zero text D here head nodes =
    follow (line_at text D here) here head nodes (λ row there. refused (Shape here.line))
lines_from (suc more) text D here head nodes =
    follow (line_at text D here) here head nodes
    (λ row there. lines_from more text D there head (nodes ++ row.kind ∷ row.x ∷ row.y ∷ []))

abbrev pub fresh : Fields → Cursor
fresh f = record { at = f.next; line = 2; count = 0; waiting = 0 }

-- "The header is line 1 and only there"
unfoldable pub header_line : List ℕ → Fields → Sheet
header_line text f =
    cond (head_ok f.x f.y f.z) (lines_from nodes_most text f.x (fresh f) (f.x ∷ f.y ∷ f.z ∷ []) [])
    (refused (Range 1))

unfoldable pub sheet_by : List ℕ → Option Fields → Sheet
sheet_by text None = refused (Line 1)
sheet_by text (Some f) = cond (eqb f.kind header_kind) (header_line text f) (refused (Line 1))

unfoldable pub sheet_of : List ℕ → Sheet
sheet_of text = sheet_by text (frame_at text 0)
