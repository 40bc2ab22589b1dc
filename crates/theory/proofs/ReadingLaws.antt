-- What holds of every text that is read: the first 2,048 bytes "decide the answer"; a place is at most line 67; lent tables keep
-- their lengths; and a sheet that is read passes the checks of one "handed over as tables". Stands on RowLaws and FormLaws.
use Prim.Native.Nat.{ℕ, zero, suc, ◌+◌, ◌-◌, ◌*◌, ◌≤◌, ◌<◌, min}
use mathlib.Core.Path.{◌≡◌, refl, sym, ap, ◌∙◌}
use mathlib.Core.Bool.{Bool, true, false, cond, ◌&&◌, ◌||◌}
use mathlib.Core.List.{List, [], ◌∷◌, ◌++◌, append-nil}
use native.Mathlib.Omega.{arith}
use lib.ListN.{length, get_or, take, length-take, length-append}
use lib.Seq.{get_or-take}
use lib.Dec.{ltb, leb, eqb}
use borrow.Author.Tests.{lt-ltb, le-ltb, ltb-true, ltb-false, leb-false, eqb-true}
use Rattle.rules.specs.Limits.{vector_bytes, nodes_most}
use Rattle.std.specs.Prelude.{Option, Some, None, Result, Ok, Err, ⊤}
use Rattle.rules.specs.Answers.{Answer, DONE, ROOM, of_refusal, of_result, done, or_else, first}
use Rattle.rules.specs.Digits.{digit_run, spelled}
use Rattle.rules.specs.Frames.{field_digits, frame_digits, fields_of, frame_of, frame_at, end_kind, header_kind}
use Rattle.rules.specs.Ranges.{head_ok, row_ok, takes}
use Rattle.rules.specs.Reading.{Sheet, node_line, end_line, line_by, line_at, refused, follow, lines_from, fresh, header_line, sheet_by, sheet_of}
use Rattle.rules.specs.Tables.{graph_of, padded, table_left}
use Rattle.rules.specs.Checks.{head_short, nodes_short, room_check, form_check}
use Rattle.rules.specs.Calls.{read_answer, reading, checking}
use Rattle.theory.proofs.RowLaws.{length_padded}
use Rattle.theory.proofs.AnswerLaws.{first_result}
use Rattle.theory.proofs.FormLaws.{Rows, rows_none, some_row, rows_front, rows_next, Formed, formed_passes, first_done, refuse_done, neither}
use Rattle.rules.specs.declared.sheet.FieldDigits.{FieldDigits}
use Rattle.rules.specs.declared.sheet.Fields.{Fields}
use Rattle.rules.specs.declared.sheet.Row.{Row}
use Rattle.rules.specs.declared.sheet.Cursor.{Cursor}
use Rattle.rules.specs.declared.sheet.NodeRead.{NodeRead}
use Rattle.rules.specs.declared.answers.Refusal.{Refusal}
use Rattle.rules.specs.declared.answers.Refusal.TheVariants.{Line, Range, Shape}

-- ---- a line takes at most 27 bytes

-- what follows a frame is not past b
abbrev pub Within : ℕ → Option Fields → Type 0
Within b None = Unit {0}
Within b (Some f) = f.next ≤ b

-- a splat, the longest frame, has 18 digits
pub frame_digits_most : (kind : ℕ) → frame_digits (field_digits kind) ≤ 18
unfolding field_digits
frame_digits_most zero = omega arith
frame_digits_most (suc zero) = omega arith
frame_digits_most (suc (suc zero)) = omega arith
frame_digits_most (suc (suc (suc zero))) = omega arith
frame_digits_most (suc (suc (suc (suc zero)))) = omega arith
frame_digits_most (suc (suc (suc (suc (suc k))))) = omega arith

frame_of_within : (text : List ℕ) (at kind : ℕ) → Within (at + 27) (frame_of text at kind (field_digits kind))
unfolding frame_of
frame_of_within text at kind =
    let n : ℕ = frame_digits (field_digits kind) in
    go (ltb (digit_run text at n) n) (eqb (get_or text (at + n) 0) 10)
  where
    go : (short feed : Bool) → Within (at + 27) (cond short None (cond feed (Some (fields_of text at kind (field_digits kind))) None))
    go true feed = tt
    go false true = omega (arith, frame_digits_most kind)
    go false false = tt

pub frame_within : (text : List ℕ) (at : ℕ) → Within (at + 27) (frame_at text at)
unfolding frame_at
frame_within text at = go (ltb (digit_run text at 2) 2) (ltb end_kind (spelled text at 2))
  where
    go : (short unknown : Bool)
        → Within (at + 27) (cond short None (cond unknown None (frame_of text at (spelled text at 2) (field_digits (spelled text at 2)))))
    go true unknown = tt
    go false true = tt
    go false false = frame_of_within text at (spelled text at 2)

-- ---- what a line does

-- after a node: its fields are in their ranges, enough waited for it, it is no 65th, and reading stands one line on
pub record NodeAfter (D : ℕ) (here : Cursor) (b : ℕ) (row : Row) (there : Cursor) : Type 0 where
  pub at : there.at ≤ b
  pub line : there.line ≡ here.line + 1
  pub count : there.count ≡ here.count + 1
  pub waiting : there.waiting ≡ here.waiting - takes row.kind + 1
  pub in_range : row_ok vector_bytes D row.kind row.x row.y ≡ true
  pub enough : takes row.kind ≤ here.waiting
  pub room : here.count < nodes_most

-- a line that stops refuses, and not for room, there or right after it; at the end exactly one waits
abbrev pub LineDoes : ℕ → Cursor → ℕ → Result (Option NodeRead) Refusal → Type 0
LineDoes D here b (Err r) = (ROOM < (of_refusal r).number) × ((of_refusal r).place ≤ here.line + 1)
LineDoes D here b (Ok None) = here.waiting ≡ 1
LineDoes D here b (Ok (Some read)) = NodeAfter D here b read.row read.there

node_line_does : (D b : ℕ) (here : Cursor) (f : Fields) → f.next ≤ b → LineDoes D here b (node_line D here f)
unfolding node_line
node_line_does D b here f h =
    go (row_ok vector_bytes D f.kind f.x f.y) refl (ltb here.waiting (takes f.kind)) refl (leb nodes_most here.count) refl
  where
    go : (ok : Bool) → row_ok vector_bytes D f.kind f.x f.y ≡ ok → (few : Bool) → ltb here.waiting (takes f.kind) ≡ few
        → (full : Bool) → leb nodes_most here.count ≡ full
        → LineDoes D here b
        (cond ok
        (cond (few || full) (Err (Shape here.line))
        (Ok (Some (record {
          row = record { kind = f.kind; x = f.x; y = f.y };
          there = record { at = f.next; line = here.line + 1; count = here.count + 1; waiting = here.waiting - takes f.kind + 1 };
        }))))
        (Err (Range here.line)))
    go false o few p full q = omega arith
    go true o true p full q = omega arith
    go true o false p true q = omega arith
    go true o false p false q =
        record {
          at = h;
          line = refl;
          count = refl;
          waiting = refl;
          in_range = o;
          enough = ltb-false here.waiting (takes f.kind) p;
          room = leb-false nodes_most here.count q;
        }

end_line_does : (text : List ℕ) (D b : ℕ) (here : Cursor) (f : Fields) → LineDoes D here b (end_line text here f)
unfolding end_line
end_line_does text D b here f = go (eqb f.x here.count) (eqb here.waiting 1) refl (ltb f.next (length text))
  where
    go : (counted one : Bool) → eqb here.waiting 1 ≡ one → (more : Bool)
        → LineDoes D here b (cond (counted && one) (cond more (Err (Line (here.line + 1))) (Ok None)) (Err (Shape here.line)))
    go true true e true = omega arith
    go true true e false = eqb-true here.waiting 1 e
    go true false e more = omega arith
    go false one e more = omega arith

line_by_does : (text : List ℕ) (D b : ℕ) (here : Cursor) (frame : Option Fields) → Within b frame → LineDoes D here b (line_by text D here frame)
unfolding line_by
line_by_does text D b here None h = omega arith
line_by_does text D b here (Some f) h = go (eqb f.kind end_kind) (eqb f.kind header_kind)
  where
    go : (last header : Bool) → LineDoes D here b (cond last (end_line text here f) (cond header (Err (Line here.line)) (node_line D here f)))
    go true header = end_line_does text D b here f
    go false true = omega arith
    go false false = node_line_does D b here f h

pub line_does : (text : List ℕ) (D : ℕ) (here : Cursor) → LineDoes D here (here.at + 27) (line_at text D here)
unfolding line_at
line_does text D here = line_by_does text D _ here _ (frame_within text here.at)

-- ---- the first bytes decide

module _ (n : ℕ) (text : List ℕ) where
  digit_run_take : (at k : ℕ) → at + k ≤ n → digit_run (take n text) at k ≡ digit_run text at k
  unfolding digit_run
  digit_run_take at zero h = refl
  digit_run_take at (suc k) h = rw (get_or-take n text at 0 (omega arith), digit_run_take (at + 1) k (omega arith))

  spelled_take : (at k : ℕ) → at + k ≤ n → spelled (take n text) at k ≡ spelled text at k
  unfolding spelled
  spelled_take at zero h = refl
  spelled_take at (suc k) h = rw (get_or-take n text (at + k) 0 (omega arith), spelled_take at k (omega arith))

  frame_of_take : (at kind : ℕ) (w : FieldDigits) → at + 27 ≤ n → frame_digits w ≤ 18
      → frame_of (take n text) at kind w ≡ frame_of text at kind w
  unfolding frame_of
  frame_of_take at kind w h b =
      rw (
        digit_run_take at (frame_digits w) (omega arith),
        get_or-take n text (at + frame_digits w) 0 (omega arith),
        spelled_take (at + 2) w.x (omega arith),
        spelled_take (at + 2 + w.x) w.y (omega arith),
        spelled_take (at + 2 + w.x + w.y) w.z (omega arith),
      )

  frame_take : (at : ℕ) → at + 27 ≤ n → frame_at (take n text) at ≡ frame_at text at
  unfolding frame_at
  frame_take at h =
      let kind : ℕ = spelled text at 2 in
      rw (
        digit_run_take at 2 (omega arith),
        spelled_take at 2 (omega arith),
        frame_of_take at kind (field_digits kind) h (frame_digits_most kind),
      )

  -- whether text is left at a place before n
  text_after_take : (i : ℕ) → i < n → ltb i (length (take n text)) ≡ ltb i (length text)
  text_after_take i h = rw length-take (go (ltb i (length text)) refl)
    where
      go : (t : Bool) → ltb i (length text) ≡ t → ltb i (min n (length text)) ≡ ltb i (length text)
      go true e = lt-ltb i (min n (length text)) (omega (arith, ltb-true i (length text) e)) ∙ sym e
      go false e = le-ltb i (min n (length text)) (omega (arith, ltb-false i (length text) e)) ∙ sym e

  line_by_take : (D b : ℕ) (here : Cursor) (frame : Option Fields) → Within b frame → b < n
      → line_by (take n text) D here frame ≡ line_by text D here frame
  unfolding line_by end_line
  line_by_take D b here None w h = refl
  line_by_take D b here (Some f) w h = rw (text_after_take f.next (omega arith))

  line_take : (D : ℕ) (here : Cursor) → here.at + 28 ≤ n → line_at (take n text) D here ≡ line_at text D here
  unfolding line_at
  line_take D here h =
      rw (frame_take here.at (omega arith))
      (line_by_take D (here.at + 27) here (frame_at text here.at) (frame_within text here.at) (omega arith))

  follow_same : (D b : ℕ) (here : Cursor) (head nodes : List ℕ) (step : Result (Option NodeRead) Refusal) (k l : Row → Cursor → Sheet) → LineDoes D here b step
      → ((row : Row) (there : Cursor) → there.at ≤ b → k row there ≡ l row there)
      → follow step here head nodes k ≡ follow step here head nodes l
  follow_same D b here head nodes (Err r) k l f h = refl
  follow_same D b here head nodes (Ok None) k l f h = refl
  follow_same D b here head nodes (Ok (Some read)) k l f h = h read.row read.there f.at

  lines_take : (more D : ℕ) (here : Cursor) (head nodes : List ℕ) → here.at + 27 * more + 28 ≤ n
      → lines_from more (take n text) D here head nodes ≡ lines_from more text D here head nodes
  unfolding lines_from
  lines_take zero D here head nodes h = rw (line_take D here (omega arith))
  lines_take (suc more) D here head nodes h =
      rw (line_take D here (omega arith))
      (follow_same D (here.at + 27) here head nodes (line_at text D here) _ _ (line_does text D here)
      (λ row there p. lines_take more D there head _ (omega arith)))

  -- a header, 64 nodes and the end, 27 bytes each at the most, and the byte after them
  sheet_by_take : (frame : Option Fields) → Within 27 frame → 1783 ≤ n → sheet_by (take n text) frame ≡ sheet_by text frame
  unfolding sheet_by header_line
  sheet_by_take None w h = refl
  sheet_by_take (Some f) w h = rw (lines_take 64 f.x (fresh f) (f.x ∷ f.y ∷ f.z ∷ []) [] (omega arith))

pub first_bytes_decide : (text : List ℕ) → sheet_of (take 2048 text) ≡ sheet_of text
unfolding sheet_of
first_bytes_decide text =
    rw (frame_take 2048 text 0 (omega arith)) (sheet_by_take 2048 text (frame_at text 0) (frame_within text 0) (omega arith))

pub reading_first_bytes : (text head nodes : List ℕ) → reading (take 2048 text) head nodes ≡ reading text head nodes
unfolding reading
reading_first_bytes text head nodes = rw (first_bytes_decide text)

-- ---- what holds of the lines, by what each does

follow_holds : (P : Sheet → Type 0) (D b : ℕ) (here : Cursor) (head nodes : List ℕ) (step : Result (Option NodeRead) Refusal) (next : Row → Cursor → Sheet)
    → LineDoes D here b step
    → ((r : Refusal) → ROOM < (of_refusal r).number → (of_refusal r).place ≤ here.line + 1 → P (refused r))
    → (here.waiting ≡ 1 → P (record { answer = Ok tt; head = head ++ here.count ∷ []; nodes = nodes }))
    → ((row : Row) (there : Cursor) → NodeAfter D here b row there → P (next row there))
    → P (follow step here head nodes next)
follow_holds P D b here head nodes (Err r) next f stop end node = stop r f.0 f.1
follow_holds P D b here head nodes (Ok None) next f stop end node = end f
follow_holds P D b here head nodes (Ok (Some read)) next f stop end node = node read.row read.there f

-- ---- places: nodes on lines 2 to 65, the end or a 65th node on line 66, text after the end on line 67

abbrev PlaceMost : Sheet → Type 0
PlaceMost sheet = (of_result sheet.answer).place ≤ 67

line_place : (text : List ℕ) (D : ℕ) (here : Cursor) (head nodes : List ℕ) (next : Row → Cursor → Sheet) → here.line ≤ 66
    → ((row : Row) (there : Cursor) → there.line ≡ here.line + 1 → PlaceMost (next row there))
    → PlaceMost (follow (line_at text D here) here head nodes next)
line_place text D here head nodes next h node =
    follow_holds PlaceMost D _ here head nodes (line_at text D here) next (line_does text D here)
    (λ answer r p. omega arith) (λ one. omega arith) (λ row there n. node row there n.line)

lines_place : (more : ℕ) (text : List ℕ) (D : ℕ) (here : Cursor) (head nodes : List ℕ) → here.line + more ≤ 66
    → PlaceMost (lines_from more text D here head nodes)
unfolding lines_from
lines_place zero text D here head nodes h = line_place text D here head nodes _ (omega arith) (λ row there n. omega arith)
lines_place (suc more) text D here head nodes h =
    line_place text D here head nodes _ (omega arith) (λ row there n. lines_place more text D there head _ (omega arith))

sheet_by_place : (text : List ℕ) (frame : Option Fields) → PlaceMost (sheet_by text frame)
unfolding sheet_by header_line
sheet_by_place text None = omega arith
sheet_by_place text (Some f) = go (eqb f.kind header_kind) (head_ok f.x f.y f.z)
  where
    lines : Sheet
    lines = lines_from nodes_most text f.x (fresh f) (f.x ∷ f.y ∷ f.z ∷ []) []

    go : (header ok : Bool) → PlaceMost (cond header (cond ok lines (refused (Range 1))) (refused (Line 1)))
    go true true = lines_place 64 text f.x (fresh f) _ [] (omega arith)
    go true false = omega arith
    go false ok = omega arith

pub place_at_most : (text : List ℕ) → (of_result (sheet_of text).answer).place ≤ 67
unfolding sheet_of
place_at_most text = sheet_by_place text (frame_at text 0)

either_place : (number : ℕ) (one other : Answer) → one.place ≤ 67 → other.place ≤ 67 → (or_else number one other).place ≤ 67
either_place zero one other p q = q
either_place (suc number) one other p q = p

pub reading_place : (text head nodes : List ℕ) → (reading text head nodes).answer.place ≤ 67
unfolding reading first
reading_place text head nodes = go (head_short head || nodes_short nodes) (sheet_of text).answer (place_at_most text)
  where
    go : (short : Bool) (answer : Result ⊤ Refusal) → (of_result answer).place ≤ 67
        → (first (room_check short ∷ of_result answer ∷ [])).place ≤ 67
    go true answer h = omega arith
    go false answer h = either_place (of_result answer).number (of_result answer) done h (omega arith)

-- ---- a refusal of a text leaves nothing of it

-- what a call leaves of a sheet is the sheet itself, whatever its answer
abbrev Laid : Sheet → Type 0
Laid sheet =
    (before : List ℕ)
    → (table_left (of_result sheet.answer).number before sheet.head ≡ padded (length before) sheet.head)
    × (table_left (of_result sheet.answer).number before sheet.nodes ≡ padded (length before) sheet.nodes)

refused_laid : (r : Refusal) → ROOM < (of_refusal r).number → Laid (refused r)
refused_laid r h before = go (of_refusal r).number h
  where
    go : (number : ℕ) → ROOM < number
        → (table_left number before [] ≡ padded (length before) []) × (table_left number before [] ≡ padded (length before) [])
    go zero h = absurd (omega arith)
    go (suc zero) h = absurd (omega arith)
    go (suc (suc number)) h = (refl, refl)

lines_laid : (more : ℕ) (text : List ℕ) (D : ℕ) (here : Cursor) (head nodes : List ℕ) → Laid (lines_from more text D here head nodes)
unfolding lines_from
lines_laid zero text D here head nodes =
    follow_holds Laid D _ here head nodes (line_at text D here) _ (line_does text D here)
    (λ answer r p. refused_laid answer r) (λ one before. (refl, refl)) (λ row there n. refused_laid (Shape here.line) (omega arith))
lines_laid (suc more) text D here head nodes =
    follow_holds Laid D _ here head nodes (line_at text D here) _ (line_does text D here)
    (λ answer r p. refused_laid answer r) (λ one before. (refl, refl)) (λ row there n. lines_laid more text D there head _)

sheet_by_laid : (text : List ℕ) (frame : Option Fields) → Laid (sheet_by text frame)
unfolding sheet_by header_line
sheet_by_laid text None = refused_laid (Line 1) (omega arith)
sheet_by_laid text (Some f) = go (eqb f.kind header_kind) (head_ok f.x f.y f.z)
  where
    lines : Sheet
    lines = lines_from nodes_most text f.x (fresh f) (f.x ∷ f.y ∷ f.z ∷ []) []

    go : (header ok : Bool) → Laid (cond header (cond ok lines (refused (Range 1))) (refused (Line 1)))
    go true true = lines_laid 64 text f.x (fresh f) _ []
    go true false = refused_laid (Range 1) (omega arith)
    go false ok = refused_laid (Line 1) (omega arith)

-- so where the tables have room a call leaves the sheet
pub reading_leaves_sheet : (text head nodes : List ℕ) → head_short head ≡ false → nodes_short nodes ≡ false
    → let s = sheet_of text in
    record { answer = of_result s.answer; head = padded (length head) s.head; nodes = padded (length nodes) s.nodes }
    ≡ reading text head nodes
unfolding reading sheet_of first
reading_leaves_sheet text head nodes h n =
    let s : Sheet = sheet_by text (frame_at text 0) in
    let laid : Laid s = sheet_by_laid text (frame_at text 0) in
    rw (h, n, first_result s.answer, (laid head).0, (laid nodes).1)

-- ---- a text that reads done

-- what has been read: k nodes, of which so many wait
pub record Held (D k now : ℕ) (nodes : List ℕ) : Type 0 where
  pub most : k ≤ nodes_most
  pub long : length nodes ≡ 3 * k
  pub rows : Rows vector_bytes D k now nodes

-- how the lines end, where they do: after the header's fields stands the number of nodes
record Ended (D : ℕ) (head : List ℕ) (sheet : Sheet) : Type 0 where
  N : ℕ
  heads : sheet.head ≡ head ++ N ∷ []
  held : Held D N 1 sheet.nodes

abbrev DoneEnded : ℕ → List ℕ → Sheet → Type 0
DoneEnded D head sheet = (of_result sheet.answer).number ≡ DONE → Ended D head sheet

held_next : (D b : ℕ) (here : Cursor) (nodes : List ℕ) (row : Row) (there : Cursor) → Held D here.count here.waiting nodes
    → NodeAfter D here b row there → Held D there.count there.waiting (nodes ++ row.kind ∷ row.x ∷ row.y ∷ [])
held_next D b here nodes row there h n =
    record {
      most = omega arith;
      long = length-append nodes (row.kind ∷ row.x ∷ row.y ∷ []) ∙ omega arith;
      rows = rw (n.count, n.waiting)
          (rows_next vector_bytes D here.count here.waiting row.kind row.x row.y nodes h.long h.rows n.in_range n.enough);
    }

line_ended : (text : List ℕ) (D : ℕ) (here : Cursor) (head nodes : List ℕ) (next : Row → Cursor → Sheet)
    → Held D here.count here.waiting nodes
    → ((row : Row) (there : Cursor) → Held D there.count there.waiting (nodes ++ row.kind ∷ row.x ∷ row.y ∷ [])
    → DoneEnded D head (next row there))
    → DoneEnded D head (follow (line_at text D here) here head nodes next)
line_ended text D here head nodes next h node =
    follow_holds (DoneEnded D head) D _ here head nodes (line_at text D here) next (line_does text D here)
    (λ r above p e. absurd (omega arith))
    (λ one e. record { N = here.count; heads = refl; held = rw one at h })
    (λ row there n. node row there (held_next D _ here nodes row there h n))

lines_ended : (more : ℕ) (text : List ℕ) (D : ℕ) (here : Cursor) (head nodes : List ℕ) → Held D here.count here.waiting nodes
    → DoneEnded D head (lines_from more text D here head nodes)
unfolding lines_from
lines_ended zero text D here head nodes h =
    line_ended text D here head nodes _ h (λ row there n e. absurd (omega arith))
lines_ended (suc more) text D here head nodes h = line_ended text D here head nodes _ h (λ row there n. lines_ended more text D there head _ n)

-- "1 to 64 of them", "At the end exactly one waits", and every field in its range
pub record DoneSheet (sheet : Sheet) : Type 0 where
  pub D : ℕ
  pub n : ℕ
  pub S : ℕ
  pub N : ℕ
  pub heads : sheet.head ≡ D ∷ n ∷ S ∷ N ∷ []
  pub in_range : head_ok D n S ≡ true
  pub some : 1 ≤ N
  pub most : N ≤ 64
  pub long : length sheet.nodes ≡ 3 * N
  pub rows : Rows vector_bytes D N 1 sheet.nodes

sheet_by_done : (text : List ℕ) (frame : Option Fields) → (of_result (sheet_by text frame).answer).number ≡ DONE → DoneSheet (sheet_by text frame)
unfolding sheet_by header_line
sheet_by_done text None e = absurd (omega arith)
sheet_by_done text (Some f) e = go (eqb f.kind header_kind) (head_ok f.x f.y f.z) refl e
  where
    lines : Sheet
    lines = lines_from nodes_most text f.x (fresh f) (f.x ∷ f.y ∷ f.z ∷ []) []

    go : (header ok : Bool) → head_ok f.x f.y f.z ≡ ok
        → (of_result (cond header (cond ok lines (refused (Range 1))) (refused (Line 1))).answer).number ≡ DONE
        → DoneSheet (cond header (cond ok lines (refused (Range 1))) (refused (Line 1)))
    go true true o e =
        let none : Held f.x 0 0 [] = record { most = omega arith; long = refl; rows = rows_none vector_bytes f.x [] } in
        let d : Ended f.x (f.x ∷ f.y ∷ f.z ∷ []) lines = lines_ended 64 text f.x (fresh f) _ [] none e in
        record {
          D = f.x;
          n = f.y;
          S = f.z;
          N = d.N;
          heads = d.heads;
          in_range = o;
          some = some_row vector_bytes f.x d.N lines.nodes d.held.rows;
          most = d.held.most;
          long = d.held.long;
          rows = d.held.rows;
        }
    go true false o e = absurd (omega arith)
    go false ok o e = absurd (omega arith)

pub done_sheet : (text : List ℕ) → (of_result (sheet_of text).answer).number ≡ DONE → DoneSheet (sheet_of text)
unfolding sheet_of
done_sheet text e = sheet_by_done text (frame_at text 0) e

-- ---- and passes the checks of tables

-- whatever stands after its rows and its head
done_formed : (sheet : Sheet) (rest_head rest_nodes : List ℕ) → DoneSheet sheet
    → Formed vector_bytes (graph_of (sheet.head ++ rest_head) (sheet.nodes ++ rest_nodes))
done_formed sheet rest_head rest_nodes d =
    rw d.heads
    (record { head = d.in_range; most = d.most; rows = rows_front vector_bytes d.D d.N 1 sheet.nodes rest_nodes d.long d.rows })

pub read_is_checked : (text : List ℕ) → (of_result (sheet_of text).answer).number ≡ DONE
    → form_check vector_bytes (graph_of (sheet_of text).head (sheet_of text).nodes) ≡ done
read_is_checked text e =
    formed_passes vector_bytes _
    (rw (append-nil (sheet_of text).head, append-nil (sheet_of text).nodes) at (done_formed (sheet_of text) [] [] (done_sheet text e)))

-- ---- the call

-- where it is done both tables have room, and the text reads done
pub record ReadingDone (text head nodes : List ℕ) : Type 0 where
  pub head_room : head_short head ≡ false
  pub nodes_room : nodes_short nodes ≡ false
  pub sheet : DoneSheet (sheet_of text)

pub reading_done : (text head nodes : List ℕ) → (reading text head nodes).answer.number ≡ DONE → ReadingDone text head nodes
unfolding reading
reading_done text head nodes h =
    let room = first_done (room_check (head_short head || nodes_short nodes)) (of_result (sheet_of text).answer ∷ []) h in
    let read = first_done (of_result (sheet_of text).answer) [] room.1 in
    let short = neither _ _ (refuse_done _ 0 0 room.0) in
    record { head_room = short.0; nodes_room = short.1; sheet = done_sheet text read.0 }

-- so what was read fits
head_fits : (text head nodes : List ℕ) → ReadingDone text head nodes → length (padded (length head) (sheet_of text).head) ≡ length head
head_fits text head nodes d =
    let e : length (sheet_of text).head ≡ 4 = ap length d.sheet.heads in
    length_padded (length head) (sheet_of text).head (omega (arith, ltb-false (length head) 10 d.head_room))

nodes_fit : (text head nodes : List ℕ) → ReadingDone text head nodes → length (padded (length nodes) (sheet_of text).nodes) ≡ length nodes
nodes_fit text head nodes d =
    length_padded (length nodes) (sheet_of text).nodes
    (omega (arith, d.sheet.most, d.sheet.long, ltb-false (length nodes) 192 d.nodes_room))

-- and lent tables keep their lengths, whatever the answer
pub reading_lengths : (text head nodes : List ℕ)
    → (length (reading text head nodes).head ≡ length head) × (length (reading text head nodes).nodes ≡ length nodes)
unfolding reading
reading_lengths text head nodes = go (read_answer text head nodes).number refl
  where
    go : (number : ℕ) → (read_answer text head nodes).number ≡ number
        → (length (table_left number head (sheet_of text).head) ≡ length head) × (length (table_left number nodes (sheet_of text).nodes) ≡ length nodes)
    go zero e = (head_fits text head nodes (reading_done text head nodes e), nodes_fit text head nodes (reading_done text head nodes e))
    go (suc zero) e = (refl, refl)
    go (suc (suc number)) e = (length_padded (length head) [] (omega arith), length_padded (length nodes) [] (omega arith))

padded_formed : (sheet : Sheet) (len_head len_nodes : ℕ) → DoneSheet sheet
    → Formed vector_bytes (graph_of (padded len_head sheet.head) (padded len_nodes sheet.nodes))
unfolding padded
padded_formed sheet len_head len_nodes d = done_formed sheet _ _ d

-- "A sheet or graph handed over as tables is checked by 3 and 4 as if read": the tables that a reading leaves pass
pub reading_is_checked : (text head nodes : List ℕ) → (reading text head nodes).answer.number ≡ DONE
    → checking vector_bytes (reading text head nodes).head (reading text head nodes).nodes ≡ done
unfolding reading checking first
reading_is_checked text head nodes h =
    let d : ReadingDone text head nodes = reading_done text head nodes h in
    let f = formed_passes vector_bytes _ (padded_formed (sheet_of text) (length head) (length nodes) d.sheet) in
    rw (h, head_fits text head nodes d, nodes_fit text head nodes d, d.head_room, d.nodes_room, f)
