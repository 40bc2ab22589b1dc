-- From what the lines leave to what a sheet leaves: the header's fields and the number of nodes in the head, the rows in the node
-- table, and both all zero where the sheet is refused.
use Prim.Native.Nat.{ℕ, ◌≤◌}
use mathlib.Core.Path.{◌≡◌, refl, ◌∙◌}
use mathlib.Core.Bool.{true, false, ◌||◌}
use mathlib.Core.List.{List, [], ◌∷◌}
use native.Mathlib.Omega.{arith}
use lib.ListN.{length}
use lib.Seq.{sets}
use borrow.Author.Tests.{le-ltb}
use Rattle.std.specs.Prelude.{Some, Result, Ok, Err, ⊤}
use Rattle.rules.specs.Answers.{first}
use Rattle.rules.specs.Units.{width_bytes}
use Rattle.rules.specs.Ranges.{head_ok}
use Rattle.rules.specs.Frames.{frame_at}
use Rattle.rules.specs.Reading.{refused, fresh, header_line, sheet_of}
use Rattle.rules.specs.Tables.{padded}
use Rattle.rules.specs.Checks.{head_short, nodes_short}
use Rattle.rules.specs.Calls.{reading}
use Rattle.rules.specs.declared.answers.Refusal.{Refusal}
use Rattle.rules.specs.declared.answers.Refusal.TheVariants.{Room, Range}
use Rattle.rules.specs.declared.sheet.Fields.{Fields}
use Rattle.rules.specs.declared.units.Width.{Width}
use Rattle.theory.proofs.Checked.{head_passes}
use Rattle.theory.proofs.ReadingLaws.{Within, frame_within, reading_leaves_sheet}
use Rattle.ranges.specs.Widths.{width_of}
use Rattle.ranges.proofs.RangeLaws.{width_back_lem}
use Rattle.tables.proofs.TableLaws.{padded_put}
use Rattle.sheet.specs.Left.{sheet_left, filled, Zeroed, LinesLeft}

pub parts : (answer : Result ⊤ Refusal) (h k m n : List ℕ) → h ≡ k → m ≡ n → sheet_left answer h m ≡ sheet_left answer k n
parts answer h k m n p q i = sheet_left answer (p i) (q i)

-- tables that were all zero, and stay so
pub kept : (refusal : Refusal) (head nodes : List ℕ) → Zeroed head nodes
    → sheet_left (Err refusal) head nodes ≡ filled (length head) (length nodes) (refused refusal)
kept refusal head nodes z = parts (Err refusal) _ _ _ _ z.head_zero z.nodes_zero

-- a header's frame ends in the text's first line
pub header_within : (text : List ℕ) (f : Fields) → frame_at text 0 ≡ Some f → f.next ≤ 27
header_within text f e =
    let w : Within 27 (Some f) = rw e at (frame_within text 0) in
    w

pub head_written : (len : ℕ) (head left : List ℕ) (x y z count : ℕ) → 10 ≤ len → head ≡ padded len []
    → left ≡ sets head 0 (x ∷ y ∷ z ∷ count ∷ []) → left ≡ padded len (x ∷ y ∷ z ∷ count ∷ [])
head_written len head left x y z count r e l =
    l
    ∙ rw (
      e,
      padded_put len 0 x [] refl (omega arith),
      padded_put len 1 y (x ∷ []) refl (omega arith),
      padded_put len 2 z (x ∷ y ∷ []) refl (omega arith),
      padded_put len 3 count (x ∷ y ∷ z ∷ []) refl (omega arith),
    )

module _ (text : List ℕ) (f : Fields) where
  pub header_out : head_ok f.x f.y f.z ≡ false → (head nodes : List ℕ) → Zeroed head nodes
      → sheet_left (Err (Range 1)) head nodes ≡ filled (length head) (length nodes) (header_line text f)
  unfolding header_line
  header_out o head nodes z = rw o (kept (Range 1) head nodes z)

  -- the width that the lines were read at is D
  pub lines_at_width : (width : Width) (r s : Result ℕ Refusal) (len : ℕ) (table : List ℕ) → head_ok f.x f.y f.z ≡ true
      → width ≡ width_of f.x → r ≡ s → LinesLeft text (width_bytes width) (fresh f) len r table
      → LinesLeft text f.x (fresh f) len s table
  lines_at_width width r s len table o w e l = rw (w, width_back_lem f.x (head_passes f.x f.y f.z o).width, e) at l

  pub lines_ended : (count head_len nodes_len : ℕ) (head nodes : List ℕ) → head_ok f.x f.y f.z ≡ true
      → LinesLeft text f.x (fresh f) nodes_len (Ok count) nodes
      → head ≡ padded head_len (f.x ∷ f.y ∷ f.z ∷ count ∷ [])
      → sheet_left (Ok tt) head nodes ≡ filled head_len nodes_len (header_line text f)
  unfolding header_line
  lines_ended count head_len nodes_len head nodes o l h =
      rw (o, l.sheet_is (f.x ∷ f.y ∷ f.z ∷ [])) (parts (Ok tt) _ _ _ _ h l.table_is)

  pub lines_refused : (refusal : Refusal) (head_len nodes_len : ℕ) (head read nodes : List ℕ) → head_ok f.x f.y f.z ≡ true
      → LinesLeft text f.x (fresh f) nodes_len (Err refusal) read → head ≡ padded head_len [] → nodes ≡ padded nodes_len []
      → sheet_left (Err refusal) head nodes ≡ filled head_len nodes_len (header_line text f)
  unfolding header_line
  lines_refused refusal head_len nodes_len head read nodes o l h n =
      rw (o, l.sheet_is (f.x ∷ f.y ∷ f.z ∷ [])) (parts (Err refusal) _ _ _ _ h n)

-- ---- the call

pub no_room : (text head nodes : List ℕ) → (head_short head || nodes_short nodes) ≡ true
    → sheet_left (Err Room) head nodes ≡ reading text head nodes
unfolding reading first
no_room text head nodes s = rw s

pub zeroed : (head_len nodes_len : ℕ) (head nodes : List ℕ) → 10 ≤ head_len → 192 ≤ nodes_len
    → head ≡ padded head_len [] → nodes ≡ padded nodes_len [] → length head ≡ head_len → length nodes ≡ nodes_len → Zeroed head nodes
zeroed head_len nodes_len head nodes r s p q k l =
    record { head_room = omega arith; nodes_room = omega arith; head_zero = p ∙ rw k; nodes_zero = q ∙ rw l }

-- a sheet read into tables that were cleared before
pub read_into : (text head nodes : List ℕ) (head_len nodes_len : ℕ) (answer : Result ⊤ Refusal) (h n : List ℕ)
    → 10 ≤ length head → 192 ≤ length nodes → head_len ≡ length head → nodes_len ≡ length nodes
    → sheet_left answer h n ≡ filled head_len nodes_len (sheet_of text) → sheet_left answer h n ≡ reading text head nodes
read_into text head nodes head_len nodes_len answer h n r s k l e =
    e ∙ rw (k, l) (reading_leaves_sheet text head nodes (le-ltb (length head) 10 r) (le-ltb (length nodes) 192 s))
