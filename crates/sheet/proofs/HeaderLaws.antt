-- "The header is line 1 and only there": a header on a later line is at fault as no frame is, and so is another frame on line 1.
use Prim.Native.Nat.{ℕ}
use mathlib.Core.Path.{◌≡◌, refl, sym}
use mathlib.Core.Bool.{Bool, true, false, cond}
use mathlib.Core.List.{List}
use native.Mathlib.Omega.{arith}
use lib.Dec.{eqb}
use borrow.Author.Tests.{eq-eqb, ne_eqb, eqb-true, eqb-false}
use Rattle.std.specs.Prelude.{Option, Some, None, Err}
use Rattle.rules.specs.Frames.{frame_at}
use Rattle.rules.specs.Reading.{refused, end_line, node_line, line_by, line_at, header_line, sheet_by}
use Rattle.rules.specs.declared.answers.Refusal.TheVariants.{Line}
use Rattle.rules.specs.declared.sheet.Cursor.{Cursor}
use Rattle.rules.specs.declared.sheet.Fields.{Fields}
use Rattle.sheet_frames.specs.Headers.{header_of, later_of}

-- ---- a later line

later_no_header : (frame : Option Fields) (f : Fields) → later_of frame ≡ Some f → f.kind ≡ 0 → ⊥
later_no_header None f e z = cc
later_no_header (Some g) f e z = go (eqb g.kind 0) refl e
  where
    go : (t : Bool) → eqb g.kind 0 ≡ t → cond t None (Some g) ≡ Some f → ⊥
    go true k e = cc
    go false k e =
        let s : g ≡ f = cc in
        eqb-false g.kind 0 k (rw s z)

module _ (text : List ℕ) (D : ℕ) (here : Cursor) where
  abbrev later : Option Fields
  later = later_of (frame_at text here.at)

  header_at_fault : (frame : Option Fields) → line_by text D here (later_of frame) ≡ line_by text D here frame
  unfolding line_by
  header_at_fault None = refl
  header_at_fault (Some f) = go (eqb f.kind 0) refl
    where
      go : (t : Bool) → eqb f.kind 0 ≡ t → line_by text D here (cond t None (Some f))
          ≡ cond (eqb f.kind 5) (end_line text here f) (cond t (Err (Line here.line)) (node_line D here f))
      go true e = rw (ne_eqb f.kind 5 (λ z. absurd (omega (arith, eqb-true f.kind 0 e))))
      go false e = rw e

  pub later_line : (frame : Option Fields) → frame ≡ later → line_by text D here frame ≡ line_at text D here
  unfolding line_at
  later_line frame e = rw e (header_at_fault (frame_at text here.at))

  pub end_frame : (f : Fields) → Some f ≡ later → f.kind ≡ 5 → end_line text here f ≡ line_at text D here
  unfolding line_by
  end_frame f e k = rw (eq-eqb f.kind 5 k) at (later_line (Some f) e)

  pub node_frame : (f : Fields) → Some f ≡ later → (f.kind ≡ 5 → ⊥) → node_line D here f ≡ line_at text D here
  unfolding line_by
  node_frame f e ne =
      rw (ne_eqb f.kind 5 ne, ne_eqb f.kind 0 (later_no_header (frame_at text here.at) f (sym e))) at (later_line (Some f) e)

-- ---- line 1

pub header_is : (frame : Option Fields) (f : Fields) → header_of frame ≡ Some f → (frame ≡ Some f) × (f.kind ≡ 0)
header_is None f e = cc
header_is (Some g) f e = go (eqb g.kind 0) refl e
  where
    go : (t : Bool) → eqb g.kind 0 ≡ t → cond t (Some g) None ≡ Some f → (Some g ≡ Some f) × (f.kind ≡ 0)
    go true k e =
        let s : g ≡ f = cc in
        (e, rw s at (eqb-true g.kind 0 k))
    go false k e = cc

pub header_none : (text : List ℕ) (frame : Option Fields) → header_of frame ≡ None → sheet_by text frame ≡ refused (Line 1)
unfolding sheet_by
header_none text None e = refl
header_none text (Some g) e = go (eqb g.kind 0) e
  where
    go : (t : Bool) → cond t (Some g) None ≡ None → cond t (header_line text g) (refused (Line 1)) ≡ refused (Line 1)
    go true e = cc
    go false e = refl
