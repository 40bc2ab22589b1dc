-- "one frame a line, each ended by one line feed": the paper's table of frames, and the frame that stands at a place.
use Rattle.std.specs.Prelude.{ℕ, zero, suc, ◌+◌, List, cond, get_or, ltb, eqb, Option, Some, None}
use Rattle.rules.specs.Digits.{digit_run, spelled}
use Rattle.rules.specs.declared.sheet.FieldDigits.{FieldDigits}
use Rattle.rules.specs.declared.sheet.Fields.{Fields}

-- the kind bytes
abbrev pub header_kind : ℕ
header_kind = 0

abbrev pub load_kind : ℕ
load_kind = 1

abbrev pub splat_kind : ℕ
splat_kind = 2

abbrev pub op_kind : ℕ
op_kind = 3

abbrev pub shift_kind : ℕ
shift_kind = 4

abbrev pub end_kind : ℕ
end_kind = 5

abbrev pub digits : ℕ → ℕ → ℕ → FieldDigits
digits x y z = record { x = x; y = y; z = z }

-- the digits of the fields after the kind byte
unfoldable pub field_digits : ℕ → FieldDigits
field_digits zero = digits 2 4 4  -- 00 header: D, n, store address S
field_digits (suc zero) = digits 2 4 0  -- 01 load: window, address A
field_digits (suc (suc zero)) = digits 16 0 0  -- 02 splat: value
field_digits (suc (suc (suc zero))) = digits 2 0 0  -- 03 op: operation
field_digits (suc (suc (suc (suc zero)))) = digits 2 2 0  -- 04 shift: from, to
field_digits (suc (suc (suc (suc (suc k))))) = digits 2 0 0  -- 05 end: number of node frames

-- the table's column of digits, the kind byte's two among them
abbrev pub frame_digits : FieldDigits → ℕ
frame_digits w = 2 + w.x + w.y + w.z

abbrev pub fields_of : List ℕ → ℕ → ℕ → FieldDigits → Fields
fields_of text at kind w =
    record {
      kind = kind;
      x = spelled text (at + 2) w.x;
      y = spelled text (at + 2 + w.x) w.y;
      z = spelled text (at + 2 + w.x + w.y) w.z;
      next = at + frame_digits w + 1;
    }

-- a frame of a known kind: all its digits are digits, and a line feed, byte 10, stands right after them
unfoldable pub frame_of : List ℕ → ℕ → ℕ → FieldDigits → Option Fields
frame_of text at kind w =
    cond (ltb (digit_run text at (frame_digits w)) (frame_digits w)) None
    (cond (eqb (get_or text (at + frame_digits w) 0) 10) (Some (fields_of text at kind w)) None)

-- the frame at a place, by its kind byte, if a line of the format stands there
unfoldable pub frame_at : List ℕ → ℕ → Option Fields
frame_at text at =
    cond (ltb (digit_run text at 2) 2) None
    (cond (ltb end_kind (spelled text at 2)) None (frame_of text at (spelled text at 2) (field_digits (spelled text at 2))))
