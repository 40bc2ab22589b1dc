-- "Bytes, elements and vectors are counted apart": the conversions by D and V, and the widths of an element.
use Rattle.std.specs.Prelude.{ℕ, ◌*◌, ◌/◌, Bool, cond, ◌||◌, eqb, Result, Ok, Err}
use Rattle.rules.specs.declared.units.ByteOffset.{ByteOffset}
use Rattle.rules.specs.declared.units.ElementNumber.{ElementNumber}
use Rattle.rules.specs.declared.units.VectorNumber.{VectorNumber}
use Rattle.rules.specs.declared.units.Width.{Width}
use Rattle.rules.specs.declared.units.Width.TheVariants.{One, Two, Four, Eight}
use Rattle.rules.specs.declared.units.NoWidth.{NoWidth}

-- "An element is D = 1, 2, 4 or 8 bytes"
abbrev pub width_bytes : Width → ℕ
width_bytes One = 1
width_bytes Two = 2
width_bytes Four = 4
width_bytes Eight = 8

unfoldable pub is_width : ℕ → Bool
is_width D = eqb D 1 || eqb D 2 || eqb D 4 || eqb D 8

-- the width of D bytes, if it is one
unfoldable pub width_of : (D : ℕ) → Result Width NoWidth
width_of D = cond (eqb D 1) (Ok One) (cond (eqb D 2) (Ok Two) (cond (eqb D 4) (Ok Four) (cond (eqb D 8) (Ok Eight) (Err (record { 0 = D })))))

-- the first byte of element i, and the element that holds a byte
abbrev pub byte_of_element : (D : ℕ) → ElementNumber → ByteOffset
byte_of_element D i = record { 0 = i.0 * D }

abbrev pub element_of_byte : (D : ℕ) → ByteOffset → ElementNumber
element_of_byte D b = record { 0 = b.0 / D }

-- the first byte of vector j
abbrev pub byte_of_vector : (W : ℕ) → VectorNumber → ByteOffset
byte_of_vector W j = record { 0 = W * j.0 }
