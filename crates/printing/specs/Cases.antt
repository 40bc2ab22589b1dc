-- Several texts in one input: a case begins at a byte `-`; what follows to the next line feed, that too, is its name and is passed
-- over; then its text goes on to the next `-` or to the end of the input.
use Rattle.std.specs.Prelude.{ℕ, ◌+◌, min, cond, List, Option, Some, None, option_map, drop, ltb, ◌==◌, length}
use Rattle.std.specs.List.{position, position_or_len}
use Rattle.rules.specs.Printing.{line_feed}
use Rattle.printing.specs.declared.cases.Case.{Case}

abbrev pub dash : ℕ
dash = 45

-- where a byte stands first, from a place on; the input's length where it stands nowhere
unfoldable pub place_of : (byte : ℕ) → List ℕ → (at : ℕ) → ℕ
place_of byte input at = at + position_or_len (λ b. b == byte) (drop at input)

-- the same, if it stands anywhere
unfoldable pub found : (byte : ℕ) → List ℕ → (at : ℕ) → Option ℕ
found byte input at = option_map (λ passed. at + passed) (position (λ b. b == byte) (drop at input))

-- past the line feed of the name that follows a dash
unfoldable pub text_start : List ℕ → (dash_at : ℕ) → ℕ
text_start input dash_at = min (place_of line_feed input dash_at + 1) (length input)

unfoldable pub case_at : List ℕ → (at : ℕ) → Option Case
case_at input at =
    let dash_at = place_of dash input at in
    let start = text_start input dash_at in
    cond (ltb dash_at (length input)) (Some (record { start = start; past = place_of dash input start })) None
