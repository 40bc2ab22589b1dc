-- How long a printed line is.
use Rattle.std.specs.Prelude.{ℕ}

-- twenty digits and a line feed
abbrev pub line_length : ℕ
line_length = 21
