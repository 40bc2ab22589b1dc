-- Where reading stands: after the header, and at any line that is reached. The numbers stay small, so that code counts in 64 bits.
use Rattle.std.specs.Prelude.{ℕ, ◌≤◌, ◌<◌, ◌≡◌}
use Rattle.rules.specs.Limits.{nodes_most}
use Rattle.rules.specs.declared.sheet.Cursor.{Cursor}

-- a text that is a sheet is not longer
abbrev pub text_most : ℕ
text_most = 2048

-- no line is longer
abbrev pub line_bytes : ℕ
line_bytes = 27

pub record Fresh (here : Cursor) : Type 0 where
  pub at : here.at ≤ line_bytes
  pub line : here.line ≡ 2
  pub count : here.count ≡ 0
  pub waiting : here.waiting ≡ 0

pub record Reached (here : Cursor) : Type 0 where
  pub at : here.at < text_most
  pub line : here.line ≤ 66
  pub count : here.count ≤ nodes_most
  pub waiting : here.waiting ≤ nodes_most
