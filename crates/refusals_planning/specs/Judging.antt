-- What the one-step call judges together: the room of its five tables, and the lines of a sheet that passes as if read.
use Rattle.std.specs.Prelude.{ℕ, Bool, ◌||◌, List, [], ◌∷◌}
use Rattle.rules.specs.Limits.{vector_bytes}
use Rattle.rules.specs.Answers.{Answer}
use Rattle.rules.specs.Tables.{Graph}
use Rattle.rules.specs.Checks.{head_short, nodes_short, section_short, bare_check, window_check, align_check, bounds_check, carry_check}

-- whether one of the tables is too short
abbrev pub tables_short : (head nodes prologue body epilogue : List ℕ) → Bool
tables_short head nodes prologue body epilogue =
    head_short head || nodes_short nodes || section_short prologue || section_short body || section_short epilogue

-- 5 to 9
abbrev pub line_checks : (work_len table_len : ℕ) → Graph → List Answer
line_checks work_len table_len g =
    bare_check g ∷ window_check vector_bytes work_len table_len ∷ align_check g ∷ bounds_check g work_len table_len ∷ carry_check g ∷ []
