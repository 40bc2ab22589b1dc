-- What placing judges together: the room of its four tables, and the lines of a sheet that passes as if read.
use Rattle.std.specs.Prelude.{ℕ, Bool, ◌||◌, List, [], ◌∷◌}
use Rattle.rules.specs.Answers.{Answer}
use Rattle.rules.specs.Tables.{Graph}
use Rattle.rules.specs.Checks.{head_short, nodes_short, bare_check, align_check}

-- whether one of the four tables is too short
abbrev pub tables_short : (head nodes placed_head placed_nodes : List ℕ) → Bool
tables_short head nodes placed_head placed_nodes = head_short head || nodes_short nodes || head_short placed_head || nodes_short placed_nodes

-- 5 and 7
abbrev pub line_checks : Graph → List Answer
line_checks g = bare_check g ∷ align_check g ∷ []
