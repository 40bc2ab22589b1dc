-- Translating's checks as they are judged together: of addresses and windows, and those after them.
use Rattle.std.specs.Prelude.{ℕ, List, [], ◌∷◌, ltb}
use Rattle.rules.specs.Limits.{vector_bytes, long_most}
use Rattle.rules.specs.Answers.{Answer, LONG, at, refuse_if}
use Rattle.rules.specs.Tables.{Graph}
use Rattle.rules.specs.Checks.{window_check, align_check, bounds_check, carry_check}
use Rattle.graph_size.specs.Sizing.{size_of}

-- 6 to 9
abbrev pub address_checks : Graph → (work_len table_len : ℕ) → List Answer
address_checks g work_len table_len =
    window_check vector_bytes work_len table_len ∷ align_check g ∷ bounds_check g work_len table_len ∷ carry_check g ∷ []

-- 11, by the size as it is counted
abbrev pub size_check : (head nodes : List ℕ) → Answer
size_check head nodes = refuse_if (ltb long_most (size_of head nodes)) (at LONG 0)
