-- What the parts of the check find, in the code's own answers.
use Rattle.std.specs.Prelude.{ℕ, ◌<◌, min, ◌≡◌, not, ◌||◌, List, ◌++◌, ltb, eqb, Result, Ok, Err}
use Rattle.rules.specs.Limits.{vector_bytes, nodes_most}
use Rattle.rules.specs.Answers.{Answer, SHAPE, done, at, refuse_if, first, each, of_refusal}
use Rattle.rules.specs.Tables.{Graph}
use Rattle.rules.specs.Checks.{line, waits, row_check}
use Rattle.rules.specs.declared.answers.Refusal.{Refusal}

-- the rows refuse, whatever comes after them; or each of them passes, and so many wait
abbrev pub RowsFound : Graph → Result ℕ Refusal → Type 0
RowsFound g (Err refusal) = (later : List Answer) → first (each (row_check vector_bytes g) g.N ++ later) ≡ of_refusal refusal
RowsFound g (Ok now) = ((k : ℕ) → k < g.N → row_check vector_bytes g k ≡ done) × (now ≡ waits g.nodes g.N)

-- the end, from the number of nodes and how many of them wait
abbrev pub end_found : (count now : ℕ) → Answer
end_found count now = refuse_if (ltb nodes_most count || not (eqb now 1)) (at SHAPE (line (min count nodes_most)))
