-- The figures of a line as they are taken from tables: of a refusal, and of a graph with its program.
use Rattle.std.specs.Prelude.{ℕ, zero, suc, ◌+◌, ◌-◌, ◌*◌, ◌≤◌, List, Result, Ok, Err}
use Rattle.rules.specs.Limits.{section_most, window_most}
use Rattle.rules.specs.Answers.{Answer, DONE, of_refusal}
use Rattle.rules.specs.Trees.{node_at}
use Rattle.rules.specs.declared.answers.Refusal.{Refusal}
use Rattle.rules.specs.declared.nodes.Node.{Node}
use Rattle.rules.specs.declared.nodes.Node.TheVariants.{Load, Splat, Op, Shift}
use Rattle.rules.specs.declared.program.ProgramHead.{ProgramHead}
use Rattle.rules.specs.declared.printing.Figures.{Figures}
use Rattle.graph.specs.Headers.{header_of}
use Rattle.graph_size.specs.Sizing.{size_of}

abbrev pub refusal : Answer → Figures
refusal answer = record { answer = answer.number; place = answer.place; shifts = 0; size = 0; steps = 0 }

-- what a line says: the figures, or the refusal
abbrev pub told : Result Figures Refusal → Figures
told (Ok figures) = figures
told (Err r) = refusal (of_refusal r)

abbrev pub shift_of : Node → ℕ
shift_of (Load a) = 0
shift_of (Splat v) = 0
shift_of (Op o) = 0
shift_of (Shift s) = 1

-- the shifts among the first nodes
unfoldable pub shifts_in : (ℕ → Node) → ℕ → ℕ
shifts_in node zero = 0
shifts_in node (suc k) = shifts_in node k + shift_of (node k)

-- the instructions that a program runs, by its head: the body F - 1 times
abbrev pub steps_in : ProgramHead → ℕ
steps_in p = p.prologue + (p.f - 1) * p.body + p.epilogue

-- a program whose steps are a number of 64 bits
pub record Countable (p : ProgramHead) : Type 0 where
  pub full : p.f ≤ window_most
  pub prologue : p.prologue ≤ section_most
  pub body : p.body ≤ section_most
  pub epilogue : p.epilogue ≤ section_most

abbrev pub tree_figures : (head nodes : List ℕ) → ProgramHead → Figures
tree_figures head nodes p =
    record {
      answer = DONE;
      place = 0;
      shifts = shifts_in (node_at nodes) (header_of head).count;
      size = size_of head nodes;
      steps = steps_in p;
    }
