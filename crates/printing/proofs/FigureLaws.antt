-- The figures that are taken from tables are those of the definitions: of every refusal, of a drawn graph that is translated, and of
-- a bare sheet that is placed and translated.
use Prim.Native.Nat.{ℕ, zero, suc, ◌-◌, ◌*◌, ◌≤◌, ◌<◌}
use native.Mathlib.Nat.{mul-le-mul}
use mathlib.Core.Path.{◌≡◌, refl, sym, ap, ◌∙◌}
use mathlib.Core.Bool.{true, false, ◌||◌}
use mathlib.Core.List.{List, [], ◌∷◌}
use native.Mathlib.Omega.{arith}
use lib.ListN.{replicate}
use Rattle.std.specs.Prelude.{Result, Ok, Err, ⊤}
use Rattle.rules.specs.Limits.{vector_bytes, elements_most, nodes_most, section_most, window_most, long_most, head_entries, row_entries}
use Rattle.rules.specs.Answers.{Answer, DONE, done, first, or_else, of_refusal, of_result}
use Rattle.rules.specs.Units.{is_width}
use Rattle.rules.specs.Trees.{Tree, shifts, node_at, rows}
use Rattle.rules.specs.Placing.{place}
use Rattle.rules.specs.Code.{G, full_vectors, steps_of}
use Rattle.rules.specs.Tables.{Graph, graph_of, head_of, program_head, padded}
use Rattle.rules.specs.Checks.{head_short, nodes_short}
use Rattle.rules.specs.Calls.{WithSheet, WithProgram, checking, graph_tree, graph_program, placed_graph, placing, bare_checks, translate_answer, translating, planning}
use Rattle.rules.specs.Printing.{figures, figures_by, section, placed_figures, drawn_figures}
use Rattle.rules.specs.declared.program.ProgramHead.{ProgramHead}
use Rattle.rules.specs.declared.answers.Refusal.{Refusal}
use Rattle.theory.proofs.AnswerLaws.{refusal_not_done}
use Rattle.theory.proofs.RowLaws.{padded_rows_read_back}
use Rattle.theory.proofs.FormLaws.{Formed, each_check_done, refuse_done, passes_formed, formed_passes}
use Rattle.theory.proofs.Checked.{sixteen, width_is, head_passes, long_done}
use Rattle.theory.proofs.Trace.{length_trace}
use Rattle.theory.proofs.Translated.{length_program}
use Rattle.theory.proofs.Handed.{program_fits, program_full}
use Rattle.theory.proofs.Demands.{tables_roomy, planned_unrefused}
use Rattle.theory.proofs.Stepwise.{placed_translates}
use Rattle.sheet.specs.Left.{sheet_left}
use Rattle.graph.specs.Headers.{header_of}
use Rattle.graph.proofs.HeaderLaws.{header_graph}
use Rattle.graph_size.specs.Sizing.{capped, size_of}
use Rattle.graph_size.proofs.SizeLaws.{checked_size}
use Rattle.placing.specs.Handing.{sheet_given}
use Rattle.translating.specs.Programs.{program_given}
use Rattle.planning.specs.Planning.{plan_given}
use Rattle.planning.proofs.PlanLaws.{placing_is}
use Rattle.printing.specs.Figuring.{refusal, shifts_in, steps_in, Countable, tree_figures}
use Rattle.printing.proofs.ShiftLaws.{tree_shifts}

-- ---- the steps

pub few_body_steps : (p : ProgramHead) → Countable p → (p.f - 1) * p.body ≤ window_most * section_most
few_body_steps p c =
    let f : p.f - 1 ≤ window_most = omega (arith, c.full) in
    let b : p.body ≤ section_most = c.body in
    mul-le-mul f b

full_few : (n S : ℕ) → n ≤ elements_most → (D : ℕ) → is_width D ≡ true → full_vectors vector_bytes D n S ≤ window_most
full_few n S h =
    width_is (λ D. full_vectors vector_bytes D n S ≤ window_most) (omega arith) (omega arith) (omega arith) (omega arith)

-- ---- refusals

-- a refusal is the first of its checks, whatever comes after it, and its line has no figures
first_of : (r : Refusal) (later : List Answer) → first (of_refusal r ∷ later) ≡ of_refusal r
unfolding first
first_of r later = go (of_refusal r).number (refusal_not_done r)
  where
    go : (n : ℕ) → DONE < n → or_else n (of_refusal r) (first later) ≡ of_refusal r
    go zero p = absurd (omega arith)
    go (suc n) p = refl

no_figures : (r : Refusal) (g : Graph) (t : Tree) → refusal (of_refusal r) ≡ figures (of_refusal r) g t
no_figures r g t = go (of_refusal r).number (refusal_not_done r)
  where
    go : (n : ℕ) → DONE < n → refusal (of_refusal r) ≡ figures_by n (of_refusal r) g t
    go zero p = absurd (omega arith)
    go (suc n) p = refl

-- "a reading refusal stands on all four lines"
read_stands : (r : Refusal) (later : Answer) (g : Graph) (t : Tree) → refusal (of_refusal r) ≡ figures (first (of_refusal r ∷ later ∷ [])) g t
read_stands r later g t = rw (first_of r (later ∷ [])) (no_figures r g t)

call_stands : (r : Refusal) (g : Graph) (t : Tree) → refusal (of_refusal r) ≡ figures (first (done ∷ of_refusal r ∷ [])) g t
unfolding first
call_stands r g t = rw (first_of r []) (no_figures r g t)

-- ---- a graph that translating does not refuse

module _ (head nodes : List ℕ) (work_len table_len : ℕ) (prologue body epilogue : List ℕ)
    (e : (translate_answer vector_bytes head nodes work_len table_len prologue body epilogue).number ≡ DONE) where
  abbrev g : Graph
  g = graph_of head nodes

  abbrev made : ProgramHead
  made = program_head g.D (graph_program vector_bytes g)

  -- 0 ROOM, 1 form, 7 LONG
  formed : Formed vector_bytes g
  formed = passes_formed vector_bytes g (each_check_done _ e 1)

  short : G (graph_tree g) ≤ long_most
  short = long_done (graph_tree g) (each_check_done _ e 7)

  tables_long : (head_short head || nodes_short nodes) ≡ false
  tables_long = tables_roomy (head_short head || nodes_short nodes) _ _ _ (refuse_done _ 0 0 (each_check_done _ e 0))

  checked : (checking vector_bytes head nodes).number ≡ DONE
  unfolding checking first
  checked = rw (tables_long, formed_passes vector_bytes g formed)

  size_whole : size_of head nodes ≡ G (graph_tree g)
  unfolding capped
  size_whole = checked_size head nodes checked ∙ omega (arith, short)

  shifts_counted : shifts_in (node_at nodes) (header_of head).count ≡ shifts (graph_tree g)
  shifts_counted = rw (ap (λ (x : Graph). x.N) (header_graph vector_bytes head nodes formed)) (tree_shifts g formed)

  steps_counted : steps_in made ≡ steps_of vector_bytes g.D g.n g.S (graph_tree g)
  steps_counted = sym (length_trace (graph_program vector_bytes g)) ∙ length_program vector_bytes g.D g.n g.S (graph_tree g)

  tables_told : tree_figures head nodes made ≡ figures done g (graph_tree g)
  tables_told = rw (shifts_counted, size_whole, steps_counted)

  program_countable : Countable made
  program_countable =
      let f = program_fits vector_bytes g.D g.n g.S (graph_tree g) short in
      let h = head_passes g.D g.n g.S formed.head in
      record {
        full = rw (program_full vector_bytes g.D g.n g.S (graph_tree g)) (full_few g.n g.S h.elements g.D h.width);
        prologue = f.prologue;
        body = f.body;
        epilogue = f.epilogue;
      }

-- ---- the loop as it is drawn

module _ (head nodes : List ℕ) where
  abbrev drawn_call : WithProgram
  drawn_call = translating vector_bytes head nodes window_most window_most section section section

  pub drawn_unread : (r : Refusal) → refusal (of_refusal r) ≡ drawn_figures (sheet_left (Err r) head nodes)
  unfolding drawn_figures
  drawn_unread r = read_stands r _ _ _

  module _ (program : Result ProgramHead Refusal) {prologue body epilogue : List ℕ}
      (given : program_given program prologue body epilogue ≡ drawn_call) where
    answered : drawn_call.answer ≡ of_result program
    answered = sym (ap (λ (x : WithProgram). x.answer) given)

    pub drawn_refused : (r : Refusal) → program ≡ Err r → refusal (of_refusal r) ≡ drawn_figures (sheet_left (Ok tt) head nodes)
    unfolding drawn_figures
    drawn_refused r is = rw (answered, is) (call_stands r _ _)

    module _ (made : ProgramHead) (is : program ≡ Ok made) where
      number : (translate_answer vector_bytes head nodes window_most window_most section section section).number ≡ DONE
      unfolding translating
      number = ap (λ (a : Answer). a.number) answered ∙ rw is

      head_made : made ≡ program_head (graph_of head nodes).D (graph_program vector_bytes (graph_of head nodes))
      unfolding translating
      head_made = rw is at (ap (λ (x : WithProgram). x.head) given) ∙ rw number

      pub drawn_countable : Countable made
      drawn_countable = rw head_made (program_countable head nodes window_most window_most section section section number)

      pub drawn_told : tree_figures head nodes made ≡ drawn_figures (sheet_left (Ok tt) head nodes)
      unfolding drawn_figures first
      drawn_told = rw (head_made, answered, is) (tables_told head nodes window_most window_most section section section number)

-- ---- the loop placed by a rule

module _ (head nodes : List ℕ) (rule : ℕ) where
  abbrev placed_call : WithProgram
  placed_call = planning vector_bytes rule head nodes window_most window_most section section section

  pub placed_unread : (r : Refusal) → refusal (of_refusal r) ≡ placed_figures (sheet_left (Err r) head nodes) rule
  unfolding placed_figures
  placed_unread r = read_stands r _ _ _

  module _ (program : Result ProgramHead Refusal) {prologue body epilogue : List ℕ}
      (given : plan_given program prologue body epilogue ≡ placed_call) where
    planned : placed_call.answer ≡ of_result program
    planned = sym (ap (λ (x : WithProgram). x.answer) given)

    pub placed_refused : (r : Refusal) → program ≡ Err r → refusal (of_refusal r) ≡ placed_figures (sheet_left (Ok tt) head nodes) rule
    unfolding placed_figures
    placed_refused r is = rw (planned, is) (call_stands r _ _)

    module _ (made : ProgramHead) (is : program ≡ Ok made) (step : Result ⊤ Refusal) {head' nodes' : List ℕ}
        (tables : sheet_given step head' nodes' ≡ placing vector_bytes rule head nodes (replicate head_entries 0) (replicate (row_entries * nodes_most) 0)) where
      fine : first (bare_checks vector_bytes rule head nodes window_most window_most section section section) ≡ done
      unfolding planning
      fine =
          sym (planned_unrefused vector_bytes sixteen rule head nodes window_most window_most section section section) ∙ planned ∙ rw is

      abbrev bare : Graph
      bare = graph_of head nodes

      abbrev tree : Tree
      tree = place vector_bytes bare.S rule (graph_tree bare)

      abbrev placed_head : List ℕ
      placed_head = padded head_entries (head_of (placed_graph vector_bytes rule bare))

      abbrev placed_nodes : List ℕ
      placed_nodes = padded (row_entries * nodes_most) (rows tree)

      abbrev placed : Graph
      placed = graph_of placed_head placed_nodes

      placed_tables : sheet_given step head' nodes' ≡ record { answer = done; head = placed_head; nodes = placed_nodes }
      placed_tables = tables ∙ placing_is rule head nodes window_most window_most section section section fine

      -- what was planned is placed
      pub placed_never_refused : (r : Refusal) → step ≡ Err r → ⊥
      placed_never_refused r e =
          let n : (of_refusal r).number ≡ DONE = ap (λ (a : Answer). a.number) (rw e at (ap (λ (x : WithSheet). x.answer) placed_tables)) in
          absurd (omega (arith, refusal_not_done r))

      same_program : translating vector_bytes placed_head placed_nodes window_most window_most section section section ≡ placed_call
      same_program =
          placed_translates vector_bytes sixteen rule head nodes section section section head_entries (row_entries * nodes_most)
          (omega arith, omega arith) window_most window_most (ap (λ (a : Answer). a.number) fine)

      translates : (translate_answer vector_bytes placed_head placed_nodes window_most window_most section section section).number ≡ DONE
      unfolding translating
      translates = ap (λ (x : WithProgram). x.answer.number) same_program ∙ ap (λ (a : Answer). a.number) planned ∙ rw is

      program_made : made ≡ program_head placed.D (graph_program vector_bytes placed)
      unfolding translating
      program_made = rw is at (ap (λ (x : WithProgram). x.head) (given ∙ sym same_program)) ∙ rw translates

      -- the tables' graph is the bare one's loop with the placed tree
      placed_figures_lem : figures done placed (graph_tree placed) ≡ figures done bare tree
      unfolding padded
      placed_figures_lem = rw (padded_rows_read_back (row_entries * nodes_most) tree)

      pub placed_countable : Countable made
      placed_countable = rw program_made (program_countable placed_head placed_nodes window_most window_most section section section translates)

      pub placed_told : tree_figures head' nodes' made ≡ placed_figures (sheet_left (Ok tt) head nodes) rule
      unfolding placed_figures first
      placed_told =
          let h : head' ≡ placed_head = ap (λ (x : WithSheet). x.head) placed_tables in
          let n : nodes' ≡ placed_nodes = ap (λ (x : WithSheet). x.nodes) placed_tables in
          rw (h, n, program_made, planned, is)
          (tables_told placed_head placed_nodes window_most window_most section section section translates ∙ placed_figures_lem)
