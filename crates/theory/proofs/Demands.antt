-- The three demands, of the definitions of the calls (specs/Calls.antt): what the layers' contracts say they give and leave.
-- Everything holds over any width W of a vector that VectorWidth admits; `sixteen` is the paper's.
--
-- Demand 1. Every input gets one fixed answer (`decided`); a refusal changes no window (`looping_keeps_work`,
-- `unstarted_keeps_work`) and leaves lent tables as laid down (`reading_leaves`, `placing_leaves`, `translating_leaves`,
-- `planning_leaves`); a stopped run leaves exactly the stores made so far (`running_cut`).
-- Demand 2. A bare sheet that is not refused, placed by any of the four rules, translated and run, leaves the plain loop's
-- memory of the bare sheet (`planned_runs`, `placed_runs`); and one in which nothing is wrong is not refused (`bare_sheet_planned`).
-- Demand 3. Any graph that translating does not refuse, whoever drew it, becomes a program that never faults, is done in exactly
-- the formula's steps, stores into the blocks that hold a byte of the plan and no other, each once, and leaves the plain loop's
-- memory (`translated_runs`, `runs_never_fault`, `translated_looping`); and one that keeps every rule is not refused
-- (Accepted.translating_accepts).
use mathlib.Core.Path.{◌≡◌, refl, sym, ap, ◌∙◌}
use mathlib.Core.Logic.{◌≢◌}
use mathlib.Core.Bool.{Bool, true, false, ◌||◌}
use mathlib.Core.List.{List, [], ◌∷◌, append-nil}
use Prim.Native.Nat.{ℕ, zero, suc, ◌≤◌, ◌<◌}
use native.Mathlib.Nat.{sub-zero}
use native.Mathlib.Omega.{arith}
use lib.ListN.{length, get_or, take, replicate}
use Rattle.rules.specs.Answers.{Answer, DONE, ROOM, OUT, FAULT, after, done, first}
use Rattle.rules.specs.Trees.{Tree, rows}
use Rattle.rules.specs.PlainLoop.{window, plain}
use Rattle.rules.specs.Placing.{place}
use Rattle.rules.specs.Machine.{Timed, Standing, trace, runs, start}
use Rattle.rules.specs.Code.{G, program_of, steps_of}
use Rattle.rules.specs.Tables.{Graph, graph_of, with_tree, head_of, no_program, program_in, padded, table_left, head_left}
use Rattle.rules.specs.Checks.{head_short, nodes_short, section_short, window_ok, form_check, window_check, align_check, bounds_check, offset_check, long_check}
use Rattle.rules.specs.Limits.{bare_most, rules_most, long_most}
use Rattle.rules.specs.Offsets.{root_kept}
use Rattle.rules.specs.Calls.{WithProgram, WithWork, reading, checking, looping, program_left, graph_tree, graph_plain, placed_graph, placing, translate_answer, translating, bare_checks, placed_checks, plan_answer, planning, work_left, start_answer, ended, started, running}
use Rattle.rules.specs.declared.program.ProgramHead.{ProgramHead}
use Rattle.theory.proofs.Lists.{split}
use Rattle.theory.proofs.Pass.{store_block}
use Rattle.theory.proofs.Passing.{Loop, Passes}
use Rattle.theory.proofs.Trace.{made, Cut, runs_cut}
use Rattle.theory.proofs.Stores.{stores_of, up_from, plan_blocks, HoldsPlan, program_stores, stored_holds_plan, plan_is_stored}
use Rattle.theory.proofs.Placed.{Bare, Unshifted, place_plain, place_passes, place_root}
use Rattle.theory.proofs.PlacedSize.{place_short}
use Rattle.theory.proofs.RowLaws.{rows_read_back, padded_rows_read_back}
use Rattle.theory.proofs.FormLaws.{Formed, each_check_done, first_is_done, first_skip, refuse_done, neither, passes_formed, formed_passes}
use Rattle.theory.proofs.Checked.{VectorWidth, HeadPasses, loop_from, head_of_lem, graph_passes, graph_bare, graph_unshifted, offset_done, bare_count, long_done}
use Rattle.theory.proofs.Accepted.{planning_accepts}
use Rattle.theory.proofs.Unrefused.{placed_offset_done, placed_long_done}
use Rattle.theory.proofs.Handed.{handed_done, handed_out, read_back}

-- ---- Demand 1

-- a contract that is one equation, everything given and left ≡ definition of everything handed in, allows one outcome an input
pub decided : {A B : Type 0} (definition : A → B) (input : A) {one other : B} → one ≡ definition input → other ≡ definition input → one ≡ other
decided definition input a b = a ∙ sym b

-- ROOM leaves a lent table unchanged; every other refusal leaves it all zero
pub record Leaves (number : ℕ) (before after : List ℕ) : Type 0 where
  pub room : number ≡ ROOM → after ≡ before
  pub refused : ROOM < number → after ≡ replicate (length before) 0

table_leaves : (number : ℕ) (before made : List ℕ) → Leaves number before (table_left number before made)
unfolding padded
table_leaves zero before made = record { room = λ e. absurd (omega arith); refused = λ h. absurd (omega arith) }
table_leaves (suc zero) before made = record { room = λ e. refl; refused = λ h. absurd (omega arith) }
table_leaves (suc (suc number)) before made = record { room = λ e. absurd (omega arith); refused = λ h. rw sub-zero }

pub reading_leaves : (text head nodes : List ℕ)
    → let r = reading text head nodes in
    Leaves r.answer.number head r.head × Leaves r.answer.number nodes r.nodes
unfolding reading
reading_leaves text head nodes = (table_leaves _ _ _, table_leaves _ _ _)

pub placing_leaves : (W rule : ℕ) (head nodes placed_head placed_nodes : List ℕ)
    → let r = placing W rule head nodes placed_head placed_nodes in
    Leaves r.answer.number placed_head r.head × Leaves r.answer.number placed_nodes r.nodes
unfolding placing
placing_leaves W rule head nodes placed_head placed_nodes = (table_leaves _ _ _, table_leaves _ _ _)

-- the three sections, and the head by value, which is none on every refusal
abbrev pub ProgramLeaves : WithProgram → (prologue body epilogue : List ℕ) → Type 0
ProgramLeaves p prologue body epilogue =
    Leaves p.answer.number prologue p.prologue
    × Leaves p.answer.number body p.body
    × Leaves p.answer.number epilogue p.epilogue
    × (p.answer.number ≢ DONE → p.head ≡ no_program)

no_head : (number : ℕ) (made : ProgramHead) → number ≢ DONE → head_left number made ≡ no_program
no_head zero made ne = absurd (ne refl)
no_head (suc number) made ne = refl

pub translating_leaves : (W : ℕ) (head nodes : List ℕ) (work_len table_len : ℕ) (prologue body epilogue : List ℕ)
    → ProgramLeaves (translating W head nodes work_len table_len prologue body epilogue) prologue body epilogue
unfolding translating
translating_leaves W head nodes work_len table_len prologue body epilogue =
    (table_leaves _ _ _, table_leaves _ _ _, table_leaves _ _ _, no_head _ _)

pub planning_leaves : (W rule : ℕ) (head nodes : List ℕ) (work_len table_len : ℕ) (prologue body epilogue : List ℕ)
    → ProgramLeaves (planning W rule head nodes work_len table_len prologue body epilogue) prologue body epilogue
unfolding planning
planning_leaves W rule head nodes work_len table_len prologue body epilogue =
    (table_leaves _ _ _, table_leaves _ _ _, table_leaves _ _ _, no_head _ _)

-- "No refusal up to 11 changes a window": of the plain loop, and of a run that could not start
refusal_keeps_work : (number : ℕ) (before then : List ℕ) → number ≢ DONE → work_left number before then ≡ before
refusal_keeps_work zero before then ne = absurd (ne refl)
refusal_keeps_work (suc number) before then ne = refl

pub looping_keeps_work : (W : ℕ) (head nodes work table : List ℕ)
    → (looping W head nodes work table).answer.number ≢ DONE → (looping W head nodes work table).work ≡ work
unfolding looping
looping_keeps_work W head nodes work table ne = refusal_keeps_work _ work _ ne

not_started : (number : ℕ) (answer : Answer) (work : List ℕ) (then : WithWork) → number ≢ DONE
    → started number answer work then ≡ record { answer = answer; work = work }
not_started zero answer work then ne = absurd (ne refl)
not_started (suc number) answer work then ne = refl

pub unstarted_keeps_work : (W : ℕ) (h : ProgramHead) (prologue body epilogue : List ℕ) (budget : ℕ) (work table : List ℕ)
    → let answer = start_answer W h prologue body epilogue (length work) (length table) in
    answer.number ≢ DONE → running W h prologue body epilogue budget work table ≡ record { answer = answer; work = work }
unfolding running
unstarted_keeps_work W h prologue body epilogue budget work table ne = not_started _ _ work _ ne

-- for every program, budget and window: a run that could start is where its first instructions led, as many as its steps, and it
-- stopped there for the paper's reason
pub running_cut : (W : ℕ) (h : ProgramHead) (prologue body epilogue : List ℕ) (budget : ℕ) (work table : List ℕ)
    → (start_answer W h prologue body epilogue (length work) (length table)).number ≡ DONE
    → (m : Standing)
    × (running W h prologue body epilogue budget work table ≡ ended m)
    × Cut W h.d table budget 0 (start W work).state (trace (program_in h prologue body epilogue)) m
unfolding running
running_cut W h prologue body epilogue budget work table e = (
  runs W h.d table budget (start W work) (trace (program_in h prologue body epilogue)),
  rw e,
  runs_cut W h.d table budget 0 (start W work).state (trace (program_in h prologue body epilogue)) (omega arith),
)

-- ---- how a program that a call gave runs

-- the machine's answer and work, on the program of a call's tables
abbrev pub run_of : (W : ℕ) → WithProgram → (budget : ℕ) (work table : List ℕ) → WithWork
run_of W p budget work table = running W p.head p.prologue p.body p.epilogue budget work table

-- its instructions in the order in which they run, and the blocks that they store into
abbrev pub trace_of : WithProgram → List Timed
trace_of p = trace (program_in p.head p.prologue p.body p.epilogue)

abbrev pub stored_by : (W : ℕ) → WithProgram → List ℕ
stored_by W p = stores_of W (trace_of p)

pub record Runs (W D n S steps : ℕ) (p : WithProgram) (work table plan : List ℕ) : Type 0 where
  -- with the formula's steps or more it is done in exactly those, and leaves the plan
  pub done : (budget : ℕ) → steps ≤ budget → run_of W p budget work table ≡ record { answer = after DONE steps; work = plan }
  -- with less it is OUT, its budget used, and work holds the stores of that many instructions
  pub out : (budget : ℕ) → budget < steps → run_of W p budget work table
      ≡ record { answer = after OUT budget; work = (made W D table (start W work).state (take budget (trace_of p))).work }
  -- it stores into consecutive blocks, once each: those that hold a byte of the plan and no other
  pub stores : stored_by W p ≡ up_from (store_block W S 0) (plan_blocks W D n S)
  pub to_plan : (i : ℕ) → i < plan_blocks W D n S → HoldsPlan W D n S (store_block W S i)
  pub of_plan_lem : (b : ℕ) → HoldsPlan W D n S b → (i : ℕ) × (i < plan_blocks W D n S) × (b ≡ store_block W S i)

-- such a run never faults, at any budget
pub runs_never_fault : {W D n S steps : ℕ} {p : WithProgram} {work table plan : List ℕ} → Runs W D n S steps p work table plan
    → (budget : ℕ) → (run_of W p budget work table).answer.number ≡ FAULT → ⊥
runs_never_fault {steps = steps} r budget e = split budget steps
    (λ h. let z : OUT ≡ FAULT = sym (ap (λ (x : WithWork). x.answer.number) (r.out budget h)) ∙ e in omega arith)
    (λ h. let z : DONE ≡ FAULT = sym (ap (λ (x : WithWork). x.answer.number) (r.done budget h)) ∙ e in omega arith)

window_is_done : (W work_len table_len : ℕ) → (window_check W work_len table_len).number ≡ DONE → window_check W work_len table_len ≡ done
unfolding window_check
window_is_done W work_len table_len e = first_is_done _ e

align_is_done : (g : Graph) → (align_check g).number ≡ DONE → align_check g ≡ done
unfolding align_check
align_is_done g e = first_is_done _ e

bounds_is_done : (g : Graph) (work_len table_len : ℕ) → (bounds_check g work_len table_len).number ≡ DONE → bounds_check g work_len table_len ≡ done
unfolding bounds_check
bounds_is_done g work_len table_len e = first_is_done _ e

-- a translated program in lent tables that are long enough
module _ (W : ℕ) (v : VectorWidth W) (D n S : ℕ) (work table : List ℕ) (t : Tree) (head : HeadPasses D n)
    (c : Loop W D n S work table) (g : Passes W D n S work table t) (root : root_kept W S t ≡ true) (short : G t ≤ long_most)
    (lengths : window_check W (length work) (length table) ≡ done)
    (prologue body epilogue : List ℕ)
    (room : (section_short prologue ≡ false) × (section_short body ≡ false) × (section_short epilogue ≡ false)) where
  program_runs : Runs W D n S (steps_of W D n S t) (program_left done D (program_of W D n S t) prologue body epilogue) work table
      (plain D S work table t n)
  program_runs = record {
    done = handed_done W v D n S work table t head c g root short lengths prologue body epilogue room;
    out = λ budget h.
        rw (read_back W v D n S work table t head c g root short lengths prologue body epilogue room)
        (handed_out W v D n S work table t head c g root short lengths prologue body epilogue room budget h);
    stores = rw (read_back W v D n S work table t head c g root short lengths prologue body epilogue room)
        (program_stores W D n S t v.vector);
    to_plan = stored_holds_plan W D n S work table t c g;
    of_plan_lem = plan_is_stored W D n S work table t c g;
  }

-- ---- Demand 3

-- the windows hold bytes
abbrev pub HoldBytes : (work table : List ℕ) → Type 0
HoldBytes work table = (w i : ℕ) → get_or (window w work table) i 0 < 256

pub sections_roomy : (rest a b c : Bool) → (rest || a || b || c) ≡ false → (a ≡ false) × (b ≡ false) × (c ≡ false)
sections_roomy rest a b c e =
    let p = neither (rest || a || b) c e in
    let q = neither (rest || a) b p.0 in
    ((neither rest a q.0).1, q.1, p.1)

-- the plain loop, where none of its checks refuses
looping_done : (W : ℕ) (head nodes work table : List ℕ) → (head_short head || nodes_short nodes) ≡ false
    → form_check W (graph_of head nodes) ≡ done → window_check W (length work) (length table) ≡ done → align_check (graph_of head nodes) ≡ done
    → bounds_check (graph_of head nodes) (length work) (length table) ≡ done
    → looping W head nodes work table ≡ record { answer = done; work = graph_plain (graph_of head nodes) work table }
unfolding looping checking first
looping_done W head nodes work table room form windows aligned bounded = rw (room, form, windows, aligned, bounded)

pub tables_roomy : (rest a b c : Bool) → (rest || a || b || c) ≡ false → rest ≡ false
tables_roomy rest a b c e = (neither rest a (neither (rest || a) b (neither (rest || a || b) c e).0).0).0

module _ (W : ℕ) (v : VectorWidth W) (head nodes work table prologue body epilogue : List ℕ) (byte : HoldBytes work table) where
  -- any table graph that translating does not refuse
  pub translated_runs : (translate_answer W head nodes (length work) (length table) prologue body epilogue).number ≡ DONE
      → let g = graph_of head nodes in
      Runs W g.D g.n g.S (steps_of W g.D g.n g.S (graph_tree g))
      (translating W head nodes (length work) (length table) prologue body epilogue) work table (graph_plain g work table)
  unfolding translating
  translated_runs e =
      let g = graph_of head nodes in
      -- 0 ROOM, 1 form, 2 WINDOW, 3 ALIGN, 4 BOUNDS, 5 CARRY, 6 OFFSET, 7 LONG
      let c = each_check_done _ e in
      let f : Formed W g = passes_formed W g (c 1) in
      rw (first_is_done _ e)
      (program_runs W v g.D g.n g.S work table (graph_tree g) (head_of_lem W v g f work table)
      (loop_from W v g f work table byte (c 2) (c 3) (c 4))
      (graph_passes W v g f work table (c 3) (c 4) (c 5) (c 6))
      (offset_done g W (c 6)).1
      (long_done (graph_tree g) (c 7))
      (window_is_done W (length work) (length table) (c 2))
      prologue body epilogue
      (sections_roomy (head_short head || nodes_short nodes) _ _ _ (refuse_done _ 0 0 (c 0))))

  -- where translating is done the plain loop is, and the memory that the program leaves is the one that the plain loop leaves
  pub translated_looping : (translate_answer W head nodes (length work) (length table) prologue body epilogue).number ≡ DONE
      → looping W head nodes work table ≡ record { answer = done; work = graph_plain (graph_of head nodes) work table }
  translated_looping e =
      let c = each_check_done _ e in
      let g = graph_of head nodes in
      let room : (head_short head || nodes_short nodes) ≡ false =
      tables_roomy (head_short head || nodes_short nodes) _ _ _ (refuse_done _ 0 0 (c 0)) in
      let form : form_check W g ≡ done = formed_passes W g (passes_formed W g (c 1)) in
      let windows : window_check W (length work) (length table) ≡ done = window_is_done W (length work) (length table) (c 2) in
      let aligned : align_check g ≡ done = align_is_done g (c 3) in
      let bounded : bounds_check g (length work) (length table) ≡ done = bounds_is_done g (length work) (length table) (c 4) in
      looping_done W head nodes work table room form windows aligned bounded

-- ---- Demand 2

-- the tree of a placed graph is the placed tree
pub placed_tree_lem : (W rule : ℕ) (g : Graph) → graph_tree (placed_graph W rule g) ≡ place W g.S rule (graph_tree g)
placed_tree_lem W rule g =
    let t : Tree = place W g.S rule (graph_tree g) in
    rw append-nil at (rows_read_back t [])

module _ (W : ℕ) (v : VectorWidth W) (rule : ℕ) (head nodes work table prologue body epilogue : List ℕ) (byte : HoldBytes work table) where
  -- the one-step call: a bare sheet, by any rule
  pub planned_runs : (plan_answer W rule head nodes (length work) (length table) prologue body epilogue).number ≡ DONE
      → let g = graph_of head nodes in
      Runs W g.D g.n g.S (steps_of W g.D g.n g.S (place W g.S rule (graph_tree g)))
      (planning W rule head nodes (length work) (length table) prologue body epilogue) work table (graph_plain g work table)
  unfolding planning
  planned_runs e =
      let g = graph_of head nodes in
      -- 0 ROOM, 1 the rule, 2 form, 3 BARE, 4 WINDOW, 5 ALIGN, 6 BOUNDS, 7 CARRY
      let c = each_check_done _ e in
      let f : Formed W g = passes_formed W g (c 2) in
      let l : Loop W g.D g.n g.S work table = loop_from W v g f work table byte (c 4) (c 5) (c 6) in
      let u : Unshifted (graph_tree g) = graph_unshifted W v g f work table (c 3) in
      rw (first_is_done _ e, placed_tree_lem W rule g, ← (place_plain g.D g.S work table W rule (graph_tree g) g.n))
      (program_runs W v g.D g.n g.S work table (place W g.S rule (graph_tree g)) (head_of_lem W v g f work table) l
      (place_passes W g.D g.n g.S work table l rule (graph_tree g) (graph_bare W v g f work table (c 3) (c 5) (c 6) (c 7)))
      (place_root W g.S rule (graph_tree g) u)
      (place_short W g.S rule (graph_tree g) u (bare_count W g f (c 3)))
      (window_is_done W (length work) (length table) (c 4))
      prologue body epilogue
      (sections_roomy (head_short head || nodes_short nodes) _ _ _ (refuse_done _ 0 0 (c 0))))

  -- the tables of a graph with a tree's rows
  tables_run : (g : Graph) (t : Tree) (head_len nodes_len : ℕ)
      → let head' = padded head_len (head_of (with_tree g t)) in
      let nodes' = padded nodes_len (rows t) in
      (translate_answer W head' nodes' (length work) (length table) prologue body epilogue).number ≡ DONE
      → Runs W g.D g.n g.S (steps_of W g.D g.n g.S t)
      (translating W head' nodes' (length work) (length table) prologue body epilogue) work table (plain g.D g.S work table t g.n)
  unfolding padded
  tables_run g t head_len nodes_len h =
      rw (padded_rows_read_back nodes_len t) at
      (translated_runs W v (padded head_len (head_of (with_tree g t))) (padded nodes_len (rows t)) work table prologue body epilogue byte h)

  -- placing, then translating what it gave
  pub placed_runs : (placed_head placed_nodes : List ℕ) → (placing W rule head nodes placed_head placed_nodes).answer.number ≡ DONE
      → let placed = placing W rule head nodes placed_head placed_nodes in
      let g = graph_of head nodes in
      (translate_answer W placed.head placed.nodes (length work) (length table) prologue body epilogue).number ≡ DONE
      → Runs W g.D g.n g.S (steps_of W g.D g.n g.S (place W g.S rule (graph_tree g)))
      (translating W placed.head placed.nodes (length work) (length table) prologue body epilogue) work table (graph_plain g work table)
  unfolding placing
  placed_runs placed_head placed_nodes e h =
      let g = graph_of head nodes in
      rw (← (place_plain g.D g.S work table W rule (graph_tree g) g.n), e)
      (tables_run g (place W g.S rule (graph_tree g)) (length placed_head) (length placed_nodes) (rw e at h))

both_done : (a b : Answer) → a ≡ done → b ≡ done → first (a ∷ b ∷ []) ≡ done
unfolding first
both_done a b p q = rw (p, q)

-- the one-step call never gives OFFSET or LONG: its answer is that of the checks on the bare sheet
pub planned_unrefused : (W : ℕ) → VectorWidth W → (rule : ℕ) (head nodes : List ℕ) (work_len table_len : ℕ) (prologue body epilogue : List ℕ)
    → plan_answer W rule head nodes work_len table_len prologue body epilogue
    ≡ first (bare_checks W rule head nodes work_len table_len prologue body epilogue)
planned_unrefused W v rule head nodes work_len table_len prologue body epilogue =
    let g = graph_of head nodes in
    first_skip (bare_checks W rule head nodes work_len table_len prologue body epilogue) (placed_checks W (placed_graph W rule g))
    (λ e.
    let c = each_check_done _ e in
    let f : Formed W g = passes_formed W g (c 2) in
    let o : offset_check W (placed_graph W rule g) ≡ done = placed_offset_done W v g f rule (c 3) (c 5) in
    let l : long_check (graph_tree (placed_graph W rule g)) ≡ done = rw (placed_tree_lem W rule g) (placed_long_done W v g f rule (c 3) (c 5)) in
    both_done (offset_check W (placed_graph W rule g)) (long_check (graph_tree (placed_graph W rule g))) o l)

-- a bare sheet in which nothing is wrong is not refused, by any rule
pub bare_sheet_planned : (W : ℕ) → VectorWidth W → (rule : ℕ) (head nodes work table prologue body epilogue : List ℕ)
    → let g = graph_of head nodes in
    (head_short head || nodes_short nodes || section_short prologue || section_short body || section_short epilogue) ≡ false
    → rule ≤ rules_most → Formed W g → (window_ok W (length work) ≡ true) × (window_ok W (length table) ≡ true)
    → Loop W g.D g.n g.S work table → Bare g.D g.n g.S work table (graph_tree g) → g.N ≤ bare_most
    → plan_answer W rule head nodes (length work) (length table) prologue body epilogue ≡ done
bare_sheet_planned W v rule head nodes work table prologue body epilogue room small f windows c b few =
    planned_unrefused W v rule head nodes (length work) (length table) prologue body epilogue
    ∙ planning_accepts W head nodes work table prologue body epilogue room f windows c v rule small b few
