-- The three demands, of what the public functions hand back and leave in memory. Everything assumed here is the contract of a
-- function (`Allowed` of its crate's Outcomes) and that windows hold bytes; nothing is assumed of the functions' code. What the
-- words mean is in crates/rules/specs; why it holds is in crates/theory, which says the same of the definitions.
use Prim.Native.Nat.{ℕ, ◌≤◌, ◌<◌}
use mathlib.Core.Path.{◌≡◌, sym, ap, ◌∙◌}
use mathlib.Core.Logic.{◌≢◌}
use mathlib.Core.List.{List}
use lib.ListN.{length, take}
use Rattle.std.specs.Prelude.{Result, Ok, Err, ⊤}
use Rattle.rules.specs.Limits.{vector_bytes}
use Rattle.rules.specs.Answers.{DONE, FAULT, done, after, of_result, of_run}
use Rattle.rules.specs.Placing.{place}
use Rattle.rules.specs.Machine.{start}
use Rattle.rules.specs.Code.{steps_of}
use Rattle.rules.specs.Tables.{Graph, graph_of}
use Rattle.rules.specs.Calls.{WithSheet, WithProgram, WithWork, graph_tree, graph_plain, plan_answer, translate_answer, translating, planning, placing}
use Rattle.rules.specs.declared.program.ProgramHead.{ProgramHead}
use Rattle.rules.specs.declared.answers.Refusal.{Refusal}
use Rattle.rules.specs.declared.answers.Refusal.TheVariants.{Out}
use Rattle.theory.proofs.AnswerLaws.{run_told_apart}
use Rattle.theory.proofs.Trace.{made}
use Rattle.theory.proofs.Checked.{sixteen}
use Rattle.theory.proofs.Demands.{Leaves, ProgramLeaves, HoldBytes, Runs, trace_of, runs_never_fault, translated_runs, translated_looping, planned_runs, placed_runs}
use Rattle.machine.specs.Running.{ran}
use Rattle.machine.proofs.Outcomes as machine
use Rattle.sheet.proofs.Outcomes as sheet
use Rattle.graph.proofs.Outcomes as graph-call
use Rattle.graph_offsets.proofs.Outcomes as offsets
use Rattle.plain.proofs.Outcomes as plain
use Rattle.placing.proofs.Outcomes as placing-call
use Rattle.translating.specs.Programs.{program_given}
use Rattle.translating.proofs.Outcomes as code
use Rattle.planning.specs.Planning.{plan_given}
use Rattle.planning.proofs.Outcomes as planner

-- ---- demand 1: every input has one answer, and a refusal leaves what is lent as laid down

pub reading_fixed : (text head nodes : List ℕ) (r s : Result ⊤ Refusal) (h n k m : List ℕ) → sheet.Allowed text head nodes r h n
    → sheet.Allowed text head nodes s k m → (r ≡ s) × (h ≡ k) × (n ≡ m)
reading_fixed = sheet.one_outcome

pub checking_fixed : (head nodes : List ℕ) (r s : Result ⊤ Refusal) → graph-call.Allowed head nodes r → graph-call.Allowed head nodes s → r ≡ s
checking_fixed = graph-call.one_outcome

pub offset_check_fixed : (head nodes : List ℕ) (r s : Result ⊤ Refusal) → offsets.Allowed head nodes r → offsets.Allowed head nodes s → r ≡ s
offset_check_fixed = offsets.one_outcome

pub looping_fixed : (head nodes work table : List ℕ) (r s : Result ⊤ Refusal) (v w : List ℕ) → plain.Allowed head nodes work table r v
    → plain.Allowed head nodes work table s w → (r ≡ s) × (v ≡ w)
looping_fixed = plain.one_outcome

pub placing_fixed : (rule : ℕ) (head nodes placed_head placed_nodes : List ℕ) (r s : Result ⊤ Refusal) (h n i k : List ℕ)
    → placing-call.Allowed rule head nodes placed_head placed_nodes r h n
    → placing-call.Allowed rule head nodes placed_head placed_nodes s i k → (r ≡ s) × (h ≡ i) × (n ≡ k)
placing_fixed = placing-call.one_outcome

pub translating_fixed : (head nodes : List ℕ) (work_len table_len : ℕ) (prologue body epilogue : List ℕ) (r s : Result ProgramHead Refusal)
    (p p' b b' e e' : List ℕ) → code.Allowed head nodes work_len table_len prologue body epilogue r p b e
    → code.Allowed head nodes work_len table_len prologue body epilogue s p' b' e' → (r ≡ s) × (p ≡ p') × (b ≡ b') × (e ≡ e')
translating_fixed = code.one_outcome

pub planning_fixed : (rule : ℕ) (head nodes : List ℕ) (work_len table_len : ℕ) (prologue body epilogue : List ℕ) (r s : Result ProgramHead Refusal)
    (p p' b b' e e' : List ℕ) → planner.Allowed rule head nodes work_len table_len prologue body epilogue r p b e
    → planner.Allowed rule head nodes work_len table_len prologue body epilogue s p' b' e'
    → (r ≡ s) × (p ≡ p') × (b ≡ b') × (e ≡ e')
planning_fixed = planner.one_outcome

pub running_fixed : (h : ProgramHead) (prologue body epilogue : List ℕ) (budget : ℕ) (work table : List ℕ) (r s : Result ℕ Refusal) (v w : List ℕ)
    → machine.Allowed h prologue body epilogue budget work table r v → machine.Allowed h prologue body epilogue budget work table s w
    → (r ≡ s) × (v ≡ w)
running_fixed = machine.one_outcome

pub reading_refused : (text head nodes : List ℕ) (r : Result ⊤ Refusal) (h n : List ℕ) → sheet.Allowed text head nodes r h n
    → Leaves (of_result r).number head h × Leaves (of_result r).number nodes n
reading_refused = sheet.refusal_leaves_tables

pub looping_refused : (head nodes work table : List ℕ) (r : Result ⊤ Refusal) (v : List ℕ) → plain.Allowed head nodes work table r v
    → (of_result r).number ≢ DONE → v ≡ work
looping_refused = plain.refusal_leaves_work

pub placing_refused : (rule : ℕ) (head nodes placed_head placed_nodes : List ℕ) (r : Result ⊤ Refusal) (h n : List ℕ)
    → placing-call.Allowed rule head nodes placed_head placed_nodes r h n
    → Leaves (of_result r).number placed_head h × Leaves (of_result r).number placed_nodes n
placing_refused = placing-call.refusal_leaves_tables

pub translating_refused : (head nodes : List ℕ) (work_len table_len : ℕ) (prologue body epilogue : List ℕ) (r : Result ProgramHead Refusal) (p b e : List ℕ)
    → code.Allowed head nodes work_len table_len prologue body epilogue r p b e → ProgramLeaves (program_given r p b e) prologue body epilogue
translating_refused = code.refusal_leaves

pub planning_refused : (rule : ℕ) (head nodes : List ℕ) (work_len table_len : ℕ) (prologue body epilogue : List ℕ) (r : Result ProgramHead Refusal) (p b e : List ℕ)
    → planner.Allowed rule head nodes work_len table_len prologue body epilogue r p b e
    → ProgramLeaves (plan_given r p b e) prologue body epilogue
planning_refused = planner.refusal_leaves

-- ---- what is demanded of a program and of its run

-- every run of it, on these windows, at any budget: r and left are what `machine::run` gives and leaves
abbrev RunAllowed : (p : WithProgram) (budget : ℕ) (work table : List ℕ) → Result ℕ Refusal → List ℕ → Type 0
RunAllowed p budget work table = machine.Allowed p.head p.prologue p.body p.epilogue budget work table

pub record RunsAsPlanned (D n S steps : ℕ) (p : WithProgram) (work table plan : List ℕ) : Type 0 where
  -- with the formula's steps or more it is done in exactly those, and leaves the plan
  pub done : (budget : ℕ) (r : Result ℕ Refusal) (left : List ℕ) → RunAllowed p budget work table r left → steps ≤ budget
      → (r ≡ Ok steps) × (left ≡ plan)
  -- with less it is OUT, and leaves exactly the stores made so far
  pub out : (budget : ℕ) (r : Result ℕ Refusal) (left : List ℕ) → RunAllowed p budget work table r left → budget < steps
      → (r ≡ Err (Out budget)) × (left ≡ (made vector_bytes D table (start vector_bytes work).state (take budget (trace_of p))).work)
  -- it never faults
  pub never_faults : (budget : ℕ) (r : Result ℕ Refusal) (left : List ℕ) → RunAllowed p budget work table r left → (of_run r).number ≡ FAULT → ⊥
  -- every store goes into a block that holds a byte of the plan, and into each of those once
  pub stores : Runs vector_bytes D n S steps p work table plan

runs_as_planned : (D n S steps : ℕ) (p : WithProgram) (work table plan : List ℕ) → Runs vector_bytes D n S steps p work table plan
    → RunsAsPlanned D n S steps p work table plan
runs_as_planned D n S steps p work table plan runs =
    record {
      done = λ budget r left a h.
          let e : ran r left ≡ record { answer = after DONE steps; work = plan } = a ∙ runs.done budget h in
          (run_told_apart r (Ok steps) (ap (λ (x : WithWork). x.answer) e), ap (λ (x : WithWork). x.work) e);
      out = λ budget r left a h.
          let e = a ∙ runs.out budget h in
          (run_told_apart r (Err (Out budget)) (ap (λ (x : WithWork). x.answer) e), ap (λ (x : WithWork). x.work) e);
      never_faults = λ budget r left a e. runs_never_fault runs budget (sym (ap (λ (x : WithWork). x.answer.number) a) ∙ e);
      stores = runs;
    }

-- ---- demand 3: any graph that translating does not refuse, whoever drew it

module _ (head nodes work table prologue body epilogue : List ℕ) (byte : HoldBytes work table) where
  abbrev graph : Graph
  graph = graph_of head nodes

  module _ (given : Result ProgramHead Refusal) (p b e : List ℕ)
      (translated : code.Allowed head nodes (length work) (length table) prologue body epilogue given p b e)
      (unrefused : (of_result given).number ≡ DONE) where
    answered : (translate_answer vector_bytes head nodes (length work) (length table) prologue body epilogue).number ≡ DONE
    unfolding translating
    answered = sym (ap (λ (x : WithProgram). x.answer.number) translated) ∙ unrefused

    -- its program never faults, is done in the formula's steps, stores into the plan's blocks alone, and leaves the plain loop's memory
    pub demand_3 : RunsAsPlanned graph.D graph.n graph.S (steps_of vector_bytes graph.D graph.n graph.S (graph_tree graph))
        (program_given given p b e) work table (graph_plain graph work table)
    demand_3 = runs_as_planned graph.D graph.n graph.S _ (program_given given p b e) work table (graph_plain graph work table)
        (rw (← translated) at (translated_runs vector_bytes sixteen head nodes work table prologue body epilogue byte answered))

    -- and that is the memory that `run_loop` leaves
    pub demand_3_plain : (r : Result ⊤ Refusal) (left : List ℕ) → plain.Allowed head nodes work table r left
        → (of_result r ≡ done) × (left ≡ graph_plain graph work table)
    demand_3_plain r left looped-so =
        let e = looped-so ∙ translated_looping vector_bytes sixteen head nodes work table prologue body epilogue byte answered in
        (ap (λ (x : WithWork). x.answer) e, ap (λ (x : WithWork). x.work) e)

-- ---- demand 2: a bare sheet, by any of the four rules

module _ (rule : ℕ) (head nodes work table prologue body epilogue : List ℕ) (byte : HoldBytes work table) where
  abbrev bare : Graph
  bare = graph_of head nodes

  abbrev formula : ℕ
  formula = steps_of vector_bytes bare.D bare.n bare.S (place vector_bytes bare.S rule (graph_tree bare))

  -- planned in one step: the run leaves the plain loop's memory of the bare sheet
  module _ (given : Result ProgramHead Refusal) (p b e : List ℕ)
      (planned : planner.Allowed rule head nodes (length work) (length table) prologue body epilogue given p b e)
      (unrefused : (of_result given).number ≡ DONE) where
    answered_plan : (plan_answer vector_bytes rule head nodes (length work) (length table) prologue body epilogue).number ≡ DONE
    unfolding planning
    answered_plan = sym (ap (λ (x : WithProgram). x.answer.number) planned) ∙ unrefused

    pub demand_2 : RunsAsPlanned bare.D bare.n bare.S formula (plan_given given p b e) work table (graph_plain bare work table)
    demand_2 = runs_as_planned bare.D bare.n bare.S formula (plan_given given p b e) work table (graph_plain bare work table)
        (rw (← planned) at (planned_runs vector_bytes sixteen rule head nodes work table prologue body epilogue byte answered_plan))

  -- placed, then translated: the same
  module _ (placed_head placed_nodes : List ℕ) (step : Result ⊤ Refusal) (head' nodes' : List ℕ)
      (placed : placing-call.Allowed rule head nodes placed_head placed_nodes step head' nodes') (placed-done : (of_result step).number ≡ DONE)
      (given : Result ProgramHead Refusal) (p b e : List ℕ)
      (translated : code.Allowed head' nodes' (length work) (length table) prologue body epilogue given p b e)
      (unrefused : (of_result given).number ≡ DONE) where
    pub demand_2_in_steps : RunsAsPlanned bare.D bare.n bare.S formula (program_given given p b e) work table (graph_plain bare work table)
    unfolding translating
    demand_2_in_steps =
        let h : head' ≡ (placing vector_bytes rule head nodes placed_head placed_nodes).head = ap (λ (x : WithSheet). x.head) placed in
        let n : nodes' ≡ (placing vector_bytes rule head nodes placed_head placed_nodes).nodes = ap (λ (x : WithSheet). x.nodes) placed in
        let t = rw (h, n) at translated in
        let done' : (placing vector_bytes rule head nodes placed_head placed_nodes).answer.number ≡ DONE =
        sym (ap (λ (x : WithSheet). x.answer.number) placed) ∙ placed-done in
        let answer = sym (ap (λ (x : WithProgram). x.answer.number) t) ∙ unrefused in
        runs_as_planned bare.D bare.n bare.S formula (program_given given p b e) work table (graph_plain bare work table)
        (rw (← t) at (placed_runs vector_bytes sixteen rule head nodes work table prologue body epilogue byte placed_head placed_nodes done' answer))
