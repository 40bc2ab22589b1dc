-- Runs, instruction by instruction and part by part: what the loops of a section, of the body's passes and of the three sections
-- cite. A run is given by where it stands and by what is left of its trace. Last, a run from its checks on.
use Prim.Native.Nat.{ℕ, zero, suc, ◌+◌, ◌-◌, ◌≤◌, ◌<◌}
use mathlib.Core.Path.{◌≡◌, refl, sym, ap, ◌∙◌}
use mathlib.Core.Bool.{Bool, true, false, cond}
use mathlib.Core.List.{List, [], ◌∷◌, ◌++◌, foldl-append}
use native.Mathlib.Omega.{arith}
use native.Mathlib.Numerals.{add-one}
use borrow.Author.Tests.{lt-ltb, le-ltb}
use lib.ListN.{length}
use Rattle.rules.specs.Limits.{vector_bytes}
use Rattle.std.specs.Prelude.{Result, Ok, Err}
use Rattle.rules.specs.Answers.{Answer, DONE, OUT, FAULT, after, done, of_refusal}
use Rattle.rules.specs.Machine.{State, sound, effect, instruction_at, instructions_from, Program, Timed, in_pass, passes, trace, Standing, standing, next, step, runs, blank, start}
use Rattle.rules.specs.Tables.{program_in}
use Rattle.rules.specs.Calls.{WithWork, start_answer, started, ended, running}
use Rattle.rules.specs.declared.answers.Refusal.{Refusal}
use Rattle.rules.specs.declared.answers.Refusal.TheVariants.{Room, Line, Range, Shape, Bare, Window, Align, Bounds, Carry, Offset, Long, Out, Fault}
use Rattle.rules.specs.declared.program.Instruction.{Instruction}
use Rattle.rules.specs.declared.program.ProgramHead.{ProgramHead}
use Rattle.theory.proofs.AnswerLaws.{refusal_not_done}
use Rattle.machine_kinds.specs.Trying.{Tried, tried, state, of_state, try_as}
use Rattle.machine.specs.Running.{stood, ran}

-- ---- what is left

pub rows_more : (section : List ℕ) (j row rows : ℕ) → row < rows
    → in_pass j (instructions_from section row (rows - row))
    ≡ record { pass = j; instruction = instruction_at section row } ∷ in_pass j (instructions_from section (row + 1) (rows - (row + 1)))
unfolding in_pass
rows_more section j row rows h = let e : rows - row ≡ suc (rows - (row + 1)) = omega arith in rw e

pub rows_none : (section : List ℕ) (j row rows : ℕ) → rows ≤ row → in_pass j (instructions_from section row (rows - row)) ≡ []
unfolding in_pass
rows_none section j row rows h = let e : rows - row ≡ 0 = omega arith in rw e

pub passes_more : (j f : ℕ) (is : List Instruction) → j < f → passes (f - j) j is ≡ in_pass j is ++ passes (f - (j + 1)) (j + 1) is
unfolding passes
passes_more j f is h = let e : f - j ≡ suc (f - (j + 1)) = omega arith in rw (e, add-one j)

pub passes_none : (j f : ℕ) (is : List Instruction) → f ≤ j → passes (f - j) j is ≡ []
unfolding passes
passes_none j f is h = let e : f - j ≡ 0 = omega arith in rw e

-- ---- one instruction

module _ (D : ℕ) (table : List ℕ) (j : ℕ) (i : Instruction) (regs regs' : List (List ℕ)) (work work' : List ℕ) where
  abbrev fine : Bool
  fine = sound vector_bytes D (length work) j i

  abbrev then : State
  then = effect vector_bytes D table j (state regs work) i

  pub tried_fine : tried true regs' work' ≡ try_as i.kind D table j i regs work → (fine ≡ true) × (state regs' work' ≡ then)
  unfolding try_as
  tried_fine e = go fine then e
    where
      go : (b : Bool) (s : State) → tried true regs' work' ≡ cond b (of_state s) (tried false regs work)
          → (b ≡ true) × (state regs' work' ≡ s)
      go true s e = (refl, ap (λ (t : Tried). state t.regs t.work) e)
      go false s e =
          let b : true ≡ false = ap (λ (t : Tried). t.ok) e in
          let z : ◌≡◌ {A = ℕ} 0 1 = cc in
          absurd (omega arith)

  pub tried_fault : tried false regs' work' ≡ try_as i.kind D table j i regs work → (fine ≡ false) × (state regs' work' ≡ state regs work)
  unfolding try_as
  tried_fault e = go fine then e
    where
      go : (b : Bool) (s : State) → tried false regs' work' ≡ cond b (of_state s) (tried false regs work)
          → (b ≡ false) × (state regs' work' ≡ state regs work)
      go true s e =
          let b : true ≡ false = sym (ap (λ (t : Tried). t.ok) e) in
          let z : ◌≡◌ {A = ℕ} 0 1 = cc in
          absurd (omega arith)
      go false s e = (refl, ap (λ (t : Tried). state t.regs t.work) e)

module _ (D : ℕ) (table : List ℕ) (budget : ℕ) where
  abbrev pub run : Standing → List Timed → Standing
  run m ts = runs vector_bytes D table budget m ts

  -- a run that has stopped stays
  pub run_stopped : (a k : ℕ) (s : State) (ts : List Timed) → run (standing (suc a) k s) ts ≡ standing (suc a) k s
  unfolding runs step
  run_stopped a k s [] = refl
  run_stopped a k s (t ∷ ts) = run_stopped a k s ts

  pub run_append : (m : Standing) (ts us : List Timed) → run m (ts ++ us) ≡ run (run m ts) us
  unfolding runs
  run_append m ts us = foldl-append _ m ts us

  module _ (k : ℕ) (s : State) (t : Timed) (ts : List Timed) where
    run_out : budget ≤ k → run (standing DONE k s) (t ∷ ts) ≡ standing OUT k s
    unfolding runs step
    run_out h = rw (le-ltb k budget h) (run_stopped 11 k s ts)

    run_fault : k < budget → sound vector_bytes D (length s.work) t.pass t.instruction ≡ false
        → run (standing DONE k s) (t ∷ ts) ≡ standing FAULT k s
    unfolding runs step
    run_fault h v = rw (lt-ltb k budget h, v) (run_stopped 12 k s ts)

    run_step : k < budget → sound vector_bytes D (length s.work) t.pass t.instruction ≡ true
        → run (standing DONE k s) (t ∷ ts)
        ≡ run (standing DONE (suc k) (effect vector_bytes D table t.pass s t.instruction)) ts
    unfolding runs step
    run_step h v = rw (lt-ltb k budget h, v)

  -- ---- a section in one pass

  module _ (section : List ℕ) (j row rows : ℕ) (h : row < rows) (k : ℕ) (regs : List (List ℕ)) (work : List ℕ) where
    abbrev now : Instruction
    now = instruction_at section row

    abbrev timed : Timed
    timed = record { pass = j; instruction = now }

    abbrev left : List Timed
    left = in_pass j (instructions_from section row (rows - row))

    abbrev later : List Timed
    later = in_pass j (instructions_from section (row + 1) (rows - (row + 1)))

    pub out_first : budget ≤ k → standing OUT k (state regs work) ≡ run (standing DONE k (state regs work)) left
    out_first l = rw (rows_more section j row rows h) (sym (run_out k (state regs work) timed later l))

    module _ (regs' : List (List ℕ)) (work' : List ℕ) (l : k < budget) where
      pub fault_first : tried false regs' work' ≡ try_as now.kind D table j now regs work
          → standing FAULT k (state regs' work') ≡ run (standing DONE k (state regs work)) left
      fault_first e =
          let t = tried_fault D table j now regs regs' work work' e in
          rw (rows_more section j row rows h)
          (ap (λ (s : State). standing FAULT k s) t.1 ∙ sym (run_fault k (state regs work) timed later l t.0))

      pub step_first : tried true regs' work' ≡ try_as now.kind D table j now regs work
          → run (standing DONE (k + 1) (state regs' work')) later ≡ run (standing DONE k (state regs work)) left
      step_first e =
          let t = tried_fine D table j now regs regs' work work' e in
          rw (rows_more section j row rows h, add-one k)
          (ap (λ (s : State). run (standing DONE (suc k) s) later) t.1 ∙ sym (run_step k (state regs work) timed later l t.0))

  -- ---- one part after another

  module _ (m : Standing) (ts us : List Timed) (regs : List (List ℕ)) (work : List ℕ) where
    -- a part that is done: the run goes on from there
    pub part_done : (k : ℕ) → stood (Ok k) regs work ≡ run m ts → run (standing DONE k (state regs work)) us ≡ run m (ts ++ us)
    part_done k e = rw e (sym (run_append m ts us))

    -- a part that has stopped: so has the run
    pub part_stopped : (r : Refusal) → stood (Err r) regs work ≡ run m ts → stood (Err r) regs work ≡ run m (ts ++ us)
    part_stopped r e = sym (run_append m ts us ∙ rw (← e) (go (of_refusal r).number (refusal_not_done r)))
      where
        go : (number : ℕ) → DONE < number
            → run (standing number (of_refusal r).steps (state regs work)) us ≡ standing number (of_refusal r).steps (state regs work)
        go zero above = absurd (omega arith)
        go (suc number) above = run_stopped number (of_refusal r).steps (state regs work) us

  -- ---- the answer of a run

  -- a run that has stopped is OUT or FAULT
  abbrev Late : ℕ → Type 0
  Late number = DONE < number → OUT ≤ number

  next_late : (number : ℕ) (within fine : Bool) (k : ℕ) (before then : State) → Late number
      → Late (next number within fine k before then).number
  next_late (suc number) within fine k before then late above = late above
  next_late zero false fine k before then late above = omega arith
  next_late zero true false k before then late above = omega arith
  next_late zero true true k before then late above = late above

  run_late : (m : Standing) (ts : List Timed) → Late m.number → Late (run m ts).number
  unfolding runs step
  run_late m [] late = late
  run_late m (t ∷ ts) late =
      run_late (step vector_bytes D table budget m t) ts (next_late m.number _ _ m.steps m.state _ late)

  -- and has no place
  no_place : (r : Refusal) → OUT ≤ (of_refusal r).number → of_refusal r ≡ after (of_refusal r).number (of_refusal r).steps
  no_place (Out k) late = refl
  no_place (Fault k) late = refl
  no_place Room late = absurd (omega arith)
  no_place (Line p) late = absurd (omega arith)
  no_place (Range p) late = absurd (omega arith)
  no_place (Shape p) late = absurd (omega arith)
  no_place (Bare p) late = absurd (omega arith)
  no_place (Window p) late = absurd (omega arith)
  no_place (Align p) late = absurd (omega arith)
  no_place (Bounds p) late = absurd (omega arith)
  no_place (Carry p) late = absurd (omega arith)
  no_place (Offset p) late = absurd (omega arith)
  no_place Long late = absurd (omega arith)

  pub run_ends : (k : ℕ) (s : State) (ts : List Timed) (r : Result ℕ Refusal) (regs : List (List ℕ)) (work : List ℕ)
      → stood r regs work ≡ run (standing DONE k s) ts → ran r work ≡ ended (run (standing DONE k s) ts)
  run_ends k s ts (Ok n) regs work e = ap ended e
  run_ends k s ts (Err r) regs work e =
      let late : Late (of_refusal r).number = rw (← e) at (run_late (standing DONE k s) ts (λ above. absurd (omega arith))) in
      ap (λ (a : Answer). record { answer = a; work = work }) (no_place r (late (refusal_not_done r))) ∙ ap ended e

  -- ---- the three sections

  module _ (p : Program) (work : List ℕ) where
    abbrev first : List Timed
    first = in_pass 0 p.prologue

    abbrev middle : List Timed
    middle = passes (p.full - 1) 1 p.body

    abbrev last : List Timed
    last = in_pass p.full p.epilogue

    abbrev whole : Standing
    whole = run (start vector_bytes work) (trace p)

    ended_so : (r : Result ℕ Refusal) (regs : List (List ℕ)) (work' : List ℕ) → stood r regs work' ≡ whole → ran r work' ≡ ended whole
    ended_so r regs work' e = run_ends 0 (state (blank vector_bytes) work) (trace p) r regs work' e

    pub prologue_stops : (r : Refusal) (regs₁ : List (List ℕ)) (work₁ : List ℕ)
        → stood (Err r) regs₁ work₁ ≡ run (start vector_bytes work) first → ran (Err r) work₁ ≡ ended whole
    unfolding trace
    prologue_stops r regs₁ work₁ e = ended_so (Err r) regs₁ work₁ (part_stopped (start vector_bytes work) first (middle ++ last) regs₁ work₁ r e)

    module _ (k : ℕ) (regs₁ : List (List ℕ)) (work₁ : List ℕ) (ea : stood (Ok k) regs₁ work₁ ≡ run (start vector_bytes work) first) where
      prologue_done : run (standing DONE k (state regs₁ work₁)) (middle ++ last) ≡ whole
      unfolding trace
      prologue_done = part_done (start vector_bytes work) first (middle ++ last) regs₁ work₁ k ea

      pub body_stops : (r : Refusal) (regs₂ : List (List ℕ)) (work₂ : List ℕ)
          → stood (Err r) regs₂ work₂ ≡ run (standing DONE k (state regs₁ work₁)) middle → ran (Err r) work₂ ≡ ended whole
      body_stops r regs₂ work₂ e =
          ended_so (Err r) regs₂ work₂ (part_stopped (standing DONE k (state regs₁ work₁)) middle last regs₂ work₂ r e ∙ prologue_done)

      pub epilogue_ends : (l : ℕ) (regs₂ : List (List ℕ)) (work₂ : List ℕ)
          → stood (Ok l) regs₂ work₂ ≡ run (standing DONE k (state regs₁ work₁)) middle
          → (c : Result ℕ Refusal) (regs₃ : List (List ℕ)) (work₃ : List ℕ)
          → stood c regs₃ work₃ ≡ run (standing DONE l (state regs₂ work₂)) last → ran c work₃ ≡ ended whole
      epilogue_ends l regs₂ work₂ eb c regs₃ work₃ ec =
          ended_so c regs₃ work₃
          (ec ∙ part_done (standing DONE k (state regs₁ work₁)) middle last regs₂ work₂ l eb ∙ prologue_done)

-- ---- from the checks on

module _ (h : ProgramHead) (prologue body epilogue work table : List ℕ) where
  abbrev found : Answer
  found = start_answer vector_bytes h prologue body epilogue (length work) (length table)

  module _ (budget : ℕ) where
    abbrev outcome : (D : ℕ) → WithWork
    outcome D = ended (runs vector_bytes D table budget (start vector_bytes work) (trace (program_in h prologue body epilogue)))

    pub run_goes : (D : ℕ) → D ≡ h.d → done ≡ found → (x : WithWork) → x ≡ outcome D
        → x ≡ running vector_bytes h prologue body epilogue budget work table
    unfolding running
    run_goes D d e x q = q ∙ rw d (ap (λ (a : Answer). started a.number a work (outcome h.d)) e)

    pub run_refused : (r : Refusal) → of_refusal r ≡ found
        → ran (Err r) work ≡ running vector_bytes h prologue body epilogue budget work table
    unfolding running
    run_refused r e = go (of_refusal r).number (refusal_not_done r) ∙ ap (λ (a : Answer). started a.number a work (outcome h.d)) e
      where
        go : (n : ℕ) → DONE < n → record { answer = of_refusal r; work = work } ≡ started n (of_refusal r) work (outcome h.d)
        go zero above = absurd (omega arith)
        go (suc n) above = refl

-- ---- what the check finds a loop's proof by

pub ruleset row_by_row = (rows_none, out_first, step_first)

pub ruleset pass_by_pass = (passes_more, passes_none, part_done)
