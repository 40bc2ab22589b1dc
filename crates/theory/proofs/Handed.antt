-- A translated program, written into lent tables and handed to the machine: it is read back as itself, starts without a refusal,
-- is done in exactly the formula's steps where the budget has them, with the plain loop's memory, and else is OUT.
use mathlib.Core.Path.{◌≡◌, refl, ◌∙◌}
use mathlib.Core.Bool.{true, false}
use mathlib.Core.List.{List}
use Prim.Native.Nat.{ℕ, zero, suc, ◌+◌, ◌*◌, ◌/◌, ◌%◌, ◌≤◌, ◌<◌}
use native.Mathlib.Nat.{zero-add, mod-lt, mul-le-mul, div-add-mod, lt_of_mul-lt-mul_left}
use native.Mathlib.Omega.{arith}
use borrow.Author.Tests.{le-ltb, ltb-false}
use lib.ListN.{length, take, length-replicate, replicate}
use Rattle.rules.specs.Limits.{registers, section_most, long_most, elements_most, full_most, instruction_entries}
use Rattle.rules.specs.Answers.{DONE, OUT, after, first, done}
use Rattle.rules.specs.Trees.{Tree}
use Rattle.rules.specs.PlainLoop.{plain}
use Rattle.rules.specs.Offsets.{root_kept}
use Rattle.rules.specs.Machine.{Program, Timed, trace, runs, start, standing, blank}
use Rattle.rules.specs.Code.{G, full_vectors, rest_elements, sections, program_of, epilogue_steps, steps_of}
use Rattle.rules.specs.Tables.{entries, program_head, program_in, padded}
use Rattle.rules.specs.Checks.{section_short, section_long, window_check}
use Rattle.rules.specs.Calls.{WithWork, ended, start_answer, running}
use Rattle.rules.specs.declared.program.Instruction.{Instruction}
use Rattle.theory.proofs.Passing.{Loop, Passes}
use Rattle.theory.proofs.Pass.{plan_bytes}
use Rattle.theory.proofs.Coded.{depth_le_size}
use Rattle.theory.proofs.Trace.{made}
use Rattle.theory.proofs.Sound.{blank_whole, sound_done, sound_out}
use Rattle.theory.proofs.Sections.{program_plain}
use Rattle.theory.proofs.Translated.{length_only, length_prologue, length_body, length_epilogue, length_program, program_sound}
use Rattle.theory.proofs.RowLaws.{length_entries, length_padded, padded_entries_read_back}
use Rattle.theory.proofs.Checked.{VectorWidth, HeadPasses, width_most_lem}

-- ---- a program's sections fit their tables

pub record Fits (p : Program) : Type 0 where
  pub prologue : length p.prologue ≤ section_most
  pub body : length p.body ≤ section_most
  pub epilogue : length p.epilogue ≤ section_most

epilogue_most : (size e : ℕ) → epilogue_steps size e ≤ size + 3
epilogue_most size zero = omega arith
epilogue_most size (suc e) = omega arith

pub program_fits : (W D n S : ℕ) (t : Tree) → G t ≤ long_most → Fits (program_of W D n S t)
unfolding program_of sections
program_fits W D n S t h = go n (full_vectors W D n S) (rest_elements W D n S)
  where
    go : (n F e : ℕ) → Fits (sections W D n S t F e)
    go zero F e = record { prologue = omega arith; body = omega arith; epilogue = omega arith }
    go (suc n) zero e = record {
      prologue = omega (arith, length_only W S t D (suc n));
      body = omega arith;
      epilogue = omega arith;
    }
    go (suc n) (suc f) e = record {
      prologue = omega (arith, length_prologue W S t);
      body = omega (arith, length_body W S t (suc f));
      epilogue = omega (arith, length_epilogue W S t D e, epilogue_most (G t) e);
    }

pub program_full : (W D n S : ℕ) (t : Tree) → (program_of W D n S t).full ≡ full_vectors W D n S
unfolding program_of sections
program_full W D n S t = go n (full_vectors W D n S) (rest_elements W D n S)
  where
    go : (n F e : ℕ) → (sections W D n S t F e).full ≡ F
    go zero F e = refl
    go (suc n) zero e = refl
    go (suc n) (suc f) e = refl

-- a table that is long enough holds a section of so many instructions
section_room : (is : List Instruction) (table : List ℕ) → length is ≤ section_most → section_short table ≡ false
    → section_long (length is) (padded (length table) (entries is)) ≡ false
section_room is table h e =
    let l : instruction_entries * section_most ≤ length table = ltb-false _ _ e in
    let q : length (padded (length table) (entries is)) ≡ length table =
    length_padded (length table) (entries is) (omega (arith, length_entries is)) in
    rw (le-ltb section_most (length is) h, q, le-ltb (length table) (instruction_entries * length is) (omega arith))

-- ---- the run

module _ (W : ℕ) (v : VectorWidth W) (D n S : ℕ) (work table : List ℕ) (t : Tree) (head : HeadPasses D n)
    (c : Loop W D n S work table) (g : Passes W D n S work table t) (root : root_kept W S t ≡ true) (short : G t ≤ long_most)
    (lengths : window_check W (length work) (length table) ≡ done)
    (prologue body epilogue : List ℕ)
    (room : (section_short prologue ≡ false) × (section_short body ≡ false) × (section_short epilogue ≡ false)) where
  -- what is lent to the machine
  abbrev pub handed : (budget : ℕ) → WithWork
  handed budget =
      let p = program_of W D n S t in
      running W (program_head D p) (padded (length prologue) (entries p.prologue)) (padded (length body) (entries p.body))
      (padded (length epilogue) (entries p.epilogue)) budget work table

  -- F is at most 32,768 / W
  full_most_lem : full_vectors W D n S ≤ full_most W
  full_most_lem =
      let q = plan_bytes W D n S work table t c g in
      let b : n * D ≤ elements_most * 8 = mul-le-mul head.elements (width_most_lem D head.width) in
      let d : W * (32768 / W) + 32768 % W ≡ 32768 = div-add-mod 32768 W in
      let l : full_vectors W D n S < suc (32768 / W) =
      lt_of_mul-lt-mul_left W (omega (arith, q.0, mod-lt S v.vector, v.longest)) in
      omega (arith, l)

  starts : start_answer W (program_head D (program_of W D n S t)) (padded (length prologue) (entries (program_of W D n S t).prologue))
      (padded (length body) (entries (program_of W D n S t).body)) (padded (length epilogue) (entries (program_of W D n S t).epilogue))
      (length work) (length table) ≡ done
  unfolding first
  starts =
      let f = program_fits W D n S t short in
      rw (
        section_room (program_of W D n S t).prologue prologue f.prologue room.0,
        section_room (program_of W D n S t).body body f.body room.1,
        section_room (program_of W D n S t).epilogue epilogue f.epilogue room.2,
        lengths,
        head.width,
        program_full W D n S t,
        le-ltb (full_most W) (full_vectors W D n S) full_most_lem,
      )

  pub read_back : program_in (program_head D (program_of W D n S t)) (padded (length prologue) (entries (program_of W D n S t).prologue))
      (padded (length body) (entries (program_of W D n S t).body)) (padded (length epilogue) (entries (program_of W D n S t).epilogue))
      ≡ program_of W D n S t
  read_back = rw (
    padded_entries_read_back (length prologue) (program_of W D n S t).prologue,
    padded_entries_read_back (length body) (program_of W D n S t).body,
    padded_entries_read_back (length epilogue) (program_of W D n S t).epilogue,
  )

  -- the machine runs that program
  pub handed_runs : (budget : ℕ) → handed budget ≡ ended (runs W D table budget (start W work) (trace (program_of W D n S t)))
  unfolding running
  handed_runs budget = rw (starts, read_back)

  enough_registers : G t + 3 ≤ length (blank W)
  unfolding blank
  enough_registers = rw (length-replicate registers (replicate {A = ℕ} W 0)) (omega arith)

  -- with the formula's steps in the budget it is done in exactly those, with the plain loop's memory
  pub handed_done : (budget : ℕ) → steps_of W D n S t ≤ budget
      → handed budget ≡ record { answer = after DONE (steps_of W D n S t); work = plain D S work table t n }
  handed_done budget h =
      let p : List Timed = trace (program_of W D n S t) in
      let r : runs W D table budget (start W work) p ≡ standing DONE (0 + length p) (made W D table (start W work).state p) =
      sound_done W D (length work) table c.lanes budget 0 (start W work).state p (blank_whole W work)
      (program_sound W D n S work table t c g short) (omega (arith, length_program W D n S t)) in
      let m : (made W D table (start W work).state p).work ≡ plain D S work table t n =
      program_plain W D n S work table t c g root (omega (arith, depth_le_size t, v.deep)) (blank W) enough_registers in
      handed_runs budget ∙ rw (r, zero-add, length_program W D n S t, m)

  -- with less it is OUT, after as many steps as it had, having done the first instructions of the trace
  pub handed_out : (budget : ℕ) → budget < steps_of W D n S t
      → handed budget
      ≡ record { answer = after OUT budget; work = (made W D table (start W work).state (take budget (trace (program_of W D n S t)))).work }
  handed_out budget h =
      let p : List Timed = trace (program_of W D n S t) in
      let r : runs W D table (0 + budget) (start W work) p ≡ standing OUT (0 + budget) (made W D table (start W work).state (take budget p)) =
      sound_out W D (length work) table c.lanes budget 0 (start W work).state p (blank_whole W work)
      (program_sound W D n S work table t c g short) (omega (arith, length_program W D n S t)) in
      handed_runs budget ∙ rw (rw zero-add at r)
