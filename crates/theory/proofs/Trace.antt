-- Runs of any program on any budget: a run's outcome is that of the first instructions of its trace, as many as its steps; it
-- stops exactly where the paper says; carried on under a larger budget it ends as one run.
use mathlib.Core.Path.{◌≡◌, refl, sym, ap}
use mathlib.Core.Bool.{Bool, true, false, cond}
use mathlib.Core.List.{List, [], ◌∷◌, ◌++◌, foldl, foldl-append}
use Prim.Native.Nat.{ℕ, zero, suc, ◌+◌, ◌-◌, ◌*◌, ◌≤◌, ◌<◌}
use native.Mathlib.Nat.{add-zero, le_trans}
use native.Mathlib.Omega.{arith}
use borrow.Author.Tests.{lt-ltb, le-ltb, ltb-true, ltb-false}
use lib.Dec.{ltb, eqb}
use lib.ListN.{length, take, drop, length-append}
use lib.Seq.{drop-nil}
use Rattle.rules.specs.Answers.{DONE, OUT, FAULT}
use Rattle.rules.specs.Machine.{store_kind, State, sound, effect, effect_as, Program, Timed, in_pass, passes, trace, Standing, standing, step, runs}
use Rattle.rules.specs.declared.program.Instruction.{Instruction}
use Rattle.theory.proofs.Coded.{execs}

-- ---- the length of a trace

pub length_pass : (j : ℕ) (is : List Instruction) → length (in_pass j is) ≡ length is
unfolding in_pass
length_pass j [] = refl
length_pass j (i ∷ is) = ap suc (length_pass j is)

pub length_passes : (k j : ℕ) (is : List Instruction) → length (passes k j is) ≡ k * length is
unfolding passes
length_passes zero j is = omega arith
length_passes (suc k) j is = simp (length-append, length_pass, length_passes k) (omega arith)

pub length_trace : (p : Program) → length (trace p) ≡ length p.prologue + (p.full - 1) * length p.body + length p.epilogue
unfolding trace
length_trace p = simp (length-append, length_pass, length_passes) (omega arith)

-- ---- what instructions make of a state, where none is a fault

module _ (W D : ℕ) (table : List ℕ) where
  unfoldable pub made : State → List Timed → State
  made s ts = foldl (λ s t. effect W D table t.pass s t.instruction) s ts

  pub made_append : (s : State) (ts us : List Timed) → made s (ts ++ us) ≡ made (made s ts) us
  unfolding made
  made_append s ts us = foldl-append _ s ts us

  pub made_pass : (j : ℕ) (s : State) (is : List Instruction) → made s (in_pass j is) ≡ execs W D table j s is
  unfolding in_pass made
  made_pass j s [] = refl
  made_pass j s (i ∷ is) = made_pass j (effect W D table j s i) is

  -- only a store writes work
  pub only_stores_write : (j : ℕ) (s : State) (i : Instruction) → (i.kind ≡ store_kind → ⊥) → (effect W D table j s i).work ≡ s.work
  unfolding effect_as
  only_stores_write j s i ne = go i.kind refl
    where
      go : (k : ℕ) → i.kind ≡ k → (effect_as k W D table j s i).work ≡ s.work
      go zero e = refl
      go (suc zero) e = refl
      go (suc (suc zero)) e = refl
      go (suc (suc (suc zero))) e = refl
      go (suc (suc (suc (suc zero)))) e = refl
      go (suc (suc (suc (suc (suc zero))))) e = refl
      go (suc (suc (suc (suc (suc (suc zero)))))) e = absurd (ne e)
      go (suc (suc (suc (suc (suc (suc (suc k))))))) e = refl

-- ---- one run

module _ (W D : ℕ) (table : List ℕ) where
  -- whether the next instruction can be run in s
  abbrev pub fine : State → Timed → Bool
  fine s t = sound W D (length s.work) t.pass t.instruction

  abbrev pub then : State → Timed → State
  then s t = effect W D table t.pass s t.instruction

  pub runs_stopped : (budget a k : ℕ) (s : State) (ts : List Timed)
      → runs W D table budget (standing (suc a) k s) ts ≡ standing (suc a) k s
  unfolding runs step
  runs_stopped budget a k s [] = refl
  runs_stopped budget a k s (t ∷ ts) = runs_stopped budget a k s ts

  -- done before OUT before FAULT: the first instruction is OUT, a FAULT, or one more step
  runs_out_first : (budget k : ℕ) (s : State) (t : Timed) (ts : List Timed) → budget ≤ k
      → runs W D table budget (standing DONE k s) (t ∷ ts) ≡ standing OUT k s
  unfolding runs step
  runs_out_first budget k s t ts h = rw (le-ltb k budget h) (runs_stopped budget 11 k s ts)

  runs_fault_first : (budget k : ℕ) (s : State) (t : Timed) (ts : List Timed) → k < budget → fine s t ≡ false
      → runs W D table budget (standing DONE k s) (t ∷ ts) ≡ standing FAULT k s
  unfolding runs step
  runs_fault_first budget k s t ts h v = rw (lt-ltb k budget h, v) (runs_stopped budget 12 k s ts)

  runs_step_first : (budget k : ℕ) (s : State) (t : Timed) (ts : List Timed) → k < budget → fine s t ≡ true
      → runs W D table budget (standing DONE k s) (t ∷ ts) ≡ runs W D table budget (standing DONE (suc k) (then s t)) ts
  unfolding runs step
  runs_step_first budget k s t ts h v = rw (lt-ltb k budget h, v)

  -- why a run ended as it did, after so many steps in state s, with these instructions left
  pub data Why (budget steps : ℕ) (s : State) (left : List Timed) : (number : ℕ) → Type 0 where
    nothing_remains : left ≡ [] → Why budget steps s left DONE
    budget_used : budget ≡ steps → (t : Timed) (rest : List Timed) → left ≡ t ∷ rest → Why budget steps s left OUT
    next_is_fault : steps < budget → (t : Timed) (rest : List Timed) → left ≡ t ∷ rest → fine s t ≡ false → Why budget steps s left FAULT

  -- r is where the first `count` instructions led, and why it went no further
  pub record Cut (budget k : ℕ) (s : State) (ts : List Timed) (r : Standing) : Type 0 where
    pub count : ℕ
    pub some : count ≤ length ts
    pub counted : r.steps ≡ k + count
    pub state : r.state ≡ made W D table s (take count ts)
    pub why : Why budget r.steps r.state (drop count ts) r.number

  pub runs_cut : (budget k : ℕ) (s : State) (ts : List Timed) → k ≤ budget → Cut budget k s ts (runs W D table budget (standing DONE k s) ts)
  unfolding runs made
  runs_cut budget k s [] h = record {
    count = 0;
    some = omega arith;
    counted = sym (add-zero k);
    state = refl;
    why = nothing_remains refl;
  }
  runs_cut budget k s (t ∷ ts) h = go (ltb k budget) refl (fine s t) refl (λ l. runs_cut budget (suc k) (then s t) ts l)
    where
      stop : (number : ℕ) → Why budget k s (t ∷ ts) number → Cut budget k s (t ∷ ts) (standing number k s)
      stop number w = record { count = 0; some = omega arith; counted = sym (add-zero k); state = refl; why = w }

      go : (b : Bool) → ltb k budget ≡ b → (v : Bool) → fine s t ≡ v
          → (suc k ≤ budget → Cut budget (suc k) (then s t) ts (runs W D table budget (standing DONE (suc k) (then s t)) ts))
          → Cut budget k s (t ∷ ts) (runs W D table budget (standing DONE k s) (t ∷ ts))
      go false e v f rest =
          rw (runs_out_first budget k s t ts (ltb-false k budget e))
          (stop OUT (budget_used (omega (arith, ltb-false k budget e)) t ts refl))
      go true e false f rest =
          rw (runs_fault_first budget k s t ts (ltb-true k budget e) f) (stop FAULT (next_is_fault (ltb-true k budget e) t ts refl f))
      go true e true f rest =
          let c = rest (ltb-true k budget e) in
          rw (runs_step_first budget k s t ts (ltb-true k budget e) f)
          (record {
            count = suc c.count;
            some = omega (arith, c.some);
            counted = omega (arith, c.counted);
            state = c.state;
            why = c.why;
          })

  -- a run that was OUT goes on; any other stays as it is
  unfoldable pub again : Standing → Standing
  again m = standing (cond (eqb m.number OUT) DONE m.number) m.steps m.state

  -- a run carried on under a larger budget, over what is left of its trace, ends as if it had had that budget from the start
  pub runs_carried : (low budget k : ℕ) (s : State) (ts : List Timed) → k ≤ low → low ≤ budget
      → runs W D table budget (again (runs W D table low (standing DONE k s) ts)) (drop ((runs W D table low (standing DONE k s) ts).steps - k) ts)
      ≡ runs W D table budget (standing DONE k s) ts
  unfolding again
  runs_carried low budget k s [] h g = unfold runs in (simp drop-nil)
  runs_carried low budget k s (t ∷ ts) h g =
      go (ltb k low) refl (fine s t) refl (λ l. runs_carried low budget (suc k) (then s t) ts l g)
    where
      z : k - k ≡ 0
      z = omega arith

      go : (b : Bool) → ltb k low ≡ b → (v : Bool) → fine s t ≡ v
          → (suc k ≤ low → runs W D table budget (again (runs W D table low (standing DONE (suc k) (then s t)) ts))
          (drop ((runs W D table low (standing DONE (suc k) (then s t)) ts).steps - suc k) ts)
          ≡ runs W D table budget (standing DONE (suc k) (then s t)) ts)
          → runs W D table budget (again (runs W D table low (standing DONE k s) (t ∷ ts)))
          (drop ((runs W D table low (standing DONE k s) (t ∷ ts)).steps - k) (t ∷ ts))
          ≡ runs W D table budget (standing DONE k s) (t ∷ ts)
      go false e v f rest = rw (runs_out_first low k s t ts (ltb-false k low e), z)
      go true e false f rest =
          rw (runs_fault_first low k s t ts (ltb-true k low e) f, z, runs_fault_first budget k s t ts (le_trans (ltb-true k low e) g) f)
          (runs_stopped budget 12 k s (t ∷ ts))
      go true e true f rest =
          let c = runs_cut low (suc k) (then s t) ts (ltb-true k low e) in
          let d : (runs W D table low (standing DONE (suc k) (then s t)) ts).steps - k
          ≡ suc ((runs W D table low (standing DONE (suc k) (then s t)) ts).steps - suc k) = omega (arith, c.counted) in
          rw (runs_step_first low k s t ts (ltb-true k low e) f, d, runs_step_first budget k s t ts (le_trans (ltb-true k low e) g) f)
          (rest (ltb-true k low e))
