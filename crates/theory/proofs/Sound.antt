-- Runs of sound instructions. Whether an instruction is a fault depends on its fields, D, the pass and the length of work, and a
-- sound one keeps that length and the registers' widths: so a trace of sound instructions never faults, is done in as many
-- steps as it has instructions, and is OUT exactly when the budget is less.
use mathlib.Core.Path.{◌≡◌, refl, sym, ap, ◌∙◌}
use mathlib.Core.Bool.{Bool, true, ◌&&◌}
use mathlib.Core.List.{List, [], ◌∷◌}
use Prim.Native.Nat.{ℕ, zero, suc, ◌+◌, ◌-◌, ◌*◌, ◌/◌, ◌≤◌, ◌<◌}
use native.Mathlib.Nat.{add-zero}
use native.Mathlib.Omega.{arith}
use borrow.Author.Tests.{lt-ltb, le-ltb, ltb-true, leb-true}
use lib.Dec.{ltb, leb}
use lib.ListN.{length, take, length-set, replicate, length-replicate, get_or-replicate}
use lib.Seq.{get_or-set_same, get_or-set_other, length-paste}
use Rattle.rules.specs.Limits.{registers}
use Rattle.rules.specs.Answers.{DONE, OUT}
use Rattle.rules.specs.Elements.{to_bytes}
use Rattle.rules.specs.PlainLoop.{window}
use Rattle.rules.specs.Vectors.{vsplat, vop, block_zero, block_of, inside, stored}
use Rattle.rules.specs.Machine.{State, reg, write, fields_as, reaches_as, sound_as, sound, effect_as, effect, Timed, in_pass, passes, standing, step, runs, blank, splat_value}
use Rattle.rules.specs.declared.program.Instruction.{Instruction}
use Rattle.theory.proofs.Lists.{split, and_left, and_right, Every, none, more, every_append, length_lanes, length_pair, length_splice}
use Rattle.theory.proofs.Numbers.{length_to_bytes}
use Rattle.theory.proofs.Stream.{length_loaded}
use Rattle.theory.proofs.Trace.{made, runs_stopped}

-- 1,024 registers of W bytes each, and a work of len bytes
pub record Whole (W len : ℕ) (s : State) : Type 0 where
  pub count : length s.regs ≡ registers
  pub vectors : (r : ℕ) → r < registers → length (reg s r) ≡ W
  pub work : length s.work ≡ len

pub blank_whole : (W : ℕ) (work : List ℕ) → Whole W (length work) (record { regs = blank W; work = work })
unfolding blank
blank_whole W work = record {
  count = length-replicate registers (replicate {A = ℕ} W 0);
  vectors = λ r h. rw (get_or-replicate registers r (replicate {A = ℕ} W 0) [] h) (length-replicate {A = ℕ} W 0);
  work = refl;
}

write_whole : (W len r : ℕ) (v : List ℕ) (s : State) → length v ≡ W → Whole W len s → Whole W len (write r v s)
write_whole W len r v s e h = record {
  count = length-set s.regs r v ∙ h.count;
  vectors = λ i l. split i r (λ (k : i < r). other i l (omega arith)) (λ (k : r ≤ i). split r i (λ (q : r < i). other i l (omega arith)) (λ q. same i l (omega arith)));
  work = h.work;
}
  where
    other : (i : ℕ) → i < registers → (i ≡ r → ⊥) → length (reg (write r v s) i) ≡ W
    other i l ne = rw (get_or-set_other s.regs r i v [] ne) (h.vectors i l)

    same : (i : ℕ) → i < registers → i ≡ r → length (reg (write r v s) i) ≡ W
    same i l q = rw (q, get_or-set_same s.regs r v [] (omega (arith, h.count))) e

-- a sound instruction keeps them
module _ (W D len : ℕ) (table : List ℕ) (l : W / D * D ≡ W) (j : ℕ) (s : State) (i : Instruction) (h : Whole W len s) where
  -- the two registers of an instruction that reads two
  reads_two : (t : Bool) → (ltb i.destination registers && (ltb i.a registers && (ltb i.b registers && t))) ≡ true
      → (length (reg s i.a) ≡ W) × (length (reg s i.b) ≡ W) × (t ≡ true)
  reads_two t e =
      let p = and_right (ltb i.destination registers) _ e in
      let q = and_right (ltb i.a registers) _ p in (
        h.vectors i.a (ltb-true _ _ (and_left (ltb i.a registers) _ p)),
        h.vectors i.b (ltb-true _ _ (and_left (ltb i.b registers) _ q)),
        and_right (ltb i.b registers) t q,
      )

  stored_whole : (block : ℕ) → (inside W len block && ltb i.a registers) ≡ true
      → Whole W len (record { regs = s.regs; work = stored W s.work block (reg s i.a) })
  unfolding stored inside
  stored_whole block e =
      let in-work : Bool = leb (block_zero W) block && leb (W * (block - block_zero W) + W) len in
      let p : W * (block - block_zero W) + W ≤ len =
      leb-true _ _ (and_right (leb (block_zero W) block) _ (and_left in-work (ltb i.a registers) e)) in
      let v : length (reg s i.a) ≡ W = h.vectors i.a (ltb-true _ _ (and_right in-work (ltb i.a registers) e)) in
      record {
        count = h.count;
        vectors = h.vectors;
        work = length-paste s.work (W * (block - block_zero W)) (reg s i.a) W (omega (arith, h.work)) (omega arith) ∙ h.work;
      }

  effect_whole_as : (k : ℕ) → sound_as k W D len j i ≡ true → Whole W len (effect_as k W D table j s i)
  unfolding fields_as reaches_as effect_as vsplat vop
  effect_whole_as zero e = h
  effect_whole_as (suc zero) e = write_whole W len _ _ s (length_loaded W (window i.a s.work table) _) h
  effect_whole_as (suc (suc zero)) e =
      write_whole W len _ _ s (length_lanes D (λ k. to_bytes D (splat_value i)) (λ k. length_to_bytes D _) (W / D) ∙ l) h
  effect_whole_as (suc (suc (suc zero))) e =
      write_whole W len _ _ s (length_lanes D _ (λ k. length_to_bytes D _) (W / D) ∙ l) h
  effect_whole_as (suc (suc (suc (suc zero)))) e =
      let r = reads_two (ltb i.low W) e in
      write_whole W len _ _ s (length_pair W (reg s i.a) (reg s i.b) i.low r.0 (omega (arith, ltb-true i.low W r.2)) r.1) h
  effect_whole_as (suc (suc (suc (suc (suc zero))))) e =
      let r = reads_two (leb i.low W) e in
      write_whole W len _ _ s
      (length_splice (reg s i.a) (reg s i.b) i.low (omega (arith, leb-true i.low W r.2, r.0)) (r.0 ∙ sym r.1) ∙ r.1) h
  effect_whole_as (suc (suc (suc (suc (suc (suc zero)))))) e = stored_whole (block_of W i.low j) e
  effect_whole_as (suc (suc (suc (suc (suc (suc (suc k))))))) e = h

  pub effect_whole : sound W D len j i ≡ true → Whole W len (effect W D table j s i)
  effect_whole e = effect_whole_as i.kind e

-- ---- runs of sound instructions

-- an instruction of a trace is sound over a work of len bytes
abbrev pub Sound : (W D len : ℕ) → Timed → Type 0
Sound W D len t = sound W D len t.pass t.instruction ≡ true

pub every_pass : (W D len j : ℕ) {is : List Instruction} → Every (λ i. sound W D len j i ≡ true) is → Every (Sound W D len) (in_pass j is)
unfolding in_pass
every_pass W D len j none = none
every_pass W D len j (more p l) = more p (every_pass W D len j l)

pub every_passes : (W D len k j : ℕ) (is : List Instruction) → ((i : ℕ) → i < k → Every (λ x. sound W D len (j + i) x ≡ true) is)
    → Every (Sound W D len) (passes k j is)
unfolding passes
every_passes W D len zero j is h = none
every_passes W D len (suc k) j is h =
    every_append (every_pass W D len j (rw add-zero at (h 0 (omega arith))))
    (every_passes W D len k (suc j) is (λ i l. let e : suc j + i ≡ j + suc i = omega arith in rw e (h (suc i) (omega arith))))

module _ (W D len : ℕ) (table : List ℕ) (l : W / D * D ≡ W) where
  pub made_whole : (s : State) (ts : List Timed) → Whole W len s → Every (Sound W D len) ts → Whole W len (made W D table s ts)
  unfolding made
  made_whole s [] h none = h
  made_whole s (t ∷ ts) h (more v vs) = made_whole (effect W D table t.pass s t.instruction) ts (effect_whole W D len table l t.pass s t.instruction h v) vs

  -- with a budget for all of them the run is done after as many steps as there are instructions
  pub sound_done : (budget k : ℕ) (s : State) (ts : List Timed) → Whole W len s → Every (Sound W D len) ts → k + length ts ≤ budget
      → runs W D table budget (standing DONE k s) ts ≡ standing DONE (k + length ts) (made W D table s ts)
  unfolding made runs step
  sound_done budget k s [] h none b = rw add-zero
  sound_done budget k s (t ∷ ts) h (more v vs) b =
      let i : k + suc (length ts) ≡ suc k + length ts = omega arith in
      rw (lt-ltb k budget (omega arith), h.work, v, i)
      (sound_done budget (suc k) _ ts (effect_whole W D len table l t.pass s t.instruction h v) vs (omega arith))

  -- and else it is OUT at the budget, having done the first of them
  out_at : (budget first k : ℕ) (s : State) (ts : List Timed) → budget ≡ k + first → Whole W len s → Every (Sound W D len) ts
      → first < length ts → runs W D table budget (standing DONE k s) ts ≡ standing OUT budget (made W D table s (take first ts))
  unfolding made runs step
  out_at budget first k s [] e h none b = absurd (omega arith)
  out_at budget zero k s (t ∷ ts) e h (more v vs) b =
      let used : budget ≡ k = omega arith in
      rw (le-ltb k budget (omega arith)) (runs_stopped W D table budget 11 k s ts ∙ ap (λ x. standing OUT x s) (sym used))
  out_at budget (suc first) k s (t ∷ ts) e h (more v vs) b =
      rw (lt-ltb k budget (omega arith), h.work, v)
      (out_at budget first (suc k) _ ts (omega arith) (effect_whole W D len table l t.pass s t.instruction h v) vs (omega arith))

  pub sound_out : (first k : ℕ) (s : State) (ts : List Timed) → Whole W len s → Every (Sound W D len) ts → first < length ts
      → runs W D table (k + first) (standing DONE k s) ts ≡ standing OUT (k + first) (made W D table s (take first ts))
  sound_out first k s ts h v b = out_at (k + first) first k s ts refl h v b
