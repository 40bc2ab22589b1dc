-- A translated program: its trace has exactly the formula's instructions, instruction k of a section writes register k, and every
-- instruction is sound in its pass, whatever the windows hold.
use mathlib.Core.Path.{◌≡◌, refl, sym, ap, ◌∙◌}
use mathlib.Core.Bool.{Bool, true, false, cond}
use mathlib.Core.List.{List, [], ◌∷◌, ◌++◌, append_assoc}
use Prim.Native.Nat.{ℕ, zero, suc, ◌+◌, ◌-◌, ◌*◌, ◌/◌, ◌%◌, ◌≤◌, ◌<◌}
use native.Mathlib.Nat.{zero-add, mul-le-mul_left, mod-lt}
use native.Mathlib.Omega.{arith}
use borrow.Author.Tests.{lt-ltb, le-leb, ltb-false}
use lib.Dec.{ltb}
use lib.ListN.{length, length-append}
use Rattle.rules.specs.Limits.{registers, windows, operations, low_values, long_most}
use Rattle.rules.specs.Elements.{modulus}
use Rattle.rules.specs.Trees.{Tree, load, splat, op, shift}
use Rattle.rules.specs.Vectors.{block_zero, held, inside}
use Rattle.rules.specs.Machine.{Load, Splat, Op, Pair, Splice, Store, fields_as, reaches_as, sound, in_pass, passes, trace}
use Rattle.rules.specs.Code.{G, beside, pair_up, code, full_vectors, rest_elements, only_section, prologue_section, body_section, epilogue_section, body_of, epilogue_of, sections, program_of, epilogue_steps, steps_by, steps_of}
use Rattle.rules.specs.declared.program.Instruction.{Instruction}
use Rattle.theory.proofs.Lists.{Every, none, more, every_append}
use Rattle.theory.proofs.Passing.{Loop, Passes}
use Rattle.theory.proofs.Pass.{block_inside, plan_bytes}
use Rattle.theory.proofs.Coded.{block_moved, splat_value_lem, length_code}
use Rattle.theory.proofs.Trace.{length_trace}
use Rattle.theory.proofs.Sound.{Sound, every_pass, every_passes}
use Rattle.theory.proofs.Sections.{no_passes}

-- ---- the formula

module _ (W S : ℕ) (t : Tree) where
  pub length_only : (D n : ℕ) → length (only_section W S t D n) ≡ G t + 4
  unfolding only_section
  length_only D n = simp (length-append, length_code)

  pub length_prologue : length (prologue_section W S t) ≡ G t + 3
  unfolding prologue_section
  length_prologue = simp (length-append, length_code)

  pub length_body : (F : ℕ) → length (body_of W S t F) ≤ G t + 1
  unfolding body_section
  length_body zero = omega arith
  length_body (suc zero) = omega arith
  length_body (suc (suc f)) = simp (length-append, length_code) (omega arith)

  -- the body's section is there only where it has a turn
  length_turns : (f : ℕ) → f * length (body_of W S t (suc f)) ≡ f * (G t + 1)
  unfolding body_section
  length_turns zero = omega arith
  length_turns (suc f) = simp (length-append, length_code)

  pub length_epilogue : (D e : ℕ) → length (epilogue_of W D S t e) ≡ epilogue_steps (G t) e
  unfolding epilogue_section
  length_epilogue D zero = refl
  length_epilogue D (suc e) = simp (length-append, length_code)

  length_sections : (D n F e : ℕ) → length (trace (sections W D n S t F e)) ≡ steps_by (G t) n F e
  unfolding sections
  length_sections D zero F e = length_trace _ ∙ omega arith
  length_sections D (suc n) zero e = length_trace _ ∙ omega (arith, length_only D (suc n))
  length_sections D (suc n) (suc f) e =
      let l : suc f - 1 ≡ f = omega arith in
      length_trace _ ∙ rw l (omega (arith, length_prologue, length_turns f, length_epilogue D e))

pub length_program : (W D n S : ℕ) (t : Tree) → length (trace (program_of W D n S t)) ≡ steps_of W D n S t
unfolding program_of steps_of
length_program W D n S t = length_sections W S t D n (full_vectors W D n S) (rest_elements W D n S)

-- ---- "instruction k of a translated section, from 0, writes register k, and a store writes none"

-- instructions that write the registers from r on, one each
abbrev pub Numbered : ℕ → List Instruction → Type 0
Numbered r [] = Unit {0}
Numbered r (i ∷ is) = (i.destination ≡ r) × Numbered (suc r) is

numbered_append : (r : ℕ) (is ks : List Instruction) → Numbered r is → Numbered (r + length is) ks → Numbered r (is ++ ks)
numbered_append r [] ks h k = let e : r + 0 ≡ r = omega arith in rw e at k
numbered_append r (i ∷ is) ks h k =
    let e : r + suc (length is) ≡ suc r + length is = omega arith in
    (h.0, numbered_append (suc r) is ks h.1 (rw e at k))

pair_up_destination : (W f g d x y : ℕ) → (pair_up W f g d x y).destination ≡ d
unfolding pair_up
pair_up_destination W f g d x y = go (ltb g f)
  where
    go : (b : Bool) → (cond b (Pair d x y (f - g)) (Pair d y x (W - (g - f)))).destination ≡ d
    go true = refl
    go false = refl

code_numbered : (W : ℕ) (t : Tree) (k r : ℕ) → Numbered r (code W t k r)
unfolding code
code_numbered W (load w a) k r = (refl, tt)
code_numbered W (splat v) k r = (refl, tt)
code_numbered W (op o s t) k r =
    numbered_append r (code W s k r) _ (code_numbered W s k r)
    (rw (length_code W s k r)
    (numbered_append (r + G s) (code W t k (r + G s)) _ (code_numbered W t k (r + G s)) (rw (length_code W t k (r + G s)) (refl, tt))))
code_numbered W (shift f g t) k r =
    numbered_append r (code W t k r) _ (code_numbered W t k r)
    (rw (length_code W t k r)
    (numbered_append (r + G t) (code W t (beside f g k) (r + G t)) _ (code_numbered W t (beside f g k) (r + G t))
    (rw (length_code W t (beside f g k) (r + G t)) (pair_up_destination W f g _ _ _, tt))))

-- a section is instructions that do, and then one store
pub record NumberedSection (is : List Instruction) : Type 0 where
  pub writes : List Instruction
  pub source : ℕ
  pub address : ℕ
  pub parts : is ≡ writes ++ (Store source address ∷ [])
  pub numbered : Numbered 0 writes

module _ (W S : ℕ) (t : Tree) where
  then_store : (rest : List Instruction) (x : ℕ) → Numbered (G t) rest
      → NumberedSection (code W t (block_zero W) 0 ++ (rest ++ (Store x (held W S) ∷ [])))
  then_store rest x h = record {
    writes = code W t (block_zero W) 0 ++ rest;
    source = x;
    address = held W S;
    parts = sym (append_assoc (code W t (block_zero W) 0) rest _);
    numbered =
        numbered_append 0 (code W t (block_zero W) 0) rest (code_numbered W t (block_zero W) 0)
        (rw (length_code W t (block_zero W) 0, zero-add) h);
  }

  pub only_numbered : (D n : ℕ) → NumberedSection (only_section W S t D n)
  unfolding only_section
  only_numbered D n = then_store (_ ∷ _ ∷ _ ∷ []) (G t + 2) (refl, (omega arith, (omega arith, tt)))

  pub prologue_numbered : NumberedSection (prologue_section W S t)
  unfolding prologue_section
  prologue_numbered = then_store (_ ∷ _ ∷ []) (G t + 1) (refl, (omega arith, tt))

  pub body_numbered : NumberedSection (body_section W S t)
  unfolding body_section
  body_numbered = then_store [] (G t - 1) tt

  pub epilogue_numbered : (D e : ℕ) → NumberedSection (epilogue_section W S t D e)
  unfolding epilogue_section
  epilogue_numbered D e = then_store (_ ∷ _ ∷ []) (G t + 1) (refl, (omega arith, tt))

-- ---- soundness

module _ (W D len j : ℕ) where
  abbrev AllSound : List Instruction → Type 0
  AllSound is = Every (λ i. sound W D len j i ≡ true) is

  sound_load : (d w a : ℕ) → d < registers → w < windows → sound W D len j (Load d w a) ≡ true
  unfolding fields_as reaches_as
  sound_load d w a hd hw = rw (lt-ltb d registers hd, lt-ltb w windows hw)

  sound_splat : (d v : ℕ) → d < registers → v < modulus D → sound W D len j (Splat d (v % low_values) (v / low_values)) ≡ true
  unfolding fields_as reaches_as
  sound_splat d v hd hv = rw (lt-ltb d registers hd, splat_value_lem d v, lt-ltb v (modulus D) hv)

  sound_op : (d o x y : ℕ) → d < registers → x < registers → y < registers → o < operations → sound W D len j (Op d o x y) ≡ true
  unfolding fields_as reaches_as
  sound_op d o x y hd hx hy ho = rw (lt-ltb d registers hd, lt-ltb x registers hx, lt-ltb y registers hy, lt-ltb o operations ho)

  sound_pair : (d x y l : ℕ) → d < registers → x < registers → y < registers → l < W → sound W D len j (Pair d x y l) ≡ true
  unfolding fields_as reaches_as
  sound_pair d x y l hd hx hy hl = rw (lt-ltb d registers hd, lt-ltb x registers hx, lt-ltb y registers hy, lt-ltb l W hl)

  sound_splice : (d x y l : ℕ) → d < registers → x < registers → y < registers → l ≤ W → sound W D len j (Splice d x y l) ≡ true
  unfolding fields_as reaches_as
  sound_splice d x y l hd hx hy hl = rw (lt-ltb d registers hd, lt-ltb x registers hx, lt-ltb y registers hy, le-leb l W hl)

  sound_pair_up : (f g d x y : ℕ) → f < W → g < W → (f ≡ g → ⊥) → d < registers → x < registers → y < registers
      → sound W D len j (pair_up W f g d x y) ≡ true
  unfolding pair_up
  sound_pair_up f g d x y hf hg ne hd hx hy = go (ltb g f) refl
    where
      go : (b : Bool) → ltb g f ≡ b → sound W D len j (cond b (Pair d x y (f - g)) (Pair d y x (W - (g - f)))) ≡ true
      go true e = sound_pair d x y (f - g) hd hx hy (omega arith)
      go false e = sound_pair d y x (W - (g - f)) hd hy hx (omega (arith, ltb-false g f e, ne))

  code_sound : (n S : ℕ) (work table : List ℕ) (t : Tree) → Passes W D n S work table t → (k r : ℕ) → r + G t ≤ registers
      → AllSound (code W t k r)
  unfolding code
  code_sound n S work table (load w a) g k r h = more (sound_load r w _ (omega arith) g.small) none
  code_sound n S work table (splat v) g k r h = more (sound_splat r v (omega arith) g) none
  code_sound n S work table (op o p q) g k r h =
      every_append (code_sound n S work table p g.0 k r (omega arith))
      (every_append (code_sound n S work table q g.1 k (r + G p) (omega arith))
      (more (sound_op _ o _ _ (omega arith) (omega arith) (omega arith) g.3) none))
  code_sound n S work table (shift f i t) g k r h =
      every_append (code_sound n S work table t g.1 k r (omega arith))
      (every_append (code_sound n S work table t g.1 (beside f i k) (r + G t) (omega arith))
      (more (sound_pair_up f i _ _ _ g.0.from_small g.0.to_small g.0.differ (omega arith) (omega arith) (omega arith)) none))

module _ (W D n S : ℕ) (work table : List ℕ) (t : Tree) (c : Loop W D n S work table) (g : Passes W D n S work table t) (hr : G t ≤ long_most) where
  module _ (j : ℕ) (h : W * j < S % W + n * D) where
    store_sound : (x : ℕ) → x < registers → sound W D (length work) j (Store x (held W S)) ≡ true
    unfolding fields_as reaches_as inside
    store_sound x hx =
        let q : S / W + (block_zero W + j) - block_zero W ≡ S / W + j = omega arith in
        rw (
          block_moved W S (block_zero W) j c.vector,
          q,
          le-leb (block_zero W) (S / W + (block_zero W + j)) (omega arith),
          le-leb (W * (S / W + j) + W) (length work) (block_inside W D n S work table t c g j work refl h),
          lt-ltb x registers hx,
        )

    new_sound : AllSound W D (length work) j (code W t (block_zero W) 0)
    new_sound = code_sound W D (length work) j n S work table t g (block_zero W) 0 (omega arith)

    old_sound : sound W D (length work) j (Load (G t) 0 (held W S)) ≡ true
    old_sound = sound_load W D (length work) j (G t) 0 (held W S) (omega arith) (omega arith)

    spliced_sound : (x y l : ℕ) → x < registers → y < registers → l ≤ W
        → sound W D (length work) j (Splice (G t + 1) x y l) ≡ true
    spliced_sound x y l hx hy hl = sound_splice W D (length work) j (G t + 1) x y l (omega arith) hx hy hl

    only_sound : S % W + n * D ≤ W → AllSound W D (length work) j (only_section W S t D n)
    unfolding only_section
    only_sound q = every_append new_sound
        (more old_sound
        (more (spliced_sound _ _ _ (omega arith) (omega arith) (omega arith))
        (more (sound_splice W D (length work) j _ _ _ _ (omega arith) (omega arith) (omega arith) q)
        (more (store_sound _ (omega arith)) none))))

    prologue_sound : AllSound W D (length work) j (prologue_section W S t)
    unfolding prologue_section
    prologue_sound = every_append new_sound
        (more old_sound
        (more (spliced_sound _ _ _ (omega arith) (omega arith) (omega (arith, mod-lt S c.vector))) (more (store_sound _ (omega arith)) none)))

    body_sound : AllSound W D (length work) j (body_section W S t)
    unfolding body_section
    body_sound = every_append new_sound (more (store_sound _ (omega arith)) none)

    epilogue_sound : (e : ℕ) → e * D ≤ W → AllSound W D (length work) j (epilogue_section W S t D e)
    unfolding epilogue_section
    epilogue_sound e q = every_append new_sound
        (more old_sound (more (spliced_sound _ _ _ (omega arith) (omega arith) q) (more (store_sound _ (omega arith)) none)))

  -- passes 1 to F - 1 store whole blocks of the plan
  turns_sound : (f e : ℕ) → S % W + n * D ≡ W * suc f + e * D → Every (Sound W D (length work)) (passes f 1 (body_of W S t (suc f)))
  turns_sound zero e q = every_passes W D (length work) 0 1 [] (λ i l. none)
  turns_sound (suc f) e q = every_passes W D (length work) (suc f) 1 (body_section W S t)
      (λ i l. body_sound (1 + i) (omega (arith, mul-le-mul_left W l, c.vector)))

  ending_sound : (f e : ℕ) → S % W + n * D ≡ W * suc f + e * D → e * D < W
      → Every (Sound W D (length work)) (in_pass (suc f) (epilogue_of W D S t e))
  unfolding in_pass
  ending_sound f zero q z = none
  ending_sound f (suc e) q z = every_pass W D (length work) (suc f) (epilogue_sound (suc f) (omega (arith, c.element)) (suc e) (omega arith))

-- no instruction of a translated program is ever a fault
pub program_sound : (W D n S : ℕ) (work table : List ℕ) (t : Tree) → Loop W D n S work table → Passes W D n S work table t → G t ≤ long_most
    → Every (Sound W D (length work)) (trace (program_of W D n S t))
unfolding program_of sections trace in_pass
program_sound W D n S work table t c g hr =
    let q = plan_bytes W D n S work table t c g in
    go n refl (full_vectors W D n S) (rest_elements W D n S) q.0 q.1
  where
    go : (m : ℕ) → n ≡ m → (F e : ℕ) → S % W + n * D ≡ W * F + e * D → e * D < W
        → Every (Sound W D (length work)) (trace (sections W D m S t F e))
    go zero x F e h z = rw no_passes none
    go (suc m) x zero e h z =
        rw (← x)
        (every_append
        (every_pass W D (length work) 0
        (only_sound W D n S work table t c g hr 0 (omega (arith, ap (λ (i : ℕ). i * D) x, c.element)) (omega arith)))
        (rw no_passes none))
    go (suc m) x (suc f) e h z =
        let l : suc f - 1 ≡ f = omega arith in
        rw l
        (every_append
        (every_pass W D (length work) 0 (prologue_sound W D n S work table t c g hr 0 (omega (arith, c.vector))))
        (every_append (turns_sound W D n S work table t c g hr f e h) (ending_sound W D n S work table t c g hr f e h z)))
