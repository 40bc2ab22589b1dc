-- Where a translated program stores: its trace stores into the blocks that hold a byte of the plan, in their order and into each
-- exactly once, and into no other.
use mathlib.Core.Path.{◌≡◌, refl, sym, ap, ◌∙◌}
use mathlib.Core.Bool.{Bool, true, false, cond}
use mathlib.Core.List.{List, [], ◌∷◌, ◌++◌}
use Prim.Native.Nat.{ℕ, zero, suc, ◌+◌, ◌-◌, ◌*◌, ◌/◌, ◌%◌, ◌≤◌, ◌<◌}
use native.Mathlib.Nat.{add-zero, mul-le-mul_left, mul-le-mul_right, mod-lt, div-add-mod, mul-add-div, div-eq_of_lt, lt_of_mul-lt-mul_left}
use native.Mathlib.Omega.{arith}
use lib.Dec.{ltb, eqb}
use Rattle.rules.specs.Trees.{Tree, load, splat, op, shift}
use Rattle.rules.specs.Vectors.{block_zero, held, block_of}
use Rattle.rules.specs.Machine.{store_kind, Pair, Timed, in_pass, passes, trace}
use Rattle.rules.specs.Code.{G, beside, pair_up, code, full_vectors, rest_elements, only_section, prologue_section, body_section, epilogue_section, body_of, epilogue_of, sections, program_of}
use Rattle.rules.specs.declared.program.Instruction.{Instruction}
use Rattle.theory.proofs.Passing.{Loop, Passes}
use Rattle.theory.proofs.Pass.{store_block, plan_bytes}
use Rattle.theory.proofs.Coded.{block_moved}
use Rattle.theory.proofs.Sections.{no_passes}

-- the blocks that a trace stores into, in its order
unfoldable pub stores_of : (W : ℕ) → List Timed → List ℕ
stores_of W [] = []
stores_of W (t ∷ ts) = cond (eqb t.instruction.kind store_kind) (block_of W t.instruction.low t.pass ∷ stores_of W ts) (stores_of W ts)

-- k blocks, one after the other
abbrev pub up_from : ℕ → ℕ → List ℕ
up_from a zero = []
up_from a (suc k) = a ∷ up_from (suc a) k

-- how many blocks hold a byte of the plan
abbrev pub rest_blocks : (e : ℕ) → ℕ
rest_blocks zero = 0
rest_blocks (suc e) = 1

abbrev pub blocks_by : (n F e : ℕ) → ℕ
blocks_by zero F e = 0
blocks_by (suc n) zero e = 1
blocks_by (suc n) (suc f) e = suc f + rest_blocks e

unfoldable pub plan_blocks : (W D n S : ℕ) → ℕ
plan_blocks W D n S = blocks_by n (full_vectors W D n S) (rest_elements W D n S)

-- block b of a program's numbering holds byte x of the plan
pub record HoldsPlan (W D n S b : ℕ) : Type 0 where
  pub byte : ℕ
  pub planned : byte < n * D
  pub held : b ≡ block_zero W + (S + byte) / W

-- ---- what the trace stores

up_from_append : (a k l : ℕ) → up_from a k ++ up_from (a + k) l ≡ up_from a (k + l)
up_from_append a zero l =
    let e : 0 + l ≡ l = omega arith in
    rw (e, add-zero)
up_from_append a (suc k) l =
    let e : suc k + l ≡ suc (k + l) = omega arith in
    let q : a + suc k ≡ suc a + k = omega arith in
    rw (e, q) (ap (λ (r : List ℕ). a ∷ r) (up_from_append (suc a) k l))

module _ (W : ℕ) where
  stores_append : (ts us : List Timed) → stores_of W (ts ++ us) ≡ stores_of W ts ++ stores_of W us
  unfolding stores_of
  stores_append [] us = refl
  stores_append (t ∷ ts) us = go (eqb t.instruction.kind store_kind) (stores_append ts us)
    where
      b : ℕ
      b = block_of W t.instruction.low t.pass

      go : (x : Bool) → stores_of W (ts ++ us) ≡ stores_of W ts ++ stores_of W us
          → cond x (b ∷ stores_of W (ts ++ us)) (stores_of W (ts ++ us)) ≡ cond x (b ∷ stores_of W ts) (stores_of W ts) ++ stores_of W us
      go true e = ap (λ (r : List ℕ). b ∷ r) e
      go false e = e

  abbrev section_stores : ℕ → List Instruction → List ℕ
  section_stores j is = stores_of W (in_pass j is)

  pass_append : (j : ℕ) (is ks : List Instruction) → in_pass j (is ++ ks) ≡ in_pass j is ++ in_pass j ks
  unfolding in_pass
  pass_append j [] ks = refl
  pass_append j (i ∷ is) ks = ap (λ (r : List Timed). record { pass = j; instruction = i } ∷ r) (pass_append j is ks)

  section_append : (j : ℕ) (is ks : List Instruction) → section_stores j (is ++ ks) ≡ section_stores j is ++ section_stores j ks
  section_append j is ks = ap (stores_of W) (pass_append j is ks) ∙ stores_append (in_pass j is) (in_pass j ks)

  pair_stores_nothing : (j f g d x y : ℕ) → section_stores j (pair_up W f g d x y ∷ []) ≡ []
  unfolding stores_of in_pass pair_up
  pair_stores_nothing j f g d x y = go (ltb g f)
    where
      go : (b : Bool) → section_stores j (cond b (Pair d x y (f - g)) (Pair d y x (W - (g - f))) ∷ []) ≡ []
      go true = refl
      go false = refl

  -- the code of a tree stores nothing
  code_stores_nothing : (j : ℕ) (t : Tree) (k r : ℕ) → section_stores j (code W t k r) ≡ []
  unfolding code stores_of in_pass
  code_stores_nothing j (load w a) k r = refl
  code_stores_nothing j (splat v) k r = refl
  code_stores_nothing j (op o s t) k r =
      rw (section_append j (code W s k r), code_stores_nothing j s k r, section_append j (code W t k (r + G s)), code_stores_nothing j t k (r + G s))
  code_stores_nothing j (shift f g t) k r =
      rw (section_append j (code W t k r), code_stores_nothing j t k r, section_append j (code W t (beside f g k) (r + G t)), code_stores_nothing j t (beside f g k) (r + G t))
      (pair_stores_nothing j f g _ _ _)

  module _ (S : ℕ) (t : Tree) (hw : 0 < W) (j : ℕ) where
    -- after its code a section stores once, in pass j's block
    stores_once : (rest : List Instruction) → section_stores j rest ≡ block_of W (held W S) j ∷ []
        → section_stores j (code W t (block_zero W) 0 ++ rest) ≡ store_block W S j ∷ []
    stores_once rest e =
        section_append j (code W t (block_zero W) 0) rest
        ∙ rw (code_stores_nothing j t (block_zero W) 0) (e ∙ ap (λ (b : ℕ). b ∷ []) (block_moved W S (block_zero W) j hw))

    only_stores : (D n : ℕ) → section_stores j (only_section W S t D n) ≡ store_block W S j ∷ []
    unfolding only_section stores_of in_pass
    only_stores D n = stores_once _ refl

    prologue_stores : section_stores j (prologue_section W S t) ≡ store_block W S j ∷ []
    unfolding prologue_section stores_of in_pass
    prologue_stores = stores_once _ refl

    body_stores : section_stores j (body_section W S t) ≡ store_block W S j ∷ []
    unfolding body_section stores_of in_pass
    body_stores = stores_once _ refl

    epilogue_stores : (D e : ℕ) → section_stores j (epilogue_of W D S t e) ≡ up_from (store_block W S j) (rest_blocks e)
    unfolding epilogue_section stores_of in_pass
    epilogue_stores D zero = refl
    epilogue_stores D (suc e) = stores_once _ refl

  module _ (S : ℕ) (t : Tree) (hw : 0 < W) where
    passes_store : (k j : ℕ) → stores_of W (passes k j (body_section W S t)) ≡ up_from (store_block W S j) k
    unfolding passes stores_of
    passes_store zero j = refl
    passes_store (suc k) j =
        let e : S / W + (block_zero W + suc j) ≡ suc (S / W + (block_zero W + j)) = omega arith in
        rw (stores_append (in_pass j (body_section W S t)), body_stores S t hw j, passes_store k (suc j), e)

    turns_store : (f : ℕ) → stores_of W (passes f 1 (body_of W S t (suc f))) ≡ up_from (store_block W S 1) f
    unfolding passes stores_of
    turns_store zero = refl
    turns_store (suc f) = passes_store (suc f) 1

    sections_store : (D n F e : ℕ) → stores_of W (trace (sections W D n S t F e)) ≡ up_from (store_block W S 0) (blocks_by n F e)
    unfolding sections trace
    sections_store D zero F e = unfold in_pass stores_of in (rw no_passes)
    sections_store D (suc n) zero e =
        rw (stores_append (in_pass 0 (only_section W S t D (suc n))), only_stores S t hw 0 D (suc n))
        (unfold in_pass passes stores_of in refl)
    sections_store D (suc n) (suc f) e =
        let l : suc f - 1 ≡ f = omega arith in
        let p : S / W + (block_zero W + 1) ≡ suc (S / W + (block_zero W + 0)) = omega arith in
        let q : S / W + (block_zero W + suc f) ≡ suc (S / W + (block_zero W + 0)) + f = omega arith in
        let z : suc f + rest_blocks e ≡ suc (f + rest_blocks e) = omega arith in
        rw (l, z, stores_append (in_pass 0 (prologue_section W S t)), prologue_stores S t hw 0, stores_append (passes f 1 (body_of W S t (suc f))), turns_store f, epilogue_stores S t hw (suc f) D e, p, q)
        (ap (λ (r : List ℕ). store_block W S 0 ∷ r) (up_from_append (suc (S / W + (block_zero W + 0))) f (rest_blocks e)))

-- the stores, in their order
pub program_stores : (W D n S : ℕ) (t : Tree) → 0 < W
    → stores_of W (trace (program_of W D n S t)) ≡ up_from (store_block W S 0) (plan_blocks W D n S)
unfolding program_of plan_blocks
program_stores W D n S t hw = sections_store W S t hw D n (full_vectors W D n S) (rest_elements W D n S)

-- ---- those are the blocks that hold a byte of the plan

module _ (W D n S : ℕ) (work table : List ℕ) (t : Tree) (c : Loop W D n S work table) (g : Passes W D n S work table t) where
  -- block i of the stream has a byte of the plan, and the last one its end
  blocks_low : (m F e i : ℕ) → n ≡ m → S % W + n * D ≡ W * F + e * D → i < blocks_by m F e → W * i < S % W + n * D
  blocks_low zero F e i x h l = absurd (omega arith)
  blocks_low (suc m) zero e i x h l =
      let z : i ≡ 0 = omega arith in
      rw z (omega (arith, ap (λ (y : ℕ). y * D) x, c.element))
  blocks_low (suc m) (suc f) zero i x h l =
      let k : suc i ≤ suc f = omega arith in
      omega (arith, mul-le-mul_left W k, c.vector)
  blocks_low (suc m) (suc f) (suc e) i x h l =
      let k : i ≤ suc f = omega arith in
      omega (arith, mul-le-mul_left W k, c.element)

  blocks_high : (m F e : ℕ) → n ≡ m → 0 < n → S % W + n * D ≡ W * F + e * D → e * D < W → S % W + n * D ≤ W * blocks_by m F e
  blocks_high zero F e x z h q = absurd (omega arith)
  blocks_high (suc m) zero e x z h q = omega arith
  blocks_high (suc m) (suc f) zero x z h q = let k : suc f + 0 ≡ suc f = omega arith in rw k (omega arith)
  blocks_high (suc m) (suc f) (suc e) x z h q = let k : suc f + 1 ≡ suc (suc f) = omega arith in rw k (omega arith)

  -- where byte x of the plan stands
  byte_block : (i x y : ℕ) → S % W + x ≡ W * i + y → y < W → (S + x) / W ≡ S / W + i
  byte_block i x y e h =
      let p : S + x ≡ W * (S / W + i) + y = omega (arith, div-add-mod S W) in
      ap (λ (z : ℕ). z / W) p ∙ mul-add-div c.vector (S / W + i) y ∙ ap (λ (z : ℕ). S / W + i + z) (div-eq_of_lt h) ∙ add-zero (S / W + i)

  first_byte : (i : ℕ) → W * i < S % W + n * D → 0 < n → HoldsPlan W D n S (store_block W S i)
  first_byte zero h z = record {
    byte = 0;
    planned = omega (arith, mul-le-mul_right D z, c.element);
    held = let e : (S + 0) / W ≡ S / W + 0 = byte_block 0 0 (S % W) (omega arith) (mod-lt S c.vector) in rw e (omega arith);
  }
  first_byte (suc i) h z =
      let l : S % W < W = mod-lt S c.vector in
      record {
        byte = W * suc i - S % W;
        planned = omega arith;
        held = let e : (S + (W * suc i - S % W)) / W ≡ S / W + suc i = byte_block (suc i) (W * suc i - S % W) 0 (omega arith) c.vector in
            rw e (omega arith);
      }

  pos_of : (i m F e : ℕ) → n ≡ m → i < blocks_by m F e → 0 < n
  pos_of i zero F e x h = absurd (omega arith)
  pos_of i (suc m) F e x h = omega arith

  -- each store goes to a block that holds a byte of the plan
  pub stored_holds_plan : (i : ℕ) → i < plan_blocks W D n S → HoldsPlan W D n S (store_block W S i)
  unfolding plan_blocks
  stored_holds_plan i h =
      let q = plan_bytes W D n S work table t c g in
      first_byte i (blocks_low n _ _ i refl q.0 h) (pos_of i n _ _ refl h)

  some_elements : (x m : ℕ) → n ≡ m → x < n * D → 0 < n
  some_elements x zero e h = absurd (omega (arith, ap (λ (y : ℕ). y * D) e))
  some_elements x (suc m) e h = omega arith

  -- and each block that holds one is among them
  pub plan_is_stored : (b : ℕ) → HoldsPlan W D n S b → (i : ℕ) × (i < plan_blocks W D n S) × (b ≡ store_block W S i)
  unfolding plan_blocks
  plan_is_stored b h =
      let q = plan_bytes W D n S work table t c g in
      let x : ℕ = h.byte in
      let i : ℕ = (S % W + x) / W in
      let d : W * i + (S % W + x) % W ≡ S % W + x = div-add-mod (S % W + x) W in
      let e : (S + x) / W ≡ S / W + i = byte_block i x ((S % W + x) % W) (sym d) (mod-lt (S % W + x) c.vector) in
      let k : S % W + n * D ≤ W * blocks_by n (full_vectors W D n S) (rest_elements W D n S) =
      blocks_high n _ _ refl (some_elements x n refl h.planned) q.0 q.1 in
      (i, lt_of_mul-lt-mul_left W (omega (arith, h.planned)), h.held ∙ rw e (omega arith))
