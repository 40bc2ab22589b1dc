-- The sections of a translated program, run in their passes, leave the plain loop's memory: the code lemma gives what a section
-- stores, the pass lemma what that does to work, and the trace is the passes in their order.
use mathlib.Core.Path.{◌≡◌, refl, ap, ap₂, ◌∙◌}
use mathlib.Core.Bool.{true}
use mathlib.Core.List.{List, [], ◌++◌, foldl-append}
use Prim.Native.Nat.{ℕ, zero, suc, ◌+◌, ◌-◌, ◌*◌, ◌%◌, ◌≤◌, ◌<◌, min}
use native.Mathlib.Nat.{mod-lt}
use native.Mathlib.Omega.{arith}
use lib.ListN.{length}
use Rattle.rules.specs.Trees.{Tree}
use Rattle.rules.specs.PlainLoop.{plain}
use Rattle.rules.specs.Offsets.{root_kept}
use Rattle.rules.specs.Vectors.{vsplice, block_zero, held, loaded, stored}
use Rattle.rules.specs.Machine.{Load, Splice, Store, State, reg, write, effect, effect_as, in_pass, passes, trace}
use Rattle.rules.specs.Code.{G, code, full_vectors, rest_elements, only_section, prologue_section, body_section, epilogue_section, body_of, epilogue_of, sections, program_of}
use Rattle.theory.proofs.Passing.{Loop, Passes}
use Rattle.theory.proofs.Stream.{vec, length_loaded, length_vec}
use Rattle.theory.proofs.Plan.{Upto, upto_unique, upto_start, upto_cast, plain_upto}
use Rattle.theory.proofs.Pass.{Masked, store_block, plan_bytes, pass_new, only_masked, prologue_masked, body_masked, epilogue_masked}
use Rattle.theory.proofs.Coded.{size_pos, depth, block_moved, Coded, coded_cast, write_coded, execs, code_coded}
use Rattle.theory.proofs.Trace.{made, made_append, made_pass}

-- ---- what a section stores

-- a section leaves the work m, and as many registers as it found
pub record Ran (m : List ℕ) (s s' : State) : Type 0 where
  pub work : s'.work ≡ m
  pub count : length s'.regs ≡ length s.regs

module _ (W D S : ℕ) (table : List ℕ) (t : Tree) (hw : 0 < W) (hk : depth t ≤ block_zero W) (j : ℕ) where
  -- the vector that pass j computes, and the block that it finds
  abbrev new : List ℕ → List ℕ
  new work = vec W D work table t (block_zero W + j)

  abbrev old : List ℕ → List ℕ
  old work = loaded W work (store_block W S j)

  store_ran : (x : ℕ) (v m : List ℕ) (s : State) → s.work ≡ m → reg s x ≡ v
      → Ran (stored W m (store_block W S j) v) s (effect W D table j s (Store x (held W S)))
  unfolding effect_as
  store_ran x v m s p q = record { work = rw (block_moved W S (block_zero W) j hw, p, q); count = refl }

  module _ (s : State) (hr : G t + 3 ≤ length s.regs) where
    -- the tree, then the old block
    tree_state : State
    tree_state = execs W D table j s (code W t (block_zero W) 0)

    tree_coded : Coded 0 (G t - 1) (new s.work) s tree_state
    unfolding tree_state
    tree_coded = coded_cast (code_coded W D table j hw t (block_zero W) 0 s hk (omega arith)) (omega arith) refl refl

    open_state : State
    open_state = effect W D table j tree_state (Load (G t) 0 (held W S))

    open_coded : Coded (G t) (G t) (old s.work) tree_state open_state
    unfolding effect_as open_state
    open_coded =
        coded_cast (write_coded (G t) _ tree_state (omega (arith, tree_coded.count))) refl
        (ap₂ (loaded W) tree_coded.work (block_moved W S (block_zero W) j hw)) refl

    open_new : reg open_state (G t - 1) ≡ new s.work
    open_new = open_coded.below (G t - 1) (omega (arith, size_pos t)) ∙ tree_coded.root

    open_count : length open_state.regs ≡ length s.regs
    open_count = open_coded.count ∙ tree_coded.count

    open_work : open_state.work ≡ s.work
    open_work = open_coded.work ∙ tree_coded.work

    ran_from : {m : List ℕ} {s₁ s₂ : State} → length s₁.regs ≡ length s.regs → Ran m s₁ s₂ → Ran m s s₂
    ran_from p r = record { work = r.work; count = r.count ∙ p }

    -- a splice of what is open, stored
    splice_ran : (x y l : ℕ) (u v : List ℕ) → reg open_state x ≡ u → reg open_state y ≡ v
        → Ran (stored W s.work (store_block W S j) (vsplice u v l)) s
        (effect W D table j (effect W D table j open_state (Splice (G t + 1) x y l)) (Store (G t + 1) (held W S)))
    unfolding effect_as
    splice_ran x y l u v p q =
        let w : Coded (G t + 1) (G t + 1) (vsplice (reg open_state x) (reg open_state y) l) open_state _ =
        write_coded (G t + 1) _ open_state (omega (arith, open_count)) in
        ran_from (w.count ∙ open_count)
        (store_ran (G t + 1) _ _ _ (w.work ∙ open_work) (w.root ∙ ap₂ (λ (a b : List ℕ). vsplice a b l) p q))

    pub body_ran : Ran (stored W s.work (store_block W S j) (new s.work)) s (execs W D table j s (body_section W S t))
    unfolding body_section tree_state
    body_ran = rw foldl-append (ran_from tree_coded.count (store_ran (G t - 1) _ _ _ tree_coded.work tree_coded.root))

    pub prologue_ran : Ran (stored W s.work (store_block W S j) (vsplice (old s.work) (new s.work) (S % W))) s
        (execs W D table j s (prologue_section W S t))
    unfolding prologue_section open_state tree_state
    prologue_ran = rw foldl-append (splice_ran (G t) (G t - 1) (S % W) _ _ open_coded.root open_new)

    pub epilogue_ran : (e : ℕ) → Ran (stored W s.work (store_block W S j) (vsplice (new s.work) (old s.work) (e * D))) s
        (execs W D table j s (epilogue_section W S t D e))
    unfolding epilogue_section open_state tree_state
    epilogue_ran e = rw foldl-append (splice_ran (G t - 1) (G t) (e * D) _ _ open_new open_coded.root)

    pub only_ran : (n : ℕ) → Ran (stored W s.work (store_block W S j)
        (vsplice (vsplice (old s.work) (new s.work) (S % W)) (old s.work) (S % W + n * D))) s
        (execs W D table j s (only_section W S t D n))
    unfolding only_section open_state tree_state effect_as
    only_ran n =
        let v₁ : List ℕ = vsplice (reg open_state (G t)) (reg open_state (G t - 1)) (S % W) in
        let s₁ : State = write (G t + 1) v₁ open_state in
        let v₂ : List ℕ = vsplice (reg s₁ (G t + 1)) (reg s₁ (G t)) (S % W + n * D) in
        let w : Coded (G t + 1) (G t + 1) v₁ open_state s₁ = write_coded (G t + 1) v₁ open_state (omega (arith, open_count)) in
        let x : Coded (G t + 2) (G t + 2) v₂ s₁ (write (G t + 2) v₂ s₁) =
        write_coded (G t + 2) v₂ s₁ (omega (arith, open_count, w.count)) in
        rw foldl-append
        (ran_from (x.count ∙ w.count ∙ open_count)
        (store_ran (G t + 2) _ _ _ (x.work ∙ w.work ∙ open_work)
        (x.root ∙ ap₂ (λ (a b : List ℕ). vsplice a b (S % W + n * D))
        (w.root ∙ ap₂ (λ (a b : List ℕ). vsplice a b (S % W)) open_coded.root open_new)
        (w.below (G t) (omega arith) ∙ open_coded.root))))

-- ---- what that does to work

module _ (W D n S : ℕ) (work table : List ℕ) (t : Tree) (c : Loop W D n S work table) (g : Passes W D n S work table t)
    (root : root_kept W S t ≡ true) (hk : depth t ≤ block_zero W) (R : ℕ) (hr : G t + 3 ≤ R) where
  -- a state with R registers whose work holds the first T planned bytes
  record Reached (T : ℕ) (s : State) : Type 0 where
    upto : Upto D S work table t T s.work
    count : length s.regs ≡ R

  -- a section that stores a masked block
  reach : (j T U : ℕ) (s s' : State) (v : List ℕ) → W * j < S % W + n * D → T ≡ W * j - S % W → min (n * D) (W * suc j - S % W) ≡ U
      → Reached T s → Masked W D n S j (loaded W s.work (store_block W S j)) (vec W D s.work table t (block_zero W + j)) v
      → Ran (stored W s.work (store_block W S j) v) s s' → Reached U s'
  reach j T U s s' v h eT eU u k r = record {
    upto = rw r.work
        (upto_cast D S work table t _ U _ eU
        (pass_new W D n S work table t c g root j s.work h (upto_cast D S work table t T _ _ eT u.upto) v k));
    count = r.count ∙ u.count;
  }

  c_w : S % W < W
  c_w = mod-lt S c.vector

  length_old : (s : State) (j : ℕ) → length (loaded W s.work (store_block W S j)) ≡ W
  length_old s j = length_loaded W s.work (store_block W S j)

  length_new : (s : State) (j : ℕ) → length (vec W D s.work table t (block_zero W + j)) ≡ W
  length_new s j = length_vec W D s.work table c.lanes n S work t g (block_zero W + j)

  module _ (s : State) (u : Reached 0 s) where
    only_reached : 0 < n * D → S % W + n * D ≤ W → Reached (n * D) (execs W D table 0 s (only_section W S t D n))
    only_reached z h =
        reach 0 0 (n * D) s _ _ (omega arith) (omega arith) (omega arith) u
        (only_masked W D n S c_w _ _ (length_old s 0) (length_new s 0) h)
        (only_ran W D S table t c.vector hk 0 s (omega (arith, u.count)) n)

    prologue_reached : W ≤ S % W + n * D → Reached (W * 1 - S % W) (execs W D table 0 s (prologue_section W S t))
    prologue_reached h =
        reach 0 0 (W * 1 - S % W) s _ _ (omega (arith, c.vector)) (omega arith) (omega arith) u
        (prologue_masked W D n S c_w _ _ (length_old s 0) (length_new s 0) h)
        (prologue_ran W D S table t c.vector hk 0 s (omega (arith, u.count)))

  -- so many passes of the body from pass j on
  body_reached : (k j : ℕ) (s : State) → W * (suc j + k) ≤ S % W + n * D → Reached (W * suc j - S % W) s
      → Reached (W * (suc j + k) - S % W) (made W D table s (passes k (suc j) (body_section W S t)))
  unfolding passes made
  body_reached zero j s h u = let e : suc j + 0 ≡ suc j = omega arith in rw e u
  body_reached (suc k) j s h u =
      let e : suc j + suc k ≡ suc (suc j) + k = omega arith in
      let p : W * suc (suc j) ≤ S % W + n * D = omega arith in
      rw (e, made_append W D table s (in_pass (suc j) (body_section W S t)), made_pass W D table (suc j) s (body_section W S t))
      (body_reached k (suc j) _ (rw (← e) h)
      (reach (suc j) (W * suc j - S % W) (W * suc (suc j) - S % W) s _ _ (omega (arith, c.vector)) refl (omega arith) u
      (body_masked W D n S c_w j _ _ (length_new s (suc j)) p)
      (body_ran W D S table t c.vector hk (suc j) s (omega (arith, u.count)))))

  epilogue_reached : (f e : ℕ) (s : State) → S % W + n * D ≡ W * suc f + suc e * D → suc e * D < W → Reached (W * suc f - S % W) s
      → Reached (n * D) (execs W D table (suc f) s (epilogue_section W S t D (suc e)))
  epilogue_reached f e s h q u =
      reach (suc f) (W * suc f - S % W) (n * D) s _ _ (omega (arith, c.element)) refl (omega arith) u
      (epilogue_masked W D n S c_w f (suc e * D) _ _ (length_old s (suc f)) (length_new s (suc f)) h (omega arith))
      (epilogue_ran W D S table t c.vector hk (suc f) s (omega (arith, u.count)) (suc e))

  -- ---- the whole trace

  ended_reached : (f e : ℕ) (s : State) → S % W + n * D ≡ W * suc f + e * D → e * D < W → Reached (W * suc f - S % W) s
      → Reached (n * D) (made W D table s (in_pass (suc f) (epilogue_of W D S t e)))
  unfolding in_pass made
  ended_reached f zero s h q u = record { upto = upto_cast D S work table t _ _ _ (omega arith) u.upto; count = u.count }
  ended_reached f (suc e) s h q u =
      rw (made_pass W D table (suc f) s (epilogue_section W S t D (suc e))) (epilogue_reached f e s h q u)

  turned_reached : (f : ℕ) (s : State) → W * suc f ≤ S % W + n * D → Reached (W * 1 - S % W) s
      → Reached (W * suc f - S % W) (made W D table s (passes f 1 (body_of W S t (suc f))))
  unfolding passes made
  turned_reached zero s h u = u
  turned_reached (suc f) s h u =
      let e : 1 + suc f ≡ suc (suc f) = omega arith in
      rw e at (body_reached (suc f) 0 s (rw e h) u)

  full_reached : (f e : ℕ) (s : State) → S % W + n * D ≡ W * suc f + e * D → e * D < W → Reached 0 s
      → Reached (n * D) (made W D table s
      (in_pass 0 (prologue_section W S t) ++ (passes (suc f - 1) 1 (body_of W S t (suc f)) ++ in_pass (suc f) (epilogue_of W D S t e))))
  full_reached f e s h q u =
      let l : suc f - 1 ≡ f = omega arith in
      rw (l, made_append W D table s (in_pass 0 (prologue_section W S t)), made_pass W D table 0 s (prologue_section W S t), made_append W D table _ (passes f 1 (body_of W S t (suc f))))
      (ended_reached f e _ h q (turned_reached f _ (omega arith) (prologue_reached s u (omega arith))))

pub no_passes : (k j : ℕ) → passes k j [] ≡ []
unfolding passes in_pass
no_passes zero j = refl
no_passes (suc k) j = no_passes k (suc j)

-- the trace of a translated program, run from any registers, leaves the plain loop's memory
pub program_plain : (W D n S : ℕ) (work table : List ℕ) (t : Tree) → Loop W D n S work table → Passes W D n S work table t
    → root_kept W S t ≡ true → depth t ≤ block_zero W → (regs : List (List ℕ)) → G t + 3 ≤ length regs
    → (made W D table (record { regs = regs; work = work }) (trace (program_of W D n S t))).work ≡ plain D S work table t n
unfolding program_of sections trace in_pass passes made
program_plain W D n S work table t c g root hk regs hr =
    let q = plan_bytes W D n S work table t c g in
    upto_unique D S work table t (n * D) _ _
    (go n refl (full_vectors W D n S) (rest_elements W D n S) q.0 q.1).upto (plain_upto W D n S work table t c g)
  where
    s : State
    s = record { regs = regs; work = work }

    u : Reached W D n S work table t c g root hk (length regs) hr 0 s
    u = record { upto = upto_start D S work table t; count = refl }

    go : (m : ℕ) → n ≡ m → (F e : ℕ) → S % W + n * D ≡ W * F + e * D → e * D < W
        → Reached W D n S work table t c g root hk (length regs) hr (n * D) (made W D table s (trace (sections W D m S t F e)))
    go zero x F e h q =
        let z : n * D ≡ 0 = omega (arith, ap (λ (i : ℕ). i * D) x) in
        rw (no_passes, z) u
    go (suc m) x zero e h q =
        rw (← x, made_append W D table s (in_pass 0 (only_section W S t D n)), made_pass W D table 0 s (only_section W S t D n))
        (only_reached W D n S work table t c g root hk (length regs) hr s u
        (omega (arith, ap (λ (i : ℕ). i * D) x, c.element)) (omega arith))
    go (suc m) x (suc f) e h q = full_reached W D n S work table t c g root hk (length regs) hr f e s h q u
