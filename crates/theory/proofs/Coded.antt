-- The code lemma. The code of a tree from register r on leaves the tree's vector in register r + G - 1, and touches no register
-- below r and no memory.
use mathlib.Core.Path.{◌≡◌, refl, sym, ap, ap₂, ◌∙◌}
use mathlib.Core.Bool.{Bool, true, false, cond}
use mathlib.Core.List.{List, [], ◌∷◌, ◌++◌, foldl, foldl-append}
use Prim.Native.Nat.{ℕ, ◌+◌, ◌-◌, ◌*◌, ◌/◌, ◌%◌, ◌≤◌, ◌<◌}
use native.Mathlib.Nat.{add-mul-div_left, mod-add-div}
use native.Mathlib.Omega.{arith}
use lib.Dec.{ltb}
use lib.ListN.{length, length-set, length-append}
use lib.Seq.{get_or-set_same, get_or-set_other}
use Rattle.rules.specs.Limits.{low_values}
use Rattle.rules.specs.Trees.{Tree, load, splat, op, shift}
use Rattle.rules.specs.PlainLoop.{window}
use Rattle.rules.specs.Vectors.{vsplat, vop, vshiftpair, loaded, block_of}
use Rattle.rules.specs.Machine.{Pair, Splat, splat_value, State, reg, write, effect, effect_as}
use Rattle.rules.specs.Code.{G, beside, pair_up, code}
use Rattle.rules.specs.declared.program.Instruction.{Instruction}
use Rattle.theory.proofs.Stream.{paired, vec}

pub size_pos : (t : Tree) → 0 < G t
size_pos (load w a) = omega arith
size_pos (splat v) = omega arith
size_pos (op o s t) = omega arith
size_pos (shift f g t) = omega arith

pub length_code : (W : ℕ) (t : Tree) (k r : ℕ) → length (code W t k r) ≡ G t
unfolding code
length_code W (load w a) k r = refl
length_code W (splat v) k r = refl
length_code W (op o s t) k r = simp (length-append, length_code W s, length_code W t) (omega arith)
length_code W (shift f g t) k r = simp (length-append, length_code W t) (omega arith)

-- how many blocks below its own a tree may read
abbrev pub depth : Tree → ℕ
depth (load w a) = 0
depth (splat v) = 0
depth (op o s t) = depth s + depth t
depth (shift f g t) = depth t + 1

pub depth_le_size : (t : Tree) → depth t ≤ G t
depth_le_size (load w a) = omega arith
depth_le_size (splat v) = omega arith
depth_le_size (op o s t) = omega (arith, depth_le_size s, depth_le_size t)
depth_le_size (shift f g t) = omega (arith, depth_le_size t)

-- the copy beside, in blocks: moving by whole vectors and going on by a pass commute
beside_add : (f g k j : ℕ) → 1 ≤ k → beside f g k + j ≡ beside f g (k + j)
unfolding beside
beside_add f g k j h = go (ltb g f)
  where
    go : (x : Bool) → cond x (k + 1) (k - 1) + j ≡ cond x (k + j + 1) (k + j - 1)
    go true = omega arith
    go false = omega arith

beside_deep : (f g k d : ℕ) → d + 1 ≤ k → d ≤ beside f g k
unfolding beside
beside_deep f g k d h = go (ltb g f)
  where
    go : (x : Bool) → d ≤ cond x (k + 1) (k - 1)
    go true = omega arith
    go false = omega arith

-- an address that is moved by k vectors, in pass j
pub block_moved : (W a k j : ℕ) → 0 < W → block_of W (a + W * k) j ≡ a / W + (k + j)
block_moved W a k j h = ap (λ (x : ℕ). x / W) (omega arith) ∙ add-mul-div_left a (k + j) h

pub splat_value_lem : (d v : ℕ) → splat_value (Splat d (v % low_values) (v / low_values)) ≡ v
splat_value_lem d v = mod-add-div v (low_values)

-- from s to s' only registers from r on have changed, and register x holds v
pub record Coded (r x : ℕ) (v : List ℕ) (s s' : State) : Type 0 where
  pub work : s'.work ≡ s.work
  pub count : length s'.regs ≡ length s.regs
  pub below : (i : ℕ) → i < r → reg s' i ≡ reg s i
  pub root : reg s' x ≡ v

pub coded_cast : {r x y : ℕ} {u v : List ℕ} {s s₁ s₂ : State} → Coded r x u s s₁ → x ≡ y → u ≡ v → s₁ ≡ s₂ → Coded r y v s s₂
coded_cast {r} {x} {y} {u} {v} {s} {s₁} {s₂} a p q e = rw (← p, ← q, ← e) a

-- one write
pub write_coded : (r : ℕ) (v : List ℕ) (s : State) → r < length s.regs → Coded r r v s (write r v s)
write_coded r v s h = record {
  work = refl;
  count = length-set s.regs r v;
  below = λ i l. get_or-set_other s.regs r i v [] (omega arith);
  root = get_or-set_same s.regs r v [] h;
}

-- two values, and one write that joins them
join_coded : (f : List ℕ → List ℕ → List ℕ) {r x q y : ℕ} {u v : List ℕ} {s s₁ s₂ : State} (z : ℕ) → Coded r x u s s₁ → Coded q y v s₁ s₂
    → r ≤ q → x < q → q ≤ z → z < length s.regs → Coded r z (f u v) s (write z (f (reg s₂ x) (reg s₂ y)) s₂)
join_coded f {r} {x} {q} {y} {u} {v} {s} {s₁} {s₂} z a b h hx hz l = record {
  work = b.work ∙ a.work;
  count = length-set s₂.regs z _ ∙ b.count ∙ a.count;
  below = λ i k. get_or-set_other s₂.regs z i _ [] (omega arith) ∙ b.below i (omega arith) ∙ a.below i k;
  root = get_or-set_same s₂.regs z _ [] (omega (arith, a.count, b.count)) ∙ ap₂ f (b.below x hx ∙ a.root) b.root;
}

module _ (W D : ℕ) (table : List ℕ) (j : ℕ) where
  -- straight-line code in pass j
  abbrev pub execs : State → List Instruction → State
  execs s is = foldl (effect W D table j) s is

  -- the code of t does what is said of it, from any register and at any address that leaves room below
  abbrev pub Codes : Tree → Type 0
  Codes t = (k r : ℕ) (s : State) → depth t ≤ k → r + G t ≤ length s.regs
      → Coded r (r + G t - 1) (vec W D s.work table t (k + j)) s (execs s (code W t k r))

  -- two codes, and an instruction that joins their values
  two_coded : (p q : Tree) → Codes p → Codes q → (f : List ℕ → List ℕ → List ℕ) (k l r : ℕ) (s : State) (i : Instruction)
      → ((s' : State) → effect W D table j s' i ≡ write (r + G p + G q) (f (reg s' (r + G p - 1)) (reg s' (r + G p + G q - 1))) s')
      → depth p ≤ k → depth q ≤ l → r + G p + G q < length s.regs
      → Coded r (r + G p + G q) (f (vec W D s.work table p (k + j)) (vec W D s.work table q (l + j))) s
      (execs s (code W p k r ++ (code W q l (r + G p) ++ (i ∷ []))))
  two_coded p q cp cq f k l r s i e hk hl hr =
      let s₁ : State = execs s (code W p k r) in
      let s₂ : State = execs s₁ (code W q l (r + G p)) in
      let a : Coded r (r + G p - 1) (vec W D s.work table p (k + j)) s s₁ = cp k r s hk (omega arith) in
      let b : Coded (r + G p) (r + G p + G q - 1) (vec W D s₁.work table q (l + j)) s₁ s₂ =
      cq l (r + G p) s₁ hl (omega (arith, a.count)) in
      coded_cast (join_coded f (r + G p + G q) a b (omega arith) (omega (arith, size_pos p)) (omega arith) hr)
      refl (ap (λ (w : List ℕ). f (vec W D s.work table p (k + j)) (vec W D w table q (l + j))) a.work)
      (sym (foldl-append (effect W D table j) s (code W p k r) (code W q l (r + G p) ++ (i ∷ []))
      ∙ foldl-append (effect W D table j) s₁ (code W q l (r + G p)) (i ∷ []) ∙ e s₂))

  pair_effect : (f g d x y : ℕ) (s : State) → effect W D table j s (pair_up W f g d x y) ≡ write d (paired W f g (reg s x) (reg s y)) s
  unfolding effect_as pair_up paired
  pair_effect f g d x y s = go (ltb g f)
    where
      go : (b : Bool) → effect W D table j s (cond b (Pair d x y (f - g)) (Pair d y x (W - (g - f))))
          ≡ write d (cond b (vshiftpair W (reg s x) (reg s y) (f - g)) (vshiftpair W (reg s y) (reg s x) (W - (g - f)))) s
      go true = refl
      go false = refl

  -- THE CODE LEMMA
  pub code_coded : 0 < W → (t : Tree) → Codes t
  unfolding effect_as code vec
  code_coded hw (load w a) k r s hk hr =
      coded_cast (write_coded r _ s (omega arith)) (omega arith) (ap (loaded W (window w s.work table)) (block_moved W a k j hw)) refl
  code_coded hw (splat v) k r s hk hr =
      coded_cast (write_coded r _ s (omega arith)) (omega arith) (ap (vsplat W D) (splat_value_lem r v)) refl
  code_coded hw (op o p q) k r s hk hr =
      coded_cast
      (two_coded p q (code_coded hw p) (code_coded hw q) (vop W D o) k k r s _ (λ s'. refl) (omega arith) (omega arith) (omega arith))
      (omega arith) refl refl
  code_coded hw (shift f g t) k r s hk hr =
      coded_cast
      (two_coded t t (code_coded hw t) (code_coded hw t) (paired W f g) k (beside f g k) r s _ (pair_effect f g _ _ _)
      (omega arith) (beside_deep f g k (depth t) (omega arith)) (omega arith))
      (omega arith)
      (ap (λ (i : ℕ). paired W f g (vec W D s.work table t (k + j)) (vec W D s.work table t i)) (beside_add f g k j (omega arith)))
      refl
