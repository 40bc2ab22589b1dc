-- Counting offsets row by row: the counts are how often each is met, and the first place of the largest is the offset met most
-- often.
use Prim.Native.Nat.{ℕ, zero, suc, ◌+◌, ◌%◌, ◌≤◌, ◌<◌}
use mathlib.Core.Path.{◌≡◌, refl, ◌∙◌}
use mathlib.Core.Bool.{Bool, true, false, cond}
use mathlib.Core.List.{List, [], ◌∷◌}
use native.Mathlib.Nat.{mod-lt}
use native.Mathlib.Omega.{arith}
use borrow.Author.Count.{below_more}
use borrow.Author.Tests.{ltb-true, ltb-false, eqb-true, eqb-false}
use lib.Dec.{ltb, eqb}
use lib.ListN.{length, get_or, set, replicate}
use lib.Seq.{get_or-set_same, get_or-set_other}
use Rattle.std.proofs.lemmas.List.{get_or-replicate}
use Rattle.rules.specs.Limits.{vector_bytes}
use Rattle.rules.specs.Offsets.{store_offset}
use Rattle.rules.specs.Placing.{times}
use Rattle.rules.specs.declared.nodes.LoadAt.{LoadAt}
use Rattle.rules.specs.declared.nodes.Node.{Node}
use Rattle.rules.specs.declared.nodes.Node.TheVariants.{Load, Splat, Op, Shift}
use Rattle.placing_targets.specs.Met.{meets, met_in, Counted, count_at, Largest, largest, dominant_in}

-- ---- counting

counted_none : (W : ℕ) → Counted W [] (replicate W 0)
unfolding Counted
counted_none W x h = get_or-replicate W x 0 0 h

counted_next : (W a v : ℕ) (met counts : List ℕ) → a < W → W ≤ length counts → Counted W met counts → v ≡ get_or counts a 0 + 1
    → Counted W (a ∷ met) (set counts a v)
unfolding Counted
counted_next W a v met counts below room h e x p = go (eqb x a) refl
  where
    go : (same : Bool) → eqb x a ≡ same → get_or (set counts a v) x 0 ≡ cond same 1 0 + times x met
    go true q =
        let s : x ≡ a = eqb-true x a q in
        rw s (get_or-set_same counts a v 0 (omega arith) ∙ e ∙ omega (arith, h a below))
    go false q = get_or-set_other counts a x v 0 (eqb-false x a q) ∙ omega (arith, h x p)

times_length : (x : ℕ) (met : List ℕ) → times x met ≤ length met
times_length x [] = omega arith
times_length x (y ∷ met) = go (eqb x y) (times_length x met)
  where
    go : (same : Bool) → times x met ≤ length met → cond same 1 0 + times x met ≤ suc (length met)
    go true h = omega arith
    go false h = omega arith

met_length : (W : ℕ) (node : ℕ → Node) (before : List ℕ) (k : ℕ) → length (met_in W node before k) ≤ length before + k
unfolding met_in
met_length W node before zero = omega arith
met_length W node before (suc k) = go (node k) (met_in W node before k) (met_length W node before k)
  where
    go : (n : Node) (met : List ℕ) → length met ≤ length before + k → length (meets W n met) ≤ length before + suc k
    go (Load a) met h = omega arith
    go (Splat v) met h = omega arith
    go (Op o) met h = omega arith
    go (Shift s) met h = omega arith

-- no more than are met
pub counted_most : (W : ℕ) (node : ℕ → Node) (before : List ℕ) (k : ℕ) (counts : List ℕ) → Counted W (met_in W node before k) counts
    → (x : ℕ) → x < W → get_or counts x 0 ≤ length before + k
unfolding Counted
counted_most W node before k counts h x p =
    omega (arith, h x p, times_length x (met_in W node before k), met_length W node before k)

-- the store alone
pub counted_store : (S : ℕ) (node : ℕ → Node)
    → let c = store_offset vector_bytes S in
    Counted vector_bytes (met_in vector_bytes node (c ∷ []) 0) (set (replicate vector_bytes 0) c 1)
unfolding met_in
counted_store S node =
    let c = store_offset vector_bytes S in
    let below : c < vector_bytes = mod-lt S (omega arith) in
    counted_next vector_bytes c 1 [] (replicate vector_bytes 0) below (omega arith) (counted_none vector_bytes)
    (rw (get_or-replicate {A = ℕ} vector_bytes c 0 0 below))

-- a node more
met_next : (W : ℕ) (node : ℕ → Node) (before : List ℕ) (k : ℕ) (n : Node) → node k ≡ n
    → met_in W node before (k + 1) ≡ meets W n (met_in W node before k)
unfolding met_in
met_next W node before k n e =
    let s : k + 1 ≡ suc k = omega arith in
    rw (s, e)

module _ (node : ℕ → Node) (before : List ℕ) (k : ℕ) (counts : List ℕ) where
  abbrev met : ℕ → List ℕ
  met j = met_in vector_bytes node before j

  pub load_counted : (a : LoadAt) → node k ≡ Load a → length counts ≡ vector_bytes → Counted vector_bytes (met k) counts
      → let x = a.address.0 % vector_bytes in
      Counted vector_bytes (met (k + 1)) (set counts x (get_or counts x 0 + 1))
  load_counted a e room h =
      rw (met_next vector_bytes node before k (Load a) e)
      (counted_next vector_bytes (a.address.0 % vector_bytes) _ (met k) counts (mod-lt a.address.0 (omega arith)) (omega arith) h refl)

  pub other_counted : (n : Node) → node k ≡ n → ((a : LoadAt) → n ≡ Load a → ⊥) → Counted vector_bytes (met k) counts
      → Counted vector_bytes (met (k + 1)) counts
  other_counted n e other h = rw (met_next vector_bytes node before k n e, stays n (met k) other) h
    where
      stays : (n : Node) (met : List ℕ) → ((a : LoadAt) → n ≡ Load a → ⊥) → meets vector_bytes n met ≡ met
      stays (Load a) met h = absurd (h a refl)
      stays (Splat v) met h = refl
      stays (Op o) met h = refl
      stays (Shift s) met h = refl

-- ---- the largest count

pub largest_first : (count : ℕ → ℕ) → Largest count 1 0
largest_first count =
    record {
      one = omega arith;
      often = λ y p. let z : y ≡ 0 = omega arith in rw z (omega arith);
      small = λ y p e. omega arith;
    }

module _ (count : ℕ → ℕ) (k x : ℕ) (l : Largest count k x) where
  pub largest_kept : count k ≤ count x → Largest count (k + 1) x
  largest_kept h =
      record {
        one = omega (arith, l.one);
        often = below_more (λ (y : ℕ). count y ≤ count x) k l.often h;
        small = below_more (λ (y : ℕ). count y ≡ count x → x ≤ y) k l.small (λ e. omega (arith, l.one));
      }

  pub largest_new : count x < count k → Largest count (k + 1) k
  largest_new h =
      record {
        one = omega arith;
        often = below_more (λ (y : ℕ). count y ≤ count k) k (λ y p. omega (arith, l.often y p)) (omega arith);
        small =
            below_more (λ (y : ℕ). count y ≡ count k → k ≤ y) k (λ y p e. absurd (omega (arith, l.often y p)))
            (λ e. omega arith);
      }

  -- there is one only
  largest_one : (y : ℕ) → Largest count k y → x ≡ y
  largest_one y m =
      let a = l.often y m.one in
      let b = m.often x l.one in
      omega (arith, l.small y m.one (omega arith), m.small x l.one (omega arith))

  largest_same : (other : ℕ → ℕ) → ((y : ℕ) → y < k → count y ≡ other y) → Largest other k x
  largest_same other e =
      record {
        one = l.one;
        often = λ y p. omega (arith, l.often y p, e y p, e x l.one);
        small = λ y p q. l.small y p (omega (arith, q, e y p, e x l.one));
      }

-- and the definition finds it
pub largest_is : (count : ℕ → ℕ) (k : ℕ) → Largest count (suc k) (largest count k)
unfolding largest
largest_is count zero = largest_first count
largest_is count (suc k) =
    go (largest_is count k) (ltb (count (largest count k)) (count (suc k))) refl
  where
    n : suc k + 1 ≡ suc (suc k)
    n = omega arith

    go : Largest count (suc k) (largest count k) → (more : Bool) → ltb (count (largest count k)) (count (suc k)) ≡ more
        → Largest count (suc (suc k)) (cond more (suc k) (largest count k))
    go l true e = rw n at (largest_new count (suc k) (largest count k) l (ltb-true _ _ e))
    go l false e = rw n at (largest_kept count (suc k) (largest count k) l (ltb-false _ _ e))

-- the place of the largest count is the offset met most often
pub counted_dominant : (S : ℕ) (node : ℕ → Node) (N : ℕ) (counts : List ℕ) (x : ℕ)
    → Counted vector_bytes (met_in vector_bytes node (store_offset vector_bytes S ∷ []) N) counts → Largest (count_at counts) vector_bytes x
    → x ≡ dominant_in vector_bytes S node N
unfolding Counted dominant_in
counted_dominant S node N counts x h l =
    let met : ℕ → ℕ = λ (y : ℕ). times y (met_in vector_bytes node (store_offset vector_bytes S ∷ []) N) in
    largest_one met vector_bytes x (largest_same (count_at counts) vector_bytes x l met h) _ (largest_is met 15)
