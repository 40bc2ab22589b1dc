-- How often an offset is met in the rows of a table is how often it is met in its tree, so the one met most often in the table is
-- the one that DOMINANT means: two that are oftenest are one.
use Prim.Native.Nat.{ℕ, zero, suc, ◌+◌, ◌%◌, ◌≤◌, ◌<◌}
use mathlib.Core.Path.{◌≡◌, refl, ◌∙◌}
use mathlib.Core.Bool.{Bool, true, false, cond, false≢true}
use mathlib.Core.Logic.{⊎_elim}
use mathlib.Core.List.Memᴰ
use mathlib.Core.List.{List, [], ◌∷◌, ◌++◌, Memᴰ}
use native.Mathlib.Nat.{mod-lt}
use native.Mathlib.Omega.{arith}
use borrow.Author.Tests.{eqb-true, eq-eqb}
use lib.Dec.{eqb}
use lib.ListN.{length}
use Rattle.rules.specs.Limits.{vector_bytes}
use Rattle.rules.specs.Ranges.{row_ok, takes}
use Rattle.rules.specs.Trees.{Tree, load, splat, op, shift, cell, node_of, node_at, push, waiting, tree_of}
use Rattle.rules.specs.Placing.{times, load_offsets, dominant}
use Rattle.rules.specs.Tables.{Graph}
use Rattle.theory.proofs.Dominant.{Oftenest, dominant_oftenest}
use Rattle.theory.proofs.RowLaws.{length_waiting}
use Rattle.theory.proofs.FormLaws.{Formed, formed_one_waits}
use Rattle.placing_targets.specs.Met.{meets, met_in, Largest, largest, dominant_in}
use Rattle.placing_targets.proofs.MetLaws.{largest_is}

-- ---- rows and trees

times_append : (x : ℕ) (a b : List ℕ) → times x (a ++ b) ≡ times x a + times x b
times_append x [] b = omega arith
times_append x (y ∷ a) b = omega (arith, times_append x a b)

-- how often x is met in trees that wait
abbrev times_in : (W x : ℕ) → List Tree → ℕ
times_in W x [] = 0
times_in W x (t ∷ ts) = times x (load_offsets W t) + times_in W x ts

push_met : (W D x kind a b : ℕ) (ts : List Tree) (met : List ℕ) (n : ℕ) → row_ok W D kind a b ≡ true → takes kind ≤ length ts
    → times x met ≡ n + times_in W x ts → times x (meets W (node_of kind a b) met) ≡ n + times_in W x (push (node_of kind a b) ts)
unfolding row_ok takes
push_met W D x zero a b ts met n o h e = absurd (false≢true o)
push_met W D x (suc zero) a b ts met n o h e = omega (arith, e)
push_met W D x (suc (suc zero)) a b ts met n o h e = omega (arith, e)
push_met W D x (suc (suc (suc zero))) a b [] met n o h e = absurd (omega arith)
push_met W D x (suc (suc (suc zero))) a b (r ∷ []) met n o h e = absurd (omega arith)
push_met W D x (suc (suc (suc zero))) a b (r ∷ l ∷ ts) met n o h e = omega (arith, e, times_append x (load_offsets W l) (load_offsets W r))
push_met W D x (suc (suc (suc (suc zero)))) a b [] met n o h e = absurd (omega arith)
push_met W D x (suc (suc (suc (suc zero)))) a b (t ∷ ts) met n o h e = omega (arith, e)
push_met W D x (suc (suc (suc (suc (suc k))))) a b ts met n o h e = absurd (false≢true o)

module _ (W : ℕ) (g : Graph) (f : Formed W g) (before : List ℕ) where
  waiting_met : (x k : ℕ) → k ≤ g.N
      → times x (met_in W (node_at g.nodes) before k) ≡ times x before + times_in W x (waiting (node_at g.nodes) k)
  unfolding met_in waiting node_at
  waiting_met x zero h = omega arith
  waiting_met x (suc k) h =
      push_met W g.D x (cell g.nodes k 0) (cell g.nodes k 1) (cell g.nodes k 2) (waiting (node_at g.nodes) k) _ (times x before)
      (f.rows.in_range k (omega arith))
      (rw (length_waiting W g.D g.nodes k (λ j l. f.rows.enough j (omega arith)) (λ j l. f.rows.in_range j (omega arith)))
      (f.rows.enough k (omega arith)))
      (waiting_met x k (omega arith))

  pub met_in_tree : (x : ℕ)
      → times x (met_in W (node_at g.nodes) before g.N) ≡ times x before + times x (load_offsets W (tree_of g.nodes g.N))
  met_in_tree x = waiting_met x g.N (omega arith) ∙ rw (formed_one_waits W g f) (omega arith)

-- ---- the one met most often

times_member : (x : ℕ) (met : List ℕ) → 0 < times x met → Memᴰ x met
times_member x [] h = absurd (omega arith)
times_member x (y ∷ met) h = go (eqb x y) refl (times_member x met) h
  where
    go : (same : Bool) → eqb x y ≡ same → (0 < times x met → Memᴰ x met) → 0 < cond same 1 0 + times x met → Memᴰ x (y ∷ met)
    go true e later h = Memᴰ.head (eqb-true x y e)
    go false e later h = Memᴰ.tail (later (omega arith))

offsets_below : (W : ℕ) → 0 < W → (t : Tree) (x : ℕ) → Memᴰ x (load_offsets W t) → x < W
offsets_below W v (load w a) x h = rw (Memᴰ.eq_of_singleton h) (mod-lt a v)
offsets_below W v (splat s) x h = absurd (Memᴰ.not-nil h)
offsets_below W v (op o l r) x h =
    ⊎_elim (offsets_below W v l x) (offsets_below W v r x) (Memᴰ.append_cases (load_offsets W l) h)
offsets_below W v (shift f g t) x h = offsets_below W v t x h

oftenest_one : (met : List ℕ) (x y : ℕ) → Oftenest met x → Oftenest met y → x ≡ y
oftenest_one met x y p q =
    let a = p.beats y q.one in
    let b = q.beats x p.one in
    omega (arith, a.often, b.often, a.small (omega (arith, a.often, b.often)), b.small (omega (arith, a.often, b.often)))

-- of a graph that passes, the offset met most often in its table is the one that DOMINANT means
pub dominant_met : (g : Graph) → Formed vector_bytes g
    → dominant_in vector_bytes g.S (node_at g.nodes) g.N ≡ dominant vector_bytes g.S (tree_of g.nodes g.N)
unfolding dominant_in
dominant_met g f = oftenest_one met x _ oftenest (dominant_oftenest vector_bytes g.S t)
  where
    t : Tree
    t = tree_of g.nodes g.N

    c : ℕ
    c = g.S % vector_bytes

    met : List ℕ
    met = c ∷ load_offsets vector_bytes t

    count : ℕ → ℕ
    count y = times y (met_in vector_bytes (node_at g.nodes) (c ∷ []) g.N)

    x : ℕ
    x = largest count 15

    l : Largest count vector_bytes x
    l = largest_is count 15

    counted : (y : ℕ) → count y ≡ times y met
    counted y = met_in_tree vector_bytes g f (c ∷ []) y ∙ omega arith

    store_met : 0 < times c met
    store_met = rw (eq-eqb c c refl) (omega arith)

    below : (y : ℕ) → Memᴰ y met → y < vector_bytes
    below y m = ⊎_elim (λ (e : y ≡ c). rw e (mod-lt g.S (omega arith))) (offsets_below vector_bytes (omega arith) t y) (Memᴰ.cases_cons m)

    oftenest : Oftenest met x
    oftenest =
        record {
          one = times_member x met (omega (arith, store_met, counted c, counted x, l.often c (mod-lt g.S (omega arith))));
          beats = λ y m.
              let p : y < vector_bytes = below y m in
              record {
                often = omega (arith, counted y, counted x, l.often y p);
                small = λ e. l.small y p (omega (arith, counted y, counted x));
              };
        }
