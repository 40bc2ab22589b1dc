-- The other side of "exactly when": a graph in which nothing is wrong is not refused. With Checked.antt, each check is done exactly
-- where its fact holds; so a system that refuses everything is ruled out.
use mathlib.Core.Path.{◌≡◌, refl}
use mathlib.Core.Bool.{Bool, true, false, ◌&&◌, ◌||◌, false≢true}
use mathlib.Core.List.{List, [], ◌∷◌, append-nil}
use Prim.Native.Nat.{ℕ, zero, suc, ◌+◌, ◌*◌, ◌%◌, ◌≤◌, ◌<◌}
use native.Mathlib.Omega.{arith}
use borrow.Author.Tests.{eq-eqb, ne_eqb, eqb-true, ltb-true, lt-leb, le-ltb}
use lib.Dec.{ltb, eqb}
use lib.ListN.{length}
use Rattle.rules.specs.Limits.{work_window, bare_most, rules_most, long_most}
use Rattle.rules.specs.Answers.{Answer, done, first, each}
use Rattle.rules.specs.Frames.{load_kind, shift_kind}
use Rattle.rules.specs.Ranges.{row_ok, takes}
use Rattle.rules.specs.Trees.{Tree, load, splat, op, shift, cell, node_of, node_at, push, waiting, top, tree_at, tree_of}
use Rattle.rules.specs.Offsets.{rule_kept, root_kept}
use Rattle.rules.specs.Code.{G}
use Rattle.rules.specs.Tables.{Graph, graph_of}
use Rattle.rules.specs.Checks.{is_load, load_window, load_address, length_of, window_ok, head_short, nodes_short, section_short, bare_row, bare_check, window_check, align_row, align_check, bounds_row, bounds_check, carry_row, carry_check, offset_row, offset_check, long_check}
use Rattle.rules.specs.Calls.{graph_tree, translate_answer, bare_checks}
use Rattle.theory.proofs.Lists.{split}
use Rattle.theory.proofs.Passing.{Loop, LoadPasses, Passes}
use Rattle.theory.proofs.RowLaws.{length_waiting}
use Rattle.theory.proofs.FormLaws.{Formed, Everywhere, Everyone, first_each, formed_passes, formed_one_waits}
use Rattle.theory.proofs.Placed.{Bare}
use Rattle.theory.proofs.Checked.{VectorWidth, LoadNode, RuleNode, NoShift, length_of_lem}

-- ---- what holds everywhere in the tree holds of the node of every row

everyone_back : (P : Tree → Type 0) (W D kind x y : ℕ) (ts : List Tree) → row_ok W D kind x y ≡ true → takes kind ≤ length ts
    → Everyone P (push (node_of kind x y) ts) → P (top (push (node_of kind x y) ts)) × Everyone P ts
unfolding row_ok takes
everyone_back P W D zero x y ts o e h = absurd (false≢true o)
everyone_back P W D (suc zero) x y ts o e h = (h.0, h.1)
everyone_back P W D (suc (suc zero)) x y ts o e h = (h.0, h.1)
everyone_back P W D (suc (suc (suc zero))) x y [] o e h = absurd (omega arith)
everyone_back P W D (suc (suc (suc zero))) x y (r ∷ []) o e h = absurd (omega arith)
everyone_back P W D (suc (suc (suc zero))) x y (r ∷ l ∷ ts) o e h = (h.0.0, (h.0.2, (h.0.1, h.1)))
everyone_back P W D (suc (suc (suc (suc zero)))) x y [] o e h = absurd (omega arith)
everyone_back P W D (suc (suc (suc (suc zero)))) x y (c ∷ ts) o e h = (h.0.0, (h.0.1, h.1))
everyone_back P W D (suc (suc (suc (suc (suc k))))) x y ts o e h = absurd (false≢true o)

module _ (P : Tree → Type 0) (W : ℕ) (g : Graph) (f : Formed W g) where
  enough : (k : ℕ) → k < g.N → takes (cell g.nodes k 0) ≤ length (waiting (node_at g.nodes) k)
  enough k h =
      rw (length_waiting W g.D g.nodes k (λ j l. f.rows.enough j (omega arith)) (λ j l. f.rows.in_range j (omega arith)))
      (f.rows.enough k h)

  rows_back : (m : ℕ) → m ≤ g.N → Everyone P (waiting (node_at g.nodes) m) → (k : ℕ) → k < m → P (tree_at (node_at g.nodes) k)
  unfolding waiting tree_at node_at
  rows_back zero h e k l = absurd (omega arith)
  rows_back (suc m) h e k l =
      let b = everyone_back P W g.D _ _ _ _ (f.rows.in_range m (omega arith)) (enough m (omega arith)) e in
      split k m (λ q. rows_back m (omega arith) b.1 k q) (λ (q : m ≤ k). let z : k ≡ m = omega arith in rw z b.0)

  pub everywhere_rows : Everywhere P (tree_of g.nodes g.N) → (k : ℕ) → k < g.N → P (tree_at (node_at g.nodes) k)
  everywhere_rows e = rows_back g.N (omega arith) (rw (formed_one_waits W g f) (e, tt))

-- ---- each check, done

each_accepts : (check : ℕ → Answer) (k : ℕ) → ((j : ℕ) → j < k → check j ≡ done) → first (each check k) ≡ done
unfolding first
each_accepts check k h = rw append-nil at (first_each check k [] h)

module _ (g : Graph) where
  pub align_accepts : g.S % g.D ≡ 0 → ((k : ℕ) → k < g.N → is_load g k ≡ true → load_address g k % g.D ≡ 0) → align_check g ≡ done
  unfolding align_check first
  align_accepts s h =
      rw (eq-eqb (g.S % g.D) 0 s) (each_accepts (align_row g) g.N (λ k l. row k (h k l) (is_load g k) refl))
    where
      row : (k : ℕ) → (is_load g k ≡ true → load_address g k % g.D ≡ 0) → (b : Bool) → is_load g k ≡ b → align_row g k ≡ done
      row k p true e = rw (e, eq-eqb (load_address g k % g.D) 0 (p e))
      row k p false e = rw e

  pub bounds_accepts : (work_len table_len : ℕ) → g.S + g.n * g.D ≤ work_len
      → ((k : ℕ) → k < g.N → is_load g k ≡ true → load_address g k + g.n * g.D ≤ length_of (load_window g k) work_len table_len)
      → bounds_check g work_len table_len ≡ done
  unfolding bounds_check first
  bounds_accepts work_len table_len s h =
      rw (le-ltb work_len (g.S + g.n * g.D) s)
      (each_accepts (bounds_row g work_len table_len) g.N (λ k l. row k (h k l) (is_load g k) refl))
    where
      row : (k : ℕ) → (is_load g k ≡ true → load_address g k + g.n * g.D ≤ length_of (load_window g k) work_len table_len)
          → (b : Bool) → is_load g k ≡ b → bounds_row g work_len table_len k ≡ done
      row k p true e = rw (e, le-ltb (length_of (load_window g k) work_len table_len) (load_address g k + g.n * g.D) (p e))
      row k p false e = rw e

  pub carry_accepts : ((k : ℕ) → k < g.N → is_load g k ≡ true
      → load_window g k ≡ work_window → load_address g k < g.S → load_address g k + g.n * g.D ≤ g.S) → carry_check g ≡ done
  unfolding carry_check
  carry_accepts h = each_accepts (carry_row g) g.N (λ k l. row k (h k l) (is_load g k) refl)
    where
      free : (k : ℕ) → (load_window g k ≡ work_window → load_address g k < g.S → load_address g k + g.n * g.D ≤ g.S)
          → (a b : Bool) → eqb (load_window g k) work_window ≡ a → ltb (load_address g k) g.S ≡ b
          → (a && b && ltb g.S (load_address g k + g.n * g.D)) ≡ false
      free k p true true x y = le-ltb g.S (load_address g k + g.n * g.D) (p (eqb-true _ _ x) (ltb-true _ _ y))
      free k p true false x y = refl
      free k p false b x y = refl

      row : (k : ℕ) → (is_load g k ≡ true → load_window g k ≡ work_window → load_address g k < g.S → load_address g k + g.n * g.D ≤ g.S)
          → (b : Bool) → is_load g k ≡ b → carry_row g k ≡ done
      row k p true e = rw (e, free k (p e) (eqb (load_window g k) work_window) (ltb (load_address g k) g.S) refl refl)
      row k p false e = rw e

  pub offset_accepts : (W : ℕ) → ((k : ℕ) → k < g.N → rule_kept W (tree_at (node_at g.nodes) k) ≡ true)
      → root_kept W g.S (tree_of g.nodes g.N) ≡ true → offset_check W g ≡ done
  unfolding offset_check first
  offset_accepts W h r = rw (first_each (offset_row W g) g.N _ (λ k l. rw (h k l)), r)

pub window_accepts : (W work_len table_len : ℕ) → window_ok W work_len ≡ true → window_ok W table_len ≡ true → window_check W work_len table_len ≡ done
unfolding window_check first
window_accepts W work_len table_len p q = rw (p, q)

pub long_accepts : (t : Tree) → G t ≤ long_most → long_check t ≡ done
unfolding long_check
long_accepts t h = rw (le-ltb long_most (G t) h)

-- 5 BARE
pub bare_accepts : (g : Graph) → g.N ≤ bare_most → ((k : ℕ) → k < g.N → cell g.nodes k 0 ≡ shift_kind → ⊥) → bare_check g ≡ done
unfolding bare_check
bare_accepts g few h = each_accepts (bare_row g) g.N
    (λ k l. rw (ne_eqb (cell g.nodes k 0) shift_kind (h k l), lt-leb bare_most k (omega arith)))

-- ---- the calls

load_at : (nodes : List ℕ) (k : ℕ) → cell nodes k 0 ≡ load_kind → tree_at (node_at nodes) k ≡ load (cell nodes k 1) (cell nodes k 2)
unfolding tree_at waiting node_at
load_at nodes k e = rw e

module _ (W D n S : ℕ) (work table : List ℕ) where
  passes_loads : (t : Tree) → Passes W D n S work table t → Everywhere (LoadNode D n S work table) t
  passes_loads (load w a) p = p
  passes_loads (splat v) p = tt
  passes_loads (op o l r) p = (tt, passes_loads l p.0, passes_loads r p.1)
  passes_loads (shift f g t) p = (tt, passes_loads t p.1)

  passes_rules : (t : Tree) → Passes W D n S work table t → Everywhere (RuleNode W) t
  passes_rules (load w a) p = refl
  passes_rules (splat v) p = refl
  passes_rules (op o l r) p = (p.2, passes_rules l p.0, passes_rules r p.1)
  passes_rules (shift f g t) p = (rw p.0.offset (eq-eqb f f refl), passes_rules t p.1)

  bare_loads : (t : Tree) → Bare D n S work table t → Everywhere (LoadNode D n S work table) t
  bare_loads (load w a) p = p
  bare_loads (splat v) p = tt
  bare_loads (op o l r) p = (tt, bare_loads l p.0, bare_loads r p.1)
  bare_loads (shift f g t) p = absurd p

  bare_unshifted : (t : Tree) → Bare D n S work table t → Everywhere NoShift t
  bare_unshifted (load w a) p = tt
  bare_unshifted (splat v) p = tt
  bare_unshifted (op o l r) p = (tt, bare_unshifted l p.0, bare_unshifted r p.1)
  bare_unshifted (shift f g t) p = absurd p

-- a row of a shift is a shift, or nothing waited for it
shift_at : (nodes : List ℕ) (k : ℕ) → cell nodes k 0 ≡ shift_kind → takes shift_kind ≤ length (waiting (node_at nodes) k)
    → NoShift (tree_at (node_at nodes) k) → ⊥
unfolding tree_at waiting node_at takes
shift_at nodes k e h = rw e (go (waiting (node_at nodes) k) h)
  where
    go : (ts : List Tree) → 1 ≤ length ts → NoShift (top (push (node_of shift_kind (cell nodes k 1) (cell nodes k 2)) ts)) → ⊥
    go [] l n = absurd (omega arith)
    go (t ∷ ts) l n = n

row_unshifted : (W : ℕ) (g : Graph) → Formed W g → Everywhere NoShift (graph_tree g) → (k : ℕ) → k < g.N
    → cell g.nodes k 0 ≡ shift_kind → ⊥
row_unshifted W g f u k h e =
    shift_at g.nodes k e (rw e at (enough NoShift W g f k h)) (everywhere_rows NoShift W g f u k h)

module _ (W : ℕ) (g : Graph) (f : Formed W g) (work table : List ℕ) (c : Loop W g.D g.n g.S work table)
    (loads : Everywhere (LoadNode g.D g.n g.S work table) (graph_tree g)) where
  row_passes : (k : ℕ) → k < g.N → is_load g k ≡ true → LoadPasses g.D g.n g.S work table (load_window g k) (load_address g k)
  row_passes k h y =
      let e : tree_at (node_at g.nodes) k ≡ load (load_window g k) (load_address g k) = load_at g.nodes k (eqb-true _ load_kind y) in
      rw e at (everywhere_rows (LoadNode g.D g.n g.S work table) W g f loads k h)

  loads_align : align_check g ≡ done
  loads_align = align_accepts g c.align (λ k h y. (row_passes k h y).align)

  loads_bounds : bounds_check g (length work) (length table) ≡ done
  loads_bounds = bounds_accepts g (length work) (length table) c.bounds
      (λ k h y. rw (length_of_lem (load_window g k) work table) (row_passes k h y).bounds)

  loads_carry : carry_check g ≡ done
  loads_carry = carry_accepts g (λ k h y. (row_passes k h y).carry)

module _ (W : ℕ) (head nodes work table prologue body epilogue : List ℕ)
    (room : (head_short head || nodes_short nodes || section_short prologue || section_short body || section_short epilogue) ≡ false)
    (f : Formed W (graph_of head nodes))
    (windows : (window_ok W (length work) ≡ true) × (window_ok W (length table) ≡ true))
    (c : Loop W (graph_of head nodes).D (graph_of head nodes).n (graph_of head nodes).S work table) where
  -- a graph that keeps every rule is translated
  pub translating_accepts : Passes W (graph_of head nodes).D (graph_of head nodes).n (graph_of head nodes).S work table (graph_tree (graph_of head nodes))
      → root_kept W (graph_of head nodes).S (graph_tree (graph_of head nodes)) ≡ true → G (graph_tree (graph_of head nodes)) ≤ long_most
      → translate_answer W head nodes (length work) (length table) prologue body epilogue ≡ done
  unfolding first
  translating_accepts p root short =
      let g = graph_of head nodes in
      let t : Tree = graph_tree g in
      let l = passes_loads W g.D g.n g.S work table t p in
      rw (
        room,
        formed_passes W g f,
        window_accepts W (length work) (length table) windows.0 windows.1,
        loads_align W g f work table c l,
        loads_bounds W g f work table c l,
        loads_carry W g f work table c l,
        offset_accepts g W (everywhere_rows (RuleNode W) W g f (passes_rules W g.D g.n g.S work table t p)) root,
        long_accepts t short,
      )

  -- a bare sheet in which nothing is wrong is placed and translated, by each rule
  pub planning_accepts : VectorWidth W → (rule : ℕ) → rule ≤ rules_most
      → Bare (graph_of head nodes).D (graph_of head nodes).n (graph_of head nodes).S work table (graph_tree (graph_of head nodes))
      → (graph_of head nodes).N ≤ bare_most → first (bare_checks W rule head nodes (length work) (length table) prologue body epilogue) ≡ done
  unfolding first
  planning_accepts v rule small b few =
      let g = graph_of head nodes in
      let t : Tree = graph_tree g in
      let l = bare_loads W g.D g.n g.S work table t b in
      rw (
        room,
        le-ltb rules_most rule small,
        formed_passes W g f,
        bare_accepts g few (row_unshifted W g f (bare_unshifted W g.D g.n g.S work table t b)),
        window_accepts W (length work) (length table) windows.0 windows.1,
        loads_align W g f work table c l,
        loads_bounds W g f work table c l,
        loads_carry W g f work table c l,
      )
