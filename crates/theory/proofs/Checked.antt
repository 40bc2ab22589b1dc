-- What an answer of done says. Each check that is done leaves a fact about the graph's tree and the windows; together they are
-- the premises of the argument (Passing.antt).
use mathlib.Core.Path.{◌≡◌, refl, ap}
use mathlib.Core.Bool.{Bool, true, false, not, ◌&&◌, ◌||◌, false≢true}
use mathlib.Core.List.{List, [], ◌∷◌, append-nil}
use Prim.Native.Nat.{ℕ, zero, suc, ◌+◌, ◌*◌, ◌/◌, ◌%◌, ◌≤◌, ◌<◌}
use native.Mathlib.Omega.{arith}
use borrow.Author.Tests.{ltb-true, ltb-false, leb-true, leb-false, eqb-true, eqb-false, eq-eqb, lt-ltb, not-true, not-false}
use lib.Dec.{ltb, leb, eqb}
use lib.ListN.{length, get_or}
use Rattle.rules.specs.Limits.{windows, operations, bare_most, long_most, elements_most, width_most, address_most, window_most}
use Rattle.rules.specs.Answers.{Answer, DONE, at, refuse_if, each, ALIGN, BOUNDS, OFFSET}
use Rattle.rules.specs.Units.{is_width}
use Rattle.rules.specs.Elements.{modulus}
use Rattle.rules.specs.Frames.{load_kind, splat_kind, op_kind, shift_kind}
use Rattle.rules.specs.Ranges.{head_ok, load_ok, splat_ok, op_ok, shift_ok, row_ok}
use Rattle.rules.specs.Trees.{Tree, load, splat, op, shift, bytes, cell, node_at, tree_at, tree_of, count}
use Rattle.rules.specs.PlainLoop.{window}
use Rattle.rules.specs.Offsets.{offset, is_at, rule_kept, root_kept}
use Rattle.rules.specs.Code.{G}
use Rattle.rules.specs.Vectors.{block_zero}
use Rattle.rules.specs.Tables.{Graph}
use Rattle.rules.specs.Checks.{store_line, line, is_load, load_window, load_address, misaligned, length_of, beyond, carries, window_ok, bare_row, bare_check, window_check, align_row, align_check, bounds_row, bounds_check, carry_row, carry_check, offset_row, offset_check, long_check}
use Rattle.rules.specs.declared.nodes.Offset.{Offset}
use Rattle.rules.specs.declared.nodes.Offset.TheVariants.{At, Undefined}
use Rattle.theory.proofs.Lists.{and_left, and_right}
use Rattle.theory.proofs.Passing.{Loop, LoadPasses, ShiftPasses, Passes}
use Rattle.theory.proofs.Placed.{Bare, Placeable, Unshifted}
use Rattle.theory.proofs.FormLaws.{formed_count, Formed, first_done, each_done, refuse_done, neither, Everywhere, formed_everywhere, tree_is, TreeOk, formed_tree_ok}

-- ---- the width of a vector

-- a width over which the argument holds: whole elements of each width, blocks below zero for every graph that is not LONG, and
-- room in F for the longest loop
pub record VectorWidth (W : ℕ) : Type 0 where
  pub vector : 0 < W
  pub lanes : (D : ℕ) → is_width D ≡ true → W / D * D ≡ W
  pub deep : long_most ≤ block_zero W
  pub longest : elements_most * width_most % W ≡ 0

-- D is 1, 2, 4 or 8
pub width_is : (P : ℕ → Type 0) → P 1 → P 2 → P 4 → P 8 → (D : ℕ) → is_width D ≡ true → P D
unfolding is_width
width_is P a b c d D e = go (eqb D 1) (eqb D 2) (eqb D 4) (eqb D 8) refl refl refl refl e
  where
    go : (x y z w : Bool) → eqb D 1 ≡ x → eqb D 2 ≡ y → eqb D 4 ≡ z → eqb D 8 ≡ w → (x || y || z || w) ≡ true → P D
    go true y z w p q r s t = rw (eqb-true D 1 p) a
    go false true z w p q r s t = rw (eqb-true D 2 q) b
    go false false true w p q r s t = rw (eqb-true D 4 r) c
    go false false false true p q r s t = rw (eqb-true D 8 s) d
    go false false false false p q r s t = absurd (false≢true t)

pub sixteen : VectorWidth 16
unfolding block_zero
sixteen = record {
  vector = omega arith;
  lanes = width_is (λ D. 16 / D * D ≡ 16) refl refl refl refl;
  deep = omega arith;
  longest = refl;
}

pub width_pos : (D : ℕ) → is_width D ≡ true → 0 < D
width_pos = width_is (λ D. 0 < D) (omega arith) (omega arith) (omega arith) (omega arith)

pub width_most_lem : (D : ℕ) → is_width D ≡ true → D ≤ 8
width_most_lem = width_is (λ D. D ≤ 8) (omega arith) (omega arith) (omega arith) (omega arith)

-- a header in range
pub record HeadPasses (D n : ℕ) : Type 0 where
  pub width : is_width D ≡ true
  pub elements : n ≤ elements_most

pub head_passes : (D n S : ℕ) → head_ok D n S ≡ true → HeadPasses D n
unfolding head_ok
head_passes D n S e =
    let fields : Bool = leb n elements_most && leb S address_most in
    record {
      width = and_right fields (is_width D) e;
      elements = leb-true n elements_most (and_left (leb n elements_most) (leb S address_most) (and_left fields (is_width D) e));
    }

-- ---- each check that is done

-- of two tests that don't both hold
unless : (a b : Bool) → (a && b) ≡ false → a ≡ true → b ≡ false
unless true b e p = e
unless false b e p = absurd (false≢true p)

module _ (g : Graph) where
  -- 7 ALIGN
  pub align_done : (align_check g).number ≡ DONE
      → (g.S % g.D ≡ 0) × ((k : ℕ) → k < g.N → is_load g k ≡ true → load_address g k % g.D ≡ 0)
  unfolding align_check
  align_done h =
      let p = first_done (refuse_if (misaligned g.D g.S) (at ALIGN store_line)) (each (align_row g) g.N) h in
      let q = each_done (align_row g) g.N [] (rw append-nil p.1) in (
        eqb-true _ 0 (not-false _ (refuse_done _ 6 store_line p.0)),
        (λ k l y. eqb-true _ 0 (not-false _ (unless (is_load g k) _ (refuse_done _ 6 (line k) (q.0 k l)) y))),
      )

  -- 8 BOUNDS
  pub bounds_done : (work_len table_len : ℕ) → (bounds_check g work_len table_len).number ≡ DONE
      → (g.S + g.n * g.D ≤ work_len)
      × ((k : ℕ) → k < g.N → is_load g k ≡ true → load_address g k + g.n * g.D ≤ length_of (load_window g k) work_len table_len)
  unfolding bounds_check
  bounds_done work_len table_len h =
      let p = first_done (refuse_if (beyond g.D g.n g.S work_len) (at BOUNDS store_line)) (each (bounds_row g work_len table_len) g.N) h in
      let q = each_done (bounds_row g work_len table_len) g.N [] (rw append-nil p.1) in (
        ltb-false _ _ (refuse_done _ 7 store_line p.0),
        (λ k l y. ltb-false _ _ (unless (is_load g k) _ (refuse_done _ 7 (line k) (q.0 k l)) y)),
      )

  -- 9 CARRY
  pub carry_done : (carry_check g).number ≡ DONE
      → (k : ℕ) → k < g.N → is_load g k ≡ true → carries g.D g.n g.S (load_window g k) (load_address g k) ≡ false
  unfolding carry_check
  carry_done h k l y =
      let q = each_done (carry_row g) g.N [] (rw append-nil h) in
      unless (is_load g k) _ (refuse_done _ 8 (line k) (q.0 k l)) y

  -- 10 OFFSET
  pub offset_done : (W : ℕ) → (offset_check W g).number ≡ DONE
      → ((k : ℕ) → k < g.N → rule_kept W (tree_at (node_at g.nodes) k) ≡ true) × (root_kept W g.S (tree_of g.nodes g.N) ≡ true)
  unfolding offset_check
  offset_done W h =
      let root : Answer = refuse_if (not (root_kept W g.S (tree_of g.nodes g.N))) (at OFFSET store_line) in
      let q = each_done (offset_row W g) g.N (root ∷ []) h in (
        (λ k l. not-false _ (refuse_done _ 9 (line k) (q.0 k l))),
        not-false _ (refuse_done _ 9 store_line (first_done root [] q.1).0),
      )

  -- 5 BARE
  pub bare_done : (bare_check g).number ≡ DONE
      → ((k : ℕ) → k < g.N → cell g.nodes k 0 ≡ shift_kind → ⊥) × ((k : ℕ) → k < g.N → k < bare_most)
  unfolding bare_check
  bare_done h =
      let q = each_done (bare_row g) g.N [] (rw append-nil h) in (
        (λ k l e. eqb-false (cell g.nodes k 0) shift_kind (both k (q.0 k l)).0 e),
        (λ k l. leb-false bare_most k (both k (q.0 k l)).1),
      )
    where
      both : (k : ℕ) → (bare_row g k).number ≡ DONE → (eqb (cell g.nodes k 0) shift_kind ≡ false) × (leb bare_most k ≡ false)
      both k e = neither (eqb (cell g.nodes k 0) shift_kind) (leb bare_most k) (refuse_done _ 4 (line k) e)

-- 6 WINDOW
pub window_done : (W work_len table_len : ℕ) → (window_check W work_len table_len).number ≡ DONE
    → (window_ok W work_len ≡ true) × (window_ok W table_len ≡ true)
unfolding window_check
window_done W work_len table_len h =
    let p = first_done _ _ h in (
      not-false _ (refuse_done _ 5 0 p.0),
      not-false _ (refuse_done _ 5 1 (first_done _ [] p.1).0),
    )

-- 11 LONG
pub long_done : (t : Tree) → (long_check t).number ≡ DONE → G t ≤ long_most
unfolding long_check
long_done t h = ltb-false long_most (G t) (refuse_done _ 10 0 h)

-- a bare sheet has at most 31 nodes
pub bare_count : (W : ℕ) (g : Graph) → Formed W g → (bare_check g).number ≡ DONE → count (tree_of g.nodes g.N) ≤ bare_most
bare_count W g f h = rw (formed_count W g f) (go g.N refl)
  where
    go : (k : ℕ) → g.N ≡ k → k ≤ bare_most
    go zero e = omega arith
    go (suc k) e = (bare_done g h).1 k (omega arith)

-- ---- the tree

-- a load that passes, an offset rule that is kept, a node that is no shift: what the checks say of one node
abbrev pub LoadNode : (D n S : ℕ) → List ℕ → List ℕ → Tree → Type 0
LoadNode D n S work table (load w a) = LoadPasses D n S work table w a
LoadNode D n S work table (splat v) = Unit
LoadNode D n S work table (op o l r) = Unit
LoadNode D n S work table (shift f g t) = Unit

abbrev pub RuleNode : (W : ℕ) → Tree → Type 0
RuleNode W t = rule_kept W t ≡ true

abbrev pub NoShift : Tree → Type 0
NoShift (load w a) = Unit
NoShift (splat v) = Unit
NoShift (op o l r) = Unit
NoShift (shift f g t) = ⊥

abbrev AlignNode : (D : ℕ) → Tree → Type 0
AlignNode D (load w a) = a % D ≡ 0
AlignNode D (splat v) = Unit
AlignNode D (op o l r) = Unit
AlignNode D (shift f g t) = Unit

unshifted_from : (t : Tree) → Everywhere NoShift t → Unshifted t
unshifted_from (load w a) h = tt
unshifted_from (splat v) h = tt
unshifted_from (op o l r) h = (unshifted_from l h.1, unshifted_from r h.2)
unshifted_from (shift f g t) h = h.0

placeable_from : (D : ℕ) (t : Tree) → Everywhere NoShift t → Everywhere (AlignNode D) t → Placeable D t
placeable_from D (load w a) h z = z
placeable_from D (splat v) h z = tt
placeable_from D (op o l r) h z = (placeable_from D l h.1 z.1, placeable_from D r h.2 z.2)
placeable_from D (shift f g t) h z = absurd h.0

at_is : (o : Offset) (f : ℕ) → is_at o f ≡ true → o ≡ At (bytes f)
at_is Undefined f e = absurd (false≢true e)
at_is (At a) f e = ap (λ (x : ℕ). At (bytes x)) (eqb-true a.0 f e)

-- 3 RANGE, by a node's kind
splat_field : (W D v : ℕ) → row_ok W D splat_kind v 0 ≡ true → v < modulus D
unfolding row_ok splat_ok
splat_field W D v e = ltb-true v (modulus D) e

op_field : (W D o : ℕ) → row_ok W D op_kind o 0 ≡ true → o < operations
unfolding row_ok op_ok
op_field W D o e = ltb-true o operations e

shift_fields : (W D f g : ℕ) (child : Offset) → row_ok W D shift_kind f g ≡ true → child ≡ At (bytes f) → ShiftPasses W D f g child
unfolding row_ok shift_ok
shift_fields W D f g child e at =
    let a : Bool = ltb f W in
    let b : Bool = ltb g W in
    let c : Bool = eqb (f % D) 0 in
    let d : Bool = eqb (g % D) 0 in
    let p₃ : (a && b && c && d) ≡ true = and_left (a && b && c && d) _ e in
    let p₂ : (a && b && c) ≡ true = and_left (a && b && c) d p₃ in
    let p₁ : (a && b) ≡ true = and_left (a && b) c p₂ in
    record {
      differ = eqb-false f g (not-true (eqb f g) (and_right (a && b && c && d) (not (eqb f g)) e));
      from_small = ltb-true f W (and_left a b p₁);
      to_small = ltb-true g W (and_right a b p₁);
      from_align = eqb-true (f % D) 0 (and_right (a && b) c p₂);
      to_align = eqb-true (g % D) 0 (and_right (a && b && c) d p₃);
      offset = at;
    }

module _ (W D n S : ℕ) (work table : List ℕ) where
  passes_from : (t : Tree) → TreeOk W D t → Everywhere (LoadNode D n S work table) t → Everywhere (RuleNode W) t → Passes W D n S work table t
  passes_from (load w a) o l r = l
  passes_from (splat v) o l r = splat_field W D v o
  passes_from (op p s t) o l r =
      (passes_from s o.1 l.1 r.1, passes_from t o.2 l.2 r.2, r.0, op_field W D p o.0)
  passes_from (shift f g t) o l r =
      (shift_fields W D f g (offset W t) o.0 (at_is (offset W t) f r.0), passes_from t o.1 l.1 r.1)

  bare_from : (t : Tree) → TreeOk W D t → Everywhere (LoadNode D n S work table) t → Everywhere NoShift t → Bare D n S work table t
  bare_from (load w a) o l r = l
  bare_from (splat v) o l r = splat_field W D v o
  bare_from (op p s t) o l r = (bare_from s o.1 l.1 r.1, bare_from t o.2 l.2 r.2, op_field W D p o.0)
  bare_from (shift f g t) o l r = absurd r.0

-- ---- a graph

load_field : (W D w a : ℕ) → row_ok W D load_kind w a ≡ true → w < windows
unfolding row_ok load_ok
load_field W D w a e = ltb-true w windows (and_left (ltb w windows) (leb a address_most) e)

carry_from : (D n S w a : ℕ) → carries D n S w a ≡ false → w ≡ 0 → a < S → a + n * D ≤ S
carry_from D n S w a e z h =
    let p : (eqb w 0 && ltb a S) ≡ true = rw (eq-eqb w 0 z, lt-ltb a S h) in
    ltb-false S (a + n * D) (unless (eqb w 0 && ltb a S) _ e p)

pub length_of_lem : (w : ℕ) (work table : List ℕ) → length_of w (length work) (length table) ≡ length (window w work table)
length_of_lem zero work table = refl
length_of_lem (suc w) work table = refl

whole_windows : (W : ℕ) (work table : List ℕ) → window_ok W (length work) ≡ true → window_ok W (length table) ≡ true
    → (w : ℕ) → length (window w work table) % W ≡ 0
whole_windows W work table p q zero = eqb-true _ 0 (and_right (leb (length work) window_most) _ p)
whole_windows W work table p q (suc w) = eqb-true _ 0 (and_right (leb (length table) window_most) _ q)

module _ (W : ℕ) (v : VectorWidth W) (g : Graph) (f : Formed W g) (work table : List ℕ) where
  -- the windows hold bytes
  abbrev pub Bytes : Type 0
  Bytes = (w i : ℕ) → get_or (window w work table) i 0 < 256

  pub head_of_lem : HeadPasses g.D g.n
  head_of_lem = head_passes g.D g.n g.S f.head

  pub loop_from : Bytes → (window_check W (length work) (length table)).number ≡ DONE → (align_check g).number ≡ DONE
      → (bounds_check g (length work) (length table)).number ≡ DONE → Loop W g.D g.n g.S work table
  loop_from byte hw ha hb = record {
    element = width_pos g.D head_of_lem.width;
    lanes = v.lanes g.D head_of_lem.width;
    vector = v.vector;
    align = (align_done g ha).0;
    bounds = (bounds_done g (length work) (length table) hb).0;
    whole = whole_windows W work table (window_done W (length work) (length table) hw).0 (window_done W (length work) (length table) hw).1;
    byte = byte;
  }

  loads_from : (align_check g).number ≡ DONE → (bounds_check g (length work) (length table)).number ≡ DONE → (carry_check g).number ≡ DONE
      → Everywhere (LoadNode g.D g.n g.S work table) (tree_of g.nodes g.N)
  loads_from ha hb hc = formed_everywhere P W g f (λ k h. tree_is W g f P k h (load_row k h) (λ e. tt) (λ e l r. tt) (λ e c. tt))
    where
      P : Tree → Type 0
      P = LoadNode g.D g.n g.S work table

      load_row : (k : ℕ) → k < g.N → cell g.nodes k 0 ≡ load_kind → P (load (load_window g k) (load_address g k))
      load_row k h e =
          let y : is_load g k ≡ true = eq-eqb (cell g.nodes k 0) load_kind e in
          record {
            small = load_field W g.D _ _ (rw e at (f.rows.in_range k h));
            align = (align_done g ha).1 k h y;
            bounds = rw (length_of_lem (load_window g k) work table) at ((bounds_done g (length work) (length table) hb).1 k h y);
            carry = carry_from g.D g.n g.S (load_window g k) (load_address g k) (carry_done g hc k h y);
          }

  -- a graph that translating's checks pass
  pub graph_passes : (align_check g).number ≡ DONE → (bounds_check g (length work) (length table)).number ≡ DONE → (carry_check g).number ≡ DONE
      → (offset_check W g).number ≡ DONE → Passes W g.D g.n g.S work table (tree_of g.nodes g.N)
  graph_passes ha hb hc ho =
      passes_from W g.D g.n g.S work table (tree_of g.nodes g.N) (formed_tree_ok W g f) (loads_from ha hb hc)
      (formed_everywhere (RuleNode W) W g f (offset_done g W ho).0)

  no_shifts : (bare_check g).number ≡ DONE → Everywhere NoShift (tree_of g.nodes g.N)
  no_shifts hs = formed_everywhere NoShift W g f
      (λ k h. tree_is W g f NoShift k h (λ e. tt) (λ e. tt) (λ e l r. tt) (λ e c. absurd ((bare_done g hs).0 k h e)))

  -- a bare sheet that the one-step call's checks before OFFSET pass
  pub graph_bare : (bare_check g).number ≡ DONE → (align_check g).number ≡ DONE → (bounds_check g (length work) (length table)).number ≡ DONE
      → (carry_check g).number ≡ DONE → Bare g.D g.n g.S work table (tree_of g.nodes g.N)
  graph_bare hs ha hb hc =
      bare_from W g.D g.n g.S work table (tree_of g.nodes g.N) (formed_tree_ok W g f) (loads_from ha hb hc) (no_shifts hs)

  -- a bare sheet that placing's checks pass
  pub graph_placeable : (bare_check g).number ≡ DONE → (align_check g).number ≡ DONE → Placeable g.D (tree_of g.nodes g.N)
  graph_placeable hs ha = placeable_from g.D (tree_of g.nodes g.N) (no_shifts hs)
      (formed_everywhere (AlignNode g.D) W g f (λ k h. tree_is W g f (AlignNode g.D) k h
      (λ e. (align_done g ha).1 k h (eq-eqb (cell g.nodes k 0) load_kind e)) (λ e. tt) (λ e l r. tt) (λ e c. tt)))

  pub graph_unshifted : (bare_check g).number ≡ DONE → Unshifted (tree_of g.nodes g.N)
  graph_unshifted hs = unshifted_from (tree_of g.nodes g.N) (no_shifts hs)
