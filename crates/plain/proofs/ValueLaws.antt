-- The value of a node's tree at an element is made of its inputs' values there, and is an element: a load's by its bytes, a
-- splat's by its range, an op's by the law of the operations.
use Prim.Native.Nat.{ℕ, suc, ◌+◌, ◌-◌, ◌*◌, ◌%◌, ◌≤◌, ◌<◌}
use mathlib.Core.Path.{◌≡◌, ◌∙◌}
use mathlib.Core.List.{List}
use native.Mathlib.Nat.{le_trans, mul-le-mul_right, mod-eq_of_lt}
use native.Mathlib.Omega.{arith}
use lib.ListN.{get_or}
use Rattle.rules.specs.Elements.{element, modulus, operate}
use Rattle.rules.specs.Trees.{node_at, tree_at}
use Rattle.rules.specs.PlainLoop.{window, value}
use Rattle.rules.specs.declared.nodes.LoadAt.{LoadAt}
use Rattle.rules.specs.declared.nodes.ShiftBy.{ShiftBy}
use Rattle.rules.specs.declared.nodes.Node.{Node}
use Rattle.rules.specs.declared.nodes.Node.TheVariants.{Load, Splat, Op, Shift}
use Rattle.graph.specs.Links.{left_in, LinkedAt, Linked}
use Rattle.plain.specs.Evaluating.{Ranged, Evaluable}

-- ---- fewer nodes, fewer elements

ranged_fewer : (D n m work_len table_len : ℕ) (node : Node) → m ≤ n → Ranged D n work_len table_len node → Ranged D m work_len table_len node
ranged_fewer D n m work_len table_len (Load a) h r = (r.0, omega (arith, mul-le-mul_right D h))
ranged_fewer D n m work_len table_len (Splat v) h r = r
ranged_fewer D n m work_len table_len (Op o) h r = r
ranged_fewer D n m work_len table_len (Shift s) h r = r

pub evaluable_fewer : {D n N work_len table_len : ℕ} {nodes left : List ℕ} → Evaluable D n N nodes left work_len table_len
    → (m M : ℕ) → m ≤ n → M ≤ N → Evaluable D m M nodes left work_len table_len
unfolding Linked
evaluable_fewer {D} {n} {N} {work_len} {table_len} {nodes} e m M h l =
    record {
      few = le_trans h e.few;
      most = le_trans l e.most;
      linked = λ k p. e.linked k (le_trans p l);
      ranged = λ k p. ranged_fewer D n m work_len table_len (node_at nodes k) h (e.ranged k (le_trans p l));
    }

-- ---- node k at element i

-- an input of node k has a lower number, and a value where node k has one
pub record Input (D i k input : ℕ) (nodes left : List ℕ) (work_len table_len : ℕ) : Type 0 where
  pub falls : input < k
  pub has : Evaluable D (suc i) (suc input) nodes left work_len table_len

module _ {D i k work_len table_len : ℕ} {nodes left : List ℕ} (e : Evaluable D (suc i) (suc k) nodes left work_len table_len) where
  -- the node is known
  module _ (node : Node) (n : node ≡ node_at nodes k) where
    here_linked : LinkedAt (node_at nodes) (left_in left) k node
    unfolding Linked
    here_linked = rw (← n) at (e.linked k (omega arith))

    here_ranged : Ranged D (suc i) work_len table_len node
    here_ranged = rw (← n) at (e.ranged k (omega arith))

  input_below : (input : ℕ) → input < k → Input D i k input nodes left work_len table_len
  input_below input h = record { falls = h; has = evaluable_fewer e (suc i) (suc input) (omega arith) (omega arith) }

  pub load_valued : {a : LoadAt} (work table : List ℕ) {r : ℕ} → Load a ≡ node_at nodes k
      → r ≡ element D (window a.window work table) (a.address.0 + i * D) → r ≡ value D work table (tree_at (node_at nodes) k) i
  unfolding value
  load_valued {a} work table n e = rw (here_linked (Load a) n) e

  pub splat_valued : {v : ℕ} (work table : List ℕ) {r : ℕ} → Splat v ≡ node_at nodes k → r ≡ v % modulus D
      → r ≡ value D work table (tree_at (node_at nodes) k) i
  unfolding value
  splat_valued {v} work table n e =
      let small : v < modulus D = here_ranged (Splat v) n in
      rw (here_linked (Splat v) n) (e ∙ mod-eq_of_lt small)

  pub op_left : {o : ℕ} → Op o ≡ node_at nodes k → Input D i k (get_or left k 0) nodes left work_len table_len
  op_left {o} n = input_below (get_or left k 0) (here_linked (Op o) n).0

  pub op_right : {o : ℕ} → Op o ≡ node_at nodes k → Input D i k (k - 1) nodes left work_len table_len
  op_right {o} n = input_below (k - 1) (omega (arith, (here_linked (Op o) n).0))

  pub op_valued : {o : ℕ} (work table : List ℕ) {x y r : ℕ} → Op o ≡ node_at nodes k
      → x ≡ value D work table (tree_at (node_at nodes) (get_or left k 0)) i → y ≡ value D work table (tree_at (node_at nodes) (k - 1)) i
      → r ≡ operate D o x y → r ≡ value D work table (tree_at (node_at nodes) k) i
  unfolding value
  op_valued {o} work table n p q h = rw ((here_linked (Op o) n).1, ← p, ← q) h

  pub shift_child : {s : ShiftBy} → Shift s ≡ node_at nodes k → Input D i k (k - 1) nodes left work_len table_len
  shift_child {s} n = input_below (k - 1) (omega (arith, (here_linked (Shift s) n).0))

  pub shift_valued : {s : ShiftBy} (work table : List ℕ) {r : ℕ} → Shift s ≡ node_at nodes k
      → r ≡ value D work table (tree_at (node_at nodes) (k - 1)) i → r ≡ value D work table (tree_at (node_at nodes) k) i
  unfolding value
  shift_valued {s} work table n e = rw (here_linked (Shift s) n).1 e
