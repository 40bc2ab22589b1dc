-- The nodes that wait, by their numbers, carry the trees that wait; so in a graph that passes each node's tree is made of its
-- inputs' trees, and numbers fall from a node to its inputs.
use Prim.Native.Nat.{ℕ, zero, suc, ◌+◌, ◌-◌, ◌≤◌, ◌<◌}
use mathlib.Core.Path.{◌≡◌, refl, sym, ap, ◌∙◌}
use mathlib.Core.List.{List, [], ◌∷◌, map}
use native.Mathlib.Nat.{sub-zero, zero-sub, suc-sub-suc}
use native.Mathlib.Numerals.{add-one}
use native.Mathlib.Omega.{arith}
use lib.ListN.{length, get_or, set, drop, length-set, length-drop, length-append, get_or-append}
use lib.Seq.{get_or-drop, get_or-set_same, get_or-set_other, ext_get_or}
use Rattle.rules.specs.Limits.{nodes_most}
use Rattle.rules.specs.Ranges.{takes}
use Rattle.rules.specs.Trees.{Tree, op, shift, cell, node_of, node_at, push, waiting, top, tree_at}
use Rattle.rules.specs.Tables.{Graph}
use Rattle.rules.specs.Checks.{waits}
use Rattle.rules.specs.declared.nodes.Node.{Node}
use Rattle.rules.specs.declared.nodes.Node.TheVariants.{Load, Splat, Op, Shift}
use Rattle.rules.specs.declared.sheet.Row.{Row}
use Rattle.tables.specs.Rows.{row_at}
use Rattle.theory.proofs.Lists.{split, get_or_past}
use Rattle.theory.proofs.FormLaws.{Formed}
use Rattle.graph.specs.Links.{inputs, standing, listed, left_of, lefts, LinkedAt, Linked}

-- ---- numbers fall

pub standing_below : (node : ℕ → Node) (k i : ℕ) → i < length (standing node k) → get_or (standing node k) i 0 < k
unfolding standing
standing_below node zero i h = absurd (omega arith)
standing_below node (suc k) zero h = omega arith
standing_below node (suc k) (suc i) h =
    let before = standing node k in
    let taken = inputs (node k) in
    let e : get_or (drop taken before) i 0 ≡ get_or before (taken + i) 0 = get_or-drop taken before i 0 in
    let b : get_or before (taken + i) 0 < k = standing_below node k (taken + i) (omega (arith, length-drop taken before)) in
    rw e (omega arith)

-- ---- the trees of the nodes that wait

module _ (node : ℕ → Node) where
  -- a node on enough that wait: its tree comes first, those that it took are gone
  push_standing : (n : Node) (ks : List ℕ) → inputs n ≤ length ks
      → push n (map (tree_at node) ks) ≡ top (push n (map (tree_at node) ks)) ∷ map (tree_at node) (drop (inputs n) ks)
  push_standing (Load a) ks h = refl
  push_standing (Splat v) ks h = refl
  push_standing (Op o) [] h = absurd (omega arith)
  push_standing (Op o) (r ∷ []) h = absurd (omega arith)
  push_standing (Op o) (r ∷ l ∷ ks) h = refl
  push_standing (Shift s) [] h = absurd (omega arith)
  push_standing (Shift s) (c ∷ ks) h = refl

  pub waiting_standing : (k : ℕ) → ((j : ℕ) → j < k → inputs (node j) ≤ length (standing node j))
      → waiting node k ≡ map (tree_at node) (standing node k)
  unfolding waiting standing tree_at
  waiting_standing zero enough = refl
  waiting_standing (suc k) enough =
      let e : waiting node k ≡ map (tree_at node) (standing node k) = waiting_standing k (λ j h. enough j (omega arith)) in
      let p = push_standing (node k) (standing node k) (enough k (omega arith)) in
      ap (push (node k)) e ∙ p ∙ ap (λ (ts : List Tree). top (push (node k) ts) ∷ map (tree_at node) (drop (inputs (node k)) (standing node k))) (sym e)

  -- the last that waits is the node just before
  last_stands : (k : ℕ) → 0 < length (standing node k) → (0 < k) × (get_or (standing node k) 0 0 ≡ k - 1)
  unfolding standing
  last_stands zero h = absurd (omega arith)
  last_stands (suc k) h = (omega arith, omega arith)

  tree_made : (k : ℕ) (n : Node) (ks : List ℕ) → node k ≡ n → waiting node k ≡ map (tree_at node) ks
      → tree_at node k ≡ top (push n (map (tree_at node) ks))
  unfolding tree_at waiting
  tree_made k n ks e w = rw (e, w)

  -- node k's inputs are where the numbers say
  pub linked_at : (k : ℕ) (n : Node) → node k ≡ n → waiting node k ≡ map (tree_at node) (standing node k)
      → inputs n ≤ length (standing node k) → (left : ℕ → ℕ) → left k ≡ left_of node k → LinkedAt node left k n
  unfolding left_of
  linked_at k n e w enough left l = go n (standing node k) refl e w enough l
    where
      go : (n : Node) (ks : List ℕ) → standing node k ≡ ks → node k ≡ n → waiting node k ≡ map (tree_at node) ks
          → inputs n ≤ length ks → left k ≡ get_or ks 1 0 → LinkedAt node left k n
      go (Load a) ks s e w h l = tree_made k (Load a) ks e w
      go (Splat v) ks s e w h l = tree_made k (Splat v) ks e w
      go (Op o) [] s e w h l = absurd (omega arith)
      go (Op o) (r ∷ []) s e w h l = absurd (omega arith)
      go (Op o) (r ∷ x ∷ ks) s e w h l =
          let t : tree_at node k ≡ op o (tree_at node x) (tree_at node r) = tree_made k (Op o) (r ∷ x ∷ ks) e w in
          let below : x < k = rw s at (standing_below node k 1 (rw s (omega arith))) in
          let last : r ≡ k - 1 = rw s at (last_stands k (rw s (omega arith))).1 in
          (rw l below, rw (l, ← last) t)
      go (Shift b) [] s e w h l = absurd (omega arith)
      go (Shift b) (c ∷ ks) s e w h l =
          let t : tree_at node k ≡ shift b.«from».0 b.to.0 (tree_at node c) = tree_made k (Shift b) (c ∷ ks) e w in
          let z = last_stands k (rw s (omega arith)) in
          let last : c ≡ k - 1 = rw s at z.1 in
          (z.0, rw (← last) t)

  -- ---- the table of left inputs

  pub length_lefts : (n : ℕ) → length (lefts node n) ≡ n
  unfolding lefts
  length_lefts zero = refl
  length_lefts (suc n) = length-append (lefts node n) (left_of node n ∷ []) ∙ omega (arith, length_lefts n)

  pub lefts_at : (n k : ℕ) → k < n → get_or (lefts node n) k 0 ≡ left_of node k
  unfolding lefts
  lefts_at zero k h = absurd (omega arith)
  lefts_at (suc n) k h = split k n
      (λ (l : k < n). get_or-append (lefts node n) (left_of node n ∷ []) 0 k (omega (arith, length_lefts n)) ∙ lefts_at n k l)
      (λ l.
      let e : k ≡ n = omega arith in
      let z : n + 0 ≡ n = omega arith in
      rw e (rw z at (get_or_past (lefts node n) (left_of node n ∷ []) n 0 (length_lefts n))))

-- ---- the stack

pub length_listed : (stack : List ℕ) (height : ℕ) → length (listed stack height) ≡ height
length_listed stack zero = refl
length_listed stack (suc height) = ap suc (length_listed stack height)

-- what is written at i or above is not among the first i
listed_set : (stack : List ℕ) (i v height : ℕ) → height ≤ i → listed (set stack i v) height ≡ listed stack height
listed_set stack i v zero h = refl
listed_set stack i v (suc height) h =
    rw (get_or-set_other stack i height v 0 (λ e. absurd (omega (arith, e))), listed_set stack i v height (omega arith))

listed_drop : (stack : List ℕ) (taken height : ℕ) → drop taken (listed stack height) ≡ listed stack (height - taken)
listed_drop stack zero height = rw (sub-zero height)
listed_drop stack (suc taken) zero = rw (zero-sub (suc taken))
listed_drop stack (suc taken) (suc height) = rw (suc-sub-suc height taken) (listed_drop stack taken height)

-- the last but one of two or more
pub second_listed : (stack : List ℕ) (height : ℕ) → 2 ≤ height → get_or stack (height - 2) 0 ≡ get_or (listed stack height) 1 0
second_listed stack zero h = absurd (omega arith)
second_listed stack (suc zero) h = absurd (omega arith)
second_listed stack (suc (suc height)) h = ap (λ (i : ℕ). get_or stack i 0) (omega arith)

-- so many taken off, and a number put on
pub listed_replace : (stack : List ℕ) (taken height number : ℕ) → height - taken < length stack
    → listed (set stack (height - taken) number) (height - taken + 1) ≡ number ∷ drop taken (listed stack height)
listed_replace stack taken height number h =
    let rest = height - taken in
    rw (add-one rest, get_or-set_same stack rest number 0 h, listed_set stack rest number rest (omega arith), ← (listed_drop stack taken height))

-- as many stand before node k as there are nodes before it, or fewer
length_standing_le : (node : ℕ → Node) (k : ℕ) → length (standing node k) ≤ k
unfolding standing
length_standing_le node zero = omega arith
length_standing_le node (suc k) = omega (arith, length_standing_le node k, length-drop (inputs (node k)) (standing node k))

-- so that there is a place for node k, however many are taken off
pub room_for : (node : ℕ → Node) (k taken : ℕ) (before : List ℕ) → before ≡ standing node k → k < nodes_most
    → length (drop taken before) < nodes_most
room_for node k taken before e h = rw e (omega (arith, length-drop taken (standing node k), length_standing_le node k))

-- and the table of left inputs with node k's
pub record LeftsSo (node : ℕ → Node) (k : ℕ) (left : List ℕ) : Type 0 where
  pub long : length left ≡ nodes_most
  pub each : (j : ℕ) → j < k → get_or left j 0 ≡ left_of node j

pub lefts_none : (node : ℕ → Node) (left : List ℕ) → length left ≡ nodes_most → LeftsSo node 0 left
lefts_none node left e = record { long = e; each = λ j h. absurd (omega arith) }

pub lefts_next : (node : ℕ → Node) (k v : ℕ) (left : List ℕ) → LeftsSo node k left → k < nodes_most → v ≡ left_of node k
    → LeftsSo node (k + 1) (set left k v)
lefts_next node k v left so h e =
    record {
      long = length-set left k v ∙ so.long;
      each = λ j b. split j k
          (λ (l : j < k). rw (get_or-set_other left k j v 0 (λ q. absurd (omega (arith, q)))) (so.each j l))
          (λ l. let q : j ≡ k = omega arith in rw (q, get_or-set_same left k v 0 (omega (arith, so.long))) e);
    }

pub lefts_all : (node : ℕ → Node) (left : List ℕ) → LeftsSo node nodes_most left → left ≡ lefts node nodes_most
lefts_all node left so =
    ext_get_or 0 left (lefts node nodes_most) (so.long ∙ sym (length_lefts node nodes_most))
    (λ j h. so.each j (omega (arith, so.long)) ∙ sym (lefts_at node nodes_most j (omega (arith, so.long))))

-- ---- what is linked

pub linked_node : (node : ℕ → Node) (left : ℕ → ℕ) (k : ℕ) → Linked node left (k + 1) → (n : Node) → node k ≡ n → LinkedAt node left k n
unfolding Linked
linked_node node left k l n e = rw e at (l k (omega arith))

pub linked_lower : (node : ℕ → Node) (left : ℕ → ℕ) (n k : ℕ) → k ≤ n → Linked node left n → Linked node left k
unfolding Linked
linked_lower node left n k h l j p = l j (omega arith)

-- ---- a graph that passes

pub node_takes : (kind x y : ℕ) → inputs (node_of kind x y) ≡ takes kind
unfolding takes
node_takes zero x y = refl
node_takes (suc zero) x y = refl
node_takes (suc (suc zero)) x y = refl
node_takes (suc (suc (suc zero))) x y = refl
node_takes (suc (suc (suc (suc zero)))) x y = refl
node_takes (suc (suc (suc (suc (suc k))))) x y = refl

-- node k, by its row, takes its inputs off and stands on what is left
pub standing_next : (nodes : List ℕ) (k taken : ℕ) (before : List ℕ) (row : Row) → before ≡ standing (node_at nodes) k
    → row ≡ row_at nodes k → taken ≡ takes row.kind → k ∷ drop taken before ≡ standing (node_at nodes) (k + 1)
unfolding standing node_at
standing_next nodes k taken before row b r t =
    rw (add-one k, b, t, r, node_takes (cell nodes k 0) (cell nodes k 1) (cell nodes k 2))

pub length_standing : (nodes : List ℕ) (k : ℕ) → length (standing (node_at nodes) k) ≡ waits nodes k
unfolding standing waits node_at
length_standing nodes zero = refl
length_standing nodes (suc k) =
    let e = node_takes (cell nodes k 0) (cell nodes k 1) (cell nodes k 2) in
    ap suc (length-drop (inputs (node_at nodes k)) (standing (node_at nodes) k)) ∙ omega (arith, e, length_standing nodes k)

pub formed_linked : (W : ℕ) (g : Graph) → Formed W g → (left : ℕ → ℕ) → ((k : ℕ) → k < g.N → left k ≡ left_of (node_at g.nodes) k)
    → Linked (node_at g.nodes) left g.N
unfolding Linked node_at
formed_linked W g f left l k h =
    linked_at (node_at g.nodes) k (node_at g.nodes k) refl
    (waiting_standing (node_at g.nodes) k (λ j p. enough j (omega arith))) (enough k h) left (l k h)
  where
    enough : (j : ℕ) → j < g.N → inputs (node_at g.nodes j) ≤ length (standing (node_at g.nodes) j)
    enough j p =
        rw (length_standing g.nodes j) (rw (← (node_takes (cell g.nodes j 0) (cell g.nodes j 1) (cell g.nodes j 2))) at (f.rows.enough j p))

-- the table of left inputs, of a graph that passes
pub lefts_linked : (W : ℕ) (g : Graph) → Formed W g → Linked (node_at g.nodes) (λ (j : ℕ). get_or (lefts (node_at g.nodes) nodes_most) j 0) g.N
lefts_linked W g f = formed_linked W g f _ (λ k h. lefts_at (node_at g.nodes) nodes_most k (omega (arith, f.most)))
