-- The shifts of a graph's tree are the shift rows of its table: each node that is pushed brings its own, and takes none away.
use Prim.Native.Nat.{ℕ, zero, suc, ◌+◌, ◌≤◌, ◌<◌}
use mathlib.Core.Path.{◌≡◌, refl, sym, ◌∙◌}
use mathlib.Core.List.{List, [], ◌∷◌}
use native.Mathlib.Numerals.{add-one}
use native.Mathlib.Omega.{arith}
use lib.ListN.{length}
use Rattle.rules.specs.Limits.{vector_bytes}
use Rattle.rules.specs.Ranges.{takes}
use Rattle.rules.specs.Trees.{Tree, shifts, cell, node_at, push, waiting, top, tree_of}
use Rattle.rules.specs.Tables.{Graph}
use Rattle.rules.specs.Calls.{graph_tree}
use Rattle.rules.specs.Checks.{waits}
use Rattle.rules.specs.declared.nodes.Node.{Node}
use Rattle.rules.specs.declared.nodes.Node.TheVariants.{Load, Splat, Op, Shift}
use Rattle.theory.proofs.RowLaws.{length_waiting}
use Rattle.theory.proofs.FormLaws.{Formed}
use Rattle.graph.specs.Links.{inputs}
use Rattle.graph.proofs.LinkLaws.{node_takes}
use Rattle.printing.specs.Figuring.{shift_of, shifts_in}

-- ---- the count

pub no_shifts : (node : ℕ → Node) → 0 ≡ shifts_in node 0
unfolding shifts_in
no_shifts node = refl

pub one_node_more : (node : ℕ → Node) (k : ℕ) {counted here : ℕ} {n : Node} → counted ≡ shifts_in node k → n ≡ node k → here ≡ shift_of n
    → counted + here ≡ shifts_in node (k + 1)
unfolding shifts_in
one_node_more node k c e h = rw (c, h, e, add-one k)

shift_most : (n : Node) → shift_of n ≤ 1
shift_most (Load a) = omega arith
shift_most (Splat v) = omega arith
shift_most (Op o) = omega arith
shift_most (Shift s) = omega arith

shifts_most : (node : ℕ → Node) (k : ℕ) → shifts_in node k ≤ k
unfolding shifts_in
shifts_most node zero = omega arith
shifts_most node (suc k) = omega (arith, shifts_most node k, shift_most (node k))

pub few_shifts : (node : ℕ → Node) (k : ℕ) (n : Node) {counted here : ℕ} → counted ≡ shifts_in node k → here ≡ shift_of n
    → counted + here ≤ k + 1
few_shifts node k n c h = omega (arith, shifts_most node k, shift_most n)

-- ---- the tree

abbrev total : List Tree → ℕ
total [] = 0
total (t ∷ ts) = shifts t + total ts

push_shifts : (n : Node) (ts : List Tree) → inputs n ≤ length ts → total (push n ts) ≡ total ts + shift_of n
push_shifts (Load a) ts h = omega arith
push_shifts (Splat v) ts h = omega arith
push_shifts (Op o) [] h = absurd (omega arith)
push_shifts (Op o) (r ∷ []) h = absurd (omega arith)
push_shifts (Op o) (r ∷ l ∷ ts) h = omega arith
push_shifts (Shift s) [] h = absurd (omega arith)
push_shifts (Shift s) (t ∷ ts) h = omega arith

waiting_shifts : (node : ℕ → Node) (k : ℕ) → ((j : ℕ) → j < k → inputs (node j) ≤ length (waiting node j))
    → total (waiting node k) ≡ shifts_in node k
unfolding waiting shifts_in
waiting_shifts node zero enough = refl
waiting_shifts node (suc k) enough =
    push_shifts (node k) (waiting node k) (enough k (omega arith))
    ∙ rw (waiting_shifts node k (λ j h. enough j (omega arith)))

top_total : (ts : List Tree) → length ts ≡ 1 → shifts (top ts) ≡ total ts
top_total [] e = absurd (omega arith)
top_total (t ∷ []) e = omega arith
top_total (t ∷ s ∷ ts) e = absurd (omega arith)

inputs_taken : (nodes : List ℕ) (j : ℕ) → inputs (node_at nodes j) ≡ takes (cell nodes j 0)
unfolding node_at
inputs_taken nodes j = node_takes (cell nodes j 0) (cell nodes j 1) (cell nodes j 2)

pub tree_shifts : (g : Graph) → Formed vector_bytes g → shifts_in (node_at g.nodes) g.N ≡ shifts (graph_tree g)
unfolding tree_of
tree_shifts g f = sym (top_total (waiting (node_at g.nodes) g.N) (all g.N (omega arith) ∙ f.rows.now_wait)
    ∙ waiting_shifts (node_at g.nodes) g.N enough)
  where
    all : (k : ℕ) → k ≤ g.N → length (waiting (node_at g.nodes) k) ≡ waits g.nodes k
    all k h = length_waiting vector_bytes g.D g.nodes k (λ j l. f.rows.enough j (omega arith)) (λ j l. f.rows.in_range j (omega arith))

    enough : (j : ℕ) → j < g.N → inputs (node_at g.nodes j) ≤ length (waiting (node_at g.nodes) j)
    enough j h = rw (all j (omega arith), inputs_taken g.nodes j) (f.rows.enough j h)
