-- What the plain loop's own functions ask of a graph, which one that passed the checks has, and what they give.
use Rattle.std.specs.Prelude.{ℕ, suc, ◌+◌, ◌*◌, ◌≤◌, ◌<◌, List, length, get_or}
use Rattle.rules.specs.Limits.{nodes_most, elements_most, address_most}
use Rattle.rules.specs.Elements.{element, modulus}
use Rattle.rules.specs.Trees.{node_at, tree_at}
use Rattle.rules.specs.PlainLoop.{window, value}
use Rattle.rules.specs.Tables.{Graph}
use Rattle.rules.specs.Checks.{length_of}
use Rattle.rules.specs.declared.nodes.LoadAt.{LoadAt}
use Rattle.rules.specs.declared.nodes.Node.{Node}
use Rattle.rules.specs.declared.nodes.Node.TheVariants.{Load, Splat, Op, Shift}
use Rattle.graph.specs.Links.{Linked}
use Rattle.plain.specs.declared.values.Turn.{Turn}

-- a load's n elements lie in its window, a splat's value is an element
abbrev pub Ranged : (D n work_len table_len : ℕ) → Node → Type 0
Ranged D n work_len table_len (Load a) =
    (a.address.0 ≤ address_most) × (a.address.0 + n * D ≤ length_of a.window work_len table_len)
Ranged D n work_len table_len (Splat v) = v < modulus D
Ranged D n work_len table_len (Op o) = Unit
Ranged D n work_len table_len (Shift s) = Unit

-- the first N nodes have a value at each of the first n elements
pub record Evaluable (D n N : ℕ) (nodes left : List ℕ) (work_len table_len : ℕ) : Type 0 where
  pub few : n ≤ elements_most
  pub most : N ≤ nodes_most
  pub linked : Linked (node_at nodes) (λ (k : ℕ). get_or left k 0) N
  pub ranged : (k : ℕ) → k < N → Ranged D n work_len table_len (node_at nodes k)

-- the loop can go: there is a root, and each element that it stores lies in work
pub record Loopable (g : Graph) (left : List ℕ) (work_len table_len : ℕ) : Type 0 where
  pub rooted : 0 < g.N
  pub store : g.S ≤ address_most
  pub bounds : g.S + g.n * g.D ≤ work_len
  pub evaluable : Evaluable g.D g.n g.N g.nodes left work_len table_len

-- at a turn of the loop, over elements of D bytes: a load's element lies in its window, and which it is
abbrev pub HasLoad : ℕ → Turn → LoadAt → Type 0
HasLoad D t a = (t.number.0 < elements_most) × Ranged D (suc t.number.0) (length t.work.now) (length t.table.now) (Load a)

abbrev pub loaded_at : ℕ → Turn → LoadAt → ℕ
loaded_at D t a = element D (window a.window t.work.now t.table.now) (a.address.0 + t.number.0 * D)

-- the tree that ends at node k has a value, and which it is
abbrev pub HasValue : ℕ → Turn → ℕ → Type 0
HasValue D t k = Evaluable D (suc t.number.0) (suc k) t.nodes.now t.left.now (length t.work.now) (length t.table.now)

abbrev pub value_at : ℕ → Turn → ℕ → ℕ
value_at D t k = value D t.work.now t.table.now (tree_at (node_at t.nodes.now) k) t.number.0
