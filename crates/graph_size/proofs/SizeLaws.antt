-- A sum of capped sizes, capped, is the sum of the sizes, capped: so G is counted up to its cap from the inputs' counts.
use Rattle.std.proofs.Common.{◌≡◌, ℕ, suc, ◌+◌, ◌*◌, ◌-◌, ◌≤◌, List, sym, ap, ◌∙◌, get_or, arith, min}
use Rattle.rules.specs.Limits.{vector_bytes, long_most}
use Rattle.rules.specs.Answers.{Answer, DONE, done, of_refusal}
use Rattle.rules.specs.Trees.{Tree, load, splat, op, shift}
use Rattle.rules.specs.Code.{G}
use Rattle.rules.specs.Tables.{graph_of}
use Rattle.rules.specs.Calls.{checking, graph_tree}
use Rattle.rules.specs.declared.answers.Refusal.{Refusal}
use Rattle.theory.proofs.AnswerLaws.{refusal_not_done}
use Rattle.theory.proofs.Firsts.{checked_formed}
use Rattle.graph.specs.Linking.{tree}
use Rattle.graph.proofs.InputLaws.{root_tree}
use Rattle.graph.proofs.LinkedLaws.{some_counted}
use Rattle.graph_size.specs.Sizing.{capped, size_of}

pub capped_sum : (a b : ℕ) → capped (capped a + capped b + 1) ≡ capped (a + b + 1)
unfolding capped
capped_sum a b = omega arith

pub capped_most : (size a : ℕ) → size ≡ capped a → size ≤ long_most + 1
unfolding capped
capped_most size a e = omega arith

-- ---- a node's count, from its inputs'

pub load_size : (t : Tree) (window address : ℕ) → t ≡ load window address → 1 ≡ capped (G t)
unfolding capped
load_size t window address e = rw e

pub splat_size : (t : Tree) (v : ℕ) → t ≡ splat v → 1 ≡ capped (G t)
unfolding capped
splat_size t v e = rw e

pub op_size : (t l r : Tree) (o one other : ℕ) → t ≡ op o l r → one ≡ capped (G l) → other ≡ capped (G r)
    → min (one + other + 1) (long_most + 1) ≡ capped (G t)
unfolding capped
op_size t l r o one other e p q = rw (p, q, e) (capped_sum (G l) (G r))

pub shift_size : (t child : Tree) (a b one : ℕ) → t ≡ shift a b child → one ≡ capped (G child)
    → min (one + one + 1) (long_most + 1) ≡ capped (G t)
unfolding capped
shift_size t child a b one e p =
    let g = G child in
    let d : g + g + 1 ≡ 2 * g + 1 = omega arith in
    rw (p, e) (capped_sum g g ∙ ap capped d)

-- ---- a graph handed over as tables

module _ (head nodes : List ℕ) where
  pub refused_size : (refusal : Refusal) → of_refusal refusal ≡ checking vector_bytes head nodes → 0 ≡ size_of head nodes
  unfolding size_of
  refused_size refusal e =
      let n : (of_refusal refusal).number ≡ suc ((of_refusal refusal).number - 1) = omega (arith, refusal_not_done refusal) in
      rw (← e, n)

  -- of a graph that passes it is the capped G of its tree
  pub checked_size : (checking vector_bytes head nodes).number ≡ DONE → size_of head nodes ≡ capped (G (graph_tree (graph_of head nodes)))
  unfolding size_of
  checked_size e = rw e

  -- which ends at its last node
  pub root_size : (root : ℕ) → done ≡ checking vector_bytes head nodes → root + 1 ≡ get_or head 3 0
      → capped (G (tree nodes root)) ≡ size_of head nodes
  root_size root e is =
      let some = some_counted head nodes (checked_formed vector_bytes head nodes (sym e)) in
      let at : root ≡ get_or head 3 0 - 1 = omega arith in
      rw (at, root_tree nodes (get_or head 3 0) some) (sym (checked_size (ap (λ (answer : Answer). answer.number) (sym e))))
