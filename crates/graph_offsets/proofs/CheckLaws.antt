-- The whole check from its parts: the nodes, the root, and the form before them.
use Rattle.std.proofs.Common.{◌≡◌, ℕ, suc, ◌%◌, true, false, not, List, [], ◌∷◌, sym, ◌∙◌}
use Rattle.std.specs.Prelude.{Ok, Err}
use Rattle.rules.specs.Limits.{vector_bytes}
use Rattle.rules.specs.Answers.{OFFSET, at, done, refuse_if, first, of_refusal}
use Rattle.rules.specs.Trees.{bytes, tree_of}
use Rattle.rules.specs.Offsets.{agree, root_kept}
use Rattle.rules.specs.Tables.{Graph, graph_of}
use Rattle.rules.specs.Checks.{store_line, offset_row, offset_check}
use Rattle.rules.specs.Calls.{checking, offset_checking}
use Rattle.rules.specs.declared.answers.Refusal.{Refusal}
use Rattle.rules.specs.declared.answers.Refusal.TheVariants.{Room, Line, Range, Shape, Bare, Window, Align, Bounds, Carry, Long, Out, Fault}
use Rattle.rules.specs.declared.answers.Refusal.TheVariants as Refused
use Rattle.rules.specs.declared.nodes.Offset.{Offset}
use Rattle.rules.specs.declared.nodes.Offset.TheVariants.{At}
use Rattle.theory.proofs.FormLaws.{first_each}
use Rattle.theory.proofs.Firsts.{first_alone, first_passed, first_refused}
use Rattle.graph.specs.declared.headers.Header.{Header}
use Rattle.graph.proofs.HeaderLaws.{refusal_first}
use Rattle.graph_offsets.specs.Judging.{NodesFound}

module _ (g : Graph) where
  pub nodes_broken : (refusal : Refusal) → NodesFound g.nodes g.N (Err refusal) → of_refusal refusal ≡ offset_check vector_bytes g
  unfolding offset_check
  nodes_broken refusal found = sym (found (refuse_if (not (root_kept vector_bytes g.S (tree_of g.nodes g.N))) (at OFFSET store_line) ∷ []))

  module _ (root : Offset) (found : NodesFound g.nodes g.N (Ok root)) where
    -- what is left is the root's rule
    left : offset_check vector_bytes g ≡ first (refuse_if (not (agree (At (bytes (g.S % vector_bytes))) root)) (at OFFSET store_line) ∷ [])
    unfolding offset_check
    left = rw found.1 (first_each (offset_row vector_bytes g) g.N _ found.0)

    -- by the header that was read
    module _ (h : Header) (read : h.store.0 ≡ g.S) where
      pub root_kept_lem : agree (At (bytes (h.store.0 % vector_bytes))) root ≡ true → done ≡ offset_check vector_bytes g
      unfolding first
      root_kept_lem e = sym (left ∙ rw (← read, e))

      pub root_broken : agree (At (bytes (h.store.0 % vector_bytes))) root ≡ false → at OFFSET store_line ≡ offset_check vector_bytes g
      unfolding first
      root_broken e = sym (left ∙ rw (← read, e))

-- ---- the form first

pub form_refuses : (head nodes : List ℕ) (number place : ℕ) → checking vector_bytes head nodes ≡ at (suc number) place
    → at (suc number) place ≡ offset_checking vector_bytes head nodes
unfolding offset_checking
form_refuses head nodes number place e = sym (first_refused _ _ number place e)

-- by the refusal that the form gave
pub form_refusal : (head nodes : List ℕ) (refusal : Refusal) → of_refusal refusal ≡ checking vector_bytes head nodes
    → of_refusal refusal ≡ offset_checking vector_bytes head nodes
unfolding offset_checking
form_refusal head nodes Room e = form_refuses head nodes 0 0 (sym e)
form_refusal head nodes (Line k) e = form_refuses head nodes 1 k (sym e)
form_refusal head nodes (Range k) e = form_refuses head nodes 2 k (sym e)
form_refusal head nodes (Shape k) e = form_refuses head nodes 3 k (sym e)
form_refusal head nodes (Bare k) e = form_refuses head nodes 4 k (sym e)
form_refusal head nodes (Window k) e = form_refuses head nodes 5 k (sym e)
form_refusal head nodes (Align k) e = form_refuses head nodes 6 k (sym e)
form_refusal head nodes (Bounds k) e = form_refuses head nodes 7 k (sym e)
form_refusal head nodes (Carry k) e = form_refuses head nodes 8 k (sym e)
form_refusal head nodes (Refused.Offset k) e = form_refuses head nodes 9 k (sym e)
form_refusal head nodes Long e = form_refuses head nodes 10 0 (sym e)
form_refusal head nodes (Out k) e = sym (refusal_first (Out k) _ _ (sym e))
form_refusal head nodes (Fault k) e = sym (refusal_first (Fault k) _ _ (sym e))

pub form_passes : (head nodes : List ℕ) → checking vector_bytes head nodes ≡ done
    → offset_check vector_bytes (graph_of head nodes) ≡ offset_checking vector_bytes head nodes
unfolding offset_checking offset_check
form_passes head nodes e = sym (first_passed (checking vector_bytes head nodes) _ e ∙ first_alone _)
