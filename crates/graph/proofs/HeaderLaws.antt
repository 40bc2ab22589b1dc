-- A head whose fields are in range, or whose graph passes, loses nothing in its header; and the whole check from its parts.
use Prim.Native.Nat.{ℕ, suc, ◌-◌, min}
use mathlib.Core.Path.{◌≡◌, refl, ◌∙◌}
use mathlib.Core.Bool.{Bool, true, false, not, ◌||◌}
use mathlib.Core.List.{List, [], ◌∷◌, ◌++◌}
use native.Mathlib.Omega.{arith}
use borrow.Author.Tests.{ltb-false}
use lib.Dec.{ltb, eqb}
use lib.ListN.{get_or}
use Rattle.std.specs.Prelude.{Ok, Err}
use Rattle.rules.specs.Limits.{vector_bytes, nodes_most}
use Rattle.rules.specs.Units.{width_bytes}
use Rattle.rules.specs.Answers.{Answer, RANGE, SHAPE, at, refuse_if, first, each, of_refusal}
use Rattle.rules.specs.Tables.{graph_of}
use Rattle.rules.specs.Checks.{store_line, head_short, nodes_short, line, waits, row_check, end_check, form_check}
use Rattle.rules.specs.Calls.{checking}
use Rattle.rules.specs.declared.answers.Refusal.{Refusal}
use Rattle.theory.proofs.AnswerLaws.{refusal_not_done}
use Rattle.theory.proofs.FormLaws.{Formed, first_each}
use Rattle.theory.proofs.Firsts.{form_alone}
use Rattle.theory.proofs.Checked.{head_passes}
use Rattle.ranges.proofs.RangeLaws.{width_back_lem}
use Rattle.graph.specs.Headers.{head_in_range, header_of, graph_in}
use Rattle.graph.specs.Forms.{RowsFound, end_found}

pub header_width : (head : List ℕ) → head_in_range head ≡ true → width_bytes (header_of head).width ≡ get_or head 0 0
header_width head e = width_back_lem (get_or head 0 0) (head_passes (get_or head 0 0) (get_or head 1 0) (get_or head 2 0) e).width

-- the header of a graph that passes
pub header_graph : (W : ℕ) (head nodes : List ℕ) → Formed W (graph_of head nodes) → graph_in (header_of head) nodes ≡ graph_of head nodes
header_graph W head nodes f =
    let count : min (get_or head 3 0) nodes_most ≡ get_or head 3 0 = omega (arith, f.most) in
    rw (header_width head f.head, count)

-- a refusal is the answer of every list that begins with it
pub refusal_first : (refusal : Refusal) (check : Answer) (later : List Answer) → check ≡ of_refusal refusal → first (check ∷ later) ≡ of_refusal refusal
unfolding first
refusal_first refusal check later e =
    let n : (of_refusal refusal).number ≡ suc ((of_refusal refusal).number - 1) = omega (arith, refusal_not_done refusal) in
    rw (e, n)

-- the end is judged alone, and where there is a 65th node it does not matter how many wait
end_judged : (count now : ℕ) (nodes : List ℕ) → now ≡ waits nodes (min count nodes_most)
    → first (refuse_if (ltb nodes_most count || not (eqb (waits nodes count) 1)) (at SHAPE (line (min count nodes_most))) ∷ []) ≡ end_found count now
unfolding first
end_judged count now nodes e = go (ltb nodes_most count) refl
  where
    alone : (wrong : Bool) (place : ℕ) → first (refuse_if wrong (at SHAPE place) ∷ []) ≡ refuse_if wrong (at SHAPE place)
    alone true place = refl
    alone false place = refl

    go : (more : Bool) → ltb nodes_most count ≡ more
        → first (refuse_if (more || not (eqb (waits nodes count) 1)) (at SHAPE (line (min count nodes_most))) ∷ [])
        ≡ refuse_if (more || not (eqb now 1)) (at SHAPE (line (min count nodes_most)))
    go true h = refl
    go false h =
        let m : min count nodes_most ≡ count = omega (arith, ltb-false nodes_most count h) in
        let w : now ≡ waits nodes count = rw m at e in
        rw (w, m) (alone (not (eqb (waits nodes count) 1)) (line count))

module _ (head nodes : List ℕ) where
  -- where neither table is too short, the form alone is judged
  pub roomy_checking : (W : ℕ) → (head_short head || nodes_short nodes) ≡ false → checking W head nodes ≡ form_check W (graph_of head nodes)
  unfolding checking first
  roomy_checking W e = rw e (form_alone W (graph_of head nodes))

  pub head_refused : head_in_range head ≡ false → form_check vector_bytes (graph_of head nodes) ≡ at RANGE store_line
  unfolding form_check first
  head_refused e = rw e

  module _ (fine : head_in_range head ≡ true) where
    head_passed : form_check vector_bytes (graph_of head nodes)
        ≡ first (each (row_check vector_bytes (graph_of head nodes)) (min (get_or head 3 0) nodes_most) ++ end_check (graph_of head nodes) ∷ [])
    unfolding form_check first
    head_passed = rw fine

    pub rows_refused : (refusal : Refusal) → RowsFound (graph_in (header_of head) nodes) (Err refusal)
        → form_check vector_bytes (graph_of head nodes) ≡ of_refusal refusal
    rows_refused refusal found = head_passed ∙ rw (header_width head fine) at (found (end_check (graph_of head nodes) ∷ []))

    pub rows_waiting : (now : ℕ) → RowsFound (graph_in (header_of head) nodes) (Ok now)
        → form_check vector_bytes (graph_of head nodes) ≡ end_found (get_or head 3 0) now
    rows_waiting now found =
        head_passed
        ∙ first_each (row_check vector_bytes (graph_of head nodes)) (min (get_or head 3 0) nodes_most) (end_check (graph_of head nodes) ∷ [])
        (rw (header_width head fine) at found.0)
        ∙ end_judged (get_or head 3 0) now nodes found.1
