-- The rows written from a sheet's last node are those of its placed tree; they fit, and with what was zero before they fill the
-- table as a call hands it back.
use Prim.Native.Nat.{ℕ, zero, suc, ◌+◌, ◌-◌, ◌≤◌}
use mathlib.Core.Path.{◌≡◌, refl, sym, ap, ◌∙◌}
use mathlib.Core.List.{List, [], ◌∷◌}
use native.Mathlib.Nat.{sub-zero}
use native.Mathlib.Omega.{arith}
use lib.ListN.{length, set, replicate, length-replicate}
use lib.Seq.{sets, sets-eq}
use Rattle.std.proofs.lemmas.List.{drop-replicate}
use Rattle.rules.specs.Limits.{vector_bytes, nodes_most}
use Rattle.rules.specs.Frames.{shift_kind}
use Rattle.rules.specs.Trees.{Tree, cell, node_of, node_at, tree_at, rows, count}
use Rattle.rules.specs.Offsets.{store_offset}
use Rattle.rules.specs.Placing.{dominant, place}
use Rattle.rules.specs.Tables.{Graph, padded}
use Rattle.rules.specs.Calls.{graph_tree}
use Rattle.rules.specs.declared.nodes.Node.{Node}
use Rattle.theory.proofs.RowLaws.{length_rows}
use Rattle.theory.proofs.Checked.{sixteen, bare_done, bare_count, graph_unshifted}
use Rattle.theory.proofs.PlacedSize.{place_count}
use Rattle.theory.proofs.Placed.{Unshifted}
use Rattle.graph.specs.Links.{left_in, lefts, Linked}
use Rattle.graph.proofs.LinkLaws.{lefts_linked}
use Rattle.graph.proofs.InputLaws.{some_node, root_tree}
use Rattle.placing_targets.specs.Met.{dominant_in}
use Rattle.placing_targets.specs.Rules.{at, moves_of}
use Rattle.placing.specs.Moves.{goes, moved}
use Rattle.placing.specs.Writing.{Wrote}
use Rattle.placing.specs.Records.{node_in, moved_rows, Recorded, NoShift, Ready}
use Rattle.placing.specs.Handing.{BareSheet}
use Rattle.placing.specs.declared.records.MovedNodes.{MovedNodes}
use Rattle.placing.specs.declared.rows.Writer.{Writer}
use Rattle.placing.proofs.MoveLaws.{place_moved}
use Rattle.placing.proofs.DominantLaws.{dominant_met}
use Rattle.placing.proofs.RecordLaws.{same_tree, recorded_ready}

-- ---- a bare sheet

kind_no_shift : (kind x y : ℕ) → (kind ≡ shift_kind → ⊥) → NoShift (node_of kind x y)
kind_no_shift zero x y h = tt
kind_no_shift (suc zero) x y h = tt
kind_no_shift (suc (suc zero)) x y h = tt
kind_no_shift (suc (suc (suc zero))) x y h = tt
kind_no_shift (suc (suc (suc (suc zero)))) x y h = h refl
kind_no_shift (suc (suc (suc (suc (suc k))))) x y h = tt

module _ (g : Graph) (b : BareSheet g) where
  abbrev node : ℕ → Node
  node = node_at g.nodes

  pub has_last : 1 ≤ g.N
  has_last = some_node g b.formed

  pub sheet_linked : (left : List ℕ) → left ≡ lefts node nodes_most → Linked node (left_in left) g.N
  sheet_linked left e = rw e (lefts_linked vector_bytes g b.formed)

  unshifted : Unshifted (graph_tree g)
  unshifted = graph_unshifted vector_bytes sixteen g b.formed [] [] b.bare

  module _ (rule : ℕ) where
    abbrev made : Tree
    made = place vector_bytes g.S rule (graph_tree g)

    pub placed_room : length (rows made) ≤ 144
    placed_room =
        omega (arith, length_rows made, place_count vector_bytes g.S rule (graph_tree g) unshifted (bare_count vector_bytes g b.formed b.bare))

    module _ (sheet : MovedNodes) (is : Recorded vector_bytes sheet g.nodes g.N) where
      pub sheet_ready : sheet.lefts ≡ lefts node nodes_most → Ready vector_bytes sheet g.N
      unfolding node_at
      sheet_ready e =
          recorded_ready vector_bytes sheet g.nodes g.N is b.formed.most (sheet_linked sheet.lefts e)
          (λ k h. kind_no_shift (cell g.nodes k 0) (cell g.nodes k 1) (cell g.nodes k 2) ((bare_done g b.bare).0 k h))

      pub last_rows : sheet.moves ≡ moves_of vector_bytes g.S rule (dominant_in vector_bytes g.S node g.N)
          → moved_rows vector_bytes sheet (g.N - 1) (at (store_offset vector_bytes g.S)) ≡ rows made
      last_rows e =
          let c = store_offset vector_bytes g.S in
          let by-tree : sheet.moves ≡ moves_of vector_bytes g.S rule (dominant vector_bytes g.S (graph_tree g)) = rw (dominant_met g b.formed) at e in
          let t : tree_at (node_in sheet.records) (g.N - 1) ≡ graph_tree g =
          same_tree vector_bytes sheet g.nodes g.N is (g.N - 1) (omega (arith, has_last))
          ∙ root_tree g.nodes g.N has_last in
          ap (λ (x : Tree). rows (goes vector_bytes (at c) (moved vector_bytes sheet.moves x))) t
          ∙ rw by-tree (ap rows (sym (place_moved vector_bytes g.S rule (graph_tree g) unshifted)))

-- ---- a table that was cleared

cleared_sets : (len : ℕ) (made : List ℕ) → length made ≤ len → sets (padded len []) 0 made ≡ padded len made
unfolding padded
cleared_sets len made h =
    let z : 0 + length made ≡ length made = omega arith in
    rw sub-zero
    (sets-eq made (replicate len 0) 0 (omega (arith, length-replicate {A = ℕ} len 0))
    ∙ rw (z, drop-replicate {X = ℕ} (length made) len 0))

-- the rows of a tree, from the first row on
pub rows_handed : (len : ℕ) (t : Tree) (before after : Writer) → before.row ≡ 0 → before.table.now ≡ padded len [] → length (rows t) ≤ len
    → Wrote before (rows t) after → (after.row ≡ count t) × (after.table.now ≡ padded len (rows t))
rows_handed len t before after first e h w =
    (omega (arith, w.free, length_rows t), w.entries ∙ rw (first, e) (cleared_sets len (rows t) h))

-- four entries of a head
pub head_handed : (len d n s N : ℕ) → 10 ≤ len
    → set (set (set (set (padded len []) 0 d) 1 n) 2 s) 3 N ≡ padded len (d ∷ n ∷ s ∷ N ∷ [])
head_handed len d n s N h = cleared_sets len (d ∷ n ∷ s ∷ N ∷ []) (omega arith)
