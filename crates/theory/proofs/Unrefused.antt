-- After any of the four placing rules OFFSET and LONG are never given, and the placed graph passes the check of tables: the
-- placed tree keeps the offset rules at every node, so each of its rows does.
use mathlib.Core.Path.{◌≡◌, refl, sym, ◌∙◌}
use mathlib.Core.Bool.{true}
use mathlib.Core.List.{List, [], ◌∷◌, ◌++◌, append_assoc, append-nil}
use Prim.Native.Nat.{ℕ, suc, ◌+◌, ◌-◌, ◌*◌, ◌≤◌, ◌<◌}
use native.Mathlib.Nat.{zero-add}
use native.Mathlib.Omega.{arith}
use borrow.Author.Tests.{eq-eqb, le-ltb}
use lib.ListN.{length, length-append}
use Rattle.rules.specs.Limits.{long_most}
use Rattle.rules.specs.Answers.{done, first}
use Rattle.rules.specs.Frames.{op_kind, shift_kind}
use Rattle.rules.specs.Trees.{Tree, load, splat, op, shift, bytes, node_at, tree_at, tree_of, rows, count}
use Rattle.rules.specs.Offsets.{offset, is_at, rule_kept}
use Rattle.rules.specs.Placing.{place}
use Rattle.rules.specs.Code.{G}
use Rattle.rules.specs.Tables.{Graph}
use Rattle.rules.specs.Checks.{bare_check, align_check, offset_row, offset_check, long_check, form_check}
use Rattle.rules.specs.Calls.{graph_tree, placed_graph}
use Rattle.rules.specs.declared.nodes.Offset.{Offset}
use Rattle.rules.specs.declared.nodes.Offset.TheVariants.{At}
use Rattle.theory.proofs.Lists.{split}
use Rattle.theory.proofs.RowLaws.{length_rows, waiting_in, rows_read_back}
use Rattle.theory.proofs.FormLaws.{Formed, Everywhere, first_each, formed_passes, formed_tree_ok}
use Rattle.theory.proofs.Placed.{Unshifted, Settled, place_root, place_settled}
use Rattle.theory.proofs.PlacedSize.{place_short}
use Rattle.theory.proofs.PlacedForm.{place_formed}
use Rattle.theory.proofs.Checked.{VectorWidth, head_passes, align_done, bare_count, graph_placeable, graph_unshifted}

-- ---- what holds everywhere in a tree holds of the node of each of its rows

module _ (P : Tree → Type 0) (table : List ℕ) where
  -- the last row is the tree's own
  root_row : (before after : List ℕ) (k i : ℕ) (t : Tree) → table ≡ before ++ (rows t ++ after) → length before ≡ 3 * k
      → suc (k + i) ≡ k + count t → P t → P (tree_at (node_at table) (k + i))
  unfolding tree_at
  root_row before after k i t e l h p = rw (h, waiting_in table before after k t e l) p

  rows_everywhere : (before after : List ℕ) (k : ℕ) (t : Tree) → table ≡ before ++ (rows t ++ after) → length before ≡ 3 * k
      → Everywhere P t → (i : ℕ) → i < count t → P (tree_at (node_at table) (k + i))
  rows_everywhere before after k (load w a) e l p i h = root_row before after k i (load w a) e l (omega arith) p
  rows_everywhere before after k (splat v) e l p i h = root_row before after k i (splat v) e l (omega arith) p
  rows_everywhere before after k (op o s t) e l p i h = split i (count s)
      (λ b. rows_everywhere before (rows t ++ ((op_kind ∷ o ∷ 0 ∷ []) ++ after)) k s (e ∙ simp append_assoc) l p.1 i b)
      (λ (b : count s ≤ i). split i (count s + count t)
      (λ (q : i < count s + count t).
      let z : k + count s + (i - count s) ≡ k + i = omega arith in
      rw z at
      (rows_everywhere (before ++ rows s) ((op_kind ∷ o ∷ 0 ∷ []) ++ after) (k + count s) t (e ∙ simp append_assoc)
      (length-append before (rows s) ∙ omega (arith, length_rows s)) p.2 (i - count s) (omega arith)))
      (λ q. root_row before after k i (op o s t) e l (omega arith) p.0))
  rows_everywhere before after k (shift f g t) e l p i h = split i (count t)
      (λ b. rows_everywhere before ((shift_kind ∷ f ∷ g ∷ []) ++ after) k t (e ∙ simp append_assoc) l p.1 i b)
      (λ b. root_row before after k i (shift f g t) e l (omega arith) p.0)

-- ---- the offset rules

is_at_lem : (o : Offset) (f : ℕ) → o ≡ At (bytes f) → is_at o f ≡ true
is_at_lem o f e = rw e (eq-eqb f f refl)

settled_rules : (W D : ℕ) (t : Tree) → Settled W D t → Everywhere (λ s. rule_kept W s ≡ true) t
settled_rules W D (load w a) p = refl
settled_rules W D (splat v) p = refl
settled_rules W D (op o l r) p = (p.2, settled_rules W D l p.0, settled_rules W D r p.1)
settled_rules W D (shift f g t) p = (is_at_lem (offset W t) f p.0.offset, settled_rules W D t p.1)

module _ (W : ℕ) (v : VectorWidth W) (g : Graph) (f : Formed W g) (rule : ℕ)
    (hs : (bare_check g).number ≡ 0) (ha : (align_check g).number ≡ 0) where
  abbrev placed_tree : Tree
  placed_tree = place W g.S rule (graph_tree g)

  settled : Settled W g.D placed_tree
  settled =
      place_settled W g.D v.vector (v.lanes g.D (head_passes g.D g.n g.S f.head).width) g.S rule (graph_tree g)
      (align_done g ha).0 (graph_placeable W v g f [] [] hs ha)

  unshifted : Unshifted (graph_tree g)
  unshifted = graph_unshifted W v g f [] [] hs

  -- OFFSET is never given after placing
  pub placed_offset_done : offset_check W (placed_graph W rule g) ≡ done
  unfolding offset_check first
  placed_offset_done =
      let t : Tree = placed_tree in
      let e : tree_of (rows t) (count t) ≡ t = rw append-nil at (rows_read_back t []) in
      rw (first_each (offset_row W (placed_graph W rule g)) (count t) _ row, e, place_root W g.S rule (graph_tree g) unshifted)
    where
      row : (j : ℕ) → j < count placed_tree → offset_row W (placed_graph W rule g) j ≡ done
      row j h =
          let k : rule_kept W (tree_at (node_at (rows placed_tree)) (0 + j)) ≡ true =
          rows_everywhere (λ s. rule_kept W s ≡ true) (rows placed_tree) [] [] 0 placed_tree (sym (append-nil (rows placed_tree))) refl
          (settled_rules W g.D placed_tree settled) j h in
          rw (rw zero-add at k)

  -- nor LONG
  pub placed_long_done : long_check placed_tree ≡ done
  unfolding long_check
  placed_long_done =
      rw (le-ltb long_most (G placed_tree) (place_short W g.S rule (graph_tree g) unshifted (bare_count W g f hs)))

  -- and the placed graph, handed over as tables, is neither RANGE nor SHAPE
  pub placed_form_done : form_check W (placed_graph W rule g) ≡ done
  placed_form_done =
      formed_passes W (placed_graph W rule g)
      (place_formed W v.vector g (v.lanes g.D (head_passes g.D g.n g.S f.head).width) rule (graph_tree g) f.head
      (align_done g ha).0 (graph_placeable W v g f [] [] hs ha) (formed_tree_ok W g f) (bare_count W g f hs))
