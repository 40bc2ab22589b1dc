-- A placed graph handed over as tables is never RANGE or SHAPE: placing keeps the fields in their ranges, and the tree's rows
-- make a graph of at most 48 nodes.
use mathlib.Core.Path.{◌≡◌}
use mathlib.Core.Bool.{true}
use Prim.Native.Nat.{ℕ, ◌*◌, ◌/◌, ◌%◌, ◌≤◌, ◌<◌}
use native.Mathlib.Omega.{arith}
use borrow.Author.Tests.{eq-eqb, ne_eqb, lt-ltb}
use Rattle.rules.specs.Limits.{bare_most}
use Rattle.rules.specs.Ranges.{head_ok, shift_ok, row_ok}
use Rattle.rules.specs.Trees.{Tree, load, splat, op, shift, count}
use Rattle.rules.specs.Offsets.{offset}
use Rattle.rules.specs.Placing.{place}
use Rattle.rules.specs.Tables.{Graph, with_tree}
use Rattle.rules.specs.declared.nodes.Offset.{Offset}
use Rattle.theory.proofs.Passing.{ShiftPasses}
use Rattle.theory.proofs.Placed.{stripped, Placeable, placeable_unshifted, Settled, place_stripped, place_settled}
use Rattle.theory.proofs.PlacedSize.{place_count}
use Rattle.theory.proofs.FormLaws.{Formed, TreeOk, tree_formed}

shift_in_range : (W D f g : ℕ) (child : Offset) → ShiftPasses W D f g child → shift_ok W D f g ≡ true
unfolding shift_ok
shift_in_range W D f g child s = rw (
  lt-ltb f W s.from_small,
  lt-ltb g W s.to_small,
  eq-eqb (f % D) 0 s.from_align,
  eq-eqb (g % D) 0 s.to_align,
  ne_eqb f g s.differ,
)

settled_ok : (W D : ℕ) (t : Tree) → Settled W D t → TreeOk W D (stripped t) → TreeOk W D t
unfolding row_ok
settled_ok W D (load w a) p h = h
settled_ok W D (splat v) p h = h
settled_ok W D (op o l r) p h = (h.0, settled_ok W D l p.0 h.1, settled_ok W D r p.1 h.2)
settled_ok W D (shift f g t) p h = (shift_in_range W D f g (offset W t) p.0, settled_ok W D t p.1 h)

pub place_formed : (W : ℕ) → 0 < W → (g : Graph) → W / g.D * g.D ≡ W → (rule : ℕ) (t : Tree) → head_ok g.D g.n g.S ≡ true
    → g.S % g.D ≡ 0 → Placeable g.D t → TreeOk W g.D t → count t ≤ bare_most → Formed W (with_tree g (place W g.S rule t))
place_formed W v g l rule t h z b o m =
    tree_formed W g (place W g.S rule t) h
    (settled_ok W g.D (place W g.S rule t) (place_settled W g.D v l g.S rule t z b)
    (rw (place_stripped W g.S rule t (placeable_unshifted g.D t b)) o))
    (omega (arith, place_count W g.S rule t (placeable_unshifted g.D t b) m))
