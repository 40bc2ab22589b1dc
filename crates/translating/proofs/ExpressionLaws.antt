-- Each node's code is made of its inputs' code: from what node k's code stands on, what each input's stands on, and from the
-- inputs' code as it was written, node k's.
use Prim.Native.Nat.{ℕ, ◌+◌, ◌*◌, ◌-◌, ◌/◌, ◌≤◌, ◌<◌}
use native.Mathlib.Omega.{arith}
use mathlib.Core.Path.{◌≡◌, ap, ◌∙◌}
use mathlib.Core.Bool.{Bool, true, false, cond}
use mathlib.Core.List.{List}
use lib.Dec.{ltb}
use Rattle.rules.specs.Limits.{vector_bytes, windows, address_most, operations, section_most, low_values}
use Rattle.rules.specs.Trees.{Tree, load, splat, op, shift}
use Rattle.rules.specs.Machine.{Load, Splat, Op}
use Rattle.rules.specs.Code.{G, beside, pair_up, code}
use Rattle.rules.specs.declared.nodes.LoadAt.{LoadAt}
use Rattle.rules.specs.declared.nodes.ShiftBy.{ShiftBy}
use Rattle.theory.proofs.Coded.{size_pos, length_code}
use Rattle.translating_rows.specs.Putting.{cut, handed, putting}
use Rattle.translating.specs.Writing.{Written, Roomy, blocks_most, Ranged, Ready}
use Rattle.translating.proofs.WritingLaws.{written_then, written_length, cut_small, put_written}

-- the row after a tree's code
pub code_rows : (t : Tree) (blocks : ℕ) {before after : List ℕ} {row next : ℕ}
    → Written before after row next (code vector_bytes t blocks row) → next ≡ row + G t
code_rows t blocks {before} {after} {row} {next} w = w.rows ∙ ap (λ (n : ℕ). row + n) (length_code vector_bytes t blocks row)

-- one vector more or less
beside_near : (f g blocks : ℕ) → (blocks ≤ beside f g blocks + 1) × (beside f g blocks ≤ blocks + 1)
unfolding beside
beside_near f g blocks = go (ltb g f)
  where
    go : (x : Bool) → (blocks ≤ cond x (blocks + 1) (blocks - 1) + 1) × (cond x (blocks + 1) (blocks - 1) ≤ blocks + 1)
    go true = (omega arith, omega arith)
    go false = (omega arith, omega arith)

module _ {t : Tree} {height blocks row : ℕ} {section : List ℕ} (r : Ready t height blocks row section) where
  pub row_free : row < section_most
  row_free = omega (arith, size_pos t, r.fits)

  -- the same, of fewer nodes on the way down
  pub lower_ready : {s : Tree} (h : ℕ) → h ≤ height → t ≡ s → Ready s h blocks row section
  lower_ready h low is =
      record {
        ranged = rw is at r.ranged;
        above = omega (arith, r.above);
        below = omega (arith, r.below);
        fits = rw is at r.fits;
        room = r.room;
      }

  -- ---- a load and a splat
  module _ (a : LoadAt) (is : t ≡ load a.window a.address.0) where
    pub load_ranged : (a.window < windows) × (a.address.0 ≤ address_most)
    load_ranged = rw is at r.ranged

    pub load_coded : {after : List ℕ} {next : ℕ}
        → handed next after ≡ putting section row (Load row (cut a.window) (cut (a.address.0 + vector_bytes * blocks)))
        → Written section after row next (code vector_bytes t blocks row)
    unfolding code
    load_coded w =
        let q = load_ranged in
        let window = cut_small a.window (omega (arith, q.0)) in
        let address = cut_small (a.address.0 + vector_bytes * blocks) (omega (arith, q.1, r.below)) in
        rw is (put_written row_free r.room (rw (window, address) at w))

  pub splat_coded : (v : ℕ) → t ≡ splat v → {after : List ℕ} {next : ℕ}
      → handed next after ≡ putting section row (Splat row (cut v) (v / low_values))
      → Written section after row next (code vector_bytes t blocks row)
  unfolding code cut
  splat_coded v is w = rw is (put_written row_free r.room w)

  -- ---- an op
  module _ (o : ℕ) (x y : Tree) (is : t ≡ op o x y) where
    op_ranged : (o < operations) × Ranged x × Ranged y
    op_ranged = rw is at r.ranged

    op_fits : row + (G x + G y + 1) ≤ section_most
    op_fits = rw is at r.fits

    pub left_ready : (h : ℕ) → h < height → Ready x h blocks row section
    left_ready h lower =
        record {
          ranged = op_ranged.1;
          above = omega (arith, r.above);
          below = omega (arith, r.below);
          fits = omega (arith, op_fits);
          room = r.room;
        }

    module _ {one : List ℕ} {middle : ℕ} (first : Written section one row middle (code vector_bytes x blocks row)) where
      pub right_ready : (h : ℕ) → h < height → Ready y h blocks middle one
      right_ready h lower =
          record {
            ranged = op_ranged.2;
            above = omega (arith, r.above);
            below = omega (arith, r.below);
            fits = omega (arith, op_fits, code_rows x blocks first);
            room = omega (arith, r.room, written_length first);
          }

      module _ {two : List ℕ} {end : ℕ} (second : Written one two middle end (code vector_bytes y blocks middle)) where
        pub op_room : (o < operations) × (0 < middle) × (middle ≤ end) × (0 < end) × (end < section_most) × Roomy two
        op_room =
            let m = code_rows x blocks first in
            let e = code_rows y blocks second in
            let f = op_fits in
            let p = size_pos x in (
              op_ranged.0,
              omega arith,
              omega arith,
              omega arith,
              omega arith,
              omega (arith, r.room, written_length first, written_length second),
            )

        pub op_coded : (a b : ℕ) → a + 1 ≡ middle → b + 1 ≡ end → {after : List ℕ} {next : ℕ}
            → handed next after ≡ putting two end (Op end (cut o) a b)
            → Written section after row next (code vector_bytes t blocks row)
        unfolding code
        op_coded a b one_is other_is e =
            let q = op_room in
            let first_register : a ≡ middle - 1 = omega arith in
            let second_register : b ≡ end - 1 = omega arith in
            let w = put_written q.4 q.5 (rw (cut_small o (omega (arith, q.0)), first_register, second_register) at e) in
            rw is
            (rw (← (code_rows x blocks first), ← (code_rows y blocks second))
            (written_then first (written_then second w)))

  -- ---- a shift
  module _ (s : ShiftBy) (c : Tree) (is : t ≡ shift s.«from».0 s.to.0 c) where
    shift_ranged : (s.«from».0 < vector_bytes) × (s.to.0 < vector_bytes) × Ranged c
    shift_ranged = rw is at r.ranged

    shift_fits : row + (2 * G c + 1) ≤ section_most
    shift_fits = rw is at r.fits

    pub this_ready : (h : ℕ) → h < height → Ready c h blocks row section
    this_ready h lower =
        record {
          ranged = shift_ranged.2;
          above = omega (arith, r.above);
          below = omega (arith, r.below);
          fits = omega (arith, shift_fits);
          room = r.room;
        }

    pub beside_room : 0 < height → (0 < blocks) × (blocks < blocks_most)
    beside_room some = (omega (arith, r.above), omega (arith, r.below))

    module _ {one : List ℕ} {middle : ℕ} (this : Written section one row middle (code vector_bytes c blocks row))
        (moved : ℕ) (e : moved ≡ beside s.«from».0 s.to.0 blocks) where
      pub other_ready : (h : ℕ) → h < height → Ready c h moved middle one
      other_ready h lower =
          let near = beside_near s.«from».0 s.to.0 blocks in
          record {
            ranged = shift_ranged.2;
            above = omega (arith, r.above);
            below = omega (arith, r.below);
            fits = omega (arith, shift_fits, code_rows c blocks this);
            room = omega (arith, r.room, written_length this);
          }

      module _ {two : List ℕ} {end : ℕ} (other : Written one two middle end (code vector_bytes c moved middle)) where
        pub pair_room : (s.«from».0 < vector_bytes) × (s.to.0 < vector_bytes) × (0 < middle) × (middle ≤ end) × (0 < end)
            × (end < section_most) × Roomy two
        pair_room =
            let m = code_rows c blocks this in
            let n = code_rows c moved other in
            let f = shift_fits in
            let p = size_pos c in (
              shift_ranged.0,
              shift_ranged.1,
              omega arith,
              omega arith,
              omega arith,
              omega arith,
              omega (arith, r.room, written_length this, written_length other),
            )

        pub shift_coded : (x y : ℕ) → x + 1 ≡ middle → y + 1 ≡ end → {after : List ℕ} {next : ℕ}
            → handed next after ≡ putting two end (pair_up vector_bytes (cut s.«from».0) (cut s.to.0) end x y)
            → Written section after row next (code vector_bytes t blocks row)
        unfolding code
        shift_coded x y one_is other_is p =
            let this_register : x ≡ middle - 1 = omega arith in
            let other_register : y ≡ end - 1 = omega arith in
            let q = pair_room in
            let from_small = cut_small s.«from».0 (omega (arith, q.0)) in
            let to_small = cut_small s.to.0 (omega (arith, q.1)) in
            let w = put_written q.5 q.6 (rw (from_small, to_small, this_register, other_register) at p) in
            rw is
            (rw (← e, ← (code_rows c blocks this), ← (code_rows c moved other))
            (written_then this (written_then other w)))
