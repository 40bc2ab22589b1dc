-- A section is the code of the tree, the old block and what follows: each list as it was written, one after the other.
use Prim.Native.Nat.{ℕ, zero, suc, ◌+◌, ◌*◌, ◌-◌, ◌≤◌, ◌<◌}
use native.Mathlib.Nat.{zero-add}
use native.Mathlib.Omega.{arith}
use mathlib.Core.Path.{◌≡◌, refl, ◌∙◌}
use mathlib.Core.List.{List, [], ◌∷◌, ◌++◌, append_assoc}
use lib.ListN.{length-append}
use Rattle.rules.specs.Limits.{vector_bytes, elements_most, section_most, low_values}
use Rattle.rules.specs.Trees.{Tree}
use Rattle.rules.specs.Offsets.{store_offset}
use Rattle.rules.specs.Vectors.{block_zero, held}
use Rattle.rules.specs.Machine.{Load, Splice, Store}
use Rattle.rules.specs.Code.{G, code, new, old_block, only_section, prologue_section, body_section, body_of, epilogue_section, epilogue_of}
use Rattle.rules.specs.declared.program.Instruction.{Instruction}
use Rattle.theory.proofs.Coded.{size_pos, length_code}
use Rattle.translating_rows.specs.Putting.{cut, handed, putting}
use Rattle.graph.specs.NodeTables.{NodeTable}
use Rattle.graph.specs.Linking.{tree}
use Rattle.translating.specs.Writing.{Written, Roomy, Ready, Root, root_of, new_and_old}
use Rattle.translating.proofs.WritingLaws.{written_then, written_length, written_none, cut_small, put_written, splice_written, store_written}
use Rattle.translating.proofs.CountLaws.{offset_small}
use Rattle.translating.proofs.ExpressionLaws.{code_rows}

-- the block at address 0, as the code names it
abbrev block_number : ℕ
block_number = 134217728

-- c is a number that an entry can hold
offset_fits : (S c : ℕ) → c ≡ store_offset vector_bytes S → c < low_values
offset_fits S c e = omega (arith, offset_small S)

-- the last node of a table is its root
pub root_is : (table : NodeTable) (k : ℕ) → k + 1 ≡ table.count → tree table.rows k ≡ root_of table
root_is table k last = let e : k ≡ table.count - 1 = omega arith in rw e

module _ {t : Tree} {S : ℕ} (r : Root t S) where
  -- its code can be written from the first row on
  pub root_ready : (k : ℕ) {s : Tree} {section : List ℕ} → k < 256 → s ≡ t → Roomy section → Ready s k block_number 0 section
  root_ready k low is room =
      record {
        ranged = rw is r.ranged;
        above = omega arith;
        below = omega arith;
        fits = rw is (omega (arith, r.short));
        room = room;
      }

  -- what is free after the tree's code, and how it goes on
  module _ {before one : List ℕ} {old : ℕ} (room : Roomy before) (w : Written before one 0 old (code vector_bytes t block_number 0)) where
    tree_end : old ≡ G t
    tree_end = code_rows t block_number w ∙ zero-add (G t)

    pub tree_room : (0 < old) × (old < section_most) × Roomy one
    tree_room =
        let e = tree_end in
        (omega (arith, size_pos t), omega (arith, r.short), omega (arith, room, written_length w))

    pub blocks_written : {after : List ℕ} {next : ℕ}
        → handed next after ≡ putting one old (Load old (cut 0) (cut (S + vector_bytes * block_number)))
        → Written before after 0 next (new_and_old S t)
    unfolding block_zero
    blocks_written e =
        let window = cut_small 0 (omega arith) in
        let address = cut_small (S + vector_bytes * block_number) (omega (arith, r.address)) in
        let v = put_written tree_room.1 tree_room.2 (rw (window, address) at e) in
        rw tree_end at (written_then w v)

    pub body_written : (x : ℕ) → x + 1 ≡ old → {after : List ℕ} {next : ℕ} (full : ℕ) → 2 ≤ full
        → handed next after ≡ putting one old (Store x (cut (held vector_bytes S)))
        → Written before after 0 next (body_of vector_bytes S t full)
    unfolding body_section block_zero
    body_written x x_is zero h e = absurd (omega arith)
    body_written x x_is (suc zero) h e = absurd (omega arith)
    body_written x x_is (suc (suc full)) h e =
        let register : x ≡ old - 1 = omega arith in
        rw tree_end at (written_then w (store_written tree_room.1 tree_room.2 r.address (rw register at e)))

  pub no_body : (section : List ℕ) (full : ℕ) → full < 2 → Written section section 0 0 (body_of vector_bytes S t full)
  no_body section zero h = written_none section 0
  no_body section (suc zero) h = written_none section 0
  no_body section (suc (suc full)) h = absurd (omega arith)

  -- what is free after the old block, and how it goes on
  module _ {before one : List ℕ} {first : ℕ} (room : Roomy before)
      (w : Written before one 0 first (new_and_old S t)) where
    first_row : first ≡ G t + 1
    first_row =
        let n = length-append (new vector_bytes S t) (old_block vector_bytes S t (G t) ∷ []) in
        omega (arith, w.rows, n, length_code vector_bytes t (block_zero vector_bytes) 0)

    pub blocks_room : (2 ≤ first) × (first + 3 ≤ section_most) × Roomy one
    blocks_room =
        let e = first_row in
        (omega (arith, size_pos t), omega (arith, r.short), omega (arith, room, written_length w))

    then : {after : List ℕ} {next : ℕ} (is : List Instruction) → Written one after first next is
        → Written before after 0 next (new vector_bytes S t ++ (old_block vector_bytes S t (G t) ∷ is))
    then is v = rw append_assoc at (written_then w v)

    here : first < section_most
    here = omega (arith, blocks_room.1)

    -- x and y are the registers of the new block and of the old one
    module _ (x y : ℕ) (x_is : x + 2 ≡ first) (y_is : y + 1 ≡ first) where
      new_is : x ≡ G t - 1
      new_is = omega (arith, first_row)

      old_is : y ≡ G t
      old_is = omega (arith, first_row)

      -- a splice right after the blocks, and the store of what it made
      spliced_stored : {two after : List ℕ} {last next : ℕ} (a b amount : ℕ) → amount < low_values
          → handed last two ≡ putting one first (Splice first a b (cut amount))
          → handed next after ≡ putting two last (Store first (cut (held vector_bytes S)))
          → Written one after first next (Splice first a b amount ∷ Store first (held vector_bytes S) ∷ [])
      spliced_stored {two} {after} {last} {next} a b amount small spliced stored =
          let p : Written one two first last (Splice first a b amount ∷ []) = splice_written here blocks_room.2 small spliced in
          let long = written_length p in
          written_then p (store_written (omega (arith, p.rows, blocks_room.1)) (omega (arith, blocks_room.2)) r.address stored)

      module _ {two : List ℕ} {last c : ℕ} (at_c : c ≡ store_offset vector_bytes S) where
        pub prologue_written : {after : List ℕ} {next : ℕ}
            → handed last two ≡ putting one first (Splice first y x (cut c))
            → handed next after ≡ putting two last (Store first (cut (held vector_bytes S)))
            → Written before after 0 next (prologue_section vector_bytes S t)
        unfolding prologue_section
        prologue_written spliced stored =
            rw (old_is, new_is, at_c, first_row) at (then _ (spliced_stored y x c (offset_fits S c at_c) spliced stored))

        pub only_written : (D n : ℕ) → n * D ≤ elements_most * 8 → {len : ℕ} → len ≡ n * D → {three after : List ℕ} {second next : ℕ}
            → handed second two ≡ putting one first (Splice first y x (cut c))
            → handed last three ≡ putting two second (Splice second first y (cut (c + len)))
            → handed next after ≡ putting three last (Store second (cut (held vector_bytes S)))
            → Written before after 0 next (only_section vector_bytes S t D n)
        unfolding only_section
        only_written D n few {len} l {three} {after} {second} {next} spliced again stored =
            let p : Written one two first second (Splice first y x c ∷ []) =
            splice_written here blocks_room.2 (offset_fits S c at_c) spliced in
            let long = written_length p in
            let end_fits : c + len < low_values = omega (arith, offset_small S) in
            let q : Written two three second last (Splice second first y (c + len) ∷ []) =
            splice_written (omega (arith, p.rows, blocks_room.1)) (omega (arith, blocks_room.2)) end_fits again in
            let long' = written_length q in
            let s : Written three after last next (Store second (held vector_bytes S) ∷ []) =
            store_written (omega (arith, p.rows, q.rows, blocks_room.1)) (omega (arith, blocks_room.2)) r.address stored in
            let f = first_row in
            let e : second ≡ G t + 2 = omega (arith, p.rows) in
            rw (old_is, new_is, at_c, l, e, f) at (then _ (written_then p (written_then q s)))

      pub epilogue_written : (D e : ℕ) → (e ≡ 0 → ⊥) → e * D ≤ elements_most * 8 → {len : ℕ} → len ≡ e * D
          → {two after : List ℕ} {last next : ℕ}
          → handed last two ≡ putting one first (Splice first x y (cut len))
          → handed next after ≡ putting two last (Store first (cut (held vector_bytes S)))
          → Written before after 0 next (epilogue_of vector_bytes D S t e)
      unfolding epilogue_section
      epilogue_written D zero h few l spliced stored = absurd (h refl)
      epilogue_written D (suc e) h few {len} l spliced stored =
          rw (old_is, new_is, l, first_row) at (then _ (spliced_stored x y len (omega arith) spliced stored))

  pub no_epilogue : (section : List ℕ) (D e : ℕ) → e ≡ 0 → Written section section 0 0 (epilogue_of vector_bytes D S t e)
  no_epilogue section D e h = rw h (written_none section 0)
