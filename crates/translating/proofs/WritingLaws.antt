-- Instructions that are written one after the other are written as one list, each from the row after the one before.
use Prim.Native.Nat.{ℕ, suc, ◌+◌, ◌*◌, ◌≤◌, ◌<◌}
use native.Mathlib.Nat.{add-zero, add-suc, suc-add, mod-eq_of_lt}
use native.Mathlib.Omega.{arith}
use mathlib.Core.Path.{◌≡◌, refl, sym, ap, ◌∙◌}
use mathlib.Core.List.{List, [], ◌∷◌, ◌++◌}
use borrow.Author.Tests.{le-ltb}
use lib.ListN.{length, set, length-append}
use lib.Seq.{sets, length-sets}
use Rattle.rules.specs.Limits.{vector_bytes, address_most, section_most, low_values, instruction_entries}
use Rattle.rules.specs.Vectors.{block_zero, held}
use Rattle.rules.specs.Machine.{Splice, Store}
use Rattle.rules.specs.Tables.{entries}
use Rattle.rules.specs.declared.program.Instruction.{Instruction}
use Rattle.theory.proofs.RowLaws.{length_entries}
use Rattle.translating_rows.specs.Putting.{cut, written, Handed, handed, putting}
use Rattle.translating.specs.Writing.{Written, Roomy}

pub sets_append : (l : List ℕ) (i : ℕ) (xs ys : List ℕ) → sets (sets l i xs) (i + length xs) ys ≡ sets l i (xs ++ ys)
sets_append l i [] ys = rw (add-zero i)
sets_append l i (x ∷ xs) ys = rw (add-suc i (length xs), ← suc-add i (length xs)) (sets_append (set l i x) (suc i) xs ys)

entries_append : (xs ys : List Instruction) → entries (xs ++ ys) ≡ entries xs ++ entries ys
entries_append [] ys = refl
entries_append (x ∷ xs) ys = rw (entries_append xs ys)

length_written : (section : List ℕ) (row : ℕ) (is : List Instruction) → length (written section row is) ≡ length section
unfolding written
length_written section row is = length-sets section (instruction_entries * row) (entries is)

pub written_append : (section : List ℕ) (row : ℕ) (xs ys : List Instruction)
    → written (written section row xs) (row + length xs) ys ≡ written section row (xs ++ ys)
unfolding written
written_append section row xs ys =
    let e : 6 * (row + length xs) ≡ 6 * row + length (entries xs) = omega (arith, length_entries xs) in
    rw (e, sets_append, entries_append)

pub written_length : {before after : List ℕ} {row next : ℕ} {is : List Instruction} → Written before after row next is
    → length after ≡ length before
written_length {before} {after} {row} {next} {is} w = ap length w.holds ∙ length_written before row is

pub written_none : (section : List ℕ) (row : ℕ) → Written section section row row []
unfolding written
written_none section row = record { rows = sym (add-zero row); holds = refl }

-- one list after the other
pub written_then : {before middle after : List ℕ} {row between next : ℕ} {xs ys : List Instruction}
    → Written before middle row between xs → Written middle after between next ys → Written before after row next (xs ++ ys)
written_then {before} {middle} {after} {row} {between} {next} {xs} {ys} a b =
    record {
      rows = omega (arith, length-append xs ys, a.rows, b.rows);
      holds = b.holds ∙ rw (a.holds, a.rows) (written_append before row xs ys);
    }

-- ---- an instruction put into a row: of numbers that an entry can hold nothing is cut

pub cut_small : (n : ℕ) → n < low_values → cut n ≡ n
unfolding cut
cut_small n h = mod-eq_of_lt h

-- the row after the one that was written
pub row_after : (before : List ℕ) {after : List ℕ} {row next : ℕ} (i : Instruction) → row < section_most → handed next after ≡ putting before row i → row + 1 ≡ next
row_after before {row = row} i h e = sym (ap (λ (x : Handed). x.next) e ∙ cut_small (row + 1) (omega arith))

pub put_written : {before after : List ℕ} {row next : ℕ} {i : Instruction} → row < section_most → Roomy before
    → handed next after ≡ putting before row i → Written before after row next (i ∷ [])
put_written {before} {row = row} h room e =
    let inside = le-ltb (length before) (instruction_entries * row + instruction_entries) (omega arith) in
    record {
      rows = sym (row_after before _ h e);
      holds = rw inside at (ap (λ (x : Handed). x.section) e);
    }

pub splice_written : {before after : List ℕ} {row next x y amount : ℕ} → row < section_most → Roomy before → amount < low_values
    → handed next after ≡ putting before row (Splice row x y (cut amount))
    → Written before after row next (Splice row x y amount ∷ [])
splice_written {amount = amount} h room small e = put_written h room (rw (cut_small amount small) at e)

pub store_written : {before after : List ℕ} {row next x S : ℕ} → row < section_most → Roomy before → S ≤ address_most
    → handed next after ≡ putting before row (Store x (cut (held vector_bytes S)))
    → Written before after row next (Store x (held vector_bytes S) ∷ [])
unfolding block_zero
store_written {S = S} h room small e = put_written h room (rw (cut_small (held vector_bytes S) (omega arith)) at e)
