-- The program table is left as the other output tables of a call.
use Prim.Native.Nat.{ℕ, ◌≤◌}
use mathlib.Core.Path.{◌≡◌, refl}
use mathlib.Core.List.{List, [], ◌++◌}
use native.Mathlib.Nat.{sub-zero}
use lib.ListN.{length, drop}
use Rattle.std.proofs.lemmas.List.{drop-replicate}
use Rattle.rules.specs.Answers.{of_refusal}
use Rattle.rules.specs.Tables.{padded, table_left}
use Rattle.rules.specs.declared.answers.Refusal.{Refusal}
use Rattle.rules.specs.declared.answers.Refusal.TheVariants.{Room, Line, Range, Shape, Bare, Window, Align, Bounds, Carry, Offset, Long, Out, Fault}
use Rattle.rules.specs.declared.program.ProgramHead.{ProgramHead}
use Rattle.sinkerjaw.specs.Programs.{program_entries, in_entries}

-- a head in the first entries of zeros
pub head_put : (len : ℕ) (h : ProgramHead) → program_entries ≤ len → in_entries h ++ drop 5 (padded len []) ≡ padded len (in_entries h)
unfolding padded
head_put len h room = rw (sub-zero, drop-replicate {X = ℕ} 5 len 0)

-- a refusal other than ROOM leaves zeros
pub refused_left : (r : Refusal) (before made : List ℕ) → (r ≡ Room → ⊥)
    → table_left (of_refusal r).number before made ≡ padded (length before) []
refused_left Room before made other = absurd (other refl)
refused_left (Line p) before made other = refl
refused_left (Range p) before made other = refl
refused_left (Shape p) before made other = refl
refused_left (Bare p) before made other = refl
refused_left (Window p) before made other = refl
refused_left (Align p) before made other = refl
refused_left (Bounds p) before made other = refl
refused_left (Carry p) before made other = refl
refused_left (Offset p) before made other = refl
refused_left Long before made other = refl
refused_left (Out k) before made other = refl
refused_left (Fault k) before made other = refl
