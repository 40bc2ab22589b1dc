-- What the contracts of the library's calls say: each allows one outcome, since all that a caller in C is given and left stands in
-- one record, which the contract fixes. The two checks give a number alone, which their contracts fix as they stand.
use Prim.Native.Nat.{ℕ}
use mathlib.Core.Path.{◌≡◌, sym, ap, ◌∙◌}
use mathlib.Core.List.{List}
use Rattle.sinkerjaw.specs.Given.{PackedSheet, packed_sheet, PackedWork, packed_work}
use Rattle.sinkerjaw.specs.Programs.{PackedProgram, packed_program}

-- sinkerjaw_read and sinkerjaw_place
pub sheet_fixed : (x : PackedSheet) (r s : ℕ) (h n k m : List ℕ) → packed_sheet r h n ≡ x → packed_sheet s k m ≡ x
    → (r ≡ s) × (h ≡ k) × (n ≡ m)
sheet_fixed x r s h n k m a b =
    let e : packed_sheet r h n ≡ packed_sheet s k m = a ∙ sym b in
    (ap (λ (y : PackedSheet). y.answer) e, ap (λ (y : PackedSheet). y.head) e, ap (λ (y : PackedSheet). y.nodes) e)

-- sinkerjaw_plain and sinkerjaw_run
pub work_fixed : (x : PackedWork) (r s : ℕ) (v w : List ℕ) → packed_work r v ≡ x → packed_work s w ≡ x → (r ≡ s) × (v ≡ w)
work_fixed x r s v w a b =
    let e : packed_work r v ≡ packed_work s w = a ∙ sym b in
    (ap (λ (y : PackedWork). y.answer) e, ap (λ (y : PackedWork). y.work) e)

-- sinkerjaw_translate and sinkerjaw_plan
pub program_fixed : (x : PackedProgram) (r s : ℕ) (g g' p p' b b' e e' : List ℕ) → packed_program r g p b e ≡ x
    → packed_program s g' p' b' e' ≡ x → (r ≡ s) × (g ≡ g') × (p ≡ p') × (b ≡ b') × (e ≡ e')
program_fixed x r s g g' p p' b b' e e' one other =
    let q : packed_program r g p b e ≡ packed_program s g' p' b' e' = one ∙ sym other in (
      ap (λ (y : PackedProgram). y.answer) q,
      ap (λ (y : PackedProgram). y.program) q,
      ap (λ (y : PackedProgram). y.prologue) q,
      ap (λ (y : PackedProgram). y.body) q,
      ap (λ (y : PackedProgram). y.epilogue) q,
    )
