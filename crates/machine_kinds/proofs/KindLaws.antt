-- One instruction as it is tried: a fault where a field is not known or a store reaches outside, else its one effect.
use Prim.Native.Nat.{ℕ}
use mathlib.Core.Path.{◌≡◌, refl}
use mathlib.Core.Bool.{true, false, and-false}
use mathlib.Core.List.{List, []}
use lib.ListN.{length}
use Rattle.rules.specs.Limits.{vector_bytes}
use Rattle.rules.specs.Frames.{load_kind}
use Rattle.rules.specs.Machine.{pair_kind, splice_kind, store_kind, fields_as, reaches_as, effect_as}
use Rattle.rules.specs.declared.program.Instruction.{Instruction}
use Rattle.machine_kinds.specs.Trying.{tried, try_as, state, of_state, any_width}

module _ (k D : ℕ) (table : List ℕ) (j : ℕ) (i : Instruction) (regs : List (List ℕ)) (work : List ℕ) where
  pub unknown_tried : fields_as k vector_bytes D i ≡ false → tried false regs work ≡ try_as k D table j i regs work
  unfolding try_as
  unknown_tried e = rw (e, and-false (reaches_as k vector_bytes (length work) j i))

  pub effect_tried : reaches_as k vector_bytes (length work) j i ≡ true → fields_as k vector_bytes D i ≡ true
      → of_state (effect_as k vector_bytes D table j (state regs work) i) ≡ try_as k D table j i regs work
  unfolding try_as
  effect_tried r e = rw (r, e)

  -- loads, vshiftpair, vsplice and stores go by bytes, and a store does not read table
  pub load_by_bytes : try_as load_kind any_width table j i regs work ≡ try_as load_kind D table j i regs work
  unfolding try_as fields_as effect_as
  load_by_bytes = refl

  pub pair_by_bytes : try_as pair_kind any_width table j i regs work ≡ try_as pair_kind D table j i regs work
  unfolding try_as fields_as effect_as
  pair_by_bytes = refl

  pub splice_by_bytes : try_as splice_kind any_width table j i regs work ≡ try_as splice_kind D table j i regs work
  unfolding try_as fields_as effect_as
  splice_by_bytes = refl

  pub store_by_bytes : try_as store_kind any_width [] j i regs work ≡ try_as store_kind D table j i regs work
  unfolding try_as fields_as effect_as
  store_by_bytes = refl
