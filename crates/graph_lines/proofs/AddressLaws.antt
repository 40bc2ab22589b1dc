-- "address + nD beyond" an end, by the elements that have room before it: the sum is never formed.
use Prim.Native.Nat.{ℕ, ◌+◌, ◌-◌, ◌*◌, ◌/◌, ◌≤◌, ◌<◌}
use mathlib.Core.Path.{◌≡◌, sym, ◌∙◌}
use native.Mathlib.Nat.{div-lt_iff_lt-mul}
use native.Mathlib.Omega.{arith}
use borrow.Author.Tests.{lt-ltb, le-ltb}
use lib.Dec.{ltb}
use Rattle.rules.specs.Units.{width_bytes}
use Rattle.rules.specs.Checks.{beyond}
use Rattle.rules.specs.declared.units.Width.{Width}
use Rattle.rules.specs.declared.units.Width.TheVariants.{One, Two, Four, Eight}
use Rattle.theory.proofs.Lists.{split}

pub width_positive : (width : Width) → 0 < width_bytes width
width_positive One = omega arith
width_positive Two = omega arith
width_positive Four = omega arith
width_positive Eight = omega arith

-- so many elements have room, and n are wanted
pub few_have_room : (D n address end : ℕ) → 0 < D → address ≤ end → ltb ((end - address) / D) n ≡ beyond D n address end
few_have_room D n address end pos h = split ((end - address) / D) n
    (λ (l : (end - address) / D < n).
    let m : end - address < n * D = (div-lt_iff_lt-mul pos).0 l in
    lt-ltb ((end - address) / D) n l ∙ sym (lt-ltb end (address + n * D) (omega arith)))
    (λ (l : n ≤ (end - address) / D).
    le-ltb ((end - address) / D) n l ∙ sym (le-ltb end (address + n * D) (fits l)))
  where
    fits : n ≤ (end - address) / D → address + n * D ≤ end
    fits l = split (end - address) (n * D)
        (λ (m : end - address < n * D). let q : (end - address) / D < n = (div-lt_iff_lt-mul pos).1 m in absurd (omega arith))
        (λ m. omega arith)
