-- The width of an element by its D: "An element is D = 1, 2, 4 or 8 bytes". What is no width is taken as the widest, since
-- head_ok refuses it before.
use Rattle.std.specs.Prelude.{ℕ, cond, eqb}
use Rattle.rules.specs.declared.units.Width.{Width}
use Rattle.rules.specs.declared.units.Width.TheVariants.{One, Two, Four, Eight}

unfoldable pub width_of : (D : ℕ) → Width
width_of D = cond (eqb D 1) One (cond (eqb D 2) Two (cond (eqb D 4) Four Eight))
