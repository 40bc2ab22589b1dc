-- The bytes that were looked at are digits, and the value is what they spell.
use mathlib.Core.Path.{◌≡◌}
use mathlib.Core.Bool.{false}
use Rattle.rules.specs.Digits.{spelled}
use Rattle.sheet_frames.specs.Numbers.{short}
use Rattle.sheet_frames.proofs.digits.number.Given as goal

abbrev pub invariant-loop-b : goal.invariant-loop-b
invariant-loop-b l = (l.value ≡ spelled l.digits 0 l.b-index) × (short l.digits 0 l.b-index ≡ false)
