-- The contract of `begin` allows one outcome: what is found decides whether the run goes on, and D the width it goes on.
use mathlib.Core.Path.{◌≡◌, refl, sym, ap, ◌∙◌}
use native.Mathlib.Omega.{arith}
use Rattle.std.specs.Prelude.{Result, Ok, Err, IfOk}
use Rattle.rules.specs.Answers.{Answer, of_result}
use Rattle.rules.specs.Units.{width_bytes, width_of}
use Rattle.rules.specs.declared.answers.Refusal.{Refusal}
use Rattle.rules.specs.declared.units.Width.{Width}
use Rattle.rules.specs.declared.units.Width.TheVariants.{One, Two, Four, Eight}
use Rattle.rules.specs.declared.program.ProgramHead.{ProgramHead}
use Rattle.theory.proofs.AnswerLaws.{refusal_not_done, refusal_told_apart}

width_again : (w : Width) → width_of (width_bytes w) ≡ Ok w
unfolding width_of
width_again One = refl
width_again Two = refl
width_again Four = refl
width_again Eight = refl

one_width : (v w : Width) → width_bytes v ≡ width_bytes w → v ≡ w
one_width v w e = cc (width_again v, width_again w, ap width_of e)

-- a run that goes on has its D as a width
abbrev pub Widens : ProgramHead → Result Width Refusal → Type 0
Widens h r = IfOk r (λ width. width_bytes width ≡ h.d)

pub one_start : (h : ProgramHead) (r s : Result Width Refusal) → of_result r ≡ of_result s → Widens h r → Widens h s → r ≡ s
one_start h (Ok v) (Ok w) e a b = ap Ok (one_width v w (a ∙ sym b))
one_start h (Ok v) (Err y) e a b = absurd (omega (arith, refusal_not_done y, ap (λ (x : Answer). x.number) e))
one_start h (Err x) (Ok w) e a b = absurd (omega (arith, refusal_not_done x, ap (λ (x : Answer). x.number) e))
one_start h (Err x) (Err y) e a b = ap Err (refusal_told_apart x y e)
