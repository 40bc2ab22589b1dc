use mathlib.Core.Path.{◌≡◌, refl, ◌∙◌}
use native.Mathlib.Omega.{arith}
use Rattle.sheet.specs.Left.{sheet_left}
use Rattle.printing.proofs.LineLaws.{none_shown, one_more_shown, all_shown}
use Rattle.printing.proofs.places.Goals as goal

pub loop-rule-init : goal.loop-rule-init
loop-rule-init c = none_shown (sheet_left c.read_start-answer.result _ _) _

pub loop-rule-preserved : goal.loop-rule-preserved
loop-rule-preserved c =
    rw c.put_line.ensures (one_more_shown _ _ c.loop-rule.rule c.loop-rule.invariant (c.told.ensures ∙ c.placed_figures-figures.ensures))

pub returns : goal.returns
returns c =
    let e : c.loop-rule.rule ≡ 4 = omega arith in
    all_shown c.args.text.now _ _ c.read_start-answer.ensures refl (rw e at c.loop-rule.invariant)
