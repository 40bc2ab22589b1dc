-- Past the line feed, if there is one.
use native.Mathlib.Omega.{arith}
use mathlib.Core.Path.{sym, ◌∙◌}
use Rattle.rules.specs.Printing.{line_feed}
use Rattle.printing.proofs.CaseLaws.{found_is, starts_after_feed, starts_at_end}
use Rattle.printing.proofs.cases.text_start.Goals as goal

pub overflow_add-result : goal.overflow_add-result
overflow_add-result c =
    omega (arith, found_is line_feed c.args.input.now c.args.dash c.in-Some.feed (sym c.in-Some.is ∙ c.place_of.ensures))

pub returns-in-Some : goal.returns-in-Some
returns-in-Some c = starts_after_feed _ _ _ (sym c.in-Some.is ∙ c.place_of.ensures)

pub returns-in-None : goal.returns-in-None
returns-in-None c = starts_at_end _ _ (sym c.in-None.is ∙ c.place_of.ensures)
