use Rattle.std.proofs.Common.{rules, sym, ◌∙◌}
use Rattle.rules.specs.Checks.{bounds_check}
use Rattle.graph_lines.proofs.LineLaws.{store_passes, row_refuses, rows_pass}
use Rattle.graph_lines.proofs.addresses.bounds.Goals as goal

pub returns-in-Some : goal.returns-in-Some
unfolding bounds_check
returns-in-Some c =
    row_refuses 7 _ (λ k said h. search rules) _ _ c.in-Some.ensures
    ∙ store_passes 7 1 _ _ (sym c.beyond.ensures ∙ c.if-beyond.false)

pub returns-in-None : goal.returns-in-None
unfolding bounds_check
returns-in-None c =
    rows_pass 7 _ (λ k said h. search rules) _ c.in-None.ensures
    ∙ store_passes 7 1 _ _ (sym c.beyond.ensures ∙ c.if-beyond.false)
