use Rattle.std.proofs.Common.{rules, sym, ap, not, ◌∙◌}
use Rattle.rules.specs.Checks.{align_check}
use Rattle.graph_lines.proofs.LineLaws.{store_passes, row_refuses, rows_pass}
use Rattle.graph_lines.proofs.addresses.align.Goals as goal

pub returns-in-Some : goal.returns-in-Some
unfolding align_check
returns-in-Some c =
    row_refuses 6 _ (λ k said h. search rules) _ _ c.in-Some.ensures
    ∙ store_passes 6 1 _ _ (ap not (sym c.is_multiple.ensures ∙ c.if-not-is_multiple.false))

pub returns-in-None : goal.returns-in-None
unfolding align_check
returns-in-None c =
    rows_pass 6 _ (λ k said h. search rules) _ c.in-None.ensures
    ∙ store_passes 6 1 _ _ (ap not (sym c.is_multiple.ensures ∙ c.if-not-is_multiple.false))
