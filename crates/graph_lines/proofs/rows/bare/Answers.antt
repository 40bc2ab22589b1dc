use Rattle.std.proofs.Common.{rules}
use Rattle.rules.specs.Checks.{bare_check}
use Rattle.graph_lines.proofs.LineLaws.{row_refuses, rows_pass}
use Rattle.graph_lines.proofs.rows.bare.Goals as goal

pub returns-in-Some : goal.returns-in-Some
unfolding bare_check
returns-in-Some c = row_refuses 4 _ (λ k said h. search rules) _ _ c.in-Some.ensures

pub returns-in-None : goal.returns-in-None
unfolding bare_check
returns-in-None c = rows_pass 4 _ (λ k said h. search rules) _ c.in-None.ensures
