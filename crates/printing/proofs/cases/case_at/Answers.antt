-- No dash, or the dash, the name after it and the next dash.
use Rattle.printing.proofs.CaseLaws.{no_case, next_case, case_within}
use Rattle.printing.proofs.cases.case_at.Goals as goal

pub returns-in_err-dash-clause-value : goal.returns-in_err-dash-clause-value
returns-in_err-dash-clause-value c = rw c.from_residual.ensures (no_case _ _ c.in_err-dash.ensures)

pub returns-clause-value : goal.returns-clause-value
returns-clause-value c =
    next_case _ _ c.in_ok-dash.ensures c.text_start-start.ensures c.place_of-2.ensures c.unwrap_or-past.ensures

pub returns-clause-within : goal.returns-clause-within
returns-clause-within c =
    case_within c.args.input.now c.args.from _
    (next_case _ _ c.in_ok-dash.ensures c.text_start-start.ensures c.place_of-2.ensures c.unwrap_or-past.ensures)
