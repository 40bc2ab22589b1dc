-- Past the end, nowhere in the rest, or in it.
use native.Mathlib.Omega.{arith}
use Rattle.printing.proofs.CaseLaws.{found_later, found_past}
use Rattle.printing.proofs.cases.place_of.Goals as goal

pub returns-in_err-get : goal.returns-in_err-get
returns-in_err-get c =
    rw c.from_residual.ensures (found_past _ _ _ (omega (arith, c.in_err-get.ensures.lookup.0)))

pub returns-in_err-passed : goal.returns-in_err-passed
returns-in_err-passed c =
    rw (c.from_residual-in_err-passed.ensures, ← found_later c.args.byte c.args.input.now c.args.from c.in_ok-get.ensures.lookup.0.2, ← c.in_err-passed.ensures)

pub returns : goal.returns
returns c =
    rw (← found_later c.args.byte c.args.input.now c.args.from c.in_ok-get.ensures.lookup.0.2, ← c.in_ok-passed.ensures)
