-- Past the end, begun with no 0, broken, or the kind of its second digit.
use native.Mathlib.Omega.{arith}
use mathlib.Core.Path.{sym, ◌∙◌}
use borrow.Author.Tests.{ltb-false}
use Rattle.sheet_frames.proofs.FrameLaws.{kind_past, kind_past_0, kind_by_second}
use Rattle.sheet_frames.proofs.kind_at.Goals as goal

pub returns-in_err-second : goal.returns-in_err-second
returns-in_err-second c =
    rw c.from_residual.ensures
    (kind_past c.args.text.now c.args.place (omega (arith, ltb-false _ _ (sym c.in_err-second.ensures.lookup.0))))

pub returns-then-text-at-ne-ZERO : goal.returns-then-text-at-ne-ZERO
returns-then-text-at-ne-ZERO c = kind_past_0 c.args.text.now c.args.place c.if-text-at-ne-ZERO.true

pub returns-in_err-number : goal.returns-in_err-number
returns-in_err-number c =
    let a = c.args in
    let second = kind_by_second a.text.now a.place c.if-text-at-ne-ZERO.false in
    rw (c.from_residual-in_err-number.ensures, second, ← c.in_ok-second.ensures.lookup.3.1 0, ← c.in_err-number.ensures)

pub returns : goal.returns
returns c =
    let a = c.args in
    let second = kind_by_second a.text.now a.place c.if-text-at-ne-ZERO.false in
    c.ok.ensures.value ∙ rw (c.try_from.ensures, second, ← c.in_ok-second.ensures.lookup.3.1 0, ← c.in_ok-number.ensures)
