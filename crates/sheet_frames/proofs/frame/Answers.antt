-- Without its line feed, by a broken field, or whole.
use native.Mathlib.Omega.{arith}
use mathlib.Core.Path.{◌≡◌, refl, sym, ◌∙◌}
use mathlib.Core.Bool.{true}
use Prim.Native.Nat.{◌+◌}
use borrow.Author.Tests.{ltb-false, ne_eqb, eq-eqb}
use lib.ListN.{get_or}
use lib.Dec.{eqb}
use Rattle.rules.specs.Frames.{digits, frame_digits}
use Rattle.rules.specs.Kinds.{frame_number}
use Rattle.sheet_frames.proofs.DigitLaws.{number_slice}
use Rattle.sheet_frames.proofs.FrameLaws.{frame_unfed, frame_past, broken_x, broken_y, broken_z, whole}
use Rattle.sheet_frames.proofs.frame.Goals as goal

pub returns-in_err-feed : goal.returns-in_err-feed
returns-in_err-feed g c =
    let a = c.args in
    rw c.from_residual.ensures
    (frame_past a.text.now a.at (frame_number a.kind) (digits g.row.X g.row.Y g.row.Z)
    (omega (arith, ltb-false _ _ (sym c.in_err-feed.ensures.lookup.0))))

pub returns-then-feed-ne-LINE_FEED : goal.returns-then-feed-ne-LINE_FEED
returns-then-feed-ne-LINE_FEED g c =
    let a = c.args in
    let w = digits g.row.X g.row.Y g.row.Z in
    let e : a.at + frame_digits w ≡ a.at + 2 + g.row.X + g.row.Y + g.row.Z = omega arith in
    frame_unfed a.text.now a.at (frame_number a.kind) w
    (rw (e, ← c.in_ok-feed.ensures.lookup.3.1 0) (ne_eqb _ 10 c.if-feed-ne-LINE_FEED.true))

pub returns-in_err-number : goal.returns-in_err-number
returns-in_err-number g c =
    let a = c.args in
    let x = a.at + 2 in
    rw c.from_residual-in_err-number.ensures
    (broken_x a.text.now a.at (frame_number a.kind) (digits g.row.X g.row.Y g.row.Z)
    (c.in_err-number.ensures ∙ number_slice a.text.now x g.row.X refl (omega (arith, c.in_ok-feed.ensures.lookup.3.0)) refl))

pub returns-in_err-number-2 : goal.returns-in_err-number-2
returns-in_err-number-2 g c =
    let a = c.args in
    let y = a.at + 2 + g.row.X in
    rw c.from_residual-in_err-number-2.ensures
    (broken_y a.text.now a.at (frame_number a.kind) (digits g.row.X g.row.Y g.row.Z)
    (c.in_err-number-2.ensures ∙ number_slice a.text.now y g.row.Y refl (omega (arith, c.in_ok-feed.ensures.lookup.3.0)) refl))

pub returns-in_err-number-3 : goal.returns-in_err-number-3
returns-in_err-number-3 g c =
    let a = c.args in
    let z = a.at + 2 + g.row.X + g.row.Y in
    rw c.from_residual-in_err-number-3.ensures
    (broken_z a.text.now a.at (frame_number a.kind) (digits g.row.X g.row.Y g.row.Z)
    (c.in_err-number-3.ensures ∙ number_slice a.text.now z g.row.Z refl (omega (arith, c.in_ok-feed.ensures.lookup.3.0)) refl))

pub returns : goal.returns
returns g c =
    let a = c.args in
    let w = digits g.row.X g.row.Y g.row.Z in
    let x = a.at + 2 in
    let y = a.at + 2 + g.row.X in
    let z = a.at + 2 + g.row.X + g.row.Y in
    let e : a.at + frame_digits w ≡ z + g.row.Z = omega arith in
    let fed : eqb (get_or a.text.now (a.at + frame_digits w) 0) 10 ≡ true =
    rw (e, ← c.in_ok-feed.ensures.lookup.3.1 0) (eq-eqb _ 10 c.if-feed-ne-LINE_FEED.false) in
    rw (c.number.ensures, ← e)
    (whole a.text.now a.at (frame_number a.kind) w _ _ _ c.requires.kind_digits fed
    (c.in_ok-number.ensures ∙ number_slice a.text.now x g.row.X refl (omega (arith, c.in_ok-feed.ensures.lookup.3.0)) refl)
    (c.in_ok-number-2.ensures ∙ number_slice a.text.now y g.row.Y refl (omega (arith, c.in_ok-feed.ensures.lookup.3.0)) refl)
    (c.in_ok-number-3.ensures ∙ number_slice a.text.now z g.row.Z refl (omega (arith, c.in_ok-feed.ensures.lookup.3.0)) refl))
