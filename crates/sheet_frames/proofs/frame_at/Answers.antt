-- By its kind.
use mathlib.Core.Path.{◌∙◌}
use Rattle.rules.specs.Frames.{field_digits}
use Rattle.sheet_frames.proofs.FrameLaws.{kind_known}
use Rattle.sheet_frames.proofs.frame_at.Goals as goal

pub returns-in-Header : goal.returns-in-Header
unfolding field_digits
returns-in-Header c = kind_known _ _ _ c.in_ok-kind.ensures _ (c.frame.ensures ∙ rw c.in-Header.is)

pub returns-in-Load : goal.returns-in-Load
unfolding field_digits
returns-in-Load c = kind_known _ _ _ c.in_ok-kind.ensures _ (c.frame-in-Load.ensures ∙ rw c.in-Load.is)

pub returns-in-Splat : goal.returns-in-Splat
unfolding field_digits
returns-in-Splat c = kind_known _ _ _ c.in_ok-kind.ensures _ (c.frame-in-Splat.ensures ∙ rw c.in-Splat.is)

pub returns-in-Op : goal.returns-in-Op
unfolding field_digits
returns-in-Op c = kind_known _ _ _ c.in_ok-kind.ensures _ (c.frame-in-Op.ensures ∙ rw c.in-Op.is)

pub returns-in-Shift : goal.returns-in-Shift
unfolding field_digits
returns-in-Shift c = kind_known _ _ _ c.in_ok-kind.ensures _ (c.frame-in-Shift.ensures ∙ rw c.in-Shift.is)

pub returns-in-End : goal.returns-in-End
unfolding field_digits
returns-in-End c = kind_known _ _ _ c.in_ok-kind.ensures _ (c.frame-in-End.ensures ∙ rw c.in-End.is)
