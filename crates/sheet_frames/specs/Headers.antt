-- "The header is line 1 and only there": a frame as line 1 has it, and as a later line has it.
use Rattle.std.specs.Prelude.{cond, eqb, Option, Some, None}
use Rattle.rules.specs.Frames.{header_kind}
use Rattle.rules.specs.declared.sheet.Fields.{Fields}

-- a header, or none
abbrev pub header_of : Option Fields → Option Fields
header_of None = None
header_of (Some f) = cond (eqb f.kind header_kind) (Some f) None

-- another frame, or none
abbrev pub later_of : Option Fields → Option Fields
later_of None = None
later_of (Some f) = cond (eqb f.kind header_kind) None (Some f)
