-- The paper's numbers of what has a name of its own in code: the kinds of frames and of instructions, and the placing rules.
use Rattle.std.specs.Prelude.{ℕ, zero, suc, ◌+◌, Result, Ok, Err}
use Rattle.rules.specs.declared.answers.Refusal.{Refusal}
use Rattle.rules.specs.declared.answers.Refusal.TheVariants.{Range}
use Rattle.rules.specs.declared.kinds.Unknown.{Unknown}
use Rattle.rules.specs.declared.kinds.FrameKind.{FrameKind}
use Rattle.rules.specs.declared.kinds.FrameKind.TheVariants as Frame
use Rattle.rules.specs.declared.kinds.InstructionKind.{InstructionKind}
use Rattle.rules.specs.declared.kinds.InstructionKind.TheVariants as Do
use Rattle.rules.specs.declared.kinds.Rule.{Rule}
use Rattle.rules.specs.declared.kinds.Rule.TheVariants as By

abbrev pub none : ℕ → Unknown
none number = record { 0 = number }

-- the column "Frame": 00 header, 01 load, 02 splat, 03 op, 04 shift, 05 end
abbrev pub frame_number : FrameKind → ℕ
frame_number Frame.Header = 0
frame_number Frame.Load = 1
frame_number Frame.Splat = 2
frame_number Frame.Op = 3
frame_number Frame.Shift = 4
frame_number Frame.End = 5

abbrev pub frame_kind : ℕ → Result FrameKind Unknown
frame_kind zero = Ok Frame.Header
frame_kind (suc zero) = Ok Frame.Load
frame_kind (suc (suc zero)) = Ok Frame.Splat
frame_kind (suc (suc (suc zero))) = Ok Frame.Op
frame_kind (suc (suc (suc (suc zero)))) = Ok Frame.Shift
frame_kind (suc (suc (suc (suc (suc zero))))) = Ok Frame.End
frame_kind (suc (suc (suc (suc (suc (suc k)))))) = Err (none (6 + k))

-- the kinds of instructions: 1 load, 2 splat, 3 op, 4 vshiftpair, 5 vsplice, 6 store
abbrev pub instruction_number : InstructionKind → ℕ
instruction_number Do.Load = 1
instruction_number Do.Splat = 2
instruction_number Do.Op = 3
instruction_number Do.Pair = 4
instruction_number Do.Splice = 5
instruction_number Do.Store = 6

abbrev pub instruction_kind : ℕ → Result InstructionKind Unknown
instruction_kind zero = Err (none 0)
instruction_kind (suc zero) = Ok Do.Load
instruction_kind (suc (suc zero)) = Ok Do.Splat
instruction_kind (suc (suc (suc zero))) = Ok Do.Op
instruction_kind (suc (suc (suc (suc zero)))) = Ok Do.Pair
instruction_kind (suc (suc (suc (suc (suc zero))))) = Ok Do.Splice
instruction_kind (suc (suc (suc (suc (suc (suc zero)))))) = Ok Do.Store
instruction_kind (suc (suc (suc (suc (suc (suc (suc k))))))) = Err (none (7 + k))

-- 0 ZERO, 1 EAGER, 2 LAZY, 3 DOMINANT; "A placing rule above 3 is RANGE with place 0"
abbrev pub rule_number : Rule → ℕ
rule_number By.Zero = 0
rule_number By.Eager = 1
rule_number By.Lazy = 2
rule_number By.Dominant = 3

abbrev pub rule_of : ℕ → Result Rule Refusal
rule_of zero = Ok By.Zero
rule_of (suc zero) = Ok By.Eager
rule_of (suc (suc zero)) = Ok By.Lazy
rule_of (suc (suc (suc zero))) = Ok By.Dominant
rule_of (suc (suc (suc (suc k)))) = Err (Range 0)
