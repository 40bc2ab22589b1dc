-- The numbers of the six operations: "0 add, 1 left minus right, 2 minimum, 3 maximum; 4 and 5 are minimum and maximum read as
-- two's complement".
use Rattle.std.specs.Prelude.{ℕ, zero, suc, ◌+◌, Result, Ok, Err}
use Rattle.rules.specs.declared.kinds.Unknown.{Unknown}
use Rattle.operations.specs.declared.Operation.{Operation}
use Rattle.operations.specs.declared.Operation.TheVariants as Do

abbrev pub operation_number : Operation → ℕ
operation_number Do.Add = 0
operation_number Do.Subtract = 1
operation_number Do.Minimum = 2
operation_number Do.Maximum = 3
operation_number Do.SignedMinimum = 4
operation_number Do.SignedMaximum = 5

-- the operation of a number, if it is one
abbrev pub operation_of : ℕ → Result Operation Unknown
operation_of zero = Ok Do.Add
operation_of (suc zero) = Ok Do.Subtract
operation_of (suc (suc zero)) = Ok Do.Minimum
operation_of (suc (suc (suc zero))) = Ok Do.Maximum
operation_of (suc (suc (suc (suc zero)))) = Ok Do.SignedMinimum
operation_of (suc (suc (suc (suc (suc zero))))) = Ok Do.SignedMaximum
operation_of (suc (suc (suc (suc (suc (suc k)))))) = Err (record { 0 = 6 + k })
