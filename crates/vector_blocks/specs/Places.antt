-- Where a block lies in a window of so many bytes, and which passes have none: what the load rule and the store rule share.
use Rattle.std.specs.Prelude.{ℕ, ◌-◌, cond, Option, Some, None}
use Rattle.rules.specs.Units.{byte_of_vector}
use Rattle.rules.specs.Vectors.{block_zero, inside}
use Rattle.rules.specs.declared.units.ByteOffset.{ByteOffset}

abbrev pub place_of : (W len block : ℕ) → Option ByteOffset
place_of W len block = cond (inside W len block) (Some (byte_of_vector W (record { 0 = block - block_zero W }))) None

-- 2^63: how many bytes no window has
abbrev pub too_many : ℕ
too_many = 9223372036854775808

-- 2^59 + 2^27: a block so many passes on lies past every window, at every address
abbrev pub far : ℕ
far = 576460752437641216
