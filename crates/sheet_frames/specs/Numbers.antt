-- What some bytes of a text spell as one look at each tells it: the definitions of Digits, digits and value together.
use Rattle.std.specs.Prelude.{ℕ, List, Bool, cond, ltb, Option, Some, None, option_and_then}
use Rattle.std.specs.Result.{result_ok}
use Rattle.rules.specs.Digits.{is_digit, digit_of, digit_run, spelled}
use Rattle.rules.specs.Kinds.{frame_kind}
use Rattle.rules.specs.declared.kinds.FrameKind.{FrameKind}

-- a field has at most 16 digits, 8 bytes
abbrev pub digits_most : ℕ
digits_most = 16

-- what a digit stands for
unfoldable pub digit_at : ℕ → Option ℕ
digit_at b = cond (is_digit b) (Some (digit_of b)) None

-- not all of the k bytes from `at` on are digits
abbrev pub short : List ℕ → ℕ → ℕ → Bool
short text at k = ltb (digit_run text at k) k

-- the number that all of the k bytes from `at` on spell
unfoldable pub number_at : List ℕ → ℕ → ℕ → Option ℕ
number_at text at k = cond (short text at k) None (Some (spelled text at k))

-- the kind that the kind byte at a place names
unfoldable pub kind_at : List ℕ → ℕ → Option FrameKind
kind_at text at = option_and_then (λ n. result_ok (frame_kind n)) (number_at text at 2)
