-- "Lines of upper-case hexadecimal", "most significant digit first". A place past the end of the text reads as 0, which is
-- neither a digit nor a line feed.
use Rattle.std.specs.Prelude.{ℕ, zero, suc, ◌+◌, ◌-◌, ◌*◌, List, Bool, true, false, cond, get_or, ltb, leb}

-- 0 to 9 are bytes 48 to 57, A to F are bytes 65 to 70
unfoldable pub is_digit : ℕ → Bool
is_digit b = cond (ltb b 48) false (cond (leb b 57) true (cond (ltb b 65) false (leb b 70)))

-- what a digit stands for, and 0 for any other byte
unfoldable pub digit_of : ℕ → ℕ
digit_of b = cond (ltb b 48) 0 (cond (leb b 57) (b - 48) (cond (ltb b 65) 0 (cond (leb b 70) (b - 55) 0)))

-- how many of the k bytes from `at` on are digits before the first that is none
unfoldable pub digit_run : List ℕ → ℕ → ℕ → ℕ
digit_run text at zero = 0
digit_run text at (suc k) = cond (is_digit (get_or text at 0)) (suc (digit_run text (at + 1) k)) 0

-- the number that the k bytes from `at` on spell
unfoldable pub spelled : List ℕ → ℕ → ℕ → ℕ
spelled text at zero = 0
spelled text at (suc k) = spelled text at k * 16 + digit_of (get_or text (at + k) 0)
