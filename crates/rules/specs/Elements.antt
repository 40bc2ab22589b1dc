-- An element: its bytes, little-endian, and the six "operations on unsigned elements modulo 2^(8D)".
use Rattle.std.specs.Prelude.{ℕ, zero, suc, ◌+◌, ◌-◌, ◌*◌, ◌/◌, ◌%◌, ◌^◌, min, max, List, [], ◌∷◌, Bool, true, false, cond, leb, ltb, take, drop}

-- the d bytes of v, the lowest first
abbrev pub to_bytes : ℕ → ℕ → List ℕ
to_bytes zero v = []
to_bytes (suc d) v = v % 256 ∷ to_bytes d (v / 256)

-- the number whose bytes these are
abbrev pub of_bytes : List ℕ → ℕ
of_bytes [] = 0
of_bytes (b ∷ bs) = b + 256 * of_bytes bs

-- the D-byte element at address a of a window
unfoldable pub element : (D : ℕ) → List ℕ → ℕ → ℕ
element D w a = of_bytes (take D (drop a w))

-- 2^(8D)
unfoldable pub modulus : ℕ → ℕ
modulus D = 2 ^ (8 * D)

-- in two's complement an element is negative when its top bit is set
unfoldable pub negative : (D : ℕ) → ℕ → Bool
negative D x = leb (modulus D / 2) x

-- a negative element is below one that is not; two of one sign stand as the unsigned numbers do
abbrev pub less_by_sign : Bool → Bool → ℕ → ℕ → Bool
less_by_sign true false x y = true
less_by_sign false true x y = false
less_by_sign true true x y = ltb x y
less_by_sign false false x y = ltb x y

unfoldable pub signed_less : (D : ℕ) → ℕ → ℕ → Bool
signed_less D x y = less_by_sign (negative D x) (negative D y) x y

-- "0 add, 1 left minus right, 2 minimum, 3 maximum; 4 and 5 are minimum and maximum read as two's complement"
unfoldable pub operate : (D operation : ℕ) → ℕ → ℕ → ℕ
operate D zero x y = (x + y) % modulus D
operate D (suc zero) x y = (x + (modulus D - y)) % modulus D
operate D (suc (suc zero)) x y = min x y
operate D (suc (suc (suc zero))) x y = max x y
operate D (suc (suc (suc (suc zero)))) x y = cond (signed_less D y x) y x
operate D (suc (suc (suc (suc (suc o))))) x y = cond (signed_less D x y) y x
