-- "3 RANGE: a field outside its range", for a sheet that is read and for one that is handed over as tables; and how many of
-- the nodes that wait a node takes. W is the bytes of a vector.
use Rattle.std.specs.Prelude.{ℕ, zero, suc, ◌%◌, Bool, false, not, ◌&&◌, ltb, leb, eqb}
use Rattle.rules.specs.Limits.{elements_most, address_most, windows, operations}
use Rattle.rules.specs.Units.{is_width}
use Rattle.rules.specs.Elements.{modulus}

-- header: D, n, S
unfoldable pub head_ok : (D n S : ℕ) → Bool
head_ok D n S = leb n elements_most && leb S address_most && is_width D

-- load: window, address
unfoldable pub load_ok : (window address : ℕ) → Bool
load_ok window address = ltb window windows && leb address address_most

-- splat: "value, below 2^(8D)"
unfoldable pub splat_ok : (D value : ℕ) → Bool
splat_ok D value = ltb value (modulus D)

-- op: "operation 0 to 5"
unfoldable pub op_ok : ℕ → Bool
op_ok operation = ltb operation operations

-- shift: "From and to are at most 15, multiples of D, and differ"
unfoldable pub shift_ok : (W D f g : ℕ) → Bool
shift_ok W D f g = ltb f W && ltb g W && eqb (f % D) 0 && eqb (g % D) 0 && not (eqb f g)

-- a node's fields by its kind; in tables "an unknown kind is RANGE"
unfoldable pub row_ok : (W D kind x y : ℕ) → Bool
row_ok W D zero x y = false
row_ok W D (suc zero) x y = load_ok x y
row_ok W D (suc (suc zero)) x y = splat_ok D x
row_ok W D (suc (suc (suc zero))) x y = op_ok x
row_ok W D (suc (suc (suc (suc zero)))) x y = shift_ok W D x y
row_ok W D (suc (suc (suc (suc (suc k))))) x y = false

-- "an op takes the last two nodes that wait"; "a shift takes the last one"
unfoldable pub takes : (kind : ℕ) → ℕ
takes zero = 0
takes (suc zero) = 0
takes (suc (suc zero)) = 0
takes (suc (suc (suc zero))) = 2
takes (suc (suc (suc (suc zero)))) = 1
takes (suc (suc (suc (suc (suc k))))) = 0
