-- Bytes of numbers and what bounds them, and the arithmetic of positions: a number is q * D + d in one way.
use mathlib.Core.Path.{◌≡◌, refl, sym, ap, ◌∙◌}
use mathlib.Core.Bool.{Bool, true, false, cond}
use mathlib.Core.List.{List, [], ◌∷◌}
use Prim.Native.Nat.{ℕ, zero, suc, ◌+◌, ◌-◌, ◌*◌, ◌/◌, ◌%◌, ◌^◌, ◌≤◌, ◌<◌}
use native.Mathlib.Nat.{mul-le-mul_right, mod-lt, div-add-mod', mod-eq_of_lt, mul-add-mod_self_right, mul-add-div_right, div-eq_of_lt, pow-suc, pow-zero, div-lt_iff_lt-mul, add-zero}
use native.Mathlib.Omega.{arith}
use lib.Pow.{pow-add}
use lib.ListN.{length, get_or}
use Rattle.rules.specs.Elements.{to_bytes, of_bytes, operate, modulus, signed_less}

pub length_to_bytes : (d v : ℕ) → length (to_bytes d v) ≡ d
length_to_bytes zero v = refl
length_to_bytes (suc d) v = ap suc (length_to_bytes d (v / 256))

pub pow_pos : (d : ℕ) → 0 < 256 ^ d
pow_pos zero = rw pow-zero (omega arith)
pow_pos (suc d) = omega (arith, pow_pos d)

pub of_bytes_to_bytes : (d v : ℕ) → v < 256 ^ d → of_bytes (to_bytes d v) ≡ v
of_bytes_to_bytes zero v h = omega (arith, pow-zero 256)
of_bytes_to_bytes (suc d) v h = omega (arith, of_bytes_to_bytes d (v / 256) (omega arith))

-- every element is a byte
unfoldable pub Bytes : List ℕ → Type 0
Bytes bs = (i : ℕ) → get_or bs i 0 < 256

tail_bytes : (b : ℕ) (bs : List ℕ) → Bytes (b ∷ bs) → Bytes bs
unfolding Bytes
tail_bytes b bs h i = h (suc i)

pub to_bytes_of_bytes : (bs : List ℕ) → Bytes bs → to_bytes (length bs) (of_bytes bs) ≡ bs
unfolding Bytes
to_bytes_of_bytes [] h = refl
to_bytes_of_bytes (b ∷ bs) h =
    let l : b < 256 = h 0 in
    let p : (b + 256 * of_bytes bs) % 256 ≡ b = omega arith in
    let q : (b + 256 * of_bytes bs) / 256 ≡ of_bytes bs = omega arith in
    rw (p, q) (ap (λ (r : List ℕ). b ∷ r) (to_bytes_of_bytes bs (tail_bytes b bs h)))

step_lt : (n b o : ℕ) → b < 256 → o < 256 ^ n → b + 256 * o < 256 ^ suc n
step_lt n b o h k = omega arith

pub of_bytes_lt : (bs : List ℕ) → Bytes bs → of_bytes bs < 256 ^ length bs
unfolding Bytes
of_bytes_lt [] h = omega (arith, pow-zero 256)
of_bytes_lt (b ∷ bs) h = step_lt (length bs) b (of_bytes bs) (h 0) (of_bytes_lt bs (tail_bytes b bs h))

-- 2^(8D) is 256^D
pub modulus_is : (D : ℕ) → modulus D ≡ 256 ^ D
unfolding modulus
modulus_is zero = refl
modulus_is (suc D) =
    let e : 8 * suc D ≡ 8 * D + 8 = omega arith in
    let p : 2 ^ (8 * D + 8) ≡ 2 ^ (8 * D) * 2 ^ 8 = pow-add 2 (8 * D) 8 in
    ap (λ (x : ℕ). 2 ^ x) e ∙ p ∙ ap (λ (x : ℕ). x * 256) (modulus_is D) ∙ sym (pow-suc 256 D)

pub modulus_pos : (D : ℕ) → 0 < modulus D
modulus_pos D = rw (modulus_is D) (pow_pos D)

pick_lt : (t : Bool) (x y m : ℕ) → x < m → y < m → cond t x y < m
pick_lt true x y m h k = h
pick_lt false x y m h k = k

pub operate_lt : (D o x y : ℕ) → x < modulus D → y < modulus D → operate D o x y < modulus D
unfolding operate
operate_lt D zero x y h k = mod-lt (x + y) (modulus_pos D)
operate_lt D (suc zero) x y h k = mod-lt (x + (modulus D - y)) (modulus_pos D)
operate_lt D (suc (suc zero)) x y h k = omega arith
operate_lt D (suc (suc (suc zero))) x y h k = omega arith
operate_lt D (suc (suc (suc (suc zero)))) x y h k = pick_lt (signed_less D y x) y x (modulus D) k h
operate_lt D (suc (suc (suc (suc (suc o))))) x y h k = pick_lt (signed_less D x y) y x (modulus D) k h

-- ---- positions: a number is q * D + d in one way
pub div_at : (D q d : ℕ) → d < D → (q * D + d) / D ≡ q
div_at D q d h = mul-add-div_right (omega arith) q d ∙ ap (λ (k : ℕ). q + k) (div-eq_of_lt h) ∙ add-zero q

pub mod_at : (D q d : ℕ) → d < D → (q * D + d) % D ≡ d
mod_at D q d h = mul-add-mod_self_right q D d ∙ mod-eq_of_lt h

-- whole multiples below a number are below its lane
pub lane_low : (D T t : ℕ) → 0 < D → T % D ≡ 0 → T ≤ t → T ≤ t / D * D
lane_low D T t h z k =
    let e : T / D * D + T % D ≡ T = div-add-mod' T D in
    let f : t / D * D + t % D ≡ t = div-add-mod' t D in
    let g : t % D < D = mod-lt t h in
    let l : T / D < suc (t / D) = (div-lt_iff_lt-mul h).1 (omega arith) in
    omega (arith, mul-le-mul_right D l)
