-- Elements once over their width: one of d + e bytes is one of d and one of e, and its bytes are the bytes of the two.
-- Assumes nothing.
use Prim.Native.Nat.{ℕ, zero, suc, ◌+◌, ◌*◌, ◌/◌, ◌%◌, ◌^◌, ◌≤◌, ◌<◌}
use mathlib.Core.Path.{◌≡◌, refl, sym, ap, ◌∙◌}
use mathlib.Core.List.{List, [], ◌∷◌, ◌++◌}
use native.Mathlib.Omega.{arith}
use native.Mathlib.Nat.{pow-zero, pow-suc, zero-add, add-zero, one-mul, suc-add, mul_comm, mul_assoc, div-one, div-div-eq-div-mul, div-eq_of_lt, mod-eq_of_lt, add-mul-div_left, add-mul-mod_self_left}
use lib.Dec.{lit<}
use lib.Arith.{mod-mul}
use lib.ListN.{length, get_or, take, drop, get_or-append}
use Rattle.rules.specs.Elements.{to_bytes, of_bytes, element}
use Rattle.theory.proofs.Lists.{get_or_past}
use Rattle.theory.proofs.Numbers.{Bytes, pow_pos}

-- one more byte below a number
value_more : (v : List ℕ) (at n : ℕ) → of_bytes (take (suc n) (drop at v)) ≡ get_or v at 0 + 256 * of_bytes (take n (drop (suc at) v))
value_more [] zero zero = refl
value_more [] zero (suc n) = refl
value_more [] (suc at) zero = refl
value_more [] (suc at) (suc n) = refl
value_more (x ∷ v) zero n = refl
value_more (x ∷ v) (suc at) n = value_more v at n

pub element_one : (v : List ℕ) (at : ℕ) → element 1 v at ≡ get_or v at 0
unfolding element
element_one v at = rw (value_more v at 0) (omega arith)

-- an element of d + e bytes from one of d bytes and one of e
pub element_join : (d e : ℕ) (v : List ℕ) (at : ℕ) → element (d + e) v at ≡ element d v at + 256 ^ d * element e v (at + d)
unfolding element
element_join zero e v at = rw (zero-add, add-zero, one-mul, zero-add)
element_join (suc d) e v at =
    let s : suc at + d ≡ at + suc d = omega arith in
    let t = element e v (at + suc d) in
    let k : 256 ^ d * 256 * t ≡ 256 * (256 ^ d * t) = rw (mul_comm (256 ^ d) 256, mul_assoc) in
    let i = rw s at (element_join d e v (suc at)) in
    rw (suc-add, value_more v at (d + e), value_more v at d, i, pow-suc, k) (omega arith)

-- of bytes, an element of d is below 256^d, and so of one of d + e bytes the lower d are the rest and the others the quotient
pub element_lt : (d : ℕ) (v : List ℕ) (at : ℕ) → Bytes v → element d v at < 256 ^ d
unfolding element Bytes
element_lt zero v at b = omega (arith, pow-zero 256)
element_lt (suc d) v at b = rw (value_more v at d) (omega (arith, b at, element_lt d v (suc at) b))

pub element_above : (d e : ℕ) (v : List ℕ) (at : ℕ) → Bytes v → element (d + e) v at / 256 ^ d ≡ element e v (at + d)
element_above d e v at b =
    rw (element_join d e v at, add-mul-div_left (element d v at) (element e v (at + d)) (pow_pos d), div-eq_of_lt (element_lt d v at b), zero-add)

pub element_lower : (d e : ℕ) (v : List ℕ) (at : ℕ) → Bytes v → element (d + e) v at % 256 ^ d ≡ element d v at
element_lower d e v at b =
    rw (element_join d e v at, add-mul-mod_self_left (element d v at) (256 ^ d) (element e v (at + d))) (mod-eq_of_lt (element_lt d v at b))

-- an element of two lists joined
pub element_left : (d : ℕ) (v w : List ℕ) (at : ℕ) → at + d ≤ length v → element d v at ≡ element d (v ++ w) at
unfolding element
element_left zero v w at h = refl
element_left (suc d) v w at h =
    rw (value_more v at d, value_more (v ++ w) at d, get_or-append v w 0 at (omega arith), element_left d v w (suc at) (omega arith))

pub element_right : (d : ℕ) (v w : List ℕ) (n at : ℕ) → length v ≡ n → element d w at ≡ element d (v ++ w) (n + at)
unfolding element
element_right zero v w n at e = refl
element_right (suc d) v w n at e =
    let s : n + suc at ≡ suc (n + at) = omega arith in
    let i = rw s at (element_right d v w n (suc at) e) in
    rw (value_more w at d, value_more (v ++ w) (n + at) d, get_or_past v w n at e, i)

-- one more byte before a part
part_more : (v : List ℕ) (at n : ℕ) → at < length v → take (suc n) (drop at v) ≡ get_or v at 0 ∷ take n (drop (suc at) v)
part_more [] at n h = absurd (omega arith)
part_more (x ∷ v) zero n h = refl
part_more (x ∷ v) (suc at) n h = part_more v at n (omega arith)

-- the bytes of an element are the part that it was read from
pub to_bytes_element : (d : ℕ) (v : List ℕ) (at : ℕ) → Bytes v → at + d ≤ length v → to_bytes d (element d v at) ≡ take d (drop at v)
unfolding element Bytes
to_bytes_element zero v at b h = refl
to_bytes_element (suc d) v at b h =
    let x = get_or v at 0 in
    let y = element d v (suc at) in
    let p : (x + 256 * y) % 256 ≡ x = omega (arith, b at) in
    let q : (x + 256 * y) / 256 ≡ y = omega (arith, b at) in
    rw (value_more v at d, p, q, part_more v at d (omega arith))
    (ap (λ (l : List ℕ). x ∷ l) (to_bytes_element d v (suc at) b (omega arith)))

-- the bytes above the lowest d do not count for d bytes
pub to_bytes_mod : (d v : ℕ) → to_bytes d (v % 256 ^ d) ≡ to_bytes d v
to_bytes_mod zero v = refl
to_bytes_mod (suc d) v =
    let m : v % 256 ^ suc d ≡ v / 256 % 256 ^ d * 256 + v % 256 = rw pow-suc (mod-mul v (pow_pos d) (lit< tt)) in
    let p : v % 256 ^ suc d % 256 ≡ v % 256 = rw m (omega arith) in
    let q : v % 256 ^ suc d / 256 ≡ v / 256 % 256 ^ d = rw m (omega arith) in
    rw (p, q, to_bytes_mod d (v / 256))

-- the bytes of d + e are those of the lowest d and then those above
pub to_bytes_join : (d e v : ℕ) → to_bytes d v ++ to_bytes e (v / 256 ^ d) ≡ to_bytes (d + e) v
to_bytes_join zero e v = rw (zero-add, div-one)
to_bytes_join (suc d) e v =
    rw (suc-add, pow-suc, mul_comm (256 ^ d) 256, ← div-div-eq-div-mul v 256 (256 ^ d))
    (ap (λ (l : List ℕ). v % 256 ∷ l) (to_bytes_join d e (v / 256)))

-- the halves of a number's bytes, each cut to its width
pub to_bytes_halves : (d v : ℕ) → to_bytes d (v % 256 ^ d) ++ to_bytes d (v / 256 ^ d % 256 ^ d) ≡ to_bytes (d + d) v
to_bytes_halves d v = rw (to_bytes_mod d v, to_bytes_mod d (v / 256 ^ d)) (to_bytes_join d d v)

-- a value in both halves of twice its bytes
pub to_bytes_doubled : (d v : ℕ) → v < 256 ^ d → to_bytes (d + d) (v + 256 ^ d * v) ≡ to_bytes d v ++ to_bytes d v
to_bytes_doubled d v h =
    let w = v + 256 ^ d * v in
    let p : w / 256 ^ d ≡ v = add-mul-div_left v v (pow_pos d) ∙ rw (div-eq_of_lt h, zero-add) in
    let q : to_bytes d w ≡ to_bytes d v = sym (to_bytes_mod d w) ∙ ap (to_bytes d) (add-mul-mod_self_left v (256 ^ d) v) ∙ to_bytes_mod d v in
    sym (to_bytes_join d d w) ∙ rw (p, q)
