-- vshiftpair by elements: one that straddles two neighbours, by shifts, and sixteen bytes of two vectors as two such elements.
-- Assumes nothing.
use Prim.Native.Nat.{ℕ, ◌+◌, ◌-◌, ◌*◌, ◌/◌, ◌%◌, ◌^◌, ◌≤◌, ◌<◌}
use mathlib.Core.Path.{◌≡◌, sym, ap, ◌∙◌, subst}
use mathlib.Core.List.{List, ◌++◌}
use native.Mathlib.Omega.{arith}
use native.Mathlib.Nat.{add-zero, add_assoc, add_comm, mul_comm, mul_assoc, mul-mod_left, mul-div_cancel, mod-lt, div-lt_iff_lt-mul}
use lib.Arith.{mod-mul, digits_lt}
use lib.Pow.{pow-add, mod-mod-pow}
use lib.ListN.{length, get_or, take, drop, length-append, get_or-append}
use Rattle.rules.specs.Elements.{to_bytes, element, modulus}
use Rattle.rules.specs.Vectors.{vshiftpair}
use Rattle.theory.proofs.Lists.{split, get_or_pastˡ}
use Rattle.theory.proofs.Numbers.{Bytes, pow_pos, modulus_is}
use Rattle.theory.proofs.ElementLaws.{element_join, element_above, element_lower, element_left, element_right, to_bytes_mod, to_bytes_join, to_bytes_element}

-- the element that starts m bytes into the lower of two neighbours of m + e bytes
pub element_straddling : (m e : ℕ) (v : List ℕ) (at : ℕ) → Bytes v
    → element (m + e) v at / 256 ^ m + 256 ^ e * (element (m + e) v (at + (m + e)) % 256 ^ m) ≡ element (m + e) v (at + m)
element_straddling m e v at b =
    let s : at + (m + e) ≡ at + m + e = sym (add_assoc at m e) in
    rw (element_above m e v at b, element_lower m e v (at + (m + e)) b, s, add_comm m e) (sym (element_join e m v (at + m)))

-- two elements side by side are a part of twice their bytes
pub part_halves : (d : ℕ) (v : List ℕ) (at : ℕ) → Bytes v → at + (d + d) ≤ length v
    → to_bytes d (element d v at) ++ to_bytes d (element d v (at + d)) ≡ take (d + d) (drop at v)
part_halves d v at b h =
    rw (← element_lower d d v at b, to_bytes_mod d (element (d + d) v at), ← element_above d d v at b, to_bytes_join d d (element (d + d) v at))
    (to_bytes_element (d + d) v at b h)

-- ---- by shifts

scaled : (h m c : ℕ) → 0 < m → 0 < c → h * c % (m * c) ≡ h % m * c
scaled h m c p q = mod-mul (h * c) p q ∙ rw (mul-div_cancel h q, mul-mod_left h c, add-zero)

module _ (m : ℕ) (l : m < 8) where
  -- what is left of the shift by all bits, and the bits that m bytes have
  abbrev up : ℕ
  up = 256 * 2 ^ (56 - 8 * m)

  abbrev down : ℕ
  down = 2 ^ (8 * m)

  together : 56 - 8 * m + 8 * m ≡ 56
  together = omega (arith, l)

  pub down_is : down ≡ 256 ^ m
  unfolding modulus
  down_is = modulus_is m

  up_is : up ≡ 256 ^ (8 - m)
  unfolding modulus
  up_is =
      let e : 8 + (56 - 8 * m) ≡ 8 * (8 - m) = omega (arith, l) in
      sym (pow-add 2 8 (56 - 8 * m)) ∙ ap (λ (x : ℕ). 2 ^ x) e ∙ modulus_is (8 - m)

  whole : down * up ≡ 18446744073709551616
  whole =
      let p : 2 ^ (56 - 8 * m) * 2 ^ (8 * m) ≡ 2 ^ 56 = sym (pow-add 2 (56 - 8 * m) (8 * m)) ∙ ap (λ (x : ℕ). 2 ^ x) together in
      mul_comm down up ∙ mul_assoc 256 (2 ^ (56 - 8 * m)) down ∙ ap (λ (x : ℕ). 256 * x) p

  down_pos : 0 < down
  down_pos = subst (λ (x : ℕ). 0 < x) (sym down_is) (pow_pos m)

  up_pos : 0 < up
  up_pos = subst (λ (x : ℕ). 0 < x) (sym up_is) (pow_pos (8 - m))

  shifted : (h : ℕ) → h * 256 % 18446744073709551616 * 2 ^ (56 - 8 * m) % 18446744073709551616 ≡ h % down * up
  shifted h =
      let cut = h % 72057594037927936 in
      let s : h * 256 % 18446744073709551616 ≡ cut * 256 = scaled h 72057594037927936 256 (omega arith) (omega arith) in
      let u : cut % down ≡ h % down = rw together at (mod-mod-pow h (56 - 8 * m) (8 * m)) in
      rw (s, mul_assoc cut 256 (2 ^ (56 - 8 * m)), ← whole, scaled cut down up down_pos up_pos, u)

  -- up in two steps, the second by what m leaves
  pub shifted_up : (h : ℕ) → h * 256 % 18446744073709551616 * 2 ^ (56 - 8 * m) % 18446744073709551616 ≡ 256 ^ (8 - m) * (h % 256 ^ m)
  shifted_up h = shifted h ∙ mul_comm (h % down) up ∙ rw (up_is, down_is)

  -- below and above do not meet
  pub shifted_fits : (x h : ℕ) → x < 18446744073709551616
      → x / 2 ^ (8 * m) + h * 256 % 18446744073709551616 * 2 ^ (56 - 8 * m) % 18446744073709551616 < 18446744073709551616
  shifted_fits x h g =
      let b : x / down < up = (div-lt_iff_lt-mul down_pos).1 (subst (λ (y : ℕ). x < y) (sym (mul_comm up down ∙ whole)) g) in
      let d = digits_lt (mod-lt h down_pos) b in
      let e : x / down + h % down * up ≡ h % down * up + x / down = add_comm (x / down) (h % down * up) in
      rw (shifted h, e) (subst (λ (y : ℕ). h % down * up + x / down < y) whole d)

-- ---- two vectors of sixteen bytes joined, by their four elements of eight

pub straddled : (v : List ℕ) (at m low high to : ℕ) → Bytes v → m < 8 → low ≡ element 8 v at → high ≡ element 8 v (at + 8) → at + m ≡ to
    → low / 256 ^ m + 256 ^ (8 - m) * (high % 256 ^ m) ≡ element 8 v to
straddled v at m low high to b l e f g =
    let s : m + (8 - m) ≡ 8 = omega (arith, l) in
    rw (← g, e, f) (rw s at (element_straddling m (8 - m) v at b))

-- a byte of two lists joined
joined_left : (v w : List ℕ) (k : ℕ) → k < length v → get_or v k 0 ≡ get_or (v ++ w) k 0
joined_left v w k h = sym (get_or-append v w 0 k h)

joined_right : (v w : List ℕ) (n k : ℕ) → length v ≡ n → n ≤ k → get_or w (k - n) 0 ≡ get_or (v ++ w) k 0
joined_right v w n k e h = sym (rw e at (get_or_pastˡ v w k (omega arith)))

module _ (v1 v2 : List ℕ) (n1 : length v1 ≡ 16) (n2 : length v2 ≡ 16) where
  pub joined_bytes : Bytes v1 → Bytes v2 → Bytes (v1 ++ v2)
  unfolding Bytes
  joined_bytes b1 b2 i = split i 16
      (λ (h : i < 16). rw (← joined_left v1 v2 i (omega arith)) (b1 i))
      (λ h. rw (← joined_right v1 v2 16 i n1 h) (b2 (i - 16)))

  pub first_of_pair : element 8 v1 0 ≡ element 8 (v1 ++ v2) 0
  first_of_pair = element_left 8 v1 v2 0 (omega arith)

  pub second_of_pair : element 8 v1 8 ≡ element 8 (v1 ++ v2) 8
  second_of_pair = element_left 8 v1 v2 8 (omega arith)

  pub third_of_pair : element 8 v2 0 ≡ element 8 (v1 ++ v2) 16
  third_of_pair = element_right 8 v1 v2 16 0 n1

  pub fourth_of_pair : element 8 v2 8 ≡ element 8 (v1 ++ v2) 24
  fourth_of_pair = element_right 8 v1 v2 16 8 n1

  -- two elements side by side are what vshiftpair takes out
  pub pair_of_elements : (l x y : ℕ) → Bytes (v1 ++ v2) → l ≤ 16 → x ≡ element 8 (v1 ++ v2) l → y ≡ element 8 (v1 ++ v2) (l + 8)
      → to_bytes 8 x ++ to_bytes 8 y ≡ vshiftpair 16 v1 v2 l
  unfolding vshiftpair
  pair_of_elements l x y b h e f = rw (e, f) (part_halves 8 (v1 ++ v2) l b (simp length-append (omega arith)))

  -- from m bytes after one of the four elements on, two elements out of three neighbours
  pub pair_shifted : (at m l : ℕ) {a b c x y : ℕ} → Bytes v1 → Bytes v2 → m < 8 → at + m ≡ l → l ≤ 16
      → a ≡ element 8 (v1 ++ v2) at → b ≡ element 8 (v1 ++ v2) (at + 8) → c ≡ element 8 (v1 ++ v2) (at + 16)
      → x ≡ a / 256 ^ m + 256 ^ (8 - m) * (b % 256 ^ m) → y ≡ b / 256 ^ m + 256 ^ (8 - m) * (c % 256 ^ m)
      → to_bytes 8 x ++ to_bytes 8 y ≡ vshiftpair 16 v1 v2 l
  pair_shifted at m l {a} {b} {c} {x} {y} b1 b2 g e h ea eb ec ex ey =
      let w = joined_bytes b1 b2 in
      let s : at + 8 + m ≡ l + 8 = omega arith in
      pair_of_elements l x y w h (ex ∙ straddled (v1 ++ v2) at m a b l w g ea eb e)
      (ey ∙ straddled (v1 ++ v2) (at + 8) m b c (l + 8) w g eb (ec ∙ ap (λ (k : ℕ). element 8 (v1 ++ v2) k) (omega arith)) s)
