-- Digits one by one: so many bytes are all digits if two parts of them are, and a number grows by a digit at its end. Bytes that are
-- the same spell the same.
use Prim.Native.Nat.{ℕ, zero, suc, ◌+◌, ◌-◌, ◌*◌, ◌^◌, ◌≤◌, ◌<◌}
use mathlib.Core.Path.{◌≡◌, refl, sym, ◌∙◌}
use mathlib.Core.Bool.{Bool, true, false, cond, ◌||◌, or-true, false≢true}
use mathlib.Core.List.{List}
use native.Mathlib.Nat.{zero-add, add-zero, suc-add, pow-suc, pow-le-pow_right}
use native.Mathlib.Numerals.{add-one}
use native.Mathlib.Omega.{arith}
use lib.ListN.{length, get_or, get_or-eq_default, drop}
use Rattle.std.proofs.lemmas.List.{length-take, length-drop, get_or-take, get_or-drop}
use lib.Dec.{ltb, leb, lit<}
use borrow.Author.Tests.{leb-true, ltb-true, ltb-false, lt-ltb, le-ltb}
use Rattle.std.specs.Prelude.{Some, None}
use Rattle.std.specs.List.{slice_range}
use Rattle.rules.specs.Digits.{is_digit, digit_of, digit_run, spelled}
use Rattle.sheet_frames.specs.Numbers.{digit_at, short, number_at}

-- ---- one byte

digit_most : (b : ℕ) → digit_of b < 16
unfolding digit_of
digit_most b = go (ltb b 48) (leb b 57) refl (ltb b 65) (leb b 70) refl
  where
    go : (p q : Bool) → leb b 57 ≡ q → (r s : Bool) → leb b 70 ≡ s
        → cond p 0 (cond q (b - 48) (cond r 0 (cond s (b - 55) 0))) < 16
    go true q e r s f = omega arith
    go false true e r s f = omega (arith, leb-true b 57 e)
    go false false e true s f = omega arith
    go false false e false true f = omega (arith, leb-true b 70 f)
    go false false e false false f = omega arith

pub no_digit : (b : ℕ) → None ≡ digit_at b → is_digit b ≡ false
unfolding digit_at
no_digit b = go (is_digit b)
  where
    go : (t : Bool) → None ≡ cond t (Some (digit_of b)) None → t ≡ false
    go true e = cc
    go false e = refl

pub a_digit : (b d : ℕ) → Some d ≡ digit_at b → (is_digit b ≡ true) × (d ≡ digit_of b)
unfolding digit_at
a_digit b d = go (is_digit b)
  where
    go : (t : Bool) → Some d ≡ cond t (Some (digit_of b)) None → (t ≡ true) × (d ≡ digit_of b)
    go true e = (refl, cc)
    go false e = (cc, cc)

-- 0 is a digit and counts nothing, as no other digit does
pub zero_digit : is_digit 48 ≡ true
unfolding is_digit
zero_digit = refl

pub zero_counts : digit_of 48 ≡ 0
unfolding digit_of
zero_counts = refl

pub digit_past_0 : (b : ℕ) → is_digit b ≡ true → (b ≡ 48 → ⊥) → 0 < digit_of b
unfolding is_digit digit_of
digit_past_0 b d ne = go (ltb b 48) refl (leb b 57) (ltb b 65) refl (leb b 70) d
  where
    go : (p : Bool) → ltb b 48 ≡ p → (q r : Bool) → ltb b 65 ≡ r → (s : Bool)
        → cond p false (cond q true (cond r false s)) ≡ true → 0 < cond p 0 (cond q (b - 48) (cond r 0 (cond s (b - 55) 0)))
    go true e q r f s t = absurd (false≢true t)
    go false e true r f s t = omega (arith, ltb-false b 48 e)
    go false e false true f s t = absurd (false≢true t)
    go false e false false f true t = omega (arith, ltb-false b 65 f)
    go false e false false f false t = absurd (false≢true t)

-- ---- several

ltb_suc : (m n : ℕ) → ltb (suc m) (suc n) ≡ ltb m n
ltb_suc m n = go (ltb m n) refl
  where
    go : (t : Bool) → ltb m n ≡ t → ltb (suc m) (suc n) ≡ ltb m n
    go true e = lt-ltb (suc m) (suc n) (omega (arith, ltb-true m n e)) ∙ sym e
    go false e = le-ltb (suc m) (suc n) (omega (arith, ltb-false m n e)) ∙ sym e

module _ (text : List ℕ) where
  pub short_split : (at a b : ℕ) → short text at (a + b) ≡ (short text at a || short text (at + a) b)
  unfolding digit_run
  short_split at zero b = rw (zero-add, add-zero)
  short_split at (suc a) b =
      let e : at + suc a ≡ at + 1 + a = omega arith in
      rw (suc-add a b, e) (go (is_digit (get_or text at 0)) (short_split (at + 1) a b))
    where
      go : (t : Bool) → short text (at + 1) (a + b) ≡ (short text (at + 1) a || short text (at + 1 + a) b)
          → ltb (cond t (suc (digit_run text (at + 1) (a + b))) 0) (suc (a + b))
          ≡ (ltb (cond t (suc (digit_run text (at + 1) a)) 0) (suc a) || short text (at + 1 + a) b)
      go true h = rw (ltb_suc, ltb_suc) h
      go false h = rw (lt-ltb 0 (suc (a + b)) (omega arith), lt-ltb 0 (suc a) (omega arith))

  pub short_none : (at : ℕ) → short text at 0 ≡ false
  unfolding digit_run
  short_none at = refl

  one_digit : (at : ℕ) → is_digit (get_or text at 0) ≡ true → short text at 1 ≡ false
  unfolding digit_run
  one_digit at e = rw e

  one_broken : (at : ℕ) → is_digit (get_or text at 0) ≡ false → short text at 1 ≡ true
  unfolding digit_run
  one_broken at e = rw e

  -- a digit more, and a byte that is none
  pub short_more : (at k : ℕ) → short text at k ≡ false → is_digit (get_or text (at + k) 0) ≡ true → short text at (k + 1) ≡ false
  short_more at k h e = rw (short_split at k 1, h, one_digit (at + k) e)

  pub short_here : (at i k : ℕ) → i < k → is_digit (get_or text (at + i) 0) ≡ false → short text at k ≡ true
  short_here at i k h e =
      let rest : ℕ = k - (i + 1) in
      let s : k ≡ i + 1 + rest = omega arith in
      rw (s, short_split at (i + 1) rest, short_split at i 1, one_broken (at + i) e, or-true)

  -- no digit stands past the end of the text
  pub short_past : (at k : ℕ) → 0 < k → length text < at + k → short text at k ≡ true
  unfolding is_digit
  short_past at k p h =
      let z : get_or text (at + (k - 1)) 0 ≡ 0 = get_or-eq_default text 0 (omega arith) in
      short_here at (k - 1) k (omega arith) (rw z)

  -- two digits
  pub two : (at : ℕ) → is_digit (get_or text at 0) ≡ true → is_digit (get_or text (at + 1) 0) ≡ true → short text at 2 ≡ false
  unfolding digit_run
  two at d e = rw (d, e)

  pub first_of_two : (at : ℕ) → short text at 2 ≡ false → is_digit (get_or text at 0) ≡ true
  unfolding digit_run
  first_of_two at h = go (is_digit (get_or text at 0)) refl
    where
      go : (t : Bool) → is_digit (get_or text at 0) ≡ t → is_digit (get_or text at 0) ≡ true
      go true e = e
      go false e = absurd (false≢true (rw e at (sym h)))

  pub spelled_two : (at : ℕ) → spelled text at 2 ≡ digit_of (get_or text at 0) * 16 + digit_of (get_or text (at + 1) 0)
  unfolding spelled
  spelled_two at = rw add-zero (omega arith)

  pub spelled_none : (at : ℕ) → 0 ≡ spelled text at 0
  unfolding spelled
  spelled_none at = refl

  pub spelled_more : (at k : ℕ) → spelled text at (k + 1) ≡ spelled text at k * 16 + digit_of (get_or text (at + k) 0)
  unfolding spelled
  spelled_more at k = rw add-one

  pub spelled_most : (at k : ℕ) → spelled text at k < 16 ^ k
  unfolding spelled
  spelled_most at zero = omega arith
  spelled_most at (suc k) = rw pow-suc (omega (arith, spelled_most at k, digit_most (get_or text (at + k) 0)))

  -- fifteen digits leave room for one more in 64 bits
  pub spelled_small : (at k : ℕ) → k < 16 → spelled text at k < 16 ^ 15
  spelled_small at k h =
      let b : k ≤ 15 = omega arith in
      omega (arith, spelled_most at k, pow-le-pow_right {n = 16} (lit< tt) b)

  pub spelled_fits : (at k : ℕ) → k < 16 → spelled text at (k + 1) < 2 ^ 64
  spelled_fits at k h = omega (arith, spelled_more at k, spelled_small at k h, digit_most (get_or text (at + k) 0))

  pub number_is : (at k : ℕ) → short text at k ≡ false → Some (spelled text at k) ≡ number_at text at k
  unfolding number_at
  number_is at k h = rw h

  pub number_broken : (at k : ℕ) → short text at k ≡ true → None ≡ number_at text at k
  unfolding number_at
  number_broken at k h = rw h

  pub spelt : (at k v : ℕ) → Some v ≡ number_at text at k → (short text at k ≡ false) × (v ≡ spelled text at k)
  unfolding number_at
  spelt at k v = go (short text at k)
    where
      go : (t : Bool) → Some v ≡ cond t None (Some (spelled text at k)) → (t ≡ false) × (v ≡ spelled text at k)
      go true e = (cc, cc)
      go false e = (refl, cc)

  pub broken : (at k : ℕ) → None ≡ number_at text at k → short text at k ≡ true
  unfolding number_at
  broken at k = go (short text at k)
    where
      go : (t : Bool) → None ≡ cond t None (Some (spelled text at k)) → t ≡ true
      go true e = refl
      go false e = cc

-- ---- the same bytes at two places

module _ (xs ys : List ℕ) where
  abbrev Same : (a b k : ℕ) → Type 0
  Same a b k = (i : ℕ) → i < k → get_or xs (a + i) 0 ≡ get_or ys (b + i) 0

  same_later : (a b k : ℕ) → Same a b (suc k) → Same (a + 1) (b + 1) k
  same_later a b k s = λ i h.
      let p : a + 1 + i ≡ a + (i + 1) = omega arith in
      let q : b + 1 + i ≡ b + (i + 1) = omega arith in
      rw (p, q) (s (i + 1) (omega arith))

  same_run : (a b k : ℕ) → Same a b k → digit_run xs a k ≡ digit_run ys b k
  unfolding digit_run
  same_run a b zero s = refl
  same_run a b (suc k) s =
      let first : get_or xs a 0 ≡ get_or ys b 0 = rw (add-zero, add-zero) at (s 0 (omega arith)) in
      rw (first, same_run (a + 1) (b + 1) k (same_later a b k s))

  same_spelled : (a b k : ℕ) → Same a b k → spelled xs a k ≡ spelled ys b k
  unfolding spelled
  same_spelled a b zero s = refl
  same_spelled a b (suc k) s = rw (same_spelled a b k (λ i h. s i (omega arith)), s k (omega arith))

  same_number : (a b k : ℕ) → Same a b k → number_at xs a k ≡ number_at ys b k
  unfolding number_at
  same_number a b k s = rw (same_run a b k s, same_spelled a b k s)

-- what a part of the text spells
pub number_slice : (text : List ℕ) (at k : ℕ) {end : ℕ} → end ≡ at + k → end ≤ length text → {digits : List ℕ}
    → digits ≡ slice_range text at end → number_at digits 0 (length digits) ≡ number_at text at k
number_slice text at k {end} s l e =
    let more : end - at ≡ k = omega arith in
    let long : length (slice_range text at end) ≡ k = rw (length-take, length-drop) (omega arith) in
    rw (e, long) (same_number (slice_range text at end) text 0 at k
    (λ i b. rw (zero-add, more) (get_or-take k (drop at text) i 0 b ∙ get_or-drop at text i 0)))
