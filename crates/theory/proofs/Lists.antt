-- Case splits and tests, what holds of every item of a list, and what a byte of a part, a paste, a splice, a joined pair and a
-- row of lanes is.
use mathlib.Core.Path.{◌≡◌, refl, sym, ap, ◌∙◌}
use mathlib.Core.Bool.{Bool, true, false, ◌&&◌, false≢true}
use mathlib.Core.List.{List, [], ◌∷◌, ◌++◌}
use Prim.Native.Nat.{ℕ, zero, suc, ◌+◌, ◌-◌, ◌*◌, ◌≤◌, ◌<◌}
use native.Mathlib.Nat.{mul-le-mul_right}
use native.Mathlib.Decide.{dec_lt}
use native.Mathlib.Omega.{arith}
use lib.ListN.{length, take, drop, get_or, length-append, length-take, length-drop, get_or-append}
use lib.Seq.{get_or-take, get_or-drop, get_or-append-add, ext_get_or, paste, length-take-le}
use Rattle.rules.specs.Vectors.{lanes, vsplice, vshiftpair}

not_lt : (a b : ℕ) → ¬ (a < b) → b ≤ a
not_lt a b h = omega arith

-- a case split on a < b, at any goal
pub split : {G : Type 0} (a b : ℕ) → (a < b → G) → (b ≤ a → G) → G
split {G} a b f g = go (dec_lt a b)
  where
    go : Dec (a < b) → G
    go (yes h) = f h
    go (no h) = g (not_lt a b h)

-- both of two tests
pub and_left : (a b : Bool) → (a && b) ≡ true → a ≡ true
and_left true b e = refl
and_left false b e = absurd (false≢true e)

pub and_right : (a b : Bool) → (a && b) ≡ true → b ≡ true
and_right true b e = e
and_right false b e = absurd (false≢true e)

-- what holds of every item
pub data Every {A : Type 0} (P : A → Type 0) : List A → Type 0 where
  none : Every P []
  more : {a : A} {l : List A} → P a → Every P l → Every P (a ∷ l)

pub every_append : {A : Type 0} {P : A → Type 0} {l r : List A} → Every P l → Every P r → Every P (l ++ r)
every_append none r = r
every_append (more p l) r = more p (every_append l r)

-- a byte past the seam
pub get_or_past : (p q : List ℕ) (n i : ℕ) → length p ≡ n → get_or (p ++ q) (n + i) 0 ≡ get_or q i 0
get_or_past p q n i e = rw (← e) (get_or-append-add p q i 0)

pub get_or_pastˡ : (p q : List ℕ) (i : ℕ) → length p ≤ i → get_or (p ++ q) i 0 ≡ get_or q (i - length p) 0
get_or_pastˡ p q i h =
    let e : i ≡ length p + (i - length p) = omega arith in
    ap (λ (k : ℕ). get_or (p ++ q) k 0) e ∙ get_or-append-add p q (i - length p) 0

-- ---- a part of D bytes at address a
module _ (D : ℕ) (w : List ℕ) (a : ℕ) (fits : a + D ≤ length w) where
  pub length_part : length (take D (drop a w)) ≡ D
  length_part = simp (length-take, length-drop) (omega arith)

  -- a part is known by its bytes
  pub part_ext : (bs : List ℕ) → length bs ≡ D → ((d : ℕ) → d < D → get_or w (a + d) 0 ≡ get_or bs d 0) → take D (drop a w) ≡ bs
  part_ext bs e h = ext_get_or 0 (take D (drop a w)) bs (length_part ∙ sym e) (λ d k. at d (omega (arith, length_part)))
    where
      at : (d : ℕ) → d < D → get_or (take D (drop a w)) d 0 ≡ get_or bs d 0
      at d k = rw (get_or-take, get_or-drop) (h d k)

-- ---- a paste
module _ (d : List ℕ) (at : ℕ) (s : List ℕ) (n : ℕ) (hd : at + n ≤ length d) (hs : n ≤ length s) where
  head_length : length (take at d ++ take n s) ≡ at + n
  head_length = simp (length-append, length-take) (omega arith)

  pub paste_before : (i : ℕ) → i < at → get_or (paste d at s n) i 0 ≡ get_or d i 0
  paste_before i h =
      let e : length (take at d) ≡ at = length-take-le at d (omega arith) in
      get_or-append (take at d ++ take n s) (drop (at + n) d) 0 i (omega (arith, head_length))
      ∙ get_or-append (take at d) (take n s) 0 i (omega arith)
      ∙ get_or-take at d i 0 h

  pub paste_in : (i : ℕ) → i < n → get_or (paste d at s n) (at + i) 0 ≡ get_or s i 0
  paste_in i h =
      get_or-append (take at d ++ take n s) (drop (at + n) d) 0 (at + i) (omega (arith, head_length))
      ∙ get_or_past (take at d) (take n s) at i (length-take-le at d (omega arith))
      ∙ get_or-take n s i 0 h

  pub paste_after : (i : ℕ) → at + n ≤ i → get_or (paste d at s n) i 0 ≡ get_or d i 0
  paste_after i h =
      let e : i ≡ at + n + (i - (at + n)) = omega arith in
      ap (λ (k : ℕ). get_or (paste d at s n) k 0) e
      ∙ get_or_past (take at d ++ take n s) (drop (at + n) d) (at + n) (i - (at + n)) head_length
      ∙ get_or-drop (at + n) d (i - (at + n)) 0
      ∙ ap (λ (k : ℕ). get_or d k 0) (sym e)

-- ---- a splice: l bytes of u, then v's
module _ (u v : List ℕ) (l : ℕ) (hu : l ≤ length u) where
  pub splice_left : (b : ℕ) → b < l → get_or (vsplice u v l) b 0 ≡ get_or u b 0
  unfolding vsplice
  splice_left b h =
      get_or-append (take l u) (drop l v) 0 b (omega (arith, length-take-le l u hu)) ∙ get_or-take l u b 0 h

  pub splice_right : (b : ℕ) → l ≤ b → get_or (vsplice u v l) b 0 ≡ get_or v b 0
  unfolding vsplice
  splice_right b h =
      let e : b ≡ l + (b - l) = omega arith in
      ap (λ (k : ℕ). get_or (take l u ++ drop l v) k 0) e
      ∙ get_or_past (take l u) (drop l v) l (b - l) (length-take-le l u hu)
      ∙ get_or-drop l v (b - l) 0 ∙ ap (λ (k : ℕ). get_or v k 0) (sym e)

pub length_splice : (u v : List ℕ) (l : ℕ) → l ≤ length u → length u ≡ length v → length (vsplice u v l) ≡ length v
unfolding vsplice
length_splice u v l h e = simp (length-append, length-take, length-drop) (omega arith)

-- ---- a joined pair
module _ (W : ℕ) (u v : List ℕ) (l : ℕ) (hu : length u ≡ W) where
  pub length_pair : l ≤ W → length v ≡ W → length (vshiftpair W u v l) ≡ W
  unfolding vshiftpair
  length_pair h hv = simp (length-take, length-drop, length-append) (omega arith)

  pub pair_left : (b : ℕ) → b < W → l + b < W → get_or (vshiftpair W u v l) b 0 ≡ get_or u (l + b) 0
  unfolding vshiftpair
  pair_left b h k = rw (get_or-take, get_or-drop) (get_or-append u v 0 (l + b) (omega arith))

  pub pair_right : (b i : ℕ) → b < W → l + b ≡ W + i → get_or (vshiftpair W u v l) b 0 ≡ get_or v i 0
  unfolding vshiftpair
  pair_right b i h e = rw (get_or-take, get_or-drop, e) (get_or_past u v W i hu)

-- ---- lanes
module _ (D : ℕ) (f : ℕ → List ℕ) (hf : (i : ℕ) → length (f i) ≡ D) where
  pub length_lanes : (n : ℕ) → length (lanes n f) ≡ n * D
  length_lanes zero = omega arith
  length_lanes (suc n) = length-append (lanes n f) (f n) ∙ omega (arith, length_lanes n, hf n)

  pub get_or_lanes : (n i d : ℕ) → i < n → d < D → get_or (lanes n f) (i * D + d) 0 ≡ get_or (f i) d 0
  get_or_lanes zero i d h k = absurd (omega arith)
  get_or_lanes (suc n) i d h k = split i n
      (λ (l : i < n).
      get_or-append (lanes n f) (f n) 0 (i * D + d) (omega (arith, length_lanes n, mul-le-mul_right D l)) ∙ get_or_lanes n i d l k)
      (λ l. let e : i ≡ n = omega arith in rw e (get_or_past (lanes n f) (f n) (n * D) d (length_lanes n)))
