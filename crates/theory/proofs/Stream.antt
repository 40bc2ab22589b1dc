-- The stream lemma. Byte b of a node's vector in pass k stands for byte d of element e exactly when
-- W * k + b = W * block_zero + e * D + d + o, o being the node's offset; shifts keep e and d. A vector *holds* its node when every
-- byte that stands for an element still to come is the plain loop's. Nothing is said of the other bytes: zeros from outside a
-- window and blocks that were stored already differ in bytes that don't matter.
use mathlib.Core.Path.{◌≡◌, refl, sym, ap, ap₂, ◌∙◌, subst}
use mathlib.Core.Bool.{Bool, true, false, cond, ◌&&◌}
use mathlib.Core.List.{List}
use Prim.Native.Nat.{ℕ, zero, suc, ◌+◌, ◌-◌, ◌*◌, ◌/◌, ◌%◌, ◌≤◌, ◌<◌}
use native.Mathlib.Nat.{add_assoc, mul-le-mul_right, mul-le-mul_left, mod-lt, div-add-mod', div-add-mod, mul-add-mod_self_right, lt_of_mul-lt-mul_left, add-sub_cancel_left, mod-mod_of_dvd, dvd-mul_left, div-lt_iff_lt-mul}
use native.Mathlib.Omega.{arith}
use borrow.Author.Tests.{le-leb, leb-true, ltb-true, ltb-false, eqb-true}
use lib.Dec.{ltb, leb}
use lib.ListN.{length, take, drop, get_or, replicate, length-replicate, get_or-eq_default, length-take, length-drop}
use lib.Seq.{get_or-take, get_or-drop}
use Rattle.rules.specs.Elements.{to_bytes, of_bytes, element, operate, modulus}
use Rattle.rules.specs.Trees.{Tree, load, splat, op, shift, bytes}
use Rattle.rules.specs.PlainLoop.{window, value}
use Rattle.rules.specs.Offsets.{agree, join, offset}
use Rattle.rules.specs.Vectors.{lanes, vsplat, vop, vshiftpair, block_zero, inside, loaded}
use Rattle.rules.specs.Code.{beside}
use Rattle.rules.specs.declared.nodes.Offset.{Offset}
use Rattle.rules.specs.declared.nodes.Offset.TheVariants.{At, Undefined}
use Rattle.theory.proofs.Passing.{Loop, LoadPasses, Passes}
use Rattle.theory.proofs.Lists.{split, length_part, part_ext, pair_left, pair_right, length_pair, length_lanes, get_or_lanes}
use Rattle.theory.proofs.Numbers.{length_to_bytes, of_bytes_to_bytes, to_bytes_of_bytes, Bytes, of_bytes_lt, modulus_is, operate_lt, mod_at}

-- ---- the vector that a tree stands for in pass k, over the windows as they are

-- a shift's two copies, joined
unfoldable pub paired : (W f g : ℕ) → List ℕ → List ℕ → List ℕ
paired W f g this other = cond (ltb g f) (vshiftpair W this other (f - g)) (vshiftpair W other this (W - (g - f)))

unfoldable pub vec : (W D : ℕ) (work table : List ℕ) → Tree → ℕ → List ℕ
vec W D work table (load w a) k = loaded W (window w work table) (a / W + k)
vec W D work table (splat v) k = vsplat W D v
vec W D work table (op o l r) k = vop W D o (vec W D work table l k) (vec W D work table r k)
vec W D work table (shift f g t) k = paired W f g (vec W D work table t k) (vec W D work table t (beside f g k))

-- ---- blocks

pub loaded_inside : (W : ℕ) (w : List ℕ) (r : ℕ) → W * r + W ≤ length w → loaded W w (block_zero W + r) ≡ take W (drop (W * r) w)
unfolding loaded inside
loaded_inside W w r h =
    rw (add-sub_cancel_left, le-leb (block_zero W) (block_zero W + r) (omega arith), le-leb (W * r + W) (length w) h)

pub length_loaded : (W : ℕ) (w : List ℕ) (q : ℕ) → length (loaded W w q) ≡ W
unfolding loaded inside
length_loaded W w q = go (leb (block_zero W) q) (leb (W * (q - block_zero W) + W) (length w)) refl
  where
    go : (s t : Bool) → leb (W * (q - block_zero W) + W) (length w) ≡ t
        → length (cond (s && t) (take W (drop (W * (q - block_zero W)) w)) (replicate W 0)) ≡ W
    go true true e = length_part W w (W * (q - block_zero W)) (leb-true _ _ e)
    go true false e = length-replicate W 0
    go false t e = length-replicate W 0

-- byte x of a window is byte b of the block that holds it
pub loaded_byte : (W : ℕ) (w : List ℕ) (q b x : ℕ) → length w % W ≡ 0 → W * q + b ≡ W * block_zero W + x → b < W → x < length w
    → get_or (loaded W w q) b 0 ≡ get_or w x 0
loaded_byte W w q b x z e hb hx =
    go (q - block_zero W) (split q (block_zero W) (λ (l : q < block_zero W). absurd (omega (arith, mul-le-mul_left W l))) (λ l. omega arith))
  where
    go : (r : ℕ) → q ≡ block_zero W + r → get_or (loaded W w q) b 0 ≡ get_or w x 0
    go r p =
        let y : x ≡ W * r + b = omega (arith, ap (λ (i : ℕ). W * i) p) in
        let l : r < length w / W = lt_of_mul-lt-mul_left W (omega (arith, div-add-mod (length w) W)) in
        rw (p, loaded_inside W w r (omega (arith, div-add-mod (length w) W, mul-le-mul_left W l)), get_or-take, get_or-drop, y)

-- ---- where a byte stands

abbrev pub Stands : (W D : ℕ) → Offset → (k b e d : ℕ) → Type 0
Stands W D Undefined k b e d = b % D ≡ d
Stands W D (At o) k b e d = W * k + b ≡ W * block_zero W + (e * D + d) + o.0

abbrev pub Aligned : ℕ → Offset → Type 0
Aligned D Undefined = Unit
Aligned D (At o) = o.0 % D ≡ 0

-- under a defined offset too, a byte has its place in its lane
in_lane : (W D o k b e d : ℕ) → W / D * D ≡ W → o % D ≡ 0 → d < D → W * k + b ≡ W * block_zero W + (e * D + d) + o → b % D ≡ d
in_lane W D o k b e d l z h p =
    let q : W / D * k * D + b ≡ (W / D * block_zero W + e + o / D) * D + d =
    omega (arith, ap (λ (x : ℕ). x * k) l, ap (λ (x : ℕ). x * block_zero W) l, div-add-mod' o D) in
    sym (mul-add-mod_self_right (W / D * k) D b) ∙ ap (λ (x : ℕ). x % D) q ∙ mod_at D (W / D * block_zero W + e + o / D) d h

pub aligned : (W D n S : ℕ) (work table : List ℕ) → W / D * D ≡ W → (t : Tree) → Passes W D n S work table t → Aligned D (offset W t)
aligned W D n S work table l (load w a) g = mod-mod_of_dvd D a (rw l at (dvd-mul_left D (W / D))) ∙ g.align
aligned W D n S work table l (splat v) g = tt
aligned W D n S work table l (op o s t) g =
    both (offset W s) (offset W t) (aligned W D n S work table l s g.0) (aligned W D n S work table l t g.1)
  where
    both : (a b : Offset) → Aligned D a → Aligned D b → Aligned D (join a b)
    both Undefined b x y = y
    both (At a) b x y = x
aligned W D n S work table l (shift f h t) g = g.0.to_align

-- a byte that stands for an element under an op's offset does so under both of its inputs'
module _ (W D k b e d : ℕ) (l : W / D * D ≡ W) (h : d < D) where
  stands_left : (a c : Offset) → Aligned D a → Aligned D c → Stands W D (join a c) k b e d → Stands W D a k b e d
  stands_left Undefined Undefined x y p = p
  stands_left Undefined (At c) x y p = in_lane W D c.0 k b e d l y h p
  stands_left (At a) c x y p = p

  pub stands_right : (a c : Offset) → Aligned D a → Aligned D c → agree a c ≡ true → Stands W D (join a c) k b e d → Stands W D c k b e d
  stands_right Undefined c x y g p = p
  stands_right (At a) Undefined x y g p = in_lane W D a.0 k b e d l x h p
  stands_right (At a) (At c) x y g p = rw (← (eqb-true a.0 c.0 g)) p

  stands_lane : (a : Offset) → Aligned D a → Stands W D a k b e d → b % D ≡ d
  stands_lane Undefined x p = p
  stands_lane (At a) x p = in_lane W D a.0 k b e d l x h p

-- the byte of the vector before
previous : (W k b x f h : ℕ) → W * k + b ≡ x + h → b < h - f → h < W → W * (k - 1) + (W - (h - f) + b) ≡ x + f
previous W zero b x f h p r l = absurd (omega arith)
previous W (suc k) b x f h p r l = let e : suc k - 1 ≡ k = omega arith in rw e (omega arith)

-- the other bytes of the lane stand with it
stands_beside : (W D k b e d i : ℕ) → 0 < D → W / D * D ≡ W → i < D → (a : Offset) → b % D ≡ d → Stands W D a k b e d
    → Stands W D a k (b / D * D + i) e i
stands_beside W D k b e d i z l h Undefined r p = mod_at D (b / D) i h
stands_beside W D k b e d i z l h (At o) r p = omega (arith, div-add-mod' b D)

-- ---- a vector's length

length_paired : (W f g : ℕ) (u v : List ℕ) → f < W → length u ≡ W → length v ≡ W → length (paired W f g u v) ≡ W
unfolding paired
length_paired W f g u v h hu hv = go (ltb g f)
  where
    go : (x : Bool) → length (cond x (vshiftpair W u v (f - g)) (vshiftpair W v u (W - (g - f)))) ≡ W
    go true = length_pair W u v (f - g) hu (omega arith) hv
    go false = length_pair W v u (W - (g - f)) hv (omega arith) hu

module _ (W D : ℕ) (m table : List ℕ) (l : W / D * D ≡ W) where
  pub length_vec : (n S : ℕ) (work : List ℕ) (t : Tree) → Passes W D n S work table t → (k : ℕ) → length (vec W D m table t k) ≡ W
  unfolding vec vsplat vop
  length_vec n S work (load w a) g k = length_loaded W (window w m table) (a / W + k)
  length_vec n S work (splat v) g k = length_lanes D (λ i. to_bytes D v) (λ i. length_to_bytes D v) (W / D) ∙ l
  length_vec n S work (op o s t) g k =
      length_lanes D (λ i. to_bytes D (operate D o (element D (vec W D m table s k) (i * D)) (element D (vec W D m table t k) (i * D))))
      (λ i. length_to_bytes D _) (W / D)
      ∙ l
  length_vec n S work (shift f h t) g k =
      length_paired W f h _ _ g.0.from_small (length_vec n S work t g.1 k) (length_vec n S work t g.1 (beside f h k))

-- ---- a work whose bytes from S to S + T, and no others, may have changed

pub record Kept (S T : ℕ) (work m : List ℕ) : Type 0 where
  pub len : length m ≡ length work
  pub before : (x : ℕ) → x < S → get_or m x 0 ≡ get_or work x 0
  pub after : (x : ℕ) → S + T ≤ x → get_or m x 0 ≡ get_or work x 0

bytes_part : (D : ℕ) (w : List ℕ) (a : ℕ) → ((i : ℕ) → get_or w i 0 < 256) → Bytes (take D (drop a w))
unfolding Bytes
bytes_part D w a h i = split i D
    (λ l. rw (get_or-take, get_or-drop) (h (a + i)))
    (λ (l : D ≤ i). rw (get_or-eq_default (take D (drop a w)) 0 {n = i} (simp (length-take, length-drop) (omega arith))) (omega arith))

-- byte d of the tree's element e, on the windows as they are at the start
abbrev pub planned : ℕ → List ℕ → List ℕ → Tree → ℕ → ℕ → ℕ
planned D work table t e d = get_or (to_bytes D (value D work table t e)) d 0

-- byte b of lanes
lane_read : (W D : ℕ) (f : ℕ → List ℕ) → W / D * D ≡ W → 0 < D → ((i : ℕ) → length (f i) ≡ D) → (b d : ℕ) → b < W → b % D ≡ d
    → get_or (lanes (W / D) f) b 0 ≡ get_or (f (b / D)) d 0
lane_read W D f l z hf b d hb e =
    ap (λ (i : ℕ). get_or (lanes (W / D) f) i 0) (sym (div-add-mod' b D))
    ∙ get_or_lanes D f hf (W / D) (b / D) (b % D) ((div-lt_iff_lt-mul z).1 (rw l hb)) (mod-lt b z)
    ∙ ap (λ (i : ℕ). get_or (f (b / D)) i 0) e

module _ (W D n S : ℕ) (work table : List ℕ) (c : Loop W D n S work table) where
  -- a load's element, and its bytes
  module _ (w a e : ℕ) (g : LoadPasses D n S work table w a) (he : e < n) where
    load_inside : a + e * D + D ≤ length (window w work table)
    load_inside = omega (arith, g.bounds, mul-le-mul_right D he)

    load_bytes : to_bytes D (element D (window w work table) (a + e * D)) ≡ take D (drop (a + e * D) (window w work table))
    unfolding element
    load_bytes =
        let p : List ℕ = take D (drop (a + e * D) (window w work table)) in
        let q : length p ≡ D = length_part D (window w work table) (a + e * D) load_inside in
        ap (λ (k : ℕ). to_bytes k (of_bytes p)) (sym q) ∙ to_bytes_of_bytes p (bytes_part D (window w work table) (a + e * D) (c.byte w))

  pub value_lt : (t : Tree) → Passes W D n S work table t → (e : ℕ) → e < n → value D work table t e < modulus D
  unfolding value element
  value_lt (load w a) g e h =
      rw (modulus_is D)
      (rw (length_part D (window w work table) (a + e * D) (load_inside w a e g h)) at
      (of_bytes_lt _ (bytes_part D (window w work table) (a + e * D) (c.byte w))))
  value_lt (splat v) g e h = g
  value_lt (op o s t) g e h = operate_lt D o _ _ (value_lt s g.0 e h) (value_lt t g.1 e h)
  value_lt (shift f i t) g e h = value_lt t g.1 e h

  -- ---- what a vector holds

  module _ (T : ℕ) where
    -- v is the vector of a node in pass k, at offset o, for the elements from T bytes on: each byte that has a place in the
    -- stream is the planned one
    pub record Holds (t : Tree) (o : Offset) (k : ℕ) (v : List ℕ) : Type 0 where
      pub len : length v ≡ W
      pub byte : (b e d : ℕ) → T ≤ e * D → e < n → d < D → b < W → Stands W D o k b e d → get_or v b 0 ≡ planned D work table t e d

    pub holds_splat : (x k : ℕ) → Holds (splat x) Undefined k (vsplat W D x)
    unfolding value vsplat
    holds_splat x k = record {
      len = length_lanes D (λ i. to_bytes D x) (λ i. length_to_bytes D x) (W / D) ∙ c.lanes;
      byte = λ b e d ht he hd hb p. lane_read W D (λ i. to_bytes D x) c.lanes c.element (λ i. length_to_bytes D x) b d hb p;
    }

    -- the lane of byte b is the element
    lane_value : (t : Tree) → Passes W D n S work table t → (k : ℕ) (v : List ℕ) → Holds t (offset W t) k v → (b e d : ℕ)
        → T ≤ e * D → e < n → d < D → b < W → Stands W D (offset W t) k b e d → element D v (b / D * D) ≡ value D work table t e
    unfolding element
    lane_value t g k v ih b e d ht he hd hb p =
        let l : b / D < W / D = (div-lt_iff_lt-mul c.element).1 (rw c.lanes hb) in
        let r : b % D ≡ d = stands_lane W D k b e d c.lanes hd (offset W t) (aligned W D n S work table c.lanes t g) p in
        let q : b / D * D + D ≤ W = omega (arith, mul-le-mul_right D l, c.lanes) in
        ap of_bytes (part_ext D v (b / D * D) (omega (arith, ih.len))
        (to_bytes D (value D work table t e)) (length_to_bytes D (value D work table t e))
        (λ i hi. ih.byte (b / D * D + i) e i ht he hi (omega arith)
        (stands_beside W D k b e d i c.element c.lanes hi (offset W t) r p)))
        ∙ of_bytes_to_bytes D (value D work table t e) (rw (modulus_is D) at (value_lt t g e he))

    pub holds_op : (o : ℕ) (s t : Tree) → Passes W D n S work table (op o s t) → (k : ℕ) (u v : List ℕ)
        → Holds s (offset W s) k u → Holds t (offset W t) k v → Holds (op o s t) (join (offset W s) (offset W t)) k (vop W D o u v)
    unfolding value vop
    holds_op o s t g k u v is it = record { len = length_lanes D f (λ i. length_to_bytes D _) (W / D) ∙ c.lanes; byte = at }
      where
        f : ℕ → List ℕ
        f i = to_bytes D (operate D o (element D u (i * D)) (element D v (i * D)))

        zs : Aligned D (offset W s)
        zs = aligned W D n S work table c.lanes s g.0

        zt : Aligned D (offset W t)
        zt = aligned W D n S work table c.lanes t g.1

        at : (b e d : ℕ) → T ≤ e * D → e < n → d < D → b < W → Stands W D (join (offset W s) (offset W t)) k b e d
            → get_or (lanes (W / D) f) b 0 ≡ get_or (to_bytes D (operate D o (value D work table s e) (value D work table t e))) d 0
        at b e d ht he hd hb p =
            let ps : Stands W D (offset W s) k b e d = stands_left W D k b e d c.lanes hd (offset W s) (offset W t) zs zt p in
            let pt : Stands W D (offset W t) k b e d = stands_right W D k b e d c.lanes hd (offset W s) (offset W t) zs zt g.2 p in
            lane_read W D f c.lanes c.element (λ i. length_to_bytes D _) b d hb (stands_lane W D k b e d c.lanes hd (offset W s) zs ps)
            ∙ ap₂ (λ (x y : ℕ). get_or (to_bytes D (operate D o x y)) d 0)
            (lane_value s g.0 k u is b e d ht he hd hb ps) (lane_value t g.1 k v it b e d ht he hd hb pt)

    holds_left : (f h : ℕ) (t : Tree) (k : ℕ) (u v : List ℕ) → h < f → f < W → Holds t (At (bytes f)) k u → Holds t (At (bytes f)) (k + 1) v
        → Holds (shift f h t) (At (bytes h)) k (vshiftpair W u v (f - h))
    unfolding value
    holds_left f h t k u v l small x y = record {
      len = length_pair W u v (f - h) x.len (omega arith) y.len;
      byte = λ b e d ht he hd hb p. split (f - h + b) W
          (λ r. pair_left W u v (f - h) x.len b hb r ∙ x.byte (f - h + b) e d ht he hd r (omega arith))
          (λ r. pair_right W u v (f - h) x.len b (f - h + b - W) hb (omega arith)
          ∙ y.byte (f - h + b - W) e d ht he hd (omega arith) (omega arith));
    }

    holds_right : (f h : ℕ) (t : Tree) (k : ℕ) (u v : List ℕ) → f ≤ h → h < W → Holds t (At (bytes f)) (k - 1) u → Holds t (At (bytes f)) k v
        → Holds (shift f h t) (At (bytes h)) k (vshiftpair W u v (W - (h - f)))
    unfolding value
    holds_right f h t k u v l small x y = record {
      len = length_pair W u v (W - (h - f)) x.len (omega arith) y.len;
      byte = λ b e d ht he hd hb p. split b (h - f)
          (λ r. pair_left W u v (W - (h - f)) x.len b hb (omega arith)
          ∙ x.byte (W - (h - f) + b) e d ht he hd (omega arith) (previous W k b (W * block_zero W + (e * D + d)) f h p r small))
          (λ r. pair_right W u v (W - (h - f)) x.len b (b - (h - f)) hb (omega arith)
          ∙ y.byte (b - (h - f)) e d ht he hd (omega arith) (omega arith));
    }

    -- this and the vector beside it, joined, hold the shift
    pub holds_paired : (f h : ℕ) (t : Tree) (k : ℕ) (v : ℕ → List ℕ) → f < W → h < W → ((j : ℕ) → Holds t (At (bytes f)) j (v j))
        → Holds (shift f h t) (At (bytes h)) k (paired W f h (v k) (v (beside f h k)))
    unfolding paired beside
    holds_paired f h t k v hf hh x = go (ltb h f) refl
      where
        go : (b : Bool) → ltb h f ≡ b → Holds (shift f h t) (At (bytes h)) k
            (cond b (vshiftpair W (v k) (v (cond b (k + 1) (k - 1))) (f - h)) (vshiftpair W (v (cond b (k + 1) (k - 1))) (v k) (W - (h - f))))
        go true q = holds_left f h t k (v k) (v (k + 1)) (ltb-true h f q) hf (x k) (x (k + 1))
        go false q = holds_right f h t k (v (k - 1)) (v k) (ltb-false h f q) hh (x (k - 1)) (x k)

  -- a work m in which every byte that is still to be read, from T bytes on, stands as it did at the start
  pub record Reads (T : ℕ) (m : List ℕ) : Type 0 where
    pub len : length m ≡ length work
    pub same : (a : ℕ) → LoadPasses D n S work table 0 a → (e d : ℕ) → T ≤ e * D → e < n → d < D
        → get_or m (a + (e * D + d)) 0 ≡ get_or work (a + (e * D + d)) 0

  -- the only use of CARRY: what is still to be read has not been written
  pub kept_reads : (T : ℕ) (m : List ℕ) → Kept S T work m → Reads T m
  kept_reads T m kept = record {
    len = kept.len;
    same = λ a g e d ht he hd. split a S
        (λ (h : a < S). kept.before (a + (e * D + d)) (omega (arith, g.carry refl h, mul-le-mul_right D he)))
        (λ h. kept.after (a + (e * D + d)) (omega arith));
  }

  module _ (T : ℕ) (m : List ℕ) (reads : Reads T m) where
    load_same : (w a : ℕ) → LoadPasses D n S work table w a → (e d : ℕ) → T ≤ e * D → e < n → d < D
        → get_or (window w m table) (a + (e * D + d)) 0 ≡ get_or (window w work table) (a + (e * D + d)) 0
    load_same zero a g e d ht he hd = reads.same a g e d ht he hd
    load_same (suc w) a g e d ht he hd = refl

    length_window : (w : ℕ) → length (window w m table) ≡ length (window w work table)
    length_window zero = reads.len
    length_window (suc w) = refl

    pub value_same : (t : Tree) → Passes W D n S work table t → (e : ℕ) → T ≤ e * D → e < n → value D m table t e ≡ value D work table t e
    unfolding value element
    value_same (load w a) g e ht he = ap of_bytes
        (part_ext D (window w m table) (a + e * D) (omega (arith, load_inside w a e g he, length_window w))
        (take D (drop (a + e * D) (window w work table))) (length_part D (window w work table) (a + e * D) (load_inside w a e g he))
        (λ d hd. rw (get_or-take, get_or-drop, add_assoc) (load_same w a g e d ht he hd)))
    value_same (splat v) g e ht he = refl
    value_same (op o s t) g e ht he = ap₂ (operate D o) (value_same s g.0 e ht he) (value_same t g.1 e ht he)
    value_same (shift f i t) g e ht he = value_same t g.1 e ht he

    holds_load : (w a : ℕ) → LoadPasses D n S work table w a → (k : ℕ)
        → Holds T (load w a) (At (bytes (a % W))) k (loaded W (window w m table) (a / W + k))
    unfolding value
    holds_load w a g k = record {
      len = length_loaded W (window w m table) (a / W + k);
      byte = λ b e d ht he hd hb p.
          loaded_byte W (window w m table) (a / W + k) b (a + (e * D + d)) (rw (length_window w) (c.whole w))
          (omega (arith, div-add-mod a W)) hb (omega (arith, load_inside w a e g he, length_window w))
          ∙ load_same w a g e d ht he hd
          ∙ sym (rw (load_bytes w a e g he, get_or-take, get_or-drop, add_assoc));
    }

    -- THE STREAM LEMMA
    pub vec_holds : (t : Tree) → Passes W D n S work table t → (k : ℕ) → Holds T t (offset W t) k (vec W D m table t k)
    unfolding vec
    vec_holds (load w a) g k = holds_load w a g k
    vec_holds (splat x) g k = holds_splat T x k
    vec_holds (op o s t) g k = holds_op T o s t g k _ _ (vec_holds s g.0 k) (vec_holds t g.1 k)
    vec_holds (shift f h t) g k =
        holds_paired T f h t k (λ j. vec W D m table t j) g.0.from_small g.0.to_small
        (λ j. subst (λ (o : Offset). Holds T t o j (vec W D m table t j)) g.0.offset (vec_holds t g.1 j))
