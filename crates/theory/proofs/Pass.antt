-- The pass lemma. Prologue, prologue-only, body and epilogue are one thing: in pass j the bytes of the store stream in its
-- block become the plan's, and all others are kept.
use mathlib.Core.Path.{◌≡◌, refl, sym, ap, ◌∙◌}
use mathlib.Core.Bool.{true}
use mathlib.Core.List.{List}
use Prim.Native.Nat.{ℕ, suc, ◌+◌, ◌-◌, ◌*◌, ◌/◌, ◌%◌, ◌≤◌, ◌<◌, ◌∣◌, min}
use native.Mathlib.Nat.{mul-le-mul_right, mul-le-mul_left, mod-lt, div-add-mod', div-add-mod, div-lt_iff_lt-mul, lt_of_mul-lt-mul_left, dvd-sub, dvd-mul_left, dvd-mul_right_of_dvd, dvd_of_mod-eq-zero, mod-eq-zero_of_dvd, mod-mod_of_dvd, div-mul_cancel}
use native.Mathlib.Omega.{arith}
use lib.ListN.{length, get_or}
use lib.Seq.{paste, length-paste}
use Rattle.rules.specs.Trees.{Tree, bytes}
use Rattle.rules.specs.Offsets.{offset, root_kept}
use Rattle.rules.specs.Vectors.{vsplice, block_zero, loaded, stored}
use Rattle.rules.specs.Code.{full_vectors, rest_elements}
use Rattle.rules.specs.declared.nodes.Offset.TheVariants.{At}
use Rattle.theory.proofs.Passing.{Loop, Passes}
use Rattle.theory.proofs.Lists.{split, paste_before, paste_in, paste_after, splice_left, splice_right, length_splice}
use Rattle.theory.proofs.Numbers.{lane_low}
use Rattle.theory.proofs.Stream.{vec, kept_reads, Holds, planned, vec_holds, loaded_byte, aligned, stands_right}
use Rattle.theory.proofs.Plan.{Upto}

-- a block to store in pass j: new where the plan has bytes, old elsewhere
pub record Masked (W D n S j : ℕ) (old new v : List ℕ) : Type 0 where
  pub len : length v ≡ W
  pub low : (b : ℕ) → b < W → W * j + b < S % W → get_or v b 0 ≡ get_or old b 0
  pub mid : (b : ℕ) → b < W → S % W ≤ W * j + b → W * j + b < S % W + n * D → get_or v b 0 ≡ get_or new b 0
  pub high : (b : ℕ) → b < W → S % W + n * D ≤ W * j + b → get_or v b 0 ≡ get_or old b 0

-- what pass j finds in its block of the store stream, and where it stores
abbrev pub store_block : (W S j : ℕ) → ℕ
store_block W S j = S / W + (block_zero W + j)

module _ (W D n S : ℕ) (work table : List ℕ) (t : Tree) (c : Loop W D n S work table) (g : Passes W D n S work table t) where
  whole : (m : List ℕ) → length m ≡ length work → length m % W ≡ 0
  whole m e = rw e (c.whole 0)

  -- pass j's block is inside work, if it holds a byte of the plan
  pub block_inside : (j : ℕ) (m : List ℕ) → length m ≡ length work → W * j < S % W + n * D → W * (S / W + j) + W ≤ length m
  block_inside j m e h =
      let p : W * (length m / W) + length m % W ≡ length m = div-add-mod (length m) W in
      let l : S / W + j < length m / W = lt_of_mul-lt-mul_left W (omega (arith, whole m e, div-add-mod S W, c.bounds)) in
      omega (arith, whole m e, mul-le-mul_left W l)

  D∣W : D ∣ W
  D∣W = rw c.lanes at (dvd-mul_left D (W / D))

  D∣c : D ∣ S % W
  D∣c = dvd_of_mod-eq-zero D (mod-mod_of_dvd D S D∣W ∙ c.align)

  lanes_pos : 0 < W / D
  lanes_pos = split 0 (W / D) (λ l. l) (λ (l : W / D ≤ 0). absurd (omega (arith, mul-le-mul_right D l, c.lanes, c.vector)))

  -- p + n = B F + e, in bytes
  pub plan_bytes : (S % W + n * D ≡ W * full_vectors W D n S + rest_elements W D n S * D) × (rest_elements W D n S * D < W)
  plan_bytes = (
    omega (
      arith,
      ap (λ (x : ℕ). x * D) (div-add-mod' (S % W / D + n) (W / D)),
      ap (λ (x : ℕ). full_vectors W D n S * x) c.lanes,
      div-mul_cancel D D∣c,
    ),
    omega (arith, mul-le-mul_right D (mod-lt (S % W / D + n) lanes_pos), c.lanes, c.element),
  )

  module _ (root : root_kept W S t ≡ true) (j : ℕ) (m : List ℕ) (h : W * j < S % W + n * D) (u : Upto D S work table t (W * j - S % W) m) where
    old_byte : (b : ℕ) → b < W → get_or (loaded W m (store_block W S j)) b 0 ≡ get_or m (W * (S / W + j) + b) 0
    old_byte b hb =
        loaded_byte W m (store_block W S j) b (W * (S / W + j) + b) (whole m u.kept.len) (omega arith) hb
        (omega (arith, block_inside j m u.kept.len h))

    -- byte x of the store stream, in a vector that holds the tree in this pass
    module _ (new : List ℕ) (holds : Holds W D n S work table c (W * j - S % W) t (offset W t) (block_zero W + j) new) where
      new_byte : (b x : ℕ) → b < W → x < n * D → W * j + b ≡ S % W + x → get_or new b 0 ≡ planned D work table t (x / D) (x % D)
      new_byte b x hb hx p =
          holds.byte b (x / D) (x % D)
          (lane_low D (W * j - S % W) x c.element (mod-eq-zero_of_dvd D (dvd-sub D (dvd-mul_right_of_dvd D D∣W j) D∣c)) (omega arith))
          ((div-lt_iff_lt-mul c.element).1 hx) (mod-lt x c.element) hb
          (stands_right W D (block_zero W + j) b (x / D) (x % D) c.lanes (mod-lt x c.element) (At (bytes (S % W))) (offset W t)
          (mod-eq-zero_of_dvd D D∣c) (aligned W D n S work table c.lanes t g) root
          (omega (arith, div-add-mod' x D)))

      -- the block's address as a variable
      module _ (v : List ℕ) (k : Masked W D n S j (loaded W m (store_block W S j)) new v)
          (a : ℕ) (ea : a ≡ W * (S / W + j)) (at-S : a + S % W ≡ S + W * j) (c_w : S % W < W) (hd : a + W ≤ length m) (hs : W ≤ length v) where
        block_byte : (x y : ℕ) → a ≤ x → x < a + W → ((b : ℕ) → b < W → a + b ≡ x → get_or v b 0 ≡ y) → get_or (paste m a v W) x 0 ≡ y
        block_byte x y r q f =
            let e : a + (x - a) ≡ x = omega arith in
            rw e at (paste_in m a v W hd hs (x - a) (omega arith)) ∙ f (x - a) (omega arith) e

        from_old : (b x : ℕ) → b < W → a + b ≡ x → get_or (loaded W m (store_block W S j)) b 0 ≡ get_or m x 0
        from_old b x hb e = rw (← e, ea) (old_byte b hb)

        pasted_upto : Upto D S work table t (min (n * D) (W * suc j - S % W)) (paste m a v W)
        pasted_upto = record {
          kept = record {
            len = length-paste m a v W hd hs ∙ u.kept.len;
            before = λ x l. split x a
                (λ r. paste_before m a v W hd hs x r ∙ u.kept.before x l)
                (λ r. block_byte x _ r (omega arith) (λ b hb e. k.low b hb (omega arith) ∙ from_old b x hb e) ∙ u.kept.before x l);
            after = λ x l. split x (a + W)
                (λ r. block_byte x _ (omega arith) r (λ b hb e. k.high b hb (omega arith) ∙ from_old b x hb e) ∙ u.kept.after x (omega arith))
                (λ r. paste_after m a v W hd hs x r ∙ u.kept.after x (omega arith));
          };
          done = λ x l. split (S + x) a
              (λ r. paste_before m a v W hd hs (S + x) r ∙ u.done x (omega arith))
              (λ r. block_byte (S + x) _ r (omega arith)
              (λ b hb e. k.mid b hb (omega arith) (omega arith) ∙ new_byte b x hb (omega arith) (omega arith)));
        }

      -- THE PASS LEMMA
      pub pass : (v : List ℕ) → Masked W D n S j (loaded W m (store_block W S j)) new v
          → Upto D S work table t (min (n * D) (W * suc j - S % W)) (stored W m (store_block W S j) v)
      unfolding stored
      pass v k =
          let e : store_block W S j - block_zero W ≡ S / W + j = omega arith in
          rw e
          (pasted_upto v k (W * (S / W + j)) refl (omega (arith, div-add-mod S W)) (mod-lt S c.vector)
          (block_inside j m u.kept.len h) (omega (arith, k.len)))

    -- with the vector of the tree
    pub pass_new : (v : List ℕ) → Masked W D n S j (loaded W m (store_block W S j)) (vec W D m table t (block_zero W + j)) v
        → Upto D S work table t (min (n * D) (W * suc j - S % W)) (stored W m (store_block W S j) v)
    pass_new = pass (vec W D m table t (block_zero W + j))
        (vec_holds W D n S work table c (W * j - S % W) m (kept_reads W D n S work table c (W * j - S % W) m u.kept) t g (block_zero W + j))

-- ---- the four sections store a masked block

module _ (W D n S : ℕ) (c_w : S % W < W) where
  pub only_masked : (o v : List ℕ) → length o ≡ W → length v ≡ W → S % W + n * D ≤ W
      → Masked W D n S 0 o v (vsplice (vsplice o v (S % W)) o (S % W + n * D))
  only_masked o v lo lv h =
      let li : length (vsplice o v (S % W)) ≡ W = length_splice o v (S % W) (omega arith) (lo ∙ sym lv) ∙ lv in
      let x : List ℕ = vsplice o v (S % W) in
      let q : S % W + n * D ≤ length x = omega arith in
      record {
        len = length_splice x o (S % W + n * D) q (li ∙ sym lo) ∙ lo;
        low = λ b hb r. splice_left x o (S % W + n * D) q b (omega arith) ∙ splice_left o v (S % W) (omega arith) b (omega arith);
        mid = λ b hb r s. splice_left x o (S % W + n * D) q b (omega arith) ∙ splice_right o v (S % W) (omega arith) b (omega arith);
        high = λ b hb r. splice_right x o (S % W + n * D) q b (omega arith);
      }

  pub prologue_masked : (o v : List ℕ) → length o ≡ W → length v ≡ W → W ≤ S % W + n * D → Masked W D n S 0 o v (vsplice o v (S % W))
  prologue_masked o v lo lv h = record {
    len = length_splice o v (S % W) (omega arith) (lo ∙ sym lv) ∙ lv;
    low = λ b hb r. splice_left o v (S % W) (omega arith) b (omega arith);
    mid = λ b hb r s. splice_right o v (S % W) (omega arith) b (omega arith);
    high = λ b hb r. absurd (omega arith);
  }

  pub body_masked : (j : ℕ) (o v : List ℕ) → length v ≡ W → W * suc (suc j) ≤ S % W + n * D → Masked W D n S (suc j) o v v
  body_masked j o v lv h = record {
    len = lv;
    low = λ b hb r. absurd (omega arith);
    mid = λ b hb r s. refl;
    high = λ b hb r. absurd (omega arith);
  }

  pub epilogue_masked : (f e : ℕ) (o v : List ℕ) → length o ≡ W → length v ≡ W → S % W + n * D ≡ W * suc f + e → e ≤ W
      → Masked W D n S (suc f) o v (vsplice v o e)
  epilogue_masked f e o v lo lv h q = record {
    len = length_splice v o e (omega arith) (lv ∙ sym lo) ∙ lo;
    low = λ b hb r. absurd (omega arith);
    mid = λ b hb r s. splice_left v o e (omega arith) b (omega arith);
    high = λ b hb r. splice_right v o e (omega arith) b (omega arith);
  }
