-- DOMINANT sends disagreeing inputs to "the offset met most often among the loads and the store, the smallest on a tie": the
-- offset that Placing.antt's fold gives is met, no offset is met more often, and none that is met as often is smaller.
-- Stands on the definitions alone.
use mathlib.Core.Path.{◌≡◌, refl}
use mathlib.Core.Logic.{⊎_elim}
use mathlib.Core.Bool.{Bool, true, false, cond, ◌&&◌, ◌||◌}
use mathlib.Core.List.Memᴰ
use mathlib.Core.List.{List, [], ◌∷◌, Memᴰ}
use Prim.Native.Nat.{ℕ, ◌%◌, ◌≤◌}
use native.Mathlib.Omega.{arith}
use borrow.Author.Tests.{ltb-true, ltb-false, eqb-true, eqb-false}
use lib.Dec.{ltb, eqb}
use Rattle.rules.specs.Trees.{Tree}
use Rattle.rules.specs.Placing.{times, oftener, oftenest, load_offsets, dominant}

-- x is met at least as often as y, and on a tie it is not the larger
pub record Beats (met : List ℕ) (x y : ℕ) : Type 0 where
  pub often : times y met ≤ times x met
  pub small : times y met ≡ times x met → x ≤ y

-- x is one of the offsets met and beats them all
pub record Oftenest (met : List ℕ) (x : ℕ) : Type 0 where
  pub one : Memᴰ x met
  pub beats : (y : ℕ) → Memᴰ y met → Beats met x y

module _ (met : List ℕ) where
  beats_same : (x y : ℕ) → y ≡ x → Beats met x y
  beats_same x y e = rw e (record { often = omega arith; small = λ q. omega arith })

  beats_trans : (x y z : ℕ) → Beats met x y → Beats met y z → Beats met x z
  beats_trans x y z p q = record {
    often = omega arith;
    small = λ e. omega (arith, p.small (omega arith), q.small (omega arith));
  }

  oftener_beats : (x y : ℕ) → Beats met (oftener met x y) x × Beats met (oftener met x y) y
  oftener_beats x y = go (ltb (times x met) (times y met)) (eqb (times x met) (times y met)) (ltb y x) refl refl refl
    where
      y_beats : times x met ≤ times y met → (times x met ≡ times y met → y ≤ x) → Beats met y x × Beats met y y
      y_beats h k = (record { often = h; small = k }, beats_same y y refl)

      x_beats : times y met ≤ times x met → (times y met ≡ times x met → x ≤ y) → Beats met x x × Beats met x y
      x_beats h k = (beats_same x x refl, record { often = h; small = k })

      go : (more same less : Bool) → ltb (times x met) (times y met) ≡ more → eqb (times x met) (times y met) ≡ same → ltb y x ≡ less
          → Beats met (cond (more || (same && less)) y x) x × Beats met (cond (more || (same && less)) y x) y
      go true same less m s l = y_beats (omega (arith, ltb-true)) (λ e. omega (arith, ltb-true))
      go false true true m s l = y_beats (omega (arith, eqb-true)) (λ e. omega (arith, ltb-true))
      go false true false m s l = x_beats (omega (arith, ltb-false)) (λ e. omega (arith, ltb-false))
      go false false less m s l = x_beats (omega (arith, ltb-false)) (λ e. absurd (eqb-false (times x met) (times y met) s (omega arith)))

  oftenest_beats : (x : ℕ) (ys : List ℕ) (z : ℕ) → Memᴰ z (x ∷ ys) → Beats met (oftenest met x ys) z
  oftenest_beats x [] z m = beats_same x z (Memᴰ.eq_of_singleton m)
  oftenest_beats x (y ∷ ys) z m =
      let b : Beats met (oftener met x y) x × Beats met (oftener met x y) y = oftener_beats x y in
      let ih : (v : ℕ) → Memᴰ v (oftener met x y ∷ ys) → Beats met (oftenest met x (y ∷ ys)) v = oftenest_beats (oftener met x y) ys in
      ⊎_elim (λ (e : z ≡ x). rw e (beats_trans _ (oftener met x y) x (ih _ (Memᴰ.head refl)) b.0))
      (λ n. ⊎_elim (λ (e : z ≡ y). rw e (beats_trans _ (oftener met x y) y (ih _ (Memᴰ.head refl)) b.1))
      (λ o. ih z (Memᴰ.tail o)) (Memᴰ.cases_cons n))
      (Memᴰ.cases_cons m)

  oftenest_one : (all : List ℕ) (x : ℕ) (ys : List ℕ) → Memᴰ x all → ((y : ℕ) → Memᴰ y ys → Memᴰ y all)
      → Memᴰ (oftenest met x ys) all
  oftenest_one all x [] h k = h
  oftenest_one all x (y ∷ ys) h k = oftenest_one all (oftener met x y) ys
      (pick (ltb (times x met) (times y met) || (eqb (times x met) (times y met) && ltb y x))) (λ z m. k z (Memᴰ.tail m))
    where
      pick : (b : Bool) → Memᴰ (cond b y x) all
      pick true = k y (Memᴰ.head refl)
      pick false = h

pub dominant_oftenest : (W S : ℕ) (t : Tree) → Oftenest (S % W ∷ load_offsets W t) (dominant W S t)
unfolding dominant
dominant_oftenest W S t = record {
  one = oftenest_one (S % W ∷ load_offsets W t) (S % W ∷ load_offsets W t) (S % W) (load_offsets W t) (Memᴰ.head refl) (λ y m. Memᴰ.tail m);
  beats = oftenest_beats (S % W ∷ load_offsets W t) (S % W) (load_offsets W t);
}
