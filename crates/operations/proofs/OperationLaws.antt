-- Two's complement once over the width D, and the operation of a number that names none.
-- Assumes nothing.
use Rattle.std.proofs.Common.{◌*◌, pow-suc, ◌≡◌, ℕ, zero, suc, ◌+◌, ◌-◌, ◌/◌, ◌%◌, ◌<◌, ◌≤◌, Bool, true, false, ltb, leb, sym, refl, ◌∙◌, mod-eq_of_lt, arith, ltb-false, ltb-true, le-ltb, lt-ltb, le-leb}
use native.Mathlib.Nat.{mod-eq-sub-mod}
use borrow.Author.Tests.{lt-leb}
use Rattle.std.specs.Result.{result_unwrap_or}
use Rattle.operations.specs.declared.Operation.TheVariants.{SignedMaximum}
use Rattle.operations.specs.Numbered.{operation_number, operation_of}
use Rattle.rules.specs.Limits.{vector_bytes}
use Rattle.rules.specs.Elements.{modulus, negative, less_by_sign, signed_less, operate}
use Rattle.theory.proofs.Lists.{split}
use Rattle.theory.proofs.Numbers.{modulus_is}

-- ---- two's complement: half a turn on, the order is that of the unsigned numbers
by_test : (t : Bool) (a b c d : ℕ) → ltb a b ≡ t → (a < b → c < d) → (b ≤ a → d ≤ c) → t ≡ ltb c d
by_test true a b c d e f g = sym (lt-ltb c d (f (ltb-true a b e)))
by_test false a b c d e f g = sym (le-ltb c d (g (ltb-false a b e)))

same_test : (a b c d : ℕ) → (a < b → c < d) → (b ≤ a → d ≤ c) → ltb a b ≡ ltb c d
same_test a b c d f g = by_test (ltb a b) a b c d refl f g

turned_low : (h x : ℕ) → x < h → (x + h) % (h + h) ≡ x + h
turned_low h x l = mod-eq_of_lt (omega arith)

turned_high : (h x : ℕ) → h ≤ x → x < h + h → (x + h) % (h + h) ≡ x - h
turned_high h x l k =
    let e : x + h - (h + h) ≡ x - h = omega arith in
    mod-eq-sub-mod (omega arith) ∙ rw e (mod-eq_of_lt (omega arith))

turned_order : (h x y : ℕ) → x < h + h → y < h + h
    → ltb ((x + h) % (h + h)) ((y + h) % (h + h)) ≡ less_by_sign (leb h x) (leb h y) x y
turned_order h x y hx hy = split x h
    (λ (p : x < h). split y h
    (λ (q : y < h). rw (turned_low h x p, turned_low h y q, lt-leb h x p, lt-leb h y q) (same_test (x + h) (y + h) x y (λ t. omega arith) (λ t. omega arith)))
    (λ (q : h ≤ y). rw (turned_low h x p, turned_high h y q hy, lt-leb h x p, le-leb h y q) (le-ltb (x + h) (y - h) (omega arith))))
    (λ (p : h ≤ x). split y h
    (λ (q : y < h). rw (turned_high h x p hx, turned_low h y q, le-leb h x p, lt-leb h y q) (lt-ltb (x - h) (y + h) (omega arith)))
    (λ (q : h ≤ y). rw (turned_high h x p hx, turned_high h y q hy, le-leb h x p, le-leb h y q) (same_test (x - h) (y - h) x y (λ t. omega arith) (λ t. omega arith))))

-- the modulus of an element that a vector has whole is even
modulus_even : (D : ℕ) → vector_bytes / D * D ≡ vector_bytes → modulus D ≡ modulus D / 2 + modulus D / 2
modulus_even zero w = absurd (omega arith)
modulus_even (suc D) w = rw (modulus_is (suc D), pow-suc 256 D) (omega arith)

pub signed_order : (D h : ℕ) {x y a b : ℕ} → modulus D ≡ h + h → x < modulus D → y < modulus D
    → a ≡ (x + h) % modulus D → b ≡ (y + h) % modulus D → ltb a b ≡ signed_less D x y
unfolding signed_less negative
signed_order D h {x} {y} e hx hy p q =
    let k : modulus D / 2 ≡ h = omega arith in
    rw (p, q, k, e) (turned_order h x y (rw e at hx) (rw e at hy))

pub signed_order_whole : (D : ℕ) {x y a b : ℕ} → vector_bytes / D * D ≡ vector_bytes → x < modulus D → y < modulus D
    → a ≡ (x + modulus D / 2) % modulus D → b ≡ (y + modulus D / 2) % modulus D → ltb a b ≡ signed_less D x y
signed_order_whole D w = signed_order D (modulus D / 2) (modulus_even D w)

-- ---- an operation above the last is the last
pub known : (D o x y : ℕ) → operate D (operation_number (result_unwrap_or (operation_of o) SignedMaximum)) x y ≡ operate D o x y
unfolding operate
known D zero x y = refl
known D (suc zero) x y = refl
known D (suc (suc zero)) x y = refl
known D (suc (suc (suc zero))) x y = refl
known D (suc (suc (suc (suc zero)))) x y = refl
known D (suc (suc (suc (suc (suc zero))))) x y = refl
known D (suc (suc (suc (suc (suc (suc o)))))) x y = refl
