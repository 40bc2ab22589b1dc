-- "A bare sheet has no shift and at most 31 nodes": a graph placed from N nodes has at most (3N + 3) / 2 nodes, which fit in 64
-- rows, and G at most 4N + 3, so that LONG is never given after placing.
-- Stands on Placed.antt's account of where the four rules put shifts.
use mathlib.Core.Path.{◌≡◌, refl, sym, ap, ◌∙◌}
use mathlib.Core.Logic.{◌≢◌}
use mathlib.Core.Bool.{true, false}
use Prim.Native.Nat.{ℕ, ◌+◌, ◌*◌, ◌%◌, ◌≤◌, ◌<◌}
use native.Mathlib.Omega.{arith}
use borrow.Author.Tests.{eqb-true}
use Rattle.rules.specs.Limits.{bare_most, long_most}
use Rattle.rules.specs.Trees.{Tree, load, splat, op, shift, bytes, count, shifts}
use Rattle.rules.specs.Offsets.{agree, join, offset}
use Rattle.rules.specs.Placing.{toward, loads_to, meet_at, inputs_to, place}
use Rattle.rules.specs.Code.{G}
use Rattle.rules.specs.declared.units.ByteOffset.{ByteOffset}
use Rattle.rules.specs.declared.nodes.Offset.{Offset}
use Rattle.rules.specs.declared.nodes.Offset.TheVariants.{At, Undefined}
use Rattle.theory.proofs.Placed.{toward_is, inputs_are, place_is, stripped, Unshifted, unshifted_stripped, loads_to_stripped, inputs_to_stripped}

-- ---- any tree

pub count_stripped : (t : Tree) → count t ≡ count (stripped t) + shifts t
count_stripped (load w a) = refl
count_stripped (splat v) = refl
count_stripped (op o l r) = omega (arith, count_stripped l, count_stripped r)
count_stripped (shift f g t) = omega (arith, count_stripped t)

count_pos : (t : Tree) → 0 < count t
count_pos (load w a) = omega arith
count_pos (splat v) = omega arith
count_pos (op o l r) = omega arith
count_pos (shift f g t) = omega arith

-- a shift's child is generated twice
pub shifts_size : (t : Tree) → count t + shifts t ≤ G t
shifts_size (load w a) = omega arith
shifts_size (splat v) = omega arith
shifts_size (op o l r) = omega (arith, shifts_size l, shifts_size r)
shifts_size (shift f g t) = omega (arith, shifts_size t, count_pos t)

toward_size : (W g : ℕ) (t : Tree) → G (toward W g t) ≤ 2 * G t + 1
toward_size W g t = toward_is (λ p. G p ≤ 2 * G t + 1) W g t (λ e. omega arith) (λ a e d. omega arith)

toward_count : (W g : ℕ) (t : Tree) → count (toward W g t) ≤ count t + 1
toward_count W g t = toward_is (λ p. count p ≤ count t + 1) W g t (λ e. omega arith) (λ a e d. omega arith)

pub toward_at : (W g a : ℕ) (t : Tree) → offset W t ≡ At (bytes a) → offset W (toward W g t) ≡ At (bytes g)
toward_at W g a t e = toward_is (λ p. offset W p ≡ At (bytes g)) W g t
    (λ q. e ∙ ap (λ (x : ℕ). At (bytes x)) (sym (eqb-true g a (rw e at q)))) (λ b p d. refl)

-- ---- until the root is sent to c, G is at most 2N + 1

loads_to_size : (W g : ℕ) (t : Tree) → Unshifted t → G (loads_to W g t) ≤ 2 * count t + 1
unfolding loads_to
loads_to_size W g (load w a) b = toward_size W g (load w a)
loads_to_size W g (splat v) b = omega arith
loads_to_size W g (op o l r) b = omega (arith, loads_to_size W g l b.0, loads_to_size W g r b.1)
loads_to_size W g (shift f h t) b = absurd b

-- a tree of N nodes after LAZY or DOMINANT: one that holds a shift stands at g, so no shift is put over it
record Slim (W g N : ℕ) (t : Tree) : Type 0 where
  elsewhere : offset W t ≢ At (bytes g) → G t ≤ N
  size : G t ≤ 2 * N + 1

toward_slim : (W g N : ℕ) (t : Tree) → Slim W g N t → G (toward W g t) ≤ 2 * N + 1
toward_slim W g N t s = toward_is (λ p. G p ≤ 2 * N + 1) W g t (λ e. s.size)
    (λ a e d. omega (arith, s.elsewhere (λ p. d (same a g (sym e ∙ p)))))
  where
    same : (a g : ℕ) → At (bytes a) ≡ At (bytes g) → a ≡ g
    same a g p = let q : bytes a ≡ bytes g = cc in ap (λ (x : ByteOffset). x.0) q

-- where one of two that agree stands at g, their join does
pub join_left : (g : ℕ) (a b : Offset) → a ≡ At (bytes g) → join a b ≡ At (bytes g)
join_left g Undefined b p = cc
join_left g (At a) b p = p

join_right : (g : ℕ) (a b : Offset) → agree a b ≡ true → b ≡ At (bytes g) → join a b ≡ At (bytes g)
join_right g Undefined b h p = p
join_right g (At a) Undefined h p = cc
join_right g (At a) (At b) h p = ap (λ (x : ℕ). At (bytes x)) (eqb-true a.0 b.0 h) ∙ p

inputs_to_slim : (W g : ℕ) (t : Tree) → Unshifted t → Slim W g (count t) (inputs_to W g t)
unfolding inputs_to
inputs_to_slim W g (load w a) b = record { elsewhere = λ h. omega arith; size = omega arith }
inputs_to_slim W g (splat v) b = record { elsewhere = λ h. omega arith; size = omega arith }
inputs_to_slim W g (op o l r) b = go (inputs_to W g l) (inputs_to W g r) (inputs_to_slim W g l b.0) (inputs_to_slim W g r b.1)
  where
    parted : (p q : Tree) (a b : Offset) → offset W p ≡ a → agree a b ≡ false → offset W (op o (toward W g p) (toward W g q)) ≡ At (bytes g)
    parted p q Undefined b e f = absurd (let z : ◌≡◌ {A = ℕ} 0 1 = cc in omega arith)
    parted p q (At a) b e f = join_left g _ _ (toward_at W g a.0 p e)

    go : (p q : Tree) → Slim W g (count l) p → Slim W g (count r) q → Slim W g (count (op o l r)) (meet_at W g o p q)
    go p q i j = inputs_are (Slim W g (count (op o l r))) W g o p q
        (λ e. record {
          elsewhere = λ h. omega (
            arith,
            i.elsewhere (λ k. h (join_left g (offset W p) (offset W q) k)),
            j.elsewhere (λ k. h (join_right g (offset W p) (offset W q) e k)),
          );
          size = omega arith;
        })
        (λ e. record {
          elsewhere = λ h. absurd (h (parted p q (offset W p) (offset W q) refl e));
          size = omega (arith, toward_slim W g (count l) p i, toward_slim W g (count r) q j);
        })
inputs_to_slim W g (shift f h t) b = absurd b

-- ---- the placed graph

module _ (W S rule : ℕ) (t : Tree) (b : Unshifted t) where
  -- G is at least N and twice the shifts
  size_count : (p : Tree) → stripped p ≡ stripped t → G p ≤ 2 * count t + 1 → 2 * count p ≤ 3 * count t + 1
  size_count p e h = omega (arith, count_stripped p, shifts_size p, ap count (e ∙ unshifted_stripped t b))

  pub place_count_most : 2 * count (place W S rule t) ≤ 3 * count t + 3
  place_count_most = place_is (λ p. 2 * count p ≤ 3 * count t + 3) W S t
      (omega (arith, toward_count W (S % W) (loads_to W 0 t), size_count (loads_to W 0 t) (loads_to_stripped W 0 t) (loads_to_size W 0 t b)))
      (omega (arith, size_count (loads_to W (S % W) t) (loads_to_stripped W (S % W) t) (loads_to_size W (S % W) t b)))
      (λ g m. omega (
        arith,
        toward_count W (S % W) (inputs_to W g t),
        size_count (inputs_to W g t) (inputs_to_stripped W g t) (inputs_to_slim W g t b).size,
      ))
      rule

  pub place_size : G (place W S rule t) ≤ 4 * count t + 3
  place_size = place_is (λ p. G p ≤ 4 * count t + 3) W S t
      (omega (arith, toward_size W (S % W) (loads_to W 0 t), loads_to_size W 0 t b))
      (omega (arith, loads_to_size W (S % W) t b))
      (λ g m. omega (arith, toward_size W (S % W) (inputs_to W g t), (inputs_to_slim W g t b).size))
      rule

  -- 31 nodes become at most 48, and so fewer than the 62 that one shift an edge would give, and 64 rows have room for them
  pub place_count : count t ≤ bare_most → count (place W S rule t) ≤ 48
  place_count h = omega (arith, place_count_most)

  -- for 31 nodes G is at most 127
  pub place_short : count t ≤ bare_most → G (place W S rule t) ≤ long_most
  place_short h = omega (arith, place_size)
