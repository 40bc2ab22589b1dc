-- "Placing": the four rules on bare trees.
use Rattle.std.specs.Prelude.{ℕ, zero, suc, ◌+◌, ◌%◌, List, [], ◌∷◌, ◌++◌, cond, ◌&&◌, ◌||◌, ltb, eqb}
use Rattle.rules.specs.Trees.{Tree, load, splat, op, shift}
use Rattle.rules.specs.Offsets.{store_offset, agree, offset}
use Rattle.rules.specs.declared.nodes.Offset.{Offset}
use Rattle.rules.specs.declared.nodes.Offset.TheVariants.{At, Undefined}

-- "A shift goes on an edge only where the offset is defined and changes."
abbrev pub shifted : Offset → ℕ → Tree → Tree
shifted Undefined g t = t
shifted (At a) g t = cond (eqb a.0 g) t (shift a.0 g t)

-- t goes to offset g
unfoldable pub toward : (W g : ℕ) → Tree → Tree
toward W g t = shifted (offset W t) g t

-- "each load to" g
unfoldable pub loads_to : (W g : ℕ) → Tree → Tree
loads_to W g (load w a) = toward W g (load w a)
loads_to W g (splat v) = splat v
loads_to W g (op o l r) = op o (loads_to W g l) (loads_to W g r)
loads_to W g (shift f h t) = shift f h (loads_to W g t)

-- "where an op's two offsets disagree, each goes to" g
abbrev pub meet_at : (W g : ℕ) → ℕ → Tree → Tree → Tree
meet_at W g o l r = cond (agree (offset W l) (offset W r)) (op o l r) (op o (toward W g l) (toward W g r))

unfoldable pub inputs_to : (W g : ℕ) → Tree → Tree
inputs_to W g (load w a) = load w a
inputs_to W g (splat v) = splat v
inputs_to W g (op o l r) = meet_at W g o (inputs_to W g l) (inputs_to W g r)
inputs_to W g (shift f h t) = shift f h (inputs_to W g t)

-- how often an offset is met in a list, and which of two is met more often, "the smallest on a tie"
abbrev pub times : ℕ → List ℕ → ℕ
times x [] = 0
times x (y ∷ ys) = cond (eqb x y) 1 0 + times x ys

abbrev pub oftener : List ℕ → ℕ → ℕ → ℕ
oftener met x y = cond (ltb (times x met) (times y met) || (eqb (times x met) (times y met) && ltb y x)) y x

-- of x and a list's offsets the one that is oftenest met
abbrev pub oftenest : List ℕ → ℕ → List ℕ → ℕ
oftenest met x [] = x
oftenest met x (y ∷ ys) = oftenest met (oftener met x y) ys

abbrev pub load_offsets : (W : ℕ) → Tree → List ℕ
load_offsets W (load w a) = a % W ∷ []
load_offsets W (splat v) = []
load_offsets W (op o l r) = load_offsets W l ++ load_offsets W r
load_offsets W (shift f g t) = load_offsets W t

-- "the offset met most often among the loads and the store"
unfoldable pub dominant : (W S : ℕ) → Tree → ℕ
dominant W S t = oftenest (store_offset W S ∷ load_offsets W t) (store_offset W S) (load_offsets W t)

-- 0 ZERO, 1 EAGER, 2 LAZY, 3 DOMINANT
unfoldable pub place : (W S rule : ℕ) → Tree → Tree
place W S zero t = toward W (store_offset W S) (loads_to W 0 t)
place W S (suc zero) t = loads_to W (store_offset W S) t
place W S (suc (suc zero)) t = toward W (store_offset W S) (inputs_to W (store_offset W S) t)
place W S (suc (suc (suc r))) t = toward W (store_offset W S) (inputs_to W (dominant W S t) t)
