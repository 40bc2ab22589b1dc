-- Each of the four rules is one placing by where loads go and where inputs meet. Where each load goes to one offset the inputs of
-- ops agree, so it does not matter where they would meet; where loads stay the two definitions go alike. The root is sent to c by
-- every rule: EAGER's stands there already.
use Prim.Native.Nat.{ℕ, zero, suc, ◌%◌}
use mathlib.Core.Path.{◌≡◌, refl, sym, ap, ◌∙◌}
use mathlib.Core.Bool.{Bool, true, false, cond, false≢true}
use borrow.Author.Tests.{eqb-true}
use Rattle.rules.specs.Trees.{Tree, load, splat, op, shift}
use Rattle.rules.specs.Offsets.{store_offset, agree, join, offset}
use Rattle.rules.specs.Placing.{toward, loads_to, inputs_to, dominant, place}
use Rattle.rules.specs.declared.nodes.Offset.{Offset}
use Rattle.rules.specs.declared.nodes.Offset.TheVariants.{At, Undefined}
use Rattle.theory.proofs.Placed.{toward_is, Unshifted, agree_at, loads_to_agrees}
use Rattle.theory.proofs.PlacedSize.{toward_at, join_left}
use Rattle.placing_targets.specs.declared.Moves.{Moves}
use Rattle.placing_targets.specs.Rules.{at, moves, moves_of}
use Rattle.placing.specs.Moves.{goes, op_offset, moved}

-- what stands at g already stays
toward_stays : (W g : ℕ) (t : Tree) → agree (at g) (offset W t) ≡ true → toward W g t ≡ t
toward_stays W g t h =
    toward_is (λ p. p ≡ t) W g t (λ e. refl) (λ a e d. absurd (d (sym (eqb-true g a (rw e at h)))))

moved_loads : (W g meeting : ℕ) (t : Tree) → Unshifted t → moved W (moves (at g) meeting) t ≡ loads_to W g t
unfolding moved loads_to
moved_loads W g meeting (load w a) b = refl
moved_loads W g meeting (splat v) b = refl
moved_loads W g meeting (op o l r) b =
    let x = offset W (loads_to W g l) in
    let y = offset W (loads_to W g r) in
    let agreed : agree x y ≡ true = agree_at g x y (loads_to_agrees W g l b.0) (loads_to_agrees W g r b.1) in
    rw (moved_loads W g meeting l b.0, moved_loads W g meeting r b.1, agreed)
moved_loads W g meeting (shift f h t) b = absurd b

moved_inputs : (W g : ℕ) (t : Tree) → moved W (moves Undefined g) t ≡ inputs_to W g t
unfolding moved inputs_to
moved_inputs W g (load w a) = refl
moved_inputs W g (splat v) = refl
moved_inputs W g (op o l r) = rw (moved_inputs W g l, moved_inputs W g r) (go _ _ (agree (offset W (inputs_to W g l)) (offset W (inputs_to W g r))))
  where
    go : (p q : Tree) (agreed : Bool)
        → let to = cond agreed Undefined (at g) in
        op o (goes W to p) (goes W to q) ≡ cond agreed (op o p q) (op o (toward W g p) (toward W g q))
    go p q true = refl
    go p q false = refl
moved_inputs W g (shift f h t) = ap (shift f h) (moved_inputs W g t)

pub place_moved : (W S rule : ℕ) (t : Tree) → Unshifted t → place W S rule t ≡ goes W (at (store_offset W S)) (moved W (moves_of W S rule (dominant W S t)) t)
unfolding place moves_of
place_moved W S zero t b = ap (toward W (store_offset W S)) (sym (moved_loads W 0 0 t b))
place_moved W S (suc zero) t b =
    let c = store_offset W S in
    sym (toward_stays W c (loads_to W c t) (loads_to_agrees W c t b)) ∙ ap (toward W c) (sym (moved_loads W c c t b))
place_moved W S (suc (suc zero)) t b = ap (toward W (store_offset W S)) (sym (moved_inputs W (store_offset W S) t))
place_moved W S (suc (suc (suc r))) t b = ap (toward W (store_offset W S)) (sym (moved_inputs W (dominant W S t) t))

-- ---- offsets of placed trees

goes_at : (W : ℕ) (to : Offset) (a : ℕ) (t : Tree) → offset W t ≡ at a → offset W (goes W to t) ≡ join to (at a)
goes_at W Undefined a t e = e
goes_at W (At g) a t e = toward_at W g.0 a t e

pub load_offset : (W : ℕ) (m : Moves) (w a : ℕ) → offset W (moved W m (load w a)) ≡ join m.loads (at (a % W))
unfolding moved
load_offset W m w a = goes_at W m.loads (a % W) (load w a) refl

-- inputs that agree keep their offset, and others have where they meet
pub op_offset_lem : (W : ℕ) (m : Moves) (o : ℕ) (l r : Tree) (x y : Offset) → x ≡ offset W (moved W m l) → y ≡ offset W (moved W m r)
    → offset W (moved W m (op o l r)) ≡ op_offset m.meeting.0 x y
unfolding moved
op_offset_lem W m o l r x y p q = rw (← p, ← q) (go (agree x y) refl)
  where
    g : ℕ
    g = m.meeting.0

    parted : (x y : Offset) → x ≡ offset W (moved W m l) → agree x y ≡ false
        → join (offset W (toward W g (moved W m l))) (offset W (toward W g (moved W m r))) ≡ at g
    parted Undefined y p f = absurd (false≢true (sym f))
    parted (At a) y p f = join_left g _ _ (toward_at W g a.0 (moved W m l) (sym p))

    go : (agreed : Bool) → agree x y ≡ agreed
        → let to = cond agreed Undefined (at g) in
        join (offset W (goes W to (moved W m l))) (offset W (goes W to (moved W m r))) ≡ join to (join x y)
    go true e = rw (← p, ← q) refl
    go false e = parted x y p e
