-- Each case of a call's result has a number, place and steps of its own: what specs/Answers.antt gives it tells the case. So two
-- results that a contract allows for one input are one, as `decided` (Demands.antt) says of what the paper calls the answer.
use Prim.Native.Nat.{ℕ, ◌<◌}
use mathlib.Core.Path.{◌≡◌, refl, sym, ap, ◌∙◌}
use mathlib.Core.Bool.{cond}
use mathlib.Core.List.{[], ◌∷◌}
use native.Mathlib.Omega.{arith}
use lib.Dec.{eqb}
use Rattle.std.specs.Prelude.{Result, Ok, Err, ⊤}
use Rattle.rules.specs.Answers.{Answer, DONE, ROOM, LINE, RANGE, SHAPE, BARE, WINDOW, ALIGN, BOUNDS, CARRY, OFFSET, LONG, OUT, first}
use Rattle.rules.specs.Answers.{of_refusal, of_result, of_run}
use Rattle.rules.specs.declared.answers.Refusal.{Refusal}
use Rattle.rules.specs.declared.answers.Refusal.TheVariants.{Room, Line, Range, Shape, Bare, Window, Align, Bounds, Carry, Offset, Long, Out, Fault}

-- what can be told apart again is equal where its images are
told_apart : {A B : Type 0} (image : A → B) (back : B → A) → ((a : A) → back (image a) ≡ a) → (a b : A) → image a ≡ image b → a ≡ b
told_apart image back inverse a b e = sym (inverse a) ∙ ap back e ∙ inverse b

-- the refusal that has a number
abbrev refusal_back : Answer → Refusal
refusal_back a =
    cond (eqb a.number ROOM) Room
    (cond (eqb a.number LINE) (Line a.place)
    (cond (eqb a.number RANGE) (Range a.place)
    (cond (eqb a.number SHAPE) (Shape a.place)
    (cond (eqb a.number BARE) (Bare a.place)
    (cond (eqb a.number WINDOW) (Window a.place)
    (cond (eqb a.number ALIGN) (Align a.place)
    (cond (eqb a.number BOUNDS) (Bounds a.place)
    (cond (eqb a.number CARRY) (Carry a.place)
    (cond (eqb a.number OFFSET) (Offset a.place)
    (cond (eqb a.number LONG) Long
    (cond (eqb a.number OUT) (Out a.steps) (Fault a.steps))))))))))))

refusal_again : (r : Refusal) → refusal_back (of_refusal r) ≡ r
refusal_again Room = refl
refusal_again (Line p) = refl
refusal_again (Range p) = refl
refusal_again (Shape p) = refl
refusal_again (Bare p) = refl
refusal_again (Window p) = refl
refusal_again (Align p) = refl
refusal_again (Bounds p) = refl
refusal_again (Carry p) = refl
refusal_again (Offset p) = refl
refusal_again Long = refl
refusal_again (Out k) = refl
refusal_again (Fault k) = refl

pub refusal_told_apart : (one other : Refusal) → of_refusal one ≡ of_refusal other → one ≡ other
refusal_told_apart = told_apart of_refusal refusal_back refusal_again

-- no refusal has the number of done
pub refusal_not_done : (r : Refusal) → DONE < (of_refusal r).number
refusal_not_done Room = omega arith
refusal_not_done (Line p) = omega arith
refusal_not_done (Range p) = omega arith
refusal_not_done (Shape p) = omega arith
refusal_not_done (Bare p) = omega arith
refusal_not_done (Window p) = omega arith
refusal_not_done (Align p) = omega arith
refusal_not_done (Bounds p) = omega arith
refusal_not_done (Carry p) = omega arith
refusal_not_done (Offset p) = omega arith
refusal_not_done Long = omega arith
refusal_not_done (Out k) = omega arith
refusal_not_done (Fault k) = omega arith

-- a call's result
pub result_told_apart : (one other : Result ⊤ Refusal) → of_result one ≡ of_result other → one ≡ other
result_told_apart = told_apart of_result back again
  where
    back : Answer → Result ⊤ Refusal
    back a = cond (eqb a.number DONE) (Ok tt) (Err (refusal_back a))

    again : (r : Result ⊤ Refusal) → back (of_result r) ≡ r
    again (Ok a) = refl
    again (Err Room) = refl
    again (Err (Line p)) = refl
    again (Err (Range p)) = refl
    again (Err (Shape p)) = refl
    again (Err (Bare p)) = refl
    again (Err (Window p)) = refl
    again (Err (Align p)) = refl
    again (Err (Bounds p)) = refl
    again (Err (Carry p)) = refl
    again (Err (Offset p)) = refl
    again (Err Long) = refl
    again (Err (Out k)) = refl
    again (Err (Fault k)) = refl

-- a run's
pub run_told_apart : (one other : Result ℕ Refusal) → of_run one ≡ of_run other → one ≡ other
run_told_apart = told_apart of_run back again
  where
    back : Answer → Result ℕ Refusal
    back a = cond (eqb a.number DONE) (Ok a.steps) (Err (refusal_back a))

    again : (r : Result ℕ Refusal) → back (of_run r) ≡ r
    again (Ok k) = refl
    again (Err Room) = refl
    again (Err (Line p)) = refl
    again (Err (Range p)) = refl
    again (Err (Shape p)) = refl
    again (Err (Bare p)) = refl
    again (Err (Window p)) = refl
    again (Err (Align p)) = refl
    again (Err (Bounds p)) = refl
    again (Err (Carry p)) = refl
    again (Err (Offset p)) = refl
    again (Err Long) = refl
    again (Err (Out k)) = refl
    again (Err (Fault k)) = refl

-- ---- a result that no check comes after

-- of the refusal alone
first_refusal : (r : Refusal) → first (of_refusal r ∷ []) ≡ of_refusal r
unfolding first
first_refusal Room = refl
first_refusal (Line p) = refl
first_refusal (Range p) = refl
first_refusal (Shape p) = refl
first_refusal (Bare p) = refl
first_refusal (Window p) = refl
first_refusal (Align p) = refl
first_refusal (Bounds p) = refl
first_refusal (Carry p) = refl
first_refusal (Offset p) = refl
first_refusal Long = refl
first_refusal (Out k) = refl
first_refusal (Fault k) = refl

pub first_result : {A : Type 0} (result : Result A Refusal) → first (of_result result ∷ []) ≡ of_result result
unfolding first
first_result (Ok a) = refl
first_result (Err r) = first_refusal r
