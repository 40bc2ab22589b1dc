-- The first line that a test finds at fault, read as the checks of the lines: none is at fault and they all pass, or the first that
-- is gives the answer. The store, where it is judged, comes before them.
use Prim.Native.Nat.{ℕ, suc}
use mathlib.Core.Path.{◌≡◌, sym}
use mathlib.Core.Bool.{Bool, true, false}
use mathlib.Core.List.{List, ◌∷◌}
use Rattle.std.specs.Prelude.{None, Some}
use Rattle.rules.specs.Answers.{Answer, at, done, refuse_if, first, each}
use Rattle.rules.specs.Checks.{line}
use Rattle.theory.proofs.Firsts.{Passed, passed_done, passed_refuses}
use Rattle.graph_lines.specs.Lines.{FirstLine}

pub store_refuses : (number place : ℕ) (wrong : Bool) (later : List Answer) → wrong ≡ true
    → at (suc number) place ≡ first (refuse_if wrong (at (suc number) place) ∷ later)
unfolding first
store_refuses number place wrong later e = rw e

pub store_passes : (number place : ℕ) (wrong : Bool) (later : List Answer) → wrong ≡ false
    → first later ≡ first (refuse_if wrong (at (suc number) place) ∷ later)
unfolding first
store_passes number place wrong later e = rw e

-- the number that a line is refused by, whether it is wrong, and a test that says so
module _ (number : ℕ) (wrong : ℕ → Bool) {says : ℕ → Bool → Type 0} (means : (k : ℕ) (yes : Bool) → says k yes → yes ≡ wrong k) where
  abbrev judged : ℕ → Answer
  judged k = refuse_if (wrong k) (at (suc number) (line k))

  pub rows_pass : (n : ℕ) → FirstLine says n None → done ≡ first (each judged n)
  unfolding Passed FirstLine
  rows_pass n none = sym (passed_done judged n (λ k h. rw (← (means k false (none k h)))))

  pub row_refuses : (n place : ℕ) → FirstLine says n (Some place) → at (suc number) place ≡ first (each judged n)
  unfolding Passed FirstLine
  row_refuses n place (k, h, is, said, before) =
      rw is (sym (passed_refuses judged n k number (line k) (λ j l. rw (← (means j false (before j l)))) h (rw (← (means k true said)))))
