-- Checks of items in their order: while the items so far have nothing to refuse, the answer is left to those after them; the first
-- that refuses gives the answer of the whole list. Every loop over lines or rows is read by these laws.
use Prim.Native.Nat.{ℕ, zero, suc, ◌+◌, ◌<◌, min}
use mathlib.Core.Path.{◌≡◌, refl, sym, ap}
use mathlib.Core.List.{List, [], ◌∷◌, ◌++◌, append_assoc, append-nil}
use mathlib.Core.Logic.{⊎_elim}
use native.Mathlib.Nat.{eq-or-lt_of_le, le_of_suc-le-suc}
use native.Mathlib.Numerals.{add-one}
use native.Mathlib.Omega.{arith}
use Rattle.rules.specs.Limits.{nodes_most}
use Rattle.rules.specs.Answers.{Answer, at, done, first, each, or_else}
use Rattle.rules.specs.Tables.{Graph, graph_of}
use Rattle.rules.specs.Checks.{head_check, row_check, end_check, form_check}
use Rattle.rules.specs.Calls.{checking}
use Rattle.theory.proofs.Lists.{split}
use Rattle.theory.proofs.FormLaws.{Formed, first_each, first_is_done, each_check_done, passes_formed}

-- the first k items have nothing to refuse
unfoldable pub Passed : (ℕ → Answer) → ℕ → Type 0
Passed check k = (j : ℕ) → j < k → check j ≡ done

pub passed_none : (check : ℕ → Answer) → Passed check 0
unfolding Passed
passed_none check j h = absurd (omega arith)

pub passed_next : (check : ℕ → Answer) (k : ℕ) → Passed check k → check k ≡ done → Passed check (k + 1)
unfolding Passed
passed_next check k p e j h = ⊎_elim (λ (q : j ≡ k). rw q e) (p j) (eq-or-lt_of_le (le_of_suc-le-suc (rw add-one at h)))

-- all n items passed: the answer is that of what comes after
pub passed_all : (check : ℕ → Answer) (n : ℕ) (later : List Answer) → Passed check n → first (each check n ++ later) ≡ first later
unfolding Passed
passed_all check n later p = first_each check n later p

-- item k is the first that refuses
pub passed_refused : (check : ℕ → Answer) (n k : ℕ) (later : List Answer) (number place : ℕ) → Passed check k → k < n
    → check k ≡ at (suc number) place → first (each check n ++ later) ≡ at (suc number) place
unfolding Passed first
passed_refused check zero k later number place p h e = absurd (omega arith)
passed_refused check (suc n) k later number place p h e = split k n
    (λ (l : k < n). rw (append_assoc (each check n) (check n ∷ []) later) (passed_refused check n k (check n ∷ later) number place p l e))
    (λ l.
    let q : k ≡ n = omega arith in
    rw (append_assoc (each check n) (check n ∷ []) later, first_each check n (check n ∷ later) (rw q at p), rw q at e))

-- with nothing after them
pub passed_done : (check : ℕ → Answer) (n : ℕ) → Passed check n → first (each check n) ≡ done
unfolding first
passed_done check n p = rw append-nil at (passed_all check n [] p)

pub passed_refuses : (check : ℕ → Answer) (n k : ℕ) (number place : ℕ) → Passed check k → k < n → check k ≡ at (suc number) place
    → first (each check n) ≡ at (suc number) place
passed_refuses check n k number place p h e = rw append-nil at (passed_refused check n k [] number place p h e)

-- the first of a list, passed or refusing
pub first_passed : (check : Answer) (later : List Answer) → check ≡ done → first (check ∷ later) ≡ first later
unfolding first
first_passed check later e = rw e

pub first_refused : (check : Answer) (later : List Answer) (number place : ℕ) → check ≡ at (suc number) place
    → first (check ∷ later) ≡ at (suc number) place
unfolding first
first_refused check later number place e = rw e

-- a list of checks as one check of another list
pub first_alone : (checks : List Answer) → first (first checks ∷ []) ≡ first checks
unfolding first
first_alone checks = go (first checks).number refl
  where
    go : (number : ℕ) → (first checks).number ≡ number → or_else number (first checks) done ≡ first checks
    go zero e = sym (first_is_done checks e)
    go (suc number) e = refl

pub form_alone : (W : ℕ) (g : Graph) → first (form_check W g ∷ []) ≡ form_check W g
unfolding form_check
form_alone W g = first_alone (head_check g ∷ (each (row_check W g) (min g.N nodes_most) ++ end_check g ∷ []))

-- a sheet or graph that is checked and not refused
pub checked_formed : (W : ℕ) (head nodes : List ℕ) → checking W head nodes ≡ done → Formed W (graph_of head nodes)
unfolding checking
checked_formed W head nodes e = passes_formed W (graph_of head nodes) (each_check_done _ (ap (λ (a : Answer). a.number) e) 1)
