-- A call that goes through its checks one by one: the refusal of a check, handed on by `?`, is the answer of every list that begins
-- with that check, and a check that passed leaves the answer to those after it.
use Rattle.std.proofs.Common.{◌≡◌, List, [], ◌∷◌, Result, sym, ap, ◌∙◌}
use Rattle.std.specs.Result.{IsErrAnd}
use Rattle.std.proofs.lemmas.Result.{err_from_is_err_and}
use Rattle.rules.specs.Answers.{Answer, done, first, of_refusal, of_result}
use Rattle.rules.specs.declared.answers.Refusal.{Refusal}
use Rattle.theory.proofs.AnswerLaws.{first_result}
use Rattle.theory.proofs.Firsts.{first_passed}
use Rattle.graph.proofs.HeaderLaws.{refusal_first}

pub handed_on : {A : Type 0} (result : Result A Refusal) (r : Refusal) → IsErrAnd result (λ e. e ≡ r) → of_result result ≡ of_refusal r
handed_on result r h =
    let p = err_from_is_err_and result h in
    rw (p.1, p.2)

pub refused : (r : Refusal) (check : Answer) (later : List Answer) → of_refusal r ≡ check → of_refusal r ≡ first (check ∷ later)
refused r check later e = sym (refusal_first r check later (sym e))

pub passed : (check : Answer) (later : List Answer) → done ≡ check → first later ≡ first (check ∷ later)
passed check later e = sym (first_passed check later (sym e))

-- the last check of a list
pub last : {A : Type 0} (result : Result A Refusal) (check : Answer) → of_result result ≡ check → of_result result ≡ first (check ∷ [])
last result check e = sym (first_result result) ∙ ap (λ (answer : Answer). first (answer ∷ [])) e

pub ruleset steps = (handed_on, refused, passed, last)
