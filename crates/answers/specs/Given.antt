-- A number with its place and steps, as code hands it on, is an answer of document 01.
use Rattle.std.specs.Prelude.{ℕ}
use Rattle.rules.specs.Answers.{Answer}
use Rattle.answers.specs.declared.Numbered.{Numbered}

abbrev pub numbered : (number place steps : ℕ) → Answer
numbered number place steps = record { number = number; place = place; steps = steps }

abbrev pub answer_of : Numbered → Answer
answer_of r = numbered r.number r.place r.steps
