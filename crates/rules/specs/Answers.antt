-- "Numbers the translator gives back": the numbers of the table, an answer with its place and steps, the first refusal of an
-- ordered list of checks, and what a call's result stands for.
use Rattle.std.specs.Prelude.{ℕ, zero, suc, List, [], ◌∷◌, ◌++◌, Bool, cond, Result, Ok, Err}
use Rattle.rules.specs.declared.answers.Refusal.{Refusal}
use Rattle.rules.specs.declared.answers.Refusal.TheVariants.{Room, Line, Range, Shape, Bare, Window, Align, Bounds, Carry, Offset, Long, Out, Fault}

-- the table's first two columns
abbrev pub DONE : ℕ
DONE = 0

abbrev pub ROOM : ℕ
ROOM = 1

abbrev pub LINE : ℕ
LINE = 2

abbrev pub RANGE : ℕ
RANGE = 3

abbrev pub SHAPE : ℕ
SHAPE = 4

abbrev pub BARE : ℕ
BARE = 5

abbrev pub WINDOW : ℕ
WINDOW = 6

abbrev pub ALIGN : ℕ
ALIGN = 7

abbrev pub BOUNDS : ℕ
BOUNDS = 8

abbrev pub CARRY : ℕ
CARRY = 9

abbrev pub OFFSET : ℕ
OFFSET = 10

abbrev pub LONG : ℕ
LONG = 11

abbrev pub OUT : ℕ
OUT = 12

abbrev pub FAULT : ℕ
FAULT = 13

-- an answer: its number, its place, and the steps done
pub record Answer : Type 0 where
  pub number : ℕ
  pub place : ℕ
  pub steps : ℕ

-- a number at a place, before any step
abbrev pub at : ℕ → ℕ → Answer
at number place = record { number = number; place = place; steps = 0 }

-- a number after so many steps; "Place is 0 for 0, 1, 11, 12 and 13"
abbrev pub after : ℕ → ℕ → Answer
after number steps = record { number = number; place = 0; steps = steps }

-- "0 done: nothing below holds"
abbrev pub done : Answer
done = at DONE 0

-- a check: a refusal where something is wrong, else done
abbrev pub refuse_if : Bool → Answer → Answer
refuse_if wrong refusal = cond wrong refusal done

-- the first refusal of an ordered list of checks, done where there is none
abbrev pub or_else : ℕ → Answer → Answer → Answer
or_else zero answer later = later
or_else (suc number) answer later = answer

unfoldable pub first : List Answer → Answer
first [] = done
first (answer ∷ later) = or_else answer.number answer (first later)

-- the checks of items 0 to k - 1, in order
abbrev pub each : (ℕ → Answer) → ℕ → List Answer
each check zero = []
each check (suc k) = each check k ++ (check k ∷ [])

-- the paper's number, place and steps for each refusal
abbrev pub of_refusal : Refusal → Answer
of_refusal Room = at ROOM 0
of_refusal (Line p) = at LINE p
of_refusal (Range p) = at RANGE p
of_refusal (Shape p) = at SHAPE p
of_refusal (Bare p) = at BARE p
of_refusal (Window p) = at WINDOW p
of_refusal (Align p) = at ALIGN p
of_refusal (Bounds p) = at BOUNDS p
of_refusal (Carry p) = at CARRY p
of_refusal (Offset p) = at OFFSET p
of_refusal Long = at LONG 0
of_refusal (Out k) = after OUT k
of_refusal (Fault k) = after FAULT k

-- what a call answers, whatever it gives on done
abbrev pub of_result : {A : Type 0} → Result A Refusal → Answer
of_result (Ok a) = done
of_result (Err r) = of_refusal r

-- what a run answers: on done the steps that it took
abbrev pub of_run : Result ℕ Refusal → Answer
of_run (Ok k) = after DONE k
of_run (Err r) = of_refusal r
