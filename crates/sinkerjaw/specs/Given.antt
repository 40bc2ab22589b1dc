-- What a caller in C is given and left: a packed answer with the lent tables of a sheet or with the work window.
use Rattle.std.specs.Prelude.{ℕ, List}
use Rattle.rules.specs.Calls.{WithSheet, WithWork}
use Rattle.sinkerjaw.specs.Packed.{packed}

-- a packed answer with the two lent tables of a sheet
pub record PackedSheet : Type 0 where
  pub answer : ℕ
  pub head : List ℕ
  pub nodes : List ℕ

abbrev pub packed_sheet : ℕ → (head nodes : List ℕ) → PackedSheet
packed_sheet answer head nodes = record { answer = answer; head = head; nodes = nodes }

abbrev pub of_with_sheet : WithSheet → PackedSheet
of_with_sheet r = packed_sheet (packed r.answer) r.head r.nodes

-- a packed answer with the work window
pub record PackedWork : Type 0 where
  pub answer : ℕ
  pub work : List ℕ

abbrev pub packed_work : ℕ → List ℕ → PackedWork
packed_work answer work = record { answer = answer; work = work }

abbrev pub of_with_work : WithWork → PackedWork
of_with_work r = packed_work (packed r.answer) r.work
