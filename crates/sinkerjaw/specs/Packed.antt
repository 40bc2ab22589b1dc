-- An answer in one number, as a caller in C is given it: its number in the lowest byte, its place in the next, its steps above.
use Rattle.std.specs.Prelude.{ℕ, ◌+◌, ◌*◌, ◌%◌}
use Rattle.rules.specs.Answers.{Answer}

abbrev pub place_unit : ℕ
place_unit = 256

abbrev pub steps_unit : ℕ
steps_unit = 65536

-- room for the steps of any run: it has at most 2,049 * 1,024 (machine's Outcomes.steps_bounded)
abbrev pub steps_room : ℕ
steps_room = 281474976710656

abbrev pub pack : (number place steps : ℕ) → ℕ
pack number place steps = number % place_unit + place_unit * (place % place_unit) + steps_unit * (steps % steps_room)

abbrev pub packed : Answer → ℕ
packed a = pack a.number a.place a.steps
