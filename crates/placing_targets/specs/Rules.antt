-- "Placing", the four rules as one: where each load goes, undefined where it stays, and where the inputs of an op that disagree
-- meet; the root goes to c by every rule. W is the bytes of a vector.
use Rattle.std.specs.Prelude.{ℕ, zero, suc}
use Rattle.rules.specs.Trees.{bytes}
use Rattle.rules.specs.Offsets.{store_offset}
use Rattle.rules.specs.declared.nodes.Offset.{Offset}
use Rattle.rules.specs.declared.nodes.Offset.TheVariants.{At, Undefined}
use Rattle.placing_targets.specs.declared.Moves.{Moves}

abbrev pub at : ℕ → Offset
at g = At (bytes g)

abbrev pub moves : (loads : Offset) (meeting : ℕ) → Moves
moves loads meeting = record { loads = loads; meeting = bytes meeting }

-- 0 ZERO, 1 EAGER, 2 LAZY, 3 DOMINANT, whose offset is d; by the first two inputs never disagree
unfoldable pub moves_of : (W S rule d : ℕ) → Moves
moves_of W S zero d = moves (at 0) 0
moves_of W S (suc zero) d = moves (at (store_offset W S)) (store_offset W S)
moves_of W S (suc (suc zero)) d = moves Undefined (store_offset W S)
moves_of W S (suc (suc (suc r))) d = moves Undefined d
