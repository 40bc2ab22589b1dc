-- `each_of`: the invariant is that work stands as the definition has it after i elements.
use Rattle.rules.specs.Units.{width_bytes}
use Rattle.rules.specs.Trees.{node_at, tree_at}
use Rattle.plain.proofs.LoopLaws.{After}
use Rattle.plain.proofs.looping.each_of.Given as goal

abbrev pub invariant-loop-i : goal.invariant-loop-i
invariant-loop-i g l =
    After (width_bytes l.header.width) l.header.store.0 l.header.elements (tree_at (node_at l.nodes) l.root) l.initial.work l.table l.i l.work
