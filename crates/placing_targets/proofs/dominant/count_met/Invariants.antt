-- The invariant: the counts are of the store and of the first k rows.
use mathlib.Core.Path.{◌≡◌}
use mathlib.Core.List.{[], ◌∷◌}
use lib.ListN.{length}
use Rattle.rules.specs.Offsets.{store_offset}
use Rattle.rules.specs.Trees.{node_at}
use Rattle.placing_targets.specs.Met.{met_in, Counted}
use Rattle.placing_targets.proofs.dominant.count_met.Given as goal

abbrev pub invariant-loop-k : goal.invariant-loop-k
invariant-loop-k l =
    record {
      places : length l.counts ≡ 16;
      counted : Counted 16 (met_in 16 (node_at l.nodes) (store_offset 16 l.fn.head.store.0 ∷ []) l.k) l.counts;
    }
