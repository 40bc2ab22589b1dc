-- The invariant: the records of the first k nodes are those of the definition, and what the sheet has beside them stays.
use mathlib.Core.Path.{◌≡◌}
use lib.ListN.{length}
use Rattle.placing.specs.Records.{Recorded}
use Rattle.placing.proofs.records.MovedNodes.new.Given as goal

abbrev pub invariant-loop-k : goal.invariant-loop-k
invariant-loop-k l =
    record {
      places : length l.made.records ≡ 64;
      lefts : l.made.lefts ≡ l.initial.made.lefts;
      moves : l.made.moves ≡ l.initial.made.moves;
      recorded : Recorded 16 l.made l.nodes l.k;
    }
