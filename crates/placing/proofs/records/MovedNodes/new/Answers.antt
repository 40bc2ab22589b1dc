-- Each record is made of those before it.
use native.Mathlib.Omega.{arith}
use lib.ListN.{length-set}
use Rattle.placing.proofs.RecordLaws.{recorded_next}
use Rattle.placing.proofs.records.MovedNodes.new.Goals as goal

pub loop-k-preserved : goal.loop-k-preserved
loop-k-preserved c =
    let l = c.loop-k in
    let kept = l.invariant in
    record {
      places = simp length-set kept.places;
      lefts = kept.lefts;
      moves = kept.moves;
      recorded = recorded_next 16 l.made c.args.nodes.now l.k _ (omega arith) kept.recorded c.record_at.ensures;
    }
