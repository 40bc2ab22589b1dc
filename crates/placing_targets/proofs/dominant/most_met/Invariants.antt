-- The invariant: of the offsets so far the one kept is met most often, and is the smallest that is.
use Rattle.placing_targets.specs.Met.{count_at, Largest}
use Rattle.placing_targets.proofs.dominant.most_met.Given as goal

abbrev pub invariant-loop-x : goal.invariant-loop-x
invariant-loop-x l = Largest (count_at l.counts) l.x l.most
