-- Node numbers fall.
use Rattle.placing.proofs.rows.+write.Given as goal

abbrev pub decreases-write : goal.decreases-write
decreases-write l = l.k
