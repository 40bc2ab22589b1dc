-- `Turn.value`: node k by its kind; the numbers of its inputs are below k. The measure is k.
use Rattle.plain.proofs.values.Turn.+value.Given as goal

abbrev pub decreases-value : goal.decreases-value
decreases-value g l = l.k
