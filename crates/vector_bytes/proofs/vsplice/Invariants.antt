-- `vsplice`: each byte by its own test.
use Rattle.std.proofs.Common.{◌≡◌, ℕ, ◌<◌, length, get_or, cond, ltb}
use Rattle.vector_bytes.proofs.vsplice.Given as goal

abbrev pub invariant-loop-i : goal.invariant-loop-i
invariant-loop-i l = record {
  long : length l.r ≡ 16;
  bytes : (k : ℕ) → k < l.i → get_or l.r k 0 ≡ cond (ltb k l.amount) (get_or l.v1 k 0) (get_or l.v2 k 0);
}
