-- vsplice byte by byte.
-- Assumes nothing.
use Rattle.std.proofs.Common.{◌≡◌, ℕ, ◌≤◌, ◌<◌, List, length, get_or, take, drop, cond, ltb, sym, ◌∙◌, arith, length-append, length-take, length-drop, lt-ltb, le-ltb}
use Rattle.std.proofs.Math.ListN.{get_or-append}
use Rattle.std.proofs.Math.Seq.{get_or-take, ext_get_or}
use Rattle.rules.specs.Vectors.{vsplice}
use Rattle.theory.proofs.Lists.{split, splice_right}

-- a byte of a splice, also for an amount past the vector's end
splice_byte : (v w : List ℕ) (l k : ℕ) → k < length v → cond (ltb k l) (get_or v k 0) (get_or w k 0) ≡ get_or (vsplice v w l) k 0
unfolding vsplice
splice_byte v w l k g = split k l
    (λ (h : k < l).
    rw (lt-ltb k l h)
    (sym (get_or-append (take l v) (drop l w) 0 k (simp length-take (omega arith)) ∙ get_or-take l v k 0 h)))
    (λ (h : l ≤ k). rw (le-ltb k l h) (sym (splice_right v w l (omega arith) k h)))

-- what has the bytes of a splice is one
pub spliced : (v w : List ℕ) (l : ℕ) (r : List ℕ) → length r ≡ length v → length w ≡ length v
    → ((k : ℕ) → k < length v → get_or r k 0 ≡ cond (ltb k l) (get_or v k 0) (get_or w k 0)) → r ≡ vsplice v w l
unfolding vsplice
spliced v w l r hr hw at =
    ext_get_or 0 r (vsplice v w l) (hr ∙ simp (length-append, length-take, length-drop) (omega arith))
    (λ k h. at k (omega arith) ∙ splice_byte v w l k (omega arith))
