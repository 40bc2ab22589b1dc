use Rattle.std.proofs.Common.{◌≡◌, ◌/◌, ◌%◌, ◌<◌, ◌∙◌, mod-eq_of_lt, arith}
use Rattle.rules.specs.Limits.{vector_bytes}
use Rattle.rules.specs.Vectors.{vop}
use Rattle.vector_elements.proofs.VectorLaws.{filled_more, filled_whole}
use Rattle.vector_lanes.proofs.each.Goals as goal

pub loop-k-preserved : goal.loop-k-preserved
loop-k-preserved g c =
    let l = c.loop-k in
    let below : l.k < vector_bytes / g.E.Element.BYTES = rw c.count-k-end.ensures at c.loop-k-test.true in
    let kept : l.k % (vector_bytes / g.E.Element.BYTES) ≡ l.k = mod-eq_of_lt below in
    filled_more g.met.E.Element.whole below l.invariant
    (c.operated-z.ensures ∙ rw (c.at-x.ensures, c.at-y.ensures, kept))
    c.put.ensures

pub returns : goal.returns
unfolding vop
returns g c =
    let l = c.loop-k in
    let e : l.k ≡ vector_bytes / g.E.Element.BYTES = omega (arith, c.count-k-end.ensures, l.auto.k-end, c.loop-k-test.false) in
    filled_whole g.met.E.Element.whole e l.invariant
