use Rattle.std.proofs.Common.{◌≡◌, ◌/◌, ◌<◌, ◌∙◌, refl, arith}
use Rattle.rules.specs.Limits.{vector_bytes}
use Rattle.rules.specs.Vectors.{vsplat}
use Rattle.vector_elements.proofs.VectorLaws.{filled_more, filled_whole}
use Rattle.vector_bytes.proofs.SplatLaws.{cut_lanes}
use Rattle.vector_bytes.proofs.splat.Goals as goal

pub loop-k-preserved : goal.loop-k-preserved
loop-k-preserved g c =
    let l = c.loop-k in
    let below : l.k < vector_bytes / g.E.Element.BYTES = rw c.count-k-end.ensures at c.loop-k-test.true in
    filled_more g.met.E.Element.whole below l.invariant refl c.put.ensures

pub returns : goal.returns
unfolding vsplat
returns g c =
    let l = c.loop-k in
    let D = g.E.Element.BYTES in
    let e : l.k ≡ vector_bytes / D = omega (arith, c.count-k-end.ensures, l.auto.k-end, c.loop-k-test.false) in
    filled_whole g.met.E.Element.whole e l.invariant ∙ rw c.cut-x.ensures (cut_lanes D (vector_bytes / D) c.args.value)
