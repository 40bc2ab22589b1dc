use Rattle.std.proofs.Common.{◌≡◌, ◌∙◌, refl, ap, get_or, ℕ, List, arith}
use Rattle.rules.specs.Trees.{node_at}
use Rattle.graph.specs.Links.{standing, left_of}
use Rattle.graph.proofs.LinkLaws.{room_for, standing_next, lefts_none, lefts_next, lefts_all}
use Rattle.graph.proofs.links.left_inputs.Goals as goal

pub loop-k-init : goal.loop-k-init
unfolding standing
loop-k-init c = (c.empty-waiting.ensures, lefts_none _ _ refl)

pub replace-requires : goal.replace-requires
replace-requires c =
    let l = c.loop-k in
    room_for (node_at c.args.nodes.now) l.k _ l.waiting l.invariant.0 (omega arith)

pub loop-k-preserved : goal.loop-k-preserved
unfolding left_of
loop-k-preserved c =
    let l = c.loop-k in
    let nodes = c.args.nodes.now in (
      c.replace.ensures ∙ standing_next nodes l.k _ _ _ l.invariant.0 c.row_at.ensures c.takes-taken.ensures,
      lefts_next (node_at nodes) l.k _ l.left l.invariant.1 (omega arith) (c.last_but_one.ensures ∙ ap (λ (before : List ℕ). get_or before 1 0) l.invariant.0),
    )

pub returns : goal.returns
returns c =
    let l = c.loop-k in
    let e : l.k ≡ 64 = omega arith in
    lefts_all (node_at c.args.nodes.now) l.left (rw e at l.invariant.1)
