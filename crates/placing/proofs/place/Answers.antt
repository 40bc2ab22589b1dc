-- ROOM leaves the tables, another refusal clears them, and otherwise they take the placed graph.
use Rattle.placing.proofs.AnswerLaws.{refusal_leaves}
use Rattle.placing.proofs.place.Goals as goal
use Rattle.placing.proofs.place.Goals.{in-Room, in_default}

pub returns-then-not-matches : goal.returns-then-not-matches
returns-then-not-matches c =
    let a = c.args in
    let refused = c.in-Err.ensures.result_value in
    elim c.match-matches.branch [
      | in-Room w ↦ absurd (cc)
      | in_default w ↦
          refusal_leaves a.rule a.head.now a.nodes.now a.placed_head.now a.placed_nodes.now _ _ _ w.in_default.not-Room refused c.clear.ensures
          c.clear-then-not-matches.ensures
    ]
