-- A tree with shifts put in by where loads go and where the inputs of an op that disagree meet. W is the bytes of a vector.
use Rattle.std.specs.Prelude.{ℕ, cond}
use Rattle.rules.specs.Trees.{Tree, load, splat, op, shift}
use Rattle.rules.specs.Offsets.{agree, join, offset}
use Rattle.rules.specs.Placing.{toward}
use Rattle.rules.specs.declared.nodes.Offset.{Offset}
use Rattle.rules.specs.declared.nodes.Offset.TheVariants.{At, Undefined}
use Rattle.placing_targets.specs.declared.Moves.{Moves}
use Rattle.placing_targets.specs.Rules.{at}

-- t goes to an offset, or stays
abbrev pub goes : (W : ℕ) → Offset → Tree → Tree
goes W Undefined t = t
goes W (At g) t = toward W g.0 t

-- where two inputs go: nowhere if they agree, else to g
abbrev pub meeting_at : (g : ℕ) (left right : Offset) → Offset
meeting_at g left right = cond (agree left right) Undefined (at g)

-- the offset of an op with two such inputs
abbrev pub op_offset : (g : ℕ) (left right : Offset) → Offset
op_offset g left right = join (meeting_at g left right) (join left right)

-- a tree with shifts put in, up to its root
unfoldable pub moved : (W : ℕ) → Moves → Tree → Tree
moved W m (load w a) = goes W m.loads (load w a)
moved W m (splat v) = splat v
moved W m (op o l r) =
    let to = meeting_at m.meeting.0 (offset W (moved W m l)) (offset W (moved W m r)) in
    op o (goes W to (moved W m l)) (goes W to (moved W m r))
moved W m (shift f g t) = shift f g (moved W m t)
