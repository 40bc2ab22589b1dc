-- "Offset rules (document 001, section 3.3)". W is the bytes of a vector.
use Rattle.std.specs.Prelude.{ℕ, ◌%◌, Bool, true, false, eqb}
use Rattle.rules.specs.Trees.{Tree, load, splat, op, shift, bytes}
use Rattle.rules.specs.declared.nodes.Offset.{Offset}
use Rattle.rules.specs.declared.nodes.Offset.TheVariants.{At, Undefined}

-- "c = S mod 16"
abbrev pub store_offset : (W S : ℕ) → ℕ
store_offset W S = S % W

-- "undefined agrees with everything"
abbrev pub agree : Offset → Offset → Bool
agree Undefined b = true
agree (At a) Undefined = true
agree (At a) (At b) = eqb a.0 b.0

-- an op's "offset is the defined one if either is, else undefined"
abbrev pub join : Offset → Offset → Offset
join Undefined b = b
join (At a) b = At a

-- "A load's offset is A mod 16. A splat's is undefined."; a shift's "is to"
abbrev pub offset : (W : ℕ) → Tree → Offset
offset W (load w a) = At (bytes (a % W))
offset W (splat v) = Undefined
offset W (op o l r) = join (offset W l) (offset W r)
offset W (shift f g t) = At (bytes g)

-- "a defined offset equal to from"
abbrev pub is_at : Offset → ℕ → Bool
is_at Undefined f = false
is_at (At a) f = eqb a.0 f

-- the rule of a tree's own node: "An op's inputs must agree"; "A shift's child must have a defined offset equal to from"
abbrev pub rule_kept : (W : ℕ) → Tree → Bool
rule_kept W (load w a) = true
rule_kept W (splat v) = true
rule_kept W (op o l r) = agree (offset W l) (offset W r)
rule_kept W (shift f g t) = is_at (offset W t) f

-- "The root must agree with c = S mod 16"
abbrev pub root_kept : (W S : ℕ) → Tree → Bool
root_kept W S t = agree (At (bytes (store_offset W S))) (offset W t)
