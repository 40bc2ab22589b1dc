-- What the checks leave: a loop, its windows and a graph that no refusal names. The argument stands on these; Checked.antt
-- shows that a call that answers done has them.
use mathlib.Core.Path.{◌≡◌}
use mathlib.Core.Logic.{◌≢◌}
use mathlib.Core.Bool.{true}
use mathlib.Core.List.{List}
use Prim.Native.Nat.{ℕ, ◌+◌, ◌*◌, ◌/◌, ◌%◌, ◌≤◌, ◌<◌}
use lib.ListN.{length, get_or}
use Rattle.rules.specs.Limits.{windows, operations}
use Rattle.rules.specs.Elements.{modulus}
use Rattle.rules.specs.Trees.{Tree, load, splat, op, shift, bytes}
use Rattle.rules.specs.PlainLoop.{window}
use Rattle.rules.specs.Offsets.{agree, offset}
use Rattle.rules.specs.declared.nodes.Offset.{Offset}
use Rattle.rules.specs.declared.nodes.Offset.TheVariants.{At}

-- the header and the windows: a vector holds whole elements, the store is aligned and in bounds, the windows hold whole vectors of bytes
pub record Loop (W D n S : ℕ) (work table : List ℕ) : Type 0 where
  pub element : 0 < D
  pub lanes : W / D * D ≡ W
  pub vector : 0 < W
  pub align : S % D ≡ 0
  pub bounds : S + n * D ≤ length work
  pub whole : (w : ℕ) → length (window w work table) % W ≡ 0
  pub byte : (w i : ℕ) → get_or (window w work table) i 0 < 256

-- a load
pub record LoadPasses (D n S : ℕ) (work table : List ℕ) (w a : ℕ) : Type 0 where
  pub small : w < windows
  pub align : a % D ≡ 0
  pub bounds : a + n * D ≤ length (window w work table)
  pub carry : w ≡ 0 → a < S → a + n * D ≤ S

-- a shift from f to g over a child at an offset
pub record ShiftPasses (W D f g : ℕ) (child : Offset) : Type 0 where
  pub differ : f ≢ g
  pub from_small : f < W
  pub to_small : g < W
  pub from_align : f % D ≡ 0
  pub to_align : g % D ≡ 0
  pub offset : child ≡ At (bytes f)

-- every node
abbrev pub Passes : (W D n S : ℕ) → List ℕ → List ℕ → Tree → Type 0
Passes W D n S work table (load w a) = LoadPasses D n S work table w a
Passes W D n S work table (splat v) = v < modulus D
Passes W D n S work table (op o l r) =
    Passes W D n S work table l × Passes W D n S work table r × (agree (offset W l) (offset W r) ≡ true) × (o < operations)
Passes W D n S work table (shift f g t) = ShiftPasses W D f g (offset W t) × Passes W D n S work table t
