-- "Plain loop. For i from 0 upward, work[S+iD ..] takes the value of the tree at i."
use Rattle.std.specs.Prelude.{ℕ, zero, suc, ◌+◌, ◌*◌, List}
use Rattle.std.proofs.Math.Seq.{paste}
use Rattle.rules.specs.Elements.{to_bytes, element, operate}
use Rattle.rules.specs.Trees.{Tree, load, splat, op, shift}

-- "work (0), read and written, and table (1), only read"
abbrev pub window : ℕ → (work table : List ℕ) → List ℕ
window zero work table = work
window (suc w) work table = table

-- "A load at i reads D bytes at A+iD from the window as it then stands. A shift has the value of its child."
unfoldable pub value : (D : ℕ) (work table : List ℕ) → Tree → ℕ → ℕ
value D work table (load w a) i = element D (window w work table) (a + i * D)
value D work table (splat v) i = v
value D work table (op o l r) i = operate D o (value D work table l i) (value D work table r i)
value D work table (shift f g t) i = value D work table t i

-- work after the first i elements
unfoldable pub plain : (D S : ℕ) (work table : List ℕ) → Tree → ℕ → List ℕ
plain D S work table t zero = work
plain D S work table t (suc i) =
    let now = plain D S work table t i in
    paste now (S + i * D) (to_bytes D (value D now table t i)) D
