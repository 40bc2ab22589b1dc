-- One instruction as the machine tries it: whether it could be run, and the registers and work that it leaves. A fault changes
-- nothing.
use Rattle.std.specs.Prelude.{ℕ, ◌≡◌, Bool, true, false, cond, ◌&&◌, List, [], ltb, length, get_or, set}
use Rattle.rules.specs.Limits.{vector_bytes, registers}
use Rattle.rules.specs.Vectors.{vop}
use Rattle.rules.specs.Machine.{State, sound_as, effect_as}
use Rattle.rules.specs.declared.program.Instruction.{Instruction}

pub record Tried : Type 0 where
  pub ok : Bool
  pub regs : List (List ℕ)
  pub work : List ℕ

abbrev pub tried : Bool → List (List ℕ) → List ℕ → Tried
tried ok regs work = record { ok = ok; regs = regs; work = work }

abbrev pub state : List (List ℕ) → List ℕ → State
state regs work = record { regs = regs; work = work }

abbrev pub of_state : State → Tried
of_state s = tried true s.regs s.work

-- an instruction taken as one of a kind, on elements of D bytes, in pass j
unfoldable pub try_as : (kind D : ℕ) (table : List ℕ) (j : ℕ) → Instruction → List (List ℕ) → List ℕ → Tried
try_as kind D table j i regs work =
    cond (sound_as kind vector_bytes D (length work) j i) (of_state (effect_as kind vector_bytes D table j (state regs work) i)) (tried false regs work)

-- the three registers of an instruction that reads two
abbrev pub registers_known : Instruction → Bool
registers_known i = ltb i.destination registers && (ltb i.a registers && ltb i.b registers)

-- the registers that an operation on elements of D bytes leaves
abbrev pub operated : (D operation destination a b : ℕ) → List (List ℕ) → List (List ℕ)
operated D operation destination a b regs = set regs destination (vop vector_bytes D operation (get_or regs a []) (get_or regs b []))

-- what an instruction that goes by registers alone does: work stays, whatever it is, in any pass
abbrev pub Tries : (kind D : ℕ) → Instruction → Bool → (before after : List (List ℕ)) → Type 0
Tries kind D i ok before after = (table : List ℕ) (j : ℕ) (work : List ℕ) → tried ok after work ≡ try_as kind D table j i before work

-- loads, stores, vshiftpair and vsplice go by bytes: the width of an element does not matter to them
abbrev pub any_width : ℕ
any_width = 0
