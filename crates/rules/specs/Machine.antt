-- "Vector code": what one instruction does and when it is a fault, the order in which a program's instructions run, and a run
-- on a budget. W is the bytes of a vector. A section is a table of any numbers, so a damaged program needs nothing special.
use Rattle.std.specs.Prelude.{ℕ, zero, suc, ◌+◌, ◌-◌, ◌*◌, Bool, true, false, ◌&&◌, ltb, leb, length, get_or, set, replicate}
use mathlib.Core.List.{List, [], ◌∷◌, ◌++◌, foldl}
use Rattle.rules.specs.Limits.{windows, operations, registers, low_values, instruction_entries}
use Rattle.rules.specs.Answers.{DONE, OUT, FAULT}
use Rattle.rules.specs.Frames.{load_kind, splat_kind, op_kind}
use Rattle.rules.specs.Elements.{modulus}
use Rattle.rules.specs.PlainLoop.{window}
use Rattle.rules.specs.Vectors.{vsplat, vop, vshiftpair, vsplice, block_of, inside, loaded, stored}
use Rattle.rules.specs.declared.program.Instruction.{Instruction}

-- ---- instructions

-- row i of a section: kind, destination, a, b, low, high
abbrev pub instruction_at : List ℕ → ℕ → Instruction
instruction_at section i =
    let at = instruction_entries * i in
    record {
      kind = get_or section at 0;
      destination = get_or section (at + 1) 0;
      a = get_or section (at + 2) 0;
      b = get_or section (at + 3) 0;
      low = get_or section (at + 4) 0;
      high = get_or section (at + 5) 0;
    }

-- n rows from row i on
abbrev pub instructions_from : List ℕ → ℕ → ℕ → List Instruction
instructions_from section i zero = []
instructions_from section i (suc n) = instruction_at section i ∷ instructions_from section (i + 1) n

-- the kinds: 1 load, 2 splat and 3 op, as of frames, and three more
abbrev pub pair_kind : ℕ
pair_kind = 4

abbrev pub splice_kind : ℕ
splice_kind = 5

abbrev pub store_kind : ℕ
store_kind = 6

-- a load of window a at address low; the destination is a register
abbrev pub Load : (destination window address : ℕ) → Instruction
Load d w a = record { kind = load_kind; destination = d; a = w; b = 0; low = a; high = 0 }

-- a splat of the value low + 2^32 high
abbrev pub Splat : (destination low high : ℕ) → Instruction
Splat d low high = record { kind = splat_kind; destination = d; a = 0; b = 0; low = low; high = high }

-- operation low of registers a and b
abbrev pub Op : (destination operation left right : ℕ) → Instruction
Op d o l r = record { kind = op_kind; destination = d; a = l; b = r; low = o; high = 0 }

-- vshiftpair and vsplice of registers a and b by the amount low
abbrev pub Pair : (destination first second amount : ℕ) → Instruction
Pair d x y l = record { kind = pair_kind; destination = d; a = x; b = y; low = l; high = 0 }

abbrev pub Splice : (destination first second amount : ℕ) → Instruction
Splice d x y l = record { kind = splice_kind; destination = d; a = x; b = y; low = l; high = 0 }

-- a store of register a at address low
abbrev pub Store : (source address : ℕ) → Instruction
Store x a = record { kind = store_kind; destination = 0; a = x; b = 0; low = a; high = 0 }

abbrev pub splat_value : Instruction → ℕ
splat_value i = i.low + low_values * i.high

-- ---- one instruction in pass j

pub record State : Type 0 where
  pub regs : List (List ℕ)
  pub work : List ℕ

abbrev pub reg : State → ℕ → List ℕ
reg s r = get_or s.regs r []

abbrev pub write : ℕ → List ℕ → State → State
write r v s = record { regs = set s.regs r v; work = s.work }

-- "an unknown kind, operation, window, register, amount or splat value" is a fault: by the fields alone
unfoldable pub fields_as : (kind W D : ℕ) → Instruction → Bool
fields_as zero W D i = false
fields_as (suc zero) W D i = ltb i.destination registers && ltb i.a windows
fields_as (suc (suc zero)) W D i = ltb i.destination registers && ltb (splat_value i) (modulus D)
fields_as (suc (suc (suc zero))) W D i =
    ltb i.destination registers && (ltb i.a registers && (ltb i.b registers && ltb i.low operations))
fields_as (suc (suc (suc (suc zero)))) W D i =
    ltb i.destination registers && (ltb i.a registers && (ltb i.b registers && ltb i.low W))
fields_as (suc (suc (suc (suc (suc zero))))) W D i =
    ltb i.destination registers && (ltb i.a registers && (ltb i.b registers && leb i.low W))
fields_as (suc (suc (suc (suc (suc (suc zero)))))) W D i = ltb i.a registers
fields_as (suc (suc (suc (suc (suc (suc (suc k))))))) W D i = false

-- "or stores outside" a work of len bytes: by the pass and the length
unfoldable pub reaches_as : (kind W len j : ℕ) → Instruction → Bool
reaches_as zero W len j i = true
reaches_as (suc zero) W len j i = true
reaches_as (suc (suc zero)) W len j i = true
reaches_as (suc (suc (suc zero))) W len j i = true
reaches_as (suc (suc (suc (suc zero)))) W len j i = true
reaches_as (suc (suc (suc (suc (suc zero))))) W len j i = true
reaches_as (suc (suc (suc (suc (suc (suc zero)))))) W len j i = inside W len (block_of W i.low j)
reaches_as (suc (suc (suc (suc (suc (suc (suc k))))))) W len j i = true

-- an instruction that is no fault
abbrev pub sound_as : (kind W D len j : ℕ) → Instruction → Bool
sound_as kind W D len j i = reaches_as kind W len j i && fields_as kind W D i

abbrev pub sound : (W D len j : ℕ) → Instruction → Bool
sound W D len j i = sound_as i.kind W D len j i

-- what a sound instruction does; "a store writes none" of the registers
unfoldable pub effect_as : (kind W D : ℕ) → List ℕ → (j : ℕ) → State → Instruction → State
effect_as zero W D table j s i = s
effect_as (suc zero) W D table j s i =
    write i.destination (loaded W (window i.a s.work table) (block_of W i.low j)) s
effect_as (suc (suc zero)) W D table j s i = write i.destination (vsplat W D (splat_value i)) s
effect_as (suc (suc (suc zero))) W D table j s i =
    write i.destination (vop W D i.low (reg s i.a) (reg s i.b)) s
effect_as (suc (suc (suc (suc zero)))) W D table j s i =
    write i.destination (vshiftpair W (reg s i.a) (reg s i.b) i.low) s
effect_as (suc (suc (suc (suc (suc zero))))) W D table j s i =
    write i.destination (vsplice (reg s i.a) (reg s i.b) i.low) s
effect_as (suc (suc (suc (suc (suc (suc zero)))))) W D table j s i =
    record { regs = s.regs; work = stored W s.work (block_of W i.low j) (reg s i.a) }
effect_as (suc (suc (suc (suc (suc (suc (suc k))))))) W D table j s i = s

abbrev pub effect : (W D : ℕ) → List ℕ → (j : ℕ) → State → Instruction → State
effect W D table j s i = effect_as i.kind W D table j s i

-- ---- the order of the instructions

-- "The machine counts vectors: j = 0 in the prologue, 1 to F-1 in the body, F in the epilogue"; full is F
pub record Program : Type 0 where
  pub full : ℕ
  pub prologue : List Instruction
  pub body : List Instruction
  pub epilogue : List Instruction

-- an instruction and the pass in which it runs
pub record Timed : Type 0 where
  pub pass : ℕ
  pub instruction : Instruction

unfoldable pub in_pass : ℕ → List Instruction → List Timed
in_pass j [] = []
in_pass j (i ∷ is) = record { pass = j; instruction = i } ∷ in_pass j is

-- a section in so many passes from j on
unfoldable pub passes : ℕ → ℕ → List Instruction → List Timed
passes zero j is = []
passes (suc k) j is = in_pass j is ++ passes k (suc j) is

unfoldable pub trace : Program → List Timed
trace p = in_pass 0 p.prologue ++ (passes (p.full - 1) 1 p.body ++ in_pass p.full p.epilogue)

-- ---- a run on a budget

-- how a run stands: DONE while it goes on, OUT or FAULT where it has stopped; the steps done; registers and work
pub record Standing : Type 0 where
  pub number : ℕ
  pub steps : ℕ
  pub state : State

abbrev pub standing : ℕ → ℕ → State → Standing
standing number steps s = record { number = number; steps = steps; state = s }

-- one more instruction: a run that has stopped stays; "at each step 12 before 13"; else one more step
abbrev pub next : (number : ℕ) (within fine : Bool) (steps : ℕ) (before then : State) → Standing
next (suc stopped) within fine steps before then = standing (suc stopped) steps before
next zero false fine steps before then = standing OUT steps before
next zero true false steps before then = standing FAULT steps before
next zero true true steps before then = standing DONE (suc steps) then

unfoldable pub step : (W D : ℕ) (table : List ℕ) (budget : ℕ) → Standing → Timed → Standing
step W D table budget m t =
    next m.number (ltb m.steps budget) (sound W D (length m.state.work) t.pass t.instruction) m.steps m.state
    (effect W D table t.pass m.state t.instruction)

-- "It is done if nothing remains after that many steps or fewer"
unfoldable pub runs : (W D : ℕ) (table : List ℕ) (budget : ℕ) → Standing → List Timed → Standing
runs W D table budget m ts = foldl (step W D table budget) m ts

-- "registers 0 to 1,023, all zero when a run begins"
unfoldable pub blank : (W : ℕ) → List (List ℕ)
blank W = replicate registers (replicate W 0)

abbrev pub start : (W : ℕ) → List ℕ → Standing
start W work = standing DONE 0 (record { regs = blank W; work = work })
