-- "Code of a tree follows figure 7", and the sections of a program. W is the bytes of a vector.
use Rattle.std.specs.Prelude.{ℕ, zero, suc, ◌+◌, ◌-◌, ◌*◌, ◌/◌, ◌%◌, List, [], ◌∷◌, ◌++◌, cond, ltb}
use Rattle.rules.specs.Limits.{work_window, low_values}
use Rattle.rules.specs.Trees.{Tree, load, splat, op, shift}
use Rattle.rules.specs.Offsets.{store_offset}
use Rattle.rules.specs.Vectors.{block_zero, held}
use Rattle.rules.specs.Machine.{Load, Splat, Op, Pair, Splice, Store, Program}
use Rattle.rules.specs.declared.program.Instruction.{Instruction}

-- "Size G: load or splat 1, op left + right + 1, shift 2·child + 1"
abbrev pub G : Tree → ℕ
G (load w a) = 1
G (splat v) = 1
G (op o l r) = G l + G r + 1
G (shift f g t) = 2 * G t + 1

-- "Left (from > to): vshiftpair(this, next, from-to), where next has 16 added to its addresses. Right: vshiftpair(previous,
-- this, 16-(to-from)), where previous has 16 taken off." The other copy's blocks, counted in vectors
unfoldable pub beside : (f g k : ℕ) → ℕ
beside f g k = cond (ltb g f) (k + 1) (k - 1)

unfoldable pub pair_up : (W f g : ℕ) (destination this other : ℕ) → Instruction
pair_up W f g d this other = cond (ltb g f) (Pair d this other (f - g)) (Pair d other this (W - (g - f)))

-- the code of a tree with W * k added to its addresses, whose instructions write the registers from r on, one each: "An op's
-- left input is generated first, and of a shift's two copies always this"
unfoldable pub code : (W : ℕ) → Tree → (k r : ℕ) → List Instruction
code W (load w a) k r = Load r w (a + W * k) ∷ []
code W (splat v) k r = Splat r (v % low_values) (v / low_values) ∷ []
code W (op o s t) k r =
    code W s k r ++ (code W t k (r + G s) ++ (Op (r + G s + G t) o (r + G s - 1) (r + G s + G t - 1) ∷ []))
code W (shift f g t) k r =
    code W t k r
    ++ (code W t (beside f g k) (r + G t) ++ (pair_up W f g (r + G t + G t) (r + G t - 1) (r + G t + G t - 1) ∷ []))

-- "Let p = c/D, p+n = B·F + e, 0 ≤ e < B": F and e
abbrev pub full_vectors : (W D n S : ℕ) → ℕ
full_vectors W D n S = (store_offset W S / D + n) / (W / D)

abbrev pub rest_elements : (W D n S : ℕ) → ℕ
rest_elements W D n S = (store_offset W S / D + n) % (W / D)

-- the tree, whose value is then in register G-1, and beside it what the sections share
module _ (W S : ℕ) (t : Tree) where
  abbrev pub new : List Instruction
  new = code W t (block_zero W) 0

  -- the old block of the store stream
  abbrev pub old_block : (destination : ℕ) → Instruction
  old_block d = Load d work_window (held W S)

  abbrev pub store : (source : ℕ) → Instruction
  store x = Store x (held W S)

  -- "F = 0, prologue only: the tree, the old block, splice(old, new, c), splice(that, old, c+nD), store: G+4"
  unfoldable pub only_section : (D n : ℕ) → List Instruction
  only_section D n =
      new
      ++ (old_block (G t)
      ∷ Splice (G t + 1) (G t) (G t - 1) (store_offset W S)
      ∷ Splice (G t + 2) (G t + 1) (G t) (store_offset W S + n * D)
      ∷ store (G t + 2)
      ∷ [])

  -- "tree, old block, splice(old, new, c), store: G+3"
  unfoldable pub prologue_section : List Instruction
  prologue_section = new ++ (old_block (G t) ∷ Splice (G t + 1) (G t) (G t - 1) (store_offset W S) ∷ store (G t + 1) ∷ [])

  -- "tree, store: G+1"
  unfoldable pub body_section : List Instruction
  body_section = new ++ (store (G t - 1) ∷ [])

  -- "tree, old block, splice(new, old, eD), store: G+3"
  unfoldable pub epilogue_section : (D e : ℕ) → List Instruction
  epilogue_section D e = new ++ (old_block (G t) ∷ Splice (G t + 1) (G t - 1) (G t) (e * D) ∷ store (G t + 1) ∷ [])

-- "Body, if F ≥ 2"
abbrev pub body_of : (W S : ℕ) → Tree → (F : ℕ) → List Instruction
body_of W S t zero = []
body_of W S t (suc zero) = []
body_of W S t (suc (suc f)) = body_section W S t

-- "Epilogue, if e > 0"
abbrev pub epilogue_of : (W D S : ℕ) → Tree → (e : ℕ) → List Instruction
epilogue_of W D S t zero = []
epilogue_of W D S t (suc e) = epilogue_section W S t D (suc e)

-- n elements with p + n = B-as-F + e
unfoldable pub sections : (W D n S : ℕ) → Tree → (F e : ℕ) → Program
sections W D zero S t F e = record { full = F; prologue = []; body = []; epilogue = [] }
sections W D (suc n) S t zero e = record { full = 0; prologue = only_section W S t D (suc n); body = []; epilogue = [] }
sections W D (suc n) S t (suc f) e =
    record { full = suc f; prologue = prologue_section W S t; body = body_of W S t (suc f); epilogue = epilogue_of W D S t e }

unfoldable pub program_of : (W D n S : ℕ) → Tree → Program
program_of W D n S t = sections W D n S t (full_vectors W D n S) (rest_elements W D n S)

-- "Steps are instructions run: 0 for n = 0, G+4 for F = 0, otherwise the sum above"
abbrev pub epilogue_steps : (size e : ℕ) → ℕ
epilogue_steps size zero = 0
epilogue_steps size (suc e) = size + 3

abbrev pub steps_by : (size n F e : ℕ) → ℕ
steps_by size zero F e = 0
steps_by size (suc n) zero e = size + 4
steps_by size (suc n) (suc f) e = size + 3 + f * (size + 1) + epilogue_steps size e

unfoldable pub steps_of : (W D n S : ℕ) → Tree → ℕ
steps_of W D n S t = steps_by (G t) n (full_vectors W D n S) (rest_elements W D n S)
