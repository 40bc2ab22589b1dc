-- The cases that document 01 marks * under "Both sides of each edge": one table, a row for each, and one theorem over it.
-- A row sets what the definitions compute beside what the paper says. The groups stand in the paper's order.
use Prim.Native.Nat.{ℕ}
use mathlib.Core.Path.{◌≡◌, refl}
use mathlib.Core.List.{List, [], ◌∷◌, map}
use lib.ListN.{replicate}
use Rattle.rules.specs.Limits.{vector_bytes}
use Rattle.rules.specs.Answers.{Answer, first}
use Rattle.rules.specs.Elements.{operate, modulus, negative, signed_less, element}
use Rattle.rules.specs.Vectors.{vop}
use Rattle.rules.specs.Code.{full_vectors, rest_elements}
use Rattle.rules.specs.Units.{is_width}
use Rattle.rules.specs.Ranges.{head_ok, load_ok, splat_ok, op_ok, shift_ok, row_ok, takes}
use Rattle.rules.specs.Trees.{load, node_at, waiting, tree_at, tree_of, rows, count}
use Rattle.rules.specs.Placing.{toward, loads_to, place}
use Rattle.rules.specs.Tables.{padded}
use Rattle.rules.specs.Checks.{waits, form_check, bare_check, window_check, align_check, bounds_check, carry_check, offset_check, long_check}
use Rattle.rules.specs.Calls.{plan_answer}

pub record Case : Type 0 where
  pub computed : List ℕ
  pub paper : List ℕ

-- the numbers of the operations
abbrev add : ℕ
add = 0

abbrev minus : ℕ
minus = 1

abbrev minimum : ℕ
minimum = 2

abbrev signed_minimum : ℕ
signed_minimum = 4

-- one operation on two elements of D bytes
abbrev lane : (D operation left right : ℕ) → (paper : ℕ) → Case
lane D o x y paper = record { computed = operate D o x y ∷ []; paper = paper ∷ [] }

-- F and e of n elements stored at offset c
abbrev split : (D c n : ℕ) → (F e : ℕ) → Case
split D c n F e = record { computed = full_vectors vector_bytes D n c ∷ rest_elements vector_bytes D n c ∷ []; paper = F ∷ e ∷ [] }

-- an answer's number and place
abbrev judged : Answer → (number place : ℕ) → Case
judged a number place = record { computed = a.number ∷ a.place ∷ []; paper = number ∷ place ∷ [] }

-- the answer of the one-step call, by EAGER, to the loop that stores one load
abbrev copying : (D n S window address : ℕ) → (work_len table_len : ℕ) → Answer
copying D n S w a work_len table_len =
    plan_answer vector_bytes 1 (D ∷ n ∷ S ∷ count (load w a) ∷ replicate 6 0) (padded 192 (rows (load w a))) work_len table_len (replicate 6144 0)
    (replicate 6144 0) (replicate 6144 0)

-- a copy within work, from A to S
abbrev carried : (D n S A : ℕ) → (number place : ℕ) → Case
carried D n S A = judged (copying D n S 0 A 64 0)

-- a copy to S, judged by the lengths of the two windows
abbrev bounded : (D n S window address : ℕ) → (work_len table_len : ℕ) → (number place : ℕ) → Case
bounded D n S w a work_len table_len = judged (copying D n S w a work_len table_len)

pub starred : List Case
starred =
    -- "D = 1: 200+100 = 44; 0-1 = 255; signed minimum of 128 and 127 is 128, unsigned 127."
    lane 1 add 200 100 44
    ∷ lane 1 minus 0 1 255
    ∷ lane 1 signed_minimum 128 127 128
    ∷ lane 1 minimum 128 127 127
    -- "D = 2: 65,535+1 = 0, and the next element gets no carry.": here the next element is 5+7
    ∷ lane 2 add 65535 1 0
    ∷ record {
      computed =
          vop vector_bytes 2 add (255 ∷ 255 ∷ 5 ∷ 0 ∷ 0 ∷ 0 ∷ 0 ∷ 0 ∷ 0 ∷ 0 ∷ 0 ∷ 0 ∷ 0 ∷ 0 ∷ 0 ∷ 0 ∷ [])
          (1 ∷ 0 ∷ 7 ∷ 0 ∷ 0 ∷ 0 ∷ 0 ∷ 0 ∷ 0 ∷ 0 ∷ 0 ∷ 0 ∷ 0 ∷ 0 ∷ 0 ∷ 0 ∷ []);
      paper = 0 ∷ 0 ∷ 12 ∷ 0 ∷ 0 ∷ 0 ∷ 0 ∷ 0 ∷ 0 ∷ 0 ∷ 0 ∷ 0 ∷ 0 ∷ 0 ∷ 0 ∷ 0 ∷ [];
    }
    -- "D = 2, c = 0: n = 96 gives F = 12, e = 0; n = 100 gives 12, 4; n = 92 gives 11, 4."
    ∷ split 2 0 96 12 0
    ∷ split 2 0 100 12 4
    ∷ split 2 0 92 11 4
    -- "D = 2, c = 6: n = 100 gives 12, 7; n = 4 gives 0, 7; n = 5 gives 1, 0."
    ∷ split 2 6 100 12 7
    ∷ split 2 6 4 0 7
    ∷ split 2 6 5 1 0
    -- "A = S passes; A = S+D passes; A = S-D with n = 2 is CARRY, with n = 1 it passes.": 9 is CARRY, and line 2 the first node's
    ∷ carried 2 1 16 16 0 0
    ∷ carried 2 2 16 16 0 0
    ∷ carried 2 1 16 18 0 0
    ∷ carried 2 2 16 18 0 0
    ∷ carried 2 1 16 14 0 0
    ∷ carried 2 2 16 14 9 2
    -- "Address + nD equal to the length passes; D more is BOUNDS.": the store, a load of work, a load of table; 8 is
    -- BOUNDS, and line 1 the store's
    ∷ bounded 2 3 26 1 0 32 16 0 0
    ∷ bounded 2 3 28 1 0 32 16 8 1
    ∷ bounded 2 3 0 0 26 32 16 0 0
    ∷ bounded 2 3 0 0 28 32 16 8 2
    ∷ bounded 2 3 0 1 26 16 32 0 0
    ∷ bounded 2 3 0 1 28 16 32 8 2
    ∷ []

pub starred_hold : map (λ c. c.computed) starred ≡ map (λ c. c.paper) starred
unfolding starred operate modulus negative signed_less element vop first waits form_check bare_check window_check align_check bounds_check
    carry_check offset_check long_check padded head_ok is_width row_ok load_ok splat_ok op_ok shift_ok takes node_at waiting tree_at tree_of place
    toward loads_to
starred_hold = refl
