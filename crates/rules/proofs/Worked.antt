-- Worked examples, computed from the definitions: the sheet that document 01 prints, the ends of the two reordering
-- operations, the edges that the paper lists without a star, and whole runs set beside the plain loop.
use Prim.Native.Nat.{ℕ, zero, suc, ◌*◌, ◌%◌}
use mathlib.Core.Path.{◌≡◌, refl, ap, ◌∙◌}
use mathlib.Core.Bool.{true, false}
use mathlib.Core.List.{List, [], ◌∷◌, ◌++◌, map, append-nil}
use native.Mathlib.Omega.{arith}
use lib.ListN.{length, take, drop, replicate, drop_of_length-le}
use lib.Seq.{take_all, take_at}
use Rattle.std.specs.Prelude.{Ok, Err}
use Rattle.rules.specs.Limits.{vector_bytes}
use Rattle.rules.specs.Answers.{Answer, at, after, done, first, DONE, ROOM, LINE, RANGE, SHAPE, BARE, WINDOW, ALIGN, BOUNDS, CARRY, OFFSET, LONG, OUT, FAULT}
use Rattle.rules.specs.Elements.{operate, modulus, negative, signed_less, element}
use Rattle.rules.specs.Digits.{is_digit, digit_of, digit_run, spelled}
use Rattle.rules.specs.Frames.{field_digits, frame_of, frame_at}
use Rattle.rules.specs.Units.{is_width}
use Rattle.rules.specs.Ranges.{head_ok, load_ok, splat_ok, op_ok, shift_ok, row_ok, takes}
use Rattle.rules.specs.Reading.{sheet_of, sheet_by, header_line, lines_from, line_at, line_by, node_line, end_line}
use Rattle.rules.specs.Trees.{Tree, load, splat, op, shift, shifts, bytes, node_at, waiting, tree_at, tree_of, rows, count}
use Rattle.rules.specs.PlainLoop.{value, plain}
use Rattle.rules.specs.Offsets.{offset, root_kept}
use Rattle.rules.specs.Placing.{toward, loads_to, inputs_to, dominant, place}
use Rattle.rules.specs.Vectors.{vsplat, vop, vshiftpair, vsplice, block_zero, inside, loaded, stored}
use Rattle.rules.specs.Machine.{fields_as, reaches_as, effect_as, in_pass, passes, trace, step, runs, blank}
use Rattle.rules.specs.Code.{G, beside, pair_up, code, only_section, prologue_section, body_section, epilogue_section, sections, program_of, steps_of}
use Rattle.rules.specs.Tables.{Graph, padded, no_program}
use Rattle.rules.specs.Checks.{waits, rule_check, form_check, bare_check, window_check, align_check, bounds_check, carry_check, offset_check, long_check}
use Rattle.rules.specs.Calls.{WithProgram, WithWork, reading, checking, offset_checking, placing, translating, planning, looping, running}
use Rattle.rules.specs.Printing as Printing
use Rattle.rules.specs.declared.program.ProgramHead.{ProgramHead}
use Rattle.rules.specs.declared.nodes.Offset.TheVariants.{At, Undefined}
use Rattle.rules.specs.declared.answers.Refusal.TheVariants.{Line, Range, Shape}

-- ---- what computes: to unfold one of these is to unfold what its line names

-- the reader
the_reader : Unit {0}
unfolding sheet_of sheet_by header_line lines_from line_at line_by node_line end_line frame_at frame_of field_digits digit_run spelled
    is_digit digit_of head_ok is_width row_ok load_ok splat_ok op_ok shift_ok modulus takes
the_reader = tt

-- the calls, from a table to a run's memory
the_calls : Unit {0}
unfolding reading planning placing translating looping running checking offset_checking form_check bare_check window_check align_check bounds_check carry_check
    offset_check long_check waits first head_ok is_width row_ok load_ok splat_ok op_ok shift_ok modulus takes padded tree_of tree_at
    waiting node_at place toward loads_to inputs_to dominant program_of steps_of sections only_section prologue_section body_section
    epilogue_section code beside pair_up plain value element operate negative signed_less runs step trace passes in_pass blank
    fields_as reaches_as effect_as vsplat vop vshiftpair vsplice block_zero inside loaded stored
the_calls = tt

-- the printing programs
the_programs : Unit {0}
unfolding the_reader the_calls Printing.printed Printing.drawn Printing.placed_lines Printing.placed_figures Printing.drawn_figures
    Printing.sheet_in Printing.line Printing.hex Printing.digit_byte
the_programs = tt

-- ---- the printed sheet

-- the bytes of its seven lines; 48 to 57 are the digits 0 to 9, 65 is A, and 10 ends a line
abbrev printed : List ℕ
printed =
    -- 000200640206
    48 ∷ 48 ∷ 48 ∷ 50 ∷ 48 ∷ 48 ∷ 54 ∷ 52 ∷ 48 ∷ 50 ∷ 48 ∷ 54 ∷ 10
    -- 01010002
    ∷ 48 ∷ 49 ∷ 48 ∷ 49 ∷ 48 ∷ 48 ∷ 48 ∷ 50 ∷ 10
    -- 0100000A
    ∷ 48 ∷ 49 ∷ 48 ∷ 48 ∷ 48 ∷ 48 ∷ 48 ∷ 65 ∷ 10
    -- 0300
    ∷ 48 ∷ 51 ∷ 48 ∷ 48 ∷ 10
    -- 01000102
    ∷ 48 ∷ 49 ∷ 48 ∷ 48 ∷ 48 ∷ 49 ∷ 48 ∷ 50 ∷ 10
    -- 0300
    ∷ 48 ∷ 51 ∷ 48 ∷ 48 ∷ 10
    -- 0505
    ∷ 48 ∷ 53 ∷ 48 ∷ 53 ∷ 10 ∷ []

-- the loop that it stands for
abbrev printed_tree : Tree
printed_tree = op 0 (op 0 (load 1 0x0002) (load 0 0x000A)) (load 0 0x0102)

-- what rules 0 to 3 make of it
abbrev by_zero : Tree
by_zero = shift 0 6 (op 0 (op 0 (shift 2 0 (load 1 0x0002)) (shift 10 0 (load 0 0x000A))) (shift 2 0 (load 0 0x0102)))

abbrev by_eager : Tree
by_eager = op 0 (op 0 (shift 2 6 (load 1 0x0002)) (shift 10 6 (load 0 0x000A))) (shift 2 6 (load 0 0x0102))

abbrev by_lazy : Tree
by_lazy = op 0 (op 0 (shift 2 6 (load 1 0x0002)) (shift 10 6 (load 0 0x000A))) (shift 2 6 (load 0 0x0102))

abbrev by_dominant : Tree
by_dominant = shift 2 6 (op 0 (op 0 (load 1 0x0002) (shift 10 2 (load 0 0x000A))) (load 0 0x0102))

abbrev rules : List ℕ
rules = 0 ∷ 1 ∷ 2 ∷ 3 ∷ []

-- the last three fields of a printed line: shifts, G, steps
abbrev figures : (rule : ℕ) → List ℕ
figures rule =
    let placed = place vector_bytes 0x0206 rule printed_tree in
    shifts placed ∷ G placed ∷ steps_of vector_bytes 2 100 0x0206 placed ∷ []

-- "On done the reader's tables hold the header's fields and, node by node in the order of the lines, each frame's kind and
-- fields". "Output: 0000000400170000013C, 01000003000B000000A0, 02000003000B000000A0, 03000002000F000000D4". On this sheet EAGER
-- and LAZY make one graph; where an op's inputs agree, LAZY moves the root alone
pub printed_sheet_is_read_and_placed :
    (sheet_of printed ≡ record {
      answer = Ok tt;
      head = 2 ∷ 100 ∷ 0x0206 ∷ 5 ∷ [];
      nodes = 1 ∷ 1 ∷ 0x0002 ∷ 1 ∷ 0 ∷ 0x000A ∷ 3 ∷ 0 ∷ 0 ∷ 1 ∷ 0 ∷ 0x0102 ∷ 3 ∷ 0 ∷ 0 ∷ [];
    })
    × (tree_of (sheet_of printed).nodes 5 ≡ printed_tree)
    × (map (λ rule. place vector_bytes 0x0206 rule printed_tree) rules ≡ by_zero ∷ by_eager ∷ by_lazy ∷ by_dominant ∷ [])
    × (map figures rules
    ≡ (4 ∷ 0x17 ∷ 0x13C ∷ []) ∷ (3 ∷ 0x0B ∷ 0xA0 ∷ []) ∷ (3 ∷ 0x0B ∷ 0xA0 ∷ []) ∷ (2 ∷ 0x0F ∷ 0xD4 ∷ []) ∷ [])
    × (map (λ rule. place vector_bytes 6 rule (op 0 (load 0 2) (load 1 18))) (1 ∷ 2 ∷ [])
    ≡ op 0 (shift 2 6 (load 0 2)) (shift 2 6 (load 1 18)) ∷ shift 2 6 (op 0 (load 0 2) (load 1 18)) ∷ [])
unfolding the_reader tree_of waiting node_at place toward loads_to inputs_to dominant steps_of
printed_sheet_is_read_and_placed = (refl, refl, refl, refl, refl)

-- "Output"
abbrev output : List ℕ
output =
    -- 0000000400170000013C
    48 ∷ 48 ∷ 48 ∷ 48 ∷ 48 ∷ 48 ∷ 48 ∷ 52 ∷ 48 ∷ 48 ∷ 49 ∷ 55 ∷ 48 ∷ 48 ∷ 48 ∷ 48 ∷ 48 ∷ 49 ∷ 51 ∷ 67 ∷ 10
    -- 01000003000B000000A0
    ∷ 48 ∷ 49 ∷ 48 ∷ 48 ∷ 48 ∷ 48 ∷ 48 ∷ 51 ∷ 48 ∷ 48 ∷ 48 ∷ 66 ∷ 48 ∷ 48 ∷ 48 ∷ 48 ∷ 48 ∷ 48 ∷ 65 ∷ 48 ∷ 10
    -- 02000003000B000000A0
    ∷ 48 ∷ 50 ∷ 48 ∷ 48 ∷ 48 ∷ 48 ∷ 48 ∷ 51 ∷ 48 ∷ 48 ∷ 48 ∷ 66 ∷ 48 ∷ 48 ∷ 48 ∷ 48 ∷ 48 ∷ 48 ∷ 65 ∷ 48 ∷ 10
    -- 03000002000F000000D4
    ∷ 48 ∷ 51 ∷ 48 ∷ 48 ∷ 48 ∷ 48 ∷ 48 ∷ 50 ∷ 48 ∷ 48 ∷ 48 ∷ 70 ∷ 48 ∷ 48 ∷ 48 ∷ 48 ∷ 48 ∷ 48 ∷ 68 ∷ 52 ∷ 10 ∷ []

-- what is printed where the answer is a refusal, the same but for the first two digits
abbrev refusal : (answer : List ℕ) → List ℕ
refusal answer = answer ++ (48 ∷ 48 ∷ 48 ∷ 48 ∷ 48 ∷ 48 ∷ 48 ∷ 48 ∷ 48 ∷ 48 ∷ 48 ∷ 48 ∷ 48 ∷ 48 ∷ 10 ∷ [])

-- "a reading refusal stands on all four lines": the empty text is LINE on line 1. The printed sheet as it is drawn breaks an offset
-- rule on line 4
pub what_the_programs_print :
    (Printing.printed printed ≡ output)
    × (Printing.drawn printed ≡ 70 ∷ 70 ∷ refusal (48 ∷ 65 ∷ 48 ∷ 52 ∷ []))
    × (Printing.printed []
    ≡ 48 ∷ 48 ∷ refusal (48 ∷ 50 ∷ 48 ∷ 49 ∷ [])
    ++ 48 ∷ 49 ∷ refusal (48 ∷ 50 ∷ 48 ∷ 49 ∷ [])
    ++ 48 ∷ 50 ∷ refusal (48 ∷ 50 ∷ 48 ∷ 49 ∷ [])
    ++ 48 ∷ 51 ∷ refusal (48 ∷ 50 ∷ 48 ∷ 49 ∷ []))
unfolding the_programs
what_the_programs_print = (refl, refl, refl)

-- ---- operations

-- signed minimum and maximum of two elements
abbrev signed : (D left right : ℕ) → List ℕ
signed D x y = operate D 4 x y ∷ operate D 5 x y ∷ []

-- "4 and 5 are minimum and maximum read as two's complement": on both sides of the sign, either way round, and for two of one
-- sign; and 0 to 3 where the unsigned order is the other
pub operations_on_both_sides_of_the_sign :
    (signed 1 128 127
    ∷ signed 1 127 128
    ∷ signed 1 255 128
    ∷ signed 1 128 255
    ∷ signed 1 5 127
    ∷ signed 1 127 5
    ∷ signed 2 0x8000 0x7FFF
    ∷ signed 4 0x8000_0000 0x7FFF_FFFF
    ∷ signed 8 0xFFFF_FFFF_FFFF_FFFF 0
    ∷ []
    ≡ (128 ∷ 127 ∷ [])
    ∷ (128 ∷ 127 ∷ [])
    ∷ (128 ∷ 255 ∷ [])
    ∷ (128 ∷ 255 ∷ [])
    ∷ (5 ∷ 127 ∷ [])
    ∷ (5 ∷ 127 ∷ [])
    ∷ (0x8000 ∷ 0x7FFF ∷ [])
    ∷ (0x8000_0000 ∷ 0x7FFF_FFFF ∷ [])
    ∷ (0xFFFF_FFFF_FFFF_FFFF ∷ 0 ∷ [])
    ∷ [])
    × (map (λ o. operate 1 o 130 127) (0 ∷ 1 ∷ 2 ∷ 3 ∷ []) ≡ 1 ∷ 3 ∷ 127 ∷ 130 ∷ [])
unfolding operate modulus negative signed_less
operations_on_both_sides_of_the_sign = (refl, refl)

-- ---- the reordering operations

-- the numbers 0 to n - 1
abbrev up_to : ℕ → List ℕ
up_to zero = []
up_to (suc k) = up_to k ++ (k ∷ [])

-- "so 0 gives v2 and 16 gives v1"; and a pair from byte 0 on is its first vector, from byte 15 on it ends one byte before the
-- second's end
pub reordering_at_its_ends : (v1 v2 : List ℕ) → length v1 ≡ vector_bytes → length v2 ≡ vector_bytes
    → (vsplice v1 v2 0 ≡ v2)
    × (vsplice v1 v2 16 ≡ v1)
    × (vshiftpair vector_bytes v1 v2 0 ≡ v1)
    × (vshiftpair vector_bytes (up_to 16) (drop 16 (up_to 32)) 15 ≡ drop 15 (up_to 31))
unfolding vsplice vshiftpair
reordering_at_its_ends v1 v2 h1 h2 = (refl, whole, take_at v1 v2 16 h1, refl)
  where
    none_left : drop 16 v2 ≡ []
    none_left = drop_of_length-le v2 {i = 16} (rw h2 (omega arith))

    whole : take 16 v1 ++ drop 16 v2 ≡ v1
    whole = ap (λ (r : List ℕ). take 16 v1 ++ r) none_left ∙ append-nil (take 16 v1) ∙ take_all 16 v1 (rw h1 (omega arith))

-- ---- offsets and placing

-- "its offset is the defined one if either is, else undefined. (Equation 4 read literally loses it when the left input is a
-- splat.)": with it lost, a root at 6 would pass for a store at 8
pub splat_on_the_left_keeps_the_offset :
    (offset vector_bytes (op 0 (splat 7) (load 0 6)) ≡ At (bytes 6))
    × (offset vector_bytes (op 0 (load 0 6) (splat 7)) ≡ At (bytes 6))
    × (offset vector_bytes (op 0 (splat 7) (splat 7)) ≡ Undefined)
    × (root_kept vector_bytes 8 (op 0 (splat 7) (load 0 6)) ≡ false)
splat_on_the_left_keeps_the_offset = (refl, refl, refl, refl)

-- "the offset met most often among the loads and the store, the smallest on a tie": 4 and 8 once each, whichever is the
-- store's; then 8 by the store and a load, and 4 by one, two and three loads; then three offsets once each
pub dominant_counts_the_store_and_breaks_ties_downward :
    dominant vector_bytes 8 (load 0 4)
    ∷ dominant vector_bytes 4 (load 0 8)
    ∷ dominant vector_bytes 8 (op 0 (load 0 4) (load 0 8))
    ∷ dominant vector_bytes 8 (op 0 (load 0 4) (op 0 (load 0 8) (load 1 20)))
    ∷ dominant vector_bytes 8 (op 0 (load 0 4) (op 0 (load 0 8) (op 0 (load 1 20) (load 0 36))))
    ∷ dominant vector_bytes 12 (op 0 (load 0 8) (load 0 4))
    ∷ []
    ≡ 4 ∷ 4 ∷ 8 ∷ 4 ∷ 4 ∷ 4 ∷ []
unfolding dominant
dominant_counts_the_store_and_breaks_ties_downward = refl

-- ---- the checks

-- a load under k shifts, to and fro
abbrev chained : ℕ → Tree
chained zero = load 0 0
chained (suc zero) = shift 0 8 (load 0 0)
chained (suc (suc k)) = shift 8 0 (shift 0 8 (chained k))

-- t beside loads under 2, 3, .. shifts
abbrev stair : ℕ → Tree → Tree
stair zero t = t
stair (suc k) t = op 0 (chained (suc (suc k))) (stair k t)

abbrev long_trees : List Tree
long_trees = chained 8 ∷ chained 9 ∷ stair 7 (chained 1) ∷ stair 7 (op 0 (chained 1) (chained 0)) ∷ []

-- a load, and k loads added to it: 2k + 1 nodes
abbrev added : ℕ → Tree
added zero = load 0 0
added (suc k) = op 0 (added k) (load 0 0)

-- a loop of two elements of two bytes, stored at S; and one with rows that are no tree
abbrev loop_of : (S : ℕ) → Tree → Graph
loop_of S t = record { D = 2; n = 2; S = S; N = count t; nodes = rows t }

abbrev rows_of : (D N : ℕ) → List ℕ → Graph
rows_of D N nodes = record { D = D; n = 2; S = 0; N = N; nodes = nodes }

-- the numbers of the table in their order; then 3 and 4 "as if read", 5, 6, 7, 10 and 11, each with its place
pub checks_at_their_edges :
    (DONE ∷ ROOM ∷ LINE ∷ RANGE ∷ SHAPE ∷ BARE ∷ WINDOW ∷ ALIGN ∷ BOUNDS ∷ CARRY ∷ OFFSET ∷ LONG ∷ OUT ∷ FAULT ∷ [] ≡ up_to 14)
    × (rule_check 3 ∷ rule_check 4 ∷ [] ≡ done ∷ at RANGE 0 ∷ [])
    × (head_ok 8 4096 65535 ∷ head_ok 8 4097 0 ∷ head_ok 8 0 65536 ∷ load_ok 1 65535 ∷ load_ok 1 65536 ∷ []
    ≡ true ∷ false ∷ false ∷ true ∷ false ∷ [])
    -- an unknown kind is RANGE; an operation 6 is RANGE also where nothing waits, and an operation 0 is then SHAPE
    × (map (form_check vector_bytes)
    (rows_of 3 1 (1 ∷ 0 ∷ 0 ∷ [])
    ∷ rows_of 2 1 (5 ∷ 0 ∷ 0 ∷ [])
    ∷ rows_of 2 1 (3 ∷ 6 ∷ 0 ∷ [])
    ∷ rows_of 2 1 (3 ∷ 0 ∷ 0 ∷ [])
    -- a shift to where it is, to an odd place, to 16
    ∷ loop_of 0 (shift 2 2 (load 0 2))
    ∷ loop_of 0 (shift 2 3 (load 0 2))
    ∷ loop_of 0 (shift 2 16 (load 0 2))
    -- no node; two wait; 64 nodes; a 65th
    ∷ rows_of 2 0 []
    ∷ rows_of 2 2 (1 ∷ 0 ∷ 0 ∷ 1 ∷ 0 ∷ 0 ∷ [])
    ∷ loop_of 0 (shift 0 2 (added 31))
    ∷ loop_of 0 (added 32)
    ∷ [])
    ≡ at RANGE 1
    ∷ at RANGE 2
    ∷ at RANGE 2
    ∷ at SHAPE 2
    ∷ at RANGE 3
    ∷ at RANGE 3
    ∷ at RANGE 3
    ∷ at SHAPE 2
    ∷ at SHAPE 4
    ∷ done
    ∷ at SHAPE 66
    ∷ [])
    -- "place is the first line with a shift or a 32nd node"
    × (map bare_check (loop_of 0 (added 15) ∷ loop_of 0 (added 16) ∷ loop_of 0 (op 0 (load 0 0) (shift 2 0 (load 0 2))) ∷ [])
    ≡ done ∷ at BARE 33 ∷ at BARE 4 ∷ [])
    -- "work first; place 0 or 1"
    × (window_check vector_bytes 65536 0
    ∷ window_check vector_bytes 65552 8
    ∷ window_check vector_bytes 24 0
    ∷ window_check vector_bytes 16 24
    ∷ []
    ≡ done ∷ at WINDOW 0 ∷ at WINDOW 0 ∷ at WINDOW 1 ∷ [])
    -- "In 7 and 8 the store (line 1) comes before the nodes, in 10 after them"
    × (map align_check (loop_of 2 (load 0 4) ∷ loop_of 2 (load 0 5) ∷ loop_of 3 (load 0 5) ∷ [])
    ≡ done ∷ at ALIGN 2 ∷ at ALIGN 1 ∷ [])
    × (map (offset_check vector_bytes)
    (loop_of 4 (load 0 4)
    ∷ loop_of 2 (load 0 4)
    ∷ loop_of 2 (op 0 (load 0 4) (load 0 6))
    ∷ loop_of 2 (shift 6 2 (load 0 4))
    ∷ loop_of 2 (shift 4 2 (splat 7))
    ∷ loop_of 2 (splat 7)
    ∷ [])
    ≡ done ∷ at OFFSET 1 ∷ at OFFSET 4 ∷ at OFFSET 3 ∷ at OFFSET 3 ∷ done ∷ [])
    -- "A load under 8 chained shifts has G = 511; under 9, G = 1,023 and LONG"; and, "G above 1,020", 1,019 passes and 1,021
    -- does not, the two odd numbers beside it: no tree has an even G
    × (map G long_trees ≡ 511 ∷ 1023 ∷ 1019 ∷ 1021 ∷ [])
    × (map long_check long_trees ≡ done ∷ at LONG 0 ∷ done ∷ at LONG 0 ∷ [])
unfolding form_check waits bare_check window_check align_check offset_check long_check first head_ok is_width row_ok load_ok splat_ok
    op_ok shift_ok modulus takes tree_of tree_at waiting node_at
checks_at_their_edges = (refl, refl, refl, refl, refl, refl, refl, refl, refl, refl)

-- ---- reading

-- lines of a text
abbrev header : List ℕ
header = take 13 printed  -- 000200640206

abbrev a_load : List ℕ
a_load = take 9 (drop 13 printed)  -- 01010002

abbrev an_add : List ℕ
an_add = take 5 (drop 31 printed)  -- 0300

-- the end of a sheet of so many nodes, by its two digits
abbrev ending : (high low : ℕ) → List ℕ
ending high low = 48 ∷ 53 ∷ high ∷ low ∷ 10 ∷ []

-- a load, and k loads added to it: 2k + 1 nodes
abbrev summed : ℕ → List ℕ
summed zero = a_load
summed (suc k) = summed k ++ (a_load ++ an_add)

-- "the first line at fault; on one line 2 before 3 before 4. A missing end is at the line after the last."
pub reading_names_the_first_line_at_fault :
    map (λ text. (sheet_of text).answer)
    -- "Empty text: LINE, line 1. End frame 0500 after the header: SHAPE."
    ([]
    ∷ (header ++ ending 48 48)
    -- no end; no line feed; text after the end
    ∷ header
    ∷ (header ++ (a_load ++ take 4 (ending 48 49)))
    ∷ (printed ++ (10 ∷ []))
    -- a header out of place is LINE also where its D of 3 is out of range; first it is RANGE
    ∷ (header ++ (48 ∷ 48 ∷ 48 ∷ 51 ∷ drop 4 header))
    ∷ (48 ∷ 48 ∷ 48 ∷ 51 ∷ drop 4 header)
    -- an operation 6 is RANGE also where nothing waits, an operation 0 is then SHAPE
    ∷ (header ++ (48 ∷ 51 ∷ 48 ∷ 54 ∷ 10 ∷ []))
    ∷ (header ++ an_add)
    -- two wait at the end; a wrong number of nodes
    ∷ (header ++ (a_load ++ (a_load ++ ending 48 50)))
    ∷ (header ++ (a_load ++ ending 48 50))
    -- 64 nodes, the last by 040002, and a 65th
    ∷ (header ++ (summed 31 ++ (48 ∷ 52 ∷ 48 ∷ 48 ∷ 48 ∷ 50 ∷ 10 ∷ ending 52 48)))
    ∷ (header ++ (summed 32 ++ ending 52 49))
    -- what stands before 0, after 9, before A and after F, and a lower-case a
    ∷ (take 11 header ++ (47 ∷ 10 ∷ []))
    ∷ (take 11 header ++ (58 ∷ 10 ∷ []))
    ∷ (take 11 header ++ (64 ∷ 10 ∷ []))
    ∷ (take 11 header ++ (71 ∷ 10 ∷ []))
    ∷ (take 11 header ++ (97 ∷ 10 ∷ []))
    -- 9 and F are digits: the end is missing
    ∷ (take 10 header ++ (57 ∷ 70 ∷ 10 ∷ []))
    ∷ [])
    ≡ Err (Line 1)
    ∷ Err (Shape 2)
    ∷ Err (Line 2)
    ∷ Err (Line 3)
    ∷ Err (Line 8)
    ∷ Err (Line 2)
    ∷ Err (Range 1)
    ∷ Err (Range 2)
    ∷ Err (Shape 2)
    ∷ Err (Shape 4)
    ∷ Err (Shape 3)
    ∷ Ok tt
    ∷ Err (Shape 66)
    ∷ Err (Line 1)
    ∷ Err (Line 1)
    ∷ Err (Line 1)
    ∷ Err (Line 1)
    ∷ Err (Line 1)
    ∷ Err (Line 2)
    ∷ []
unfolding the_reader
reading_names_the_first_line_at_fault = refl

-- ---- loops in lent tables, and their runs

-- the squares of 0 to n - 1, modulo 251
abbrev squares : ℕ → List ℕ
squares zero = []
squares (suc k) = squares k ++ (k * k % 251 ∷ [])

-- a loop: its header, its bare tree and its windows
record Loop : Type 0 where
  D : ℕ
  n : ℕ
  S : ℕ
  tree : Tree
  work : List ℕ
  table : List ℕ

abbrev head_table : Loop → List ℕ
head_table l = l.D ∷ l.n ∷ l.S ∷ count l.tree ∷ replicate 6 0

abbrev node_table : Loop → List ℕ
node_table l = padded 192 (rows l.tree)

-- its program by a rule, in tables of 1,024 instructions
abbrev planned : Loop → (rule : ℕ) → WithProgram
planned l rule =
    planning vector_bytes rule (head_table l) (node_table l) (length l.work) (length l.table) (replicate 6144 7) (replicate 6144 7)
    (replicate 6144 7)

-- the program's run, and the plain loop
abbrev ran : Loop → (rule budget : ℕ) → WithWork
ran l rule budget =
    let p = planned l rule in
    running vector_bytes p.head p.prologue p.body p.epilogue budget l.work l.table

abbrev looped : Loop → WithWork
looped l = looping vector_bytes (head_table l) (node_table l) l.work l.table

-- D = 2, c = 6, n = 4: four elements of table, less 5, into one block
abbrev less_five : Loop
less_five = record { D = 2; n = 4; S = 6; tree = op 1 (load 1 2) (splat 5); work = up_to 16; table = squares 16 }

-- each byte of work from the one before it: A = S-D, n = 3
abbrev carrying : Loop
carrying = record { D = 1; n = 3; S = 1; tree = load 0 0; work = 5 ∷ drop 1 (up_to 16); table = [] }

-- a shift from 2 to 0, and two elements stored past the end of work
abbrev not_bare : Loop
not_bare = record { D = 2; n = 2; S = 0; tree = shift 2 0 (load 0 2); work = []; table = [] }

abbrev not_bounded : Loop
not_bounded = record { D = 2; n = 2; S = 14; tree = splat 5; work = up_to 16; table = [] }

-- "On done the unused entries of output tables are zero. ROOM leaves tables unchanged; 2 to 11 leave the lent output tables all
-- zero.": tables of 7 at first, and for ROOM the node table one entry short
pub tables_after_each_kind_of_answer :
    (reading printed (replicate 10 7) (replicate 192 7)
    ≡ record {
      answer = done;
      head = (sheet_of printed).head ++ replicate 6 0;
      nodes = (sheet_of printed).nodes ++ replicate 177 0;
    })
    × (reading printed (replicate 10 7) (replicate 191 7)
    ≡ record { answer = at ROOM 0; head = replicate 10 7; nodes = replicate 191 7 })
    × (reading [] (replicate 10 7) (replicate 192 7)
    ≡ record { answer = at LINE 1; head = replicate 10 0; nodes = replicate 192 0 })
    -- the printed sheet by DOMINANT; and a sheet that is not bare
    × (placing vector_bytes 3 ((sheet_of printed).head ++ replicate 6 0) (padded 192 (sheet_of printed).nodes) (replicate 10 7) (replicate 192 7)
    ≡ record {
      answer = done;
      head = 2 ∷ 100 ∷ 0x0206 ∷ 7 ∷ replicate 6 0;
      nodes =
          (1 ∷ 1 ∷ 0x0002 ∷ [])
          ++ (1 ∷ 0 ∷ 0x000A ∷ [])
          ++ (4 ∷ 10 ∷ 2 ∷ [])
          ++ (3 ∷ 0 ∷ 0 ∷ [])
          ++ (1 ∷ 0 ∷ 0x0102 ∷ [])
          ++ (3 ∷ 0 ∷ 0 ∷ [])
          ++ (4 ∷ 2 ∷ 6 ∷ [])
          ++ replicate 171 0;
    })
    × (placing vector_bytes 3 (head_table not_bare) (node_table not_bare) (replicate 10 7) (replicate 192 7)
    ≡ record { answer = at BARE 3; head = replicate 10 0; nodes = replicate 192 0 })
    -- a plain loop that is refused stores nothing
    × (looped not_bounded ≡ record { answer = at BOUNDS 1; work = up_to 16 })
    × (planned less_five 1
    ≡ record {
      answer = done;
      head = record { d = 2; f = 0; prologue = 9; body = 0; epilogue = 0 };
      prologue =
          -- "An op's left input is generated first, and of a shift's two copies always this"; previous is 16 lower, 16-(6-2) = 12
          (1 ∷ 0 ∷ 1 ∷ 0 ∷ 0x8000_0002 ∷ 0 ∷ [])
          ++ (1 ∷ 1 ∷ 1 ∷ 0 ∷ 0x7FFF_FFF2 ∷ 0 ∷ [])
          ++ (4 ∷ 2 ∷ 1 ∷ 0 ∷ 12 ∷ 0 ∷ [])
          ++ (2 ∷ 3 ∷ 0 ∷ 0 ∷ 5 ∷ 0 ∷ [])
          ++ (3 ∷ 4 ∷ 2 ∷ 3 ∷ 1 ∷ 0 ∷ [])
          -- "the old block, splice(old, new, c), splice(that, old, c+nD), store"
          ++ (1 ∷ 5 ∷ 0 ∷ 0 ∷ 0x8000_0006 ∷ 0 ∷ [])
          ++ (5 ∷ 6 ∷ 5 ∷ 4 ∷ 6 ∷ 0 ∷ [])
          ++ (5 ∷ 7 ∷ 6 ∷ 5 ∷ 14 ∷ 0 ∷ [])
          ++ (6 ∷ 0 ∷ 7 ∷ 0 ∷ 0x8000_0006 ∷ 0 ∷ [])
          ++ replicate 6090 0;
      body = replicate 6144 0;
      epilogue = replicate 6144 0;
    })
    × (planned carrying 1
    ≡ record {
      answer = at CARRY 2;
      head = no_program;
      prologue = replicate 6144 0;
      body = replicate 6144 0;
      epilogue = replicate 6144 0;
    })
unfolding the_reader the_calls
tables_after_each_kind_of_answer = (refl, refl, refl, refl, refl, refl, refl, refl)

-- ---- which of two faults a call names

-- two elements of two bytes stored at S, in the tables of a call
abbrev two_at : (S : ℕ) → Tree → Loop
two_at S t = record { D = 2; n = 2; S = S; tree = t; work = []; table = [] }

-- the same with a D that is no width
abbrev no_width : Loop
no_width = record { D = 3; n = 2; S = 0; tree = load 0 0; work = []; table = [] }

-- the answers of the calls to a loop's tables, over windows of these lengths
abbrev placed_answer : Loop → (rule placed_entries : ℕ) → Answer
placed_answer l rule entries = (placing vector_bytes rule (head_table l) (node_table l) (replicate 10 0) (replicate entries 0)).answer

abbrev looped_answer : Loop → (work_len table_len : ℕ) → Answer
looped_answer l work_len table_len = (looping vector_bytes (head_table l) (node_table l) (replicate work_len 0) (replicate table_len 0)).answer

abbrev translated_answer : Loop → (work_len section_entries : ℕ) → Answer
translated_answer l work_len entries =
    (translating vector_bytes (head_table l) (node_table l) work_len 16 (replicate 6144 0) (replicate entries 0) (replicate 6144 0)).answer

abbrev offset_answer : Loop → (node_entries : ℕ) → Answer
offset_answer l entries = offset_checking vector_bytes (head_table l) (take entries (node_table l))

-- "Then, in order, placing gives 5 and 7; the plain loop 6 to 8; translating 6 to 11": each row but the last of its call has two
-- faults, and the earlier is named. "From the window as it then stands": the plain loop carries byte 0 along, and vectors cannot
pub calls_name_the_first_fault :
    (placed_answer no_width 4 191
    ∷ placed_answer no_width 4 192
    ∷ placed_answer (two_at 0 (shift 2 2 (load 0 2))) 3 192
    ∷ placed_answer (two_at 3 (shift 2 0 (load 0 2))) 3 192
    ∷ placed_answer (two_at 3 (load 0 5)) 3 192
    ∷ placed_answer (two_at 2 (load 0 5)) 3 192
    ∷ placed_answer (two_at 2 (load 0 4)) 3 192
    ∷ []
    ≡ at ROOM 0 ∷ at RANGE 0 ∷ at RANGE 3 ∷ at BARE 3 ∷ at ALIGN 1 ∷ at ALIGN 2 ∷ done ∷ [])
    × (looped_answer no_width 24 24
    ∷ looped_answer (two_at 15 (load 0 0)) 24 24
    ∷ looped_answer (two_at 15 (load 0 0)) 16 24
    ∷ looped_answer (two_at 15 (load 0 0)) 16 16
    ∷ looped_answer (two_at 14 (load 0 14)) 16 16
    ∷ looped_answer (two_at 12 (load 0 14)) 16 16
    ∷ looped_answer (two_at 12 (load 0 12)) 16 16
    ∷ []
    ≡ at RANGE 1 ∷ at WINDOW 0 ∷ at WINDOW 1 ∷ at ALIGN 1 ∷ at BOUNDS 1 ∷ at BOUNDS 2 ∷ done ∷ [])
    × (translated_answer no_width 24 6143
    ∷ translated_answer no_width 24 6144
    ∷ translated_answer (two_at 15 (load 0 12)) 24 6144
    ∷ translated_answer (two_at 15 (load 0 12)) 16 6144
    ∷ translated_answer (two_at 14 (load 0 12)) 16 6144
    ∷ translated_answer (two_at 14 (load 0 12)) 32 6144
    ∷ translated_answer (two_at 8 (chained 10)) 32 6144
    ∷ translated_answer (two_at 0 (chained 10)) 32 6144
    ∷ translated_answer (two_at 0 (chained 8)) 32 6144
    ∷ []
    ≡ at ROOM 0
    ∷ at RANGE 1
    ∷ at WINDOW 0
    ∷ at ALIGN 1
    ∷ at BOUNDS 1
    ∷ at CARRY 2
    ∷ at OFFSET 1
    ∷ at LONG 0
    ∷ done
    ∷ [])
    × (offset_answer (two_at 0 (shift 2 2 (load 0 4))) 191
    ∷ offset_answer (two_at 0 (shift 2 2 (load 0 4))) 192
    ∷ offset_answer (two_at 4 (shift 2 0 (load 0 4))) 192
    ∷ offset_answer (two_at 4 (shift 4 0 (load 0 4))) 192
    ∷ offset_answer (two_at 0 (shift 4 0 (load 0 4))) 192
    ∷ []
    ≡ at ROOM 0 ∷ at RANGE 3 ∷ at OFFSET 3 ∷ at OFFSET 1 ∷ done ∷ [])
    × (looped carrying ≡ record { answer = done; work = 5 ∷ 5 ∷ 5 ∷ 5 ∷ drop 4 (up_to 16) })
unfolding the_calls
calls_name_the_first_fault = (refl, refl, refl, refl, refl)

-- a program's run by a rule is done after so many steps, a budget of just as many and the count of the definition, and leaves
-- what the plain loop leaves
abbrev RunsAsLoop : Loop → (rule steps : ℕ) → List ℕ → Type 0
RunsAsLoop l rule steps work =
    (ran l rule steps ≡ record { answer = after DONE steps; work = work }) × (looped l ≡ record { answer = done; work = work })
    × (steps_of vector_bytes l.D l.n l.S (place vector_bytes l.S rule l.tree) ≡ steps)

-- D = 2, c = 6, n = 4: four elements within one block, table minus work
abbrev within_one_block : Loop
within_one_block = record { D = 2; n = 4; S = 22; tree = op 1 (load 1 2) (load 0 26); work = up_to 48; table = squares 32 }

-- no element, stored where work ends
abbrev no_element : Loop
no_element = record { D = 8; n = 0; S = 32; tree = load 0 32; work = up_to 32; table = [] }

-- F = 0. EAGER shifts table right and work left, G = 7, and the bytes before and after the four elements stay; one step less is
-- OUT, with work as before, for the store comes last. "n = 0: no instructions": a prologue would store past the window
pub runs_without_a_whole_vector_are_their_loops :
    RunsAsLoop within_one_block 1 11 (take 22 (up_to 48) ++ (234 ∷ 237 ∷ 244 ∷ 251 ∷ 6 ∷ 18 ∷ 32 ∷ 48 ∷ drop 30 (up_to 48)))
    × (ran within_one_block 1 10 ≡ record { answer = after OUT 10; work = up_to 48 })
    × RunsAsLoop no_element 1 0 (up_to 32)
unfolding the_calls
runs_without_a_whole_vector_are_their_loops = ((refl, refl, refl), refl, (refl, refl, refl))

-- D = 2, c = 6, n = 15, so F = 2 and e = 2: table minus work, but at least 16 as a signed number
abbrev over_three_blocks : Loop
over_three_blocks =
    record { D = 2; n = 15; S = 6; tree = op 5 (splat 16) (op 1 (load 1 2) (load 0 8)); work = up_to 48; table = squares 32 }

abbrev over_three_blocks_after : List ℕ
over_three_blocks_after =
    0 ∷ 1 ∷ 2 ∷ 3 ∷ 4 ∷ 5 ∷ 16 ∷ 0 ∷ 6 ∷ 14 ∷ 24 ∷ 36 ∷ 50 ∷ 66 ∷ 84 ∷ 104
    ∷ 16 ∷ 0 ∷ 16 ∷ 0 ∷ 239 ∷ 14 ∷ 49 ∷ 85 ∷ 16 ∷ 0 ∷ 16 ∷ 0 ∷ 44 ∷ 92 ∷ 16 ∷ 0
    ∷ 253 ∷ 52 ∷ 16 ∷ 0 ∷ drop 36 (up_to 48)

-- D = 8, c = 8, n = 1, so F = 1 and e = 0: the last column of work less 1, "a rule that adds into its own column has A = S"
abbrev last_column : Loop
last_column =
    record { D = 8; n = 1; S = 24; tree = op 0 (load 0 24) (splat 0xFFFF_FFFF_FFFF_FFFF); work = up_to 32; table = [] }

-- ZERO shifts both loads left and the root right, G = 19: prologue 22 steps, one pass of the body 20, epilogue 22; the right
-- shift needs its previous block in the body and in the epilogue. At e = 0 an epilogue would store past the window
pub runs_with_whole_vectors_are_their_loops :
    RunsAsLoop over_three_blocks 0 64 over_three_blocks_after
    × RunsAsLoop last_column 2 6 (take 24 (up_to 32) ++ (23 ∷ drop 25 (up_to 32)))
unfolding the_calls
runs_with_whole_vectors_are_their_loops = ((refl, refl, refl), (refl, refl, refl))

-- ---- the machine on programs that no translator made

-- a prologue of so many rows on elements of one byte, over a block of work whose bytes are 9
abbrev prologue_alone : (rows budget : ℕ) → List ℕ → WithWork
prologue_alone rows budget section =
    running vector_bytes (record { d = 1; f = 1; prologue = rows; body = 0; epilogue = 0 }) section [] [] budget (replicate 16 9) []

-- the number of an answer to one row
abbrev of_row : List ℕ → ℕ
of_row row = (prologue_alone 1 1 row).answer.number

-- a splat of 3 in the prologue; a store of it at address 0 and a row of no kind in the epilogue; and a body of one such row
abbrev hand_made : (f : ℕ) → WithWork
hand_made f =
    running vector_bytes (record { d = 1; f = f; prologue = 1; body = 1; epilogue = 2 }) (2 ∷ 5 ∷ 0 ∷ 0 ∷ 3 ∷ 0 ∷ []) (replicate 6 0)
    ((6 ∷ 0 ∷ 5 ∷ 0 ∷ 0x8000_0000 ∷ 0 ∷ []) ++ replicate 6 0) 9 (replicate 32 9) []

-- the answer to a head with no rows, no bytes and no budget
abbrev beginning : ProgramHead → Answer
beginning h = (running vector_bytes h [] [] [] 0 [] []).answer

-- "next instruction has an unknown kind, operation, window, register, amount or splat value, or stores outside": both sides of
-- each. "At each step 12 before 13". "A load of a block outside its window gives sixteen zeros", here over a splat of 3. "At the
-- start, D is wrong or F is above 2,048", and ROOM before. Address 0 is held as 2^31
pub faults_at_their_edges :
    (map of_row
    -- a load into the last register, and one past it; of window 1, and of 2
    ((1 ∷ 1023 ∷ 0 ∷ 0 ∷ 0 ∷ 0 ∷ [])
    ∷ (1 ∷ 1024 ∷ 0 ∷ 0 ∷ 0 ∷ 0 ∷ [])
    ∷ (1 ∷ 0 ∷ 1 ∷ 0 ∷ 0 ∷ 0 ∷ [])
    ∷ (1 ∷ 0 ∷ 2 ∷ 0 ∷ 0 ∷ 0 ∷ [])
    -- a load with numbers in b and high, which it has not
    ∷ (1 ∷ 0 ∷ 0 ∷ 9999 ∷ 0 ∷ 9999 ∷ [])
    -- a splat into register 1,024, and with numbers in a and b; of 255, of 256, of 2^32
    ∷ (2 ∷ 0 ∷ 9999 ∷ 9999 ∷ 0 ∷ 0 ∷ [])
    ∷ (2 ∷ 1024 ∷ 0 ∷ 0 ∷ 0 ∷ 0 ∷ [])
    ∷ (2 ∷ 0 ∷ 0 ∷ 0 ∷ 255 ∷ 0 ∷ [])
    ∷ (2 ∷ 0 ∷ 0 ∷ 0 ∷ 256 ∷ 0 ∷ [])
    ∷ (2 ∷ 0 ∷ 0 ∷ 0 ∷ 0 ∷ 1 ∷ [])
    -- an op whose destination, left, right is register 1,024; operation 5, and 6
    ∷ (3 ∷ 1024 ∷ 0 ∷ 0 ∷ 0 ∷ 0 ∷ [])
    ∷ (3 ∷ 0 ∷ 1024 ∷ 0 ∷ 0 ∷ 0 ∷ [])
    ∷ (3 ∷ 0 ∷ 0 ∷ 1024 ∷ 0 ∷ 0 ∷ [])
    ∷ (3 ∷ 0 ∷ 0 ∷ 0 ∷ 5 ∷ 0 ∷ [])
    ∷ (3 ∷ 0 ∷ 0 ∷ 0 ∷ 6 ∷ 0 ∷ [])
    -- vshiftpair by 15, and by 16; vsplice at 16, and at 17
    ∷ (4 ∷ 0 ∷ 0 ∷ 0 ∷ 15 ∷ 0 ∷ [])
    ∷ (4 ∷ 0 ∷ 0 ∷ 0 ∷ 16 ∷ 0 ∷ [])
    ∷ (5 ∷ 0 ∷ 0 ∷ 0 ∷ 16 ∷ 0 ∷ [])
    ∷ (5 ∷ 0 ∷ 0 ∷ 0 ∷ 17 ∷ 0 ∷ [])
    -- a store of register 1,024; at 15, at 16, at -1
    ∷ (6 ∷ 0 ∷ 1024 ∷ 0 ∷ 0x8000_0000 ∷ 0 ∷ [])
    ∷ (6 ∷ 0 ∷ 0 ∷ 0 ∷ 0x8000_000F ∷ 0 ∷ [])
    ∷ (6 ∷ 0 ∷ 0 ∷ 0 ∷ 0x8000_0010 ∷ 0 ∷ [])
    ∷ (6 ∷ 0 ∷ 0 ∷ 0 ∷ 0x7FFF_FFFF ∷ 0 ∷ [])
    -- kinds 0 and 7
    ∷ (0 ∷ 0 ∷ 0 ∷ 0 ∷ 0 ∷ 0 ∷ [])
    ∷ (7 ∷ 0 ∷ 0 ∷ 0 ∷ 0 ∷ 0 ∷ [])
    ∷ [])
    ≡ DONE ∷ FAULT ∷ DONE ∷ FAULT
    ∷ DONE
    ∷ DONE ∷ FAULT ∷ DONE ∷ FAULT ∷ FAULT
    ∷ FAULT ∷ FAULT ∷ FAULT ∷ DONE ∷ FAULT
    ∷ DONE ∷ FAULT ∷ DONE ∷ FAULT
    ∷ FAULT ∷ DONE ∷ FAULT ∷ FAULT
    ∷ FAULT ∷ FAULT ∷ [])
    × (prologue_alone 1 0 (7 ∷ 0 ∷ 0 ∷ 0 ∷ 0 ∷ 0 ∷ []) ≡ record { answer = after OUT 0; work = replicate 16 9 })
    × (prologue_alone 3 3
    ((2 ∷ 0 ∷ 0 ∷ 0 ∷ 3 ∷ 0 ∷ []) ++ (1 ∷ 0 ∷ 0 ∷ 0 ∷ 0x7FFF_FFFF ∷ 0 ∷ []) ++ (6 ∷ 0 ∷ 0 ∷ 0 ∷ 0x8000_0000 ∷ 0 ∷ []))
    ≡ record { answer = after DONE 3; work = replicate 16 0 })
    × (map beginning
    (record { d = 0; f = 0; prologue = 0; body = 0; epilogue = 0 }
    ∷ record { d = 3; f = 0; prologue = 0; body = 0; epilogue = 0 }
    ∷ record { d = 2; f = 2048; prologue = 0; body = 0; epilogue = 0 }
    ∷ record { d = 2; f = 2049; prologue = 0; body = 0; epilogue = 0 }
    ∷ record { d = 3; f = 0; prologue = 1; body = 0; epilogue = 0 }
    ∷ [])
    ≡ after FAULT 0 ∷ after FAULT 0 ∷ after DONE 0 ∷ after FAULT 0 ∷ at ROOM 0 ∷ [])
    -- "a section longer than 1,024 or than its table": 1,024 rows in a table of as many, in one of an entry less, and 1,025 rows
    × ((prologue_alone 1024 0 (replicate 6144 0)).answer
    ∷ (prologue_alone 1024 0 (replicate 6143 0)).answer
    ∷ (prologue_alone 1025 0 (replicate 6150 0)).answer
    ∷ []
    ≡ after OUT 0 ∷ at ROOM 0 ∷ at ROOM 0 ∷ [])
    -- WINDOW before a FAULT at the start
    × ((running vector_bytes (record { d = 3; f = 0; prologue = 0; body = 0; epilogue = 0 }) [] [] [] 0 (replicate 8 0) (replicate 8 0)).answer
    ≡ at WINDOW 0)
    -- F = 1: a splat in the prologue, a store of it in the epilogue, in pass 1, and no body; then a fault, after the store
    × (hand_made 1 ≡ record { answer = after FAULT 2; work = replicate 16 9 ++ replicate 16 3 })
    -- F = 0: the same in pass 0
    × (hand_made 0 ≡ record { answer = after FAULT 2; work = replicate 16 3 ++ replicate 16 9 })
unfolding the_calls
faults_at_their_edges = (refl, refl, refl, refl, refl, refl, refl, refl)
