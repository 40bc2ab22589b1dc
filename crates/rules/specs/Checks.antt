-- Each refusal with its "Given exactly when" and its place: a check is done where it has nothing to refuse. Lines: the header or
-- store is 1, node k, from 0, is k + 2. W is the bytes of a vector.
use Rattle.std.specs.Prelude.{ℕ, zero, suc, ◌+◌, ◌-◌, ◌*◌, ◌%◌, min, List, [], ◌∷◌, ◌++◌, Bool, not, ◌&&◌, ◌||◌, length, ltb, leb, eqb}
use Rattle.rules.specs.Limits.{work_window, window_most, nodes_most, bare_most, rules_most, section_most, long_most, full_most, head_entries, row_entries, instruction_entries}
use Rattle.rules.specs.Answers.{Answer, at, after, refuse_if, first, each, ROOM, RANGE, SHAPE, BARE, WINDOW, ALIGN, BOUNDS, CARRY, OFFSET, LONG, FAULT}
use Rattle.rules.specs.Units.{is_width}
use Rattle.rules.specs.Frames.{load_kind, shift_kind}
use Rattle.rules.specs.Ranges.{head_ok, row_ok, takes}
use Rattle.rules.specs.Trees.{Tree, cell, node_at, tree_at, tree_of}
use Rattle.rules.specs.Offsets.{rule_kept, root_kept}
use Rattle.rules.specs.Code.{G}
use Rattle.rules.specs.Tables.{Graph}
use Rattle.rules.specs.declared.program.ProgramHead.{ProgramHead}

abbrev pub store_line : ℕ
store_line = 1

abbrev pub line : ℕ → ℕ
line k = k + 2

-- ---- 1 ROOM: "a lent table is too short (64 nodes; 1,024 instructions a section)"

abbrev pub head_short : List ℕ → Bool
head_short head = ltb (length head) head_entries

abbrev pub nodes_short : List ℕ → Bool
nodes_short nodes = ltb (length nodes) (row_entries * nodes_most)

abbrev pub section_short : List ℕ → Bool
section_short section = ltb (length section) (instruction_entries * section_most)

abbrev pub room_check : Bool → Answer
room_check short = refuse_if short (at ROOM 0)

-- ---- 3 RANGE and 4 SHAPE "as if read": the first line at fault, and on one line 3 before 4

-- "A placing rule above 3 is RANGE with place 0"
abbrev pub rule_check : (rule : ℕ) → Answer
rule_check rule = refuse_if (ltb rules_most rule) (at RANGE 0)

-- how many nodes wait before row k
unfoldable pub waits : List ℕ → ℕ → ℕ
waits nodes zero = 0
waits nodes (suc k) = waits nodes k - takes (cell nodes k 0) + 1

abbrev pub head_check : Graph → Answer
head_check g = refuse_if (not (head_ok g.D g.n g.S)) (at RANGE store_line)

abbrev pub range_check : (W : ℕ) → Graph → ℕ → Answer
range_check W g k =
    refuse_if (not (row_ok W g.D (cell g.nodes k 0) (cell g.nodes k 1) (cell g.nodes k 2))) (at RANGE (line k))

-- "too few wait"
abbrev pub takes_check : Graph → ℕ → Answer
takes_check g k = refuse_if (ltb (waits g.nodes k) (takes (cell g.nodes k 0))) (at SHAPE (line k))

abbrev pub row_check : (W : ℕ) → Graph → ℕ → Answer
row_check W g k = first (range_check W g k ∷ takes_check g k ∷ [])

-- "a 65th node, not one waiting at the end"
abbrev pub end_check : Graph → Answer
end_check g = refuse_if (ltb nodes_most g.N || not (eqb (waits g.nodes g.N) 1)) (at SHAPE (line (min g.N nodes_most)))

unfoldable pub form_check : (W : ℕ) → Graph → Answer
form_check W g = first (head_check g ∷ each (row_check W g) (min g.N nodes_most) ++ end_check g ∷ [])

-- ---- 5 BARE: "place is the first line with a shift or a 32nd node"

abbrev pub bare_row : Graph → ℕ → Answer
bare_row g k = refuse_if (eqb (cell g.nodes k 0) shift_kind || leb bare_most k) (at BARE (line k))

unfoldable pub bare_check : Graph → Answer
bare_check g = first (each (bare_row g) g.N)

-- ---- 6 WINDOW: "a window length not allowed (work first; place 0 or 1)"

abbrev pub window_ok : (W len : ℕ) → Bool
window_ok W len = leb len window_most && eqb (len % W) 0

unfoldable pub window_check : (W work_len table_len : ℕ) → Answer
window_check W work_len table_len =
    first (refuse_if (not (window_ok W work_len)) (at WINDOW 0) ∷ refuse_if (not (window_ok W table_len)) (at WINDOW 1) ∷ [])

-- ---- 7 ALIGN, 8 BOUNDS, 9 CARRY: "In 7 and 8 the store (line 1) comes before the nodes"

abbrev pub is_load : Graph → ℕ → Bool
is_load g k = eqb (cell g.nodes k 0) load_kind

abbrev pub load_window : Graph → ℕ → ℕ
load_window g k = cell g.nodes k 1

abbrev pub load_address : Graph → ℕ → ℕ
load_address g k = cell g.nodes k 2

-- "an address not a multiple of D"
abbrev pub misaligned : (D address : ℕ) → Bool
misaligned D address = not (eqb (address % D) 0)

abbrev pub align_row : Graph → ℕ → Answer
align_row g k = refuse_if (is_load g k && misaligned g.D (load_address g k)) (at ALIGN (line k))

unfoldable pub align_check : Graph → Answer
align_check g = first (refuse_if (misaligned g.D g.S) (at ALIGN store_line) ∷ each (align_row g) g.N)

-- "address + nD beyond its window"
abbrev pub beyond : (D n address len : ℕ) → Bool
beyond D n address len = ltb len (address + n * D)

abbrev pub length_of : (window work_len table_len : ℕ) → ℕ
length_of zero work_len table_len = work_len
length_of (suc w) work_len table_len = table_len

abbrev pub bounds_row : Graph → (work_len table_len : ℕ) → ℕ → Answer
bounds_row g work_len table_len k =
    refuse_if (is_load g k && beyond g.D g.n (load_address g k) (length_of (load_window g k) work_len table_len)) (at BOUNDS (line k))

unfoldable pub bounds_check : Graph → (work_len table_len : ℕ) → Answer
bounds_check g work_len table_len =
    first (refuse_if (beyond g.D g.n g.S work_len) (at BOUNDS store_line) ∷ each (bounds_row g work_len table_len) g.N)

-- "a work load with A < S < A+nD"
abbrev pub carries : (D n S window address : ℕ) → Bool
carries D n S window address = eqb window work_window && ltb address S && ltb S (address + n * D)

abbrev pub carry_row : Graph → ℕ → Answer
carry_row g k = refuse_if (is_load g k && carries g.D g.n g.S (load_window g k) (load_address g k)) (at CARRY (line k))

unfoldable pub carry_check : Graph → Answer
carry_check g = first (each (carry_row g) g.N)

-- ---- 10 OFFSET: "an offset rule broken"; the store comes after the nodes

abbrev pub offset_row : (W : ℕ) → Graph → ℕ → Answer
offset_row W g k = refuse_if (not (rule_kept W (tree_at (node_at g.nodes) k))) (at OFFSET (line k))

unfoldable pub offset_check : (W : ℕ) → Graph → Answer
offset_check W g =
    first (each (offset_row W g) g.N ++ refuse_if (not (root_kept W g.S (tree_of g.nodes g.N))) (at OFFSET store_line) ∷ [])

-- ---- 11 LONG: "G above 1,020"

unfoldable pub long_check : Tree → Answer
long_check t = refuse_if (ltb long_most (G t)) (at LONG 0)

-- ---- running: ROOM is "a section longer than 1,024 or than its table"; FAULT "at the start, D is wrong or F is above 2,048"

abbrev pub section_long : ℕ → List ℕ → Bool
section_long n section = ltb section_most n || ltb (length section) (instruction_entries * n)

abbrev pub start_fault : (W : ℕ) → ProgramHead → Answer
start_fault W h = refuse_if (not (is_width h.d) || ltb (full_most W) h.f) (after FAULT 0)
