-- The paper's numbers, each named once. "A vector is V = 16 bytes"; V is a reserved word of antt, so definitions are over any
-- width W of a vector. Only reading, whose frames hold the paper's 15, and the contracts say 16.
use Rattle.std.specs.Prelude.{ℕ, ◌*◌, ◌/◌, ◌^◌}

-- V
abbrev pub vector_bytes : ℕ
vector_bytes = 16

-- the widest element, in bytes
abbrev pub width_most : ℕ
width_most = 8

-- "There are n elements, 0 to 4,096"
abbrev pub elements_most : ℕ
elements_most = 4096

-- "Each is a multiple of 16 long, 0 to 65,536"
abbrev pub window_most : ℕ
window_most = 65536

-- an address has two bytes
abbrev pub address_most : ℕ
address_most = 65535

-- "Two windows of bytes are lent: work (0), read and written, and table (1), only read"
abbrev pub windows : ℕ
windows = 2

abbrev pub work_window : ℕ
work_window = 0

-- "operation 0 to 5"
abbrev pub operations : ℕ
operations = 6

-- "1 to 64 of them"
abbrev pub nodes_most : ℕ
nodes_most = 64

-- "a bare sheet has no shift and at most 31 nodes"
abbrev pub bare_most : ℕ
bare_most = 31

-- placing rules 0 to 3
abbrev pub rules_most : ℕ
rules_most = 3

-- "registers 0 to 1,023"
abbrev pub registers : ℕ
registers = 1024

-- "1,024 instructions a section"
abbrev pub section_most : ℕ
section_most = 1024

-- "G above 1,020" is LONG
abbrev pub long_most : ℕ
long_most = 1020

-- "F is above 2,048": the whole vectors of the longest loop
abbrev pub full_most : (W : ℕ) → ℕ
full_most W = elements_most * width_most / W

-- "address a (signed, 32 bits)" is held with this added; a splat's value is held in two parts, the lower below this
abbrev pub address_zero : ℕ
address_zero = 2 ^ 31

abbrev pub low_values : ℕ
low_values = 2 ^ 32

-- entries of the lent tables: a sheet's head, a row of a node table, a row of a section
abbrev pub head_entries : ℕ
head_entries = 10

abbrev pub row_entries : ℕ
row_entries = 3

abbrev pub instruction_entries : ℕ
instruction_entries = 6

-- "the first 2,048 bytes of standard input (no longer text can be a sheet, and they decide the answer)"
abbrev pub text_most : ℕ
text_most = 2048
