-- Instructions written into a section, and what a tree's code needs so that it can be: numbers of 32 bits, and rows.
use Rattle.std.specs.Prelude.{ℕ, ◌+◌, ◌*◌, ◌-◌, ◌^◌, ◌≤◌, ◌<◌, ◌≡◌, List, [], ◌∷◌, ◌++◌, length}
use Rattle.rules.specs.Limits.{vector_bytes, windows, address_most, operations, section_most, long_most, instruction_entries}
use Rattle.rules.specs.Trees.{Tree, load, splat, op, shift}
use Rattle.rules.specs.Code.{G, new, old_block}
use Rattle.rules.specs.declared.program.Instruction.{Instruction}
use Rattle.graph.specs.NodeTables.{NodeTable}
use Rattle.graph.specs.Linking.{tree}
use Rattle.translating_rows.specs.Putting.{written}
use Rattle.translating_rows.specs.declared.Writer.{Writer}

-- a section before and after these instructions were written from a row on, and the row after them
pub record Written (before after : List ℕ) (row next : ℕ) (is : List Instruction) : Type 0 where
  pub rows : next ≡ row + length is
  pub holds : after ≡ written before row is

-- a writer before and after it wrote these instructions, from its row on
abbrev pub Wrote : (before after : Writer) → List Instruction → Type 0
Wrote before after is = Written before.section.now after.section.now before.row after.row is

-- a section that is long enough, as ROOM asks
abbrev pub Roomy : List ℕ → Type 0
Roomy section = instruction_entries * section_most ≤ length section

-- the most vectors that can be added to an address, so that it stays a number of 32 bits
abbrev pub blocks_most : ℕ
blocks_most = 2 ^ 28 - 4096

-- fields that an instruction can hold, in every node: RANGE leaves no others
abbrev pub Ranged : Tree → Type 0
Ranged (load w a) = (w < windows) × (a ≤ address_most)
Ranged (splat v) = Unit
Ranged (op o l r) = (o < operations) × Ranged l × Ranged r
Ranged (shift f g t) = (f < vector_bytes) × (g < vector_bytes) × Ranged t

-- what the code of a tree stands on: fields in their ranges, rows, and addresses that a next or a previous of each node on the way
-- down, so many at most, moves by a vector
pub record Ready (t : Tree) (height blocks row : ℕ) (section : List ℕ) : Type 0 where
  pub ranged : Ranged t
  pub above : height ≤ blocks
  pub below : blocks + height ≤ blocks_most
  pub fits : row + G t ≤ section_most
  pub room : Roomy section

-- what a section stands on: the code of the tree from the first row on, four rows more, and an address to store at
pub record Root (t : Tree) (S : ℕ) : Type 0 where
  pub ranged : Ranged t
  pub short : G t ≤ long_most
  pub address : S ≤ address_most

-- the tree of a table's last node
abbrev pub root_of : NodeTable → Tree
root_of table = tree table.rows (table.count - 1)

-- what every section but the body begins with: the tree, and the old block
abbrev pub new_and_old : (S : ℕ) → Tree → List Instruction
new_and_old S t = new vector_bytes S t ++ (old_block vector_bytes S t (G t) ∷ [])
