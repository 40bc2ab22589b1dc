-- "Frames 01 to 04 are nodes in postfix order": the rows of a tree read back as that tree, wherever they stand in a table, and
-- the instructions of a section read back as they were put down. Stands on the definitions alone.
use Prim.Native.Nat.{ℕ, zero, suc, ◌+◌, ◌-◌, ◌*◌, ◌≤◌, ◌<◌}
use mathlib.Core.Path.{◌≡◌, refl, ap, ◌∙◌}
use mathlib.Core.Bool.{true, false≢true}
use mathlib.Core.List.{List, [], ◌∷◌, ◌++◌, append_assoc}
use native.Mathlib.Omega.{arith}
use lib.ListN.{length, get_or, length-append, length-replicate, get_or-append}
use lib.Seq.{get_or-append-add}
use Rattle.rules.specs.Frames.{load_kind, splat_kind, op_kind, shift_kind}
use Rattle.rules.specs.Ranges.{row_ok, takes}
use Rattle.rules.specs.Trees.{Tree, load, splat, op, shift, cell, node_of, node_at, push, waiting, top, tree_of, rows, count}
use Rattle.rules.specs.Checks.{waits}
use Rattle.rules.specs.Machine.{instruction_at, instructions_from}
use Rattle.rules.specs.Tables.{entries, padded}
use Rattle.rules.specs.declared.nodes.Node.{Node}
use Rattle.rules.specs.declared.program.Instruction.{Instruction}

-- ---- a tree's rows

pub length_rows : (t : Tree) → length (rows t) ≡ 3 * count t
length_rows (load w a) = refl
length_rows (splat v) = refl
length_rows (op o l r) =
    rw (length-append (rows l ++ rows r), length-append (rows l), length_rows l, length_rows r) (omega arith)
length_rows (shift f g t) = rw (length-append (rows t), length_rows t) (omega arith)

-- an entry past the front of a table is one of the rest
pub entry_past : (before rest : List ℕ) (at m : ℕ) → at ≡ length before + m → get_or (before ++ rest) at 0 ≡ get_or rest m 0
entry_past before rest at m p = rw p (get_or-append-add before rest m 0)

-- the entries of row k, right after the first k
pub cell_seam : (before rest : List ℕ) (k c : ℕ) → length before ≡ 3 * k → cell (before ++ rest) k c ≡ get_or rest c 0
cell_seam before rest k c e = entry_past before rest (3 * k + c) c (omega arith)

node_seam : (table before rest : List ℕ) (k kind x y : ℕ)
    → table ≡ before ++ (kind ∷ x ∷ y ∷ rest) → length before ≡ 3 * k → node_at table k ≡ node_of kind x y
unfolding node_at
node_seam table before rest k kind x y s e =
    let row : List ℕ = kind ∷ x ∷ y ∷ rest in
    rw (s, cell_seam before row k 0 e, cell_seam before row k 1 e, cell_seam before row k 2 e)

-- one more row is pushed
waiting_next : (table : List ℕ) (j k : ℕ) (node : Node) → j ≡ suc k → node_at table k ≡ node
    → waiting (node_at table) j ≡ push node (waiting (node_at table) k)
unfolding waiting
waiting_next table j k node s e = rw (s, e)

-- a table that holds a tree's rows after its first k: the tree waits on top of what waited
pub waiting_in : (table before after : List ℕ) (k : ℕ) (t : Tree)
    → table ≡ before ++ (rows t ++ after) → length before ≡ 3 * k
    → waiting (node_at table) (k + count t) ≡ t ∷ waiting (node_at table) k
waiting_in table before after k (load w a) s e =
    waiting_next table (k + 1) k _ (omega arith) (node_seam table before after k load_kind w a s e)
waiting_in table before after k (splat v) s e =
    waiting_next table (k + 1) k _ (omega arith) (node_seam table before after k splat_kind v 0 s e)
waiting_in table before after k (op o l r) s e =
    let row : List ℕ = op_kind ∷ o ∷ 0 ∷ [] in
    let k₁ : ℕ = k + count l in
    let k₂ : ℕ = k₁ + count r in
    let b₁ : List ℕ = before ++ rows l in
    let b₂ : List ℕ = b₁ ++ rows r in
    let e₁ : length b₁ ≡ 3 * k₁ = length-append before (rows l) ∙ omega (arith, length_rows l) in
    let e₂ : length b₂ ≡ 3 * k₂ = length-append b₁ (rows r) ∙ omega (arith, length_rows r) in
    waiting_next table (k + (count l + count r + 1)) k₂ _ (omega arith)
    (node_seam table b₂ after k₂ op_kind o 0 (s ∙ simp append_assoc) e₂)
    ∙ rw (
      waiting_in table b₁ (row ++ after) k₁ r (s ∙ simp append_assoc) e₁,
      waiting_in table before (rows r ++ (row ++ after)) k l (s ∙ simp append_assoc) e,
    )
waiting_in table before after k (shift f g t) s e =
    let row : List ℕ = shift_kind ∷ f ∷ g ∷ [] in
    let k₁ : ℕ = k + count t in
    let b₁ : List ℕ = before ++ rows t in
    let e₁ : length b₁ ≡ 3 * k₁ = length-append before (rows t) ∙ omega (arith, length_rows t) in
    waiting_next table (k + (count t + 1)) k₁ _ (omega arith) (node_seam table b₁ after k₁ shift_kind f g (s ∙ simp append_assoc) e₁)
    ∙ rw (waiting_in table before (row ++ after) k t (s ∙ simp append_assoc) e)

pub waiting_rows : (before after : List ℕ) (k : ℕ) (t : Tree) → length before ≡ 3 * k
    → waiting (node_at (before ++ (rows t ++ after))) (k + count t) ≡ t ∷ waiting (node_at (before ++ (rows t ++ after))) k
waiting_rows before after k t e = waiting_in _ before after k t refl e

-- "At the end exactly one waits"
pub rows_one_waits : (t : Tree) (after : List ℕ) → waiting (node_at (rows t ++ after)) (count t) ≡ t ∷ []
unfolding waiting
rows_one_waits t after =
    let z : count t ≡ 0 + count t = omega arith in
    ap (waiting (node_at (rows t ++ after))) z ∙ waiting_rows [] after 0 t refl

pub rows_read_back : (t : Tree) (after : List ℕ) → tree_of (rows t ++ after) (count t) ≡ t
unfolding tree_of
rows_read_back t after = ap top (rows_one_waits t after)

-- the same of the table that a call hands back
pub length_padded : (len : ℕ) (made : List ℕ) → length made ≤ len → length (padded len made) ≡ len
unfolding padded
length_padded len made h = length-append made _ ∙ omega (arith, length-replicate {A = ℕ} (len - length made) 0)

pub padded_rows_read_back : (len : ℕ) (t : Tree) → tree_of (padded len (rows t)) (count t) ≡ t
unfolding padded
padded_rows_read_back len t = rows_read_back t _

-- what holds of kind 0 and of every kind from 5 on holds of all that are no node's
pub no_node_kind : (P : ℕ → Type 0) → P 0 → ((k : ℕ) → P (suc (suc (suc (suc (suc k)))))) → (kind : ℕ)
    → (kind ≡ 1 → ⊥) → (kind ≡ 2 → ⊥) → (kind ≡ 3 → ⊥) → (kind ≡ 4 → ⊥) → P kind
no_node_kind P none other zero a b c d = none
no_node_kind P none other (suc zero) a b c d = absurd (a refl)
no_node_kind P none other (suc (suc zero)) a b c d = absurd (b refl)
no_node_kind P none other (suc (suc (suc zero))) a b c d = absurd (c refl)
no_node_kind P none other (suc (suc (suc (suc zero)))) a b c d = absurd (d refl)
no_node_kind P none other (suc (suc (suc (suc (suc k))))) a b c d = other k

-- ---- how many wait

-- a node of a known kind, on enough that wait
length_push : (W D kind x y : ℕ) (ts : List Tree) → row_ok W D kind x y ≡ true → takes kind ≤ length ts
    → length (push (node_of kind x y) ts) ≡ length ts - takes kind + 1
unfolding row_ok takes
length_push W D zero x y ts o h = absurd (false≢true o)
length_push W D (suc zero) x y ts o h = omega arith
length_push W D (suc (suc zero)) x y ts o h = omega arith
length_push W D (suc (suc (suc zero))) x y [] o h = absurd (omega arith)
length_push W D (suc (suc (suc zero))) x y (r ∷ []) o h = absurd (omega arith)
length_push W D (suc (suc (suc zero))) x y (r ∷ l ∷ ts) o h = omega arith
length_push W D (suc (suc (suc (suc zero)))) x y [] o h = absurd (omega arith)
length_push W D (suc (suc (suc (suc zero)))) x y (c ∷ ts) o h = omega arith
length_push W D (suc (suc (suc (suc (suc k))))) x y ts o h = absurd (false≢true o)

-- the count of the checks is the length of the list of trees
pub length_waiting : (W D : ℕ) (nodes : List ℕ) (k : ℕ)
    → ((j : ℕ) → j < k → takes (cell nodes j 0) ≤ waits nodes j)
    → ((j : ℕ) → j < k → row_ok W D (cell nodes j 0) (cell nodes j 1) (cell nodes j 2) ≡ true)
    → length (waiting (node_at nodes) k) ≡ waits nodes k
unfolding waiting waits node_at
length_waiting W D nodes zero enough ok = refl
length_waiting W D nodes (suc k) enough ok =
    let e : length (waiting (node_at nodes) k) ≡ waits nodes k =
    length_waiting W D nodes k (λ j h. enough j (omega arith)) (λ j h. ok j (omega arith)) in
    rw (← e) (length_push W D (cell nodes k 0) (cell nodes k 1) (cell nodes k 2) _ (ok k (omega arith)) (rw e (enough k (omega arith))))

-- entries of the first rows are those of the front
pub cell_front : (before rest : List ℕ) (k j c : ℕ) → length before ≡ 3 * k → j < k → c < 3
    → cell (before ++ rest) j c ≡ cell before j c
cell_front before rest k j c e h b = get_or-append before rest 0 (3 * j + c) (omega arith)

-- rows after the first k change nothing of what waits before them
pub waits_front : (before rest : List ℕ) (k j : ℕ) → length before ≡ 3 * k → j ≤ k → waits (before ++ rest) j ≡ waits before j
unfolding waits
waits_front before rest k zero e h = refl
waits_front before rest k (suc j) e h =
    rw (waits_front before rest k j e (omega arith), cell_front before rest k j 0 e (omega arith) (omega arith))

-- ---- a section's instructions

instruction_seam : (before rest : List ℕ) (k : ℕ) (i : Instruction) → length before ≡ 6 * k
    → instruction_at (before ++ (entries (i ∷ []) ++ rest)) k ≡ i
instruction_seam before rest k i e =
    rw (
      entry (6 * k) 0 (omega arith),
      entry (6 * k + 1) 1 (omega arith),
      entry (6 * k + 2) 2 (omega arith),
      entry (6 * k + 3) 3 (omega arith),
      entry (6 * k + 4) 4 (omega arith),
      entry (6 * k + 5) 5 (omega arith),
    )
  where
    entry : (at c : ℕ) → at ≡ length before + c → get_or (before ++ (entries (i ∷ []) ++ rest)) at 0 ≡ get_or (entries (i ∷ []) ++ rest) c 0
    entry = entry_past before (entries (i ∷ []) ++ rest)

pub length_entries : (is : List Instruction) → length (entries is) ≡ 6 * length is
length_entries [] = refl
length_entries (i ∷ is) = omega (arith, length_entries is)

-- instructions after the first k rows
pub entries_in : (before after : List ℕ) (k : ℕ) (is : List Instruction) → length before ≡ 6 * k
    → instructions_from (before ++ (entries is ++ after)) k (length is) ≡ is
entries_in before after k [] e = refl
entries_in before after k (i ∷ is) e =
    let row : List ℕ = entries (i ∷ []) in
    let s : before ++ (row ++ (entries is ++ after)) ≡ (before ++ row) ++ (entries is ++ after) = simp append_assoc in
    let e' : length (before ++ row) ≡ 6 * (k + 1) = length-append before row ∙ omega arith in
    rw (instruction_seam before (entries is ++ after) k i e)
    (ap (λ (rest : List Instruction). i ∷ rest)
    (ap (λ (section : List ℕ). instructions_from section (k + 1) (length is)) s ∙ entries_in (before ++ row) after (k + 1) is e'))

pub entries_read_back : (is : List Instruction) (after : List ℕ) → instructions_from (entries is ++ after) 0 (length is) ≡ is
entries_read_back is after = entries_in [] after 0 is refl

pub padded_entries_read_back : (len : ℕ) (is : List Instruction) → instructions_from (padded len (entries is)) 0 (length is) ≡ is
unfolding padded
padded_entries_read_back len is = entries_read_back is _
