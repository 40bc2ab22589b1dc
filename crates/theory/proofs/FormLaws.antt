-- "Checked by 3 and 4 as if read": a graph passes exactly where its header and every row are in range, enough wait for each row,
-- there is no 65th node, and one waits at the end; its tree is then what waits. Stands on RowLaws.
use Prim.Native.Nat.{ℕ, zero, suc, ◌+◌, ◌-◌, ◌*◌, ◌≤◌, ◌<◌, min}
use mathlib.Core.Path.{◌≡◌, refl, sym, ◌∙◌}
use mathlib.Core.Bool.{Bool, true, false, ◌||◌, false≢true}
use mathlib.Core.Logic.{⊎_elim}
use mathlib.Core.List.{List, [], ◌∷◌, ◌++◌, append_assoc}
use native.Mathlib.Nat.{eq-or-lt_of_le, le_of_suc-le-suc}
use native.Mathlib.Numerals.{add-one}
use native.Mathlib.Omega.{arith}
use lib.ListN.{length, get_or, length-append}
use borrow.Author.Tests.{le-ltb, ltb-false, not-false, eqb-true}
use Rattle.rules.specs.Limits.{nodes_most}
use Rattle.rules.specs.Answers.{Answer, DONE, at, done, refuse_if, first, each, or_else}
use Rattle.rules.specs.Frames.{load_kind, splat_kind, op_kind, shift_kind}
use Rattle.rules.specs.Ranges.{head_ok, row_ok, takes}
use Rattle.rules.specs.Trees.{Tree, load, splat, op, shift, cell, node_of, node_at, push, waiting, top, tree_at, tree_of, rows, count}
use Rattle.rules.specs.declared.nodes.Node.{Node}
use Rattle.rules.specs.declared.nodes.Node.TheVariants.{Load, Splat, Op, Shift}
use Rattle.rules.specs.Tables.{Graph, with_tree}
use Rattle.rules.specs.Checks.{waits, line, store_line, head_check, range_check, takes_check, row_check, end_check, form_check}
use Rattle.theory.proofs.RowLaws.{length_rows, cell_front, cell_seam, waits_front, length_waiting}

-- ---- the first rows of a table

-- the first k rows: their fields are in their ranges, enough wait for each, and so many wait after them
pub record Rows (W D k now : ℕ) (nodes : List ℕ) : Type 0 where
  pub in_range : (j : ℕ) → j < k → row_ok W D (cell nodes j 0) (cell nodes j 1) (cell nodes j 2) ≡ true
  pub enough : (j : ℕ) → j < k → takes (cell nodes j 0) ≤ waits nodes j
  pub now_wait : waits nodes k ≡ now

pub rows_none : (W D : ℕ) (nodes : List ℕ) → Rows W D 0 0 nodes
unfolding waits
rows_none W D nodes = record { in_range = λ j h. absurd (omega arith); enough = λ j h. absurd (omega arith); now_wait = refl }

-- where one waits there is a row
pub some_row : (W D k : ℕ) (nodes : List ℕ) → Rows W D k 1 nodes → 1 ≤ k
unfolding waits
some_row W D zero nodes r = absurd (omega (arith, r.now_wait))
some_row W D (suc k) nodes r = omega arith

-- they hang on their own entries alone
pub rows_front : (W D k now : ℕ) (nodes rest : List ℕ) → length nodes ≡ 3 * k → Rows W D k now nodes → Rows W D k now (nodes ++ rest)
rows_front W D k now nodes rest e r =
    record {
      in_range = λ j h. rw (front j 0 h (omega arith), front j 1 h (omega arith), front j 2 h (omega arith)) (r.in_range j h);
      enough = λ j h. rw (front j 0 h (omega arith), waits_front nodes rest k j e (omega arith)) (r.enough j h);
      now_wait = waits_front nodes rest k k e (omega arith) ∙ r.now_wait;
    }
  where
    front : (j c : ℕ) → j < k → c < 3 → cell (nodes ++ rest) j c ≡ cell nodes j c
    front j c h b = cell_front nodes rest k j c e h b

below_suc : (P : ℕ → Type 0) (k : ℕ) → ((j : ℕ) → j < k → P j) → P k → (j : ℕ) → j < k + 1 → P j
below_suc P k below here j h = ⊎_elim (λ (e : j ≡ k). rw e here) (below j) (eq-or-lt_of_le (le_of_suc-le-suc (rw add-one at h)))

-- a row more
pub rows_next : (W D k now kind x y : ℕ) (nodes : List ℕ) → length nodes ≡ 3 * k → Rows W D k now nodes
    → row_ok W D kind x y ≡ true → takes kind ≤ now → Rows W D (k + 1) (now - takes kind + 1) (nodes ++ kind ∷ x ∷ y ∷ [])
unfolding waits
rows_next W D k now kind x y nodes e r ok fits =
    let row : List ℕ = kind ∷ x ∷ y ∷ [] in
    let all : List ℕ = nodes ++ row in
    let r' : Rows W D k now all = rows_front W D k now nodes row e r in
    record {
      in_range = below_suc (λ (j : ℕ). row_ok W D (cell all j 0) (cell all j 1) (cell all j 2) ≡ true) k r'.in_range
          (rw (cell_seam nodes row k 0 e, cell_seam nodes row k 1 e, cell_seam nodes row k 2 e) ok);
      enough = below_suc (λ (j : ℕ). takes (cell all j 0) ≤ waits all j) k r'.enough (rw (cell_seam nodes row k 0 e, r'.now_wait) fits);
      now_wait = rw (add-one k, cell_seam nodes row k 0 e, r'.now_wait);
    }

-- ---- the checks

-- what a graph that passes has
pub record Formed (W : ℕ) (g : Graph) : Type 0 where
  pub head : head_ok g.D g.n g.S ≡ true
  pub most : g.N ≤ nodes_most
  pub rows : Rows W g.D g.N 1 g.nodes

-- checks that are done leave the answer to those after them
pub first_each : (check : ℕ → Answer) (k : ℕ) (later : List Answer) → ((j : ℕ) → j < k → check j ≡ done)
    → first (each check k ++ later) ≡ first later
unfolding first
first_each check zero later h = refl
first_each check (suc k) later h =
    rw (
      append_assoc (each check k) (check k ∷ []) later,
      first_each check k (check k ∷ later) (λ j l. h j (omega arith)),
      h k (omega arith),
    )

pub formed_passes : (W : ℕ) (g : Graph) → Formed W g → form_check W g ≡ done
unfolding form_check first
formed_passes W g f =
    rw (
      f.head,
      first_each (row_check W g) (min g.N nodes_most) (end_check g ∷ []) (λ j h. row j (omega arith)),
      le-ltb nodes_most g.N f.most,
      f.rows.now_wait,
    )
  where
    row : (j : ℕ) → j < g.N → row_check W g j ≡ done
    row j h = rw (f.rows.in_range j h, le-ltb (waits g.nodes j) (takes (cell g.nodes j 0)) (f.rows.enough j h))

-- a list of checks that is done: each of them is
pub first_done : (answer : Answer) (later : List Answer) → (first (answer ∷ later)).number ≡ DONE
    → (answer.number ≡ DONE) × ((first later).number ≡ DONE)
unfolding first
first_done answer later = go answer.number refl
  where
    go : (number : ℕ) → answer.number ≡ number → (or_else number answer (first later)).number ≡ DONE
        → (answer.number ≡ DONE) × ((first later).number ≡ DONE)
    go zero e h = (e, h)
    go (suc number) e h = absurd (omega arith)

-- the checks of a call that answers done, by their place in its list
pub each_check_done : (checks : List Answer) → (first checks).number ≡ DONE → (k : ℕ) → (get_or checks k done).number ≡ DONE
each_check_done [] h k = refl
each_check_done (answer ∷ later) h zero = (first_done answer later h).0
each_check_done (answer ∷ later) h (suc k) = each_check_done later (first_done answer later h).1 k

-- an answer whose number is 0 is done
pub first_is_done : (l : List Answer) → (first l).number ≡ DONE → first l ≡ done
unfolding first
first_is_done [] h = refl
first_is_done (answer ∷ later) h = go answer.number refl (first_is_done later) h
  where
    go : (number : ℕ) → answer.number ≡ number → ((first later).number ≡ DONE → first later ≡ done)
        → (or_else number answer (first later)).number ≡ DONE → or_else number answer (first later) ≡ done
    go zero e ih h = ih h
    go (suc number) e ih h = absurd (omega arith)

-- checks that find nothing wherever those before them found nothing add no answer
pub first_skip : (before later : List Answer) → ((first before).number ≡ DONE → first later ≡ done) → first (before ++ later) ≡ first before
unfolding first
first_skip [] later h = h refl
first_skip (answer ∷ before) later h = go answer.number (first_skip before later) h
  where
    go : (number : ℕ) → (((first before).number ≡ DONE → first later ≡ done) → first (before ++ later) ≡ first before)
        → ((or_else number answer (first before)).number ≡ DONE → first later ≡ done)
        → or_else number answer (first (before ++ later)) ≡ or_else number answer (first before)
    go zero ih h = ih h
    go (suc number) ih h = refl

pub each_done : (check : ℕ → Answer) (k : ℕ) (later : List Answer) → (first (each check k ++ later)).number ≡ DONE
    → ((j : ℕ) → j < k → (check j).number ≡ DONE) × ((first later).number ≡ DONE)
each_done check zero later h = ((λ j l. absurd (omega arith)), h)
each_done check (suc k) later h =
    let before : ((j : ℕ) → j < k → (check j).number ≡ DONE) × ((first (check k ∷ later)).number ≡ DONE) =
    each_done check k (check k ∷ later) (rw (append_assoc (each check k) (check k ∷ []) later) at h) in
    let here = first_done (check k) later before.1 in
    (rw (← (add-one k)) (below_suc (λ (j : ℕ). (check j).number ≡ DONE) k before.0 here.0), here.1)

pub refuse_done : (wrong : Bool) (number place : ℕ) → (refuse_if wrong (at (suc number) place)).number ≡ DONE → wrong ≡ false
refuse_done true number place h = absurd (omega arith)
refuse_done false number place h = refl

pub neither : (a b : Bool) → a || b ≡ false → (a ≡ false) × (b ≡ false)
neither true b e = (e, absurd (false≢true (sym e)))
neither false b e = (refl, e)

pub passes_formed : (W : ℕ) (g : Graph) → (form_check W g).number ≡ DONE → Formed W g
unfolding form_check
passes_formed W g h =
    let whole = first_done (head_check g) (each (row_check W g) (min g.N nodes_most) ++ end_check g ∷ []) h in
    let parts = each_done (row_check W g) (min g.N nodes_most) (end_check g ∷ []) whole.1 in
    let end = neither _ _ (refuse_done _ 3 _ (first_done (end_check g) [] parts.1).0) in
    let most : g.N ≤ nodes_most = ltb-false nodes_most g.N end.0 in
    record {
      head = not-false _ (refuse_done _ 2 store_line whole.0);
      most = most;
      rows =
          record {
            in_range = λ j l. not-false _ (refuse_done _ 2 (line j) (row j (parts.0 j (omega arith))).0);
            enough = λ j l. ltb-false _ _ (refuse_done _ 3 (line j) (row j (parts.0 j (omega arith))).1);
            now_wait = eqb-true _ 1 (not-false _ end.1);
          };
    }
  where
    row : (j : ℕ) → (row_check W g j).number ≡ DONE → ((range_check W g j).number ≡ DONE) × ((takes_check g j).number ≡ DONE)
    row j e =
        let both = first_done (range_check W g j) (takes_check g j ∷ []) e in
        (both.0, (first_done (takes_check g j) [] both.1).0)

-- ---- its tree

one_is_top : (ts : List Tree) → length ts ≡ 1 → ts ≡ top ts ∷ []
one_is_top [] e = absurd (omega arith)
one_is_top (t ∷ []) e = refl
one_is_top (t ∷ u ∷ ts) e = absurd (omega arith)

-- "At the end exactly one waits": the tree
pub formed_one_waits : (W : ℕ) (g : Graph) → Formed W g → waiting (node_at g.nodes) g.N ≡ tree_of g.nodes g.N ∷ []
unfolding tree_of
formed_one_waits W g f =
    one_is_top (waiting (node_at g.nodes) g.N)
    (length_waiting W g.D g.nodes g.N f.rows.enough f.rows.in_range ∙ f.rows.now_wait)

-- what holds of every node of a tree
abbrev pub Everywhere : (Tree → Type 0) → Tree → Type 0
Everywhere P (load w a) = P (load w a)
Everywhere P (splat v) = P (splat v)
Everywhere P (op o l r) = P (op o l r) × Everywhere P l × Everywhere P r
Everywhere P (shift f g t) = P (shift f g t) × Everywhere P t

module _ (P : Tree → Type 0) where
  abbrev pub Everyone : List Tree → Type 0
  Everyone [] = Unit {0}
  Everyone (t ∷ ts) = Everywhere P t × Everyone ts

  push_everyone : (node : Node) (ts : List Tree) → P (top (push node ts)) → Everyone ts → Everyone (push node ts)
  push_everyone (Load a) ts p h = (p, h)
  push_everyone (Splat v) ts p h = (p, h)
  push_everyone (Op o) [] p h = tt
  push_everyone (Op o) (r ∷ []) p h = tt
  push_everyone (Op o) (r ∷ l ∷ ts) p h = ((p, h.1.0, h.0), h.1.1)
  push_everyone (Shift s) [] p h = tt
  push_everyone (Shift s) (c ∷ ts) p h = ((p, h.0), h.1)

  waiting_everyone : (node : ℕ → Node) (k : ℕ) → ((j : ℕ) → j < k → P (tree_at node j)) → Everyone (waiting node k)
  unfolding waiting tree_at
  waiting_everyone node zero h = tt
  waiting_everyone node (suc k) h =
      push_everyone (node k) (waiting node k) (h k (omega arith)) (waiting_everyone node k (λ j l. h j (omega arith)))

  -- what holds of the node of every row holds everywhere in the tree
  pub formed_everywhere : (W : ℕ) (g : Graph) → Formed W g → ((k : ℕ) → k < g.N → P (tree_at (node_at g.nodes) k))
      → Everywhere P (tree_of g.nodes g.N)
  formed_everywhere W g f h = (rw (formed_one_waits W g f) at (waiting_everyone (node_at g.nodes) g.N h)).0

-- a node's fields are in their ranges
abbrev pub NodeOk : (W D : ℕ) → Tree → Type 0
NodeOk W D (load w a) = row_ok W D load_kind w a ≡ true
NodeOk W D (splat v) = row_ok W D splat_kind v 0 ≡ true
NodeOk W D (op o l r) = row_ok W D op_kind o 0 ≡ true
NodeOk W D (shift f g t) = row_ok W D shift_kind f g ≡ true

abbrev pub TreeOk : (W D : ℕ) → Tree → Type 0
TreeOk W D t = Everywhere (NodeOk W D) t

-- the tree at a row, by the row's kind, where enough wait
row_is : (P : Tree → Type 0) (kind x y : ℕ) (ts : List Tree) (W D : ℕ) → row_ok W D kind x y ≡ true → takes kind ≤ length ts
    → (kind ≡ load_kind → P (load x y)) → (kind ≡ splat_kind → P (splat x)) → (kind ≡ op_kind → (l r : Tree) → P (op x l r))
    → (kind ≡ shift_kind → (c : Tree) → P (shift x y c)) → P (top (push (node_of kind x y) ts))
unfolding row_ok takes
row_is P zero x y ts W D o e a b c d = absurd (false≢true o)
row_is P (suc zero) x y ts W D o e a b c d = a refl
row_is P (suc (suc zero)) x y ts W D o e a b c d = b refl
row_is P (suc (suc (suc zero))) x y [] W D o e a b c d = absurd (omega arith)
row_is P (suc (suc (suc zero))) x y (r ∷ []) W D o e a b c d = absurd (omega arith)
row_is P (suc (suc (suc zero))) x y (r ∷ l ∷ ts) W D o e a b c d = c refl l r
row_is P (suc (suc (suc (suc zero)))) x y [] W D o e a b c d = absurd (omega arith)
row_is P (suc (suc (suc (suc zero)))) x y (t ∷ ts) W D o e a b c d = d refl t
row_is P (suc (suc (suc (suc (suc k))))) x y ts W D o e a b c d = absurd (false≢true o)

module _ (W : ℕ) (g : Graph) (f : Formed W g) where
  pub tree_is : (P : Tree → Type 0) (k : ℕ) → k < g.N
      → (cell g.nodes k 0 ≡ load_kind → P (load (cell g.nodes k 1) (cell g.nodes k 2)))
      → (cell g.nodes k 0 ≡ splat_kind → P (splat (cell g.nodes k 1)))
      → (cell g.nodes k 0 ≡ op_kind → (l r : Tree) → P (op (cell g.nodes k 1) l r))
      → (cell g.nodes k 0 ≡ shift_kind → (c : Tree) → P (shift (cell g.nodes k 1) (cell g.nodes k 2) c))
      → P (tree_at (node_at g.nodes) k)
  unfolding tree_at waiting node_at
  tree_is P k h =
      row_is P (cell g.nodes k 0) (cell g.nodes k 1) (cell g.nodes k 2) _ W g.D (f.rows.in_range k h)
      (rw (length_waiting W g.D g.nodes k (λ j l. f.rows.enough j (omega arith)) (λ j l. f.rows.in_range j (omega arith)))
      (f.rows.enough k h))

  -- the tree of a graph that passes
  pub formed_tree_ok : TreeOk W g.D (tree_of g.nodes g.N)
  unfolding row_ok
  formed_tree_ok = formed_everywhere (NodeOk W g.D) W g f (λ k h.
      let o = f.rows.in_range k h in
      tree_is (NodeOk W g.D) k h (λ e. rw e at o) (λ e. rw e at o) (λ e l r. rw e at o) (λ e c. rw e at o))

-- ---- its number of nodes

abbrev counts : List Tree → ℕ
counts [] = 0
counts (t ∷ ts) = count t + counts ts

push_counts : (kind x y : ℕ) (ts : List Tree) (W D : ℕ) → row_ok W D kind x y ≡ true → takes kind ≤ length ts
    → counts (push (node_of kind x y) ts) ≡ counts ts + 1
unfolding row_ok takes
push_counts zero x y ts W D o e = absurd (false≢true o)
push_counts (suc zero) x y ts W D o e = omega arith
push_counts (suc (suc zero)) x y ts W D o e = omega arith
push_counts (suc (suc (suc zero))) x y [] W D o e = absurd (omega arith)
push_counts (suc (suc (suc zero))) x y (r ∷ []) W D o e = absurd (omega arith)
push_counts (suc (suc (suc zero))) x y (r ∷ l ∷ ts) W D o e = omega arith
push_counts (suc (suc (suc (suc zero)))) x y [] W D o e = absurd (omega arith)
push_counts (suc (suc (suc (suc zero)))) x y (t ∷ ts) W D o e = omega arith
push_counts (suc (suc (suc (suc (suc k))))) x y ts W D o e = absurd (false≢true o)

waiting_counts : (W D : ℕ) (nodes : List ℕ) (k : ℕ) → ((j : ℕ) → j < k → takes (cell nodes j 0) ≤ waits nodes j)
    → ((j : ℕ) → j < k → row_ok W D (cell nodes j 0) (cell nodes j 1) (cell nodes j 2) ≡ true) → counts (waiting (node_at nodes) k) ≡ k
unfolding waiting node_at
waiting_counts W D nodes zero e o = refl
waiting_counts W D nodes (suc k) e o =
    let e' : (j : ℕ) → j < k → takes (cell nodes j 0) ≤ waits nodes j = λ j l. e j (omega arith) in
    let o' : (j : ℕ) → j < k → row_ok W D (cell nodes j 0) (cell nodes j 1) (cell nodes j 2) ≡ true = λ j l. o j (omega arith) in
    push_counts (cell nodes k 0) (cell nodes k 1) (cell nodes k 2) (waiting (node_at nodes) k) W D (o k (omega arith))
    (rw (length_waiting W D nodes k e' o') (e k (omega arith)))
    ∙ omega (arith, waiting_counts W D nodes k e' o')

-- the tree of a graph that passes has a node for each row
pub formed_count : (W : ℕ) (g : Graph) → Formed W g → count (tree_of g.nodes g.N) ≡ g.N
formed_count W g f =
    let e : counts (tree_of g.nodes g.N ∷ []) ≡ g.N =
    rw (formed_one_waits W g f) at (waiting_counts W g.D g.nodes g.N f.rows.enough f.rows.in_range) in
    omega (arith, e)

-- ---- and back: the rows of a tree make a graph that passes

rows_as : (W D : ℕ) {k k' now now' : ℕ} {nodes nodes' : List ℕ} → k ≡ k' → now ≡ now' → nodes ≡ nodes'
    → Rows W D k now nodes → Rows W D k' now' nodes'
rows_as W D p q s r = rw (p, q, s) at r

-- a tree's rows after others: one more waits
rows_tree : (W D k now : ℕ) (nodes : List ℕ) (t : Tree) → length nodes ≡ 3 * k → Rows W D k now nodes → TreeOk W D t
    → Rows W D (k + count t) (now + 1) (nodes ++ rows t)
unfolding takes
rows_tree W D k now nodes (load w a) e r o =
    rows_as W D refl (omega arith) refl (rows_next W D k now load_kind w a nodes e r o (omega arith))
rows_tree W D k now nodes (splat v) e r o =
    rows_as W D refl (omega arith) refl (rows_next W D k now splat_kind v 0 nodes e r o (omega arith))
rows_tree W D k now nodes (op p l r) e h o =
    let n₁ : List ℕ = nodes ++ rows l in
    let n₂ : List ℕ = n₁ ++ rows r in
    let e₁ : length n₁ ≡ 3 * (k + count l) = length-append nodes (rows l) ∙ omega (arith, length_rows l) in
    let e₂ : length n₂ ≡ 3 * (k + count l + count r) = length-append n₁ (rows r) ∙ omega (arith, length_rows r) in
    let h₁ = rows_tree W D k now nodes l e h o.1 in
    let h₂ = rows_tree W D (k + count l) (now + 1) n₁ r e₁ h₁ o.2 in
    rows_as W D (omega arith) (omega arith) (simp append_assoc)
    (rows_next W D (k + count l + count r) (now + 1 + 1) op_kind p 0 n₂ e₂ h₂ o.0 (omega arith))
rows_tree W D k now nodes (shift f g t) e h o =
    let n₁ : List ℕ = nodes ++ rows t in
    let e₁ : length n₁ ≡ 3 * (k + count t) = length-append nodes (rows t) ∙ omega (arith, length_rows t) in
    let h₁ = rows_tree W D k now nodes t e h o.1 in
    rows_as W D (omega arith) (omega arith) (simp append_assoc)
    (rows_next W D (k + count t) (now + 1) shift_kind f g n₁ e₁ h₁ o.0 (omega arith))

pub tree_formed : (W : ℕ) (g : Graph) (t : Tree) → head_ok g.D g.n g.S ≡ true → TreeOk W g.D t → count t ≤ nodes_most
    → Formed W (with_tree g t)
tree_formed W g t h o m =
    record {
      head = h;
      most = m;
      rows = rows_as W g.D (omega arith) refl refl (rows_tree W g.D 0 0 [] t refl (rows_none W g.D []) o);
    }
