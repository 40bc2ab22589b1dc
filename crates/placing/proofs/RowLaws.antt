-- The rows of a node's placed tree are those of its inputs' placed trees, its own row, and a shift where the offset is defined and
-- changes. Rows written one after the other are written as one.
use Prim.Native.Nat.{ℕ, suc, ◌+◌, ◌-◌, ◌*◌, ◌%◌, ◌≤◌, ◌<◌}
use mathlib.Core.Path.{◌≡◌, refl, sym, ap, ◌∙◌}
use mathlib.Core.Bool.{Bool, true, false, cond}
use mathlib.Core.List.{List, [], ◌∷◌, ◌++◌, append-nil}
use native.Mathlib.Nat.{add-zero, add-suc, suc-add}
use native.Mathlib.Omega.{arith}
use lib.Dec.{eqb}
use lib.ListN.{length, set, length-append}
use lib.Seq.{sets}
use Rattle.rules.specs.Limits.{row_entries}
use Rattle.rules.specs.Frames.{shift_kind}
use Rattle.rules.specs.Trees.{Tree, load, shift, tree_at, rows}
use Rattle.rules.specs.Offsets.{offset}
use Rattle.rules.specs.Placing.{shifted, toward}
use Rattle.rules.specs.declared.nodes.LoadAt.{LoadAt}
use Rattle.rules.specs.declared.nodes.Node.{Node}
use Rattle.rules.specs.declared.nodes.Node.TheVariants.{Load, Splat, Op, Shift}
use Rattle.rules.specs.declared.nodes.Offset.{Offset}
use Rattle.rules.specs.declared.nodes.Offset.TheVariants.{At, Undefined}
use Rattle.placing_targets.specs.Rules.{at}
use Rattle.placing.specs.Moves.{goes, meeting_at, moved}
use Rattle.placing.specs.Writing.{row_of, shift_row, Wrote}
use Rattle.graph.specs.Links.{left_in, LinkedAt}
use Rattle.graph_offsets.specs.Judging.{offset_in}
use Rattle.placing.specs.Records.{node_in, moved_offset, moved_rows, Ready}
use Rattle.placing.specs.declared.records.MovedNodes.{MovedNodes}
use Rattle.placing.specs.declared.rows.Writer.{Writer}
use Rattle.graph.proofs.LinkLaws.{linked_node, linked_lower}

-- ---- writing

sets_append : (l : List ℕ) (i : ℕ) (xs ys : List ℕ) → sets (sets l i xs) (i + length xs) ys ≡ sets l i (xs ++ ys)
sets_append l i [] ys = rw (add-zero i)
sets_append l i (x ∷ xs) ys = rw (add-suc i (length xs), ← suc-add i (length xs)) (sets_append (set l i x) (suc i) xs ys)

pub wrote_on : {before between after : Writer} {one two : List ℕ} → Wrote before one between → Wrote between two after → Wrote before (one ++ two) after
wrote_on {before} {between} {after} {one} {two} p q =
    let next : row_entries * between.row ≡ row_entries * before.row + length one = p.free in
    record {
      same_table = q.same_table ∙ p.same_table;
      free = omega (arith, p.free, q.free, length-append one two);
      entries = q.entries ∙ rw (p.entries, next) (sets_append before.table.now (row_entries * before.row) one two);
    }

-- ---- rows

pub rows_goes : (W : ℕ) (to : Offset) (t : Tree) → rows (goes W to t) ≡ rows t ++ shift_row (offset W t) to
unfolding toward
rows_goes W Undefined t = stays (offset W t)
  where
    stays : (here : Offset) → rows t ≡ rows t ++ shift_row here Undefined
    stays Undefined = sym (append-nil (rows t))
    stays (At a) = sym (append-nil (rows t))
rows_goes W (At g) t = sent (offset W t)
  where
    sent : (here : Offset) → rows (shifted here g.0 t) ≡ rows t ++ shift_row here (At g)
    sent Undefined = sym (append-nil (rows t))
    sent (At a) = pick (eqb a.0 g.0)
      where
        pick : (same : Bool) → rows (cond same t (shift a.0 g.0 t)) ≡ rows t ++ cond same [] (shift_kind ∷ a.0 ∷ g.0 ∷ [])
        pick true = sym (append-nil (rows t))
        pick false = refl

pub length_row : (n : Node) → length (row_of n) ≡ 3
length_row (Load a) = refl
length_row (Splat v) = refl
length_row (Op o) = refl
length_row (Shift s) = refl

module _ (W : ℕ) (sheet : MovedNodes) where
  abbrev node : ℕ → Node
  node = node_in sheet.records

  abbrev left : ℕ → ℕ
  left = left_in sheet.lefts

  abbrev here : ℕ → Offset
  here = offset_in sheet.records

  pub ready_lower : (n k : ℕ) → k ≤ n → Ready W sheet n → Ready W sheet k
  ready_lower n k h r =
      record {
        most = omega (arith, r.most);
        linked = linked_lower node left n k h r.linked;
        bare = λ j p. r.bare j (omega arith);
        known = λ j p. r.known j (omega arith);
      }

  -- where the inputs of an op go
  abbrev meets : ℕ → Offset
  meets k = meeting_at sheet.moves.meeting.0 (here (left k)) (here (k - 1))

  module _ (k : ℕ) (r : Ready W sheet (k + 1)) where
    linked_is : (n : Node) → node k ≡ n → LinkedAt node left k n
    linked_is n e = linked_node node left k r.linked n e

    -- the rows of a node's placed tree, before it is sent anywhere
    abbrev pub own : List ℕ
    own = rows (moved W sheet.moves (tree_at node k))

    -- the shift over them goes by the offset in the node's record
    pub sent_rows : (to : Offset) → moved_rows W sheet k to ≡ own ++ shift_row (here k) to
    sent_rows to = rows_goes W to (moved W sheet.moves (tree_at node k)) ∙ rw (r.known k (omega arith))

    pub sent_length : (to : Offset) → length (moved_rows W sheet k to) ≡ length own + length (shift_row (here k) to)
    sent_length to = ap length (sent_rows to) ∙ length-append own (shift_row (here k) to)

    pub load_rows : (a : LoadAt) → node k ≡ Load a → own ≡ row_of (Load a) ++ shift_row (at (a.address.0 % W)) sheet.moves.loads
    unfolding moved
    load_rows a e = rw (linked_is (Load a) e) (rows_goes W sheet.moves.loads (load a.window a.address.0))

    pub load_length : (a : LoadAt) → node k ≡ Load a → length own ≡ 3 + length (shift_row (at (a.address.0 % W)) sheet.moves.loads)
    load_length a e = ap length (load_rows a e) ∙ length-append (row_of (Load a)) (shift_row (at (a.address.0 % W)) sheet.moves.loads)

    pub splat_rows : (v : ℕ) → node k ≡ Splat v → own ≡ row_of (node k)
    unfolding moved
    splat_rows v e = rw (linked_is (Splat v) e, e)

    pub input_below : (o : ℕ) → node k ≡ Op o → left k < k
    input_below o e = (linked_is (Op o) e).0

    -- the inputs' rows come before an op's own
    abbrev inputs : (meet : Offset) → List ℕ
    inputs meet = moved_rows W sheet (left k) meet ++ moved_rows W sheet (k - 1) meet

    pub op_rows : (o : ℕ) → node k ≡ Op o → (meet : Offset) → meet ≡ meets k → own ≡ inputs meet ++ row_of (node k)
    unfolding moved
    op_rows o e meet q =
        let below : left k < k = input_below o e in
        let meets : meet ≡ meeting_at sheet.moves.meeting.0 (moved_offset W sheet.moves node (left k)) (moved_offset W sheet.moves node (k - 1)) =
        q ∙ rw (r.known (left k) (omega arith), r.known (k - 1) (omega arith)) in
        rw ((linked_is (Op o) e).1, ← meets, e)

    pub op_length : (o : ℕ) → node k ≡ Op o → (meet : Offset) → meet ≡ meets k
        → length own ≡ length (moved_rows W sheet (left k) meet) + length (moved_rows W sheet (k - 1) meet) + 3
    op_length o e meet q =
        ap length (op_rows o e meet q)
        ∙ length-append (inputs meet) (row_of (node k))
        ∙ omega (arith, length-append (moved_rows W sheet (left k) meet) (moved_rows W sheet (k - 1) meet), length_row (node k))

pub ruleset writing = (wrote_on, ready_lower, sent_rows, sent_length, load_rows, load_length, splat_rows, input_below, op_rows, op_length, length_row)
