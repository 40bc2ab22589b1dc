-- The record of a node is made of its inputs' records, since its tree is made of their trees; and records that agree with a table
-- carry the same trees, so what is linked in the table is linked in the records.
use Prim.Native.Nat.{ℕ, zero, suc, ◌+◌, ◌-◌, ◌%◌, ◌<◌, ◌≤◌}
use mathlib.Core.Path.{◌≡◌, refl, sym, ap, ap₂, ◌∙◌}
use mathlib.Core.List.{List}
use native.Mathlib.Omega.{arith}
use borrow.Author.Count.{below_more}
use lib.ListN.{length, get_or, set}
use lib.Seq.{get_or-set_same, get_or-set_other}
use Rattle.rules.specs.Limits.{nodes_most}
use Rattle.rules.specs.Trees.{Tree, op, shift, node_at, top, waiting, tree_at}
use Rattle.rules.specs.Offsets.{join, offset}
use Rattle.rules.specs.declared.nodes.LoadAt.{LoadAt}
use Rattle.rules.specs.declared.nodes.ShiftBy.{ShiftBy}
use Rattle.rules.specs.declared.nodes.Node.{Node}
use Rattle.rules.specs.declared.nodes.Node.TheVariants.{Load, Splat, Op, Shift}
use Rattle.rules.specs.declared.nodes.Offset.{Offset}
use Rattle.rules.specs.declared.nodes.Offset.TheVariants.{At, Undefined}
use Rattle.rules.specs.declared.nodes.NodeRecord.{NodeRecord}
use Rattle.graph.specs.Links.{left_in, Linked, LinkedAt}
use Rattle.graph.proofs.LinkLaws.{linked_node, linked_lower}
use Rattle.placing_targets.specs.declared.Moves.{Moves}
use Rattle.placing_targets.specs.Rules.{at}
use Rattle.placing.specs.Moves.{op_offset, moved}
use Rattle.graph_offsets.specs.Judging.{no_record, offset_in}
use Rattle.placing.specs.Records.{node_in, moved_offset, record_of, Recorded, NoShift, Ready}
use Rattle.placing.specs.declared.records.MovedNodes.{MovedNodes}
use Rattle.placing.proofs.MoveLaws.{load_offset, op_offset_lem}

-- ---- one node and its inputs

pub record_is : (W : ℕ) (m : Moves) (nodes : List ℕ) (k : ℕ) (n : Node) (o : Offset) → n ≡ node_at nodes k → o ≡ moved_offset W m (node_at nodes) k
    → record { node = n; offset = o } ≡ record_of W m nodes k
record_is W m nodes k n o p q = rw (p, q)

module _ (W : ℕ) (sheet : MovedNodes) (nodes : List ℕ) (k : ℕ) (l : Linked (node_at nodes) (left_in sheet.lefts) (k + 1)) where
  abbrev m : Moves
  m = sheet.moves

  abbrev left : ℕ
  left = left_in sheet.lefts k

  linked_is : (n : Node) → n ≡ node_at nodes k → LinkedAt (node_at nodes) (left_in sheet.lefts) k n
  linked_is n e = linked_node (node_at nodes) (left_in sheet.lefts) k l n (sym e)

  pub load_record : (a : LoadAt) → Load a ≡ node_at nodes k → (o : Offset) → o ≡ join m.loads (at (a.address.0 % W))
      → record { node = Load a; offset = o } ≡ record_of W m nodes k
  load_record a e o p = record_is W m nodes k _ o e (p ∙ rw (linked_is (Load a) e) (sym (load_offset W m a.window a.address.0)))

  pub splat_record : (v : ℕ) → Splat v ≡ node_at nodes k → record { node = Splat v; offset = Undefined } ≡ record_of W m nodes k
  unfolding moved
  splat_record v e = record_is W m nodes k _ _ e (rw (linked_is (Splat v) e))

  pub shift_record : (s : ShiftBy) → Shift s ≡ node_at nodes k → record { node = Shift s; offset = At s.to } ≡ record_of W m nodes k
  unfolding moved
  shift_record s e = record_is W m nodes k _ _ e (rw (linked_is (Shift s) e).1)

  pub op_below : (o : ℕ) → Op o ≡ node_at nodes k → left < k
  op_below o e = (linked_is (Op o) e).0

  pub op_record : (o : ℕ) → Op o ≡ node_at nodes k → Recorded W sheet nodes k → (x : Offset)
      → x ≡ op_offset m.meeting.0 (offset_in sheet.records left) (offset_in sheet.records (k - 1))
      → record { node = Op o; offset = x } ≡ record_of W m nodes k
  unfolding Recorded
  op_record o e h x p =
      let below : left < k = op_below o e in
      let stands : (j : ℕ) → j < k → offset_in sheet.records j ≡ moved_offset W m (node_at nodes) j =
      λ j q. ap (λ (r : NodeRecord). r.offset) (h j q) in
      record_is W m nodes k _ x e
      (p ∙ rw (linked_is (Op o) e).1 (sym (op_offset_lem W m o _ _ _ _ (stands left below) (stands (k - 1) (omega arith)))))

pub ruleset recording = (load_record, splat_record, shift_record, op_below, op_record)

-- ---- the records of a table

pub recorded_none : (W : ℕ) (sheet : MovedNodes) (nodes : List ℕ) → Recorded W sheet nodes 0
unfolding Recorded
recorded_none W sheet nodes k h = absurd (omega arith)

pub recorded_next : (W : ℕ) (sheet : MovedNodes) (nodes : List ℕ) (k : ℕ) (r : NodeRecord) → k < length sheet.records
    → Recorded W sheet nodes k → r ≡ record_of W sheet.moves nodes k
    → Recorded W (record sheet { records = set sheet.records k r }) nodes (k + 1)
unfolding Recorded
recorded_next W sheet nodes k r inside h e =
    below_more (λ (j : ℕ). get_or (set sheet.records k r) j no_record ≡ record_of W sheet.moves nodes j) k
    (λ j p. get_or-set_other sheet.records k j r no_record (λ q. absurd (omega arith)) ∙ h j p)
    (get_or-set_same sheet.records k r no_record inside ∙ e)

pub ruleset all_recorded = (recorded_none, recorded_next, linked_lower)

-- ---- ready to be written

-- what waits hangs on the nodes before
waiting_same : (node other : ℕ → Node) (k : ℕ) → ((j : ℕ) → j < k → node j ≡ other j) → waiting node k ≡ waiting other k
unfolding waiting
waiting_same node other zero h = refl
waiting_same node other (suc k) h = rw (h k (omega arith), waiting_same node other k (λ j p. h j (omega arith)))

tree_same : (node other : ℕ → Node) (k : ℕ) → ((j : ℕ) → j < k + 1 → node j ≡ other j) → tree_at node k ≡ tree_at other k
unfolding tree_at
tree_same node other k h = ap top (waiting_same node other (suc k) (λ j p. h j (omega arith)))

module _ (W : ℕ) (sheet : MovedNodes) (nodes : List ℕ) (n : ℕ) (h : Recorded W sheet nodes n) where
  abbrev node : ℕ → Node
  node = node_in sheet.records

  abbrev input : ℕ → ℕ
  input = left_in sheet.lefts

  same_node : (k : ℕ) → k < n → node k ≡ node_at nodes k
  unfolding Recorded
  same_node k p = ap (λ (r : NodeRecord). r.node) (h k p)

  pub same_tree : (k : ℕ) → k < n → tree_at node k ≡ tree_at (node_at nodes) k
  same_tree k p = tree_same node (node_at nodes) k (λ j q. same_node j (omega arith))

  linked_too : (k : ℕ) → k < n → (here : Node) → LinkedAt (node_at nodes) input k here → LinkedAt node input k here
  linked_too k p (Load a) l = same_tree k p ∙ l
  linked_too k p (Splat v) l = same_tree k p ∙ l
  linked_too k p (Op o) l =
      let below : input k < k = l.0 in
      (below, same_tree k p ∙ l.1 ∙ ap₂ (op o) (sym (same_tree (input k) (omega arith))) (sym (same_tree (k - 1) (omega arith))))
  linked_too k p (Shift s) l =
      (l.0, same_tree k p ∙ l.1 ∙ ap (shift s.«from».0 s.to.0) (sym (same_tree (k - 1) (omega arith))))

  pub recorded_ready : n ≤ nodes_most → Linked (node_at nodes) input n → ((k : ℕ) → k < n → NoShift (node_at nodes k)) → Ready W sheet n
  unfolding Linked Recorded
  recorded_ready m l b =
      record {
        most = m;
        linked = λ k p. rw (same_node k p) (linked_too k p (node_at nodes k) (l k p));
        bare = λ k p. rw (same_node k p) (b k p);
        known = λ k p.
            ap (λ (r : NodeRecord). r.offset) (h k p) ∙ sym (ap (λ (t : Tree). offset W (moved W sheet.moves t)) (same_tree k p));
      }
