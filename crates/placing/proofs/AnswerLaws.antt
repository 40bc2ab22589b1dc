-- What the whole call gives and leaves, by its answer; and what done says of the sheet and of the tables lent.
use Prim.Native.Nat.{ℕ, ◌*◌, ◌≤◌}
use mathlib.Core.Path.{◌≡◌, refl, sym, ap}
use mathlib.Core.Bool.{Bool, ◌||◌}
use mathlib.Core.List.{List, []}
use borrow.Author.Tests.{ltb-false}
use lib.ListN.{length}
use Rattle.std.specs.Prelude.{Ok, Err}
use Rattle.rules.specs.Limits.{vector_bytes, nodes_most, head_entries, row_entries}
use Rattle.rules.specs.Answers.{Answer, DONE, ROOM, at, done, of_refusal}
use Rattle.rules.specs.Tables.{Graph, graph_of, head_of, padded, table_left}
use Rattle.rules.specs.Checks.{head_short, nodes_short}
use Rattle.rules.specs.Calls.{place_answer, placed_graph, placing}
use Rattle.rules.specs.declared.answers.Refusal.{Refusal}
use Rattle.rules.specs.declared.answers.Refusal.TheVariants.{Room, Line, Range, Shape, Bare, Window, Align, Bounds, Carry, Offset, Long, Out, Fault}
use Rattle.theory.proofs.FormLaws.{passes_formed, each_check_done, refuse_done, neither}
use Rattle.placing.specs.Handing.{BareSheet, sheet_given}

-- every refusal but ROOM leaves a table all zero
cleared : (r : Refusal) → (r ≡ Room → ⊥) → (before made : List ℕ) → table_left (of_refusal r).number before made ≡ padded (length before) []
cleared Room other before made = absurd (other refl)
cleared (Line k) other before made = refl
cleared (Range k) other before made = refl
cleared (Shape k) other before made = refl
cleared (Bare k) other before made = refl
cleared (Window k) other before made = refl
cleared (Align k) other before made = refl
cleared (Bounds k) other before made = refl
cleared (Carry k) other before made = refl
cleared (Offset k) other before made = refl
cleared Long other before made = refl
cleared (Out k) other before made = refl
cleared (Fault k) other before made = refl

module _ (rule : ℕ) (head nodes placed_head placed_nodes : List ℕ) where
  abbrev found : Answer
  found = place_answer vector_bytes rule head nodes placed_head placed_nodes

  -- what done says of the sheet and of the tables lent
  pub record Accepted : Type 0 where
    pub sheet : BareSheet (graph_of head nodes)
    pub head_room : head_entries ≤ length placed_head
    pub nodes_room : row_entries * nodes_most ≤ length placed_nodes

  pub done_accepted : done ≡ found → Accepted
  done_accepted e =
      let number : found.number ≡ DONE = ap (λ (a : Answer). a.number) (sym e) in
      let passed = each_check_done _ number in
      let short : Bool = head_short head || nodes_short nodes || head_short placed_head in
      let last = neither short (nodes_short placed_nodes) (refuse_done _ 0 0 (passed 0)) in
      let both = neither (head_short head || nodes_short nodes) (head_short placed_head) last.0 in
      record {
        sheet = record { formed = passes_formed vector_bytes (graph_of head nodes) (passed 2); bare = passed 3 };
        head_room = ltb-false (length placed_head) head_entries both.1;
        nodes_room = ltb-false (length placed_nodes) (row_entries * nodes_most) last.1;
      }

  abbrev made : Graph
  made = placed_graph vector_bytes rule (graph_of head nodes)

  pub room_leaves : at ROOM 0 ≡ found → sheet_given (Err Room) placed_head placed_nodes ≡ placing vector_bytes rule head nodes placed_head placed_nodes
  unfolding placing
  room_leaves e = rw (← e)

  pub done_leaves : (h n : List ℕ) → done ≡ found → h ≡ padded (length placed_head) (head_of made) → n ≡ padded (length placed_nodes) made.nodes
      → sheet_given (Ok tt) h n ≡ placing vector_bytes rule head nodes placed_head placed_nodes
  unfolding placing
  done_leaves h n e p q = rw (← e, p, q)

  -- a refusal that is not ROOM
  pub refusal_leaves : (r : Refusal) (h n : List ℕ) → (r ≡ Room → ⊥) → of_refusal r ≡ found → h ≡ padded (length placed_head) []
      → n ≡ padded (length placed_nodes) [] → sheet_given (Err r) h n ≡ placing vector_bytes rule head nodes placed_head placed_nodes
  unfolding placing
  refusal_leaves r h n other e p q = rw (← e, p, q, cleared r other placed_head (head_of made), cleared r other placed_nodes made.nodes)

pub ruleset leaving = (done_accepted, room_leaves, done_leaves, refusal_leaves)
