-- The one-step call is the two steps: where the checks on the bare sheet find nothing, translating the tables that placing gives is
-- done, and gives the program of the one-step call. So the call can place into tables of its own and translate those.
use mathlib.Core.Path.{◌≡◌, ◌∙◌}
use mathlib.Core.Bool.{◌||◌, false}
use mathlib.Core.List.{List}
use Prim.Native.Nat.{ℕ, zero, suc, ◌*◌, ◌≤◌, ◌<◌}
use native.Mathlib.Omega.{arith}
use borrow.Author.Tests.{le-ltb}
use lib.ListN.{length, get_or, replicate, length-replicate}
use Rattle.rules.specs.Limits.{nodes_most, head_entries, row_entries}
use Rattle.rules.specs.Answers.{DONE, done, first}
use Rattle.rules.specs.Trees.{Tree, rows, count}
use Rattle.rules.specs.Placing.{place}
use Rattle.rules.specs.Tables.{Graph, graph_of, with_tree, head_of, padded}
use Rattle.rules.specs.Checks.{head_short, nodes_short, section_short}
use Rattle.rules.specs.Calls.{graph_tree, placed_graph, bare_checks, translate_answer, translating, plan_answer, planning}
use Rattle.theory.proofs.Passing.{Loop}
use Rattle.theory.proofs.RowLaws.{length_rows, length_padded, padded_rows_read_back}
use Rattle.theory.proofs.FormLaws.{Formed, rows_front, each_check_done, first_is_done, refuse_done, passes_formed, formed_tree_ok}
use Rattle.theory.proofs.Placed.{Bare, Unshifted, place_root, place_passes}
use Rattle.theory.proofs.PlacedSize.{place_short}
use Rattle.theory.proofs.PlacedForm.{place_formed}
use Rattle.theory.proofs.Checked.{VectorWidth, head_passes, align_done, window_done, bare_count, loop_from, graph_bare, graph_placeable, graph_unshifted}
use Rattle.theory.proofs.Accepted.{translating_accepts}
use Rattle.theory.proofs.Demands.{HoldBytes, sections_roomy, placed_tree_lem, planned_unrefused}

-- rows that pass still do with more entries after them
padded_formed : (W : ℕ) (g : Graph) (t : Tree) (len : ℕ) → Formed W (with_tree g t)
    → Formed W (record { D = g.D; n = g.n; S = g.S; N = count t; nodes = padded len (rows t) })
unfolding padded
padded_formed W g t len f =
    record { head = f.head; most = f.most; rows = rows_front W g.D (count t) 1 (rows t) _ (length_rows t) f.rows }

-- windows of zeros hold bytes
zeros : (n i : ℕ) → get_or (replicate n 0) i 0 < 256
zeros zero i = omega arith
zeros (suc n) zero = omega arith
zeros (suc n) (suc i) = zeros n i

zeros_bytes : (work_len table_len : ℕ) → HoldBytes (replicate work_len 0) (replicate table_len 0)
zeros_bytes work_len table_len zero i = zeros work_len i
zeros_bytes work_len table_len (suc w) i = zeros table_len i

module _ (W : ℕ) (v : VectorWidth W) (rule : ℕ) (head nodes prologue body epilogue : List ℕ) (head_len nodes_len : ℕ)
    (roomy : (head_entries ≤ head_len) × (row_entries * nodes_most ≤ nodes_len)) where
  abbrev bare : Graph
  bare = graph_of head nodes

  abbrev placed : Tree
  placed = place W bare.S rule (graph_tree bare)

  abbrev pub placed_head : List ℕ
  placed_head = padded head_len (head_of (placed_graph W rule bare))

  abbrev pub placed_nodes : List ℕ
  placed_nodes = padded nodes_len (rows placed)

  room : count placed ≤ nodes_most → (head_short head || nodes_short nodes || section_short prologue || section_short body || section_short epilogue) ≡ false
      → (head_short placed_head || nodes_short placed_nodes || section_short prologue || section_short body || section_short epilogue) ≡ false
  room most e =
      let s = sections_roomy (head_short head || nodes_short nodes) _ _ _ e in
      let h : length placed_head ≡ head_len = length_padded head_len (head_of (placed_graph W rule bare)) (omega arith) in
      let n : length placed_nodes ≡ nodes_len = length_padded nodes_len (rows placed) (omega (arith, length_rows placed)) in
      rw (
        le-ltb (length placed_head) head_entries (omega arith),
        le-ltb (length placed_nodes) (row_entries * nodes_most) (omega arith),
        s.0,
        s.1,
        s.2,
      )

  -- over windows that are there
  translates : (work table : List ℕ) → HoldBytes work table
      → (first (bare_checks W rule head nodes (length work) (length table) prologue body epilogue)).number ≡ DONE
      → translate_answer W placed_head placed_nodes (length work) (length table) prologue body epilogue ≡ done
  unfolding padded
  translates work table byte e =
      -- 0 ROOM, 1 the rule, 2 form, 3 BARE, 4 WINDOW, 5 ALIGN, 6 BOUNDS, 7 CARRY
      let c = each_check_done _ e in
      let g = bare in
      let f : Formed W g = passes_formed W g (c 2) in
      let u : Unshifted (graph_tree g) = graph_unshifted W v g f work table (c 3) in
      let l : Loop W g.D g.n g.S work table = loop_from W v g f work table byte (c 4) (c 5) (c 6) in
      let b : Bare g.D g.n g.S work table (graph_tree g) = graph_bare W v g f work table (c 3) (c 5) (c 6) (c 7) in
      let f' : Formed W (with_tree g placed) =
      place_formed W v.vector g (v.lanes g.D (head_passes g.D g.n g.S f.head).width) rule (graph_tree g) f.head
      (align_done g (c 5)).0 (graph_placeable W v g f work table (c 3) (c 5)) (formed_tree_ok W g f) (bare_count W g f (c 3)) in
      translating_accepts W placed_head placed_nodes work table prologue body epilogue
      (room f'.most (refuse_done _ 0 0 (c 0))) (padded_formed W g placed nodes_len f') (window_done W (length work) (length table) (c 4)) l
      (rw (padded_rows_read_back nodes_len placed) (place_passes W g.D g.n g.S work table l rule (graph_tree g) b))
      (rw (padded_rows_read_back nodes_len placed) (place_root W g.S rule (graph_tree g) u))
      (rw (padded_rows_read_back nodes_len placed) (place_short W g.S rule (graph_tree g) u (bare_count W g f (c 3))))

  pub placed_translates : (work_len table_len : ℕ)
      → (first (bare_checks W rule head nodes work_len table_len prologue body epilogue)).number ≡ DONE
      → translating W placed_head placed_nodes work_len table_len prologue body epilogue
      ≡ planning W rule head nodes work_len table_len prologue body epilogue
  unfolding translating planning padded
  placed_translates work_len table_len e =
      let wl : length (replicate {A = ℕ} work_len 0) ≡ work_len = length-replicate work_len 0 in
      let tl : length (replicate {A = ℕ} table_len 0) ≡ table_len = length-replicate table_len 0 in
      let t : translate_answer W placed_head placed_nodes work_len table_len prologue body epilogue ≡ done =
      rw (wl, tl) at (translates (replicate work_len 0) (replicate table_len 0) (zeros_bytes work_len table_len) (rw (wl, tl) e)) in
      let p : plan_answer W rule head nodes work_len table_len prologue body epilogue ≡ done =
      planned_unrefused W v rule head nodes work_len table_len prologue body epilogue ∙ first_is_done _ e in
      rw (t, p, padded_rows_read_back nodes_len placed, placed_tree_lem W rule bare)
