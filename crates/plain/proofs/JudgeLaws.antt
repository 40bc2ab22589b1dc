-- What an answer of done leaves the loop: a graph that can be evaluated at each element, in windows that hold what it reads and
-- stores; and what the call gives and leaves, done or refused.
use Prim.Native.Nat.{ℕ, zero, suc, ◌+◌, ◌*◌, ◌≤◌}
use mathlib.Core.Path.{◌≡◌, refl, sym, ap, ◌∙◌}
use mathlib.Core.Bool.{Bool, true, ◌&&◌, false≢true}
use mathlib.Core.Logic.{◌≢◌}
use mathlib.Core.List.{List}
use native.Mathlib.Omega.{arith}
use borrow.Author.Tests.{leb-true, ltb-true}
use lib.Dec.{ltb, leb, eqb}
use lib.ListN.{length}
use Rattle.rules.specs.Limits.{vector_bytes, nodes_most, elements_most, address_most, windows}
use Rattle.rules.specs.Units.{is_width}
use Rattle.rules.specs.Elements.{modulus}
use Rattle.rules.specs.Frames.{load_kind}
use Rattle.rules.specs.Ranges.{head_ok, load_ok, splat_ok, row_ok}
use Rattle.rules.specs.Trees.{cell, node_of, node_at}
use Rattle.rules.specs.Answers.{Answer, DONE, done, of_refusal}
use Rattle.rules.specs.Tables.{Graph, graph_of}
use Rattle.rules.specs.Checks.{length_of, bounds_check}
use Rattle.rules.specs.Calls.{checking, plain_answer, graph_plain, looping}
use Rattle.rules.specs.declared.answers.Refusal.{Refusal}
use Rattle.theory.proofs.AnswerLaws.{refusal_not_done}
use Rattle.theory.proofs.Demands.{looping_keeps_work}
use Rattle.theory.proofs.Lists.{and_left, and_right}
use Rattle.theory.proofs.FormLaws.{Formed, each_check_done, passes_formed, some_row}
use Rattle.theory.proofs.Checked.{head_passes, bounds_done}
use Rattle.graph.specs.Links.{lefts}
use Rattle.graph.specs.Headers.{header_of, graph_in}
use Rattle.graph.proofs.LinkLaws.{lefts_linked}
use Rattle.graph.proofs.HeaderLaws.{header_graph}
use Rattle.plain.specs.Evaluating.{Ranged, Loopable}

-- ---- a row in range, whose load lies in its window

ranged_row : (W D n kind x y work_len table_len : ℕ) → row_ok W D kind x y ≡ true
    → (eqb kind load_kind ≡ true → y + n * D ≤ length_of x work_len table_len) → Ranged D n work_len table_len (node_of kind x y)
unfolding row_ok load_ok splat_ok
ranged_row W D n zero x y work_len table_len o b = absurd (false≢true o)
ranged_row W D n (suc zero) x y work_len table_len o b =
    (leb-true y address_most (and_right (ltb x windows) (leb y address_most) o), b refl)
ranged_row W D n (suc (suc zero)) x y work_len table_len o b = ltb-true x (modulus D) o
ranged_row W D n (suc (suc (suc zero))) x y work_len table_len o b = tt
ranged_row W D n (suc (suc (suc (suc zero)))) x y work_len table_len o b = tt
ranged_row W D n (suc (suc (suc (suc (suc k))))) x y work_len table_len o b = absurd (false≢true o)

store_small : (D n S : ℕ) → head_ok D n S ≡ true → S ≤ address_most
unfolding head_ok
store_small D n S e =
    let fields : Bool = leb n elements_most && leb S address_most in
    leb-true S address_most (and_right (leb n elements_most) (leb S address_most) (and_left fields (is_width D) e))

formed_loopable : (W : ℕ) (g : Graph) → Formed W g → (work_len table_len : ℕ) → (bounds_check g work_len table_len).number ≡ DONE
    → Loopable g (lefts (node_at g.nodes) nodes_most) work_len table_len
unfolding node_at
formed_loopable W g f work_len table_len b =
    let inside = bounds_done g work_len table_len b in
    record {
      rooted = some_row W g.D g.N g.nodes f.rows;
      store = store_small g.D g.n g.S f.head;
      bounds = inside.0;
      evaluable =
          record {
            few = (head_passes g.D g.n g.S f.head).elements;
            most = f.most;
            linked = lefts_linked W g f;
            ranged = λ k h. ranged_row W g.D g.n (cell g.nodes k 0) (cell g.nodes k 1) (cell g.nodes k 2) work_len table_len
                (f.rows.in_range k h) (inside.1 k h);
          };
    }

-- ---- the answer

module _ (head nodes : List ℕ) (work_len table_len : ℕ) (e : done ≡ plain_answer vector_bytes head nodes work_len table_len) where
  abbrev g : Graph
  g = graph_of head nodes

  -- 0 the form, with ROOM before it, and 3 BOUNDS
  done_formed : Formed vector_bytes g
  unfolding checking
  done_formed = passes_formed vector_bytes g (each_check_done _ (each_check_done _ (ap (λ (a : Answer). a.number) (sym e)) 0) 1)

  done_bounds : (bounds_check g work_len table_len).number ≡ DONE
  done_bounds = each_check_done _ (ap (λ (a : Answer). a.number) (sym e)) 3

  -- the header has all of the graph
  done_graph : graph_in (header_of head) nodes ≡ g
  done_graph = header_graph vector_bytes head nodes done_formed

  pub done_loopable : Loopable (graph_in (header_of head) nodes) (lefts (node_at nodes) nodes_most) work_len table_len
  done_loopable = rw done_graph (formed_loopable vector_bytes g done_formed work_len table_len done_bounds)

module _ (head nodes work table : List ℕ) where
  abbrev answer : Answer
  answer = plain_answer vector_bytes head nodes (length work) (length table)

  -- on done work is the plain loop's
  pub loop_done : done ≡ answer → (then : List ℕ) → then ≡ graph_plain (graph_in (header_of head) nodes) work table
      → record { answer = done; work = then } ≡ looping vector_bytes head nodes work table
  unfolding looping
  loop_done e then w =
      rw (← e, w ∙ ap (λ (g : Graph). graph_plain g work table) (done_graph head nodes (length work) (length table) e))

  -- a refusal leaves it as it was
  pub loop_refused : (r : Refusal) → of_refusal r ≡ answer → record { answer = of_refusal r; work = work } ≡ looping vector_bytes head nodes work table
  unfolding looping
  loop_refused r e =
      let ne : answer.number ≢ DONE = λ z. omega (arith, refusal_not_done r, ap (λ (a : Answer). a.number) e) in
      rw (e, looping_keeps_work vector_bytes head nodes work table ne)
