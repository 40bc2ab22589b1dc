-- What each answer leaves, as the definition of translating lays it down; and what a graph has that nothing refused: the root's
-- code can be written, and fits.
use Prim.Native.Nat.{ℕ, zero, suc, ◌+◌, ◌%◌, ◌≤◌, ◌<◌}
use native.Mathlib.Nat.{zero-add}
use native.Mathlib.Omega.{arith}
use mathlib.Core.Path.{◌≡◌, refl, sym, ap, ◌∙◌}
use mathlib.Core.Bool.{Bool, true, false, ◌&&◌, ◌||◌}
use mathlib.Core.List.{List, [], ◌∷◌, ◌++◌, append-nil, append_assoc}
use borrow.Author.Tests.{ltb-true, leb-true, ltb-false}
use lib.Dec.{ltb, leb, eqb}
use Rattle.std.specs.Prelude.{Ok, Err}
use lib.ListN.{length, get_or, length-append}
use lib.Seq.{sets}
use Rattle.rules.specs.Limits.{vector_bytes, elements_most, address_most, section_most}
use Rattle.rules.specs.Answers.{Answer, DONE, done, of_refusal}
use Rattle.rules.specs.Units.{width_bytes}
use Rattle.rules.specs.Ranges.{head_ok, load_ok, op_ok, shift_ok, row_ok}
use Rattle.rules.specs.Trees.{Tree, load, splat, op, shift}
use Rattle.rules.specs.Machine.{Program}
use Rattle.rules.specs.Tables.{Graph, graph_of, entries, program_head, no_program, padded, table_left, head_left}
use Rattle.rules.specs.Checks.{section_short, head_short, nodes_short, room_check, form_check, window_check, align_check, bounds_check, carry_check, offset_check, long_check}
use Rattle.rules.specs.Calls.{WithProgram, graph_tree, graph_program, program_left, translate_answer, translating}
use Rattle.rules.specs.declared.answers.Refusal.{Refusal}
use Rattle.rules.specs.declared.program.Instruction.{Instruction}
use Rattle.rules.specs.declared.program.ProgramHead.{ProgramHead}
use Rattle.theory.proofs.AnswerLaws.{refusal_not_done}
use Rattle.theory.proofs.Lists.{and_left, and_right}
use Rattle.theory.proofs.RowLaws.{length_entries, length_padded}
use Rattle.theory.proofs.FormLaws.{Formed, TreeOk, each_check_done, refuse_done, passes_formed, formed_tree_ok}
use Rattle.theory.proofs.Checked.{head_passes, long_done}
use Rattle.theory.proofs.Handed.{program_fits}
use Rattle.theory.proofs.Demands.{sections_roomy}
use Rattle.tables.proofs.TableLaws.{padded_put}
use Rattle.graph.specs.NodeTables.{NodeTable}
use Rattle.graph.specs.declared.headers.Header.{Header}
use Rattle.graph.specs.Headers.{header_of}
use Rattle.graph.proofs.InputLaws.{some_node, root_tree}
use Rattle.graph.proofs.HeaderLaws.{header_graph}
use Rattle.translating_rows.specs.Putting.{written}
use Rattle.translating.specs.Writing.{Written, Roomy, Ranged, Root, root_of}
use Rattle.translating.specs.Programs.{headed, Emitted, program_given}

-- ---- the tables

-- entries written right after those that a table begins with
padded_sets : (len i : ℕ) (made xs : List ℕ) → length made ≡ i → i + length xs ≤ len
    → sets (padded len made) i xs ≡ padded len (made ++ xs)
padded_sets len i made [] e h = rw (append-nil made)
padded_sets len i made (x ∷ xs) e h =
    let one : List ℕ = made ++ x ∷ [] in
    let n : length one ≡ suc i = length-append made (x ∷ []) ∙ omega arith in
    let next : sets (padded len one) (suc i) xs ≡ padded len (one ++ xs) = padded_sets len (suc i) one xs n (omega arith) in
    rw (padded_put len i x made e (omega arith)) (next ∙ ap (padded len) (append_assoc made (x ∷ []) xs))

-- a section of zeros, written from its first row on
written_padded : (before after : List ℕ) (next : ℕ) (is : List Instruction) → length is ≤ section_most → Roomy before
    → Written (padded (length before) []) after 0 next is → after ≡ padded (length before) (entries is)
unfolding written
written_padded before after next is fits room w =
    w.holds ∙ padded_sets (length before) 0 [] (entries is) refl (omega (arith, length_entries is))

cleared_room : (section : List ℕ) → Roomy section → Roomy (padded (length section) [])
cleared_room section h = omega (arith, length_padded (length section) [] (omega arith))

-- the head that goes with the sections
emitted_head : (D : ℕ) (p : Program) (h : ProgramHead) → h.d ≡ D → h.f ≡ p.full → h.prologue ≡ 0 + length p.prologue
    → h.body ≡ 0 + length p.body → h.epilogue ≡ 0 + length p.epilogue → h ≡ program_head D p
emitted_head D p h a b c d e = rw (← a, ← b, ← (zero-add (length p.prologue)), ← c, ← (zero-add (length p.body)), ← d, ← (zero-add (length p.epilogue)), ← e)

-- ---- a graph that passes

-- the fields of a tree in its ranges
tree_ranged : (D : ℕ) (t : Tree) → TreeOk vector_bytes D t → Ranged t
unfolding row_ok load_ok op_ok shift_ok
tree_ranged D (load w a) o = (ltb-true _ _ (and_left (ltb w 2) _ o), leb-true _ _ (and_right (ltb w 2) _ o))
tree_ranged D (splat v) o = tt
tree_ranged D (op p l r) o = (ltb-true _ _ o.0, tree_ranged D l o.1, tree_ranged D r o.2)
tree_ranged D (shift f g t) o =
    let a : Bool = ltb f vector_bytes in
    let b : Bool = ltb g vector_bytes in
    let x : Bool = eqb (f % D) 0 in
    let y : Bool = eqb (g % D) 0 in
    let both : (a && b) ≡ true = and_left (a && b) x (and_left (a && b && x) y (and_left (a && b && x && y) _ o.0)) in
    (ltb-true _ _ (and_left a b both), ltb-true _ _ (and_right a b both), tree_ranged D t o.1)

head_address : (D n S : ℕ) → head_ok D n S ≡ true → S ≤ address_most
unfolding head_ok
head_address D n S e = leb-true _ _ (and_right (leb n elements_most) _ (and_left (leb n elements_most && leb S address_most) _ e))

section_roomy : (section : List ℕ) → section_short section ≡ false → Roomy section
section_roomy section e = ltb-false _ _ e

-- translating's checks in their order
abbrev pub checks : (head nodes : List ℕ) (work_len table_len : ℕ) (P B E : List ℕ) → List Answer
checks head nodes work_len table_len P B E =
    let g = graph_of head nodes in
    (room_check (head_short head || nodes_short nodes || section_short P || section_short B || section_short E)
    ∷ form_check vector_bytes g
    ∷ window_check vector_bytes work_len table_len
    ∷ align_check g
    ∷ bounds_check g work_len table_len
    ∷ carry_check g
    ∷ offset_check vector_bytes g
    ∷ long_check (graph_tree g)
    ∷ [])

-- ---- what each answer leaves

-- what a refusal leaves, whatever the program would have been
pub refused_leaves : (r : Refusal) (D : ℕ) (p : Program) (P B E : List ℕ)
    → program_given (Err r) (table_left (of_refusal r).number P []) (table_left (of_refusal r).number B []) (table_left (of_refusal r).number E [])
    ≡ program_left (of_refusal r) D p P B E
refused_leaves r D p P B E =
    rw (head_none n (program_head D p) h, same P (entries p.prologue) n h, same B (entries p.body) n h, same E (entries p.epilogue) n h)
  where
    n : ℕ
    n = (of_refusal r).number

    h : 0 < n
    h = refusal_not_done r

    same : (before made : List ℕ) (n : ℕ) → 0 < n → table_left n before made ≡ table_left n before []
    same before made zero h = absurd (omega arith)
    same before made (suc zero) h = refl
    same before made (suc (suc n)) h = refl

    head_none : (n : ℕ) (made : ProgramHead) → 0 < n → head_left n made ≡ no_program
    head_none zero made h = absurd (omega arith)
    head_none (suc n) made h = refl

abbrev cleared : List ℕ → List ℕ
cleared section = padded (length section) []

module _ (head nodes : List ℕ) (work_len table_len : ℕ) (P B E : List ℕ) where
  abbrev g : Graph
  g = graph_of head nodes

  abbrev p : Program
  p = graph_program vector_bytes g

  abbrev pub all : WithProgram
  all = translating vector_bytes head nodes work_len table_len P B E

  pub refusal_leaves : (r : Refusal) → of_refusal r ≡ translate_answer vector_bytes head nodes work_len table_len P B E
      → program_given (Err r) (table_left (of_refusal r).number P []) (table_left (of_refusal r).number B []) (table_left (of_refusal r).number E [])
      ≡ all
  unfolding translating
  refusal_leaves r e = rw (← e) (refused_leaves r g.D p P B E)

  -- ---- a graph that nothing refused

  module _ (e : done ≡ translate_answer vector_bytes head nodes work_len table_len P B E) where
    abbrev h : Header
    h = header_of head

    abbrev table : NodeTable
    table = record { rows = nodes; count = get_or head 3 0 }

    passed : (k : ℕ) → (get_or (checks head nodes work_len table_len P B E) k done).number ≡ DONE
    passed = each_check_done (checks head nodes work_len table_len P B E) (sym (ap (λ (a : Answer). a.number) e))

    pub formed : Formed vector_bytes g
    formed = passes_formed vector_bytes g (passed 1)

    same_width : width_bytes h.width ≡ g.D
    same_width = ap (λ (x : Graph). x.D) (header_graph vector_bytes head nodes formed)

    root_made : root_of table ≡ graph_tree g
    root_made = root_tree nodes g.N (some_node g formed)

    program_is : headed vector_bytes h table ≡ p
    program_is = rw (same_width, root_made)

    roomy : Roomy P × Roomy B × Roomy E
    roomy =
        let r = sections_roomy (head_short head || nodes_short nodes) _ _ _ (refuse_done _ 0 0 (passed 0)) in
        (section_roomy P r.0, section_roomy B r.1, section_roomy E r.2)

    pub program_ready : (h.elements ≤ elements_most) × Root (root_of table) h.store.0
    program_ready = (
      (head_passes g.D g.n g.S formed.head).elements,
      record {
        ranged = rw root_made (tree_ranged g.D (graph_tree g) (formed_tree_ok vector_bytes g formed));
        short = rw root_made (long_done (graph_tree g) (passed 7));
        address = head_address g.D g.n g.S formed.head;
      },
    )

    pub cleared_roomy : Roomy (cleared P) × Roomy (cleared B) × Roomy (cleared E)
    cleared_roomy =
        let r = roomy in
        (cleared_room P r.0, cleared_room B r.1, cleared_room E r.2)

    pub program_leaves : {made : ProgramHead} {P' B' E' : List ℕ}
        → Emitted (width_bytes h.width) (headed vector_bytes h table) made (cleared P) (cleared B) (cleared E) P' B' E'
        → program_given (Ok made) P' B' E' ≡ all
    unfolding translating
    program_leaves {made} {P'} {B'} {E'} m =
        let m' : Emitted g.D p made (cleared P) (cleared B) (cleared E) P' B' E' =
        rw (program_is, same_width) at m in
        let f = program_fits vector_bytes g.D g.n g.S (graph_tree g) (long_done (graph_tree g) (passed 7)) in
        rw (
          ← e,
          emitted_head g.D p made m'.width m'.full m'.before.rows m'.between.rows m'.after.rows,
          written_padded P P' _ p.prologue f.prologue roomy.0 m'.before,
          written_padded B B' _ p.body f.body roomy.1 m'.between,
          written_padded E E' _ p.epilogue f.epilogue roomy.2 m'.after,
        )
