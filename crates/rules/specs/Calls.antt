-- The calls: the checks of each as one ordered list, the answer, and what it leaves in every lent table and window, for all
-- inputs. A contract says that everything a call gives and leaves is what stands here, at W = 16.
use Rattle.std.specs.Prelude.{ℕ, zero, suc, List, [], ◌∷◌, ◌++◌, ◌||◌, length}
use Rattle.rules.specs.Answers.{Answer, after, first, of_result}
use Rattle.rules.specs.Reading.{sheet_of}
use Rattle.rules.specs.Trees.{Tree, tree_of}
use Rattle.rules.specs.PlainLoop.{plain}
use Rattle.rules.specs.Placing.{place}
use Rattle.rules.specs.Machine.{Program, Standing, trace, runs, start}
use Rattle.rules.specs.Code.{program_of}
use Rattle.rules.specs.Tables.{Graph, graph_of, with_tree, head_of, entries, program_head, program_in, table_left, head_left}
use Rattle.rules.specs.Checks.{head_short, nodes_short, section_short, room_check, rule_check, form_check, bare_check, window_check, align_check, bounds_check, carry_check, offset_check, long_check, section_long, start_fault}
use Rattle.rules.specs.declared.program.ProgramHead.{ProgramHead}

-- ---- what calls leave

-- an answer with the two lent tables of a sheet
pub record WithSheet : Type 0 where
  pub answer : Answer
  pub head : List ℕ
  pub nodes : List ℕ

-- an answer with a program
pub record WithProgram : Type 0 where
  pub answer : Answer
  pub head : ProgramHead
  pub prologue : List ℕ
  pub body : List ℕ
  pub epilogue : List ℕ

-- an answer with the work window
pub record WithWork : Type 0 where
  pub answer : Answer
  pub work : List ℕ

-- ---- reading

abbrev pub read_answer : (text head nodes : List ℕ) → Answer
read_answer text head nodes = first (room_check (head_short head || nodes_short nodes) ∷ of_result (sheet_of text).answer ∷ [])

-- "On done the reader's tables hold the header's fields and, node by node in the order of the lines, each frame's kind and
-- fields"
unfoldable pub reading : (text head nodes : List ℕ) → WithSheet
reading text head nodes =
    let answer = read_answer text head nodes in
    record {
      answer = answer;
      head = table_left answer.number head (sheet_of text).head;
      nodes = table_left answer.number nodes (sheet_of text).nodes;
    }

-- ---- a sheet or graph handed over as tables, "checked by 3 and 4 as if read, right after ROOM"

unfoldable pub checking : (W : ℕ) (head nodes : List ℕ) → Answer
checking W head nodes = first (room_check (head_short head || nodes_short nodes) ∷ form_check W (graph_of head nodes) ∷ [])

-- its tree
abbrev pub graph_tree : Graph → Tree
graph_tree g = tree_of g.nodes g.N

-- the offset check by itself
unfoldable pub offset_checking : (W : ℕ) (head nodes : List ℕ) → Answer
offset_checking W head nodes = first (checking W head nodes ∷ offset_check W (graph_of head nodes) ∷ [])

-- ---- placing: "5 and 7"

abbrev pub place_answer : (W rule : ℕ) (head nodes placed_head placed_nodes : List ℕ) → Answer
place_answer W rule head nodes placed_head placed_nodes =
    let g = graph_of head nodes in
    first
    (room_check (head_short head || nodes_short nodes || head_short placed_head || nodes_short placed_nodes)
    ∷ rule_check rule
    ∷ form_check W g
    ∷ bare_check g
    ∷ align_check g
    ∷ [])

-- the graph that a rule makes of a bare one
abbrev pub placed_graph : (W rule : ℕ) → Graph → Graph
placed_graph W rule g = with_tree g (place W g.S rule (graph_tree g))

unfoldable pub placing : (W rule : ℕ) (head nodes placed_head placed_nodes : List ℕ) → WithSheet
placing W rule head nodes placed_head placed_nodes =
    let answer = place_answer W rule head nodes placed_head placed_nodes in
    let placed = placed_graph W rule (graph_of head nodes) in
    record {
      answer = answer;
      head = table_left answer.number placed_head (head_of placed);
      nodes = table_left answer.number placed_nodes placed.nodes;
    }

-- ---- the plain loop: "6 to 8"

abbrev pub plain_answer : (W : ℕ) (head nodes : List ℕ) (work_len table_len : ℕ) → Answer
plain_answer W head nodes work_len table_len =
    let g = graph_of head nodes in
    first
    (checking W head nodes
    ∷ window_check W work_len table_len
    ∷ align_check g
    ∷ bounds_check g work_len table_len
    ∷ [])

-- "No refusal up to 11 changes a window"
abbrev pub work_left : (number : ℕ) → (before then : List ℕ) → List ℕ
work_left zero before then = then
work_left (suc number) before then = before

abbrev pub graph_plain : Graph → (work table : List ℕ) → List ℕ
graph_plain g work table = plain g.D g.S work table (graph_tree g) g.n

unfoldable pub looping : (W : ℕ) (head nodes work table : List ℕ) → WithWork
looping W head nodes work table =
    let answer = plain_answer W head nodes (length work) (length table) in
    record { answer = answer; work = work_left answer.number work (graph_plain (graph_of head nodes) work table) }

-- ---- translating: "6 to 11"

abbrev pub graph_program : (W : ℕ) → Graph → Program
graph_program W g = program_of W g.D g.n g.S (graph_tree g)

abbrev pub translate_answer : (W : ℕ) (head nodes : List ℕ) (work_len table_len : ℕ) (prologue body epilogue : List ℕ) → Answer
translate_answer W head nodes work_len table_len prologue body epilogue =
    let g = graph_of head nodes in
    first
    (room_check (head_short head || nodes_short nodes || section_short prologue || section_short body || section_short epilogue)
    ∷ form_check W g
    ∷ window_check W work_len table_len
    ∷ align_check g
    ∷ bounds_check g work_len table_len
    ∷ carry_check g
    ∷ offset_check W g
    ∷ long_check (graph_tree g)
    ∷ [])

-- an answer, and on done a program of elements of D bytes
abbrev pub program_left : Answer → (D : ℕ) → Program → (prologue body epilogue : List ℕ) → WithProgram
program_left answer D p prologue body epilogue =
    record {
      answer = answer;
      head = head_left answer.number (program_head D p);
      prologue = table_left answer.number prologue (entries p.prologue);
      body = table_left answer.number body (entries p.body);
      epilogue = table_left answer.number epilogue (entries p.epilogue);
    }

unfoldable pub translating : (W : ℕ) (head nodes : List ℕ) (work_len table_len : ℕ) (prologue body epilogue : List ℕ) → WithProgram
translating W head nodes work_len table_len prologue body epilogue =
    let g = graph_of head nodes in
    program_left (translate_answer W head nodes work_len table_len prologue body epilogue) g.D (graph_program W g) prologue body epilogue

-- ---- the one-step call: "5 to 11, with 5 to 9 judged on the bare sheet and its lines"

abbrev pub bare_checks : (W rule : ℕ) (head nodes : List ℕ) (work_len table_len : ℕ) (prologue body epilogue : List ℕ) → List Answer
bare_checks W rule head nodes work_len table_len prologue body epilogue =
    let g = graph_of head nodes in
    (room_check (head_short head || nodes_short nodes || section_short prologue || section_short body || section_short epilogue)
    ∷ rule_check rule
    ∷ form_check W g
    ∷ bare_check g
    ∷ window_check W work_len table_len
    ∷ align_check g
    ∷ bounds_check g work_len table_len
    ∷ carry_check g
    ∷ [])

abbrev pub placed_checks : (W : ℕ) (placed : Graph) → List Answer
placed_checks W placed = offset_check W placed ∷ long_check (graph_tree placed) ∷ []

abbrev pub plan_answer : (W rule : ℕ) (head nodes : List ℕ) (work_len table_len : ℕ) (prologue body epilogue : List ℕ) → Answer
plan_answer W rule head nodes work_len table_len prologue body epilogue =
    first
    (bare_checks W rule head nodes work_len table_len prologue body epilogue ++ placed_checks W (placed_graph W rule (graph_of head nodes)))

unfoldable pub planning : (W rule : ℕ) (head nodes : List ℕ) (work_len table_len : ℕ) (prologue body epilogue : List ℕ) → WithProgram
planning W rule head nodes work_len table_len prologue body epilogue =
    let g = graph_of head nodes in
    program_left (plan_answer W rule head nodes work_len table_len prologue body epilogue) g.D (graph_program W (placed_graph W rule g))
    prologue body epilogue

-- ---- running: "ROOM .., 6, then a FAULT at the start; at each step 12 before 13"

abbrev pub start_answer : (W : ℕ) → ProgramHead → (prologue body epilogue : List ℕ) (work_len table_len : ℕ) → Answer
start_answer W h prologue body epilogue work_len table_len =
    first
    (room_check (section_long h.prologue prologue || section_long h.body body || section_long h.epilogue epilogue)
    ∷ window_check W work_len table_len
    ∷ start_fault W h
    ∷ [])

-- "12 and 13 return the steps done, and work holds their stores"
abbrev pub ended : Standing → WithWork
ended m = record { answer = after m.number m.steps; work = m.state.work }

abbrev pub started : (number : ℕ) → Answer → List ℕ → WithWork → WithWork
started zero answer work then = then
started (suc number) answer work then = record { answer = answer; work = work }

unfoldable pub running : (W : ℕ) → ProgramHead → (prologue body epilogue : List ℕ) (budget : ℕ) (work table : List ℕ) → WithWork
running W h prologue body epilogue budget work table =
    let answer = start_answer W h prologue body epilogue (length work) (length table) in
    started answer.number answer work
    (ended (runs W h.d table budget (start W work) (trace (program_in h prologue body epilogue))))
