-- The numbers that each call can give, done beside them: what its order of checks lists, and no other. A call's result is one of
-- all refusals by its type; these say which.
use Prim.Native.Nat.{ℕ, zero, suc, ◌+◌, ◌-◌, min}
use mathlib.Core.Path.{◌≡◌, refl}
use mathlib.Core.Bool.{Bool, true, false, cond, ◌||◌, ◌&&◌}
use mathlib.Core.List.{List, [], ◌∷◌, ◌++◌}
use lib.ListN.{length}
use lib.Dec.{eqb, ltb, leb}
use Rattle.std.specs.Prelude.{Option, Some, None, Result, Ok, Err}
use Rattle.rules.specs.Limits.{vector_bytes, nodes_most}
use Rattle.rules.specs.Answers.{Answer, DONE, ROOM, LINE, RANGE, SHAPE, BARE, WINDOW, ALIGN, BOUNDS, CARRY, OFFSET, LONG, OUT, FAULT, at, refuse_if, or_else, first, each, of_refusal, of_result}
use Rattle.rules.specs.Reading.{Sheet, node_line, end_line, line_by, line_at, refused, follow, lines_from, fresh, header_line, sheet_by, sheet_of}
use Rattle.rules.specs.Frames.{frame_at, header_kind, end_kind}
use Rattle.rules.specs.Ranges.{head_ok, row_ok, takes}
use Rattle.rules.specs.Machine.{Standing, Timed, State, next, step, runs, start, trace}
use Rattle.rules.specs.Tables.{Graph, graph_of, program_in}
use Rattle.rules.specs.Checks.{row_check, form_check, bare_row, bare_check, window_check, align_row, align_check, bounds_row, bounds_check, carry_row, carry_check, offset_row, offset_check, long_check}
use Rattle.rules.specs.Calls.{read_answer, checking, offset_checking, place_answer, plain_answer, translate_answer, plan_answer, start_answer, running, started, ended}
use Rattle.rules.specs.declared.answers.Refusal.{Refusal}
use Rattle.rules.specs.declared.answers.Refusal.TheVariants.{Line, Range, Shape}
use Rattle.rules.specs.declared.program.ProgramHead.{ProgramHead}
use Rattle.rules.specs.declared.sheet.Fields.{Fields}
use Rattle.rules.specs.declared.sheet.Cursor.{Cursor}
use Rattle.rules.specs.declared.sheet.Row.{Row}
use Rattle.rules.specs.declared.sheet.NodeRead.{NodeRead}

-- one of some numbers
abbrev pub member : List ℕ → ℕ → Bool
member [] n = false
member (m ∷ ms) n = eqb n m || member ms n

-- an answer has one of these numbers, or is done
pub record Gives (numbers : List ℕ) (a : Answer) : Type 0 where
  pub among : member (DONE ∷ numbers) a.number ≡ true

-- ---- lists of checks

or_true : (b : Bool) → (b || true) ≡ true
or_true true = refl
or_true false = refl

abbrev AllGive : List ℕ → List Answer → Type 0
AllGive numbers [] = Unit {0}
AllGive numbers (a ∷ later) = Gives numbers a × AllGive numbers later

either_gives : (numbers : List ℕ) (number : ℕ) (one other : Answer) → Gives numbers one → Gives numbers other
    → Gives numbers (or_else number one other)
either_gives numbers zero one other g h = h
either_gives numbers (suc n) one other g h = g

first_gives : (numbers : List ℕ) (checks : List Answer) → AllGive numbers checks → Gives numbers (first checks)
unfolding first
first_gives numbers [] g = record { among = refl }
first_gives numbers (a ∷ later) g = either_gives numbers a.number a (first later) g.0 (first_gives numbers later g.1)

give_both : (numbers : List ℕ) (ones others : List Answer) → AllGive numbers ones → AllGive numbers others → AllGive numbers (ones ++ others)
give_both numbers [] others g h = h
give_both numbers (a ∷ later) others g h = (g.0, give_both numbers later others g.1 h)

each_gives : (numbers : List ℕ) (check : ℕ → Answer) (k : ℕ) → ((i : ℕ) → Gives numbers (check i)) → AllGive numbers (each check k)
each_gives numbers check zero g = tt
each_gives numbers check (suc k) g = give_both numbers (each check k) (check k ∷ []) (each_gives numbers check k g) (g k, tt)

refused_gives : (numbers : List ℕ) (wrong : Bool) (number place : ℕ) → member numbers number ≡ true → Gives numbers (refuse_if wrong (at number place))
refused_gives numbers true number place h = record { among = rw h (or_true (eqb number DONE)) }
refused_gives numbers false number place h = record { among = refl }

-- ---- the checks, among any numbers that have theirs

module _ (numbers : List ℕ) (g : Graph) where
  form_gives : (W : ℕ) → member numbers RANGE ≡ true → member numbers SHAPE ≡ true → Gives numbers (form_check W g)
  unfolding form_check
  form_gives W range shape =
      first_gives numbers _ (
        refused_gives numbers _ RANGE _ range,
        give_both numbers (each (row_check W g) (min g.N nodes_most)) _
            (each_gives numbers (row_check W g) (min g.N nodes_most)
            (λ k. first_gives numbers _ (refused_gives numbers _ RANGE _ range, (refused_gives numbers _ SHAPE _ shape, tt))))
            (refused_gives numbers _ SHAPE _ shape, tt),
      )

  bare_gives : member numbers BARE ≡ true → Gives numbers (bare_check g)
  unfolding bare_check
  bare_gives h = first_gives numbers _ (each_gives numbers (bare_row g) g.N (λ k. refused_gives numbers _ BARE _ h))

  align_gives : member numbers ALIGN ≡ true → Gives numbers (align_check g)
  unfolding align_check
  align_gives h =
      first_gives numbers _ (refused_gives numbers _ ALIGN _ h, each_gives numbers (align_row g) g.N (λ k. refused_gives numbers _ ALIGN _ h))

  bounds_gives : (work_len table_len : ℕ) → member numbers BOUNDS ≡ true → Gives numbers (bounds_check g work_len table_len)
  unfolding bounds_check
  bounds_gives w t h =
      first_gives numbers _ (refused_gives numbers _ BOUNDS _ h, each_gives numbers (bounds_row g w t) g.N (λ k. refused_gives numbers _ BOUNDS _ h))

  carry_gives : member numbers CARRY ≡ true → Gives numbers (carry_check g)
  unfolding carry_check
  carry_gives h = first_gives numbers _ (each_gives numbers (carry_row g) g.N (λ k. refused_gives numbers _ CARRY _ h))

  offset_gives : (W : ℕ) → member numbers OFFSET ≡ true → Gives numbers (offset_check W g)
  unfolding offset_check
  offset_gives W h =
      first_gives numbers _
      (give_both numbers (each (offset_row W g) g.N) _ (each_gives numbers (offset_row W g) g.N (λ k. refused_gives numbers _ OFFSET _ h))
      (refused_gives numbers _ OFFSET _ h, tt))

window_gives : (numbers : List ℕ) (W work_len table_len : ℕ) → member numbers WINDOW ≡ true → Gives numbers (window_check W work_len table_len)
unfolding window_check
window_gives numbers W w t h = first_gives numbers _ (refused_gives numbers _ WINDOW _ h, (refused_gives numbers _ WINDOW _ h, tt))

-- ---- the calls on graphs

abbrev pub checking_numbers : List ℕ
checking_numbers = ROOM ∷ RANGE ∷ SHAPE ∷ []

pub checking_gives : (W : ℕ) (head nodes : List ℕ) → Gives checking_numbers (checking W head nodes)
unfolding checking
checking_gives W head nodes = first_gives _ _ (refused_gives _ _ ROOM 0 refl, (form_gives _ (graph_of head nodes) W refl refl, tt))

abbrev pub offset_numbers : List ℕ
offset_numbers = ROOM ∷ RANGE ∷ SHAPE ∷ OFFSET ∷ []

pub offset_checking_gives : (W : ℕ) (head nodes : List ℕ) → Gives offset_numbers (offset_checking W head nodes)
unfolding offset_checking checking
offset_checking_gives W head nodes =
    let g : Graph = graph_of head nodes in
    first_gives _ _
    (first_gives _ _ (refused_gives _ _ ROOM 0 refl, (form_gives _ g W refl refl, tt)), (offset_gives _ g W refl, tt))

abbrev pub placing_numbers : List ℕ
placing_numbers = ROOM ∷ RANGE ∷ SHAPE ∷ BARE ∷ ALIGN ∷ []

pub placing_gives : (W rule : ℕ) (head nodes placed_head placed_nodes : List ℕ)
    → Gives placing_numbers (place_answer W rule head nodes placed_head placed_nodes)
placing_gives W rule head nodes placed_head placed_nodes =
    let g : Graph = graph_of head nodes in
    first_gives _ _ (
      refused_gives _ _ ROOM 0 refl,
      (refused_gives _ _ RANGE 0 refl, (form_gives _ g W refl refl, (bare_gives _ g refl, (align_gives _ g refl, tt)))),
    )

abbrev pub looping_numbers : List ℕ
looping_numbers = ROOM ∷ RANGE ∷ SHAPE ∷ WINDOW ∷ ALIGN ∷ BOUNDS ∷ []

pub looping_gives : (W : ℕ) (head nodes : List ℕ) (work_len table_len : ℕ)
    → Gives looping_numbers (plain_answer W head nodes work_len table_len)
unfolding checking
looping_gives W head nodes w t =
    let g : Graph = graph_of head nodes in
    first_gives _ _ (
      first_gives _ _ (refused_gives _ _ ROOM 0 refl, (form_gives _ g W refl refl, tt)),
      (window_gives _ W w t refl, (align_gives _ g refl, (bounds_gives _ g w t refl, tt))),
    )

abbrev pub translating_numbers : List ℕ
translating_numbers = ROOM ∷ RANGE ∷ SHAPE ∷ WINDOW ∷ ALIGN ∷ BOUNDS ∷ CARRY ∷ OFFSET ∷ LONG ∷ []

pub translating_gives : (W : ℕ) (head nodes : List ℕ) (work_len table_len : ℕ) (prologue body epilogue : List ℕ)
    → Gives translating_numbers (translate_answer W head nodes work_len table_len prologue body epilogue)
unfolding long_check
translating_gives W head nodes w t prologue body epilogue =
    let g : Graph = graph_of head nodes in
    first_gives _ _ (
      refused_gives _ _ ROOM 0 refl,
      (
        form_gives _ g W refl refl,
        (
          window_gives _ W w t refl,
          (
            align_gives _ g refl,
            (
              bounds_gives _ g w t refl,
              (carry_gives _ g refl, (offset_gives _ g W refl, (refused_gives _ _ LONG 0 refl, tt))),
            ),
          ),
        ),
      ),
    )

abbrev pub planning_numbers : List ℕ
planning_numbers = ROOM ∷ RANGE ∷ SHAPE ∷ BARE ∷ WINDOW ∷ ALIGN ∷ BOUNDS ∷ CARRY ∷ OFFSET ∷ LONG ∷ []

pub planning_gives : (W rule : ℕ) (head nodes : List ℕ) (work_len table_len : ℕ) (prologue body epilogue : List ℕ)
    → Gives planning_numbers (plan_answer W rule head nodes work_len table_len prologue body epilogue)
unfolding long_check
planning_gives W rule head nodes w t prologue body epilogue =
    let g : Graph = graph_of head nodes in
    first_gives _ _ (
      refused_gives _ _ ROOM 0 refl,
      (
        refused_gives _ _ RANGE 0 refl,
        (
          form_gives _ g W refl refl,
          (
            bare_gives _ g refl,
            (
              window_gives _ W w t refl,
              (
                align_gives _ g refl,
                (bounds_gives _ g w t refl, (carry_gives _ g refl, (offset_gives _ _ W refl, (refused_gives _ _ LONG 0 refl, tt)))),
              ),
            ),
          ),
        ),
      ),
    )

-- ---- reading

abbrev pub reading_numbers : List ℕ
reading_numbers = ROOM ∷ LINE ∷ RANGE ∷ SHAPE ∷ []

-- a line that refuses is LINE, RANGE or SHAPE
abbrev StepGives : Result (Option NodeRead) Refusal → Type 0
StepGives (Ok read) = Unit {0}
StepGives (Err r) = Gives reading_numbers (of_refusal r)

node_line_gives : (D : ℕ) (here : Cursor) (f : Fields) → StepGives (node_line D here f)
unfolding node_line
node_line_gives D here f = go (row_ok vector_bytes D f.kind f.x f.y) (ltb here.waiting (takes f.kind) || leb nodes_most here.count)
  where
    go : (ok few : Bool)
        → StepGives
        (cond ok
        (cond few (Err (Shape here.line))
        (Ok (Some (record {
          row = record { kind = f.kind; x = f.x; y = f.y };
          there = record { at = f.next; line = here.line + 1; count = here.count + 1; waiting = here.waiting - takes f.kind + 1 };
        }))))
        (Err (Range here.line)))
    go true true = record { among = refl }
    go true false = tt
    go false few = record { among = refl }

end_line_gives : (text : List ℕ) (here : Cursor) (f : Fields) → StepGives (end_line text here f)
unfolding end_line
end_line_gives text here f = go (eqb f.x here.count && eqb here.waiting 1) (ltb f.next (length text))
  where
    go : (counted more : Bool) → StepGives (cond counted (cond more (Err (Line (here.line + 1))) (Ok None)) (Err (Shape here.line)))
    go true true = record { among = refl }
    go true false = tt
    go false more = record { among = refl }

line_by_gives : (text : List ℕ) (D : ℕ) (here : Cursor) (frame : Option Fields) → StepGives (line_by text D here frame)
unfolding line_by
line_by_gives text D here None = record { among = refl }
line_by_gives text D here (Some f) = go (eqb f.kind end_kind) (eqb f.kind header_kind)
  where
    go : (last header : Bool) → StepGives (cond last (end_line text here f) (cond header (Err (Line here.line)) (node_line D here f)))
    go true header = end_line_gives text here f
    go false true = record { among = refl }
    go false false = node_line_gives D here f

abbrev SheetGives : Sheet → Type 0
SheetGives sheet = Gives reading_numbers (of_result sheet.answer)

follow_gives : (here : Cursor) (head nodes : List ℕ) (step : Result (Option NodeRead) Refusal) (next : Row → Cursor → Sheet) → StepGives step
    → ((row : Row) (there : Cursor) → SheetGives (next row there)) → SheetGives (follow step here head nodes next)
follow_gives here head nodes (Err r) next g n = g
follow_gives here head nodes (Ok None) next g n = record { among = refl }
follow_gives here head nodes (Ok (Some read)) next g n = n read.row read.there

lines_give : (more : ℕ) (text : List ℕ) (D : ℕ) (here : Cursor) (head nodes : List ℕ) → SheetGives (lines_from more text D here head nodes)
unfolding lines_from line_at
lines_give zero text D here head nodes =
    follow_gives here head nodes _ _ (line_by_gives text D here (frame_at text here.at)) (λ row there. record { among = refl })
lines_give (suc more) text D here head nodes =
    follow_gives here head nodes _ _ (line_by_gives text D here (frame_at text here.at)) (λ row there. lines_give more text D there head _)

sheet_by_gives : (text : List ℕ) (frame : Option Fields) → SheetGives (sheet_by text frame)
unfolding sheet_by header_line
sheet_by_gives text None = record { among = refl }
sheet_by_gives text (Some f) = go (eqb f.kind header_kind) (head_ok f.x f.y f.z)
  where
    lines : Sheet
    lines = lines_from nodes_most text f.x (fresh f) (f.x ∷ f.y ∷ f.z ∷ []) []

    go : (header ok : Bool) → SheetGives (cond header (cond ok lines (refused (Range 1))) (refused (Line 1)))
    go true true = lines_give 64 text f.x (fresh f) _ []
    go true false = record { among = refl }
    go false ok = record { among = refl }

pub reading_gives : (text head nodes : List ℕ) → Gives reading_numbers (read_answer text head nodes)
unfolding sheet_of
reading_gives text head nodes = first_gives _ _ (refused_gives _ _ ROOM 0 refl, (sheet_by_gives text (frame_at text 0), tt))

-- ---- running

abbrev pub running_numbers : List ℕ
running_numbers = ROOM ∷ WINDOW ∷ OUT ∷ FAULT ∷ []

pub start_gives : (W : ℕ) (h : ProgramHead) (prologue body epilogue : List ℕ) (work_len table_len : ℕ)
    → Gives running_numbers (start_answer W h prologue body epilogue work_len table_len)
start_gives W h prologue body epilogue w t =
    first_gives _ _ (refused_gives _ _ ROOM 0 refl, (window_gives _ W w t refl, (refused_gives _ _ FAULT 0 refl, tt)))

abbrev Stands : Standing → Type 0
Stands m = member (DONE ∷ running_numbers) m.number ≡ true

next_stands : (number : ℕ) (within fine : Bool) (steps : ℕ) (before then : State) → member (DONE ∷ running_numbers) number ≡ true
    → Stands (next number within fine steps before then)
next_stands (suc stopped) within fine steps before then s = s
next_stands zero false fine steps before then s = refl
next_stands zero true false steps before then s = refl
next_stands zero true true steps before then s = refl

runs_stand : (W D : ℕ) (table : List ℕ) (budget : ℕ) (m : Standing) (ts : List Timed) → Stands m → Stands (runs W D table budget m ts)
unfolding runs step
runs_stand W D table budget m [] s = s
runs_stand W D table budget m (t ∷ ts) s =
    runs_stand W D table budget (step W D table budget m t) ts (next_stands m.number _ _ m.steps m.state _ s)

pub running_gives : (W : ℕ) (h : ProgramHead) (prologue body epilogue : List ℕ) (budget : ℕ) (work table : List ℕ)
    → Gives running_numbers (running W h prologue body epilogue budget work table).answer
unfolding running
running_gives W h prologue body epilogue budget work table =
    let a : Answer = start_answer W h prologue body epilogue (length work) (length table) in
    go a.number a (start_gives W h prologue body epilogue (length work) (length table))
    (runs W h.d table budget (start W work) (trace (program_in h prologue body epilogue)))
    (runs_stand W h.d table budget (start W work) (trace (program_in h prologue body epilogue)) refl)
  where
    go : (number : ℕ) (a : Answer) → Gives running_numbers a → (m : Standing) → Stands m
        → Gives running_numbers (started number a work (ended m)).answer
    go zero a g m s = record { among = s }
    go (suc number) a g m s = g
