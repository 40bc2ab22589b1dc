-- The call from its parts: the first refusal of the bare sheet, or what the two steps give.
use Prim.Native.Nat.{ℕ}
use mathlib.Core.Path.{◌≡◌, refl, sym, ap, ◌∙◌}
use mathlib.Core.Bool.{Bool, false, ◌||◌}
use mathlib.Core.List.{List, [], ◌∷◌}
use native.Mathlib.Omega.{arith}
use Rattle.std.specs.Prelude.{Result, Err, ⊤}
use lib.ListN.{replicate}
use Rattle.rules.specs.Limits.{vector_bytes}
use Rattle.rules.specs.Answers.{Answer, DONE, done, first, of_refusal}
use Rattle.rules.specs.Tables.{Graph, graph_of, head_of, padded, table_left}
use Rattle.rules.specs.Checks.{head_short, nodes_short, room_check, rule_check, form_check, bare_check, align_check}
use Rattle.rules.specs.Calls.{WithSheet, place_answer, placed_graph, placing, graph_program, bare_checks, plan_answer, planning, translating}
use Rattle.rules.specs.declared.answers.Refusal.{Refusal}
use Rattle.rules.specs.declared.program.ProgramHead.{ProgramHead}
use Rattle.theory.proofs.AnswerLaws.{refusal_not_done}
use Rattle.theory.proofs.FormLaws.{each_check_done, refuse_done}
use Rattle.theory.proofs.Checked.{sixteen}
use Rattle.theory.proofs.Demands.{tables_roomy, planned_unrefused}
use Rattle.theory.proofs.Stepwise.{placed_translates}
use Rattle.placing.specs.Handing.{sheet_given}
use Rattle.translating.specs.Programs.{program_given}
use Rattle.translating.proofs.TranslateLaws.{refused_leaves}
use Rattle.refusals_planning.specs.Judging.{tables_short}
use Rattle.planning.specs.Planning.{plan_given}

-- a check with nothing to refuse leaves the answer to the next
passes : (check : Answer) (later : List Answer) → check.number ≡ DONE → first (check ∷ later) ≡ first later
unfolding first
passes check later e = rw e

none : first [] ≡ done
unfolding first
none = refl

module _ (rule : ℕ) (head nodes : List ℕ) (work_len table_len : ℕ) (prologue body epilogue : List ℕ)
    (fine : first (bare_checks vector_bytes rule head nodes work_len table_len prologue body epilogue) ≡ done) where
  number : (first (bare_checks vector_bytes rule head nodes work_len table_len prologue body epilogue)).number ≡ DONE
  number = ap (λ (a : Answer). a.number) fine

  abbrev pub own_head : List ℕ
  own_head = replicate 10 0

  abbrev pub own_nodes : List ℕ
  own_nodes = replicate 192 0

  -- placing into tables of the call's own is done
  places : place_answer vector_bytes rule head nodes own_head own_nodes ≡ done
  places =
      -- 0 ROOM, 1 the rule, 2 form, 3 BARE, 4 WINDOW, 5 ALIGN, 6 BOUNDS, 7 CARRY
      let c = each_check_done (bare_checks vector_bytes rule head nodes work_len table_len prologue body epilogue) number in
      let g : Graph = graph_of head nodes in
      let short : Bool = tables_short head nodes prologue body epilogue in
      let tables : (head_short head || nodes_short nodes) ≡ false =
      tables_roomy (head_short head || nodes_short nodes) _ _ _ (refuse_done short 0 0 (c 0)) in
      let room : (room_check (head_short head || nodes_short nodes || head_short own_head || nodes_short own_nodes)).number ≡ DONE = rw tables in
      let l₄ : List Answer = align_check g ∷ [] in
      let l₃ : List Answer = bare_check g ∷ l₄ in
      let l₂ : List Answer = form_check vector_bytes g ∷ l₃ in
      let l₁ : List Answer = rule_check rule ∷ l₂ in
      passes (room_check (head_short head || nodes_short nodes || head_short own_head || nodes_short own_nodes)) l₁ room
      ∙ passes (rule_check rule) l₂ (c 1)
      ∙ passes (form_check vector_bytes g) l₃ (c 2)
      ∙ passes (bare_check g) l₄ (c 3)
      ∙ passes (align_check g) [] (c 5)
      ∙ none

  abbrev pub placed : Graph
  placed = placed_graph vector_bytes rule (graph_of head nodes)

  pub placing_is : placing vector_bytes rule head nodes own_head own_nodes
      ≡ record { answer = done; head = padded 10 (head_of placed); nodes = padded 192 placed.nodes }
  unfolding placing
  placing_is = rw places

  pub never_refused : (r : Refusal) (head' nodes' : List ℕ)
      → sheet_given (Err r) head' nodes' ≡ placing vector_bytes rule head nodes own_head own_nodes → ⊥
  never_refused r head' nodes' p =
      absurd (omega (arith, refusal_not_done r, ap (λ (x : WithSheet). x.answer.number) (p ∙ placing_is)))

  -- what the two steps give is what the call is to give
  pub plan_done : (step : Result ⊤ Refusal) (head' nodes' : List ℕ)
      → sheet_given step head' nodes' ≡ placing vector_bytes rule head nodes own_head own_nodes
      → (made : Result ProgramHead Refusal) (prologue' body' epilogue' : List ℕ)
      → program_given made prologue' body' epilogue' ≡ translating vector_bytes head' nodes' work_len table_len prologue body epilogue
      → plan_given made prologue' body' epilogue' ≡ planning vector_bytes rule head nodes work_len table_len prologue body epilogue
  plan_done step head' nodes' p made prologue' body' epilogue' t =
      let h : head' ≡ padded 10 (head_of placed) = ap (λ (x : WithSheet). x.head) (p ∙ placing_is) in
      let n : nodes' ≡ padded 192 placed.nodes = ap (λ (x : WithSheet). x.nodes) (p ∙ placing_is) in
      rw (h, n) at t
      ∙ placed_translates vector_bytes sixteen rule head nodes prologue body epilogue 10 192 (omega arith, omega arith) work_len table_len number

-- ---- a refusal

module _ (rule : ℕ) (head nodes : List ℕ) (work_len table_len : ℕ) (prologue body epilogue : List ℕ) where
  pub refusal_leaves : (r : Refusal)
      → of_refusal r ≡ first (bare_checks vector_bytes rule head nodes work_len table_len prologue body epilogue)
      → plan_given (Err r) (table_left (of_refusal r).number prologue []) (table_left (of_refusal r).number body [])
      (table_left (of_refusal r).number epilogue [])
      ≡ planning vector_bytes rule head nodes work_len table_len prologue body epilogue
  unfolding planning
  refusal_leaves r e =
      let answer : plan_answer vector_bytes rule head nodes work_len table_len prologue body epilogue ≡ of_refusal r =
      planned_unrefused vector_bytes sixteen rule head nodes work_len table_len prologue body epilogue ∙ sym e in
      let g : Graph = graph_of head nodes in
      rw answer (refused_leaves r g.D (graph_program vector_bytes (placed_graph vector_bytes rule g)) prologue body epilogue)
