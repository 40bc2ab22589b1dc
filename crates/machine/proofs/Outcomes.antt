-- What the contract of `run` says of every program, budget and window: it allows one outcome, a run that cannot start leaves work
-- as it was, and a run that started leaves exactly the stores of its steps.
use Prim.Native.Nat.{ℕ, zero, suc, ◌+◌, ◌-◌, ◌*◌, ◌≤◌}
use mathlib.Core.Path.{◌≡◌, refl, sym, ap, ◌∙◌}
use mathlib.Core.List.{List}
use native.Mathlib.Nat.{zero-add, mul-le-mul}
use native.Mathlib.Omega.{arith}
use lib.ListN.{length, take}
use Rattle.std.specs.Prelude.{Result}
use Rattle.rules.specs.Limits.{vector_bytes, full_most, section_most}
use Rattle.rules.specs.Answers.{Answer, DONE, done, of_run}
use Rattle.rules.specs.Machine.{instructions_from, Timed, trace, start}
use Rattle.rules.specs.Tables.{program_in}
use Rattle.rules.specs.Calls.{WithWork, start_answer, ended, running}
use Rattle.rules.specs.declared.answers.Refusal.{Refusal}
use Rattle.rules.specs.declared.program.ProgramHead.{ProgramHead}
use Rattle.theory.proofs.AnswerLaws.{run_told_apart}
use Rattle.theory.proofs.Trace.{made, length_trace}
use Rattle.theory.proofs.Demands.{unstarted_keeps_work, running_cut}
use Rattle.refusals_machine.proofs.ReadyLaws.{ready}
use Rattle.machine.specs.Running.{ran}

length_rows : (section : List ℕ) (i n : ℕ) → length (instructions_from section i n) ≡ n
length_rows section i zero = refl
length_rows section i (suc n) = ap suc (length_rows section (i + 1) n)

module _ (h : ProgramHead) (prologue body epilogue : List ℕ) (budget : ℕ) (work table : List ℕ) where
  -- the contract of `run`, of an answer and of work afterwards
  abbrev pub Allowed : Result ℕ Refusal → List ℕ → Type 0
  Allowed r left = ran r left ≡ running vector_bytes h prologue body epilogue budget work table

  pub one_outcome : (r s : Result ℕ Refusal) (v w : List ℕ) → Allowed r v → Allowed s w → (r ≡ s) × (v ≡ w)
  one_outcome r s v w a b =
      let e : ran r v ≡ ran s w = a ∙ sym b in
      (run_told_apart r s (ap (λ (x : WithWork). x.answer) e), ap (λ (x : WithWork). x.work) e)

  abbrev found : Answer
  found = start_answer vector_bytes h prologue body epilogue (length work) (length table)

  abbrev order : List Timed
  order = trace (program_in h prologue body epilogue)

  pub unstarted_leaves_work : (r : Result ℕ Refusal) (v : List ℕ) → Allowed r v → (found.number ≡ DONE → ⊥) → (of_run r ≡ found) × (v ≡ work)
  unstarted_leaves_work r v a ne =
      let e : ran r v ≡ record { answer = found; work = work } =
      a ∙ unstarted_keeps_work vector_bytes h prologue body epilogue budget work table ne in
      (ap (λ (x : WithWork). x.answer) e, ap (λ (x : WithWork). x.work) e)

  -- how a run that started left work: by the first instructions, as many as its steps
  pub record Left (r : Result ℕ Refusal) (v : List ℕ) : Type 0 where
    pub some : (of_run r).steps ≤ length order
    pub stores : v ≡ (made vector_bytes h.d table (start vector_bytes work).state (take (of_run r).steps order)).work

  pub started_leaves_its_stores : (r : Result ℕ Refusal) (v : List ℕ) → Allowed r v → found.number ≡ DONE → Left r v
  started_leaves_its_stores r v a e =
      let p = running_cut vector_bytes h prologue body epilogue budget work table e in
      let m = p.0 in
      let q : ran r v ≡ ended m = a ∙ p.1 in
      let k : (of_run r).steps ≡ m.steps = ap (λ (x : WithWork). x.answer.steps) q in
      let w : v ≡ m.state.work = ap (λ (x : WithWork). x.work) q in
      let n : m.steps ≡ p.2.count = p.2.counted ∙ zero-add p.2.count in
      record { some = rw (k, n) p.2.some; stores = rw (k, n, w, p.2.state) }

  -- the most steps that a run can have: three sections of 1,024 instructions, one of them in 2,047 passes
  pub steps_bounded : (r : Result ℕ Refusal) (v : List ℕ) → Allowed r v → done ≡ found → (of_run r).steps ≤ (full_most vector_bytes + 1) * section_most
  steps_bounded r v a d =
      let ok = ready h prologue body epilogue work table d in
      let n = (started_leaves_its_stores r v a (sym (ap (λ (x : Answer). x.number) d))).some in
      let l : length order ≡ h.prologue + (h.f - 1) * h.body + h.epilogue =
      length_trace (program_in h prologue body epilogue)
      ∙ rw (length_rows prologue 0 h.prologue, length_rows body 0 h.body, length_rows epilogue 0 h.epilogue) in
      let f : h.f - 1 ≤ 2047 = omega (arith, ok.full_fits) in
      let b : (h.f - 1) * h.body ≤ 2047 * 1024 = mul-le-mul f ok.body_rows in
      omega (arith, n, l, b, ok.prologue_rows, ok.epilogue_rows)
