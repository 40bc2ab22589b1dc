-- A call on a bare sheet judges the room of its tables, its rule and the sheet's form before the lines: what one of these finds is
-- the answer, and where they find nothing the lines decide.
use Prim.Native.Nat.{ℕ, zero, suc}
use mathlib.Core.Path.{◌≡◌, sym, ◌∙◌}
use mathlib.Core.Bool.{Bool, true, false, ◌||◌}
use mathlib.Core.List.{List, ◌∷◌}
use native.Mathlib.Omega.{arith}
use borrow.Author.Tests.{lt-ltb}
use Rattle.std.specs.Prelude.{Result, Ok, Err}
use Rattle.rules.specs.Limits.{vector_bytes, rules_most}
use Rattle.rules.specs.Answers.{Answer, ROOM, at, done, first, of_refusal, of_result}
use Rattle.rules.specs.Kinds.{rule_of}
use Rattle.rules.specs.Tables.{Graph, graph_of}
use Rattle.rules.specs.Checks.{head_short, nodes_short, room_check, rule_check, form_check}
use Rattle.rules.specs.Calls.{checking}
use Rattle.rules.specs.declared.answers.Refusal.{Refusal}
use Rattle.rules.specs.declared.kinds.Rule.{Rule}
use Rattle.theory.proofs.Firsts.{first_passed, checked_formed}
use Rattle.graph.specs.Headers.{header_of, graph_in}
use Rattle.graph.proofs.HeaderLaws.{header_graph, roomy_checking, refusal_first}

-- a rule's check says what its name does
rule_answer : (rule : ℕ) (named : Result Rule Refusal) → named ≡ rule_of rule → rule_check rule ≡ of_result named
rule_answer zero named e = rw e
rule_answer (suc zero) named e = rw e
rule_answer (suc (suc zero)) named e = rw e
rule_answer (suc (suc (suc zero))) named e = rw e
rule_answer (suc (suc (suc (suc rule)))) named e = rw (e, lt-ltb rules_most (suc (suc (suc (suc rule)))) (omega arith))

-- whether a table is too short, and the checks of the lines
module _ (rule : ℕ) (head nodes : List ℕ) (short : Bool) (lines : Graph → List Answer) where
  abbrev g : Graph
  g = graph_of head nodes

  abbrev pub judged : Answer
  judged = first (room_check short ∷ rule_check rule ∷ form_check vector_bytes g ∷ lines g)

  pub room_refused : short ≡ true → at ROOM 0 ≡ judged
  unfolding first
  room_refused e = rw e

  module _ (roomy : short ≡ false) where
    pub rule_refused : (refusal : Refusal) → Err refusal ≡ rule_of rule → of_refusal refusal ≡ judged
    unfolding first
    rule_refused refusal e =
        let found = refusal_first refusal (rule_check rule) (form_check vector_bytes g ∷ lines g) (rule_answer rule (Err refusal) e) in
        rw roomy (sym found)

    module _ (named : Rule) (known : Ok named ≡ rule_of rule) (tables : (head_short head || nodes_short nodes) ≡ false) where
      by_form : judged ≡ first (form_check vector_bytes g ∷ lines g)
      unfolding first
      by_form = rw (roomy, rule_answer rule (Ok named) known)

      form_is : form_check vector_bytes g ≡ checking vector_bytes head nodes
      form_is = sym (roomy_checking head nodes vector_bytes tables)

      pub form_refused : (refusal : Refusal) → of_refusal refusal ≡ checking vector_bytes head nodes → of_refusal refusal ≡ judged
      form_refused refusal e = sym (by_form ∙ refusal_first refusal (form_check vector_bytes g) (lines g) (form_is ∙ sym e))

      -- the lines, as they are judged by the sheet's header
      pub lines_decide : done ≡ checking vector_bytes head nodes → (answer : Answer)
          → answer ≡ first (lines (graph_in (header_of head) nodes)) → answer ≡ judged
      lines_decide e answer l =
          let same = header_graph vector_bytes head nodes (checked_formed vector_bytes head nodes (sym e)) in
          rw same at l ∙ sym (by_form ∙ first_passed (form_check vector_bytes g) (lines g) (form_is ∙ sym e))
