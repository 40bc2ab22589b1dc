-- The rule and the offset of a node from its inputs' offsets, and the nodes so far: they keep their rules, and their offsets are known.
use Rattle.std.proofs.Common.{◌≡◌, ℕ, ◌+◌, ◌-◌, ◌%◌, ◌<◌, Bool, true, false, List, length, set, get_or, refl, sym, ap, ◌∙◌, arith, length-set, get_or-set_same, get_or-set_other}
use Rattle.std.specs.Prelude.{Result, Ok, Err}
use Rattle.rules.specs.Limits.{vector_bytes, nodes_most}
use Rattle.rules.specs.Trees.{Tree, bytes, load, splat, op, shift, tree_of}
use Rattle.rules.specs.Offsets.{agree, join, is_at, offset, rule_kept}
use Rattle.rules.specs.Checks.{line}
use Rattle.rules.specs.declared.nodes.Offset.{Offset}
use Rattle.rules.specs.declared.nodes.Offset.TheVariants.{At, Undefined}
use Rattle.rules.specs.declared.answers.Refusal.{Refusal}
use Rattle.rules.specs.declared.answers.Refusal.TheVariants as Refused
use Rattle.theory.proofs.Lists.{split}
use Rattle.theory.proofs.Firsts.{Passed, passed_none, passed_next, passed_refused}
use Rattle.graph.specs.Linking.{tree}
use Rattle.graph.proofs.InputLaws.{root_tree}
use Rattle.graph_offsets.specs.Judging.{given, judged, no_record, Known, rule_check, NodesFound}

pub load_judged : (t : Tree) (window address place : ℕ) → t ≡ load window address → Ok (At (bytes (address % vector_bytes))) ≡ judged t place
load_judged t window address place e = rw e

pub splat_judged : (t : Tree) (v place : ℕ) → t ≡ splat v → Ok Undefined ≡ judged t place
splat_judged t v place e = rw e

-- an op, from its inputs' offsets
module _ (t l r : Tree) (o place : ℕ) (is : t ≡ op o l r) (x y : Offset) (left : x ≡ offset vector_bytes l) (right : y ≡ offset vector_bytes r) where
  pub op_judged : given (agree x y) (join x y) place ≡ judged t place
  op_judged = rw (is, left, right)

  pub op_kept : agree x y ≡ true → Ok (join x y) ≡ judged t place
  op_kept e = rw e at op_judged

  pub op_broken : agree x y ≡ false → Err (Refused.Offset place) ≡ judged t place
  op_broken e = rw e at op_judged

-- a shift, from its child's
module _ (t child : Tree) (from to place : ℕ) (is : t ≡ shift from to child) (x : Offset) (known : x ≡ offset vector_bytes child) where
  pub shift_judged : given (is_at x from) (At (bytes to)) place ≡ judged t place
  shift_judged = rw (is, known)

  pub shift_kept : is_at x from ≡ true → Ok (At (bytes to)) ≡ judged t place
  shift_kept e = rw e at shift_judged

  pub shift_broken : is_at x from ≡ false → Err (Refused.Offset place) ≡ judged t place
  shift_broken e = rw e at shift_judged

-- ---- the nodes so far

-- a judgement taken apart
abbrev kept_of : Result Offset Refusal → Bool
kept_of (Ok o) = true
kept_of (Err refusal) = false

abbrev offset_of : Result Offset Refusal → Offset
offset_of (Ok o) = o
offset_of (Err refusal) = Undefined

abbrev refusal_of : Result Offset Refusal → Refusal
refusal_of (Ok o) = Refused.Room
refusal_of (Err refusal) = refusal

given_kept : (kept : Bool) (o : Offset) (place : ℕ) → kept_of (given kept o place) ≡ kept
given_kept true o place = refl
given_kept false o place = refl

-- the first k nodes keep their rules, and their offsets are known
pub record NodesSo (nodes : List ℕ) (k : ℕ) (offsets : List Offset) : Type 0 where
  pub passed : Passed (rule_check nodes) k
  pub known : Known nodes k offsets
  pub long : length offsets ≡ nodes_most

pub nodes_none : (nodes : List ℕ) (offsets : List Offset) → length offsets ≡ nodes_most → NodesSo nodes 0 offsets
unfolding Known
nodes_none nodes offsets long = record { passed = passed_none (rule_check nodes); known = λ k h. absurd (omega arith); long = long }

module _ (nodes : List ℕ) (k : ℕ) (offsets : List Offset) (so : NodesSo nodes k offsets) where
  abbrev t : Tree
  t = tree nodes k

  kept : (found : Result Offset Refusal) → found ≡ judged t (line k) → rule_kept vector_bytes t ≡ kept_of found
  kept found e = sym (given_kept (rule_kept vector_bytes t) (offset vector_bytes t) (line k)) ∙ ap kept_of (sym e)

  pub node_broken : (refusal : Refusal) (n : ℕ) → k < n → Err refusal ≡ judged t (line k) → NodesFound nodes n (Err refusal)
  node_broken refusal n h e later =
      let b : rule_kept vector_bytes t ≡ false = kept (Err refusal) e in
      let p : refusal ≡ Refused.Offset (line k) = sym (rw b at (ap refusal_of (sym e))) in
      rw p (passed_refused (rule_check nodes) n k later 9 (line k) so.passed h (rw b))

  pub node_kept : (o : Offset) → Ok o ≡ judged t (line k) → k < nodes_most → NodesSo nodes (k + 1) (set offsets k o)
  unfolding Known
  node_kept o e h =
      let b : rule_kept vector_bytes t ≡ true = kept (Ok o) e in
      let is : o ≡ offset vector_bytes t = sym (rw b at (ap offset_of (sym e))) in
      record {
        passed = passed_next (rule_check nodes) k so.passed (rw b);
        known = λ j p. split j k
            (λ (l : j < k). get_or-set_other offsets k j o no_record.offset (λ z. absurd (omega (arith, z))) ∙ so.known j l)
            (λ l. let z : j ≡ k = omega arith in rw z (get_or-set_same offsets k o no_record.offset (omega (arith, so.long)) ∙ is));
        long = length-set offsets k o ∙ so.long;
      }

-- all nodes keep their rules, and the root is the last of them
pub nodes_kept : (nodes : List ℕ) (n root : ℕ) (offsets : List Offset) (o : Offset) → NodesSo nodes n offsets → root + 1 ≡ n
    → o ≡ get_or offsets root no_record.offset → NodesFound nodes n (Ok o)
unfolding Passed Known
nodes_kept nodes n root offsets o so is e =
    let last : offset vector_bytes (tree nodes root) ≡ offset vector_bytes (tree_of nodes n) =
    let at : root ≡ n - 1 = omega arith in
    rw at (ap (offset vector_bytes) (root_tree nodes n (omega arith))) in
    (so.passed, e ∙ so.known root (omega arith) ∙ last)
