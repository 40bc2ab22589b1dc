-- A node's rule and offset in the code's own answers, and what is known of the nodes so far.
use Rattle.std.specs.Prelude.{ℕ, ◌<◌, ◌≡◌, Bool, true, false, not, List, ◌++◌, get_or, Result, Ok, Err}
use Rattle.rules.specs.Limits.{vector_bytes}
use Rattle.rules.specs.Answers.{Answer, OFFSET, done, at, refuse_if, first, each, of_refusal}
use Rattle.rules.specs.Trees.{Tree, bytes, tree_of}
use Rattle.rules.specs.Offsets.{offset, rule_kept}
use Rattle.rules.specs.Checks.{line}
use Rattle.graph.specs.Linking.{tree}
use Rattle.rules.specs.declared.nodes.Node.TheVariants.{Load}
use Rattle.rules.specs.declared.nodes.Offset.{Offset}
use Rattle.rules.specs.declared.nodes.Offset.TheVariants.{At}
use Rattle.rules.specs.declared.nodes.NodeRecord.{NodeRecord}
use Rattle.rules.specs.declared.answers.Refusal.{Refusal}
use Rattle.rules.specs.declared.answers.Refusal.TheVariants as Refused

-- an offset where a rule is kept, else the line
abbrev pub given : (kept : Bool) → Offset → (place : ℕ) → Result Offset Refusal
given true o place = Ok o
given false o place = Err (Refused.Offset place)

abbrev pub judged : Tree → (place : ℕ) → Result Offset Refusal
judged t place = given (rule_kept vector_bytes t) (offset vector_bytes t) place

-- what stands past the last record
abbrev pub no_record : NodeRecord
no_record = record { node = Load (record { window = 0; address = bytes 0 }); offset = At (bytes 0) }

abbrev pub offset_in : List NodeRecord → ℕ → Offset
offset_in records k = (get_or records k no_record).offset

-- the offsets of the first n nodes; past the last stands that of no record
unfoldable pub Known : (nodes : List ℕ) (n : ℕ) → List Offset → Type 0
Known nodes n offsets = (k : ℕ) → k < n → get_or offsets k no_record.offset ≡ offset vector_bytes (tree nodes k)

-- row k's check, of which a graph's offset_row is made
abbrev pub rule_check : List ℕ → ℕ → Answer
rule_check nodes k = refuse_if (not (rule_kept vector_bytes (tree nodes k))) (at OFFSET (line k))

-- the first rule that is broken, whatever comes after it; or every rule is kept, and the root's offset
abbrev pub NodesFound : (nodes : List ℕ) (n : ℕ) → Result Offset Refusal → Type 0
NodesFound nodes n (Err refusal) = (later : List Answer) → first (each (rule_check nodes) n ++ later) ≡ of_refusal refusal
NodesFound nodes n (Ok root) = ((k : ℕ) → k < n → rule_check nodes k ≡ done) × (root ≡ offset vector_bytes (tree_of nodes n))
