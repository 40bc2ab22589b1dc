-- The loop: after i elements work is as the definition has it, and its length is kept, so that the next element can be evaluated
-- and stored.
use Prim.Native.Nat.{ℕ, ◌+◌, ◌-◌, ◌*◌, ◌≤◌, ◌<◌}
use mathlib.Core.Path.{◌≡◌, refl, sym, ap, ◌∙◌}
use mathlib.Core.List.{List}
use native.Mathlib.Nat.{suc-mul, mul-le-mul_right}
use native.Mathlib.Numerals.{add-one}
use native.Mathlib.Omega.{arith}
use lib.ListN.{length}
use lib.Seq.{paste, length-paste}
use borrow.Rule.Slice.PartMut.{put_mid}
use Rattle.std.proofs.lemmas.Slice.{put_mid-paste}
use Rattle.rules.specs.Elements.{to_bytes}
use Rattle.rules.specs.Trees.{Tree, node_at, tree_at}
use Rattle.rules.specs.PlainLoop.{plain, value}
use Rattle.rules.specs.Tables.{Graph}
use Rattle.rules.specs.Calls.{graph_plain}
use Rattle.theory.proofs.Numbers.{length_to_bytes}
use Rattle.graph.proofs.InputLaws.{root_tree}
use Rattle.plain.specs.Evaluating.{Loopable}

-- how work stands after the first i of n elements
pub record After (D S n : ℕ) (t : Tree) (work₀ table : List ℕ) (i : ℕ) (work : List ℕ) : Type 0 where
  pub some : i ≤ n
  pub long : length work ≡ length work₀
  pub so : work ≡ plain D S work₀ table t i

pub begins : (D S n : ℕ) (t : Tree) (work table : List ℕ) → After D S n t work table 0 work
unfolding plain
begins D S n t work table = record { some = omega arith; long = refl; so = refl }

abbrev root : Graph → Tree
root g = tree_at (node_at g.nodes) (g.N - 1)

module _ {g : Graph} {left work₀ table work : List ℕ} {i : ℕ} (c : Loopable g left (length work₀) (length table))
    (a : After g.D g.S g.n (root g) work₀ table i work) where
  -- element i lies in work
  fits : i < g.n → g.S + i * g.D + g.D ≤ length work
  fits more = omega (arith, a.long, c.bounds, mul-le-mul_right g.D more, suc-mul i g.D)

  -- its bytes written there
  pub next_after : {found at k : ℕ} {bytes : List ℕ} → i < g.n → found ≡ value g.D work table (root g) i → at ≡ g.S + i * g.D → k ≡ g.D
      → bytes ≡ to_bytes g.D found → After g.D g.S g.n (root g) work₀ table (i + 1) (put_mid at k work bytes)
  unfolding plain
  next_after {found} {at} {k} {bytes} more v place count b =
      let of : List ℕ = to_bytes g.D found in
      let w = a.so in
      let e : put_mid at k work bytes ≡ paste work (g.S + i * g.D) of g.D =
      put_mid-paste at k work bytes of g.D b (sym count) (sym (length_to_bytes g.D found)) ∙ ap (λ (x : ℕ). paste work x of g.D) place in
      let long : length (put_mid at k work bytes) ≡ length work =
      ap length e ∙ length-paste work (g.S + i * g.D) of g.D (fits more) (omega (arith, length_to_bytes g.D found)) in
      record { some = omega arith; long = long ∙ a.long; so = rw (add-one i, ← w) (e ∙ rw v) }

  pub ends : g.n ≤ i → work ≡ graph_plain g work₀ table
  ends h =
      let e : i ≡ g.n = omega (arith, a.some) in
      a.so ∙ rw (e, root_tree g.nodes g.N c.rooted)
