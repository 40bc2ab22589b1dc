-- A loop over rows, read as the checks of the rows: while they pass the count of those that wait is kept, and the first row that
-- refuses gives the answer.
use Prim.Native.Nat.{ℕ, ◌+◌, ◌-◌, ◌≤◌, ◌<◌}
use mathlib.Core.Path.{◌≡◌, refl, sym}
use mathlib.Core.Bool.{Bool, true, false}
use native.Mathlib.Numerals.{add-one}
use native.Mathlib.Omega.{arith}
use borrow.Author.Tests.{lt-ltb, le-ltb}
use Rattle.std.specs.Prelude.{Ok, Err}
use Rattle.rules.specs.Limits.{vector_bytes}
use Rattle.rules.specs.Answers.{first}
use Rattle.rules.specs.Ranges.{row_ok, takes}
use Rattle.rules.specs.Trees.{cell}
use Rattle.rules.specs.Tables.{Graph}
use Rattle.rules.specs.Checks.{line, waits, row_check}
use Rattle.theory.proofs.Firsts.{Passed, passed_none, passed_next, passed_refused}
use Rattle.rules.specs.declared.sheet.Row.{Row}
use Rattle.tables.specs.Rows.{row_at}
use Rattle.graph.specs.Forms.{RowsFound}
use Rattle.rules.specs.declared.answers.Refusal.TheVariants.{Range, Shape}

module _ (g : Graph) where
  -- the first k rows pass, and so many wait after them
  pub record RowsSo (k now : ℕ) : Type 0 where
    pub passed : Passed (row_check vector_bytes g) k
    pub wait : now ≡ waits g.nodes k
    pub most : now ≤ k

  pub rows_begin : RowsSo 0 0
  unfolding waits
  rows_begin = record { passed = passed_none (row_check vector_bytes g); wait = refl; most = omega arith }

  -- row k as it was read, what its fields' check gave, and how many it takes
  module _ (k now : ℕ) (so : RowsSo k now) (row : Row) (read : row ≡ row_at g.nodes k)
      (ok : Bool) (judged : ok ≡ row_ok vector_bytes g.D row.kind row.x row.y) where
    abbrev kind : ℕ
    kind = cell g.nodes k 0

    range : row_ok vector_bytes g.D kind (cell g.nodes k 1) (cell g.nodes k 2) ≡ ok
    range = sym (rw read at judged)

    pub row_range : ok ≡ false → k < g.N → RowsFound g (Err (Range (line k)))
    unfolding first
    row_range e h later =
        passed_refused (row_check vector_bytes g) g.N k later 2 (line k) so.passed h (rw (range, e))

    module _ (fine : ok ≡ true) (taken : ℕ) (takes-so : taken ≡ takes row.kind) where
      takes_kind : taken ≡ takes kind
      takes_kind = rw read at takes-so

      pub row_shape : now < taken → k < g.N → RowsFound g (Err (Shape (line k)))
      unfolding first
      row_shape few h later =
          let f : waits g.nodes k < takes kind = rw (so.wait, takes_kind) at few in
          passed_refused (row_check vector_bytes g) g.N k later 3 (line k) so.passed h
          (rw (range, fine, lt-ltb (waits g.nodes k) (takes kind) f))

      pub row_next : taken ≤ now → RowsSo (k + 1) (now - taken + 1)
      unfolding waits first
      row_next enough =
          let f : takes kind ≤ waits g.nodes k = rw (so.wait, takes_kind) at enough in
          record {
            passed = passed_next (row_check vector_bytes g) k so.passed (rw (range, fine, le-ltb (waits g.nodes k) (takes kind) f));
            wait = rw (add-one k, ← so.wait, ← takes_kind);
            most = omega (arith, so.most);
          }

  pub rows_end : (k now : ℕ) → RowsSo k now → k ≡ g.N → RowsFound g (Ok now)
  unfolding Passed
  rows_end k now so e = (rw e at so.passed, rw (← e) so.wait)
