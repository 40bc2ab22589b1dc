-- The loop over the lines: the rows read so far stand in the table, and reading on from here gives what reading from the first line
-- on gives. Each line keeps it so, by what `line_does` says of the line.
use Prim.Native.Nat.{ℕ, zero, suc, ◌+◌, ◌-◌, ◌*◌, ◌≤◌}
use mathlib.Core.Path.{◌≡◌, refl, ◌∙◌}
use mathlib.Core.List.{List, [], ◌∷◌, ◌++◌}
use native.Mathlib.Omega.{arith}
use lib.ListN.{length, length-append, length-set}
use Rattle.std.specs.Prelude.{Option, Some, None, Result, Ok, Err}
use Rattle.rules.specs.Reading.{line_at, refused, follow, lines_from}
use Rattle.rules.specs.Tables.{padded}
use Rattle.theory.proofs.ReadingLaws.{NodeAfter, LineDoes, line_does}
use Rattle.tables.specs.Rows.{row_put}
use Rattle.tables.proofs.TableLaws.{padded_put_row}
use Rattle.rules.specs.declared.answers.Refusal.{Refusal}
use Rattle.rules.specs.declared.answers.Refusal.TheVariants.{Room}
use Rattle.rules.specs.declared.sheet.Row.{Row}
use Rattle.rules.specs.declared.sheet.Cursor.{Cursor}
use Rattle.rules.specs.declared.sheet.NodeRead.{NodeRead}
use Rattle.sheet.specs.Cursors.{Fresh, Reached}
use Rattle.sheet.specs.Left.{LinesLeft}

module _ (text : List ℕ) (D len : ℕ) (first : Cursor) where
  pub record Going (here : Cursor) (table : List ℕ) : Type 0 where
    pub rows : List ℕ
    pub three : length rows ≡ 3 * here.count
    pub holds : table ≡ padded len rows
    pub long : length table ≡ len
    pub same : (head : List ℕ) → lines_from 64 text D first head [] ≡ lines_from (64 - here.count) text D here head rows
    pub room : here.count ≤ 64
    pub line : here.line ≡ here.count + 2
    pub waits : here.waiting ≤ here.count
    pub near : here.at ≤ 27 + 27 * here.count

  pub begins : (table : List ℕ) → Fresh first → table ≡ padded len [] → length table ≡ len → Going first table
  begins table f e l =
      record {
        rows = [];
        three = omega arith;
        holds = e;
        long = l;
        same = λ head. rw f.count;
        room = omega arith;
        line = omega arith;
        waits = omega arith;
        near = omega arith;
      }

  module _ {here : Cursor} {table : List ℕ} (g : Going here table) where
    pub reached : Reached here
    reached = omega arith

    -- a line that is read last: how many more may follow does not matter
    last_line : (step : Result (Option NodeRead) Refusal) → line_at text D here ≡ step → (head : List ℕ) (end : Row → Cursor → _)
        → ((next : Row → Cursor → _) → follow step here head g.rows next ≡ follow step here head g.rows end)
        → lines_from 64 text D first head [] ≡ follow step here head g.rows end
    unfolding lines_from
    last_line step e head end any = g.same head ∙ go (64 - here.count)
      where
        go : (more : ℕ) → lines_from more text D here head g.rows ≡ follow step here head g.rows end
        go zero = rw e (any _)
        go (suc more) = rw e (any _)

    pub stops : (refusal : Refusal) → line_at text D here ≡ Err refusal → LinesLeft text D first len (Err refusal) table
    stops refusal e =
        record {
          nodes = [];
          table_is = tt;
          sheet_is = λ head. last_line (Err refusal) e head (λ row there. refused refusal) (λ next. refl);
        }

    pub ends : line_at text D here ≡ Ok None → LinesLeft text D first len (Ok here.count) table
    ends e =
        record {
          nodes = g.rows;
          table_is = g.holds;
          sheet_is = λ head. last_line (Ok None) e head (λ row there. refused Room) (λ next. refl);
        }

    pub node_after : (node : NodeRead) → line_at text D here ≡ Ok (Some node) → NodeAfter D here (here.at + 27) node.row node.there
    node_after node e =
        let does : LineDoes D here (here.at + 27) (Ok (Some node)) = rw e at (line_does text D here) in
        does

    pub more : (node : NodeRead) → line_at text D here ≡ Ok (Some node) → 192 ≤ len
        → Going node.there (row_put table here.count node.row)
    unfolding lines_from
    more node e r =
        let row = node.row in
        let there = node.there in
        let n = node_after node e in
        let one : 64 - here.count ≡ suc (64 - there.count) = omega arith in
        record {
          rows = g.rows ++ row.kind ∷ row.x ∷ row.y ∷ [];
          three = length-append g.rows (row.kind ∷ row.x ∷ row.y ∷ []) ∙ omega arith;
          holds = rw g.holds (padded_put_row len here.count row g.rows g.three (omega arith));
          long = simp length-set g.long;
          same = λ head. g.same head ∙ rw (one, e);
          room = omega arith;
          line = omega arith;
          waits = omega arith;
          near = omega arith;
        }
