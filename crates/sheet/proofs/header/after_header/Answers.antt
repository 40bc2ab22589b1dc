-- A header out of range leaves zeros; the lines come out as their ending says.
use mathlib.Core.Path.{◌≡◌, sym, ◌∙◌}
use mathlib.Core.Bool.{true}
use Rattle.rules.specs.Ranges.{head_ok}
use Rattle.sheet.proofs.SheetLaws.{head_written, header_out, lines_at_width, lines_ended, lines_refused}
use Rattle.sheet.proofs.header.after_header.Goals as goal

pub returns-then-not-head_ok : goal.returns-then-not-head_ok
returns-then-not-head_ok c =
    header_out _ _ (sym c.head_ok.ensures ∙ c.if-not-head_ok.true) _ _ c.requires.zeroed

pub returns-in-Ok : goal.returns-in-Ok
returns-in-Ok c =
    let f = c.args.f in
    let good : head_ok f.x f.y f.z ≡ true =
    sym c.head_ok.ensures ∙ c.if-not-head_ok.false in
    lines_ended _ f _ _ _ _ _ good
    (lines_at_width _ f _ _ _ _ _ good c.width_of.ensures c.in-Ok.is c.read_lines.ensures)
    (head_written _ _ _ _ _ _ _ c.requires.zeroed.head_room c.requires.zeroed.head_zero c.put_head.ensures)

pub returns-in-Err : goal.returns-in-Err
returns-in-Err c =
    let f = c.args.f in
    let good : head_ok f.x f.y f.z ≡ true =
    sym c.head_ok.ensures ∙ c.if-not-head_ok.false in
    lines_refused _ f _ _ _ _ _ _ good
    (lines_at_width _ f _ _ _ _ _ good c.width_of.ensures c.in-Err.is c.read_lines.ensures)
    c.requires.zeroed.head_zero (c.clear.ensures ∙ rw c.read_lines.auto.nodes)
