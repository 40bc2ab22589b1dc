-- What a run that starts has: sections that are there, of at most 1,024 instructions, and an F of at most 2,048.
-- Assumes nothing.
use Prim.Native.Nat.{ℕ, ◌*◌, ◌≤◌}
use mathlib.Core.Path.{◌≡◌, sym, ap}
use mathlib.Core.Bool.{false, not, ◌||◌}
use mathlib.Core.List.{List, [], ◌∷◌}
use borrow.Author.Tests.{ltb-false}
use lib.Dec.{ltb}
use lib.ListN.{length}
use Rattle.rules.specs.Limits.{vector_bytes, full_most, section_most, instruction_entries}
use Rattle.rules.specs.Answers.{Answer, done}
use Rattle.rules.specs.Units.{is_width}
use Rattle.rules.specs.Checks.{room_check, window_check, section_long, start_fault}
use Rattle.rules.specs.Calls.{start_answer}
use Rattle.rules.specs.declared.program.ProgramHead.{ProgramHead}
use Rattle.theory.proofs.FormLaws.{each_check_done, refuse_done, neither}

-- a section that is there, as far as its rows go
record Whole (rows : ℕ) (section : List ℕ) : Type 0 where
  pub most : rows ≤ section_most
  pub fits : instruction_entries * rows ≤ length section

whole : (rows : ℕ) (section : List ℕ) → section_long rows section ≡ false → Whole rows section
whole rows section e =
    let n = neither (ltb section_most rows) (ltb (length section) (instruction_entries * rows)) e in
    record { most = ltb-false section_most rows n.0; fits = ltb-false (length section) (instruction_entries * rows) n.1 }

module _ (h : ProgramHead) (prologue body epilogue work table : List ℕ) where
  -- a run that starts has whole sections and few enough passes
  pub record Ready : Type 0 where
    pub prologue_rows : h.prologue ≤ section_most
    pub body_rows : h.body ≤ section_most
    pub epilogue_rows : h.epilogue ≤ section_most
    pub prologue_fits : instruction_entries * h.prologue ≤ length prologue
    pub body_fits : instruction_entries * h.body ≤ length body
    pub epilogue_fits : instruction_entries * h.epilogue ≤ length epilogue
    pub full_fits : h.f ≤ full_most vector_bytes

  pub ready : done ≡ start_answer vector_bytes h prologue body epilogue (length work) (length table) → Ready
  ready e =
      let long = section_long h.prologue prologue || section_long h.body body || section_long h.epilogue epilogue in
      let checks = room_check long ∷ window_check vector_bytes (length work) (length table) ∷ start_fault vector_bytes h ∷ [] in
      let each = each_check_done checks (sym (ap (λ (a : Answer). a.number) e)) in
      let l = neither (section_long h.prologue prologue || section_long h.body body) (section_long h.epilogue epilogue) (refuse_done long 0 0 (each 0)) in
      let m = neither (section_long h.prologue prologue) (section_long h.body body) l.0 in
      let first = whole h.prologue prologue m.0 in
      let middle = whole h.body body m.1 in
      let last = whole h.epilogue epilogue l.1 in
      let fault = not (is_width h.d) || ltb (full_most vector_bytes) h.f in
      let f = neither (not (is_width h.d)) (ltb (full_most vector_bytes) h.f) (refuse_done fault 12 0 (each 2)) in
      record {
        prologue_rows = first.most;
        body_rows = middle.most;
        epilogue_rows = last.most;
        prologue_fits = first.fits;
        body_fits = middle.fits;
        epilogue_fits = last.fits;
        full_fits = ltb-false (full_most vector_bytes) h.f f.1;
      }
