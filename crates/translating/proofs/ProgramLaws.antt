-- Which sections there are goes by n, then by F: the program's definition has a case for each of emit's.
use Prim.Native.Nat.{ℕ, zero, suc}
use native.Mathlib.Omega.{arith}
use mathlib.Core.Path.{◌≡◌, refl}
use mathlib.Core.List.{List}
use Rattle.rules.specs.Trees.{Tree}
use Rattle.rules.specs.Code.{full_vectors, rest_elements, only_section, prologue_section, body_of, epilogue_of, sections, program_of}
use Rattle.rules.specs.declared.program.ProgramHead.{ProgramHead}
use Rattle.translating.specs.Writing.{Written}
use Rattle.translating.specs.Programs.{Emitted}
use Rattle.translating.proofs.WritingLaws.{written_none}

module _ (W D n S : ℕ) (t : Tree) {d f e : ℕ} (is-D : d ≡ D) (is-F : f ≡ full_vectors W D n S) (is-e : e ≡ rest_elements W D n S)
    (P B E : List ℕ) where
  -- a head with so many rows in each section
  abbrev rows : (p b e : ℕ) → ProgramHead
  rows p b e = record { d = d; f = f; prologue = p; body = b; epilogue = e }

  -- the sections of the definition, by the numbers that the code found
  as_found : {h : ProgramHead} {P' B' E' : List ℕ} → Emitted D (sections W D n S t f e) h P B E P' B' E'
      → Emitted D (program_of W D n S t) h P B E P' B' E'
  unfolding program_of
  as_found m = rw (is-F, is-e) at m

  pub emitted_none : n ≡ 0 → Emitted D (program_of W D n S t) (rows 0 0 0) P B E P B E
  unfolding sections
  emitted_none z = as_found (go n z)
    where
      go : (n : ℕ) → n ≡ 0 → Emitted D (sections W D n S t f e) (rows 0 0 0) P B E P B E
      go zero z = record { width = is-D; full = refl; before = written_none P 0; between = written_none B 0; after = written_none E 0 }
      go (suc n) z = absurd (omega arith)

  pub emitted_only : (n ≡ 0 → ⊥) → f ≡ 0 → {P' : List ℕ} {p : ℕ} → Written P P' 0 p (only_section W S t D n)
      → Emitted D (program_of W D n S t) (rows p 0 0) P B E P' B E
  unfolding sections
  emitted_only some z {P'} {p} w = as_found (go n f some z w)
    where
      go : (n f : ℕ) → (n ≡ 0 → ⊥) → f ≡ 0 → Written P P' 0 p (only_section W S t D n)
          → Emitted D (sections W D n S t f e) (record { d = d; f = f; prologue = p; body = 0; epilogue = 0 }) P B E P' B E
      go zero f some z w = absurd (some refl)
      go (suc n) zero some z w = record { width = is-D; full = refl; before = w; between = written_none B 0; after = written_none E 0 }
      go (suc n) (suc f) some z w = absurd (omega arith)

  pub emitted_whole : (n ≡ 0 → ⊥) → (f ≡ 0 → ⊥) → {P' B' E' : List ℕ} {p b q : ℕ}
      → Written P P' 0 p (prologue_section W S t) → Written B B' 0 b (body_of W S t f) → Written E E' 0 q (epilogue_of W D S t e)
      → Emitted D (program_of W D n S t) (rows p b q) P B E P' B' E'
  unfolding sections
  emitted_whole some full {P'} {B'} {E'} {p} {b} {q} u v w = as_found (go n f some full u v w)
    where
      go : (n f : ℕ) → (n ≡ 0 → ⊥) → (f ≡ 0 → ⊥) → Written P P' 0 p (prologue_section W S t) → Written B B' 0 b (body_of W S t f)
          → Written E E' 0 q (epilogue_of W D S t e)
          → Emitted D (sections W D n S t f e) (record { d = d; f = f; prologue = p; body = b; epilogue = q }) P B E P' B' E'
      go zero f some full u v w = absurd (some refl)
      go (suc n) zero some full u v w = absurd (full refl)
      go (suc n) (suc f) some full u v w = record { width = is-D; full = refl; before = u; between = v; after = w }
