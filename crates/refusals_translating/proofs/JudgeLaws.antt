-- The first refusal of an ordered list of checks, where some of them are judged together: a list of lists is one list.
use Prim.Native.Nat.{ℕ, zero, suc, ◌+◌, ◌≤◌, ◌<◌, min}
use native.Mathlib.Omega.{arith}
use mathlib.Core.Path.{◌≡◌, refl, sym, ap, ◌∙◌}
use mathlib.Core.Bool.{Bool, true, false, ◌||◌}
use mathlib.Core.List.{List, [], ◌∷◌, ◌++◌}
use Rattle.std.specs.Prelude.{Result}
use borrow.Author.Tests.{lt-ltb, le-ltb}
use lib.Dec.{ltb}
use Rattle.rules.specs.Limits.{vector_bytes, long_most}
use Rattle.rules.specs.Answers.{Answer, ROOM, LONG, at, done, first, or_else, of_refusal, of_result}
use Rattle.rules.specs.Code.{G}
use Rattle.rules.specs.Tables.{Graph, graph_of}
use Rattle.rules.specs.Checks.{head_short, nodes_short, section_short, room_check, form_check, offset_check, long_check}
use Rattle.rules.specs.Calls.{checking, offset_checking, graph_tree, translate_answer}
use Rattle.rules.specs.declared.answers.Refusal.{Refusal}
use Rattle.theory.proofs.FormLaws.{Formed, each_check_done, passes_formed}
use Rattle.theory.proofs.Lists.{split}
use Rattle.theory.proofs.Firsts.{first_passed}
use Rattle.graph.specs.Headers.{header_of, graph_in}
use Rattle.graph.proofs.HeaderLaws.{header_graph}
use Rattle.graph_lines.proofs.StepLaws.{refused, last}
use Rattle.graph_size.specs.Sizing.{capped, size_of}
use Rattle.graph_size.proofs.SizeLaws.{checked_size}
use Rattle.refusals_translating.specs.Judging.{address_checks, size_check}

-- checks that are judged together come first one by one
pub first_nested : (before later : List Answer) → first (first before ∷ later) ≡ first (before ++ later)
unfolding first
first_nested [] later = refl
first_nested (a ∷ before) later = go a.number refl (first_nested before later)
  where
    go : (number : ℕ) → a.number ≡ number → first (first before ∷ later) ≡ first (before ++ later)
        → or_else (or_else number a (first before)).number (or_else number a (first before)) (first later)
        ≡ or_else number a (first (before ++ later))
    go zero e h = h
    go (suc number) e h = rw e

-- ---- LONG

-- the test of the size as it is counted
pub size_refused : (head nodes : List ℕ) (size : ℕ) → size ≡ size_of head nodes → long_most < size → at LONG 0 ≡ size_check head nodes
size_refused head nodes size e h = rw (← e, lt-ltb long_most size h)

pub size_passed : (head nodes : List ℕ) (size : ℕ) → size ≡ size_of head nodes → size ≤ long_most → done ≡ size_check head nodes
size_passed head nodes size e h = rw (← e, le-ltb long_most size h)

capped_long : (size : ℕ) → ltb long_most (capped size) ≡ ltb long_most size
unfolding capped
capped_long size = split long_most size
    (λ h. rw (lt-ltb long_most size h) (lt-ltb long_most (min size (long_most + 1)) (omega arith)))
    (λ h. rw (le-ltb long_most size h) (le-ltb long_most (min size (long_most + 1)) (omega arith)))

-- of a graph that passes it decides LONG
size_decides_long : (head nodes : List ℕ) → done ≡ checking vector_bytes head nodes
    → size_check head nodes ≡ long_check (graph_tree (graph_of head nodes))
unfolding long_check
size_decides_long head nodes passed =
    rw (checked_size head nodes (sym (ap (λ (a : Answer). a.number) passed)), capped_long (G (graph_tree (graph_of head nodes))))

-- ---- the order

-- no section is short: the tables of the graph are left
no_section_short : (tables : Bool) (a b c : Bool) → (a || b || c) ≡ false → (tables || a || b || c) ≡ tables
no_section_short true a b c h = refl
no_section_short false a b c h = h

some_section_short : (tables : Bool) (a b c : Bool) → (a || b || c) ≡ true → (tables || a || b || c) ≡ true
some_section_short true a b c h = refl
some_section_short false a b c h = h

module _ (head nodes : List ℕ) (work_len table_len : ℕ) (P B E : List ℕ) where
  abbrev g : Graph
  g = graph_of head nodes

  abbrev all : Answer
  all = translate_answer vector_bytes head nodes work_len table_len P B E

  abbrev later : List Answer
  later = offset_check vector_bytes g ∷ long_check (graph_tree g) ∷ []

  abbrev short : Bool
  short = section_short P || section_short B || section_short E

  pub room_found : true ≡ short → at ROOM 0 ≡ all
  unfolding first
  room_found h = rw (some_section_short (head_short head || nodes_short nodes) _ _ _ (sym h))

  module _ (h : false ≡ short) where
    by_form : first (checking vector_bytes head nodes ∷ (address_checks g work_len table_len ++ later)) ≡ all
    unfolding checking
    by_form =
        rw (no_section_short (head_short head || nodes_short nodes) _ _ _ (sym h))
        (first_nested (room_check (head_short head || nodes_short nodes) ∷ form_check vector_bytes g ∷ []) (address_checks g work_len table_len ++ later))

    pub form_refused : (r : Refusal) → of_refusal r ≡ checking vector_bytes head nodes → of_refusal r ≡ all
    form_refused r e = refused r _ (address_checks g work_len table_len ++ later) e ∙ by_form

    module _ (passed : done ≡ checking vector_bytes head nodes) where
      pub formed : Formed vector_bytes g
      unfolding checking
      formed = passes_formed vector_bytes g
          (each_check_done (room_check (head_short head || nodes_short nodes) ∷ form_check vector_bytes g ∷ [])
          (sym (ap (λ (a : Answer). a.number) passed)) 1)

      pub same_graph : graph_in (header_of head) nodes ≡ g
      same_graph = header_graph vector_bytes head nodes formed

      by_addresses : first (first (address_checks g work_len table_len) ∷ later) ≡ all
      by_addresses =
          first_nested (address_checks g work_len table_len) later
          ∙ sym (first_passed (checking vector_bytes head nodes) _ (sym passed)) ∙ by_form

      pub addresses_refused : (r : Refusal) → of_refusal r ≡ first (address_checks (graph_in (header_of head) nodes) work_len table_len)
          → of_refusal r ≡ all
      addresses_refused r e = refused r _ later (rw same_graph at e) ∙ by_addresses

      module _ (free : done ≡ first (address_checks (graph_in (header_of head) nodes) work_len table_len)) where
        by_offsets : first (offset_checking vector_bytes head nodes ∷ long_check (graph_tree g) ∷ []) ≡ all
        unfolding offset_checking
        by_offsets =
            let free' : done ≡ first (address_checks g work_len table_len) = rw same_graph at free in
            first_nested (checking vector_bytes head nodes ∷ offset_check vector_bytes g ∷ []) (long_check (graph_tree g) ∷ [])
            ∙ first_passed (checking vector_bytes head nodes) later (sym passed)
            ∙ sym (first_passed (first (address_checks g work_len table_len)) later (sym free'))
            ∙ by_addresses

        pub offsets_refused : (r : Refusal) → of_refusal r ≡ offset_checking vector_bytes head nodes → of_refusal r ≡ all
        offsets_refused r e = refused r _ (long_check (graph_tree g) ∷ []) e ∙ by_offsets

        pub size_decides : done ≡ offset_checking vector_bytes head nodes → {A : Type 0} (result : Result A Refusal)
            → of_result result ≡ size_check head nodes → of_result result ≡ all
        size_decides kept result e =
            last result _ (e ∙ size_decides_long head nodes passed)
            ∙ sym (first_passed (offset_checking vector_bytes head nodes) (long_check (graph_tree g) ∷ []) (sym kept))
            ∙ by_offsets

pub ruleset order = (room_found, form_refused, addresses_refused, offsets_refused, size_decides)
