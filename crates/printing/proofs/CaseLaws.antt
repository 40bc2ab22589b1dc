-- Where a byte is found, or that it is not; and a case lies within the input, after the place from which it was sought.
use Prim.Native.Nat.{ℕ, ◌+◌, ◌-◌, ◌≤◌, ◌<◌}
use mathlib.Core.Path.{◌≡◌, refl, ◌∙◌}
use mathlib.Core.Bool.{Bool, true, false, cond}
use mathlib.Core.List.{List}
use native.Mathlib.Omega.{arith}
use borrow.Author.Tests.{lt-ltb, le-ltb, ltb-true, ltb-false}
use lib.Dec.{ltb}
use lib.ListN.{length, drop}
use Rattle.std.proofs.lemmas.List.{length-drop, drop_all, take_all}
use Rattle.std.proofs.lemmas.List.Sums.{prefix_len-le-length}
use Rattle.std.specs.Prelude.{Option, Some, None, ◌==◌}
use Rattle.std.specs.Option.{option_map, unwrap_or}
use Rattle.std.specs.List.{position, position_or_len, slice_range}
use Rattle.rules.specs.Printing.{line_feed}
use Rattle.theory.proofs.Lists.{split}
use Rattle.printing.specs.Cases.{dash, place_of, found, text_start, case_at}
use Rattle.printing.specs.declared.cases.Case.{Case}

position_most : (p : ℕ → Bool) (xs : List ℕ) → position_or_len p xs ≤ length xs
position_most p xs = prefix_len-le-length _ xs

module _ (byte : ℕ) (input : List ℕ) where
  abbrev passed : ℕ → ℕ
  passed at = position_or_len (λ b. b == byte) (drop at input)

  passed_most : (at : ℕ) → passed at ≤ length input - at
  passed_most at = omega (arith, position_most (λ b. b == byte) (drop at input), length-drop at input)

  place_after : (at : ℕ) → at ≤ place_of byte input at
  unfolding place_of
  place_after at = omega arith

  pub place_between : (at : ℕ) → at ≤ length input → (at ≤ place_of byte input at) × (place_of byte input at ≤ length input)
  unfolding place_of
  place_between at h = (omega arith, omega (arith, passed_most at))

  -- a byte that stands in the rest of the input, and one that stands nowhere in it
  pub found_later : (at : ℕ) {rest : List ℕ} → rest ≡ slice_range input at (length input)
      → option_map (λ k. at + k) (position (λ b. b == byte) rest) ≡ found byte input at
  unfolding found
  found_later at e = rw (e, take_all (length input - at) (drop at input) (omega (arith, length-drop at input)))

  pub found_past : (at : ℕ) → length input < at → None ≡ found byte input at
  unfolding found
  found_past at h = rw (drop_all at input (omega arith))

  pub found_is : (at place : ℕ) → Some place ≡ found byte input at → (place ≡ place_of byte input at) × (place < length input)
  unfolding found place_of
  found_is at place = go (ltb (passed at) (length (drop at input))) refl
    where
      go : (t : Bool) → ltb (passed at) (length (drop at input)) ≡ t → Some place ≡ option_map (λ k. at + k) (cond t (Some (passed at)) None)
          → (place ≡ at + passed at) × (place < length input)
      go true l e =
          let s : place ≡ at + passed at = cc in
          (s, omega (arith, ltb-true (passed at) (length (drop at input)) l, length-drop at input))
      go false l e = (cc, cc)

  pub found_not : (at : ℕ) → None ≡ found byte input at → length input ≤ place_of byte input at
  unfolding found place_of
  found_not at = go (ltb (passed at) (length (drop at input))) refl
    where
      go : (t : Bool) → ltb (passed at) (length (drop at input)) ≡ t → None ≡ option_map (λ k. at + k) (cond t (Some (passed at)) None)
          → length input ≤ at + passed at
      go true l e = cc
      go false l e = omega (arith, ltb-false (passed at) (length (drop at input)) l, length-drop at input)

  -- the place, or the end
  pub found_or_end : (at : ℕ) → at ≤ length input → {o : Option ℕ} → o ≡ found byte input at
      → unwrap_or o (length input) ≡ place_of byte input at
  found_or_end at h {o} e = go o e
    where
      go : (o : Option ℕ) → o ≡ found byte input at → unwrap_or o (length input) ≡ place_of byte input at
      go None e = omega (arith, found_not at e, place_between at h)
      go (Some place) e = (found_is at place e).0

module _ (input : List ℕ) where
  pub starts_after_feed : (dash_at feed : ℕ) → Some feed ≡ found line_feed input dash_at → feed + 1 ≡ text_start input dash_at
  unfolding text_start
  starts_after_feed dash_at feed e =
      let f = found_is line_feed input dash_at feed e in
      rw (← f.0) (omega (arith, f.1))

  pub starts_at_end : (dash_at : ℕ) → None ≡ found line_feed input dash_at → length input ≡ text_start input dash_at
  unfolding text_start
  starts_at_end dash_at e = omega (arith, found_not line_feed input dash_at e)

  start_most : (dash_at : ℕ) → text_start input dash_at ≤ length input
  unfolding text_start
  start_most dash_at = omega arith

  pub no_case : (at : ℕ) → None ≡ found dash input at → None ≡ case_at input at
  unfolding case_at
  no_case at e = rw (le-ltb (place_of dash input at) (length input) (found_not dash input at e))

  pub next_case : (at : ℕ) {dash_at start past : ℕ} {o : Option ℕ} → Some dash_at ≡ found dash input at → start ≡ text_start input dash_at
      → o ≡ found dash input start → past ≡ unwrap_or o (length input) → Some (record { start = start; past = past }) ≡ case_at input at
  unfolding case_at
  next_case at {dash_at} {start} {past} e p o q =
      let f = found_is dash input at dash_at e in
      let ends : past ≡ place_of dash input start = q ∙ found_or_end dash input start (rw p (start_most dash_at)) o in
      rw (← f.0, lt-ltb dash_at (length input) f.1, ← p, ← ends)

-- ---- a case lies within the input, and past the place from which it was sought

pub case_within : (input : List ℕ) (at : ℕ) (c : Case) → Some c ≡ case_at input at
    → (at < c.start) × (c.start ≤ c.past) × (c.past ≤ length input)
unfolding case_at text_start
case_within input at c e = split (place_of dash input at) (length input)
    (λ (l : place_of dash input at < length input).
    let dash_at = place_of dash input at in
    let start = text_start input dash_at in
    let is : Some c ≡ Some (record { start = start; past = place_of dash input start }) = rw (lt-ltb dash_at (length input) l) at e in
    let c-is : c ≡ record { start = start; past = place_of dash input start } = cc in
    let d = place_after dash input at in
    let f = place_between line_feed input dash_at (omega arith) in
    let p = place_between dash input start (omega arith) in
    rw c-is (omega (arith, d, f.0), p.0, p.1))
    (λ l. let none : ◌≡◌ {A = Option Case} (Some c) None = rw (le-ltb (place_of dash input at) (length input) l) at e in cc)
