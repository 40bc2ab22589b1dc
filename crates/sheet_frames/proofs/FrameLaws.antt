-- A frame by its parts: it is whole where the kind's digits, each field's digits and the line feed are.
use Prim.Native.Nat.{ℕ, zero, suc, ◌+◌, ◌≤◌, ◌<◌}
use mathlib.Core.Path.{◌≡◌, refl, sym, ◌∙◌}
use mathlib.Core.Bool.{Bool, true, false, cond, ◌||◌, or-true}
use mathlib.Core.List.{List}
use native.Mathlib.Omega.{arith}
use lib.ListN.{length, get_or, get_or-eq_default}
use lib.Dec.{eqb}
use borrow.Author.Tests.{le-ltb, lt-ltb}
use Rattle.std.specs.Prelude.{Option, Some, None, option_and_then}
use Rattle.std.specs.Result.{result_ok}
use Rattle.rules.specs.Digits.{spelled}
use Rattle.rules.specs.Frames.{field_digits, frame_digits, frame_of, frame_at, end_kind}
use Rattle.rules.specs.Kinds.{frame_number, frame_kind}
use Rattle.rules.specs.declared.kinds.FrameKind.{FrameKind}
use Rattle.rules.specs.declared.kinds.FrameKind.TheVariants as Frame
use Rattle.rules.specs.declared.sheet.FieldDigits.{FieldDigits}
use Rattle.rules.specs.declared.sheet.Fields.{Fields}
use Rattle.sheet_frames.specs.Numbers.{digit_at, short, number_at, kind_at}
use Rattle.sheet_frames.proofs.DigitLaws.{no_digit, a_digit, zero_digit, zero_counts, digit_past_0, short_split, short_here, short_past, two, first_of_two, spelled_two, number_is, number_broken, spelt, broken}

module _ (text : List ℕ) (at kind : ℕ) (w : FieldDigits) where
  abbrev fed : Bool
  fed = eqb (get_or text (at + frame_digits w) 0) 10

  -- no line feed, whatever the digits are
  pub frame_unfed : fed ≡ false → None ≡ frame_of text at kind w
  unfolding frame_of
  frame_unfed e = rw e (go (short text at (frame_digits w)))
    where
      go : (t : Bool) → ◌≡◌ {A = Option Fields} None (cond t None None)
      go true = refl
      go false = refl

  pub frame_past : length text ≤ at + frame_digits w → None ≡ frame_of text at kind w
  frame_past h =
      let z : get_or text (at + frame_digits w) 0 ≡ 0 = get_or-eq_default text 0 h in
      frame_unfed (rw z)

  parts : short text at (frame_digits w)
      ≡ (short text at 2 || short text (at + 2) w.x || short text (at + 2 + w.x) w.y
      || short text (at + 2 + w.x + w.y) w.z)
  parts =
      let y : at + (2 + w.x) ≡ at + 2 + w.x = omega arith in
      let z : at + (2 + w.x + w.y) ≡ at + 2 + w.x + w.y = omega arith in
      rw (short_split text at (2 + w.x + w.y) w.z, short_split text at (2 + w.x) w.y, short_split text at 2 w.x, y, z)

  short_frame : short text at (frame_digits w) ≡ true → None ≡ frame_of text at kind w
  unfolding frame_of
  short_frame h = rw h

  -- a field that is broken
  pub broken_x : None ≡ number_at text (at + 2) w.x → None ≡ frame_of text at kind w
  broken_x e = short_frame (rw (parts, broken text (at + 2) w.x e, or-true))

  pub broken_y : None ≡ number_at text (at + 2 + w.x) w.y → None ≡ frame_of text at kind w
  broken_y e = short_frame (rw (parts, broken text (at + 2 + w.x) w.y e, or-true))

  pub broken_z : None ≡ number_at text (at + 2 + w.x + w.y) w.z → None ≡ frame_of text at kind w
  broken_z e = short_frame (rw (parts, broken text (at + 2 + w.x + w.y) w.z e, or-true))

  pub whole : (x y z : ℕ) → short text at 2 ≡ false → fed ≡ true
      → Some x ≡ number_at text (at + 2) w.x → Some y ≡ number_at text (at + 2 + w.x) w.y
      → Some z ≡ number_at text (at + 2 + w.x + w.y) w.z
      → Some (record { kind = kind; x = x; y = y; z = z; next = at + frame_digits w + 1 }) ≡ frame_of text at kind w
  unfolding frame_of
  whole x y z k feed ex ey ez =
      let sx = spelt text (at + 2) w.x x ex in
      let sy = spelt text (at + 2 + w.x) w.y y ey in
      let sz = spelt text (at + 2 + w.x + w.y) w.z z ez in
      let digits : short text at (frame_digits w) ≡ false = rw (parts, k, sx.0, sy.0, sz.0) in
      rw (digits, feed, sx.1, sy.1, sz.1)

-- ---- by the kind byte

-- the kind that a number names
abbrev kind_of : ℕ → Option FrameKind
kind_of n = result_ok (frame_kind n)

kind_most : (n : ℕ) → None ≡ kind_of n → end_kind < n
kind_most zero e = cc
kind_most (suc zero) e = cc
kind_most (suc (suc zero)) e = cc
kind_most (suc (suc (suc zero))) e = cc
kind_most (suc (suc (suc (suc zero)))) e = cc
kind_most (suc (suc (suc (suc (suc zero))))) e = cc
kind_most (suc (suc (suc (suc (suc (suc k)))))) e = omega arith

kind_numbered : (n : ℕ) (kind : FrameKind) → Some kind ≡ kind_of n → (n ≡ frame_number kind) × (n ≤ end_kind)
kind_numbered zero kind e = let k : kind ≡ Frame.Header = cc in (rw k, omega arith)
kind_numbered (suc zero) kind e = let k : kind ≡ Frame.Load = cc in (rw k, omega arith)
kind_numbered (suc (suc zero)) kind e = let k : kind ≡ Frame.Splat = cc in (rw k, omega arith)
kind_numbered (suc (suc (suc zero))) kind e = let k : kind ≡ Frame.Op = cc in (rw k, omega arith)
kind_numbered (suc (suc (suc (suc zero)))) kind e = let k : kind ≡ Frame.Shift = cc in (rw k, omega arith)
kind_numbered (suc (suc (suc (suc (suc zero))))) kind e = let k : kind ≡ Frame.End = cc in (rw k, omega arith)
kind_numbered (suc (suc (suc (suc (suc (suc k)))))) kind e = cc

kind_above : (n : ℕ) → end_kind < n → None ≡ kind_of n
kind_above n h = go (kind_of n) refl
  where
    go : (k : Option FrameKind) → k ≡ kind_of n → None ≡ kind_of n
    go None e = e
    go (Some kind) e = absurd (omega (arith, h, (kind_numbered n kind e).1))

module _ (text : List ℕ) (at : ℕ) where
  -- the text ends within the kind byte, or it is broken
  pub kind_past : length text < at + 2 → None ≡ kind_at text at
  unfolding kind_at
  kind_past h = rw (← number_broken text at 2 (short_past text at 2 (omega arith) h))

  pub kind_broken : None ≡ number_at text at 2 → None ≡ kind_at text at
  unfolding kind_at
  kind_broken e = rw (← e)

  pub kind_is : (n : ℕ) → Some n ≡ number_at text at 2 → kind_of n ≡ kind_at text at
  unfolding kind_at
  kind_is n e = rw (← e)

  -- a kind byte that does not begin with 0
  pub kind_past_0 : (get_or text at 0 ≡ 48 → ⊥) → None ≡ kind_at text at
  kind_past_0 ne = go (number_at text at 2) refl
    where
      go : (n : Option ℕ) → n ≡ number_at text at 2 → None ≡ kind_at text at
      go None e = kind_broken e
      go (Some n) e =
          let s = spelt text at 2 n e in
          let most = digit_past_0 (get_or text at 0) (first_of_two text at s.0) ne in
          kind_above n (omega (arith, s.1, spelled_two text at, most)) ∙ kind_is n e

  -- and one that does, by its second digit
  pub kind_by_second : get_or text at 0 ≡ 48 → kind_at text at ≡ option_and_then kind_of (digit_at (get_or text (at + 1) 0))
  kind_by_second first = go (digit_at (get_or text (at + 1) 0)) refl
    where
      go : (n : Option ℕ) → n ≡ digit_at (get_or text (at + 1) 0) → kind_at text at ≡ option_and_then kind_of n
      go None e = sym (kind_broken (number_broken text at 2 (short_here text at 1 2 (omega arith) (no_digit _ e))))
      go (Some n) e =
          let d = a_digit _ n e in
          let value : spelled text at 2 ≡ n = spelled_two text at ∙ rw (first, zero_counts, ← d.1) (omega arith) in
          sym (kind_is n (rw value at (number_is text at 2 (two text at (rw first zero_digit) d.0))))

  pub no_kind : None ≡ kind_at text at → None ≡ frame_at text at
  unfolding kind_at frame_at
  no_kind = go (number_at text at 2) refl
    where
      go : (n : Option ℕ) → n ≡ number_at text at 2 → None ≡ option_and_then kind_of n → None ≡ frame_at text at
      go None e k = rw (broken text at 2 e)
      go (Some n) e k = let s = spelt text at 2 n e in rw (s.0, ← s.1, lt-ltb end_kind n (kind_most n k))

  named : (kind : FrameKind) → Some kind ≡ kind_at text at
      → (short text at 2 ≡ false) × (spelled text at 2 ≡ frame_number kind) × (spelled text at 2 ≤ end_kind)
  unfolding kind_at
  named kind = go (number_at text at 2) refl
    where
      go : (n : Option ℕ) → n ≡ number_at text at 2 → Some kind ≡ option_and_then kind_of n
          → (short text at 2 ≡ false) × (spelled text at 2 ≡ frame_number kind) × (spelled text at 2 ≤ end_kind)
      go None e k = (cc, cc, cc)
      go (Some n) e k =
          let s = spelt text at 2 n e in
          let m = kind_numbered n kind k in
          (s.0, sym s.1 ∙ m.0, rw s.1 at m.1)

  pub kind_digits : (kind : FrameKind) → Some kind ≡ kind_at text at → short text at 2 ≡ false
  kind_digits kind e = (named kind e).0

  pub kind_known : (kind : FrameKind) → Some kind ≡ kind_at text at → (frame : Option Fields)
      → frame ≡ frame_of text at (frame_number kind) (field_digits (frame_number kind)) → frame ≡ frame_at text at
  unfolding frame_at
  kind_known kind e frame f =
      let n = named kind e in
      rw (n.0, le-ltb end_kind (spelled text at 2) n.2, n.1) f
