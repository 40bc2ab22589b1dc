-- Digits written one after another, and lines after lines, make one run of stores from the first place on.
use Prim.Native.Nat.{ℕ, zero, suc, ◌+◌, ◌*◌, ◌/◌, ◌%◌, ◌<◌, min}
use mathlib.Core.Path.{◌≡◌, refl, sym, ap, ◌∙◌}
use mathlib.Core.List.{List, [], ◌∷◌, ◌++◌, append-nil}
use native.Mathlib.Nat.{zero-add}
use native.Mathlib.Numerals.{add-one}
use native.Mathlib.Omega.{arith}
use lib.ListN.{length, get_or, set, take, replicate, length-append, length-take}
use lib.Seq.{sets, length-sets, sets-eq, take-suc, take_all, drop-length}
use Rattle.theory.proofs.Lists.{split}
use Rattle.translating.proofs.WritingLaws.{sets_append}
use Rattle.rules.specs.Limits.{nodes_most, head_entries, row_entries, text_most}
use Rattle.rules.specs.Calls.{WithSheet, reading}
use Rattle.rules.specs.Printing.{digit_byte, hex, line_feed, line, sheet_in, placed_figures, drawn_figures, placed_lines, printed, drawn_label, drawn}
use Rattle.rules.specs.declared.printing.Figures.{Figures}
use Rattle.printing.specs.Lines.{line_length}

hex_append : (xs ys : List ℕ) → hex (xs ++ ys) ≡ hex xs ++ hex ys
unfolding hex
hex_append [] ys = refl
hex_append (x ∷ xs) ys = ap (λ (r : List ℕ). digit_byte (x / 16) ∷ digit_byte (x % 16) ∷ r) (hex_append xs ys)

length_hex : (xs : List ℕ) → length (hex xs) ≡ 2 * length xs
unfolding hex
length_hex [] = refl
length_hex (x ∷ xs) = omega (arith, length_hex xs)

module _ (out₀ said : List ℕ) (at : ℕ) where
  -- the digits of the first bytes
  abbrev pub digits : ℕ → List ℕ
  digits i = sets out₀ at (hex (take i said))

  pub no_digits : out₀ ≡ digits 0
  unfolding hex
  no_digits = refl

  hex_two : (byte : ℕ) → hex (byte ∷ []) ≡ digit_byte (byte / 16) ∷ digit_byte (byte % 16) ∷ []
  unfolding hex
  hex_two byte = refl

  pub two_digits : (i : ℕ) → i < length said → {out : List ℕ} → out ≡ digits i → {high low : ℕ}
      → high ≡ digit_byte (get_or said i 0 / 16) → low ≡ digit_byte (get_or said i 0 % 16)
      → {here : ℕ} → here ≡ at + 2 * i → set (set out here high) (here + 1) low ≡ digits (i + 1)
  two_digits i h o p q w =
      let byte : ℕ = get_or said i 0 in
      let two : List ℕ = digit_byte (byte / 16) ∷ digit_byte (byte % 16) ∷ [] in
      let l : length (hex (take i said)) ≡ 2 * i = length_hex (take i said) ∙ omega (arith, length-take i said) in
      let e : hex (take (i + 1) said) ≡ hex (take i said) ++ two =
      rw (add-one i, take-suc said i 0 h, hex_append (take i said) (byte ∷ []), hex_two byte) in
      rw (o, p, q, w, e, ← (sets_append out₀ at (hex (take i said)) two), l, add-one)

  pub line_ended : {i here : ℕ} → i ≡ length said → here ≡ at + 2 * i → {out : List ℕ} → out ≡ digits i
      → set out here line_feed ≡ sets out₀ at (hex said ++ (line_feed ∷ []))
  line_ended h w o =
      let e : take (length said) said ≡ said = take_all (length said) said (omega arith) in
      rw (o, w, h, e, ← (sets_append out₀ at (hex said) (line_feed ∷ [])), length_hex said)

-- ---- lines after lines

length_line : (label : ℕ) (f : Figures) → length (line label f) ≡ line_length
unfolding line hex
length_line label f = refl

pub length_lines : (s : WithSheet) (rules : ℕ) → length (placed_lines s rules) ≡ rules * line_length
unfolding placed_lines
length_lines s zero = refl
length_lines s (suc rule) =
    length-append (placed_lines s rule) (line rule (placed_figures s rule))
    ∙ omega (arith, length_lines s rule, length_line rule (placed_figures s rule))

module _ (s : WithSheet) (out₀ : List ℕ) where
  -- what stands when so many rules are printed
  abbrev pub shown : ℕ → List ℕ
  shown rules = sets out₀ 0 (placed_lines s rules)

  pub none_shown : out₀ ≡ shown 0
  unfolding placed_lines
  none_shown = refl

  pub shown_length : (rules : ℕ) {out : List ℕ} → out ≡ shown rules → length out ≡ length out₀
  shown_length rules o = rw o (length-sets out₀ 0 (placed_lines s rules))

  pub one_more_shown : (rule : ℕ) {out : List ℕ} → out ≡ shown rule → {f : Figures} → f ≡ placed_figures s rule
      → sets out (rule * line_length) (line rule f) ≡ shown (rule + 1)
  unfolding placed_lines
  one_more_shown rule o e =
      let l : rule * line_length ≡ 0 + length (placed_lines s rule) = omega (arith, length_lines s rule) in
      rw (o, e, add-one rule, l) (sets_append out₀ 0 (placed_lines s rule) (line rule (placed_figures s rule)))

-- lines that fill a table are all that it then holds
sets_whole : (out xs : List ℕ) → length out ≡ length xs → sets out 0 xs ≡ xs
sets_whole out xs e =
    sets-eq xs out 0 (omega arith) ∙ rw (zero-add, ← e, drop-length) (append-nil xs)

module _ (text : List ℕ) (s : WithSheet) (out₀ : List ℕ)
    (read : s ≡ reading (take text_most text) (replicate head_entries 0) (replicate (row_entries * nodes_most) 0)) where
  pub all_shown : length out₀ ≡ 4 * line_length → {out : List ℕ} → out ≡ shown s out₀ 4 → out ≡ printed text
  unfolding printed sheet_in
  all_shown e o = o ∙ sets_whole out₀ (placed_lines s 4) (e ∙ sym (length_lines s 4)) ∙ rw read

  pub drawn_shown : length out₀ ≡ line_length → {f : Figures} → f ≡ drawn_figures s → sets out₀ 0 (line drawn_label f) ≡ drawn text
  unfolding drawn sheet_in
  drawn_shown e p = sets_whole out₀ (line drawn_label _) (e ∙ sym (length_line drawn_label _)) ∙ rw (p, read)

-- a text that is shorter is its own first bytes
pub first_bytes : (most : ℕ) (text : List ℕ) {k : ℕ} → k ≡ min (length text) most → take k text ≡ take most text
first_bytes most text {k} e = split (length text) most
    (λ (h : length text < most).
    let n : k ≡ length text = omega arith in
    rw (n, take_all (length text) text (omega arith), take_all most text (omega arith)))
    (λ h. let n : k ≡ most = omega arith in rw n)
