-- Bytes stored in a window one after the other are one store.
-- Assumes nothing.
use Prim.Native.Nat.{ℕ, ◌+◌, ◌/◌, ◌^◌, ◌≤◌}
use mathlib.Core.Path.{◌≡◌, sym, ◌∙◌}
use mathlib.Core.List.{List, ◌++◌, append_assoc}
use native.Mathlib.Nat.{add_assoc}
use native.Mathlib.Omega.{arith}
use lib.ListN.{length, take, drop, length-append}
use lib.Seq.{paste, take_all, take-paste, drop-paste, drop-drop}
use Rattle.rules.specs.Elements.{to_bytes}
use Rattle.theory.proofs.Numbers.{length_to_bytes}
use Rattle.theory.proofs.ElementLaws.{to_bytes_join}

-- two pastes side by side are one
paste_join : (w x y : List ℕ) (at d e : ℕ) → length x ≡ d → length y ≡ e → at ≤ length w
    → paste (paste w at x d) (at + d) y e ≡ paste w at (x ++ y) (d + e)
paste_join w x y at d e p q h =
    let tx : take d x ≡ x = take_all d x (omega arith) in
    let ty : take e y ≡ y = take_all e y (omega arith) in
    let txy : take (d + e) (x ++ y) ≡ x ++ y = take_all (d + e) (x ++ y) (omega (arith, length-append x y)) in
    let front : take (at + d) (paste w at x d) ≡ take at w ++ x = take-paste w at x d h (omega arith) ∙ rw tx in
    let back : drop (at + d + e) (paste w at x d) ≡ drop (at + (d + e)) w =
    sym (drop-drop e (at + d) (paste w at x d)) ∙ rw (drop-paste w at x d h (omega arith), drop-drop e (at + d) w, add_assoc at d e) in
    rw (front, back, ty, txy, append_assoc (take at w) x y)

-- the lower d bytes of a number and then the e above them
pub stores_join : (w : List ℕ) (at d e v : ℕ) → at ≤ length w
    → paste (paste w at (to_bytes d v) d) (at + d) (to_bytes e (v / 256 ^ d)) e ≡ paste w at (to_bytes (d + e) v) (d + e)
stores_join w at d e v h =
    paste_join w (to_bytes d v) (to_bytes e (v / 256 ^ d)) at d e (length_to_bytes d v) (length_to_bytes e (v / 256 ^ d)) h
    ∙ rw (to_bytes_join d e v)
