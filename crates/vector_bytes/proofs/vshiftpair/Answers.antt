-- `vshiftpair`: two of the elements that straddle neighbours among the four of the pair.
use Rattle.std.proofs.Common.{◌≡◌, ℕ, ◌%◌, List, length, get_or, ◌∙◌, arith, rules, Fits, w8}
use Rattle.theory.proofs.Numbers.{Bytes}
use Rattle.vector_bytes.proofs.PairLaws.{pair_shifted, first_of_pair, second_of_pair, third_of_pair, fourth_of_pair}
use Rattle.vector_bytes.proofs.vshiftpair.Goals as goal

bytes_of : (v : List ℕ) → ((i : ℕ) → Fits w8 (get_or v i 0)) → Bytes v
unfolding Bytes
bytes_of v f i = (f i).fits

pub returns-then-at-lt-HALF : goal.returns-then-at-lt-HALF
returns-then-at-lt-HALF c =
    let a = c.args in
    let n1 : length a.v1 ≡ 16 = search rules in
    let n2 : length a.v2 ≡ 16 = search rules in
    let l = a.amount % 16 in
    c.joined.ensures
    ∙ pair_shifted a.v1 a.v2 n1 n2 0 (l % 8) l (bytes_of a.v1 (λ i. search rules)) (bytes_of a.v2 (λ i. search rules)) (omega arith)
    (omega (arith, c.if-at-lt-HALF.true)) (omega arith)
    (c.at-first.ensures ∙ first_of_pair a.v1 a.v2 n1 n2)
    (c.at-second.ensures ∙ second_of_pair a.v1 a.v2 n1 n2)
    (c.at-third.ensures ∙ third_of_pair a.v1 a.v2 n1 n2)
    c.straddling-lowest.ensures c.straddling-middle.ensures

pub returns : goal.returns
returns c =
    let a = c.args in
    let n1 : length a.v1 ≡ 16 = search rules in
    let n2 : length a.v2 ≡ 16 = search rules in
    let l = a.amount % 16 in
    c.joined-2.ensures
    ∙ pair_shifted a.v1 a.v2 n1 n2 8 (l % 8) l (bytes_of a.v1 (λ i. search rules)) (bytes_of a.v2 (λ i. search rules)) (omega arith)
    (omega (arith, c.if-at-lt-HALF.false)) (omega arith)
    (c.at-second.ensures ∙ second_of_pair a.v1 a.v2 n1 n2)
    (c.at-third.ensures ∙ third_of_pair a.v1 a.v2 n1 n2)
    (c.at-fourth.ensures ∙ fourth_of_pair a.v1 a.v2 n1 n2)
    c.straddling-middle.ensures c.straddling-highest.ensures
