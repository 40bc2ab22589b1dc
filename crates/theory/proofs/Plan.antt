-- The plain loop's closed form. Without CARRY, BOUNDS and ALIGN each element is a function of the windows as they are at the
-- start: the loop leaves work as it was, but for the bytes from S on, which hold the tree's values in their order.
use mathlib.Core.Path.{◌≡◌, refl, sym, ap, ◌∙◌}
use mathlib.Core.List.{List}
use Prim.Native.Nat.{ℕ, zero, suc, ◌+◌, ◌-◌, ◌*◌, ◌/◌, ◌%◌, ◌≤◌, ◌<◌}
use native.Mathlib.Nat.{add_assoc, mul-le-mul_right, mod-lt, div-add-mod', div-lt_iff_lt-mul}
use native.Mathlib.Omega.{arith}
use lib.ListN.{length, get_or}
use lib.Seq.{ext_get_or, paste, length-paste}
use Rattle.rules.specs.Elements.{to_bytes}
use Rattle.rules.specs.Trees.{Tree}
use Rattle.rules.specs.PlainLoop.{value, plain}
use Rattle.rules.specs.Vectors.{lanes}
use Rattle.theory.proofs.Passing.{Loop, Passes}
use Rattle.theory.proofs.Lists.{split, paste_before, paste_in, paste_after, length_lanes, get_or_lanes}
use Rattle.theory.proofs.Numbers.{length_to_bytes, div_at, mod_at}
use Rattle.theory.proofs.Stream.{Kept, kept_reads, planned, value_same}

-- the first T planned bytes stand at S, and all else is as it was
pub record Upto (D S : ℕ) (work table : List ℕ) (t : Tree) (T : ℕ) (m : List ℕ) : Type 0 where
  pub kept : Kept S T work m
  pub done : (x : ℕ) → x < T → get_or m (S + x) 0 ≡ planned D work table t (x / D) (x % D)

module _ (D S : ℕ) (work table : List ℕ) (t : Tree) where
  -- that says every byte
  pub upto_unique : (T : ℕ) (m o : List ℕ) → Upto D S work table t T m → Upto D S work table t T o → m ≡ o
  upto_unique T m o p q = ext_get_or 0 m o (p.kept.len ∙ sym q.kept.len) (λ i h. same i)
    where
      same : (i : ℕ) → get_or m i 0 ≡ get_or o i 0
      same i = split i S (λ l. p.kept.before i l ∙ sym (q.kept.before i l))
          (λ (l : S ≤ i). split i (S + T)
          (λ k. let e : S + (i - S) ≡ i = omega arith in
          rw e at (p.done (i - S) (omega arith) ∙ sym (q.done (i - S) (omega arith))))
          (λ k. p.kept.after i k ∙ sym (q.kept.after i k)))

  pub upto_start : Upto D S work table t 0 work
  upto_start = record {
    kept = record { len = refl; before = λ x h. refl; after = λ x h. refl };
    done = λ x h. absurd (omega arith);
  }

  pub upto_cast : (T U : ℕ) (m : List ℕ) → T ≡ U → Upto D S work table t T m → Upto D S work table t U m
  upto_cast T U m e u = rw (← e) u

module _ (W D n S : ℕ) (work table : List ℕ) (t : Tree) (c : Loop W D n S work table) (g : Passes W D n S work table t) where
  -- element i, computed on the window as it then stands, is the planned one
  element_upto : (i : ℕ) (m : List ℕ) → i < n → Upto D S work table t (i * D) m
      → Upto D S work table t (suc i * D) (paste m (S + i * D) (to_bytes D (value D m table t i)) D)
  element_upto i m h u =
      let v : List ℕ = to_bytes D (value D m table t i) in
      let hd : S + i * D + D ≤ length m = omega (arith, u.kept.len, c.bounds, mul-le-mul_right D h) in
      let hs : D ≤ length v = omega (arith, length_to_bytes D (value D m table t i)) in
      record {
        kept = record {
          len = length-paste m (S + i * D) v D hd hs ∙ u.kept.len;
          before = λ x l. paste_before m (S + i * D) v D hd hs x (omega arith) ∙ u.kept.before x l;
          after = λ x l. paste_after m (S + i * D) v D hd hs x (omega arith) ∙ u.kept.after x (omega arith);
        };
        done = λ x l. split x (i * D)
            (λ k. paste_before m (S + i * D) v D hd hs (S + x) (omega arith) ∙ u.done x k)
            (λ (k : i * D ≤ x).
            let e : i * D + (x - i * D) ≡ x = omega arith in
            let b : x - i * D < D = omega arith in
            rw (← e, ← add_assoc, div_at D i (x - i * D) b, mod_at D i (x - i * D) b)
            (paste_in m (S + i * D) v D hd hs (x - i * D) b
            ∙ ap (λ (y : ℕ). get_or (to_bytes D y) (x - i * D) 0)
            (value_same W D n S work table c (i * D) m (kept_reads W D n S work table c (i * D) m u.kept) t g i (omega arith) h)));
      }

  plain_upto_element : (i : ℕ) → i ≤ n → Upto D S work table t (i * D) (plain D S work table t i)
  unfolding plain
  plain_upto_element zero h = upto_cast D S work table t 0 (0 * D) work (omega arith) (upto_start D S work table t)
  plain_upto_element (suc i) h = element_upto i (plain D S work table t i) h (plain_upto_element i (omega arith))

  pub plain_upto : Upto D S work table t (n * D) (plain D S work table t n)
  plain_upto = plain_upto_element n (omega arith)

  -- the values in their order
  abbrev pub values : List ℕ
  values = lanes n (λ i. to_bytes D (value D work table t i))

  length_values : length values ≡ n * D
  length_values = length_lanes D _ (λ i. length_to_bytes D _) n

  values_upto : Upto D S work table t (n * D) (paste work S values (n * D))
  values_upto =
      let hs : n * D ≤ length values = omega (arith, length_values) in
      record {
        kept = record {
          len = length-paste work S values (n * D) c.bounds hs;
          before = λ x l. paste_before work S values (n * D) c.bounds hs x l;
          after = λ x l. paste_after work S values (n * D) c.bounds hs x l;
        };
        done = λ x l.
            paste_in work S values (n * D) c.bounds hs x l
            ∙ ap (λ (y : ℕ). get_or values y 0) (sym (div-add-mod' x D))
            ∙ get_or_lanes D _ (λ i. length_to_bytes D _) n (x / D) (x % D) ((div-lt_iff_lt-mul c.element).1 l) (mod-lt x c.element);
      }

  -- THE CLOSED FORM
  pub plain_closed : plain D S work table t n ≡ paste work S values (n * D)
  plain_closed = upto_unique D S work table t (n * D) _ _ plain_upto values_upto
