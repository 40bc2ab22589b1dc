-- "Placing". A shift goes on an edge only where the offset is defined and changes; so the placed graph is the bare sheet with
-- shifts put in, the plain loop of the two is one, and the placed graph passes the offset rules, its root too.
-- Stands on the checks that the bare sheet passed, and on Dominant.antt for DOMINANT's offset being one of those met.
use mathlib.Core.Path.{◌≡◌, refl, sym, ap₂, ◌∙◌}
use mathlib.Core.Logic.{◌≢◌, ◌⊎◌, inl, inr, ⊎_elim}
use mathlib.Core.Bool.{Bool, true, false, cond}
use mathlib.Core.List.Memᴰ
use mathlib.Core.List.{List, ◌∷◌, Memᴰ}
use Prim.Native.Nat.{ℕ, zero, suc, ◌*◌, ◌/◌, ◌%◌, ◌<◌}
use native.Mathlib.Nat.{mod-lt, mod-mod_of_dvd, dvd-mul_left, zero-mod}
use borrow.Author.Tests.{eqb-true, eqb-false, eq-eqb}
use lib.Dec.{eqb}
use Rattle.rules.specs.Limits.{operations}
use Rattle.rules.specs.Elements.{modulus, operate}
use Rattle.rules.specs.Trees.{Tree, load, splat, op, shift, bytes}
use Rattle.rules.specs.PlainLoop.{value, plain}
use Rattle.rules.specs.Offsets.{agree, join, offset, root_kept}
use Rattle.rules.specs.Placing.{shifted, toward, loads_to, meet_at, inputs_to, load_offsets, dominant, place}
use Rattle.rules.specs.declared.nodes.Offset.{Offset}
use Rattle.rules.specs.declared.nodes.Offset.TheVariants.{At, Undefined}
use Rattle.theory.proofs.Passing.{Loop, LoadPasses, ShiftPasses, Passes}
use Rattle.theory.proofs.Dominant.{dominant_oftenest}

-- ---- what each part of a rule puts in

-- "A shift goes on an edge only where the offset is defined and changes": what holds of t where it stays and of a shift where
-- the offset changes holds of t sent to g
pub toward_is : (P : Tree → Type 0) (W g : ℕ) (t : Tree) → (agree (At (bytes g)) (offset W t) ≡ true → P t)
    → ((a : ℕ) → offset W t ≡ At (bytes a) → a ≢ g → P (shift a g t)) → P (toward W g t)
unfolding toward
toward_is P W g t stays goes = go (offset W t) refl
  where
    go : (o : Offset) → offset W t ≡ o → P (shifted o g t)
    go Undefined e = stays (rw e refl)
    go (At a) e = pick (eqb a.0 g) refl
      where
        pick : (x : Bool) → eqb a.0 g ≡ x → P (cond x t (shift a.0 g t))
        pick true q = stays (rw e (eq-eqb g a.0 (sym (eqb-true a.0 g q))))
        pick false q = goes a.0 e (eqb-false a.0 g q)

-- an op's inputs stay where they agree, and else each goes to g
pub inputs_are : (P : Tree → Type 0) (W g o : ℕ) (l r : Tree) → (agree (offset W l) (offset W r) ≡ true → P (op o l r))
    → (agree (offset W l) (offset W r) ≡ false → P (op o (toward W g l) (toward W g r))) → P (meet_at W g o l r)
inputs_are P W g o l r stay part = go (agree (offset W l) (offset W r)) refl
  where
    go : (x : Bool) → agree (offset W l) (offset W r) ≡ x → P (cond x (op o l r) (op o (toward W g l) (toward W g r)))
    go true e = stay e
    go false e = part e

-- the four rules; LAZY and DOMINANT send disagreeing inputs to an offset that is met among the loads and the store
pub place_is : (P : Tree → Type 0) (W S : ℕ) (t : Tree) → P (toward W (S % W) (loads_to W 0 t)) → P (loads_to W (S % W) t)
    → ((g : ℕ) → Memᴰ g (S % W ∷ load_offsets W t) → P (toward W (S % W) (inputs_to W g t))) → (rule : ℕ) → P (place W S rule t)
unfolding place
place_is P W S t z e m zero = z
place_is P W S t z e m (suc zero) = e
place_is P W S t z e m (suc (suc zero)) = m (S % W) (Memᴰ.head refl)
place_is P W S t z e m (suc (suc (suc r))) = m (dominant W S t) (dominant_oftenest W S t).one

-- ---- the placed graph is the bare sheet with shifts put in

-- a tree without its shifts
abbrev pub stripped : Tree → Tree
stripped (load w a) = load w a
stripped (splat v) = splat v
stripped (op o l r) = op o (stripped l) (stripped r)
stripped (shift f g t) = stripped t

-- "A bare sheet has no shift"
abbrev pub Unshifted : Tree → Type 0
Unshifted (load w a) = Unit
Unshifted (splat v) = Unit
Unshifted (op o l r) = Unshifted l × Unshifted r
Unshifted (shift f g t) = ⊥

pub unshifted_stripped : (t : Tree) → Unshifted t → stripped t ≡ t
unshifted_stripped (load w a) b = refl
unshifted_stripped (splat v) b = refl
unshifted_stripped (op o l r) b = ap₂ (op o) (unshifted_stripped l b.0) (unshifted_stripped r b.1)
unshifted_stripped (shift f g t) b = absurd b

toward_stripped : (W g : ℕ) (t : Tree) → stripped (toward W g t) ≡ stripped t
toward_stripped W g t = toward_is (λ p. stripped p ≡ stripped t) W g t (λ e. refl) (λ a e d. refl)

pub loads_to_stripped : (W g : ℕ) (t : Tree) → stripped (loads_to W g t) ≡ stripped t
unfolding loads_to
loads_to_stripped W g (load w a) = toward_stripped W g (load w a)
loads_to_stripped W g (splat v) = refl
loads_to_stripped W g (op o l r) = ap₂ (op o) (loads_to_stripped W g l) (loads_to_stripped W g r)
loads_to_stripped W g (shift f h t) = loads_to_stripped W g t

pub inputs_to_stripped : (W g : ℕ) (t : Tree) → stripped (inputs_to W g t) ≡ stripped t
unfolding inputs_to
inputs_to_stripped W g (load w a) = refl
inputs_to_stripped W g (splat v) = refl
inputs_to_stripped W g (op o l r) =
    inputs_are (λ p. stripped p ≡ op o (stripped (inputs_to W g l)) (stripped (inputs_to W g r))) W g o (inputs_to W g l) (inputs_to W g r)
    (λ e. refl) (λ e. ap₂ (op o) (toward_stripped W g _) (toward_stripped W g _))
    ∙ ap₂ (op o) (inputs_to_stripped W g l) (inputs_to_stripped W g r)
inputs_to_stripped W g (shift f h t) = inputs_to_stripped W g t

pub place_strips : (W S rule : ℕ) (t : Tree) → stripped (place W S rule t) ≡ stripped t
place_strips W S rule t = place_is (λ p. stripped p ≡ stripped t) W S t
    (toward_stripped W (S % W) (loads_to W 0 t) ∙ loads_to_stripped W 0 t)
    (loads_to_stripped W (S % W) t)
    (λ g m. toward_stripped W (S % W) (inputs_to W g t) ∙ inputs_to_stripped W g t)
    rule

pub place_stripped : (W S rule : ℕ) (t : Tree) → Unshifted t → stripped (place W S rule t) ≡ t
place_stripped W S rule t b = place_strips W S rule t ∙ unshifted_stripped t b

-- ---- "A shift has the value of its child": what a tree computes is what it computes without its shifts

pub value_stripped : (D : ℕ) (work table : List ℕ) (t : Tree) (i : ℕ) → value D work table (stripped t) i ≡ value D work table t i
unfolding value
value_stripped D work table (load w a) i = refl
value_stripped D work table (splat v) i = refl
value_stripped D work table (op o l r) i = ap₂ (operate D o) (value_stripped D work table l i) (value_stripped D work table r i)
value_stripped D work table (shift f g t) i = value_stripped D work table t i

pub place_value : (D : ℕ) (work table : List ℕ) (W S rule : ℕ) (t : Tree) (i : ℕ)
    → value D work table (place W S rule t) i ≡ value D work table t i
place_value D work table W S rule t i =
    sym (value_stripped D work table (place W S rule t) i) ∙ rw (place_strips W S rule t) (value_stripped D work table t i)

pub place_plain : (D S : ℕ) (work table : List ℕ) (W rule : ℕ) (t : Tree) (n : ℕ)
    → plain D S work table (place W S rule t) n ≡ plain D S work table t n
unfolding plain
place_plain D S work table W rule t zero = refl
place_plain D S work table W rule t (suc i) =
    rw (place_plain D S work table W rule t i, place_value D (plain D S work table t i) table W S rule t i)

-- ---- "The root must agree with c"

-- two that agree with g agree
pub agree_at : (g : ℕ) (a b : Offset) → agree (At (bytes g)) a ≡ true → agree (At (bytes g)) b ≡ true → agree a b ≡ true
agree_at g Undefined b p q = refl
agree_at g (At a) Undefined p q = refl
agree_at g (At a) (At b) p q = eq-eqb a.0 b.0 (sym (eqb-true g a.0 p) ∙ eqb-true g b.0 q)

agree_join : (g : ℕ) (a b : Offset) → agree (At (bytes g)) a ≡ true → agree (At (bytes g)) b ≡ true → agree (At (bytes g)) (join a b) ≡ true
agree_join g Undefined b p q = q
agree_join g (At a) b p q = p

pub toward_agrees : (W g : ℕ) (t : Tree) → agree (At (bytes g)) (offset W (toward W g t)) ≡ true
toward_agrees W g t = toward_is (λ p. agree (At (bytes g)) (offset W p) ≡ true) W g t (λ e. e) (λ a e d. eq-eqb g g refl)

pub loads_to_agrees : (W g : ℕ) (t : Tree) → Unshifted t → agree (At (bytes g)) (offset W (loads_to W g t)) ≡ true
unfolding loads_to
loads_to_agrees W g (load w a) b = toward_agrees W g (load w a)
loads_to_agrees W g (splat v) b = refl
loads_to_agrees W g (op o l r) b =
    agree_join g (offset W (loads_to W g l)) (offset W (loads_to W g r)) (loads_to_agrees W g l b.0) (loads_to_agrees W g r b.1)
loads_to_agrees W g (shift f h t) b = absurd b

pub place_root : (W S rule : ℕ) (t : Tree) → Unshifted t → root_kept W S (place W S rule t) ≡ true
place_root W S rule t b = place_is (λ p. root_kept W S p ≡ true) W S t
    (toward_agrees W (S % W) _) (loads_to_agrees W (S % W) t b) (λ g m. toward_agrees W (S % W) _) rule

-- ---- the other offset rules

-- no shift, and every load's address is a multiple of D: what BARE and ALIGN, the refusals of placing, leave of a tree
abbrev pub Placeable : (D : ℕ) → Tree → Type 0
Placeable D (load w a) = a % D ≡ 0
Placeable D (splat v) = Unit
Placeable D (op o l r) = Placeable D l × Placeable D r
Placeable D (shift f g t) = ⊥

pub placeable_unshifted : (D : ℕ) (t : Tree) → Placeable D t → Unshifted t
placeable_unshifted D (load w a) b = tt
placeable_unshifted D (splat v) b = tt
placeable_unshifted D (op o l r) b = (placeable_unshifted D l b.0, placeable_unshifted D r b.1)
placeable_unshifted D (shift f g t) b = absurd b

-- loads are aligned, the inputs of ops agree, and shifts are as they must be
abbrev pub Settled : (W D : ℕ) → Tree → Type 0
Settled W D (load w a) = a % D ≡ 0
Settled W D (splat v) = Unit
Settled W D (op o l r) = Settled W D l × Settled W D r × (agree (offset W l) (offset W r) ≡ true)
Settled W D (shift f g t) = ShiftPasses W D f g (offset W t) × Settled W D t

module _ (W D : ℕ) (vector : 0 < W) (lanes : W / D * D ≡ W) where
  -- an offset that a shift may have
  abbrev Fit : ℕ → Type 0
  Fit g = (g < W) × (g % D ≡ 0)

  abbrev Fits : Offset → Type 0
  Fits Undefined = Unit
  Fits (At a) = Fit a.0

  mod_fit : (a : ℕ) → a % D ≡ 0 → Fit (a % W)
  mod_fit a z = (mod-lt a vector, mod-mod_of_dvd D a (rw lanes at (dvd-mul_left D (W / D))) ∙ z)

  offset_fits : (t : Tree) → Settled W D t → Fits (offset W t)
  offset_fits (load w a) p = mod_fit a p
  offset_fits (splat v) p = tt
  offset_fits (op o l r) p = both (offset W l) (offset W r) (offset_fits l p.0) (offset_fits r p.1)
    where
      both : (a b : Offset) → Fits a → Fits b → Fits (join a b)
      both Undefined b x y = y
      both (At a) b x y = x
  offset_fits (shift f g t) p = (p.0.to_small, p.0.to_align)

  module _ (g : ℕ) (fit : Fit g) where
    toward_settled : (t : Tree) → Settled W D t → Settled W D (toward W g t)
    toward_settled t p = toward_is (Settled W D) W g t (λ e. p) λ a e d.
        let k : Fit a = rw e at (offset_fits t p) in (
          record { differ = d; from_small = k.0; to_small = fit.0; from_align = k.1; to_align = fit.1; offset = e },
          p,
        )

    loads_to_settled : (t : Tree) → Placeable D t → Settled W D (loads_to W g t)
    unfolding loads_to
    loads_to_settled (load w a) b = toward_settled (load w a) b
    loads_to_settled (splat v) b = tt
    loads_to_settled (op o l r) b = (
      loads_to_settled l b.0,
      loads_to_settled r b.1,
      agree_at g (offset W (loads_to W g l)) (offset W (loads_to W g r))
          (loads_to_agrees W g l (placeable_unshifted D l b.0)) (loads_to_agrees W g r (placeable_unshifted D r b.1)),
    )
    loads_to_settled (shift f h t) b = absurd b

    inputs_to_settled : (t : Tree) → Placeable D t → Settled W D (inputs_to W g t)
    unfolding inputs_to
    inputs_to_settled (load w a) b = b
    inputs_to_settled (splat v) b = tt
    inputs_to_settled (op o l r) b =
        let p : Settled W D (inputs_to W g l) = inputs_to_settled l b.0 in
        let q : Settled W D (inputs_to W g r) = inputs_to_settled r b.1 in
        inputs_are (Settled W D) W g o (inputs_to W g l) (inputs_to W g r)
        (λ e. (p, q, e))
        (λ e. (
          toward_settled (inputs_to W g l) p,
          toward_settled (inputs_to W g r) q,
          agree_at g (offset W (toward W g (inputs_to W g l))) (offset W (toward W g (inputs_to W g r))) (toward_agrees W g _) (toward_agrees W g _),
        ))
    inputs_to_settled (shift f h t) b = absurd b

  load_offsets_fit : (t : Tree) → Placeable D t → (g : ℕ) → Memᴰ g (load_offsets W t) → Fit g
  load_offsets_fit (load w a) b g m = rw (Memᴰ.eq_of_singleton m) (mod_fit a b)
  load_offsets_fit (splat v) b g m = absurd (Memᴰ.not-nil m)
  load_offsets_fit (op o l r) b g m =
      ⊎_elim (load_offsets_fit l b.0 g) (load_offsets_fit r b.1 g) (Memᴰ.append_cases (load_offsets W l) m)
  load_offsets_fit (shift f h t) b g m = absurd b

  -- OFFSET is never given after placing
  pub place_settled : (S rule : ℕ) (t : Tree) → S % D ≡ 0 → Placeable D t → Settled W D (place W S rule t)
  place_settled S rule t z b =
      let c : Fit (S % W) = mod_fit S z in
      place_is (Settled W D) W S t
      (toward_settled (S % W) c _ (loads_to_settled 0 (vector, zero-mod D) t b))
      (loads_to_settled (S % W) c t b)
      (λ g m. toward_settled (S % W) c _ (inputs_to_settled g (met g (Memᴰ.cases_cons m)) t b))
      rule
    where
      met : (g : ℕ) → (g ≡ S % W) ⊎ Memᴰ g (load_offsets W t) → Fit g
      met g (inl e) = rw e (mod_fit S z)
      met g (inr m) = load_offsets_fit t b g m

-- ---- the checks that the bare sheet passed are passed by the placed graph

-- a bare sheet that passes the checks before OFFSET
abbrev pub Bare : (D n S : ℕ) → List ℕ → List ℕ → Tree → Type 0
Bare D n S work table (load w a) = LoadPasses D n S work table w a
Bare D n S work table (splat v) = v < modulus D
Bare D n S work table (op o l r) = Bare D n S work table l × Bare D n S work table r × (o < operations)
Bare D n S work table (shift f g t) = ⊥

pub bare_placeable : (D n S : ℕ) (work table : List ℕ) (t : Tree) → Bare D n S work table t → Placeable D t
bare_placeable D n S work table (load w a) b = b.align
bare_placeable D n S work table (splat v) b = tt
bare_placeable D n S work table (op o l r) b = (bare_placeable D n S work table l b.0, bare_placeable D n S work table r b.1)
bare_placeable D n S work table (shift f g t) b = absurd b

module _ (W D n S : ℕ) (work table : List ℕ) where
  settled_passes : (t : Tree) → Settled W D t → Bare D n S work table (stripped t) → Passes W D n S work table t
  settled_passes (load w a) p b = b
  settled_passes (splat v) p b = b
  settled_passes (op o l r) p b = (settled_passes l p.0 b.0, settled_passes r p.1 b.1, p.2, b.2)
  settled_passes (shift f g t) p b = (p.0, settled_passes t p.1 b)

  pub place_passes : Loop W D n S work table → (rule : ℕ) (t : Tree) → Bare D n S work table t → Passes W D n S work table (place W S rule t)
  place_passes c rule t b =
      let k : Placeable D t = bare_placeable D n S work table t b in
      settled_passes (place W S rule t) (place_settled W D c.vector c.lanes S rule t c.align k)
      (rw (place_stripped W S rule t (placeable_unshifted D t k)) b)
