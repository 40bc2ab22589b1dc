-- The store is counted before the loop, and each load once.
use Prim.Native.Nat.{◌%◌}
use mathlib.Core.Path.{sym}
use mathlib.Core.List.{[], ◌∷◌}
use native.Mathlib.Omega.{arith}
use lib.ListN.{length-set}
use Rattle.rules.specs.Offsets.{store_offset}
use Rattle.rules.specs.Trees.{node_at}
use Rattle.placing_targets.proofs.MetLaws.{counted_store, counted_most, load_counted, other_counted}
use Rattle.placing_targets.proofs.dominant.count_met.Goals as goal
use Rattle.placing_targets.proofs.dominant.count_met.Goals.{in-Load, in_default}

pub loop-k-init : goal.loop-k-init
loop-k-init c =
    record { places = simp length-set; counted = counted_store c.args.head.store.0 (node_at c.args.nodes.now) }

pub overflow_add-counts : goal.overflow_add-counts
overflow_add-counts c =
    let l = c.loop-k in
    let offset = c.in-Load.load.address.0 % 16 in
    omega (arith, counted_most 16 (node_at c.args.nodes.now) (store_offset 16 c.args.head.store.0 ∷ []) l.k l.counts l.invariant.counted offset (omega arith))

pub loop-k-preserved : goal.loop-k-preserved
loop-k-preserved c =
    let l = c.loop-k in
    let node = node_at c.args.nodes.now in
    let before = store_offset 16 c.args.head.store.0 ∷ [] in
    elim c.match-node_at.branch [
      | in-Load w ↦
          rw w.counts-is
          (record {
            places = simp length-set l.invariant.places;
            counted = load_counted node before l.k l.counts w.in-Load.load (sym w.in-Load.ensures) l.invariant.places l.invariant.counted;
          })
      | in_default w ↦
          rw w.counts-is
          (record {
            places = l.invariant.places;
            counted = other_counted node before l.k l.counts _ (sym c.node_at.ensures) w.in_default.not-Load l.invariant.counted;
          })
    ]
