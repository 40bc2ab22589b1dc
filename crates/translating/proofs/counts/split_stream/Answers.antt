-- p + n is divided by B, and nothing passes 2^64.
use mathlib.Core.Path.{ap}
use native.Mathlib.Nat.{div-le_self}
use Rattle.rules.specs.Units.{width_bytes}
use Rattle.rules.specs.declared.units.ElementNumber.{ElementNumber}
use native.Mathlib.Omega.{arith}
use Rattle.translating.proofs.CountLaws.{offset_small}
use Rattle.translating.proofs.counts.split_stream.Goals as goal

pub overflow_add-end : goal.overflow_add-end
overflow_add-end c =
    let first = ap (λ (x : ElementNumber). x.0) c.element_of_byte-first.ensures in
    omega (arith, first, c.store_offset.ensures, offset_small c.args.store.0, div-le_self c.store_offset.result.0 (width_bytes c.args.width))

pub returns : goal.returns
returns c =
    let first = ap (λ (x : ElementNumber). x.0) c.element_of_byte-first.ensures in
    record {
      full_value = rw (first, c.store_offset.ensures, c.bytes-d.ensures);
      rest_value = rw (first, c.store_offset.ensures, c.bytes-d.ensures);
    }
