-- A clone of a number is that number.
use Rattle.std.proofs.Common.{length}
use Rattle.tables.proofs.TableLaws.{padded_none}
use Rattle.translating_rows.proofs.clear.Goals as goal

pub returns : goal.returns
returns c =
    record {
      prologue_zero = rw (c.fill.ensures.after (λ y e. e)) (padded_none (length c.args.prologue.now));
      body_zero = rw (c.fill-2.ensures.after (λ y e. e)) (padded_none (length c.args.body.now));
      epilogue_zero = rw (c.fill-3.ensures.after (λ y e. e)) (padded_none (length c.args.epilogue.now));
    }
