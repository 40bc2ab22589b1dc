-- What the check finds an instruction's proof by: instructions that go by bytes are alike at every width, and an unknown kind is a fault.
use Rattle.machine_kinds.proofs.KindLaws.{load_by_bytes, pair_by_bytes, splice_by_bytes, store_by_bytes, unknown_tried}

pub ruleset kinds = (load_by_bytes, pair_by_bytes, splice_by_bytes, store_by_bytes, unknown_tried)
