-- A rule's number above the last moves what the last does.
use Rattle.std.specs.Prelude.{ℕ, zero, suc, ◌≡◌}
use mathlib.Core.Path.{refl}
use Rattle.std.specs.Result.{result_unwrap_or}
use Rattle.rules.specs.Kinds.{rule_number, rule_of}
use Rattle.rules.specs.declared.kinds.Rule.TheVariants.{Dominant}
use Rattle.placing_targets.specs.Rules.{moves_of}

pub last_for_others : (W S rule d : ℕ) → moves_of W S (rule_number (result_unwrap_or (rule_of rule) Dominant)) d ≡ moves_of W S rule d
unfolding moves_of
last_for_others W S zero d = refl
last_for_others W S (suc zero) d = refl
last_for_others W S (suc (suc zero)) d = refl
last_for_others W S (suc (suc (suc zero))) d = refl
last_for_others W S (suc (suc (suc (suc k)))) d = refl
