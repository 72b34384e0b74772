use Rattle.std.proofs.Common.{◌≡◌, ◌-◌, ◌^◌, ◌<◌, min, drop}
use Rattle.script_words.specs.Spelling.{value_after}
use Rattle.script_words.proofs.spelling.value.Given as goal

abbrev pub invariant-loop-digit : goal.invariant-loop-digit
invariant-loop-digit l = record {
  same : min (value_after l.value (drop l.digit-index l.digits)) (2 ^ 64 - 1) ≡ min (value_after 0 l.digits) (2 ^ 64 - 1);
  small : l.value < 2 ^ 64;
}
