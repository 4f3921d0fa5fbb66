use Rattle.std.proofs.Common.{◌≡◌, ◌^◌, ◌<◌, take}
use Rattle.pcm_script.specs.Numbers.{digits_value}
use Rattle.pcm_script.proofs.number.digits_value.Given as goal

abbrev pub invariant-loop-digit : goal.invariant-loop-digit
invariant-loop-digit l = record {
  value : l.value ≡ digits_value l.base (take l.digit-index l.digits);
  room : l.value < 16 ^ l.digit-index;
}
