use Rattle.std.proofs.Common.{◌≡◌, length}
use Rattle.pcm_script.proofs.Digits.{IsDecoded}
use Rattle.pcm_script.proofs.hexadecimal.decode_into.Given as goal

abbrev pub invariant-loop-at : goal.invariant-loop-at
invariant-loop-at l = record {
  room : length l.bytes ≡ length l.fn.bytes;
  so_far : IsDecoded l.worths l.word l.bytes l.at;
}
