use Rattle.std.proofs.Common.{arith, ◌∙◌}
use Rattle.std.proofs.lemmas.List.{length-set}
use Rattle.pcm_script.proofs.Digits.{decoded-more, decoded-all}
use Rattle.pcm_script.proofs.hexadecimal.decode_into.Goals as goal

pub loop-at-preserved : goal.loop-at-preserved
loop-at-preserved c = record {
  room = length-set c.loop-at.bytes c.loop-at.at _ ∙ c.loop-at.invariant.room;
  so_far = decoded-more c.args.word.now c.loop-at.bytes c.loop-at.worths _ _ _ c.loop-at.at (omega (arith, c.loop-at.invariant.room))
      (omega (arith, c.loop-at.invariant.room)) c.worth_of-high.ensures c.worth_of-low.ensures c.byte_of.ensures c.loop-at.invariant.so_far;
}

pub returns : goal.returns
returns c =
    decoded-all c.args.word.now c.loop-at.bytes c.loop-at.worths c.loop-at.at (omega (arith, c.loop-at.invariant.room))
    (omega (arith, c.loop-at.invariant.room)) c.loop-at.invariant.so_far
