use Rattle.std.proofs.Common.{◌≡◌, take, length, All}
use Rattle.pcm_num.specs.Limit.{FitsBits}
use Rattle.pcm_chain.proofs.staging.copy_front.Given as goal

-- the first i samples were copied, each of which has 32 bits
abbrev pub invariant-loop-i : goal.invariant-loop-i
invariant-loop-i l = record {
  size : length l.frames ≡ length l.fn.frames;
  loaded : take l.i l.frames ≡ take l.i l.samples;
  fits : All (FitsBits 32) (take l.i l.samples);
}
