-- The first samples are brought to fewer bits.
use Rattle.std.proofs.Common.{◌*◌, ◌++◌, length, drop, sym, ap, ◌∙◌, arith}
use Rattle.pcm_feeder.proofs.Mapped.{frames-there}
use Rattle.feed_format.proofs.Written.{written-depth}
use Rattle.feed_format.proofs.depth.DepthFrameMap.put_frames.Goals as goal

pub returns : goal.returns
returns c =
    let depth = c.args.self.now in
    let n = c.args.frames in
    let input = c.args.input.now in
    let old = c.args.output.now in
    let within = frames-there depth.channels (length input) n (omega (arith, depth.limits.within.least)) c.requires.input in
    ap (λ front. front ++ drop (n * depth.channels) old) c.put_at_depth.ensures
    ∙ sym (written-depth depth.bits depth.channels n input old within)
