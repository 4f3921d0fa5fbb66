use Rattle.std.proofs.Common.{◌++◌, ◌*◌, take, drop, ap, sym, ◌∙◌}
use Rattle.feed_volume.proofs.Written.{written-unity}
use Rattle.feed_volume.proofs.volume.VolumeFrameMap.put_frames.Goals as goal

pub returns-then-gain-eq65536-2 : goal.returns-then-gain-eq65536-2
returns-then-gain-eq65536-2 c =
    let n = c.args.frames in
    let input = c.args.input.now in
    let old = c.args.output.now in
    ap (λ front. front ++ drop (n * c.channels-channels.result) old) c.copy_from_slice.ensures.after
    ∙ ap (λ w. take (n * w) input ++ drop (n * w) old) c.channels-channels.ensures
    ∙ sym (written-unity c.args.self.now.layout c.args.gain n input old c.if-gain-eq65536.true c.if-gain-eq65536-2.true c.requires.input)
