-- The samples are whole frames.
use Rattle.std.proofs.Common.{◌≡◌, ◌%◌, length, sym, ap, ◌∙◌}
use Rattle.std.proofs.Math.Nat.{mul-mod_left}
use Rattle.pcm_feeder.specs.Streams.{interleaved}
use Rattle.pcm_feeder.proofs.Frames.{interleaved-frames_of}
use Rattle.pcm_feeder.proofs.last_frames.LastFrames.keep.Goals as goal

pub returns : goal.returns
returns c =
    let last = c.args.self.now in
    let samples = c.samples.result.now in
    let even : length samples % last.channels ≡ 0 = ap (λ n. n % last.channels) c.samples.ensures.len
    ∙ mul-mod_left last.frames last.channels in
    c.copy_from_slice.ensures.after
    ∙ sym (interleaved-frames_of last.channels samples even)
    ∙ ap interleaved c.samples.ensures.value
