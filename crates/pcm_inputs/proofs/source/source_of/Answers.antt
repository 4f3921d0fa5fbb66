use Rattle.pcm_wave.proofs.Limits.{settings-read}
use Rattle.pcm_inputs.proofs.source.source_of.Goals as goal

-- a wave that was read has a rate within the limits
pub converted_frames-frames-requires-clause-source : goal.converted_frames-frames-requires-clause-source
converted_frames-frames-requires-clause-source c =
    let read = settings-read c.args.bytes.items c.in-Ok.source.wave c.in-Ok.ensures.ok in
    rw (c.settings-settings.ensures, c.wave.ensures.value) (record { least = read.least; most = read.most })
