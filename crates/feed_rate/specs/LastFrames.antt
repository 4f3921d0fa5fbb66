-- What an interpolator is seen as that keeps `LastFrames`.
use Rattle.pcm_feeder.specs.declared.last_frames.LastFrames.{LastFrames}
use Rattle.pcm_feeder.specs.LastFrames.{frames_kept}
use Rattle.feed_rate.specs.Methods.{Method}
use Rattle.feed_rate.specs.Outputs.{Seen}

-- an interpolator that keeps them, and takes none in before a feed ends
abbrev pub seen_with : LastFrames → Method → Seen
seen_with last method = record { method = method; tail = frames_kept last; passed = 0 }
