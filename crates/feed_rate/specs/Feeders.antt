-- What a contract sees of a `RateFeeder`: what it is fitted to, its counts, and the frames that it keeps.
use Rattle.std.specs.Prelude.{List, Option, Some, None}
use Rattle.pcm_format.specs.Frames.{Frame}
use Rattle.pcm_feeder.specs.declared.pace.Pace.{Pace}
use Rattle.pcm_feeder.specs.Kept.{Kept, unfitted}
use Rattle.pcm_feeder.specs.Pace.{rate_by, phase_by, ahead_by}
use Rattle.feed_rate.specs.Methods.{Method, spec_of}
use Rattle.feed_rate.specs.declared.fitted.Fitted.{Fitted}
use Rattle.feed_rate.specs.declared.interpolator.Interpolator.{Ghosts}
use Rattle.feed_rate.specs.declared.rate_feeder.RateFeeder.{RateFeeder}

-- what is kept at a pace
abbrev pub kept_at : Pace → Method → List Frame → Kept
kept_at pace method tail = record {
  spec = Some (spec_of method (rate_by pace));
  phase = phase_by pace;
  ahead = ahead_by pace;
  tail = tail;
}

-- what a feeder keeps by what it is fitted to
abbrev pub kept_by : Option Fitted → Method → List Frame → Kept
kept_by None method tail = unfitted
kept_by (Some fitted) method tail = kept_at fitted.pace method tail

-- what a feeder keeps
abbrev pub kept_of : {I : Type 0} {G : Ghosts I} → RateFeeder I G → Kept
kept_of {I} {G} feeder =
    let seen = G.seen feeder.interpolator in
    kept_by feeder.fitted seen.method seen.tail
