-- What a contract sees of an `EqFeeder`: what it is fitted to, and the frames that it keeps.
use Rattle.std.specs.Prelude.{pos, Option, Some, None}
use Rattle.pcm_feeder.specs.declared.stage.Spec.TheVariants.{Eq}
use Rattle.pcm_feeder.specs.Kept.{Kept, unfitted}
use Rattle.feed_eq.specs.declared.eq.EqFeeder.{EqFeeder}
use Rattle.feed_eq.specs.declared.equaliser.Equaliser.{Equaliser}
use Rattle.feed_eq.specs.Equalisers.{tail_of}

-- what is kept of a stream
abbrev pub kept_when : Option Equaliser → Kept
kept_when None = unfitted
kept_when (Some found) = record {
  spec = Some (Eq found.channels found.sections);
  phase = 0;
  ahead = pos 0;
  tail = tail_of found;
}

-- what a feeder keeps
abbrev pub kept_by_eq : EqFeeder → Kept
kept_by_eq feeder = kept_when feeder.fitted
