-- What a contract sees of a `MapFeeder`: what it is fitted to. It keeps no sound.
use Rattle.std.specs.Prelude.{Option, Some, None}
use Rattle.pcm_feeder.specs.declared.map_feeder.MapFeeder.{MapFeeder}
use Rattle.pcm_feeder.specs.declared.stage.Spec.{Spec}
use Rattle.pcm_feeder.specs.Kept.{Kept, fresh, unfitted}

-- what is kept for a map, by the stage that each map is of
abbrev pub kept_for : {M : Type 0} → (M → Spec) → Option M → Kept
kept_for stage None = unfitted
kept_for stage (Some made) = fresh (stage made)

-- what a feeder keeps
abbrev pub kept_by_map : {M : Type 0} → (M → Spec) → MapFeeder M → Kept
kept_by_map stage feeder = kept_for stage feeder.fitted
