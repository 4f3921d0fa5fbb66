-- What a call does to the engine of a session: one step, or none where its event is refused.
use Rattle.std.specs.Prelude.{ℕ, ℤ, List}
use Rattle.pcm_oss.specs.declared.event.Event.{Event}
use Rattle.pcm_oss.specs.Replies.{Reply}
use Rattle.pcm_feeder.specs.Kept.{Kept}
use Rattle.pcm_engine.specs.declared.engine.EngineOf.{EngineOf}
use Rattle.pcm_engine.specs.Brought.{padded}
use Rattle.pcm_engine.specs.Engines.{GoesByRules, StepsAsCalled, samples_most}

-- One step on an event that comes with these bytes and samples, and gives these bytes to the device: by the rules, and on each event of a
-- script that is the same, the step that the script takes.
pub record IsCallStep {B : Type 0} (kept : B → Kept) (event : Event) (bytes : List ℕ) (samples : List ℤ) (old new : EngineOf B) (told : Reply) (handed : List ℕ) : Type 0 where
  pub rules : GoesByRules kept event old new told
  pub called : StepsAsCalled kept event bytes (padded (samples_most old event) samples) old new told handed
