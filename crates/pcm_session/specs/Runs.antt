-- The outcome of calls one after another: the run of a script that has the same events.
use Rattle.std.specs.Prelude.{◌≡◌, ℕ, ℤ, List, [], ◌∷◌, ◌++◌, map}
use Rattle.std.specs.List.{flat_map}
use Rattle.pcm_oss.specs.declared.event.Event.{Event}
use Rattle.pcm_oss.specs.Replies.{Reply}
use Rattle.pcm_wave.specs.declared.pool.Pool.{Pool}
use Rattle.pcm_feeder.specs.Kept.{Kept}
use Rattle.pcm_sound.specs.DeviceList.{device_text}
use Rattle.pcm_sound.specs.Story.{story_of}
use Rattle.pcm_sound.specs.StoryReplies.{replies}
use Rattle.pcm_engine.specs.declared.engine.EngineOf.{EngineOf}
use Rattle.pcm_engine.specs.Brought.{IsCalled, padded}
use Rattle.pcm_engine.specs.Engines.{Stands, device_of, samples_most}
use Rattle.pcm_session.specs.Steps.{IsCallStep}

-- a call, with what came of it
pub record CallMade : Type 0 where
  pub event : Event
  pub bytes : List ℕ
  pub samples : List ℤ
  pub told : Reply
  pub handed : List ℕ

-- a call is a step to an engine from which the rest goes on, and what it asks is this event of a script
pub record Next {B : Type 0} (kept : B → Kept) (pool : Pool) (old : EngineOf B) (call : CallMade) (event : Event) (rest : EngineOf B → Type 0) : Type 0 where
  pub between : EngineOf B
  pub step : IsCallStep kept call.event call.bytes call.samples old between call.told call.handed
  pub called : IsCalled (device_of old) old.parent.handed call.event call.bytes (padded (samples_most old call.event) call.samples) pool event
  pub on : rest between

-- calls lead from one engine to another, and ask one after another the events of a script
abbrev pub CallsLead : {B : Type 0} → (B → Kept) → Pool → List CallMade → List Event → EngineOf B → EngineOf B → Type 0
CallsLead kept pool [] [] old new = new ≡ old
CallsLead kept pool (call ∷ calls) (event ∷ events) old new = Next kept pool old call event (λ between. CallsLead kept pool calls events between new)
CallsLead kept pool calls events old new = ⊥

-- The calls are the run of these events after those before: the replies are those of the script, and so are the bytes.
pub record RunsAs {B : Type 0} (kept : B → Kept) (pool : Pool) (before events : List Event) (calls : List CallMade) (old new : EngineOf B) : Type 0 where
  pub stands : Stands kept new pool (before ++ events)
  pub replies_are : map (λ call. call.told) calls ≡ replies (device_of old) pool (story_of (device_of old) pool before) events
  pub bytes_are : device_text (device_of old) pool (before ++ events) ≡ device_text (device_of old) pool before ++ flat_map (λ call. call.handed) calls

-- Whatever calls lead from one engine to another, and whatever script has the same events: the calls are its run.
abbrev pub RunScripts : {B : Type 0} → (B → Kept) → Type 0
RunScripts {B} kept = (pool : Pool) (before events : List Event) (calls : List CallMade) (old new : EngineOf B) → Stands kept old pool before → CallsLead kept pool calls events old new
    → RunsAs kept pool before events calls old new
