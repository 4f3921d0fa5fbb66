-- What can be seen of a desk without a step.
use Rattle.std.specs.Prelude.{◌≡◌, ◌<◌, ℕ, Bool, false, ◌&&◌}
use Rattle.std.specs.List.{list_all}
use Rattle.pcm_engine.specs.Types.{Kept, Kind, MapBook, PlayBook, Rate, RecordBook}
use Rattle.pcm_chain.specs.Counts.{IsNear}
use Rattle.pcm_desk.specs.PlayBooks.{is_play_free}
use Rattle.pcm_desk.specs.RunStates.{is_unheld}
use Rattle.pcm_desk.specs.Device.{map_slots, play_slots, record_slots}
use Rattle.pcm_desk.specs.Desk.{Desk, play_at, record_at}
use Rattle.pcm_engine.specs.declared.engine.EngineOf.{EngineOf}
use Rattle.pcm_engine.specs.Engines.{AreReady, desk_of, device_of}

-- no slot of a way is taken
abbrev pub plays_none : Desk → Bool
plays_none desk = list_all (λ (book : PlayBook). is_play_free book.state) desk.play

abbrev pub records_none : Desk → Bool
records_none desk = list_all (λ (book : RecordBook). is_unheld book.state) desk.recording

abbrev pub maps_none : Desk → Bool
maps_none desk = list_all (λ (book : MapBook). is_unheld book.state) desk.mapped

-- and of none
abbrev pub is_idle : Desk → Bool
is_idle desk = plays_none desk && (records_none desk && maps_none desk)

-- ---- slots of an engine that is ready

-- it has this slot, which plays
pub record HasPlaySlot {B : Type 0} (kind : B → Kind) (kept : B → Kept) (engine : EngineOf B) (slot : ℕ) : Type 0 where
  pub ready : AreReady kind kept engine
  pub there : slot < play_slots (device_of engine)

-- and this mapped one
pub record HasMapSlot {B : Type 0} (kind : B → Kind) (kept : B → Kept) (engine : EngineOf B) (place : ℕ) : Type 0 where
  pub ready : AreReady kind kept engine
  pub there : place < map_slots (device_of engine)

-- a slot that plays isn't free
pub record HasPlayTaken {B : Type 0} (kind : B → Kind) (kept : B → Kept) (engine : EngineOf B) (slot : ℕ) : Type 0 where
  pub ready : AreReady kind kept engine
  pub there : slot < play_slots (device_of engine)
  pub taken : is_play_free (play_at (device_of engine) (desk_of engine) slot).state ≡ false

-- nor is one that records
pub record HasRecordTaken {B : Type 0} (kind : B → Kind) (kept : B → Kept) (engine : EngineOf B) (slot : ℕ) : Type 0 where
  pub ready : AreReady kind kept engine
  pub there : slot < record_slots (device_of engine)
  pub taken : is_unheld (record_at (device_of engine) (desk_of engine) slot).state ≡ false

-- A plan's rate is the one that the rules name, and keeps the limits of a plan.
pub record IsPlanRate (named rate : Rate) : Type 0 where
  pub is : rate ≡ named
  pub near : IsNear rate
