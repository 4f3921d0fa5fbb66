use Rattle.std.proofs.Common.{◌≡◌, ℕ, List, get_or, map, sym, subst}
use Rattle.std.specs.List.{range_with_len}
use Rattle.pcm_format.specs.Frames.{Frame}
use Rattle.pcm_engine.specs.Types.{Event, Kept, Pool}
use Rattle.pcm_wave.specs.Pools.{capture_frames, silent_frame}
use Rattle.pcm_desk.specs.Device.{DeviceSeen, device_settings, device_filters}
use Rattle.pcm_desk.specs.Desk.{record_at}
use Rattle.pcm_sound.specs.Pools.{AreAlike}
use Rattle.pcm_sound.specs.Story.{Story, story_of}
use Rattle.pcm_sound.proofs.Pools.{recordings-alike, story-alike, longer-alike}
use Rattle.pcm_record.specs.declared.channel.RecordChannelOf.{RecordChannelOf}
use Rattle.pcm_record.specs.Channels.{RecordStands}
use Rattle.pcm_engine.specs.declared.engine.EngineOf.{EngineOf}
use Rattle.pcm_engine.specs.Engines.{Stands, desk_of, device_of}
use Rattle.pcm_engine.specs.Stands.{PartsStand, RecordersStand, bytes_kept}
use Rattle.pcm_vchan.specs.Parents.{map_channels, play_channels, record_channels}
use Rattle.pcm_engine.proofs.laws.engines_stand_with_alike_pools.Goals as goal

-- channels that record stand for a story with either pool
recorders_alike : {B : Type 0} (kept : B → Kept) (device : DeviceSeen) (one other : Pool) (recorders : List (RecordChannelOf B))
    (story : Story) → capture_frames other ≡ capture_frames one
    → RecordersStand kept device one recorders story → RecordersStand kept device other recorders story
recorders_alike {B} kept device one other recorders story captured s = record {
  slots = λ slot channel there.
      subst (λ (frames : List Frame). RecordStands kept (device_filters device) (get_or recorders slot channel)
      (record_at device story.desk slot) (bytes_kept device story slot)
      (map (λ (k : ℕ). get_or frames k (silent_frame (device_settings device).layout))
      (range_with_len (story.recordings slot).start (record_at device story.desk slot).captured))) (sym captured)
      (s.slots slot channel there);
  valid = recordings-alike device one other story captured s.valid;
}

stands-alike : {B : Type 0} (kept : B → Kept) (engine : EngineOf B) (one other : Pool) (events : List Event) → AreAlike one other events
    → Stands kept engine one events → Stands kept engine other events
stands-alike kept engine one other events alike s =
    let device : DeviceSeen = device_of engine in
    let same : story_of device one events ≡ story_of device other events = sym (story-alike device one other events alike) in
    record {
      playing = subst (PartsStand kept device (desk_of engine) (play_channels engine.parent) (map_channels engine.parent)
          engine.parent.bus.chain engine.parent.ring.bytes) same s.playing;
      recording = subst (RecordersStand kept device other (record_channels engine.parent)) same
          (recorders_alike kept device one other (record_channels engine.parent) (story_of device one events) alike.captured s.recording);
    }

pub returns-clause-alike : goal.returns-clause-alike
returns-clause-alike g c = λ engine one other events alike s. stands-alike g.B.Feeder.kept engine one other events alike s

pub returns-clause-longer : goal.returns-clause-longer
returns-clause-longer g c = λ engine one other events longer fit s. stands-alike g.B.Feeder.kept engine one other events
    (longer-alike (device_of engine) one other events longer fit) s
