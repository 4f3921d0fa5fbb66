-- Parents are known by their bytes.
use Rattle.std.proofs.Common.{◌≡◌, ◌++◌, [], length, All, sym, ap, ◌∙◌, subst}
use Rattle.std.specs.List.{flat_map}
use Rattle.std.proofs.lemmas.List.{append-nil}
use Rattle.pcm_feeder.specs.declared.kind.Kind.{Kind}
use Rattle.pcm_feeder.specs.Filters.{Filters}
use Rattle.pcm_feeder.specs.Kept.{Kept}
use Rattle.pcm_desk.specs.declared.device.Device.{Device}
use Rattle.pcm_desk.specs.Device.{mixed_for, seen}
use Rattle.pcm_play.specs.declared.channel.PlayChannelOf.{PlayChannelOf}
use Rattle.pcm_play.specs.Channels.{IsPlayReady, PlayStandsAs}
use Rattle.pcm_record.specs.declared.channel.RecordChannelOf.{RecordChannelOf}
use Rattle.pcm_record.specs.Channels.{IsRecordReady, RecordStandsAs}
use Rattle.pcm_map.specs.declared.channel.MapChannelOf.{MapChannelOf}
use Rattle.pcm_map.specs.Channels.{IsMapReady, MapStandsAs}
use Rattle.pcm_bus.specs.Handovers.{HasMadeFar}
use Rattle.pcm_vchan.specs.declared.parent.ParentOf.{ParentOf}
use Rattle.pcm_vchan.specs.Clones.{IsParentLike}
use Rattle.pcm_vchan.specs.Parents.{map_channels, play_channels, record_channels, AreServed, HasBus}
use Rattle.pcm_save.specs.Mapping.{map_state, map-state-known}
use Rattle.pcm_save.specs.Parents.{parent_state, slots_state, IsWholeParent}
use Rattle.pcm_save.specs.Playing.{play_state, play-state-known}
use Rattle.pcm_save.specs.Recording.{record_state, record-state-known}
use Rattle.pcm_save.proofs.Alike.{slots-known}
use Rattle.pcm_save.proofs.AlikeOutputs.{output-known}

-- two parents of one device that are ready with the same filters, and to whose device as many frames were handed over
pub record ParentsReady {B : Type 0} (kind : B → Kind) (kept : B → Kept) (filters : Filters) (one other : ParentOf B) : Type 0 where
  pub device_same : other.device ≡ one.device
  pub handed_same : other.handed ≡ one.handed
  pub one_served : AreServed kind kept filters one
  pub other_served : AreServed kind kept filters other
  pub one_bus : HasBus kept (seen filters one.device) one
  pub other_bus : HasBus kept (seen filters other.device) other
  pub one_whole : IsWholeParent one
  pub other_whole : IsWholeParent other

pub parents-known : {B : Type 0} (kind : B → Kind) (kept : B → Kept) (filters : Filters) (one other : ParentOf B) → ParentsReady kind kept filters one other
    → parent_state kept other ≡ parent_state kept one → IsParentLike kind kept (seen filters one.device) one other
parents-known {B} kind kept filters one other ready same =
    let device = one.device in
    let a = ready.one_served in
    let b = ready.other_served in
    let wholes = ready.one_whole.slots in
    let whole = ready.other_whole.slots in
    let own_play : All (λ (channel : PlayChannelOf B). channel.path.device ≡ device) (play_channels other) = λ slot d there. b.own slot d there ∙ ready.device_same in
    let own_record : All (λ (channel : RecordChannelOf B). channel.path.device ≡ device) (record_channels other) = λ slot d there. b.recorders_own slot d there ∙ ready.device_same in
    let own_map : All (λ (channel : MapChannelOf B). channel.path.device ≡ device) (map_channels other) = λ slot d there. b.maps_own slot d there ∙ ready.device_same in
    let bus = subst (λ (d : Device). HasBus kept (seen filters d) other) ready.device_same ready.other_bus in
    let output = output-known kept (seen filters device) one other (slots_state kept one) (slots_state kept other) (record {
      device_same = ready.device_same;
      handed_same = ready.handed_same;
      one_bus = ready.one_bus;
      other_bus = bus;
      one_mixer = ready.one_whole.mixer;
      other_mixer = ready.other_whole.mixer;
    }) same in
    let plays = flat_map (play_state kept) in
    let records = flat_map (record_state kept) in
    let maps = flat_map (map_state kept) in
    let play_count : length (play_channels other) ≡ length (play_channels one) = whole.playing ∙ ap (λ (d : Device). d.play_slots) ready.device_same ∙ sym wholes.playing in
    let record_count : length (record_channels other) ≡ length (record_channels one) = whole.recording ∙ ap (λ (d : Device). d.record_slots) ready.device_same ∙ sym wholes.recording in
    let map_count : length (map_channels other) ≡ length (map_channels one) = whole.mapped ∙ ap (λ (d : Device). d.map_slots) ready.device_same ∙ sym wholes.mapped in
    let playing = slots-known (λ (channel : PlayChannelOf B). channel.path) (IsPlayReady kind kept) (PlayStandsAs kept) (play_state kept) (play-state-known kind kept) filters device
    (play_channels one) (play_channels other) (records (record_channels one) ++ maps (map_channels one)) (records (record_channels other) ++ maps (map_channels other))
    (record { count = play_count; one_devices = a.own; other_devices = own_play; ones_ready = a.ready; others_ready = b.ready }) output.left in
    let recording = slots-known (λ (channel : RecordChannelOf B). channel.path) (IsRecordReady kind kept) (RecordStandsAs kept) (record_state kept) (record-state-known kind kept) filters device
    (record_channels one) (record_channels other) (maps (map_channels one)) (maps (map_channels other))
    (record { count = record_count; one_devices = a.recorders_own; other_devices = own_record; ones_ready = a.recorders_ready; others_ready = b.recorders_ready }) playing.left in
    let mapped = slots-known (λ (channel : MapChannelOf B). channel.path) (IsMapReady kind kept) (MapStandsAs kept) (map_state kept) (map-state-known kind kept) filters device
    (map_channels one) (map_channels other) [] []
    (record { count = map_count; one_devices = a.maps_own; other_devices = own_map; ones_ready = a.maps_ready; others_ready = b.maps_ready })
    (append-nil (maps (map_channels other)) ∙ recording.left ∙ sym (append-nil (maps (map_channels one)))) in
    record {
      device_same = ready.device_same;
      playing = record { count = play_count; own = own_play; kinds = λ slot d there. (b.ready slot d there).kinds; stand = playing.stand };
      recording = record { count = record_count; own = own_record; kinds = λ slot d there. (b.recorders_ready slot d there).kinds; stand = recording.stand };
      mapped = record { count = map_count; own = own_map; kinds = λ slot d there. (b.maps_ready slot d there).kinds; stand = mapped.stand };
      mixer = output.mixer;
      plan = output.plan;
      far = λ far. subst (HasMadeFar kept (seen filters device) other.bus.chain) ready.handed_same bus.made;
      made = output.made;
      ring = output.ring;
      handed = ready.handed_same;
      mixed = bus.level ∙ ap (mixed_for (seen filters device)) ready.handed_same ∙ sym ready.one_bus.level;
    }
