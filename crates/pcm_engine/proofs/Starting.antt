-- Free channels and a silent ring stand for the story before the first event.
use Rattle.std.proofs.Common.{map, ◌≡◌, ℕ, zero, suc, ◌+◌, ◌*◌, ◌<◌, List, [], ◌++◌, length, get_or, take, replicate, None, All, pos, refl, sym, ap, ◌∙◌, subst, arith}
use Rattle.std.specs.List.{flat_map}
use Rattle.std.proofs.lemmas.List.{get_or-map, get_or-replicate, length-map, length-replicate, same_lists, replicate-append-replicate, append-nil}
use Rattle.std.proofs.lemmas.List.Concat.{flat_map-append}
use Rattle.pcm_format.specs.declared.format.Format.{Format}
use Rattle.pcm_engine.specs.Types.{Device, Filters, Kept, Kind, MapBook, PlayBook, Pool, RecordBook, Settings}
use Rattle.pcm_format.specs.Layouts.{channels_of}
use Rattle.pcm_format.specs.Samples.{spelled}
use Rattle.pcm_format.specs.Frames.{frame_bytes, spelled_frames}
use Rattle.pcm_group.specs.Groups.{no_groups}
use Rattle.pcm_mixdev.specs.Mixers.{full_mixer}
use Rattle.pcm_desk.specs.declared.limits.TheConstants.{DESCRIPTORS}
use Rattle.pcm_desk.specs.Device.{IsDevice, seen}
use Rattle.pcm_desk.specs.MapBooks.{taken_of}
use Rattle.pcm_desk.specs.Desk.{desk_at_start, map_at, map_unopened, play_at, play_unopened, record_at, record_unopened}
use Rattle.pcm_sound.specs.Areas.{silent_area}
use Rattle.pcm_sound.specs.Story.{story_at_start}
use Rattle.pcm_sound.specs.DeviceList.{silence_in}
use Rattle.pcm_wave.specs.Pools.{captured_frames}
use Rattle.pcm_sound.proofs.Recorded.{recordings-start}
use Rattle.pcm_sound.proofs.Stories.{valid-start, get_or-same}
use Rattle.pcm_vchan.specs.declared.parent.ParentOf.{ParentOf}
use Rattle.pcm_record.specs.declared.channel.RecordChannelOf.{RecordChannelOf}
use Rattle.pcm_record.specs.Channels.{IsRecordUnopened, RecordStands}
use Rattle.pcm_map.specs.declared.channel.MapChannelOf.{MapChannelOf}
use Rattle.pcm_map.specs.Channels.{IsMapUnopened, MapStands}
use Rattle.pcm_play.specs.Channels.{PlayStands, IsPlayUnopened}
use Rattle.pcm_bus.specs.Blocks.{silent_ring}
use Rattle.pcm_bus.specs.Handovers.{HasMade}
use Rattle.pcm_engine.specs.declared.descriptors.Descriptors.{Descriptors}
use Rattle.pcm_engine.specs.Desks.{desk_with}
use Rattle.pcm_vchan.specs.Parents.{map_channels, play_channels, record_books}
use Rattle.pcm_engine.specs.Stands.{bytes_counted, map_bytes_counted, MapSlotStands, PartsStand, RecordersStand}
use Rattle.pcm_bus.proofs.Channels.{some_channel}

-- frames of silence are spelled as samples of silence
pub spelled-silence : (format : Format) (settings : Settings) (n : ℕ) → spelled_frames format (replicate n (silence_in settings)) ≡ flat_map (spelled format) (replicate (n * channels_of settings.layout) (pos 0))
spelled-silence format settings zero = let none : 0 * channels_of settings.layout ≡ 0 = omega arith in rw none refl
spelled-silence format settings (suc n) =
    let more : suc n * channels_of settings.layout ≡ channels_of settings.layout + n * channels_of settings.layout = omega arith in
    ap (λ rest. flat_map (spelled format) (silence_in settings) ++ rest) (spelled-silence format settings n)
    ∙ sym (flat_map-append (spelled format) (replicate (channels_of settings.layout) (pos 0)) (replicate (n * channels_of settings.layout) (pos 0)))
    ∙ ap (flat_map (spelled format)) (replicate-append-replicate (channels_of settings.layout) (n * channels_of settings.layout) (pos 0) ∙ ap (λ k. replicate k (pos 0)) (sym more))

-- the books of channels, where all are this one
pub books-unopened : {X Book : Type 0} (book : X → Book) (channels : List X) (n : ℕ) (none : Book) → length channels ≡ n → All (λ (channel : X). book channel ≡ none) channels → map book channels ≡ replicate n none
books-unopened {X} book channels n none slots each =
    same_lists (map book channels) (replicate n none) (length-map channels book ∙ slots ∙ sym (length-replicate n none))
    (λ k d within.
    let there : k < length channels = omega (arith, length-map channels book) in
    let other : X = some_channel channels k there in
    get_or-map book channels k other d there ∙ each k other there ∙ sym (get_or-replicate n k none d (omega arith)))

-- ---- mapped channels

-- they stand for the beginning
map_starts : {B : Type 0} (kind : B → Kind) (kept : B → Kept) (filters : Filters) (device : Device) (slot : ℕ) (channel : MapChannelOf B) → IsMapUnopened kind kept filters device channel
    → MapSlotStands kept (seen filters device) (story_at_start (seen filters device)) slot channel
map_starts kind kept filters device slot channel u =
    let opened : map_unopened (seen filters device) ≡ map_at (seen filters device) (desk_at_start (seen filters device)) slot = sym (get_or-same device.map_slots slot (map_unopened (seen filters device))) in
    let none : taken_of (map_unopened (seen filters device)) ≡ 0 = omega arith in
    let nothing : [] ≡ map_bytes_counted (seen filters device) (story_at_start (seen filters device)) slot = sym (ap (λ (n : ℕ). take n []) none) ∙ ap (λ (b : MapBook). take (taken_of b) []) opened in
    record {
      stands = subst (MapStands kept filters channel (map_at (seen filters device) (desk_at_start (seen filters device)) slot)) nothing
          (subst (λ (b : MapBook). MapStands kept filters channel b []) (u.book ∙ opened) u.stands);
      area = u.area ∙ ap (λ (b : MapBook). silent_area b.opening) u.book;
    }

-- ---- a parent

-- what is known of one that nobody has opened, by filters, beside its descriptors
pub record IsUnopened {B : Type 0} (kind : B → Kind) (kept : B → Kept) (filters : Filters) (device : Device) (parent : ParentOf B) (descriptors : Descriptors) : Type 0 where
  pub device_is : parent.device ≡ device
  pub slots : length (play_channels parent) ≡ device.play_slots
  pub channels : All (IsPlayUnopened kind kept filters device) (play_channels parent)
  pub recorders : record_books parent ≡ replicate device.record_slots (record_unopened (seen filters device))
  pub mapped : length (map_channels parent) ≡ device.map_slots
  pub maps : All (IsMapUnopened kind kept filters device) (map_channels parent)
  pub shut : descriptors.held.value ≡ replicate DESCRIPTORS None
  pub groups : descriptors.groups ≡ no_groups
  pub mixer : parent.mixer ≡ full_mixer
  pub made : HasMade kept (seen filters device) parent.bus.chain [] 0
  pub ring : parent.ring.bytes ≡ silent_ring (seen filters device)
  pub handed : parent.handed ≡ 0
  pub mixed : parent.mixed ≡ 0

-- its desk is that of the beginning
unopened_desk : {B : Type 0} (kind : B → Kind) (kept : B → Kept) (filters : Filters) (device : Device) (parent : ParentOf B) (descriptors : Descriptors) → IsUnopened kind kept filters device parent descriptors → desk_with parent descriptors ≡ desk_at_start (seen filters device)
unopened_desk kind kept filters device parent descriptors u =
    let play = books-unopened (λ channel. channel.book) (play_channels parent) device.play_slots (play_unopened (seen filters device)) u.slots (λ slot other there. (u.channels slot other there).book) in
    let mapped = books-unopened (λ channel. channel.book) (map_channels parent) device.map_slots (map_unopened (seen filters device)) u.mapped (λ slot other there. (u.maps slot other there).book) in
    λ i. record { play = play i; recording = u.recorders i; mapped = mapped i; descriptors = u.shut i; groups = u.groups i; mixer = u.mixer i; handed = u.handed i; mixed = u.mixed i }

unopened_stands : {B : Type 0} (kind : B → Kind) (kept : B → Kept) (filters : Filters) (device : Device) (parent : ParentOf B) (descriptors : Descriptors) → IsDevice (seen filters device) → IsUnopened kind kept filters device parent descriptors
    → PartsStand kept (seen filters device) (desk_with parent descriptors) (play_channels parent) (map_channels parent) parent.bus.chain parent.ring.bytes (story_at_start (seen filters device))
unopened_stands kind kept filters device parent descriptors limits unopened = record {
  desk_is = unopened_desk kind kept filters device parent descriptors unopened;
  slots = λ slot other there.
      let opened : play_unopened (seen filters device) ≡ play_at (seen filters device) (desk_at_start (seen filters device)) slot = sym (get_or-same device.play_slots slot (play_unopened (seen filters device))) in
      let nothing : [] ≡ bytes_counted (seen filters device) (story_at_start (seen filters device)) slot = ap (λ (b : PlayBook). take b.written []) opened in
      let u = unopened.channels slot other there in
      subst (PlayStands kept filters (get_or (play_channels parent) slot other) (play_at (seen filters device) (desk_at_start (seen filters device)) slot)) nothing
      (subst (λ (b : PlayBook). PlayStands kept filters (get_or (play_channels parent) slot other) b []) (u.book ∙ opened) u.stands);
  mapped = λ slot other there. map_starts kind kept filters device slot (get_or (map_channels parent) slot other) (unopened.maps slot other there);
  bus = unopened.made;
  ring_is = (
      let none : 0 * frame_bytes device.settings ≡ 0 = omega arith in
      unopened.ring ∙ sym (spelled-silence device.settings.format device.settings device.ring_frames)
      ∙ ap (spelled_frames device.settings.format) (sym (append-nil (replicate device.ring_frames (silence_in device.settings))))
      ∙ rw none refl);
  valid = valid-start (seen filters device) limits;
}

-- so it stands for the beginning
pub parent-starts : {B : Type 0} (kind : B → Kind) (kept : B → Kept) (filters : Filters) (device : Device) (parent : ParentOf B) (descriptors : Descriptors) → IsDevice (seen filters device) → IsUnopened kind kept filters device parent descriptors
    → PartsStand kept (seen filters parent.device) (desk_with parent descriptors) (play_channels parent) (map_channels parent) parent.bus.chain parent.ring.bytes (story_at_start (seen filters parent.device))
parent-starts kind kept filters device parent descriptors limits unopened =
    subst (λ (d : Device). PartsStand kept (seen filters d) (desk_with parent descriptors) (play_channels parent) (map_channels parent) parent.bus.chain parent.ring.bytes (story_at_start (seen filters d))) (sym unopened.device_is)
    (unopened_stands kind kept filters device parent descriptors limits unopened)

-- ---- channels that record

-- they stand for the beginning
pub recorders-start : {B : Type 0} (kind : B → Kind) (kept : B → Kept) (filters : Filters) (device : Device) (pool : Pool) (recorders : List (RecordChannelOf B)) → IsDevice (seen filters device) → All (IsRecordUnopened kind kept filters device) recorders
    → RecordersStand kept (seen filters device) pool recorders (story_at_start (seen filters device))
recorders-start kind kept filters device pool recorders limits each = record {
  slots = λ slot other there.
      let opened : record_unopened (seen filters device) ≡ record_at (seen filters device) (desk_at_start (seen filters device)) slot = sym (get_or-same device.record_slots slot (record_unopened (seen filters device))) in
      let u = each slot other there in
      subst (λ (b : RecordBook). RecordStands kept filters (get_or recorders slot other) b (take b.kept []) (captured_frames device.settings.layout pool 0 b.captured)) opened
      (subst (λ (b : RecordBook). RecordStands kept filters (get_or recorders slot other) b [] []) u.book u.stands);
  valid = recordings-start (seen filters device) pool limits;
}
