-- What is mixed at an interrupt, from the books of the slots and the bytes of their runs at the gains of the mixer device, and the ring that takes what comes of it.
use Rattle.std.specs.Prelude.{◌≡◌, ℕ, zero, suc, ◌+◌, ◌*◌, List, ◌++◌, length, drop, fold, replicate, slice_index_or, ℤ, pos}
use Rattle.std.specs.List.{flat_map, range_with_len}
use Rattle.pcm_sequence.specs.declared.fixed.Fixed.{Fixed}
use Rattle.pcm_sequence.specs.Fixed.{fixed_items}
use Rattle.pcm_format.specs.declared.settings.Settings.{Settings}
use Rattle.pcm_feeder.specs.declared.stage.Gain.{Gain}
use Rattle.pcm_desk.specs.declared.device.Device.{Device}
use Rattle.pcm_desk.specs.declared.map_book.MapBook.{MapBook}
use Rattle.pcm_desk.specs.declared.play_book.PlayBook.{PlayBook}
use Rattle.pcm_feeder.specs.Filters.{Filters}
use Rattle.pcm_feeder.specs.Kept.{Kept}
use Rattle.pcm_format.specs.Frames.{frame_bytes}
use Rattle.pcm_format.specs.Layouts.{channels_of}
use Rattle.pcm_format.specs.Samples.{spelled}
use Rattle.pcm_feeder.specs.Fades.{faded}
use Rattle.pcm_mixdev.specs.Mixers.{Levels, master_gain, slot_gain}
use Rattle.pcm_desk.specs.Device.{DeviceSeen, device_settings, mix_settings, ring_frames, seen}
use Rattle.pcm_desk.specs.Desk.{map_unopened, play_unopened}
use Rattle.pcm_sound.specs.Added.{map_turned, turned}
use Rattle.pcm_play.specs.declared.channel.PlayChannelOf.{PlayChannelOf}
use Rattle.pcm_map.specs.declared.channel.MapChannelOf.{MapChannelOf}
use Rattle.pcm_bus.specs.Slots.{AllMapStand, AllPlayStand, map_books_of, play_books_of}

-- the samples of n frames of silence
abbrev pub silent_samples : Settings → ℕ → List ℤ
silent_samples settings n = replicate (n * channels_of settings.layout) (pos 0)

-- a block of the mix once the first slots gave their frames to it, from the gain of each, their books and the bytes of their runs
abbrev pub mixed_onto : DeviceSeen → ℕ → (ℕ → Gain) → List PlayBook → (ℕ → List ℕ) → ℕ → List ℤ → List ℤ
mixed_onto device n gains books streams slots sum =
    fold (λ sum slot. turned device n (gains slot) (slice_index_or books slot (play_unopened device)) (streams slot) sum) sum (range_with_len 0 slots)

-- the same, from silence on
abbrev pub block_of : DeviceSeen → ℕ → (ℕ → Gain) → List PlayBook → (ℕ → List ℕ) → ℕ → List ℤ
block_of device n gains books streams slots = mixed_onto device n gains books streams slots (silent_samples (mix_settings device) n)

-- a block of the mix once the first mapped slots gave their frames to it, from the gain of each, their books, the bytes that were taken and their areas
abbrev pub mapped_onto : DeviceSeen → ℕ → (ℕ → Gain) → List MapBook → (ℕ → List ℕ) → (ℕ → List ℕ) → ℕ → List ℤ → List ℤ
mapped_onto device n gains books taken areas slots sum =
    fold (λ sum slot. map_turned device n (gains slot) (slice_index_or books slot (map_unopened device)) (taken slot) (areas slot) sum) sum (range_with_len 0 slots)

-- what is known of the slots that are mixed: the bytes of the run of each that plays, and of each mapped one the bytes that were taken and
-- what stands in its area
pub record Sources : Type 0 where
  pub played : ℕ → List ℕ
  pub taken : ℕ → List ℕ
  pub areas : ℕ → List ℕ

-- the bytes of samples
abbrev pub block_bytes : Settings → List ℤ → List ℕ
block_bytes settings block = flat_map (spelled settings.format) block

-- the bytes of a ring full of silence
abbrev pub silent_ring : DeviceSeen → List ℕ
silent_ring device = block_bytes (device_settings device) (silent_samples (device_settings device) (ring_frames device))

-- the bytes of a ring that has handed over its n oldest frames, and got these samples after the rest
abbrev pub turned_ring : Settings → ℕ → List ℤ → List ℕ → List ℕ
turned_ring settings n block bytes = drop (n * frame_bytes settings) bytes ++ block_bytes settings block

-- ---- whatever bytes the channels stand for

-- a block to which the first ones of some channels add theirs, one after another, each at the gain of its slot
abbrev pub Added : {X : Type 0} → (Gain → List ℤ → List ℤ → X → Type 0) → (ℕ → Gain) → List X → ℕ → List ℤ → List ℤ → Type 0
Added adds gains channels zero old new = new ≡ old
Added {X = X} adds gains channels (suc slots) old new = (between : List ℤ) × (Added adds gains channels slots old between
    × ((other : X) → adds (gains slots) between new (slice_index_or channels slots other)))

-- channels stand for what is known of their slots
pub record AllStand {B : Type 0} (kept : B → Kept) (filters : Filters) (channels : List (PlayChannelOf B)) (maps : List (MapChannelOf B)) (sources : Sources) : Type 0 where
  pub playing : AllPlayStand kept filters channels sources.played
  pub mapped : AllMapStand kept filters maps sources.taken sources.areas

-- the gains of the mapped slots, after `slots` slots that play
abbrev pub map_gains : Levels → ℕ → ℕ → Gain
map_gains mixer slots slot = slot_gain mixer (slots + slot)

-- the sum of all channels: first of those that play, and then of the mapped ones
abbrev pub whole_sum : {B : Type 0} → DeviceSeen → ℕ → Levels → List (PlayChannelOf B) → List (MapChannelOf B) → Sources → List ℤ
whole_sum device n mixer channels maps sources =
    mapped_onto device n (map_gains mixer (length channels)) (map_books_of maps) sources.taken sources.areas (length maps)
    (block_of device n (slot_gain mixer) (play_books_of channels) sources.played (length channels))

-- and a block of it, at the gain of all that is mixed
abbrev pub whole_block : {B : Type 0} → DeviceSeen → ℕ → Levels → List (PlayChannelOf B) → List (MapChannelOf B) → Sources → List ℤ
whole_block device n mixer channels maps sources = faded (mix_settings device).layout (master_gain mixer) (whole_sum device n mixer channels maps sources)

-- a block of theirs
abbrev pub MixesBlock : {B : Type 0} → (B → Kept) → Filters → Device → ℕ → Levels → Fixed (PlayChannelOf B) → Fixed (MapChannelOf B)
    → List ℤ → Type 0
MixesBlock kept filters device n mixer channels maps block = (sources : Sources)
    → AllStand kept filters (fixed_items channels) (fixed_items maps) sources
    → block ≡ whole_block (seen filters device) n mixer (fixed_items channels) (fixed_items maps) sources
