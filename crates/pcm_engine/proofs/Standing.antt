-- A desk, channels and a ring that stand for a story stand for it with one event more.
use Rattle.std.proofs.Common.{◌≡◌, ℕ, ◌+◌, ◌*◌, ◌<◌, ◌≤◌, List, ◌++◌, length, get_or, take, drop, ℤ, refl, sym, ap, ◌∙◌, subst, arith, map}
use Rattle.std.proofs.lemmas.List.{append-nil, take-append-le, get_or-map, drop-append-le, drop-drop}
use Rattle.std.proofs.Math.Seq.{take-add}
use Rattle.std.proofs.Math.Nat.{mul-le-mul_right}
use Rattle.std.specs.List.{range_with_len}
use Rattle.std.proofs.lemmas.List.Elements.{All-map}
use Rattle.std.proofs.lemmas.List.Folds.{flat_map-map}
use Rattle.std.proofs.lemmas.Simd.{map-map}
use Rattle.pcm_engine.specs.Types.{Event, Filters, Kept, Kind, MapBook, PlayBook, Pool}
use Rattle.pcm_oss.specs.declared.event.Event.TheVariants.{Write, Intr}
use Rattle.pcm_feeder.specs.Fades.{faded}
use Rattle.pcm_mixdev.specs.Mixers.{Levels, master_gain, slot_gain}
use Rattle.pcm_desk.specs.Device.{DeviceSeen, device_frame_bytes, device_settings, device_filters, mix_settings, parent_plan, ring_frames, seen, full_frame, mixed_for}
use Rattle.pcm_desk.specs.Channels.{mixed_by}
use Rattle.pcm_desk.specs.Desk.{Desk, after, play_at, play_unopened}
use Rattle.pcm_desk.specs.Events.{Fits, bytes_handed}
use Rattle.pcm_sound.specs.Runs.{carrying, newest_bytes}
use Rattle.pcm_sound.specs.Story.{Story, told}
use Rattle.pcm_sound.specs.DeviceList.{device_bytes, device_body, mix_at, mixed_frames, table_of}
use Rattle.pcm_sound.specs.Valid.{StoryIsValid}
use Rattle.pcm_sound.proofs.Slots.{newest_bytes-marking, newest_bytes-playing}
use Rattle.pcm_sound.proofs.Stories.{keeps, valid-told, writes-some}
use Rattle.pcm_sound.proofs.DeviceLists.{length-device_bytes, device_body-bytes, device_bytes-same, device_bytes-interrupt, new_block, mix_at-frame, mixed_frames-more, mixed_frames-told}
use Rattle.pcm_play.specs.declared.channel.PlayChannelOf.{PlayChannelOf}
use Rattle.pcm_map.specs.declared.channel.MapChannelOf.{MapChannelOf}
use Rattle.pcm_map.specs.Channels.{MapStands}
use Rattle.pcm_bus.specs.Slots.{play_books_of, MapAreOf}
use Rattle.pcm_play.specs.Channels.{PlayStands}
use Rattle.pcm_format.specs.Frames.{Frame}
use Rattle.pcm_feeder.specs.Streams.{interleaved, HaveChannels}
use Rattle.pcm_plan.specs.Through.{recs}
use Rattle.pcm_chain.specs.declared.chain.ChainOf.{ChainOf}
use Rattle.pcm_engine.specs.Brought.{bytes_brought}
use Rattle.pcm_engine.specs.Steps.{BusMoves, bytes_moved, MapsMove}
use Rattle.pcm_bus.specs.Blocks.{block_bytes, block_of, map_gains, mapped_onto, turned_ring, Sources}
use Rattle.pcm_bus.specs.Buses.{mixed_at_once}
use Rattle.pcm_bus.specs.Handovers.{HasMade, raised_frames}
use Rattle.pcm_sequence.proofs.Items.{items-count}
use Rattle.pcm_oss.specs.Replies.{Reply}
use Rattle.pcm_vchan.specs.declared.parent.ParentOf.{ParentOf}
use Rattle.pcm_vchan.specs.Parents.{map_books, map_channels, play_books, play_channels}
use Rattle.pcm_engine.specs.declared.descriptors.Descriptors.{Descriptors}
use Rattle.pcm_engine.specs.Applied.{Applied}
use Rattle.pcm_engine.specs.Desks.{desk_with}
use Rattle.pcm_engine.specs.Stands.{bytes_counted, map_bytes_counted, story_frames, MapSlotStands, PartsStand}
use Rattle.pcm_engine.proofs.Counted.{counted-kept, counted-written}
use Rattle.pcm_engine.proofs.Mapped.{map-told, map_at-books}
use Rattle.pcm_format.specs.Layouts.{channels_of}
use Rattle.pcm_format.proofs.Streams.{channels_of-above}
use Rattle.pcm_feeder.proofs.Frames.{frames_of-interleaved}
use Rattle.pcm_desk.proofs.Ratios.{mixed-behind}
use Rattle.pcm_engine.proofs.Blocks.{block-mixed, story_block, told-frames}

-- ---- what a story mixes

-- the mix of a story, by position
abbrev story_mix : DeviceSeen → Story → ℕ → Frame
story_mix device story = mix_at device story.faders (table_of device story)

-- at an interrupt they have the channels of the mix
told-channels : (device : DeviceSeen) (pool : Pool) (story : Story) (n from count : ℕ) → StoryIsValid device story
    → HaveChannels (channels_of (mix_settings device).layout)
    (map (story_mix device (told device pool story (Intr n))) (range_with_len from count))
told-channels device pool story n from count v =
    let new : Story = told device pool story (Intr n) in
    let positions : List ℕ = range_with_len from count in
    All-map (λ (frame : Frame). length frame ≡ channels_of (mix_settings device).layout) (story_mix device new) positions
    (λ k d l. mix_at-frame device new.faders (table_of device new) (get_or positions k d) (λ slot. told-frames device pool story n v slot (get_or positions k d)))

-- the block of an interrupt, at 32 bits, is the mix of its positions
raised-block : (device : DeviceSeen) (pool : Pool) (story : Story) (n : ℕ) → StoryIsValid device story
    → raised_frames device (story_block device story n)
    ≡ map (λ position. full_frame device (story_mix device (told device pool story (Intr n)) position))
    (range_with_len story.desk.mixed (mixed_by device story.desk.handed n))
raised-block device pool story n v =
    let q : ℕ = mixed_by device story.desk.handed n in
    let layout = (mix_settings device).layout in
    let mix : ℕ → Frame = story_mix device (told device pool story (Intr n)) in
    let positions : List ℕ = range_with_len story.desk.mixed q in
    ap (raised_frames device)
    (block-mixed device pool story n v ∙ sym (flat_map-map (λ (frame : Frame). frame) mix positions))
    ∙ ap (map (full_frame device)) (frames_of-interleaved (channels_of layout) (map mix positions)
    (channels_of-above layout) (told-channels device pool story n story.desk.mixed q v))
    ∙ map-map (full_frame device) mix positions

-- with it, what was mixed before becomes what is mixed once the device has been given n more frames
mixed-on : (device : DeviceSeen) (pool : Pool) (story : Story) (n : ℕ) → StoryIsValid device story
    → story_frames device story story.desk.handed ++ raised_frames device (story_block device story n)
    ≡ story_frames device (told device pool story (Intr n)) (story.desk.handed + n)
mixed-on device pool story n v =
    let handed : ℕ = story.desk.handed in
    let q : ℕ = mixed_by device handed n in
    let mix : ℕ → Frame = story_mix device (told device pool story (Intr n)) in
    let front : List Frame = mixed_frames device mix (mixed_for device handed) in
    ap (λ before. before ++ raised_frames device (story_block device story n))
    (sym (mixed_frames-told device pool story (Intr n) v))
    ∙ ap (λ more. front ++ more) (raised-block device pool story n v)
    ∙ ap (λ from. front ++ map (λ position. full_frame device (mix position)) (range_with_len from q)) v.mixed
    ∙ sym (mixed_frames-more device mix (mixed_for device handed) q)
    ∙ ap (mixed_frames device mix) (mixed-behind device handed n v.limits)

-- an event that gives nothing to the device leaves what is mixed
mixed-kept : (device : DeviceSeen) (pool : Pool) (story : Story) (event : Event) → StoryIsValid device story
    → (told device pool story event).desk.handed ≡ story.desk.handed
    → story_frames device (told device pool story event) (told device pool story event).desk.handed
    ≡ story_frames device story story.desk.handed
mixed-kept device pool story event v same =
    ap (story_frames device (told device pool story event)) same ∙ mixed_frames-told device pool story event v

-- ---- the device's ring

-- an interrupt of n frames gives the n oldest to the device, and after the rest comes what the plan makes of all that is mixed
ring-on : (device : DeviceSeen) (pool : Pool) (story : Story) (n : ℕ) (ring : List ℕ) → StoryIsValid device story
    → n ≤ ring_frames device
    → ring ≡ drop (story.desk.handed * device_frame_bytes device) (device_bytes device story)
    → turned_ring (device_settings device) n (interleaved (recs (parent_plan device) (device_filters device)
    (story_frames device (told device pool story (Intr n)) (story.desk.handed + n)) story.desk.handed n)) ring
    ≡ drop ((story.desk.handed + n) * device_frame_bytes device) (device_bytes device (told device pool story (Intr n)))
ring-on device pool story n ring v few is =
    let z : ℕ = device_frame_bytes device in
    let handed : ℕ = story.desk.handed in
    let bytes : List ℕ = device_bytes device story in
    let block : List ℕ = block_bytes (device_settings device) (new_block device pool story n) in
    let long = length-device_bytes device story v in
    let room : (handed + n) * z ≤ (ring_frames device + handed) * z = mul-le-mul_right z (omega (arith, few)) in
    let sum : handed * z + n * z ≡ (handed + n) * z = omega arith in
    ap (λ old. drop (n * z) old ++ block) is
    ∙ ap (λ rest. rest ++ block) (drop-drop (n * z) (handed * z) bytes ∙ ap (λ k. drop k bytes) sum)
    ∙ sym (drop-append-le ((handed + n) * z) bytes block (omega (arith, long, room)))
    ∙ ap (drop ((handed + n) * z)) (sym (device_bytes-interrupt device pool story n v))

-- ---- where a channel's book is

-- the book of a slot is that of its channel
pub play_at-books : {B : Type 0} (device : DeviceSeen) (desk : Desk) (channels : List (PlayChannelOf B)) (slot : ℕ) (other : PlayChannelOf B) → desk.play ≡ play_books_of channels → slot < length channels → play_at device desk slot ≡ (get_or channels slot other).book
play_at-books {B = B} device desk channels slot other play there =
    ap (λ (books : List PlayBook). get_or books slot (play_unopened device)) play ∙ get_or-map (λ (c : PlayChannelOf B). c.book) channels slot other (play_unopened device) there

-- a parent stands for a story, beside a desk
abbrev pub ParentStands : {B : Type 0} → (B → Kept) → DeviceSeen → Desk → ParentOf B → Story → Type 0
ParentStands kept device desk parent story = PartsStand kept device desk (play_channels parent) (map_channels parent) parent.bus.chain parent.ring.bytes story

-- ---- channels

-- the bytes that an event moves into a ring
abbrev moved_in : Pool → Event → List ℕ
moved_in pool event = bytes_moved (bytes_brought pool event) event

-- without the marks
marks : (device : DeviceSeen) (pool : Pool) (story : Story) (event : Event) (slot : ℕ)
    → bytes_counted device (told device pool story event) slot
    ≡ take (play_at device (told device pool story event).desk slot).written
    (newest_bytes (carrying device pool story.desk event (play_at device story.desk slot) (play_at device (told device pool story event).desk slot) (story.runs slot)))
marks device pool story event slot =
    let old : PlayBook = play_at device story.desk slot in
    let new : PlayBook = play_at device (told device pool story event).desk slot in
    ap (take new.written) (newest_bytes-marking story.desk.mixed event old new (carrying device pool story.desk event old new (story.runs slot)))

-- what a slot's book counts after an event: what it counted before and what the event brought, as far as it was accepted
counts_told : (device : DeviceSeen) (pool : Pool) (story : Story) (event : Event) (slot : ℕ) → Fits device pool event → StoryIsValid device story
    → (play_at device (told device pool story event).desk slot).written ≤ (play_at device story.desk slot).written + length (moved_in pool event)
    → bytes_counted device (told device pool story event) slot ≡ take (play_at device (told device pool story event).desk slot).written (bytes_counted device story slot ++ moved_in pool event)
counts_told device pool story (Write fd source at count) slot fits v more =
    let w = writes-some device story.desk fd source at count slot in
    marks device pool story (Write fd source at count) slot
    ∙ counted-written device story.desk.mixed pool source at count w.accepted (play_at device story.desk slot) (play_at device (told device pool story (Write fd source at count)).desk slot).written (story.runs slot)
    (v.slots slot) fits.2.within w.accepts.written w.within
counts_told device pool story (Intr n) slot fits v more =
    let old : PlayBook = play_at device story.desk slot in
    let written : ℕ = (play_at device (told device pool story (Intr n)).desk slot).written in
    marks device pool story (Intr n) slot
    ∙ ap (take written) (newest_bytes-playing device story.desk.mixed (mixed_by device story.desk.handed n) old (story.runs slot))
    ∙ counted-kept old written (newest_bytes (story.runs slot)) (omega arith)
counts_told device pool story event slot fits v more =
    marks device pool story event slot
    ∙ counted-kept (play_at device story.desk slot) (play_at device (told device pool story event).desk slot).written (newest_bytes (story.runs slot)) (omega arith)

-- ---- the bus, and the device's ring

-- a chain and a ring stand for a story
abbrev BusStands : {B : Type 0} → (B → Kept) → DeviceSeen → ParentOf B → Story → Type 0
BusStands kept device parent story =
    HasMade kept device parent.bus.chain (story_frames device story story.desk.handed) story.desk.handed
    × (parent.ring.bytes ≡ drop (story.desk.handed * device_frame_bytes device) (device_bytes device story))

-- they stand for it after each event
bus_told : {B : Type 0} (kept : B → Kept) (filters : Filters) (pool : Pool) (story : Story) (event : Event) (old new : ParentOf B) → let device : DeviceSeen = seen filters old.device in
    Fits device pool event → story.desk.play ≡ play_books old → story.desk.mapped ≡ map_books old
    → BusMoves kept device story.desk.handed story.desk.mixer event (play_channels old) (map_channels old) old.bus.chain new.bus.chain old.ring.bytes new.ring.bytes
    → ParentStands kept device story.desk old story → BusStands kept device new (told device pool story event)
bus_told {B} kept filters pool story (Intr n) old new fits play mapped moves s =
    let device : DeviceSeen = seen filters old.device in
    let handed : ℕ = story.desk.handed in
    let q : ℕ = mixed_by device handed n in
    let streams : ℕ → List ℕ = bytes_counted device story in
    let taken : ℕ → List ℕ = map_bytes_counted device story in
    let sources : Sources = record { played = streams; taken = taken; areas = story.areas } in
    let x : List Frame = story_frames device story handed in
    let turned = moves sources x (record {
      playing = λ slot other there.
          subst (λ (b : PlayBook). PlayStands kept filters (get_or (play_channels old) slot other) b (streams slot)) (play_at-books device story.desk (play_channels old) slot other play there) (s.slots slot other there);
      mapped = λ slot other there.
          let stood = s.mapped slot other there in
          record { stands = subst (λ (b : MapBook). MapStands kept filters (get_or (map_channels old) slot other) b (taken slot)) (map_at-books device story.desk (map_channels old) slot other mapped there) stood.stands; area = stood.area };
    }) s.bus in
    let mixer : Levels = story.desk.mixer in
    let slots : ℕ = old.device.play_slots in
    let maps : ℕ = length (map_channels old) in
    let at_master : List ℤ → List Frame = λ block. x ++ raised_frames device (faded (mix_settings device).layout (master_gain mixer) block) in
    let all : x ++ mixed_at_once device handed n mixer (play_channels old) (map_channels old) sources ≡ story_frames device (told device pool story (Intr n)) (handed + n) =
    ap (λ (books : List PlayBook). at_master (mapped_onto device q (map_gains mixer (length (play_channels old))) (map_books old) taken story.areas maps (block_of device q (slot_gain mixer) books streams (length (play_channels old))))) (sym play)
    ∙ ap (λ (k : ℕ). at_master (mapped_onto device q (map_gains mixer k) (map_books old) taken story.areas maps (block_of device q (slot_gain mixer) story.desk.play streams k))) (items-count old.channels ∙ old.slots)
    ∙ ap (λ (books : List MapBook). at_master (mapped_onto device q (map_gains mixer slots) books taken story.areas maps (block_of device q (slot_gain mixer) story.desk.play streams slots))) (sym mapped)
    ∙ ap (λ (k : ℕ). at_master (mapped_onto device q (map_gains mixer slots) story.desk.mapped taken story.areas k (block_of device q (slot_gain mixer) story.desk.play streams slots))) (items-count old.maps ∙ old.maps_count)
    ∙ mixed-on device pool story n s.valid in (
      subst (λ (frames : List Frame). HasMade kept device new.bus.chain frames (handed + n)) all turned.made,
      turned.ring
          ∙ ap (λ (frames : List Frame). turned_ring (device_settings device) n (interleaved (recs (parent_plan device) (device_filters device) frames handed n)) old.ring.bytes) all
          ∙ ring-on device pool story n old.ring.bytes s.valid fits.1 s.ring_is,
    )
bus_told {B} kept filters pool story event old new fits play mapped moves s =
    let device : DeviceSeen = seen filters old.device in
    let k = keeps device pool story event fits refl s.valid in
    let next : Story = told device pool story event in
    let made = subst (HasMade kept device old.bus.chain (story_frames device story story.desk.handed)) (sym k.handed_same) s.bus in (
      subst (λ (chain : ChainOf B). HasMade kept device chain (story_frames device next next.desk.handed) next.desk.handed) (sym moves.0)
          (subst (λ (all : List Frame). HasMade kept device old.bus.chain all next.desk.handed) (sym (mixed-kept device pool story event s.valid k.handed_same)) made),
      moves.1 ∙ s.ring_is
          ∙ ap (λ handed. drop (handed * device_frame_bytes device) (device_bytes device story)) (sym k.handed_same)
          ∙ ap (drop (next.desk.handed * device_frame_bytes device)) (sym (device_bytes-same device pool story event s.valid k.handed_same)),
    )

-- ---- all parts, by what an event leaves of them

module _ {B : Type 0} (kind : B → Kind) (kept : B → Kept) (filters : Filters) (pool : Pool) (story : Story) (event : Event) (samples : List ℤ) (old : ParentOf B) (before : Descriptors) (new : ParentOf B) (left : Descriptors) (reply : Reply)
    (a : Applied kind kept filters event (bytes_brought pool event) samples old before new left reply) (fits : Fits (seen filters old.device) pool event)
    (s : ParentStands kept (seen filters old.device) (desk_with old before) old story) where
  abbrev device : DeviceSeen
  device = seen filters old.device

  abbrev next : Story
  next = told device pool story event

  turned : desk_with new left ≡ next.desk
  turned = a.rules.desk ∙ ap (λ (d : Desk). (after device d event).desk) s.desk_is

  play_is : story.desk.play ≡ play_books old
  play_is = ap (λ (d : Desk). d.play) (sym s.desk_is)

  mapped_is : story.desk.mapped ≡ map_books old
  mapped_is = ap (λ (d : Desk). d.mapped) (sym s.desk_is)

  slots_stand : (slot : ℕ) (other : PlayChannelOf B) → slot < length (play_channels new) → PlayStands kept filters (get_or (play_channels new) slot other) (play_at device next.desk slot) (bytes_counted device next slot)
  slots_stand slot other within =
      let same = a.slots in
      let there : slot < length (play_channels old) = omega arith in
      let was = play_at-books device story.desk (play_channels old) slot other play_is there in
      let is = play_at-books device next.desk (play_channels new) slot other (ap (λ (d : Desk). d.play) (sym turned)) within in
      let moves = a.channels slot other there in
      let stood = subst (λ (b : PlayBook). PlayStands kept filters (get_or (play_channels old) slot other) b (bytes_counted device story slot)) was (s.slots slot other there) in
      let stands = moves.stands (bytes_counted device story slot) stood in
      let more : (play_at device next.desk slot).written ≤ (play_at device story.desk slot).written + length (moved_in pool event) = rw (is, was) moves.written in
      subst (PlayStands kept filters (get_or (play_channels new) slot other) (play_at device next.desk slot)) (sym (counts_told device pool story event slot fits s.valid more))
      (subst (λ (b : PlayBook). PlayStands kept filters (get_or (play_channels new) slot other) b (take b.written (bytes_counted device story slot ++ moved_in pool event))) (sym is) stands)

  maps_stand : MapAreOf old.device (map_channels old) → (slot : ℕ) (other : MapChannelOf B) → slot < length (map_channels new) → MapSlotStands kept device next slot (get_or (map_channels new) slot other)
  maps_stand own slot other within =
      let same = a.maps_slots in
      let there : slot < length (map_channels old) = omega arith in
      map-told kind kept old.device filters pool story event (map_channels old) (map_channels new) slot other fits s.valid (own slot other there) there
      (subst (λ (d : Desk). MapsMove kind kept filters old.device (bytes_brought pool event) d event (map_channels old) (map_channels new)) s.desk_is a.maps)
      (map_at-books device story.desk (map_channels old) slot other mapped_is there) (map_at-books device next.desk (map_channels new) slot other (ap (λ (d : Desk). d.mapped) (sym turned)) within)
      (s.mapped slot other there)

  bus_stands : BusStands kept device new next
  bus_stands = bus_told kept filters pool story event old new fits play_is mapped_is
      (subst (λ (d : Desk). BusMoves kept device d.handed d.mixer event (play_channels old) (map_channels old) old.bus.chain new.bus.chain old.ring.bytes new.ring.bytes) s.desk_is a.turns)
      (subst (λ (d : Desk). ParentStands kept device d old story) s.desk_is s)

  -- What stood for a story stands, one step on, for the story with one event more.
  pub stands-told : MapAreOf old.device (map_channels old) → ParentStands kept device (desk_with new left) new next
  stands-told own = record {
    desk_is = turned;
    slots = slots_stand;
    mapped = maps_stand own;
    bus = bus_stands.0;
    ring_is = bus_stands.1;
    valid = valid-told device pool story event fits s.valid;
  }

-- what an event gives to the device is the front of the device's ring
pub body-told : {B : Type 0} (kept : B → Kept) (device : DeviceSeen) (pool : Pool) (story : Story) (event : Event) (desk : Desk) (parent : ParentOf B) → Fits device pool event → ParentStands kept device desk parent story
    → device_body device (told device pool story event) ≡ device_body device story ++ take (bytes_handed device event) parent.ring.bytes
body-told kept device pool story (Intr n) desk parent fits s =
    let z : ℕ = device_frame_bytes device in
    let handed : ℕ = story.desk.handed in
    let bytes : List ℕ = device_bytes device story in
    let block : List ℕ = block_bytes (device_settings device) (new_block device pool story n) in
    let long = length-device_bytes device story s.valid in
    let room : (handed + n) * z ≤ (ring_frames device + handed) * z = mul-le-mul_right z (let within = fits.1 in omega arith) in
    let sum : (handed + n) * z ≡ handed * z + n * z = omega arith in
    device_body-bytes device (told device pool story (Intr n)) (valid-told device pool story (Intr n) fits s.valid)
    ∙ ap (take ((handed + n) * z)) (device_bytes-interrupt device pool story n s.valid)
    ∙ take-append-le ((handed + n) * z) bytes block (omega arith)
    ∙ ap (λ k. take k bytes) sum
    ∙ take-add (handed * z) (n * z) bytes
    ∙ ap (λ front. front ++ take (n * z) (drop (handed * z) bytes)) (sym (device_body-bytes device story s.valid))
    ∙ ap (λ rest. device_body device story ++ take (n * z) rest) (sym s.ring_is)
body-told kept device pool story event desk parent fits s =
    let k = keeps device pool story event fits refl s.valid in
    let no_bytes : bytes_handed device event ≡ 0 = omega arith in
    device_body-bytes device (told device pool story event) (valid-told device pool story event fits s.valid)
    ∙ ap (λ (h : ℕ). take (h * device_frame_bytes device) (device_bytes device (told device pool story event))) k.handed_same
    ∙ ap (take (story.desk.handed * device_frame_bytes device)) (device_bytes-same device pool story event s.valid k.handed_same)
    ∙ sym (device_body-bytes device story s.valid)
    ∙ sym (append-nil (device_body device story))
    ∙ ap (λ n. device_body device story ++ take n parent.ring.bytes) (sym no_bytes)
