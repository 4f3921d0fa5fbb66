-- An engine that is like another one, as its clone is: what its parts stand for, and that they are in order.
use Rattle.std.proofs.Common.{◌≡◌, ℕ, ◌<◌, List, length, get_or, refl, sym, ap, ◌∙◌, subst, arith}
use Rattle.pcm_engine.specs.Types.{Filters, Kept, Kind, MapBook, PlayBook, Pool, RecordBook}
use Rattle.pcm_desk.specs.Desk.{Desk, map_at, play_at, record_at}
use Rattle.pcm_desk.specs.Device.{DeviceSeen, IsInLimits, device_filters}
use Rattle.pcm_desk.specs.Own.{HoldApart, MembersWait}
use Rattle.pcm_sound.specs.Story.{Story, story_of}
use Rattle.pcm_play.specs.declared.channel.PlayChannelOf.{PlayChannelOf}
use Rattle.pcm_play.specs.Channels.{PlayStands, PlayStandsAs}
use Rattle.pcm_record.specs.declared.channel.RecordChannelOf.{RecordChannelOf}
use Rattle.pcm_record.specs.Channels.{RecordStands, RecordStandsAs}
use Rattle.pcm_map.specs.declared.channel.MapChannelOf.{MapChannelOf}
use Rattle.pcm_map.specs.Channels.{MapStands, MapStandsAs}
use Rattle.pcm_bus.specs.Handovers.{HasMade, HasMadeFar}
use Rattle.pcm_vchan.specs.declared.parent.ParentOf.{ParentOf}
use Rattle.pcm_vchan.specs.Clones.{IsParentClone, IsParentLike}
use Rattle.pcm_vchan.specs.Parents.{HasBus, map_channels, play_channels, record_channels}
use Rattle.pcm_vchan.proofs.Cloning.{books-alike}
use Rattle.pcm_engine.specs.declared.descriptors.Descriptors.{Descriptors}
use Rattle.pcm_engine.specs.declared.engine.EngineOf.{EngineOf}
use Rattle.pcm_engine.specs.Clones.{GoesOnAs, IsCloneOf}
use Rattle.pcm_engine.specs.Desks.{desk_with}
use Rattle.pcm_engine.specs.Engines.{AreReady, BooksAreHere, desk_of, device_of}
use Rattle.pcm_engine.specs.Invariants.{PartsInOrder}
use Rattle.pcm_engine.specs.Life.{KeepsPace}
use Rattle.pcm_engine.specs.Stands.{PartsStand, RecordersStand, bytes_counted, bytes_kept, frames_captured, map_bytes_counted, story_frames}
use Rattle.pcm_engine.proofs.InOrder.{ready-all}

-- ---- a channel that stands for whatever another one does, for the book that this one has

play-as : {B : Type 0} (kept : B → Kept) (filters : Filters) (other channel : PlayChannelOf B) (book : PlayBook) (bytes : List ℕ) → PlayStandsAs kept other channel
    → PlayStands kept filters other book bytes → PlayStands kept filters channel book bytes
play-as kept filters other channel book bytes alike stood =
    subst (λ b. PlayStands kept filters channel b bytes) (alike.book ∙ stood.book_is)
    (alike.stands filters bytes (subst (λ b. PlayStands kept filters other b bytes) (sym stood.book_is) stood))

record-as : {B : Type 0} (kept : B → Kept) (filters : Filters) (other channel : RecordChannelOf B) (book : RecordBook) (bytes : List ℕ) (frames : List _)
    → RecordStandsAs kept other channel → RecordStands kept filters other book bytes frames → RecordStands kept filters channel book bytes frames
record-as kept filters other channel book bytes frames alike stood =
    subst (λ b. RecordStands kept filters channel b bytes frames) (alike.book ∙ stood.book_is)
    (alike.stands filters bytes frames (subst (λ b. RecordStands kept filters other b bytes frames) (sym stood.book_is) stood))

map-as : {B : Type 0} (kept : B → Kept) (filters : Filters) (other channel : MapChannelOf B) (book : MapBook) (bytes : List ℕ) → MapStandsAs kept other channel
    → MapStands kept filters other book bytes → MapStands kept filters channel book bytes
map-as kept filters other channel book bytes alike stood =
    subst (λ b. MapStands kept filters channel b bytes) (alike.book ∙ stood.book_is)
    (alike.stands filters bytes (subst (λ b. MapStands kept filters other b bytes) (sym stood.book_is) stood))

-- ---- a parent

-- a clone is like its parent
pub clone-like : {B : Type 0} (kind : B → Kind) (kept : B → Kept) (device : DeviceSeen) (parent clone : ParentOf B) → IsParentClone kind kept parent clone → IsParentLike kind kept device parent clone
clone-like kind kept device parent clone is = record {
  device_same = is.device;
  playing = is.playing;
  recording = is.recording;
  mapped = is.mapped;
  mixer = is.mixer;
  plan = is.plan;
  far = is.far device parent.handed;
  made = λ x. is.made device x parent.handed;
  ring = is.ring;
  handed = is.handed;
  mixed = is.mixed;
}

-- the desk of a parent that is like another one, with the same descriptors, is that one's
pub desk-alike : {B : Type 0} (kind : B → Kind) (kept : B → Kept) (device : DeviceSeen) (parent clone : ParentOf B) (descriptors copied : Descriptors) → IsParentLike kind kept device parent clone
    → copied.held.value ≡ descriptors.held.value → copied.groups ≡ descriptors.groups → desk_with clone copied ≡ desk_with parent descriptors
desk-alike {B} kind kept device parent clone descriptors copied is held groups =
    let play = books-alike (λ (channel : PlayChannelOf B). channel.book) (play_channels parent) (play_channels clone) is.playing.count
    (λ slot other there. (is.playing.stand slot other there).book) in
    let recording = books-alike (λ (channel : RecordChannelOf B). channel.book) (record_channels parent) (record_channels clone) is.recording.count
    (λ slot other there. (is.recording.stand slot other there).book) in
    let mapped = books-alike (λ (channel : MapChannelOf B). channel.book) (map_channels parent) (map_channels clone) is.mapped.count
    (λ slot other there. (is.mapped.stand slot other there).book) in
    rw (play, recording, mapped, held, groups, is.mixer, is.handed, is.mixed) refl

-- the parts of a clone stand for the story that the parent's stand for
parts-alike : {B : Type 0} (kind : B → Kind) (kept : B → Kept) (device : DeviceSeen) (desk : Desk) (parent clone : ParentOf B) (story : Story) → IsParentLike kind kept device parent clone → parent.handed ≡ desk.handed
    → PartsStand kept device desk (play_channels parent) (map_channels parent) parent.bus.chain parent.ring.bytes story
    → PartsStand kept device desk (play_channels clone) (map_channels clone) clone.bus.chain clone.ring.bytes story
parts-alike {B} kind kept device desk parent clone story is handed stood =
    let playing = is.playing.count in
    let mapped = is.mapped.count in
    let at : parent.handed ≡ story.desk.handed = handed ∙ ap (λ (d : Desk). d.handed) stood.desk_is in
    record {
      desk_is = stood.desk_is;
      slots = λ slot other there.
          let before : slot < length (play_channels parent) = omega arith in
          play-as kept (device_filters device) (get_or (play_channels parent) slot other) (get_or (play_channels clone) slot other) (play_at device story.desk slot)
          (bytes_counted device story slot) (is.playing.stand slot other before) (stood.slots slot other before);
      mapped = λ slot other there.
          let before : slot < length (map_channels parent) = omega arith in
          let was = stood.mapped slot other before in
          let alike = is.mapped.stand slot other before in
          record {
            stands = map-as kept (device_filters device) (get_or (map_channels parent) slot other) (get_or (map_channels clone) slot other) (map_at device story.desk slot)
                (map_bytes_counted device story slot) alike was.stands;
            area = alike.area ∙ was.area;
          };
      bus = subst (λ n. HasMade kept device clone.bus.chain (story_frames device story n) n) at (is.made (story_frames device story parent.handed) (subst (λ n. HasMade kept device parent.bus.chain (story_frames device story n) n) (sym at) stood.bus));
      ring_is = is.ring ∙ stood.ring_is;
      valid = stood.valid;
    }

-- and so do its channels that record
recorders-alike : {B : Type 0} (kind : B → Kind) (kept : B → Kept) (device : DeviceSeen) (pool : Pool) (parent clone : ParentOf B) (story : Story) → IsParentLike kind kept device parent clone
    → RecordersStand kept device pool (record_channels parent) story → RecordersStand kept device pool (record_channels clone) story
recorders-alike {B} kind kept device pool parent clone story is stood =
    let recording = is.recording.count in
    record {
      slots = λ slot other there.
          let before : slot < length (record_channels parent) = omega arith in
          record-as kept (device_filters device) (get_or (record_channels parent) slot other) (get_or (record_channels clone) slot other) (record_at device story.desk slot)
          (bytes_kept device story slot) (frames_captured device pool story slot) (is.recording.stand slot other before) (stood.slots slot other before);
      valid = stood.valid;
    }

-- it is in order where that one is
pub clone-in-order : {B : Type 0} (kind : B → Kind) (kept : B → Kept) (device : DeviceSeen) (parent clone : ParentOf B) (descriptors copied : Descriptors) → IsParentLike kind kept device parent clone
    → copied.held.value ≡ descriptors.held.value → copied.groups ≡ descriptors.groups → PartsInOrder parent descriptors → PartsInOrder clone copied
clone-in-order kind kept device parent clone descriptors copied is held groups order =
    let desk = desk-alike kind kept device parent clone descriptors copied is held groups in
    record {
      own = record {
        playing = λ slot other there. is.playing.own slot other there ∙ sym is.device_same;
        recording = λ slot other there. is.recording.own slot other there ∙ sym is.device_same;
        mapped = λ slot other there. is.mapped.own slot other there ∙ sym is.device_same;
      };
      apart = subst HoldApart (sym desk) order.apart;
      pace = subst KeepsPace (sym desk) order.pace;
      life = omega (arith, is.handed, order.life);
    }

-- ---- an engine

-- the bus of a clone has made what was given to the device
bus-alike : {B : Type 0} (kind : B → Kind) (kept : B → Kept) (device : DeviceSeen) (parent clone : ParentOf B) → IsParentLike kind kept device parent clone → HasBus kept device parent → HasBus kept device clone
bus-alike kind kept device parent clone is bus = record {
  planned = record { limits = bus.planned.limits; plan_is = is.plan ∙ bus.planned.plan_is };
  made = subst (HasMadeFar kept device clone.bus.chain) (sym is.handed) (is.far bus.made);
  level = rw (is.mixed, is.handed) bus.level;
}

-- an engine whose parent is like that of another one, with the same tables and descriptors, goes on as that one does
pub like-stands : {B : Type 0} (kind : B → Kind) (kept : B → Kept) (engine other : EngineOf B) → IsParentLike kind kept (device_of engine) engine.parent other.parent → other.tables ≡ engine.tables
    → other.descriptors.held.value ≡ engine.descriptors.held.value → other.descriptors.groups ≡ engine.descriptors.groups → GoesOnAs kept engine other
like-stands {B} kind kept engine other is tables held groups =
    let device : device_of other ≡ device_of engine = rw (tables, is.device_same) refl in
    let desk : desk_of other ≡ desk_of engine = desk-alike kind kept (device_of engine) engine.parent other.parent engine.descriptors other.descriptors is held groups in
    record {
      device = device;
      desk = desk;
      stands = λ pool events stood. record {
        playing = subst (λ (d : DeviceSeen). PartsStand kept d (desk_of other) (play_channels other.parent) (map_channels other.parent) other.parent.bus.chain other.parent.ring.bytes (story_of d pool events)) (sym device)
            (subst (λ (at : Desk). PartsStand kept (device_of engine) at (play_channels other.parent) (map_channels other.parent) other.parent.bus.chain other.parent.ring.bytes (story_of (device_of engine) pool events)) (sym desk)
            (parts-alike kind kept (device_of engine) (desk_of engine) engine.parent other.parent (story_of (device_of engine) pool events) is refl stood.playing));
        recording = subst (λ (d : DeviceSeen). RecordersStand kept d pool (record_channels other.parent) (story_of d pool events)) (sym device)
            (recorders-alike kind kept (device_of engine) pool engine.parent other.parent (story_of (device_of engine) pool events) is stood.recording);
      };
    }

-- and is its clone where that one is ready
pub clone-stands : {B : Type 0} (kind : B → Kind) (kept : B → Kept) (engine clone : EngineOf B) → IsParentLike kind kept (device_of engine) engine.parent clone.parent → clone.tables ≡ engine.tables
    → clone.descriptors.held.value ≡ engine.descriptors.held.value → clone.descriptors.groups ≡ engine.descriptors.groups → AreReady kind kept engine → IsCloneOf kind kept engine clone
clone-stands {B} kind kept engine clone is tables held groups ready =
    let goes = like-stands kind kept engine clone is tables held groups in
    let device = goes.device in
    let desk = goes.desk in
    record {
      goes = goes;
      ready = ready-all kind kept clone
          (λ slot other there. let count = is.playing.count in let before : slot < length (play_channels engine.parent) = omega arith in
          let was = ready.playing slot other before in let alike = is.playing.stand slot other before in
          rw tables (record { kinds = is.playing.kinds slot other there; planned = alike.planned engine.tables was.planned; far = alike.far engine.tables was.far }))
          (λ slot other there. let count = is.recording.count in let before : slot < length (record_channels engine.parent) = omega arith in
          let was = ready.recording slot other before in let alike = is.recording.stand slot other before in
          rw tables (record { kinds = is.recording.kinds slot other there; planned = alike.planned engine.tables was.planned; far = alike.far engine.tables was.far }))
          (λ slot other there. let count = is.mapped.count in let before : slot < length (map_channels engine.parent) = omega arith in
          let was = ready.mapped slot other before in let alike = is.mapped.stand slot other before in
          rw tables (record { kinds = is.mapped.kinds slot other there; planned = alike.planned engine.tables was.planned; far = alike.far engine.tables was.far }))
          (subst (λ (d : DeviceSeen). HasBus kept d clone.parent) (sym device) (bus-alike kind kept (device_of engine) engine.parent clone.parent is ready.bus))
          (subst IsInLimits (sym device) ready.limits)
          (subst (λ (d : DeviceSeen). BooksAreHere d (desk_of clone)) (sym device) (subst (BooksAreHere (device_of engine)) (sym desk) ready.places))
          (subst (λ (d : DeviceSeen). MembersWait d (desk_of clone)) (sym device) (subst (MembersWait (device_of engine)) (sym desk) ready.members));
    }
