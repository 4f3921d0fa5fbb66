-- What a step on an event leaves of an engine that is ready.
use Rattle.std.proofs.Common.{◌≡◌, ◌∙◌, ℕ, ℤ, List, All, Result, drop, refl, sym, ap, subst, ◌<◌, [], length, get_or, map, min, replicate, take, ◌++◌, Option, Some, None, inl, inr, arith}
use Rattle.std.proofs.lemmas.Bool.{cases_lt}
use Rattle.std.proofs.lemmas.List.{drop_at, get_or-map, get_or_default, length-append, length-map, length-replicate, take_all}
use Rattle.pcm_engine.specs.Types.{Answer, Errno, Event, Filters, Held, Kept, Kind, RecordBook, Way}
use Rattle.pcm_oss.specs.Replies.{Reply}
use Rattle.pcm_desk.specs.Device.{DeviceSeen, IsInLimits}
use Rattle.pcm_desk.specs.Desk.{Desk, after, held_by, channel_at}
use Rattle.pcm_desk.specs.Own.{IsIsolated, MembersWait, slots_of}
use Rattle.pcm_desk.specs.Events.{bytes_handed}
use Rattle.pcm_desk.proofs.Isolation.{isolated}
use Rattle.pcm_desk.proofs.Members.{waits-after}
use Rattle.pcm_desk.proofs.Turning.{handed-taken}
use Rattle.pcm_sound.proofs.Stories.{order-after}
use Rattle.pcm_play.specs.Channels.{IsPlayReady}
use Rattle.pcm_record.specs.Channels.{HoldsUnread, IsRecordReady}
use Rattle.pcm_map.specs.Channels.{IsMapReady}
use Rattle.pcm_vchan.specs.Parents.{HasBus, map_channels, play_channels, record_channels}
use Rattle.pcm_vchan.proofs.Channels.{ready-after}
use Rattle.pcm_engine.specs.declared.engine.EngineOf.{EngineOf}
use Rattle.pcm_engine.specs.Brought.{IsAllowed}
use Rattle.pcm_engine.specs.Engines.{AreReady, BooksAreHere, GoesByRules, HasStepped, desk_of, device_of}
use Rattle.pcm_engine.specs.Steps.{bytes_answered, bytes_moved, frames_mixed, bytes_read, front_taken, channel_read}
use Rattle.pcm_engine.proofs.Bringing.{opens-allowed}
use Rattle.pcm_engine.proofs.Called.{AppliedTo, same-device}
use Rattle.pcm_engine.proofs.InOrder.{books-rates, ready-all}
use Rattle.pcm_engine.proofs.Mapped.{maps-ready}
use Rattle.pcm_engine.proofs.Recording.{recorders-ready, record_at-books}
use Rattle.pcm_oss.specs.declared.event.Way.TheVariants.{Play, Record, Map}
use Rattle.pcm_desk.specs.RecordBooks.{record_fill_of}
use Rattle.pcm_desk.specs.Channels.{by_way}
use Rattle.pcm_record.specs.declared.channel.RecordChannelOf.{RecordChannelOf}
use Rattle.pcm_vchan.specs.Slots.{AllHoldUnread, record_books_of}
use Rattle.pcm_bus.proofs.Channels.{some_channel}

-- ---- what a read gets is the front of what waits in the ring of its own channel

-- what a book counts as read, and then what waits in the ring
abbrev held_unread : {B : Type 0} → RecordChannelOf B → List ℕ
held_unread channel = replicate channel.book.read 0 ++ channel.path.ring.bytes

holds : {B : Type 0} (channel : RecordChannelOf B) → HoldsUnread channel (held_unread channel)
holds channel =
    let long = length-replicate channel.book.read 0 in
    record {
      count = omega (arith, length-append (replicate channel.book.read 0) channel.path.ring.bytes, long, channel.fill, channel.within);
      ring_is = sym (drop_at (replicate channel.book.read 0) channel.path.ring.bytes channel.book.read long);
    }

-- the bytes of a slot, or none where there is no such slot
unread-at : {B : Type 0} (recorders : List (RecordChannelOf B)) (slot : ℕ)
    → (bytes : List ℕ) × ((other : RecordChannelOf B) → slot < length recorders → HoldsUnread (get_or recorders slot other) bytes)
unread-at {B} recorders slot =
    elim (cases_lt slot (length recorders)) [
      | inl there ↦ (let some : RecordChannelOf B = some_channel recorders slot there in
          let its : RecordChannelOf B = get_or recorders slot some in
          (held_unread its, λ other within. subst (λ (c : RecordChannelOf B). HoldsUnread c (held_unread its)) (get_or_default recorders slot some other there) (holds its)))
      | inr past ↦ ([], λ other within. absurd (omega arith))
    ]

-- a read of a channel that stands for its bytes takes them out of its ring
take_fill : (count : ℕ) (bytes : List ℕ) → take (min count (length bytes)) bytes ≡ take count bytes
take_fill count bytes =
    elim (cases_lt count (length bytes)) [
      | inl less ↦ (let is : min count (length bytes) ≡ count = omega arith in ap (λ n. take n bytes) is)
      | inr more ↦ (let is : min count (length bytes) ≡ length bytes = omega arith in ap (λ n. take n bytes) is ∙ take_all (length bytes) bytes (omega arith) ∙ sym (take_all count bytes more))
    ]

front : {B : Type 0} (count : ℕ) (channel : RecordChannelOf B) (bytes : List ℕ) → HoldsUnread channel bytes
    → take (min count (record_fill_of channel.book)) (drop channel.book.read bytes) ≡ take count channel.path.ring.bytes
front count channel bytes s =
    ap (λ n. take (min count n) (drop channel.book.read bytes)) (sym channel.fill) ∙ ap (take (min count (length channel.path.ring.bytes))) (sym s.ring_is) ∙ take_fill count channel.path.ring.bytes

-- the bytes of each ring, by slot
abbrev rings : {B : Type 0} → List (RecordChannelOf B) → List (List ℕ)
rings recorders = map (λ channel. channel.path.ring.bytes) recorders

read_held : {B : Type 0} (device : DeviceSeen) (desk : Desk) (recorders : List (RecordChannelOf B)) (bytes : ℕ → List ℕ) (count : ℕ) (way : Way) (slot : ℕ)
    → desk.recording ≡ record_books_of recorders → AllHoldUnread recorders bytes → slot < slots_of desk way
    → let held : Held = record { way = way; slot = slot } in
    channel_read count (channel_at device desk held) (bytes slot) ≡ by_way way [] (take count (get_or (rings recorders) slot [])) []
read_held device desk recorders bytes count Play slot are stand there = refl
read_held device desk recorders bytes count Map slot are stand there = refl
read_held {B} device desk recorders bytes count Record slot are stand there =
    let here : slot < length recorders = omega (arith, there, ap (λ (l : List RecordBook). length l) are, length-map recorders (λ (c : RecordChannelOf B). c.book)) in
    let channel : RecordChannelOf B = get_or recorders slot (some_channel recorders slot here) in
    ap (λ (b : RecordBook). take (min count (record_fill_of b)) (drop b.read (bytes slot))) (record_at-books device desk recorders slot (some_channel recorders slot here) are here)
    ∙ front count channel (bytes slot) (stand slot (some_channel recorders slot here) here)
    ∙ ap (take count) (sym (get_or-map (λ (c : RecordChannelOf B). c.path.ring.bytes) recorders slot (some_channel recorders slot here) [] here))

read_found : {B : Type 0} (device : DeviceSeen) (desk : Desk) (recorders : List (RecordChannelOf B)) (bytes : ℕ → List ℕ) (count : ℕ) (found : Option Held)
    → desk.recording ≡ record_books_of recorders → AllHoldUnread recorders bytes → ((held : Held) → found ≡ Some held → held.slot < slots_of desk held.way)
    → bytes_read device desk bytes count found ≡ front_taken (rings recorders) count found
read_found device desk recorders bytes count None are stand there = refl
read_found device desk recorders bytes count (Some held) are stand there = read_held device desk recorders bytes count held.way held.slot are stand (there held refl)

-- So a ready engine's reply to a read is the front of what waits in the ring of the slot that the descriptor holds.
pub read-waiting : {B : Type 0} (device : DeviceSeen) (desk : Desk) (recorders : List (RecordChannelOf B)) (count : ℕ) (found : Option Held) (reply : List ℕ)
    → desk.recording ≡ record_books_of recorders → ((held : Held) → found ≡ Some held → held.slot < slots_of desk held.way)
    → ((bytes : ℕ → List ℕ) → AllHoldUnread recorders bytes → reply ≡ bytes_read device desk bytes count found)
    → reply ≡ front_taken (rings recorders) count found
read-waiting device desk recorders count found reply are there answered =
    let bytes : ℕ → List ℕ = λ slot. (unread-at recorders slot).0 in
    let hold : AllHoldUnread recorders bytes = λ slot other within. (unread-at recorders slot).1 other within in
    answered bytes hold ∙ read_found device desk recorders bytes count found are hold there

-- ---- a step

module _ {B : Type 0} (kind : B → Kind) (kept : B → Kept) (event : Event) (bytes : List ℕ) (samples : List ℤ) (old new : EngineOf B) (told : Reply) (a : AppliedTo kind kept event bytes samples old new told)
    (tables : new.tables ≡ old.tables) (within : IsAllowed (device_of old) event) (was : AreReady kind kept old) where
  abbrev device : DeviceSeen
  device = device_of old

  same : device_of new ≡ device
  same = same-device old new tables a.device

  places : BooksAreHere (device_of new) (desk_of new)
  places = subst (λ (d : DeviceSeen). BooksAreHere d (desk_of new)) (sym same)
      (subst (BooksAreHere device) (sym a.rules.desk) (λ slot.
      let d = was.limits.device_is in
      (order-after device (desk_of old) event slot d (opens-allowed device event within) (books-rates old d) (record { counts = was.books slot; place = was.places slot })).place))

  members : MembersWait (device_of new) (desk_of new)
  members = subst (λ (d : DeviceSeen). MembersWait d (desk_of new)) (sym same)
      (subst (MembersWait device) (sym a.rules.desk) (waits-after device (desk_of old) event old.order.apart was.members))

  -- it is ready for the next
  ready : AreReady kind kept new
  ready =
      ready-all kind kept new
      (subst (λ (t : Filters). All (IsPlayReady kind kept t) (play_channels new.parent)) (sym tables)
      (ready-after kind kept old.tables (bytes_moved bytes event) (frames_mixed device old.parent.handed event) (play_channels old.parent) (play_channels new.parent) a.slots a.channels was.playing))
      (subst (λ (t : Filters). All (IsRecordReady kind kept t) (record_channels new.parent)) (sym tables)
      (recorders-ready kind kept device samples event (record_channels old.parent) (record_channels new.parent) a.recorders_slots a.recorders was.recording))
      (subst (λ (t : Filters). All (IsMapReady kind kept t) (map_channels new.parent)) (sym tables)
      (maps-ready kind kept old.parent.device old.tables bytes (desk_of old) event (map_channels old.parent) (map_channels new.parent) a.maps_slots a.maps was.mapped))
      (subst (λ (d : DeviceSeen). HasBus kept d new.parent) (sym same) a.bus) (subst IsInLimits (sym same) was.limits) places members

  rules : GoesByRules kept event old new told
  rules =
      let desk = desk_of old in
      record {
        device = same;
        handed = ap (λ (desk : Desk). desk.handed) a.rules.desk ∙ handed-taken device desk event;
        desk = a.rules.desk;
        result = a.rules.result;
        refused = λ err. record { parent_same = (a.rules.refused err).0; descriptors_same = (a.rules.refused err).1 };
        isolated =
            subst (λ (left : Desk). IsIsolated device event desk left told.result) (sym a.rules.desk)
            (subst (λ (answer : Result Answer Errno). IsIsolated device event desk (after device desk event).desk answer) (sym a.rules.result) (isolated device event desk old.order.apart));
        read = a.rules.answered;
        taken = λ fd count is.
            read-waiting device desk (record_channels old.parent) count (held_by desk fd) told.bytes refl
            (λ held e. old.order.apart.within fd held e)
            (λ bytes stand. a.rules.answered bytes stand ∙ ap (λ (event : Event). bytes_answered device desk bytes event) is);
      }

  -- and all that a step says of it holds
  pub stepped-applied : (size : ℕ) (room filled : List ℕ) → size ≡ bytes_handed device event → drop size filled ≡ drop size room → HasStepped kind kept event old new told size room filled
  stepped-applied size room filled count rest = record {
    rules = rules;
    ready = ready;
    safe = ready.books;
    records_safe = ready.records;
    maps_safe = ready.maps;
    places = ready.places;
    rings = ready.rings;
    apart = new.order.apart;
    members = ready.members;
    count = count;
    rest = rest;
  }
