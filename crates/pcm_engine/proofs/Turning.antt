-- What becomes of a desk whose parent lent one channel.
use Rattle.std.proofs.Common.{Ok, Err, ◌≡◌, ◌+◌, ◌-◌, ℕ, ◌<◌, ◌≤◌, false, cond, eqb, List, length, get_or, min, take, drop, Option, Some, None, Result, refl, sym, ap, ◌∙◌, arith, Bool, true}
use Rattle.std.specs.Prelude.{IsOk, is_some, not}
use Rattle.std.proofs.lemmas.List.{length-map}
use Rattle.pcm_engine.specs.Types.{Answer, Device, Errno, Event, Held, MapBook, PlayBook, RecordBook, Request, Settings, Turn, Way}
use Rattle.pcm_oss.specs.declared.event.TheConstants.{SLOTS}
use Rattle.pcm_sequence.proofs.Items.{items-count}
use Rattle.pcm_oss.specs.declared.event.Way.TheVariants.{Play, Record, Map}
use Rattle.pcm_oss.specs.declared.reply.Answer.TheVariants.{Number}
use Rattle.pcm_oss.specs.declared.reply.Errno.TheVariants.{BadF, Exist, Inval}
use Rattle.pcm_desk.specs.Device.{DeviceSeen}
use Rattle.pcm_desk.specs.RunStates.{is_unheld}
use Rattle.pcm_desk.specs.RecordBooks.{record_fill_of}
use Rattle.pcm_desk.specs.Channels.{Mapped, Playing, Recording, by_way}
use Rattle.pcm_desk.specs.Desk.{Desk, DeskTurn, held_by, map_at, map_unopened, open_turn, play_at, play_unopened, record_at, record_unopened, refusing, slot_number, with_descriptor, after, channel_at, channel_turn, least_free, leaving, open_at, opened_at, with_channel_at}
use Rattle.pcm_desk.specs.Own.{HoldApart}
use Rattle.pcm_sound.specs.Areas.{holds_map}
use Rattle.pcm_play.specs.declared.channel.PlayChannelOf.{PlayChannelOf}
use Rattle.pcm_record.specs.declared.channel.RecordChannelOf.{RecordChannelOf}
use Rattle.pcm_map.specs.declared.channel.MapChannelOf.{MapChannelOf}
use Rattle.pcm_vchan.specs.declared.parent.ParentOf.{ParentOf}
use Rattle.pcm_bus.specs.Slots.{PlayAreOf}
use Rattle.pcm_vchan.specs.Slots.{slot_place}
use Rattle.pcm_vchan.specs.Parents.{map_channels, play_channels, record_channels, slot_or_busy}
use Rattle.pcm_vchan.specs.Lending.{with_channel, with_map_channel, with_recorder}
use Rattle.pcm_bus.proofs.Channels.{map_at-channel, play_at-channel}
use Rattle.pcm_vchan.proofs.Channels.{map_books_of-set, play_books_of-set, record_at-channel, record_books_of-set}
use Rattle.pcm_engine.specs.declared.descriptors.Descriptors.{Descriptors}
use Rattle.pcm_engine.specs.Answered.{IsSlotThere}
use Rattle.pcm_engine.specs.Descriptors.{holding, is_way, shut, slot_of}
use Rattle.pcm_engine.specs.Desks.{desk_with, channel_asked, closed_held}
use Rattle.pcm_engine.specs.Steps.{bytes_read, channel_read}
use Rattle.pcm_desk.proofs.Channels.{put-again}
use Rattle.pcm_oss.specs.declared.event.Event.TheVariants.{Close, Poke, Read, Write}
use Rattle.pcm_wave.specs.declared.pool.Source.{Source}

-- ---- where a descriptor's channel is

-- a channel of this way and slot
abbrev pub channel_of : Way → ℕ → Held
channel_of way slot = record { way = way; slot = slot }

-- what a descriptor is refused for, and what it holds where it isn't
pub holding-is : (found : Option Held) (held : Held) → holding found ≡ Ok held → found ≡ Some held
holding-is None held e = cc
holding-is (Some h) held e = cc

-- of a way that is known
pub held-as : (way : Way) (found : Option Held) (held : Held) → holding found ≡ Ok held → held.way ≡ way → found ≡ Some (channel_of way held.slot)
held-as way found held e is = holding-is found held e ∙ ap (λ (w : Way). Some (channel_of w held.slot)) is

pub holding-not : (device : DeviceSeen) (desk : Desk) (event : Event) (found : Option Held) (errno : Errno) → holding found ≡ Err errno → channel_turn device desk event found ≡ refusing desk errno
holding-not device desk event None errno e = let same : BadF ≡ errno = cc in ap (refusing desk) same
holding-not device desk event (Some held) errno e = cc

pub ask-not : (device : DeviceSeen) (desk : Desk) (request : Request) (found : Option Held) (errno : Errno) → holding found ≡ Err errno → channel_asked device desk request found ≡ refusing desk errno
ask-not device desk request None errno e = let same : BadF ≡ errno = cc in ap (refusing desk) same
ask-not device desk request (Some held) errno e = cc

slot_way : (way other : Way) (at slot : ℕ) → cond (is_way way other) (Ok at) (Err Inval) ≡ Ok slot → channel_of other at ≡ channel_of way slot
slot_way Play Play at slot e = let same : at ≡ slot = cc in ap (channel_of Play) same
slot_way Record Record at slot e = let same : at ≡ slot = cc in ap (channel_of Record) same
slot_way Map Map at slot e = let same : at ≡ slot = cc in ap (channel_of Map) same
slot_way way other at slot e = cc

pub slot-is : (way : Way) (found : Option Held) (slot : ℕ) → slot_of way found ≡ Ok slot → found ≡ Some (channel_of way slot)
slot-is way None slot e = cc
slot-is way (Some held) slot e = ap (λ (h : Held). Some h) (slot_way way held.way held.slot slot e)

-- ---- an event that channels of one way take, and no other

-- a channel that refuses it stays as it was
refuses : (device : DeviceSeen) (desk : Desk) (held : Held) → record { desk = with_channel_at desk held.slot (channel_at device desk held); reply = Err Inval } ≡ refusing desk Inval
refuses device desk held = ap (λ (d : Desk). refusing d Inval) (put-again device desk held)

refused_by : (device : DeviceSeen) (desk : Desk) (event : Event) (way : Way) (found : Option Held) (errno : Errno) → ((held : Held) → is_way way held.way ≡ false → channel_turn device desk event (Some held) ≡ refusing desk Inval)
    → slot_of way found ≡ Err errno → channel_turn device desk event found ≡ refusing desk errno
refused_by device desk event way None errno others e = let same : BadF ≡ errno = cc in ap (refusing desk) same
refused_by device desk event way (Some held) errno others e = at (is_way way held.way) refl e
  where
    at : (b : Bool) → is_way way held.way ≡ b → cond b (Ok held.slot) (Err Inval) ≡ Err errno → channel_turn device desk event (Some held) ≡ refusing desk errno
    at true is e = cc
    at false is e = let same : Inval ≡ errno = cc in others held is ∙ ap (refusing desk) same

pub write-refused : (device : DeviceSeen) (desk : Desk) (fd : ℕ) (source : Source) (at count : ℕ) (found : Option Held) (errno : Errno) → slot_of Play found ≡ Err errno → channel_turn device desk (Write fd source at count) found ≡ refusing desk errno
write-refused device desk fd source at count found errno = refused_by device desk (Write fd source at count) Play found errno (λ held. other held.way held.slot)
  where
    other : (way : Way) (slot : ℕ) → is_way Play way ≡ false → channel_turn device desk (Write fd source at count) (Some (channel_of way slot)) ≡ refusing desk Inval
    other Play slot is = cc
    other way slot is = refuses device desk (channel_of way slot)

pub poke-refused : (device : DeviceSeen) (desk : Desk) (fd offset at count : ℕ) (found : Option Held) (errno : Errno) → slot_of Map found ≡ Err errno → channel_turn device desk (Poke fd offset at count) found ≡ refusing desk errno
poke-refused device desk fd offset at count found errno = refused_by device desk (Poke fd offset at count) Map found errno (λ held. other held.way held.slot)
  where
    other : (way : Way) (slot : ℕ) → is_way Map way ≡ false → channel_turn device desk (Poke fd offset at count) (Some (channel_of way slot)) ≡ refusing desk Inval
    other Map slot is = cc
    other way slot is = refuses device desk (channel_of way slot)

pub read-refused : (device : DeviceSeen) (desk : Desk) (fd count : ℕ) (found : Option Held) (errno : Errno) → slot_of Record found ≡ Err errno → channel_turn device desk (Read fd count) found ≡ refusing desk errno
read-refused device desk fd count found errno = refused_by device desk (Read fd count) Record found errno (λ held. other held.way held.slot)
  where
    other : (way : Way) (slot : ℕ) → is_way Record way ≡ false → channel_turn device desk (Read fd count) (Some (channel_of way slot)) ≡ refusing desk Inval
    other Record slot is = cc
    other way slot is = refuses device desk (channel_of way slot)

-- ---- the slots of a parent

-- the slot that a descriptor holds is there
pub play-there : {B : Type 0} (parent : ParentOf B) (descriptors : Descriptors) (fd slot : ℕ) → HoldApart (desk_with parent descriptors) → held_by (desk_with parent descriptors) fd ≡ Some (channel_of Play slot) → slot < length (play_channels parent)
play-there {B = B} parent descriptors fd slot h e = let there = h.within fd (channel_of Play slot) e in omega (arith, length-map (play_channels parent) (λ (c : PlayChannelOf B). c.book))

pub record-there : {B : Type 0} (parent : ParentOf B) (descriptors : Descriptors) (fd slot : ℕ) → HoldApart (desk_with parent descriptors) → held_by (desk_with parent descriptors) fd ≡ Some (channel_of Record slot) → slot < length (record_channels parent)
record-there {B = B} parent descriptors fd slot h e = let there = h.within fd (channel_of Record slot) e in omega (arith, length-map (record_channels parent) (λ (c : RecordChannelOf B). c.book))

pub map-there : {B : Type 0} (parent : ParentOf B) (descriptors : Descriptors) (fd slot : ℕ) → HoldApart (desk_with parent descriptors) → held_by (desk_with parent descriptors) fd ≡ Some (channel_of Map slot) → slot < length (map_channels parent)
map-there {B = B} parent descriptors fd slot h e = let there = h.within fd (channel_of Map slot) e in omega (arith, length-map (map_channels parent) (λ (c : MapChannelOf B). c.book))

-- so is that of a descriptor which is found open
pub open-there : {B : Type 0} (parent : ParentOf B) (descriptors : Descriptors) (fd : ℕ) (held : Held) → HoldApart (desk_with parent descriptors) → holding (held_by (desk_with parent descriptors) fd) ≡ Ok held → IsSlotThere held parent
open-there parent descriptors fd held h e =
    let found : Option Held = held_by (desk_with parent descriptors) fd in
    record {
      play = λ is. (let there = play-there parent descriptors fd held.slot h (held-as Play found held e is) in omega (arith, there, items-count parent.channels));
      recording = λ is. (let there = record-there parent descriptors fd held.slot h (held-as Record found held e is) in omega (arith, there, items-count parent.recorders));
      mapped = λ is. (let there = map-there parent descriptors fd held.slot h (held-as Map found held e is) in omega (arith, there, items-count parent.maps));
    }

-- there are few slots of each way
pub open-few : {B : Type 0} (parent : ParentOf B) (descriptors : Descriptors) (fd : ℕ) (held : Held) → HoldApart (desk_with parent descriptors) → holding (held_by (desk_with parent descriptors) fd) ≡ Ok held → held.slot < SLOTS
open-few parent descriptors fd held h e = at held.way refl
  where
    at : (way : Way) → held.way ≡ way → held.slot < SLOTS
    at Play is = let below = (open-there parent descriptors fd held h e).play is in omega (arith, below, parent.slots, parent.slots_within)
    at Record is = let below = (open-there parent descriptors fd held h e).recording is in omega (arith, below, parent.recorders_count, parent.recorders_within)
    at Map is = let below = (open-there parent descriptors fd held h e).mapped is in omega (arith, below, parent.maps_count, parent.slots_within)

-- ---- channels that play

-- a channel that was lent is of the parent's device
pub own-lent : {B : Type 0} (device : Device) (channels : List (PlayChannelOf B)) (slot : ℕ) (lent : PlayChannelOf B) → slot < length channels → lent ≡ get_or channels slot lent → PlayAreOf device channels → lent.path.device ≡ device
own-lent {B = B} device channels slot lent there is own = ap (λ (channel : PlayChannelOf B). channel.path.device) is ∙ own slot lent there

-- the desk, where the book of the channel was turned, and the reply
pub turn-played : {B : Type 0} (device : DeviceSeen) (turn : PlayBook → Turn PlayBook) (parent : ParentOf B) (descriptors : Descriptors) (slot : ℕ) (lent new : PlayChannelOf B) (answer : Result Answer Errno)
    → slot < length (play_channels parent) → lent ≡ get_or (play_channels parent) slot lent → new.book ≡ (turn lent.book).book → answer ≡ (turn lent.book).reply
    → let turned : Turn PlayBook = turn (play_at device (desk_with parent descriptors) slot) in
    (desk_with (with_channel parent slot new) descriptors ≡ with_channel_at (desk_with parent descriptors) slot (Playing turned.book)) × (answer ≡ turned.reply)
turn-played device turn parent descriptors slot lent new answer there is changed answered = (
  ap (λ (books : List PlayBook). record (desk_with parent descriptors) { play = books }) (play_books_of-set (λ (book : PlayBook). (turn book).book) (play_channels parent) slot lent new (play_unopened device) there is changed),
  answered ∙ ap (λ (book : PlayBook). (turn book).reply) (play_at-channel (play_channels parent) slot lent (play_unopened device) there is),
)

-- ---- channels that record

pub turn-recorded : {B : Type 0} (device : DeviceSeen) (turn : RecordBook → Turn RecordBook) (parent : ParentOf B) (descriptors : Descriptors) (slot : ℕ) (lent new : RecordChannelOf B) (answer : Result Answer Errno)
    → slot < length (record_channels parent) → lent ≡ get_or (record_channels parent) slot lent → new.book ≡ (turn lent.book).book → answer ≡ (turn lent.book).reply
    → let turned : Turn RecordBook = turn (record_at device (desk_with parent descriptors) slot) in
    (desk_with (with_recorder parent slot new) descriptors ≡ with_channel_at (desk_with parent descriptors) slot (Recording turned.book)) × (answer ≡ turned.reply)
turn-recorded device turn parent descriptors slot lent new answer there is changed answered = (
  ap (λ (books : List RecordBook). record (desk_with parent descriptors) { recording = books }) (record_books_of-set (λ (book : RecordBook). (turn book).book) (record_channels parent) slot lent new (record_unopened device) there is changed),
  answered ∙ ap (λ (book : RecordBook). (turn book).reply) (record_at-channel (record_channels parent) slot lent (record_unopened device) there is),
)

-- ---- mapped channels

pub turn-mapped : {B : Type 0} (device : DeviceSeen) (turn : MapBook → Turn MapBook) (parent : ParentOf B) (descriptors : Descriptors) (slot : ℕ) (lent new : MapChannelOf B) (answer : Result Answer Errno)
    → slot < length (map_channels parent) → lent ≡ get_or (map_channels parent) slot lent → new.book ≡ (turn lent.book).book → answer ≡ (turn lent.book).reply
    → let turned : Turn MapBook = turn (map_at device (desk_with parent descriptors) slot) in
    (desk_with (with_map_channel parent slot new) descriptors ≡ with_channel_at (desk_with parent descriptors) slot (Mapped turned.book)) × (answer ≡ turned.reply)
turn-mapped device turn parent descriptors slot lent new answer there is changed answered = (
  ap (λ (books : List MapBook). record (desk_with parent descriptors) { mapped = books }) (map_books_of-set (λ (book : MapBook). (turn book).book) (map_channels parent) slot lent new (map_unopened device) there is changed),
  answered ∙ ap (λ (book : MapBook). (turn book).reply) (map_at-channel (map_channels parent) slot lent (map_unopened device) there is),
)

-- one that a descriptor holds isn't free
pub map-unfree : {B : Type 0} (device : DeviceSeen) (parent : ParentOf B) (descriptors : Descriptors) (fd slot : ℕ) (lent : MapChannelOf B) → HoldApart (desk_with parent descriptors) → held_by (desk_with parent descriptors) fd ≡ Some (channel_of Map slot)
    → slot < length (map_channels parent) → lent ≡ get_or (map_channels parent) slot lent → is_unheld lent.book.state ≡ false
map-unfree device parent descriptors fd slot lent h e there lent_is =
    ap (λ (b : MapBook). is_unheld b.state) (map_at-channel (map_channels parent) slot lent (map_unopened device) there lent_is)
    ∙ not-true (is_unheld (map_at device (desk_with parent descriptors) slot).state) (h.taken fd (channel_of Map slot) device e)
  where
    not-true : (b : Bool) → not b ≡ true → b ≡ false
    not-true true e = cc
    not-true false e = refl

-- a descriptor that is refused as it holds none
unmapped_way : (way : Way) (at slot : ℕ) (errno : Errno) → cond (is_way Map way) (Ok at) (Err Inval) ≡ Err errno → by_way way false false (eqb at slot) ≡ false
unmapped_way Map at slot errno e = cc
unmapped_way way at slot errno e = refl

pub unmapped : (found : Option Held) (errno : Errno) → slot_of Map found ≡ Err errno → (slot : ℕ) → holds_map found slot ≡ false
unmapped None errno e slot = refl
unmapped (Some held) errno e slot = unmapped_way held.way held.slot slot errno e

-- ---- an open

-- a descriptor that may be opened holds nothing
pub shut-none : (found : Option Held) → IsOk (shut found) → found ≡ None
shut-none None ok = refl
shut-none (Some held) ok = cc

-- the slot that is taken is the least free one, and the reply has its number
pub slot-found : (way : Way) (slots : ℕ) (least : Option ℕ) (told : ℕ) → slot_or_busy (slot_number slots way) least ≡ Ok told
    → (least ≡ Some (slot_place slots way told)) × (slot_number slots way (slot_place slots way told) ≡ told)
slot-found way slots None told e = cc
slot-found Map slots (Some place) told e =
    let same : slots + place ≡ told = cc in
    let back : place ≡ told - slots = omega arith in
    (ap Some back, omega (arith, same))
slot-found way slots (Some place) told e = (cc, refl)

-- it is numbered after those that play, where it is mapped
pub told-behind : (way : Way) (slots : ℕ) (least : Option ℕ) (told : ℕ) → slot_or_busy (slot_number slots way) least ≡ Ok told → way ≡ Map → slots ≤ told
told-behind Map slots (Some place) told e is = let same : slots + place ≡ told = cc in omega arith
told-behind way slots least told e is = cc

-- what an open makes of a desk
open_found : (way : Way) (desk : Desk) (fd : ℕ) (settings : Settings) (slot : ℕ) → held_by desk fd ≡ None → least_free desk way ≡ Some slot → open_at desk fd way settings (Some slot) ≡ open_turn desk fd way settings
open_found way desk fd settings slot none least =
    sym (ap (λ (found : Option Held). cond {A = DeskTurn} (is_some found) (refusing desk Exist) (open_at desk fd way settings (least_free desk way))) none ∙ ap (open_at desk fd way settings) least)

pub opened-desk : (way : Way) (desk : Desk) (fd : ℕ) (settings : Settings) (slot : ℕ) → held_by desk fd ≡ None → least_free desk way ≡ Some slot → opened_at desk fd (channel_of way slot) settings ≡ (open_turn desk fd way settings).desk
opened-desk way desk fd settings slot none least = ap (λ (t : DeskTurn). t.desk) (open_found way desk fd settings slot none least)

-- and its number is in the reply
pub opened-number : (way : Way) (desk : Desk) (fd : ℕ) (settings : Settings) (slots slot : ℕ) → held_by desk fd ≡ None → slots ≡ length desk.play → least_free desk way ≡ Some slot → Ok (Number (slot_number slots way slot)) ≡ (open_turn desk fd way settings).reply
opened-number way desk fd settings slots slot none count least = ap (λ (n : ℕ). Ok (Number (slot_number n way slot))) count ∙ ap (λ (t : DeskTurn). t.reply) (open_found way desk fd settings slot none least)

-- what a read gets of a descriptor that holds a channel which records
pub bytes_read-held : (device : DeviceSeen) (desk : Desk) (bytes : ℕ → List ℕ) (count : ℕ) (found : Option Held) (held : Held) (book : RecordBook) → found ≡ Some held → held.way ≡ Record → book ≡ record_at device desk held.slot
    → bytes_read device desk bytes count found ≡ take (min count (record_fill_of book)) (drop book.read (bytes held.slot))
bytes_read-held device desk bytes count found held book e is same =
    ap (bytes_read device desk bytes count) e
    ∙ ap (λ (w : Way). channel_read count (by_way w (Playing (play_at device desk held.slot)) (Recording (record_at device desk held.slot)) (Mapped (map_at device desk held.slot))) (bytes held.slot)) is
    ∙ ap (λ (b : RecordBook). take (min count (record_fill_of b)) (drop b.read (bytes held.slot))) (sym same)

-- a close of a channel, which leaves its group first, and then its descriptor
pub closes-held : (device : DeviceSeen) (desk : Desk) (fd : ℕ) (held : Held) → held_by desk fd ≡ Some held
    → with_descriptor (closed_held device (record desk { groups = leaving held desk.groups }) held) fd None ≡ (after device desk (Close fd)).desk
closes-held device desk fd held e = sym (ap (λ (found : Option Held). (channel_turn device desk (Close fd) found).desk) e)
