-- An opening of whichever way: which slot it takes, and what becomes of the desk.
use Rattle.std.proofs.Common.{◌≡◌, ℕ, ◌≤◌, List, [], Option, Some, None, Result, Ok, length, refl, sym, ap, ◌∙◌}
use Rattle.std.proofs.lemmas.List.{length-map}
use Rattle.pcm_sequence.specs.declared.fixed.Fixed.{Fixed}
use Rattle.pcm_sequence.specs.Fixed.{fixed_items}
use Rattle.pcm_sequence.proofs.Items.{items-count}
use Rattle.pcm_engine.specs.Types.{Errno, Filters, Kept, Kind, MapBook, PlayBook, RecordBook, Settings, Way}
use Rattle.pcm_oss.specs.declared.event.Way.TheVariants.{Play, Record, Map}
use Rattle.pcm_oss.specs.declared.reply.Answer.TheVariants.{Number}
use Rattle.pcm_desk.specs.PlayBooks.{play_begun}
use Rattle.pcm_desk.specs.RecordBooks.{record_begun}
use Rattle.pcm_desk.specs.MapBooks.{map_begun}
use Rattle.pcm_desk.specs.Channels.{by_way}
use Rattle.pcm_desk.specs.Desk.{held_by, least_free_map, least_free_play, least_free_record, open_turn, slot_number, after}
use Rattle.pcm_play.specs.declared.channel.PlayChannelOf.{PlayChannelOf}
use Rattle.pcm_record.specs.declared.channel.RecordChannelOf.{RecordChannelOf}
use Rattle.pcm_map.specs.declared.channel.MapChannelOf.{MapChannelOf}
use Rattle.pcm_bus.specs.Slots.{map_books_of, play_books_of}
use Rattle.pcm_vchan.specs.declared.parent.ParentOf.{ParentOf}
use Rattle.pcm_vchan.specs.Slots.{record_books_of, slot_place}
use Rattle.pcm_vchan.specs.Parents.{books_begun, map_books, play_books, play_channels, record_books, untouched, KeepsOutput, OpensMap, OpensPlay, OpensRecord}
use Rattle.pcm_engine.specs.declared.descriptors.Descriptors.{Descriptors}
use Rattle.pcm_engine.specs.Desks.{desk_with, with_held}
use Rattle.pcm_engine.specs.Answered.{LeavesParent}
use Rattle.pcm_engine.specs.Invariants.{AreOwn}
use Rattle.pcm_engine.proofs.Answering.{leaves-mapping, leaves-playing, leaves-recording}
use Rattle.pcm_engine.proofs.Turning.{opened-desk, opened-number, slot-found, told-behind}

-- what an opening of whichever way says of a parent
pub record Opens {B : Type 0} (kind : B → Kind) (kept : B → Kept) (filters : Filters) (settings : Settings) (way : Way) (old new : ParentOf B) (result : Result ℕ Errno) : Type 0 where
  pub play : way ≡ Play → OpensPlay kind kept filters settings old new result
  pub recording : way ≡ Record → OpensRecord kind kept filters settings old new result
  pub mapped : way ≡ Map → OpensMap kind kept filters settings old new result
  pub output : KeepsOutput old new

-- the slot that is free first of a way
abbrev pub least_of : {B : Type 0} → Way → ParentOf B → Option ℕ
least_of way parent = by_way way (least_free_play (play_books parent)) (least_free_record (record_books parent)) (least_free_map (map_books parent))

-- it is taken, and its number is in the reply
pub opened-least : {B : Type 0} (kind : B → Kind) (kept : B → Kept) (filters : Filters) (settings : Settings) (way : Way) (old new : ParentOf B) (result : Result ℕ Errno) (told : ℕ)
    → Opens kind kept filters settings way old new result → result ≡ Ok told
    → (least_of way old ≡ Some (slot_place old.device.play_slots way told)) × (slot_number old.device.play_slots way (slot_place old.device.play_slots way told) ≡ told)
opened-least kind kept filters settings Play old new result told opens is =
    slot-found Play old.device.play_slots (least_free_play (play_books old)) told (sym (opens.play refl).begins.found ∙ is)
opened-least kind kept filters settings Record old new result told opens is =
    slot-found Record old.device.play_slots (least_free_record (record_books old)) told (sym (opens.recording refl).begins.found ∙ is)
opened-least kind kept filters settings Map old new result told opens is =
    slot-found Map old.device.play_slots (least_free_map (map_books old)) told (sym (opens.mapped refl).begins.found ∙ is)

-- a mapped one is numbered after those that play
pub opened-behind : {B : Type 0} (kind : B → Kind) (kept : B → Kept) (filters : Filters) (settings : Settings) (way : Way) (old new : ParentOf B) (result : Result ℕ Errno) (told : ℕ)
    → Opens kind kept filters settings way old new result → result ≡ Ok told → way ≡ Map → old.device.play_slots ≤ told
opened-behind kind kept filters settings way old new result told opens is map =
    told-behind Map old.device.play_slots (least_free_map (map_books old)) told (sym (opens.mapped map).begins.found ∙ is) refl

-- what it leaves of the parent
pub leaves-opened : {B : Type 0} (kind : B → Kind) (kept : B → Kept) (filters : Filters) (settings : Settings) (way : Way) (old new : ParentOf B) (result : Result ℕ Errno) → AreOwn old → Opens kind kept filters settings way old new result
    → LeavesParent kind kept filters [] untouched old new
leaves-opened kind kept filters settings Play old new result own opens = let o = opens.play refl in leaves-playing kind kept filters [] old new own opens.output o.others o.mapped o.own o.moves
leaves-opened kind kept filters settings Record old new result own opens = let o = opens.recording refl in leaves-recording kind kept filters old new own opens.output o.others o.mapped o.own o.moves
leaves-opened kind kept filters settings Map old new result own opens = let o = opens.mapped refl in leaves-mapping kind kept filters untouched old new own opens.output o.others o.recording o.own o.keeps

-- the desk with other books, and other descriptors
pub rebooked : {B : Type 0} (old new : ParentOf B) (set after : Descriptors) (play : List PlayBook) (recording : List RecordBook) (mapped : List MapBook) → KeepsOutput old new → after ≡ set → play_books new ≡ play → record_books new ≡ recording → map_books new ≡ mapped
    → desk_with new after ≡ record (desk_with old set) { play = play; recording = recording; mapped = mapped }
rebooked old new set after play recording mapped output is plays records maps = λ i. record {
  play = plays i;
  recording = records i;
  mapped = maps i;
  descriptors = (is i).held.value;
  groups = (is i).groups;
  mixer = output.mixer_same i;
  handed = output.handed_same i;
  mixed = output.mixed_same i;
}

-- it is that of the rules
pub opened-turn : {B : Type 0} (kind : B → Kind) (kept : B → Kept) (filters : Filters) (settings : Settings) (way : Way) (old new : ParentOf B) (result : Result ℕ Errno) (told fd : ℕ) (before after : Descriptors)
    → Opens kind kept filters settings way old new result → result ≡ Ok told → held_by (desk_with old before) fd ≡ None
    → after ≡ with_held before fd (Some (record { way = way; slot = slot_place old.device.play_slots way told }))
    → desk_with new after ≡ (open_turn (desk_with old before) fd way settings).desk
opened-turn {B} kind kept filters settings Play old new result told fd before after opens is none set =
    let o = opens.play refl in
    let least = (opened-least kind kept filters settings Play old new result told opens is).0 in
    rebooked old new _ after _ _ _ opens.output set (o.begins.books ∙ ap (λ (found : Option ℕ). books_begun found (play_begun settings) (play_books old)) least)
    (ap (λ (v : Fixed (RecordChannelOf B)). record_books_of (fixed_items v)) o.others) (ap (λ (v : Fixed (MapChannelOf B)). map_books_of (fixed_items v)) o.mapped)
    ∙ opened-desk Play (desk_with old before) fd settings (slot_place old.device.play_slots Play told) none least
opened-turn {B} kind kept filters settings Record old new result told fd before after opens is none set =
    let o = opens.recording refl in
    let least = (opened-least kind kept filters settings Record old new result told opens is).0 in
    rebooked old new _ after _ _ _ opens.output set (ap (λ (v : Fixed (PlayChannelOf B)). play_books_of (fixed_items v)) o.others)
    (o.begins.books ∙ ap (λ (found : Option ℕ). books_begun found (record_begun settings) (record_books old)) least) (ap (λ (v : Fixed (MapChannelOf B)). map_books_of (fixed_items v)) o.mapped)
    ∙ opened-desk Record (desk_with old before) fd settings (slot_place old.device.play_slots Record told) none least
opened-turn {B} kind kept filters settings Map old new result told fd before after opens is none set =
    let o = opens.mapped refl in
    let least = (opened-least kind kept filters settings Map old new result told opens is).0 in
    rebooked old new _ after _ _ _ opens.output set (ap (λ (v : Fixed (PlayChannelOf B)). play_books_of (fixed_items v)) o.others) (ap (λ (v : Fixed (RecordChannelOf B)). record_books_of (fixed_items v)) o.recording)
    (o.begins.books ∙ ap (λ (found : Option ℕ). books_begun found (map_begun settings) (map_books old)) least)
    ∙ opened-desk Map (desk_with old before) fd settings (slot_place old.device.play_slots Map told) none least

-- and so is the reply
pub opened-reply : {B : Type 0} (kind : B → Kind) (kept : B → Kept) (filters : Filters) (settings : Settings) (way : Way) (old new : ParentOf B) (result : Result ℕ Errno) (told fd : ℕ) (before : Descriptors)
    → Opens kind kept filters settings way old new result → result ≡ Ok told → held_by (desk_with old before) fd ≡ None
    → Ok (Number told) ≡ (open_turn (desk_with old before) fd way settings).reply
opened-reply {B} kind kept filters settings way old new result told fd before opens is none =
    let slots = old.device.play_slots in
    let place = slot_place slots way told in
    let found = opened-least kind kept filters settings way old new result told opens is in
    let count : slots ≡ length (play_books old) = sym old.slots ∙ sym (items-count old.channels) ∙ sym (length-map (play_channels old) (λ (channel : PlayChannelOf B). channel.book)) in
    sym (ap (λ (n : ℕ). Ok (Number n)) found.1) ∙ opened-number way (desk_with old before) fd settings slots place none count found.0
