-- What a call leaves of a parent: it may change channels of one way alone, one of them, or none.
use Rattle.std.proofs.Common.{rules, ◌≡◌, ℕ, ◌<◌, List, [], length, get_or, Result, Err, refl, sym, ap, ◌∙◌, subst}
use Rattle.std.specs.Prelude.{All, OnErr}
use Rattle.std.proofs.lemmas.Result.{on_err_weaker}
use Rattle.pcm_engine.specs.Types.{Answer, Device, Errno, Filters, Kept, Kind, MapBook, PlayBook, RecordBook, Turn}
use Rattle.pcm_oss.specs.Replies.{bytes_due}
use Rattle.pcm_sequence.specs.declared.fixed.Fixed.{Fixed}
use Rattle.pcm_sequence.specs.Fixed.{fixed_items}
use Rattle.pcm_sequence.proofs.Items.{item-kept}
use Rattle.pcm_desk.specs.Device.{DeviceSeen, seen}
use Rattle.pcm_desk.specs.Channels.{Mapped, Playing, Recording}
use Rattle.pcm_desk.specs.Desk.{Desk, DeskTurn, map_at, play_at, record_at, refusing, with_channel_at}
use Rattle.pcm_play.specs.declared.channel.PlayChannelOf.{PlayChannelOf}
use Rattle.pcm_play.specs.Channels.{PlayMoves}
use Rattle.pcm_play.proofs.Moving.{moves-nothing}
use Rattle.pcm_record.specs.declared.channel.RecordChannelOf.{RecordChannelOf}
use Rattle.pcm_record.specs.Channels.{RecordMoves}
use Rattle.pcm_record.proofs.Moving as recorders
use Rattle.pcm_map.specs.declared.channel.MapChannelOf.{MapChannelOf}
use Rattle.pcm_bus.specs.Slots.{Each, MapAreOf, PlayAreOf}
use Rattle.pcm_vchan.specs.declared.parent.ParentOf.{ParentOf}
use Rattle.pcm_vchan.specs.Lending.{with_channel, with_map_channel, with_recorder}
use Rattle.pcm_vchan.specs.Parents.{map_channels, play_channels, record_channels, untouched, AreServed, EachMapKeeps, EachPlayMoves, EachRecordMoves, KeepsOutput}
use Rattle.pcm_vchan.specs.Slots.{MapKeeps, RecordAreOf}
use Rattle.pcm_vchan.proofs.Channels.{each_set, map-keeps-nothing, own_set, parent_same}
use Rattle.pcm_engine.specs.declared.descriptors.Descriptors.{Descriptors}
use Rattle.pcm_engine.specs.Answered.{AnswersWith, LeavesParent, TakesBy}
use Rattle.pcm_engine.specs.Desks.{desk_with}
use Rattle.pcm_engine.specs.Invariants.{AreOwn}
use Rattle.pcm_engine.proofs.Turning.{turn-mapped, turn-played, turn-recorded}

-- channels that are served are of their device
pub own-served : {B : Type 0} {kind : B → Kind} {kept : B → Kept} {filters : Filters} {parent : ParentOf B} → AreServed kind kept filters parent → AreOwn parent
own-served served = record { playing = served.own; recording = served.recorders_own; mapped = served.maps_own }

-- ---- channels of a way that stay

-- they are of the same device still
own-stays : {X : Type 0} (own : X → Device) (old new : Fixed X) (device last : Device) → last ≡ device → new ≡ old → All (λ (channel : X). own channel ≡ device) (fixed_items old) → All (λ (channel : X). own channel ≡ last) (fixed_items new)
own-stays {X} own old new device last same stay each =
    subst (λ (v : Fixed X). All (λ (channel : X). own channel ≡ last) (fixed_items v)) (sym stay) (subst (λ (d : Device). All (λ (channel : X). own channel ≡ d) (fixed_items old)) (sym same) each)

pub map-own : {B : Type 0} (old new : ParentOf B) → new.device ≡ old.device → new.maps ≡ old.maps → MapAreOf old.device (map_channels old) → MapAreOf new.device (map_channels new)
map-own {B} old new = own-stays (λ (channel : MapChannelOf B). channel.path.device) old.maps new.maps old.device new.device

-- and nothing happens to them
each-stays : {X : Type 0} (how : X → X → Type 0) (old new : Fixed X) → ((channel : X) → how channel channel) → new ≡ old → Each how (fixed_items old) (fixed_items new)
each-stays {X} how old new stays same = subst (λ (v : Fixed X). Each how (fixed_items old) (fixed_items v)) (sym same) (λ slot other there. stays (get_or (fixed_items old) slot other))

pub play-stay : {B : Type 0} (kind : B → Kind) (kept : B → Kept) (filters : Filters) (moved : List ℕ) (old new : ParentOf B) → new.channels ≡ old.channels → EachPlayMoves kind kept filters moved 0 old new
play-stay kind kept filters moved old new = each-stays (PlayMoves kind kept filters moved 0) old.channels new.channels (moves-nothing kind kept filters moved 0)

pub record-stay : {B : Type 0} (kind : B → Kind) (kept : B → Kept) (filters : Filters) (old new : ParentOf B) → new.recorders ≡ old.recorders → EachRecordMoves kind kept filters [] 0 old new
record-stay kind kept filters old new = each-stays (RecordMoves kind kept filters [] 0) old.recorders new.recorders (recorders.moves-nothing kind kept filters [] 0)

pub map-stay : {B : Type 0} (kind : B → Kind) (kept : B → Kept) (filters : Filters) (old new : ParentOf B) → new.maps ≡ old.maps → EachMapKeeps kind kept filters untouched old new
map-stay kind kept filters old new = each-stays (MapKeeps kind kept filters (untouched 0)) old.maps new.maps (map-keeps-nothing kind kept filters)

-- ---- what is left where those of one way changed

pub leaves-playing : {B : Type 0} (kind : B → Kind) (kept : B → Kept) (filters : Filters) (moved : List ℕ) (old new : ParentOf B) → AreOwn old → KeepsOutput old new → new.recorders ≡ old.recorders → new.maps ≡ old.maps
    → PlayAreOf new.device (play_channels new) → EachPlayMoves kind kept filters moved 0 old new → LeavesParent kind kept filters moved untouched old new
leaves-playing {B} kind kept filters moved old new own output recording mapped playing moves = record {
  own = record { playing = playing; recording = own-stays (λ (channel : RecordChannelOf B). channel.path.device) old.recorders new.recorders old.device new.device output.device_same recording own.recording; mapped = map-own old new output.device_same mapped own.mapped };
  output = output;
  channels = moves;
  recorders = record-stay kind kept filters old new recording;
  maps = map-stay kind kept filters old new mapped;
}

pub leaves-recording : {B : Type 0} (kind : B → Kind) (kept : B → Kept) (filters : Filters) (old new : ParentOf B) → AreOwn old → KeepsOutput old new → new.channels ≡ old.channels → new.maps ≡ old.maps
    → RecordAreOf new.device (record_channels new) → EachRecordMoves kind kept filters [] 0 old new → LeavesParent kind kept filters [] untouched old new
leaves-recording {B} kind kept filters old new own output playing mapped recording moves = record {
  own = record { playing = own-stays (λ (channel : PlayChannelOf B). channel.path.device) old.channels new.channels old.device new.device output.device_same playing own.playing; recording = recording; mapped = map-own old new output.device_same mapped own.mapped };
  output = output;
  channels = play-stay kind kept filters [] old new playing;
  recorders = moves;
  maps = map-stay kind kept filters old new mapped;
}

pub leaves-mapping : {B : Type 0} (kind : B → Kind) (kept : B → Kept) (filters : Filters) (writes : ℕ → List ℕ → List ℕ) (old new : ParentOf B) → AreOwn old → KeepsOutput old new → new.channels ≡ old.channels → new.recorders ≡ old.recorders
    → MapAreOf new.device (map_channels new) → EachMapKeeps kind kept filters writes old new → LeavesParent kind kept filters [] writes old new
leaves-mapping {B} kind kept filters writes old new own output playing recording mapped keeps = record {
  own = record {
    playing = own-stays (λ (channel : PlayChannelOf B). channel.path.device) old.channels new.channels old.device new.device output.device_same playing own.playing;
    recording = own-stays (λ (channel : RecordChannelOf B). channel.path.device) old.recorders new.recorders old.device new.device output.device_same recording own.recording;
    mapped = mapped;
  };
  output = output;
  channels = play-stay kind kept filters [] old new playing;
  recorders = record-stay kind kept filters old new recording;
  maps = keeps;
}

-- ---- what is left where one channel was lent

pub leaves-played : {B : Type 0} (kind : B → Kind) (kept : B → Kept) (filters : Filters) (moved : List ℕ) (parent : ParentOf B) (slot : ℕ) (lent new : PlayChannelOf B) → AreOwn parent → slot < length (play_channels parent)
    → lent ≡ get_or (play_channels parent) slot lent → new.path.device ≡ lent.path.device → PlayMoves kind kept filters moved 0 lent new → LeavesParent kind kept filters moved untouched parent (with_channel parent slot new)
leaves-played {B} kind kept filters moved parent slot lent new own there is device moves =
    leaves-playing kind kept filters moved parent (with_channel parent slot new) own (search rules) refl refl
    (own_set (λ (channel : PlayChannelOf B). channel.path.device) parent.device (play_channels parent) slot lent new there is device own.playing)
    (each_set (PlayMoves kind kept filters moved 0) (play_channels parent) slot lent new there is moves (moves-nothing kind kept filters moved 0))

pub leaves-recorded : {B : Type 0} (kind : B → Kind) (kept : B → Kept) (filters : Filters) (parent : ParentOf B) (slot : ℕ) (lent new : RecordChannelOf B) → AreOwn parent → slot < length (record_channels parent)
    → lent ≡ get_or (record_channels parent) slot lent → new.path.device ≡ lent.path.device → RecordMoves kind kept filters [] 0 lent new → LeavesParent kind kept filters [] untouched parent (with_recorder parent slot new)
leaves-recorded {B} kind kept filters parent slot lent new own there is device moves =
    leaves-recording kind kept filters parent (with_recorder parent slot new) own (search rules) refl refl
    (own_set (λ (channel : RecordChannelOf B). channel.path.device) parent.device (record_channels parent) slot lent new there is device own.recording)
    (each_set (RecordMoves kind kept filters [] 0) (record_channels parent) slot lent new there is moves (recorders.moves-nothing kind kept filters [] 0))

-- whatever is written into areas
pub leaves-written : {B : Type 0} (kind : B → Kind) (kept : B → Kept) (filters : Filters) (writes : ℕ → List ℕ → List ℕ) (parent : ParentOf B) (slot : ℕ) (lent new : MapChannelOf B) → AreOwn parent → slot < length (map_channels parent)
    → lent ≡ get_or (map_channels parent) slot lent → new.path.device ≡ lent.path.device → EachMapKeeps kind kept filters writes parent (with_map_channel parent slot new)
    → LeavesParent kind kept filters [] writes parent (with_map_channel parent slot new)
leaves-written {B} kind kept filters writes parent slot lent new own there is device keeps =
    leaves-mapping kind kept filters writes parent (with_map_channel parent slot new) own (search rules) refl refl
    (own_set (λ (channel : MapChannelOf B). channel.path.device) parent.device (map_channels parent) slot lent new there is device own.mapped) keeps

-- and where nothing is
pub leaves-mapped : {B : Type 0} (kind : B → Kind) (kept : B → Kept) (filters : Filters) (parent : ParentOf B) (slot : ℕ) (lent new : MapChannelOf B) → AreOwn parent → slot < length (map_channels parent)
    → lent ≡ get_or (map_channels parent) slot lent → new.path.device ≡ lent.path.device → MapKeeps kind kept filters (untouched 0) lent new → LeavesParent kind kept filters [] untouched parent (with_map_channel parent slot new)
leaves-mapped kind kept filters parent slot lent new own there is device keeps =
    leaves-written kind kept filters untouched parent slot lent new own there is device
    (each_set (MapKeeps kind kept filters (untouched 0)) (map_channels parent) slot lent new there is keeps (map-keeps-nothing kind kept filters))

-- ---- what is left where nothing changed

pub output-same : {B : Type 0} (parent : ParentOf B) → KeepsOutput parent parent
output-same parent = record { device_same = refl; mixer_same = refl; bus_same = refl; ring_same = refl; handed_same = refl; mixed_same = refl; slots_same = refl; recorders_same = refl; maps_same = refl }

pub leaves-nothing : {B : Type 0} (kind : B → Kind) (kept : B → Kept) (filters : Filters) (moved : List ℕ) (parent : ParentOf B) → AreOwn parent → LeavesParent kind kept filters moved untouched parent parent
leaves-nothing kind kept filters moved parent own =
    leaves-playing kind kept filters moved parent parent own (output-same parent) refl refl own.playing (play-stay kind kept filters moved parent parent refl)

-- ---- a call takes a turn

module _ {B : Type 0} (kind : B → Kind) (kept : B → Kept) (filters : Filters) (turn : DeviceSeen → Desk → DeskTurn) (parent : ParentOf B) (descriptors : Descriptors) where
  abbrev device : DeviceSeen
  device = seen filters parent.device

  abbrev desk : Desk
  desk = desk_with parent descriptors

  -- one that refuses, and leaves this of the parent
  pub takes-refusal : (moved : List ℕ) (writes : ℕ → List ℕ → List ℕ) (result : Result Answer Errno) (errno : Errno) → LeavesParent kind kept filters moved writes parent parent → turn device desk ≡ refusing desk errno → result ≡ Err errno
      → TakesBy kind kept filters moved writes turn parent descriptors parent descriptors result
  takes-refusal moved writes result errno leaves refused is = record {
    refused = subst (λ (r : Result Answer Errno). OnErr r ((parent ≡ parent) × (descriptors ≡ descriptors))) (sym is) (refl, refl);
    desk = sym (ap (λ (t : DeskTurn). t.desk) refused);
    reply = is ∙ sym (ap (λ (t : DeskTurn). t.reply) refused);
    leaves = leaves;
  }

  pub answers-refusal : (moved : List ℕ) (result : Result Answer Errno) (errno : Errno) → AreOwn parent → turn device desk ≡ refusing desk errno → result ≡ Err errno
      → AnswersWith kind kept filters moved untouched turn parent descriptors parent descriptors result
  answers-refusal moved result errno own refused is = record {
    silent = ap bytes_due is;
    takes = takes-refusal moved untouched result errno (leaves-nothing kind kept filters moved parent own) refused is;
  }

  -- one that lends the channel of a slot that plays, and turns its book
  pub takes-played : (moved : List ℕ) (its : PlayBook → Turn PlayBook) (slot : ℕ) (lent new : PlayChannelOf B) (answer : Result Answer Errno) → AreOwn parent → slot < length (play_channels parent) → lent ≡ get_or (play_channels parent) slot lent
      → (let turned : Turn PlayBook = its (play_at device desk slot) in turn device desk ≡ record { desk = with_channel_at desk slot (Playing turned.book); reply = turned.reply })
      → new.book ≡ (its lent.book).book → answer ≡ (its lent.book).reply → new.path.device ≡ lent.path.device → PlayMoves kind kept filters moved 0 lent new → OnErr answer (new ≡ lent)
      → TakesBy kind kept filters moved untouched turn parent descriptors (with_channel parent slot new) descriptors answer
  takes-played moved its slot lent new answer own there is turns book reply same moves refused =
      let turned = turn-played device its parent descriptors slot lent new answer there is book reply in
      record {
        refused = on_err_weaker answer (λ kept. (parent_same _ parent refl (item-kept parent.channels slot new lent (kept ∙ is)) refl refl refl refl refl refl refl refl, refl)) refused;
        desk = turned.0 ∙ sym (ap (λ (t : DeskTurn). t.desk) turns);
        reply = turned.1 ∙ sym (ap (λ (t : DeskTurn). t.reply) turns);
        leaves = leaves-played kind kept filters moved parent slot lent new own there is same moves;
      }

  -- one that records
  pub takes-recorded : (its : RecordBook → Turn RecordBook) (slot : ℕ) (lent new : RecordChannelOf B) (answer : Result Answer Errno) → AreOwn parent → slot < length (record_channels parent) → lent ≡ get_or (record_channels parent) slot lent
      → (let turned : Turn RecordBook = its (record_at device desk slot) in turn device desk ≡ record { desk = with_channel_at desk slot (Recording turned.book); reply = turned.reply })
      → new.book ≡ (its lent.book).book → answer ≡ (its lent.book).reply → new.path.device ≡ lent.path.device → RecordMoves kind kept filters [] 0 lent new → OnErr answer (new ≡ lent)
      → TakesBy kind kept filters [] untouched turn parent descriptors (with_recorder parent slot new) descriptors answer
  takes-recorded its slot lent new answer own there is turns book reply same moves refused =
      let turned = turn-recorded device its parent descriptors slot lent new answer there is book reply in
      record {
        refused = on_err_weaker answer (λ kept. (parent_same _ parent refl refl (item-kept parent.recorders slot new lent (kept ∙ is)) refl refl refl refl refl refl refl, refl)) refused;
        desk = turned.0 ∙ sym (ap (λ (t : DeskTurn). t.desk) turns);
        reply = turned.1 ∙ sym (ap (λ (t : DeskTurn). t.reply) turns);
        leaves = leaves-recorded kind kept filters parent slot lent new own there is same moves;
      }

  -- a mapped one, whatever is written into areas
  pub takes-mapped : (writes : ℕ → List ℕ → List ℕ) (its : MapBook → Turn MapBook) (slot : ℕ) (lent new : MapChannelOf B) (answer : Result Answer Errno) → AreOwn parent → slot < length (map_channels parent) → lent ≡ get_or (map_channels parent) slot lent
      → (let turned : Turn MapBook = its (map_at device desk slot) in turn device desk ≡ record { desk = with_channel_at desk slot (Mapped turned.book); reply = turned.reply })
      → new.book ≡ (its lent.book).book → answer ≡ (its lent.book).reply → LeavesParent kind kept filters [] writes parent (with_map_channel parent slot new) → OnErr answer (new ≡ lent)
      → TakesBy kind kept filters [] writes turn parent descriptors (with_map_channel parent slot new) descriptors answer
  takes-mapped writes its slot lent new answer own there is turns book reply leaves refused =
      let turned = turn-mapped device its parent descriptors slot lent new answer there is book reply in
      record {
        refused = on_err_weaker answer (λ kept. (parent_same _ parent refl refl refl (item-kept parent.maps slot new lent (kept ∙ is)) refl refl refl refl refl refl, refl)) refused;
        desk = turned.0 ∙ sym (ap (λ (t : DeskTurn). t.desk) turns);
        reply = turned.1 ∙ sym (ap (λ (t : DeskTurn). t.reply) turns);
        leaves = leaves;
      }
