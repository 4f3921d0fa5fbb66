-- What a parent needs to be cloned, and what its clone is.
use Rattle.std.proofs.Common.{◌≡◌, ℕ, ◌<◌, false, List, length, map, All, get_or, sym, ◌∙◌, arith}
use Rattle.std.proofs.lemmas.List.{get_or-map, length-map, same_lists}
use Rattle.pcm_feeder.specs.declared.kind.Kind.{Kind}
use Rattle.pcm_feeder.specs.Filters.{Filters}
use Rattle.pcm_feeder.specs.Kept.{Kept}
use Rattle.pcm_feeder.specs.declared.rack.SevenOf.{SevenOf}
use Rattle.pcm_chain.specs.Chains.{marks_in, AreFitted}
use Rattle.pcm_chain.proofs.Far.{far-fitted}
use Rattle.pcm_desk.specs.PlayBooks.{is_play_free}
use Rattle.pcm_desk.specs.RunStates.{is_unheld}
use Rattle.pcm_desk.specs.declared.device.Device.{Device}
use Rattle.pcm_path.specs.declared.path.PathOf.{PathOf}
use Rattle.pcm_play.specs.declared.channel.PlayChannelOf.{PlayChannelOf}
use Rattle.pcm_play.specs.Channels.{IsPlayReady}
use Rattle.pcm_record.specs.declared.channel.RecordChannelOf.{RecordChannelOf}
use Rattle.pcm_record.specs.Channels.{IsRecordReady}
use Rattle.pcm_map.specs.declared.channel.MapChannelOf.{MapChannelOf}
use Rattle.pcm_map.specs.Channels.{IsMapReady}
use Rattle.pcm_bus.proofs.Channels.{some_channel}
use Rattle.pcm_vchan.specs.Clones.{SlotsResume, SlotsStandAs}
use Rattle.pcm_vchan.specs.Racks.{channel_marks}

-- the chain of a channel that is ready is fitted, unless the channel is free
pub play-fitted : {B : Type 0} (kind : B → Kind) (kept : B → Kept) (filters : Filters) (channel : PlayChannelOf B) → IsPlayReady kind kept filters channel → is_play_free channel.book.state ≡ false
    → AreFitted kept channel.path.chain
play-fitted kind kept filters channel ready held = far-fitted kept filters channel.path.chain _ _ _ (ready.far.chain_is held)

pub record-fitted : {B : Type 0} (kind : B → Kind) (kept : B → Kept) (filters : Filters) (channel : RecordChannelOf B) → IsRecordReady kind kept filters channel → is_unheld channel.book.state ≡ false
    → AreFitted kept channel.path.chain
record-fitted kind kept filters channel ready held = far-fitted kept filters channel.path.chain _ _ _ (ready.far held)

pub map-fitted : {B : Type 0} (kind : B → Kind) (kept : B → Kept) (filters : Filters) (channel : MapChannelOf B) → IsMapReady kind kept filters channel → is_unheld channel.book.state ≡ false
    → AreFitted kept channel.path.chain
map-fitted kind kept filters channel ready held = far-fitted kept filters channel.path.chain _ _ _ (ready.far held)

-- channels that went on where others are stand for whatever these do
pub slots-stand : {B C : Type 0} (path : C → PathOf B) (stands_as : C → C → Type 0) (kind : B → Kind) (mark : B → ℕ) (device : Device) (others old new : List C)
    → length others ≡ length old → All (λ channel. (path channel).device ≡ device) old → SlotsResume path stands_as kind mark others old new
    → SlotsStandAs path stands_as kind device others new
slots-stand path stands_as kind mark device others old new same own resumed =
    let count = resumed.count in
    record {
      count = count ∙ sym same;
      own = λ slot other there. (resumed.each slot other (omega arith)).device_same ∙ own slot other (omega arith);
      kinds = λ slot other there. (resumed.each slot other (omega arith)).kinds;
      stand = λ slot other there. (resumed.each slot other there).stands;
    }

-- and have the boxes that they had
pub marks-stay : {B C : Type 0} (path : C → PathOf B) (stands_as : C → C → Type 0) (kind : B → Kind) (mark : B → ℕ) (others old new : List C)
    → length others ≡ length old → SlotsResume path stands_as kind mark others old new → channel_marks path mark new ≡ channel_marks path mark old
marks-stay {C = C} path stands_as kind mark others old new same resumed =
    let marks : C → SevenOf ℕ = λ channel. marks_in mark (path channel).chain in
    let count = resumed.count in
    same_lists (map marks new) (map marks old) (length-map new marks ∙ count ∙ sym (length-map old marks)) (λ k d within.
    let there : k < length new = omega (arith, length-map new marks) in
    let other = some_channel new k there in
    get_or-map marks new k other d there ∙ (resumed.each k other (omega arith)).marks ∙ sym (get_or-map marks old k other d (omega arith)))

-- the books of two ways are the same where those of each slot are
pub books-alike : {C Book : Type 0} (book : C → Book) (others channels : List C) → length channels ≡ length others
    → ((slot : ℕ) (other : C) → slot < length others → book (get_or channels slot other) ≡ book (get_or others slot other)) → map book channels ≡ map book others
books-alike book others channels same each =
    same_lists (map book channels) (map book others) (length-map channels book ∙ same ∙ sym (length-map others book)) (λ k d within.
    let there : k < length channels = omega (arith, length-map channels book) in
    let other = some_channel channels k there in
    get_or-map book channels k other d there ∙ each k other (omega arith) ∙ sym (get_or-map book others k other d (omega arith)))
