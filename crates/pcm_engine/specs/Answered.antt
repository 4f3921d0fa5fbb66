-- What a call of a client needs, and what its answer leaves.
use Rattle.std.specs.Prelude.{◌≡◌, ◌+◌, ◌^◌, ◌<◌, ℕ, List, [], All, OnErr, Result}
use Rattle.pcm_engine.specs.Types.{Answer, Errno, Event, Filters, Held, Here, Kept, Kind}
use Rattle.pcm_sequence.specs.Fixed.{fixed_len}
use Rattle.pcm_oss.specs.declared.event.Way.TheVariants.{Play, Record, Map}
use Rattle.pcm_oss.specs.Replies.{bytes_due}
use Rattle.pcm_desk.specs.Device.{DeviceSeen, seen}
use Rattle.pcm_desk.specs.Desk.{Desk, DeskTurn}
use Rattle.pcm_desk.specs.Here.{IsHere}
use Rattle.pcm_desk.specs.Own.{HoldApart}
use Rattle.pcm_play.specs.Channels.{IsPlayHere}
use Rattle.pcm_vchan.specs.declared.parent.ParentOf.{ParentOf}
use Rattle.pcm_vchan.specs.Parents.{play_channels, untouched, AreServed, EachMapKeeps, EachPlayMoves, EachRecordMoves, HasBus, KeepsOutput, TakenFit}
use Rattle.pcm_engine.specs.declared.descriptors.Descriptors.{Descriptors}
use Rattle.pcm_engine.specs.Brought.{IsAllowed}
use Rattle.pcm_engine.specs.Desks.{ChangesBy, IsAt, RepliesBy, desk_with}
use Rattle.pcm_engine.specs.Invariants.{AreOwn}

-- By these filters clients may ask a parent: no two descriptors hold one slot, its channels and its bus are ready, its mix and its device are at this place, so
-- is the book of each channel that plays, and no count comes near its end.
pub record CanBeAsked {B : Type 0} (kind : B → Kind) (kept : B → Kept) (filters : Filters) (place : Here) (parent : ParentOf B) (descriptors : Descriptors) : Type 0 where
  pub apart : HoldApart (desk_with parent descriptors)
  pub served : AreServed kind kept filters parent
  pub bus : HasBus kept (seen filters parent.device) parent
  pub here : IsHere place
  pub at : IsAt filters place parent
  pub places : All (IsPlayHere filters place) (play_channels parent)
  pub count : All (λ channel. channel.book.done + channel.book.written < 2 ^ 63) (play_channels parent)
  pub taken : TakenFit parent

-- and this event, which keeps the limits of the device, is what one asks
pub record AsksBy {B : Type 0} (kind : B → Kind) (kept : B → Kept) (filters : Filters) (place : Here) (event : Event) (parent : ParentOf B) (descriptors : Descriptors) : Type 0 where
  pub within : IsAllowed (seen filters parent.device) event
  pub able : CanBeAsked kind kept filters place parent descriptors

-- whichever the filters are, and wherever the mix and the device are
pub record IsCalledBy {B : Type 0} (kind : B → Kind) (kept : B → Kept) (event : Event) (parent : ParentOf B) (descriptors : Descriptors) : Type 0 where
  pub filters : Filters
  pub place : Here
  pub asks : AsksBy kind kept filters place event parent descriptors

-- The channels of a parent are ready by some filters, and no count comes near its end.
pub record IsServed {B : Type 0} (kind : B → Kind) (kept : B → Kept) (parent : ParentOf B) : Type 0 where
  pub filters : Filters
  pub served : AreServed kind kept filters parent
  pub count : All (λ channel. channel.book.done + channel.book.written < 2 ^ 63) (play_channels parent)

-- the slot of a channel is one of its way
pub record IsSlotThere {B : Type 0} (held : Held) (parent : ParentOf B) : Type 0 where
  pub play : held.way ≡ Play → held.slot < fixed_len parent.channels
  pub recording : held.way ≡ Record → held.slot < fixed_len parent.recorders
  pub mapped : held.way ≡ Map → held.slot < fixed_len parent.maps

-- By these filters a call leaves this of a parent: every channel is its device's still, and all else is as it was. These bytes move into those that play at
-- most, and this is written into areas.
pub record LeavesParent {B : Type 0} (kind : B → Kind) (kept : B → Kept) (filters : Filters) (moved : List ℕ) (writes : ℕ → List ℕ → List ℕ) (old new : ParentOf B) : Type 0 where
  pub own : AreOwn new
  pub output : KeepsOutput old new
  pub channels : EachPlayMoves kind kept filters moved 0 old new
  pub recorders : EachRecordMoves kind kept filters [] 0 old new
  pub maps : EachMapKeeps kind kept filters writes old new

-- A call that moves such bytes and writes so takes a turn: the desk and the reply are the turn's, and a refusal changes nothing.
pub record TakesBy {B : Type 0} (kind : B → Kind) (kept : B → Kept) (filters : Filters) (moved : List ℕ) (writes : ℕ → List ℕ → List ℕ) (turn : DeviceSeen → Desk → DeskTurn) (old : ParentOf B) (before : Descriptors) (new : ParentOf B) (after : Descriptors) (result : Result Answer Errno) : Type 0 where
  pub refused : OnErr result ((new ≡ old) × (after ≡ before))
  pub desk : ChangesBy filters turn old before new after
  pub reply : RepliesBy filters turn old before result
  pub leaves : LeavesParent kind kept filters moved writes old new

-- and no bytes come with its answer
pub record AnswersWith {B : Type 0} (kind : B → Kind) (kept : B → Kept) (filters : Filters) (moved : List ℕ) (writes : ℕ → List ℕ → List ℕ) (turn : DeviceSeen → Desk → DeskTurn) (old : ParentOf B) (before : Descriptors) (new : ParentOf B) (after : Descriptors) (result : Result Answer Errno) : Type 0 where
  pub silent : bytes_due result ≡ 0
  pub takes : TakesBy kind kept filters moved writes turn old before new after result

-- where nothing moves into a channel or out of it
abbrev pub AnswersBy : {B : Type 0} → (B → Kind) → (B → Kept) → Filters → (DeviceSeen → Desk → DeskTurn) → ParentOf B → Descriptors → ParentOf B → Descriptors → Result Answer Errno → Type 0
AnswersBy kind kept filters turn old before new after result = AnswersWith kind kept filters [] untouched turn old before new after result
