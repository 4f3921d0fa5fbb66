-- A channel that plays: what it stands for, and what an event changes of it.
use Rattle.std.specs.Prelude.{◌≡◌, ℕ, ◌+◌, ◌*◌, ◌^◌, ◌<◌, ◌≤◌, true, false, ℤ, List, [], ◌++◌, length, take, drop, Result}
use Rattle.pcm_format.specs.Frames.{frame_bytes, frames}
use Rattle.pcm_feeder.specs.declared.kind.Kind.{Kind}
use Rattle.pcm_feeder.specs.declared.stage.Gain.{Gain}
use Rattle.pcm_feeder.specs.Filters.{Filters}
use Rattle.pcm_feeder.specs.Kept.{Kept}
use Rattle.pcm_chain.specs.Chains.{ChainStands}
use Rattle.pcm_chain.specs.Far.{ChainIsSoFar}
use Rattle.pcm_desk.specs.declared.play_book.PlayBook.{PlayBook}
use Rattle.pcm_desk.specs.Device.{seen}
use Rattle.pcm_desk.specs.declared.device.Device.{Device}
use Rattle.pcm_desk.specs.declared.here.Here.{Here}
use Rattle.pcm_desk.specs.PlayBooks.{frames_written, is_draining, is_play_free, play_settled}
use Rattle.pcm_desk.specs.PlaySafe.{PlayIsHere}
use Rattle.pcm_desk.specs.Channels.{closing, play_rate_at}
use Rattle.pcm_desk.specs.Desk.{play_unopened}
use Rattle.pcm_sound.specs.Added.{turned}
use Rattle.pcm_oss.specs.declared.fragments.TheConstants.{RING_BYTES}
use Rattle.pcm_oss.specs.declared.event.Way.TheVariants.{Play}
use Rattle.pcm_oss.specs.declared.reply.Answer.{Answer}
use Rattle.pcm_oss.specs.declared.reply.Errno.{Errno}
use Rattle.pcm_desk.specs.declared.turn.Turn.{Turn}
use Rattle.pcm_desk.specs.Here.{IsHere}
use Rattle.pcm_path.specs.Paths.{CanAdd, HasBoxes, IsPlanned, LeavesOf, TurnsOf}
use Rattle.pcm_play.specs.declared.channel.PlayChannelOf.{PlayChannelOf}

-- the bytes of a run that were accepted and not yet eaten
abbrev pub waiting_of : PlayBook → List ℕ → List ℕ
waiting_of book bytes = drop (book.eaten * frame_bytes book.opening.settings) bytes

-- a channel's chain goes by the plan that these filters give for its book's settings
abbrev pub IsPlayPlanned : {B : Type 0} → Filters → PlayChannelOf B → Type 0
IsPlayPlanned filters channel = IsPlanned Play filters channel.book.opening.settings channel.path

-- the same of a channel that isn't free; of a free one nothing is said
abbrev pub IsPlayServed : {B : Type 0} → Filters → PlayChannelOf B → Type 0
IsPlayServed filters channel = is_play_free channel.book.state ≡ false → IsPlayPlanned filters channel

-- A channel stands for a book and all bytes that were accepted in its run: those that were not eaten wait in the ring, and
-- the chain has eaten the others. Once no more comes it is fed silence, after the last frame. Of a free one's chain nothing is said.
pub record PlayStands {B : Type 0} (kept : B → Kept) (filters : Filters) (channel : PlayChannelOf B) (book : PlayBook) (bytes : List ℕ) : Type 0 where
  pub book_is : channel.book ≡ book
  pub count : length bytes ≡ book.written
  pub ring_is : channel.path.ring.bytes ≡ waiting_of book bytes
  pub zeros : ℕ
  pub chain_is : is_play_free book.state ≡ false
      → ChainStands kept filters channel.path.chain (take book.eaten (frames book.opening.settings bytes)) zeros book.given
  pub ended : 0 < zeros → (is_draining book.state ≡ true) × (book.eaten ≡ frames_written book)

-- How far a channel is, by its book's counts, whatever bytes it was given: the chain has eaten and given as many frames as the
-- book says. Once no more comes it is fed silence, after the last frame. Of a free one's chain nothing is said.
pub record PlayIsSoFar {B : Type 0} (kept : B → Kept) (filters : Filters) (channel : PlayChannelOf B) : Type 0 where
  pub zeros : ℕ
  pub chain_is : is_play_free channel.book.state ≡ false
      → ChainIsSoFar kept filters channel.path.chain channel.book.eaten zeros channel.book.given
  pub ended : 0 < zeros → (is_draining channel.book.state ≡ true) × (channel.book.eaten ≡ frames_written channel.book)

-- each box of a channel is of its place's kind, its chain goes by its plan unless it is free, and it is as far as its book says
pub record IsPlayReady {B : Type 0} (kind : B → Kind) (kept : B → Kept) (filters : Filters) (channel : PlayChannelOf B) : Type 0 where
  pub kinds : HasBoxes kind channel.path
  pub planned : IsPlayServed filters channel
  pub far : PlayIsSoFar kept filters channel

-- whatever bytes a channel stands for, it adds what the rules say of them, at a gain, to a block of n frames
abbrev pub AddsTo : {B : Type 0} → (B → Kept) → Filters → Device → ℕ → Gain → List ℤ → List ℤ → PlayChannelOf B → Type 0
AddsTo kept filters device n gain old new channel = (bytes : List ℕ) → PlayStands kept filters channel channel.book bytes → new ≡ turned (seen filters device) n gain channel.book bytes old

-- where the mix and the device are, the channel's run gave no frame past what is mixed, and isn't over
abbrev pub IsPlayHere : {B : Type 0} → Filters → Here → PlayChannelOf B → Type 0
IsPlayHere filters here channel = PlayIsHere (play_rate_at (seen filters channel.path.device) channel.book) here channel.book

-- a channel has the boxes of a rack, and its counts have room for the bytes of a run that ends
pub record MayEndRun {B : Type 0} (kind : B → Kind) (channel : PlayChannelOf B) : Type 0 where
  pub kinds : HasBoxes kind channel.path
  pub counted : channel.book.done + channel.book.written < 2 ^ 64

-- a close leaves the book that the rules say, by whichever filters the chain's plan is of
abbrev pub ClosesBook : {B : Type 0} → Here → PlayChannelOf B → PlayChannelOf B → Type 0
ClosesBook here old new = (filters : Filters) → IsPlayServed filters old → new.book ≡ closing (seen filters old.path.device) here old.book

-- and so does a hand-over
abbrev pub SettlesBook : {B : Type 0} → Here → PlayChannelOf B → PlayChannelOf B → Type 0
SettlesBook here old new = (filters : Filters) → IsPlayServed filters old → new.book ≡ play_settled (play_rate_at (seen filters old.path.device) old.book) here.passed old.book

-- nobody has opened the channel yet: it stands for no bytes, its boxes are of the right kinds, and its chain goes by its plan
pub record IsPlayUnopened {B : Type 0} (kind : B → Kind) (kept : B → Kept) (filters : Filters) (device : Device) (channel : PlayChannelOf B) : Type 0 where
  pub device_is : channel.path.device ≡ device
  pub book : channel.book ≡ play_unopened (seen filters device)
  pub kinds : HasBoxes kind channel.path
  pub planned : IsPlayPlanned filters channel
  pub stands : PlayStands kept filters channel channel.book []

-- What an event leaves of a channel, which may take bytes from the front of `more` and give `frames` frames: it is as far as its
-- book says still, and whatever bytes it stood for, it stands for these and what it took, or for none where its run is over.
pub record PlayMoves {B : Type 0} (kind : B → Kind) (kept : B → Kept) (filters : Filters) (more : List ℕ) (frames : ℕ) (old new : PlayChannelOf B) : Type 0 where
  pub kinds : HasBoxes kind old.path → HasBoxes kind new.path
  pub planned : IsPlayServed filters old → IsPlayServed filters new
  pub far : PlayIsSoFar kept filters old → PlayIsSoFar kept filters new
  pub stands : (bytes : List ℕ) → PlayStands kept filters old old.book bytes → PlayStands kept filters new new.book (take new.book.written (bytes ++ more))
  pub written : new.book.written ≤ old.book.written + length more
  -- with the runs before this one
  pub counted : new.book.done + new.book.written ≤ old.book.done + old.book.written + length more
  -- no more than a ring has room for
  pub grown : new.book.done + new.book.written ≤ old.book.done + old.book.written + RING_BYTES
  pub given : new.book.given ≤ old.book.given + frames

-- a channel is as far as another one, and stands for whatever that stands for, by the same book, and its chain goes by the other's plan
pub record PlayStandsAs {B : Type 0} (kept : B → Kept) (other channel : PlayChannelOf B) : Type 0 where
  pub book : channel.book ≡ other.book
  pub planned : (filters : Filters) → IsPlayServed filters other → IsPlayServed filters channel
  pub far : (filters : Filters) → PlayIsSoFar kept filters other → PlayIsSoFar kept filters channel
  pub stands : (filters : Filters) (bytes : List ℕ) → PlayStands kept filters other other.book bytes
      → PlayStands kept filters channel channel.book bytes

-- what a channel needs so that it can be asked something, where the mix and the device are
pub record MayAskPlay {B : Type 0} (kind : B → Kind) (filters : Filters) (place : Here) (channel : PlayChannelOf B) : Type 0 where
  pub kinds : HasBoxes kind channel.path
  pub planned : IsPlayServed filters channel
  pub here : IsHere place
  pub at : IsPlayHere filters place channel
  pub count : channel.book.done + channel.book.written < 2 ^ 64

-- what a channel needs so that an interrupt can mix n of its frames at a gain, where the mix is here
pub record CanMixPlay {B : Type 0} (kind : B → Kind) (kept : B → Kept) (filters : Filters) (here : Here) (n : ℕ) (gain : Gain)
    (frames sum : List ℤ) (channel : PlayChannelOf B) : Type 0 where
  pub adds : CanAdd channel.path.device n gain frames sum
  pub ready : IsPlayReady kind kept filters channel
  pub count : channel.book.given + n < 2 ^ 64
  pub mixed : here.mixed + n < 2 ^ 64

-- what a call leaves of a channel by the turn of its book, and what one by which its book changes so
abbrev pub PlayTurns : {B : Type 0} → Turn PlayBook → (PlayChannelOf B → PlayChannelOf B → Type 0) → Result Answer Errno → PlayChannelOf B
    → PlayChannelOf B → Type 0
PlayTurns turn = TurnsOf (λ channel. channel.path) (λ channel. channel.book) turn.book turn.reply

abbrev pub PlayLeaves : {B : Type 0} → (B → Kind) → (B → Kept) → (PlayChannelOf B → PlayChannelOf B → Type 0) → PlayChannelOf B
    → PlayChannelOf B → Type 0
PlayLeaves kind kept books =
    LeavesOf (λ channel. channel.path) books (λ old new. (filters : Filters) → PlayMoves kind kept filters [] 0 old new)
