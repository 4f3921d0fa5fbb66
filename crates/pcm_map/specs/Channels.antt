-- A mapped channel: what it stands for, what stands in its area, and what an event changes of it.
use Rattle.std.specs.Prelude.{◌≡◌, ℕ, ◌+◌, ◌*◌, ◌^◌, ◌<◌, ◌≤◌, false, ℤ, if◌then◌else◌, List, [], ◌++◌, length, take, OnErr, Result}
use Rattle.pcm_sequence.specs.Fixed.{fixed_items}
use Rattle.pcm_format.specs.Frames.{frame_bytes, frames}
use Rattle.pcm_rate.specs.Rates.{need}
use Rattle.pcm_feeder.specs.declared.kind.Kind.{Kind}
use Rattle.pcm_feeder.specs.declared.stage.Gain.{Gain}
use Rattle.pcm_feeder.specs.Filters.{Filters}
use Rattle.pcm_feeder.specs.Kept.{Kept}
use Rattle.pcm_chain.specs.Chains.{ChainStands}
use Rattle.pcm_chain.specs.Far.{ChainIsSoFar}
use Rattle.pcm_oss.specs.declared.event.Way.TheVariants.{Map}
use Rattle.pcm_oss.specs.declared.reply.Answer.{Answer}
use Rattle.pcm_oss.specs.declared.reply.Errno.{Errno}
use Rattle.pcm_desk.specs.declared.map_book.MapBook.{MapBook}
use Rattle.pcm_desk.specs.declared.turn.Turn.{Turn}
use Rattle.pcm_desk.specs.declared.device.Device.{Device}
use Rattle.pcm_desk.specs.Device.{seen}
use Rattle.pcm_desk.specs.RunStates.{is_unheld}
use Rattle.pcm_desk.specs.MapBooks.{map_closed, taken_of}
use Rattle.pcm_desk.specs.Openings.{ring_bytes}
use Rattle.pcm_desk.specs.Channels.{map_rate_at}
use Rattle.pcm_desk.specs.Desk.{map_unopened}
use Rattle.pcm_sound.specs.Added.{map_turned}
use Rattle.pcm_sound.specs.Areas.{is_recut, poked, silences, silent_area}
use Rattle.pcm_sound.specs.MapRuns.{area_taken}
use Rattle.pcm_path.specs.Paths.{CanAdd, HasBoxes, IsPlanned}
use Rattle.pcm_map.specs.declared.channel.MapChannelOf.{MapChannelOf}

-- what stands in a channel's area: as many bytes as its fragments have
abbrev pub area_of : {B : Type 0} → MapChannelOf B → List ℕ
area_of channel = take (ring_bytes channel.book.opening) (fixed_items channel.area)

-- a channel's chain goes by the plan that these filters give for its book's settings
abbrev pub IsMapPlanned : {B : Type 0} → Filters → MapChannelOf B → Type 0
IsMapPlanned filters channel = IsPlanned Map filters channel.book.opening.settings channel.path

-- the same of a channel that isn't free; of a free one nothing is said
abbrev pub IsMapServed : {B : Type 0} → Filters → MapChannelOf B → Type 0
IsMapServed filters channel = is_unheld channel.book.state ≡ false → IsMapPlanned filters channel

-- A channel stands for a book and all bytes that were taken of its area in its run: the chain has eaten them all, and no silence. Of a
-- free one's chain nothing is said.
pub record MapStands {B : Type 0} (kept : B → Kept) (filters : Filters) (channel : MapChannelOf B) (book : MapBook) (bytes : List ℕ) : Type 0 where
  pub book_is : channel.book ≡ book
  pub count : length bytes ≡ taken_of book
  pub chain_is : is_unheld book.state ≡ false → ChainStands kept filters channel.path.chain (frames book.opening.settings bytes) 0 book.given

-- How far a channel is, by its book's counts, whatever bytes were taken: its chain has eaten and given as many frames as the book says,
-- and no silence. Of a free one's chain nothing is said.
abbrev pub MapIsSoFar : {B : Type 0} → (B → Kept) → Filters → MapChannelOf B → Type 0
MapIsSoFar kept filters channel =
    is_unheld channel.book.state ≡ false → ChainIsSoFar kept filters channel.path.chain channel.book.eaten 0 channel.book.given

-- each box of a channel is of its place's kind, and unless it is free its chain goes by its plan, as far as its book counts
pub record IsMapReady {B : Type 0} (kind : B → Kind) (kept : B → Kept) (filters : Filters) (channel : MapChannelOf B) : Type 0 where
  pub kinds : HasBoxes kind channel.path
  pub planned : IsMapServed filters channel
  pub far : MapIsSoFar kept filters channel

-- a channel that gives `frames` frames by an interrupt has room for them in its counts, and for the bytes that it takes for them
pub record CountsFit {B : Type 0} (filters : Filters) (frames : ℕ) (channel : MapChannelOf B) : Type 0 where
  pub given : channel.book.given + frames < 2 ^ 64
  pub taken : need (map_rate_at (seen filters channel.path.device) channel.book) (channel.book.given + frames)
      * frame_bytes channel.book.opening.settings < 2 ^ 64

-- whatever bytes were taken before, a channel adds to a block of n frames what the rules say of them and of its area, at a gain
abbrev pub MapAddsTo : {B : Type 0} → (B → Kept) → Filters → Device → ℕ → Gain → List ℤ → List ℤ → MapChannelOf B → Type 0
MapAddsTo kept filters device n gain old new channel = (bytes : List ℕ) → MapStands kept filters channel channel.book bytes
    → new ≡ map_turned (seen filters device) n gain channel.book bytes (area_of channel) old

-- a request leaves the area, but for one by which the area has another format, other channels or another size
abbrev pub RecutsArea : {B : Type 0} → MapChannelOf B → MapChannelOf B → Type 0
RecutsArea old new = area_of new ≡ (if is_recut old.book.opening new.book.opening then silent_area new.book.opening else area_of old)

-- bytes from one on are written into the area, if they fit
abbrev pub PokesArea : {B : Type 0} → ℕ → List ℕ → MapChannelOf B → MapChannelOf B → Type 0
PokesArea offset bytes old new = area_of new ≡ poked offset bytes (area_of old)

-- nobody has opened the channel yet: it stands for no bytes, its boxes are of the right kinds, its chain goes by its plan, and its area is
-- silent
pub record IsMapUnopened {B : Type 0} (kind : B → Kind) (kept : B → Kept) (filters : Filters) (device : Device) (channel : MapChannelOf B) : Type 0 where
  pub device_is : channel.path.device ≡ device
  pub book : channel.book ≡ map_unopened (seen filters device)
  pub kinds : HasBoxes kind channel.path
  pub planned : IsMapPlanned filters channel
  pub stands : MapStands kept filters channel channel.book []
  pub area : area_of channel ≡ silent_area channel.book.opening

-- What an event leaves of a channel, which may take these bytes of the area and give `frames` frames: where it was as far as its book
-- counts, it still is, and whatever bytes it stood for, it stands for these and what it took, or for none where its run is over.
pub record MapMoves {B : Type 0} (kind : B → Kind) (kept : B → Kept) (filters : Filters) (more : List ℕ) (frames : ℕ) (old new : MapChannelOf B) : Type 0 where
  pub kinds : HasBoxes kind old.path → HasBoxes kind new.path
  pub planned : IsMapServed filters old → IsMapServed filters new
  pub far : MapIsSoFar kept filters old → MapIsSoFar kept filters new
  pub stands : (bytes : List ℕ) → MapStands kept filters old old.book bytes → MapStands kept filters new new.book (take (taken_of new.book) (bytes ++ more))
  pub given : new.book.given ≤ old.book.given + frames

-- an interrupt that mixes n frames takes what stands in the area
abbrev pub MapTakes : {B : Type 0} → (B → Kind) → (B → Kept) → Filters → ℕ → MapChannelOf B → MapChannelOf B → Type 0
MapTakes kind kept filters n old new = MapMoves kind kept filters (area_taken (seen filters old.path.device) n old.book (area_of old)) n old new

-- What a call leaves of a channel, which writes so into its area: it takes nothing, and the area is silent again where another opening
-- begins, or its format, its channels or its fragments are others.
pub record MapKeeps {B : Type 0} (kind : B → Kind) (kept : B → Kept) (filters : Filters) (writes : List ℕ → List ℕ)
    (old new : MapChannelOf B) : Type 0 where
  pub moves : MapMoves kind kept filters [] 0 old new
  pub area : area_of new ≡ (if silences old.book new.book then silent_area new.book.opening else writes (area_of old))

-- what an opening makes of a channel: it takes nothing, and its area is silent
pub record MapBegins {B : Type 0} (kind : B → Kind) (kept : B → Kept) (filters : Filters) (old new : MapChannelOf B) : Type 0 where
  pub moves : MapMoves kind kept filters [] 0 old new
  pub area : area_of new ≡ silent_area new.book.opening

-- a channel stands for whatever another one stands for, by the same book and with the same area, and its chain goes by the plan that the
-- other's goes by, and is as far where the other's is
pub record MapStandsAs {B : Type 0} (kept : B → Kept) (other channel : MapChannelOf B) : Type 0 where
  pub book : channel.book ≡ other.book
  pub area : area_of channel ≡ area_of other
  pub planned : (filters : Filters) → IsMapServed filters other → IsMapServed filters channel
  pub far : (filters : Filters) → MapIsSoFar kept filters other → MapIsSoFar kept filters channel
  pub stands : (filters : Filters) (bytes : List ℕ) → MapStands kept filters other other.book bytes
      → MapStands kept filters channel channel.book bytes

-- what a channel needs so that an interrupt can mix n of its frames at a gain
pub record CanMixMap {B : Type 0} (kind : B → Kind) (kept : B → Kept) (filters : Filters) (n : ℕ) (gain : Gain) (frames sum : List ℤ)
    (channel : MapChannelOf B) : Type 0 where
  pub adds : CanAdd channel.path.device n gain frames sum
  pub ready : IsMapReady kind kept filters channel
  pub count : CountsFit filters n channel

-- what a call that may be refused leaves of a channel, by the turn of its book
pub record MapTurns {B : Type 0} (turn : Turn MapBook) (areas keeps : MapChannelOf B → MapChannelOf B → Type 0)
    (result : Result Answer Errno) (old new : MapChannelOf B) : Type 0 where
  pub book : new.book ≡ turn.book
  pub reply : result ≡ turn.reply
  pub device : new.path.device ≡ old.path.device
  pub area : areas old new
  pub refused : OnErr result (new ≡ old)
  pub moves : keeps old new

-- what a close leaves of it
pub record ClosesMap {B : Type 0} (kind : B → Kind) (kept : B → Kept) (old new : MapChannelOf B) : Type 0 where
  pub book : new.book ≡ map_closed old.book
  pub device : new.path.device ≡ old.path.device
  pub area : area_of new ≡ area_of old
  pub moves : (filters : Filters) → MapMoves kind kept filters [] 0 old new

-- what a channel needs so that it can be asked something
pub record MayAskMap {B : Type 0} (kind : B → Kind) (filters : Filters) (channel : MapChannelOf B) : Type 0 where
  pub kinds : HasBoxes kind channel.path
  pub planned : IsMapServed filters channel
  pub count : taken_of channel.book < 2 ^ 64
