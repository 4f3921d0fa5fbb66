-- The path of a channel: what it serves, by which plan, and when nothing is in it.
use Rattle.std.specs.Prelude.{◌≡◌, ℕ, ◌*◌, ◌<◌, ℤ, List, [], length, All, OnErr, Result}
use Rattle.pcm_num.specs.Limit.{FitsBits}
use Rattle.pcm_format.specs.declared.settings.Settings.{Settings}
use Rattle.pcm_format.specs.Formats.{bits_of}
use Rattle.pcm_format.specs.Layouts.{channels_of}
use Rattle.pcm_rate.specs.declared.rate.Rate.{Rate}
use Rattle.pcm_rate.specs.Rates.{IsRatio}
use Rattle.pcm_feeder.specs.declared.kind.Kind.{Kind}
use Rattle.pcm_feeder.specs.declared.stage.Gain.{Gain}
use Rattle.pcm_feeder.specs.Filters.{Filters}
use Rattle.pcm_feeder.specs.Kept.{Kept}
use Rattle.pcm_feeder.specs.Limits.{AreFilters, IsGain, IsRate}
use Rattle.pcm_feeder.specs.declared.rack.RackOf.{RackOf}
use Rattle.pcm_feeder.specs.Racks.{HaveKinds, IsRack}
use Rattle.pcm_oss.specs.declared.event.Way.{Way}
use Rattle.pcm_oss.specs.declared.fragments.TheConstants.{RING_BYTES}
use Rattle.pcm_oss.specs.Fragments.{AreFragments}
use Rattle.pcm_plan.specs.Plans.{rate_in_plan}
use Rattle.pcm_chain.specs.Chains.{boxes_in, marks_in, plan_in, ChainStands, HasRack}
use Rattle.pcm_chain.specs.Pushes.{HasRecorded}
use Rattle.pcm_desk.specs.declared.device.Device.{Device}
use Rattle.pcm_desk.specs.declared.opening.Opening.{Opening}
use Rattle.pcm_desk.specs.Device.{HasRates, seen}
use Rattle.pcm_desk.specs.Openings.{ring_bytes}
use Rattle.pcm_path.specs.Ways.{plan_between}
use Rattle.pcm_path.specs.declared.path.PathOf.{PathOf}

-- each box of a path's chain is of its place's kind
abbrev pub HasBoxes : {B : Type 0} → (B → Kind) → PathOf B → Type 0
HasBoxes kind path = HaveKinds kind (boxes_in path.chain)

-- the rate of the plan that its chain goes by
abbrev pub path_rate : {B : Type 0} → PathOf B → Rate
path_rate path = rate_in_plan (plan_in path.chain)

-- what is needed so that a channel of a device can be made of a rack
pub record CanServe {B : Type 0} (kind : B → Kind) (held : Device) (rack : RackOf B) : Type 0 where
  pub device : HasRates held
  pub kinds : IsRack kind rack

-- a path was made of a rack for a device: its ring has the room that the greatest one takes
pub record IsMadeOf {B : Type 0} (kind : B → Kind) (mark : B → ℕ) (held : Device) (rack : RackOf B) (path : PathOf B) : Type 0 where
  pub device : path.device ≡ held
  pub room : path.ring.max ≡ RING_BYTES
  pub kinds : HasBoxes kind path
  pub boxes : HasRack mark rack path.chain

-- what a path needs so that its channel can be opened with these settings
pub record CanOpen {B : Type 0} (kind : B → Kind) (settings : Settings) (path : PathOf B) : Type 0 where
  pub rate : IsRate settings.rate
  pub kinds : HasBoxes kind path

-- what a path needs so that a run of an opening can begin
pub record CanBegin {B : Type 0} (kind : B → Kind) (opening : Opening) (path : PathOf B) : Type 0 where
  pub device : HasRates path.device
  pub rate : IsRate opening.settings.rate
  pub fragments : AreFragments opening.fragments
  pub room : path.ring.max ≡ RING_BYTES
  pub kinds : HasBoxes kind path

-- A path serves an opening: the rates of device, mix and client are within the limits, those of the chain's plan are above 0, and the
-- ring has the size that the opening's fragments give, out of the room that the greatest ring takes.
pub record Serves {B : Type 0} (opening : Opening) (path : PathOf B) : Type 0 where
  pub device : HasRates path.device
  pub rate : IsRate opening.settings.rate
  pub ratio : IsRatio (path_rate path)
  pub room : path.ring.max ≡ RING_BYTES
  pub size : path.ring.size ≡ ring_bytes opening

-- the filters are within their limits, and the chain goes by the plan that they give between a client of a way, with these
-- settings, and the device
pub record IsPlanned {B : Type 0} (way : Way) (filters : Filters) (settings : Settings) (path : PathOf B) : Type 0 where
  pub limits : AreFilters filters
  pub plan_is : plan_in path.chain ≡ plan_between way (seen filters path.device) settings

-- nothing is in it: no byte waits in the ring, and the chain stands for no frame, whichever the filters are
pub record IsEmpty {B : Type 0} (kept : B → Kept) (path : PathOf B) : Type 0 where
  pub ring : path.ring.bytes ≡ []
  pub begins : (filters : Filters) → ChainStands kept filters path.chain [] 0 0
  pub records : (filters : Filters) → HasRecorded kept filters path.chain []

-- a run of an opening of a way has begun: the path serves the opening with the boxes that it had, and nothing is in it
pub record HasBegun {B : Type 0} (kind : B → Kind) (kept : B → Kept) (mark : B → ℕ) (way : Way) (filters : Filters) (opening : Opening)
    (old new : PathOf B) : Type 0 where
  pub device : new.device ≡ old.device
  pub serves : Serves opening new
  pub planned : IsPlanned way filters opening.settings new
  pub kinds : HasBoxes kind new
  pub marks : marks_in mark new.chain ≡ marks_in mark old.chain
  pub empty : IsEmpty kept new

-- a run has ended: nothing is in the path, and it serves what it served
pub record HasEnded {B : Type 0} (kind : B → Kind) (kept : B → Kept) (old new : PathOf B) : Type 0 where
  pub device : new.device ≡ old.device
  pub ring : new.ring ≡ record old.ring { bytes = [] }
  pub plan : plan_in new.chain ≡ plan_in old.chain
  pub kinds : HasBoxes kind new
  pub empty : IsEmpty kept new

-- buffers for a block of n frames of a device's mix: one that holds the frames of a channel, and one whose samples have its bits
pub record HoldBlock (device : Device) (n : ℕ) (frames sum : List ℤ) : Type 0 where
  pub frames_whole : length frames ≡ n * channels_of device.mix.layout
  pub sum_whole : length sum ≡ n * channels_of device.mix.layout
  pub fits : All (FitsBits (bits_of device.mix.format)) sum

-- a channel's frames may be added at a gain to a block of n frames, in buffers that hold it
pub record CanAdd (device : Device) (n : ℕ) (gain : Gain) (frames sum : List ℤ) : Type 0 where
  pub some : 0 < n
  pub limits : IsGain gain
  pub block : HoldBlock device n frames sum

-- what a call leaves of a channel of whichever way: it is of the device as before, its book is this one, and what it stood for is kept so
pub record ChannelMoves {B C Book : Type 0} (path : C → PathOf B) (book_of : C → Book) (left : Book) (keeps : C → C → Type 0)
    (old new : C) : Type 0 where
  pub device_same : (path new).device ≡ (path old).device
  pub book : book_of new ≡ left
  pub moves : keeps old new

-- what a call leaves of a channel by which its book changes so, whichever way it is: the device stays, and what it stood for is kept so
pub record LeavesOf {B C : Type 0} (path : C → PathOf B) (books keeps : C → C → Type 0) (old new : C) : Type 0 where
  pub book : books old new
  pub device : (path new).device ≡ (path old).device
  pub moves : keeps old new

-- what a call that may be refused leaves of it, by the book and the answer that its turn has
pub record TurnsOf {B C Book Answer Fault : Type 0} (path : C → PathOf B) (book_of : C → Book) (turned : Book)
    (told : Result Answer Fault) (keeps : C → C → Type 0)
    (result : Result Answer Fault) (old new : C) : Type 0 where
  pub book : book_of new ≡ turned
  pub reply : result ≡ told
  pub device : (path new).device ≡ (path old).device
  pub refused : OnErr result (new ≡ old)
  pub moves : keeps old new
