-- A mapped channel, told as its book and what it kept: what it is then, and when two are alike.
use Rattle.std.specs.Prelude.{◌≡◌, ℕ, ℤ, false, List, length}
use Rattle.pcm_feeder.specs.declared.kind.Kind.{Kind}
use Rattle.pcm_feeder.specs.Filters.{Filters}
use Rattle.pcm_feeder.specs.Kept.{Kept}
use Rattle.pcm_feeder.specs.Limits.{IsRate}
use Rattle.pcm_chain.specs.Chains.{marks_in}
use Rattle.pcm_chain.specs.Pasts.{past_of, past_sizes}
use Rattle.pcm_desk.specs.declared.map_book.MapBook.{MapBook}
use Rattle.pcm_desk.specs.Channels.{map_rate_at}
use Rattle.pcm_desk.specs.Device.{seen}
use Rattle.pcm_desk.specs.RunStates.{is_unheld}
use Rattle.pcm_desk.specs.MapSafe.{MapIsSafe}
use Rattle.pcm_oss.specs.declared.event.Way.TheVariants.{Map}
use Rattle.pcm_path.specs.Paths.{HasBoxes}
use Rattle.pcm_path.specs.Telling.{plan_for}
use Rattle.pcm_map.specs.declared.channel.MapChannelOf.{MapChannelOf}
use Rattle.pcm_map.specs.Channels.{area_of, IsMapReady}

-- A channel can be told this book: it has the boxes of a rack, the book's counts are in order and, unless it is free, as many samples
-- were kept as its plan's stages keep.
pub record CanTellMap {B : Type 0} (kind : B → Kind) (filters : Filters) (book : MapBook) (samples : List ℤ)
    (channel : MapChannelOf B) : Type 0 where
  pub kinds : HasBoxes kind channel.path
  pub rate : IsRate book.opening.settings.rate
  pub safe : MapIsSafe (map_rate_at (seen filters channel.path.device) book) book
  pub past : is_unheld book.state ≡ false
      → length samples ≡ past_sizes (plan_for Map filters book.opening.settings channel.path).stages

-- It is of its device and has its boxes and its area still. It has the book, and is ready; unless it is free, its chain keeps these
-- samples.
pub record HasToldMap {B : Type 0} (kind : B → Kind) (kept : B → Kept) (mark : B → ℕ) (filters : Filters) (book : MapBook)
    (samples : List ℤ) (old new : MapChannelOf B) : Type 0 where
  pub device_same : new.path.device ≡ old.path.device
  pub marks : marks_in mark new.path.chain ≡ marks_in mark old.path.chain
  pub book_is : new.book ≡ book
  pub area_same : new.area ≡ old.area
  pub ready : IsMapReady kind kept filters new
  pub keeps : is_unheld book.state ≡ false → past_of kept new.path.chain ≡ samples

-- two channels of one device are by one book, the same stands in their areas and, unless they are free, their chains keep the same
pub record MapAreAlike {B : Type 0} (kept : B → Kept) (one other : MapChannelOf B) : Type 0 where
  pub device_same : other.path.device ≡ one.path.device
  pub book_same : other.book ≡ one.book
  pub area_same : area_of other ≡ area_of one
  pub keeps : is_unheld one.book.state ≡ false → past_of kept other.path.chain ≡ past_of kept one.path.chain
