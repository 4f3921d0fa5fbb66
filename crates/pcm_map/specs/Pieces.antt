-- What a channel gives before it is mixed: its next frames, and the bytes that were taken of its area for them.
use Rattle.std.specs.Prelude.{◌≡◌, ℕ, ◌-◌, ◌*◌, ℤ, All, List, ◌++◌, take}
use Rattle.pcm_num.specs.Limit.{FitsBits}
use Rattle.pcm_format.specs.Formats.{bits_of}
use Rattle.pcm_format.specs.Layouts.{channels_of}
use Rattle.pcm_feeder.specs.declared.kind.Kind.{Kind}
use Rattle.pcm_feeder.specs.Filters.{Filters}
use Rattle.pcm_feeder.specs.Kept.{Kept}
use Rattle.pcm_chain.specs.Chains.{plan_in}
use Rattle.pcm_desk.specs.declared.map_book.MapBook.{MapBook}
use Rattle.pcm_desk.specs.Device.{seen}
use Rattle.pcm_desk.specs.MapBooks.{map_gives, taken_of}
use Rattle.pcm_desk.specs.Channels.{map_rate_at}
use Rattle.pcm_sound.specs.Areas.{area_bytes}
use Rattle.pcm_sound.specs.Gains.{map_gain}
use Rattle.pcm_sound.specs.Given.{given_samples}
use Rattle.pcm_path.specs.Paths.{HasBoxes}
use Rattle.pcm_map.specs.declared.channel.MapChannelOf.{MapChannelOf}
use Rattle.pcm_map.specs.Channels.{area_of, MapIsSoFar, MapStands}

-- a started channel's book once it gave n frames more
abbrev pub book_giving : {B : Type 0} → Filters → ℕ → MapChannelOf B → MapBook
book_giving filters n channel = map_gives (map_rate_at (seen filters channel.path.device) channel.book) n channel.book

-- the bytes that it takes of its area for them
abbrev pub taken_for : {B : Type 0} → Filters → ℕ → MapChannelOf B → List ℕ
taken_for filters n channel = area_bytes (area_of channel) (taken_of channel.book) (taken_of (book_giving filters n channel) - taken_of channel.book)

-- the samples of these frames, at the channel's gain, once it had taken some bytes
abbrev pub samples_for : {B : Type 0} → Filters → ℕ → MapChannelOf B → List ℕ → List ℤ
samples_for filters n channel bytes =
    given_samples (seen filters channel.path.device) (map_gain channel.book) channel.book.opening.settings (bytes ++ taken_for filters n channel) channel.book.given n

-- A channel gave its next n frames, which stand at the front of samples, with the bits of the mix: where it was as far as its book
-- counts, it still is, and whatever bytes it had taken, it has taken these too.
pub record MapGives {B : Type 0} (kind : B → Kind) (kept : B → Kept) (filters : Filters) (n : ℕ) (old new : MapChannelOf B) (samples : List ℤ) : Type 0 where
  pub book : new.book ≡ book_giving filters n old
  pub device : new.path.device ≡ old.path.device
  pub area : new.area ≡ old.area
  pub plan : plan_in new.path.chain ≡ plan_in old.path.chain
  pub kinds : HasBoxes kind old.path → HasBoxes kind new.path
  pub far : MapIsSoFar kept filters old → MapIsSoFar kept filters new
  pub stands : (bytes : List ℕ) → MapStands kept filters old old.book bytes → MapStands kept filters new new.book (bytes ++ taken_for filters n old)
  pub fits : All (FitsBits (bits_of old.path.device.mix.format)) (take (n * channels_of old.path.device.mix.layout) samples)
  pub samples_are : (bytes : List ℕ) → MapStands kept filters old old.book bytes
      → take (n * channels_of old.path.device.mix.layout) samples ≡ samples_for filters n old bytes
