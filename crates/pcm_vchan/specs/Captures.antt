-- What an interrupt leaves of a channel that records.
use Rattle.std.specs.Prelude.{ℕ, ℤ, List}
use Rattle.pcm_format.specs.Layouts.{channels_of}
use Rattle.pcm_feeder.specs.declared.kind.Kind.{Kind}
use Rattle.pcm_feeder.specs.Kept.{Kept}
use Rattle.pcm_feeder.specs.Streams.{frames_of}
use Rattle.pcm_desk.specs.Device.{DeviceSeen, device_settings, device_filters}
use Rattle.pcm_desk.specs.RecordBooks.{keeping}
use Rattle.pcm_desk.specs.Channels.{capturing, record_rate_at}
use Rattle.pcm_record.specs.declared.channel.RecordChannelOf.{RecordChannelOf}
use Rattle.pcm_record.specs.Channels.{RecordMoves}
use Rattle.pcm_vchan.specs.Slots.{ChannelMoves}

-- its book captures n frames of the device, which are these samples
abbrev pub Captures : {B : Type 0} → (B → Kind) → (B → Kept) → DeviceSeen → ℕ → List ℤ → RecordChannelOf B → RecordChannelOf B → Type 0
Captures kind kept device n samples old new = ChannelMoves (λ channel. channel.path) (λ channel. channel.book) (capturing device n old.book)
    (RecordMoves kind kept (device_filters device) (frames_of (channels_of (device_settings device).layout) samples) (keeping (record_rate_at device old.book) n old.book)) old new
