-- What a channel adds to a block of the mix, from the bytes of its run and the gain of its slot. Frames are joined to samples.
use Rattle.std.specs.Prelude.{ℕ, ◌*◌, if◌then◌else◌, List, ◌++◌, take, drop, ℤ}
use Rattle.pcm_format.specs.Formats.{bits_of}
use Rattle.pcm_format.specs.Layouts.{channels_of}
use Rattle.pcm_feeder.specs.declared.stage.Gain.{Gain}
use Rattle.pcm_mix.specs.Mix.{mixed}
use Rattle.pcm_feeder.specs.Fades.{faded}
use Rattle.pcm_desk.specs.declared.play_book.PlayBook.{PlayBook}
use Rattle.pcm_desk.specs.declared.map_book.MapBook.{MapBook}
use Rattle.pcm_desk.specs.Device.{DeviceSeen, mix_settings}
use Rattle.pcm_desk.specs.PlayBooks.{giving}
use Rattle.pcm_desk.specs.RunStates.{is_running}
use Rattle.pcm_desk.specs.Channels.{play_rate_at}
use Rattle.pcm_sound.specs.Gains.{book_gain, map_gain}
use Rattle.pcm_sound.specs.Given.{given_samples}
use Rattle.pcm_sound.specs.MapRuns.{area_taken}

-- a block of the mix once a channel gave its next frames to the front of it, at its volume and the gain of its slot: its book counts the bytes
-- of its run
abbrev pub turned : DeviceSeen → ℕ → Gain → PlayBook → List ℕ → List ℤ → List ℤ
turned device n gain book bytes sum =
    let count : ℕ = giving (play_rate_at device book) n book in
    let size : ℕ = channels_of (mix_settings device).layout in
    mixed (bits_of (mix_settings device).format) (take (count * size) sum)
    (faded (mix_settings device).layout gain (given_samples device (book_gain book) book.opening.settings bytes book.given count))
    ++ drop (count * size) sum

-- how many of n frames a mapped book gives to the mix: all of them, once it has started
abbrev pub map_giving : ℕ → MapBook → ℕ
map_giving n book = if is_running book.state then n else 0

-- the block once a mapped channel gave its next frames, at the gain of its slot, from what the device took of its area before and takes now
abbrev pub map_turned : DeviceSeen → ℕ → Gain → MapBook → List ℕ → List ℕ → List ℤ → List ℤ
map_turned device n gain book bytes area sum =
    let count : ℕ = map_giving n book in
    let size : ℕ = channels_of (mix_settings device).layout in
    mixed (bits_of (mix_settings device).format) (take (count * size) sum)
    (faded (mix_settings device).layout gain (given_samples device (map_gain book) book.opening.settings (bytes ++ area_taken device n book area) book.given count))
    ++ drop (count * size) sum
