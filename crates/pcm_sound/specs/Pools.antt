-- Pools that are the same to a list of events.
use Rattle.std.specs.Prelude.{◌≡◌, ◌++◌, ℕ, List, All}
use Rattle.pcm_oss.specs.declared.event.Event.{Event}
use Rattle.pcm_oss.specs.declared.event.Event.TheVariants.{Write, Poke}
use Rattle.pcm_wave.specs.declared.pool.Pool.{Pool}
use Rattle.pcm_wave.specs.declared.pool.Source.TheVariants.{Inline}
use Rattle.pcm_wave.specs.Pools.{bytes_at, capture_frames}

-- an event brings the same bytes out of either pool
abbrev pub BringsAlike : Pool → Pool → Event → Type 0
BringsAlike one other (Write fd source at count) = bytes_at other source at count ≡ bytes_at one source at count
BringsAlike one other (Poke fd offset at count) = bytes_at other Inline at count ≡ bytes_at one Inline at count
BringsAlike one other _ = Unit {0}

-- each of these events brings the same bytes out of either pool, and the same frames are recorded
pub record AreAlike (one other : Pool) (events : List Event) : Type 0 where
  pub bytes : All (BringsAlike one other) events
  pub captured : capture_frames other ≡ capture_frames one

-- a pool with more bytes of lines, and the same files
pub record IsLonger (one other : Pool) : Type 0 where
  pub files_same : other.files ≡ one.files
  pub capture_same : other.capture ≡ one.capture
  pub more : List ℕ
  pub inline : other.inline_bytes ≡ one.inline_bytes ++ more
