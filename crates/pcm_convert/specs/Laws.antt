-- What blocks are of the body that is converted.
use Rattle.std.specs.Prelude.{◌≡◌, ◌≤◌, ◌+◌, ◌*◌, ℕ, List, ◌++◌, length, take, drop}
use Rattle.pcm_format.specs.declared.settings.Settings.{Settings}
use Rattle.pcm_format.specs.Frames.{frame_bytes, spelled_frames}
use Rattle.pcm_feeder.specs.Limits.{IsRate}
use Rattle.pcm_convert.specs.Conversions.{all_converted, block_after, block_count, converted_body, converted_frames}

-- the bytes of the first frames of the converted body
abbrev pub converted_part : Settings → Settings → List ℕ → ℕ → List ℕ
converted_part source target bytes given = take (given * frame_bytes target) (converted_body source target bytes)

-- the body is as long as all its frames
abbrev pub HasAllFrames : Settings → Settings → List ℕ → Type 0
HasAllFrames source target bytes = IsRate source.rate → IsRate target.rate
    → length (converted_body source target bytes) ≡ converted_frames source target bytes * frame_bytes target

-- each block is the bytes of the next frames
abbrev pub BlocksAreFrames : Settings → Settings → List ℕ → Type 0
BlocksAreFrames source target bytes = (given : ℕ) → IsRate source.rate → IsRate target.rate
    → block_after source target bytes given
    ≡ spelled_frames target.format (take (block_count source target bytes given) (drop given (all_converted source target bytes)))

-- each block goes on where the blocks before it end
abbrev pub BlocksJoin : Settings → Settings → List ℕ → Type 0
BlocksJoin source target bytes = (given : ℕ)
    → converted_part source target bytes given ++ block_after source target bytes given
    ≡ converted_part source target bytes (given + block_count source target bytes given)

-- once all frames were given, the blocks are the whole body
abbrev pub BlocksAreWhole : Settings → Settings → List ℕ → Type 0
BlocksAreWhole source target bytes = (given : ℕ) → IsRate source.rate → IsRate target.rate
    → converted_frames source target bytes ≤ given
    → converted_part source target bytes given ≡ converted_body source target bytes
