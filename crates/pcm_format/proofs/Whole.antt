-- How many whole frames bytes hold.
use Rattle.std.proofs.Common.{ℕ, ◌+◌, ◌*◌, ◌<◌, ◌≤◌, arith}
use Rattle.std.proofs.Math.Nat.{le-div_iff_mul-le}
use Rattle.pcm_format.specs.declared.settings.Settings.{Settings}
use Rattle.pcm_format.specs.Frames.{whole_frames, frame_bytes}
use Rattle.pcm_format.proofs.Streams.{frame_bytes-above}

-- n whole frames have all their bytes there
pub frames_fit : (settings : Settings) (bytes n : ℕ) → n ≤ whole_frames settings bytes → n * frame_bytes settings ≤ bytes
frames_fit settings bytes n h = (le-div_iff_mul-le {k = frame_bytes settings} {x = n} {y = bytes} (frame_bytes-above settings)).0 h

-- so are those of a frame
pub frame_fits : (settings : Settings) (bytes k : ℕ) → k < whole_frames settings bytes → (k + 1) * frame_bytes settings ≤ bytes
frame_fits settings bytes k h = frames_fit settings bytes (k + 1) (omega arith)

-- n frames whose bytes are all there are whole
pub frames_there : (settings : Settings) (bytes n : ℕ) → n * frame_bytes settings ≤ bytes → n ≤ whole_frames settings bytes
frames_there settings bytes n h = (le-div_iff_mul-le {k = frame_bytes settings} {x = n} {y = bytes} (frame_bytes-above settings)).1 h

-- a frame whose bytes are there is whole
pub frame_whole : (settings : Settings) (bytes k : ℕ) → (k + 1) * frame_bytes settings ≤ bytes → k < whole_frames settings bytes
frame_whole settings bytes k h = let there = frames_there settings bytes (k + 1) h in omega arith

-- more bytes have no fewer frames
pub whole_frames-mono : (settings : Settings) (a b : ℕ) → a ≤ b → whole_frames settings a ≤ whole_frames settings b
whole_frames-mono settings a b h =
    let fits = frames_fit settings a (whole_frames settings a) (omega arith) in
    frames_there settings b (whole_frames settings a) (omega arith)

-- bytes that hold a whole frame are some
pub bytes_above : (settings : Settings) (bytes : ℕ) → 0 < whole_frames settings bytes → 0 < bytes
bytes_above settings bytes h = let fits = frame_fits settings bytes 0 h in let above = frame_bytes-above settings in omega arith
