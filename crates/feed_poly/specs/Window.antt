-- What a contract sees of a `Window`: its frames, the oldest first.
use Rattle.std.specs.Prelude.{ℕ, ℤ, List, take, drop}
use Rattle.pcm_sequence.specs.Fixed.{fixed_items}
use Rattle.pcm_format.specs.Frames.{Frame}
use Rattle.pcm_feeder.specs.Streams.{frames_of, moved_on}
use Rattle.feed_poly.specs.Places.{frames_from}
use Rattle.feed_poly.specs.Rows.{row_frame}
use Rattle.feed_poly.specs.declared.window.Window.{Window}

-- the frames of a window
abbrev pub window_frames : Window → List Frame
window_frames window = frames_from window.channels window.taps (fixed_items window.samples) window.at

-- and after more of the input were taken in, from one place to another
abbrev pub frames_after : Window → List ℤ → ℕ → ℕ → List Frame
frames_after window input from to =
    moved_on (window_frames window) (drop from (take to (frames_of window.channels input)))

-- what a row makes of them
abbrev pub window_by : ℕ → List ℤ → Window → Frame
window_by shift coefs window = row_frame shift coefs window.channels (window_frames window)
