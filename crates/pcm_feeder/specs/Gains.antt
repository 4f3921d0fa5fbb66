-- A frame with a gain for each channel, where 65536 is one.
use Rattle.std.specs.Prelude.{◌≤◌, ℕ, ℤ, pos, ◌*ℤ◌, List, All}
use Rattle.std.specs.Simd.Lanes.{zip2}
use Rattle.pcm_num.specs.Floor.{floor_div}
use Rattle.pcm_format.specs.Frames.{Frame}

-- a sample times a gain, rounded down
abbrev pub scaled : ℕ → ℤ → ℤ
scaled gain sample = floor_div (sample *ℤ pos gain) 65536

-- a frame, each sample times the gain of its channel
abbrev pub at_gains : List ℕ → Frame → Frame
at_gains gains frame = zip2 scaled gains frame

-- no gain is above one
abbrev pub AreGains : List ℕ → Type 0
AreGains gains = All (λ gain. gain ≤ 65536) gains
