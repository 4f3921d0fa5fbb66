-- After how many frames of the device a client can go on.
use Rattle.std.specs.Prelude.{◌≡◌, ℕ, zero, suc, ◌+◌, Bool, true, false, ◌||◌, Option, Some, None, Result, Ok, Err}
use Rattle.pcm_oss.specs.declared.event.Event.TheVariants.{Write, Read}
use Rattle.pcm_oss.specs.declared.event.Way.{Way}
use Rattle.pcm_oss.specs.declared.event.Way.TheVariants.{Play, Record, Map}
use Rattle.pcm_oss.specs.declared.reply.Errno.{Errno}
use Rattle.pcm_oss.specs.declared.reply.Errno.TheVariants.{BadF, Busy, Inval}
use Rattle.pcm_wave.specs.declared.pool.Source.TheVariants.{Inline}
use Rattle.pcm_desk.specs.declared.device.Held.{Held}
use Rattle.pcm_desk.specs.Device.{DeviceSeen}
use Rattle.pcm_desk.specs.Desk.{Desk, interrupt_turn}
use Rattle.pcm_status.specs.declared.limits.TheConstants.{FRAMES_MOST}
use Rattle.pcm_status.specs.Statuses.{counts, would}

-- the desk once the device has been given n more frames, at one interrupt
abbrev pub desk_after : DeviceSeen → Desk → ℕ → Desk
desk_after device desk zero = desk
desk_after device desk (suc n) = (interrupt_turn device desk (suc n)).desk

-- a write of `bytes` bytes would be taken whole, or as many could be read
abbrev pub can_go_on : DeviceSeen → ℕ → ℕ → Desk → Bool
can_go_on device fd bytes desk = counts bytes (would device desk (Write fd Inline 0 bytes)) || counts bytes (would device desk (Read fd bytes))

-- and so it is after n frames
abbrev pub goes_on_after : DeviceSeen → Desk → ℕ → ℕ → ℕ → Bool
goes_on_after device desk fd bytes n = can_go_on device fd bytes (desk_after device desk n)

-- After n frames a client can go on, and after one fewer it can't.
pub record IsMetAt (device : DeviceSeen) (desk : Desk) (fd bytes n : ℕ) : Type 0 where
  pub met : goes_on_after device desk fd bytes n ≡ true
  pub fewer : (before : ℕ) → n ≡ before + 1 → goes_on_after device desk fd bytes before ≡ false

-- The answer to the wait for `bytes` bytes of a channel that plays or records: after how many frames it ends. It is busy where the client
-- can't go on after FRAMES_MOST frames either.
abbrev pub WaitHere : DeviceSeen → Desk → ℕ → ℕ → Result ℕ Errno → Type 0
WaitHere device desk fd bytes (Ok n) = IsMetAt device desk fd bytes n
WaitHere device desk fd bytes (Err errno) = (errno ≡ Busy) × (goes_on_after device desk fd bytes FRAMES_MOST ≡ false)

-- a mapped one waits for nothing
abbrev pub WaitBy : Way → DeviceSeen → Desk → ℕ → ℕ → Result ℕ Errno → Type 0
WaitBy Play device desk fd bytes result = WaitHere device desk fd bytes result
WaitBy Record device desk fd bytes result = WaitHere device desk fd bytes result
WaitBy Map device desk fd bytes result = result ≡ Err Inval

-- and a closed descriptor has none
abbrev pub WaitOf : DeviceSeen → Desk → ℕ → ℕ → Option Held → Result ℕ Errno → Type 0
WaitOf device desk fd bytes None result = result ≡ Err BadF
WaitOf device desk fd bytes (Some held) result = WaitBy held.way device desk fd bytes result
