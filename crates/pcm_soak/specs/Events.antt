-- The event that is drawn: of which kind, and with which numbers, in the order of the draws.
use Rattle.std.specs.Prelude.{ℕ, ◌+◌, ◌*◌, ◌==◌, nat_lt, if◌then◌else◌}
use Rattle.pcm_oss.specs.declared.event.Event.{Event}
use Rattle.pcm_oss.specs.declared.event.Event.TheVariants.{Write, Read, Ioctl, Intr}
use Rattle.pcm_oss.specs.declared.request.Request.{Request}
use Rattle.pcm_oss.specs.declared.request.Request.TheVariants.{Speed, GetCaps, GetOSpace, GetOPtr, GetODelay, GetError, SetTrigger, SetPlayVol, Post, Sync, Halt}
use Rattle.pcm_wave.specs.declared.pool.Source.TheVariants.{Inline}
use Rattle.pcm_soak.specs.Draws.{Draw, ◌>>=◌, drawn_below, without_draw}

-- a write of one of the four that play, of up to 4096 bytes from one of the first 4096 places on
abbrev pub write_event : Draw Event
write_event = do
  fd ← drawn_below 4
  at ← drawn_below 4096
  len ← drawn_below 4097
  without_draw (Write fd Inline at len)

-- an interrupt of 1 to 256 frames
abbrev pub interrupt_event : Draw Event
interrupt_event = do
  more ← drawn_below 256
  without_draw (Intr (1 + more))

-- a read of one of the two that record, of up to 4096 bytes
abbrev pub read_event : Draw Event
read_event = do
  place ← drawn_below 2
  len ← drawn_below 4097
  without_draw (Read (4 + place) len)

-- what is asked for a number below 4
abbrev pub question_for : ℕ → Request
question_for choice =
    if choice == 0 then GetError
    else if choice == 1 then GetOSpace
    else if choice == 2 then GetOPtr
    else GetODelay

-- one of `fds` descriptors gets one of `choices` requests
abbrev pub request_event : ℕ → ℕ → (ℕ → Request) → Draw Event
request_event fds choices request_for = do
  fd ← drawn_below fds
  choice ← drawn_below choices
  without_draw (Ioctl fd (request_for choice))

-- one of all six is asked something
abbrev pub question_event : Draw Event
question_event = request_event 6 4 question_for

-- one that plays gets a volume, the left side before the right
abbrev pub volume_event : Draw Event
volume_event = do
  fd ← drawn_below 4
  left ← drawn_below 101
  right ← drawn_below 101
  without_draw (Ioctl fd (SetPlayVol (left + 256 * right)))

-- what is ordered for a number below 8; the last one is refused
abbrev pub order_for : ℕ → Request
order_for choice =
    if choice == 0 then Halt
    else if choice == 1 then Sync
    else if choice == 2 then Post
    else if choice == 3 then SetTrigger 2
    else if choice == 4 then SetTrigger 0
    else if choice == 5 then SetTrigger 2
    else if choice == 6 then GetCaps
    else Speed 3999

-- one that plays is ordered something
abbrev pub order_event : Draw Event
order_event = request_event 4 8 order_for

-- the kind of event for a number below 16
abbrev pub event_for : ℕ → Draw Event
event_for choice =
    if nat_lt choice 8 then write_event
    else if nat_lt choice 12 then interrupt_event
    else if choice == 12 then read_event
    else if choice == 13 then question_event
    else if choice == 14 then volume_event
    else order_event

-- one more event
unfoldable pub drawn_event : Draw Event
drawn_event = do
  choice ← drawn_below 16
  event_for choice
