-- What a descriptor holds, or what it is refused for.
use Rattle.std.specs.Prelude.{ℕ, Bool, true, false, if◌then◌else◌, Option, Some, None, Result, Ok, Err}
use Rattle.pcm_engine.specs.Types.{Errno, Held, Way}
use Rattle.pcm_oss.specs.declared.reply.Errno.TheVariants.{BadF, Exist, Inval}
use Rattle.pcm_desk.specs.Channels.{by_way}

-- it is shut, so it may be opened
abbrev pub shut : Option Held → Result Unit Errno
shut None = Ok tt
shut (Some held) = Err Exist

-- it is open, and holds a channel
abbrev pub holding : Option Held → Result Held Errno
holding None = Err BadF
holding (Some held) = Ok held

-- two ways are one
abbrev pub is_way : Way → Way → Bool
is_way way other = by_way way (by_way other true false false) (by_way other false true false) (by_way other false false true)

-- the channel that it holds is of this way, and in this slot
abbrev pub slot_of : Way → Option Held → Result ℕ Errno
slot_of way None = Err BadF
slot_of way (Some held) = if is_way way held.way then Ok held.slot else Err Inval
