-- A client among others, and the same client by itself at another descriptor.
use Rattle.std.specs.Prelude.{ℕ, List, [], ◌∷◌, Result, Ok}
use Rattle.pcm_oss.specs.declared.event.Event.{Event}
use Rattle.pcm_oss.specs.declared.event.Event.TheVariants.{Write, Ioctl, Close, Intr}
use Rattle.pcm_oss.specs.declared.reply.Answer.{Answer}
use Rattle.pcm_oss.specs.declared.reply.Answer.TheVariants.{Done, Number}
use Rattle.pcm_oss.specs.declared.reply.Errno.{Errno}
use Rattle.pcm_oss.specs.declared.request.Request.TheVariants.{GetODelay, Post}
use Rattle.pcm_wave.specs.declared.pool.Source.TheVariants.{Inline, File}
use Rattle.pcm_desk.specs.Desk.{Desk, after, desk_at_start}
use Rattle.pcm_desk.specs.Usual.{usual_device}
use Rattle.pcm_rows.specs.Calls.{opens}

-- two frames are written, one is mixed and one waits, after a whole ring of the device; what follows the close is another's
abbrev pub among_others : List Event
among_others = opens 1 ∷ Write 0 Inline 0 8 ∷ Write 1 Inline 8 4 ∷ Ioctl 0 Post ∷ Close 1 ∷ Intr 1 ∷ Ioctl 0 GetODelay ∷ Close 0 ∷ opens 0 ∷ Intr 4 ∷ []

abbrev pub by_itself : List Event
by_itself = Write 5 (File 0) 12 8 ∷ Ioctl 5 Post ∷ Intr 1 ∷ Ioctl 5 GetODelay ∷ Close 5 ∷ []

-- the events of both, without a number
abbrev pub its_events : List Event
its_events = Write 0 Inline 0 8 ∷ Ioctl 0 Post ∷ Intr 1 ∷ Ioctl 0 GetODelay ∷ Close 0 ∷ []

abbrev pub its_replies : List (Result Answer Errno)
its_replies = Ok (Number 8) ∷ Ok Done ∷ Ok (Number 1) ∷ Ok (Number 4100) ∷ Ok Done ∷ []

-- a desk with one open descriptor
abbrev pub desk_of_one : ℕ → Desk
desk_of_one fd = (after usual_device (desk_at_start usual_device) (opens fd)).desk
