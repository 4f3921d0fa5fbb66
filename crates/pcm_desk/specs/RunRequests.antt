-- What is asked alike of a channel that records and of a mapped one: what it makes of the run, and of its opening.
use Rattle.std.specs.Prelude.{ℕ, Bool, true, false, if◌then◌else◌}
use Rattle.pcm_oss.specs.declared.reply.Errno.TheVariants.{Inval}
use Rattle.pcm_oss.specs.declared.request.Request.{Request}
use Rattle.pcm_oss.specs.declared.request.Request.TheVariants.{SetTrigger, Post, Sync, Halt}
use Rattle.pcm_desk.specs.declared.opening.Opening.{Opening}
use Rattle.pcm_desk.specs.declared.run_requests.RunAsked.{RunAsked}
use Rattle.pcm_desk.specs.declared.run_requests.RunChange.{RunChange}
use Rattle.pcm_desk.specs.declared.run_requests.RunChange.TheVariants.{Stays, Starts, Drops}
use Rattle.pcm_desk.specs.declared.run_state.RunState.{RunState}
use Rattle.pcm_desk.specs.declared.run_state.RunState.TheVariants.{Setup, Running}
use Rattle.pcm_desk.specs.declared.turn.Turn.{Turn}
use Rattle.pcm_desk.specs.Openings as openings
use Rattle.pcm_desk.specs.Openings.{with_trigger}
use Rattle.pcm_desk.specs.RunStates.{is_in_setup}
use Rattle.pcm_desk.specs.BookTurns.{doing, refused}
use Rattle.pcm_desk.specs.Triggers.{has_bit, has_other_bits}

-- its trigger was set: on, a run in Setup starts; off, one that runs drops what it has
abbrev pub run_triggered : Bool → RunState → RunChange
run_triggered true Setup = Starts
run_triggered false Running = Drops
run_triggered trigger state = Stays

-- a post starts a run that may start
abbrev pub run_posted : Bool → RunState → RunChange
run_posted trigger state = if trigger then run_triggered true state else Stays

abbrev pub run_doing : RunChange → Opening → Turn RunAsked
run_doing change opening = doing (record { opening = opening; change = change })

-- what was done to the opening, of a run that stays
abbrev pub run_staying : Turn Opening → Turn RunAsked
run_staying turn = record { book = record { opening = turn.book; change = Stays }; reply = turn.reply }

-- More than two bits are refused. The bit of the other way says nothing.
abbrev pub run_set_trigger : ℕ → ℕ → RunState → Opening → Turn RunAsked
run_set_trigger bit bits state opening =
    if has_other_bits bits then run_staying (refused Inval opening)
    else run_doing (run_triggered (has_bit bit bits) state) (with_trigger (has_bit bit bits) opening)

-- by the bit of its way; what isn't of a run alone is asked of every opening
abbrev pub run_ask : ℕ → Request → RunState → Opening → Turn RunAsked
run_ask bit (SetTrigger bits) state opening = run_set_trigger bit bits state opening
run_ask bit Post state opening = run_doing (run_posted opening.trigger state) opening
run_ask bit Sync state opening = run_doing Stays opening
run_ask bit Halt state opening = run_doing Drops opening
run_ask bit request state opening = run_staying (openings.ask (is_in_setup state) bit request opening)
