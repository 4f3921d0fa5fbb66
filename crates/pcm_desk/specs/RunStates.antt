-- What the rules read of the state of a channel that records, or of a mapped one.
use Rattle.std.specs.Prelude.{Bool, true, false}
use Rattle.pcm_desk.specs.declared.run_state.RunState.{RunState}
use Rattle.pcm_desk.specs.declared.run_state.RunState.TheVariants.{Free, Setup, Running}

-- no descriptor has the channel
abbrev pub is_unheld : RunState → Bool
is_unheld Free = true
is_unheld state = false

-- it is open, and not started
abbrev pub is_in_setup : RunState → Bool
is_in_setup Setup = true
is_in_setup state = false

-- it has started
abbrev pub is_running : RunState → Bool
is_running Running = true
is_running state = false
