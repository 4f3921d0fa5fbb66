-- What code that may run out of memory returns.
use Rattle.std.specs.Prelude.{◌≡◌, Result, Ok, Err}
use Rattle.pcm_config.specs.declared.fault.ConfigFault.{ConfigFault}
use Rattle.pcm_config.specs.declared.fault.ConfigFault.TheVariants.{Refused, Memory}
use Rattle.pcm_config.specs.declared.fault.ConfigRefusal.{ConfigRefusal}

-- What was judged, or its refusal. Where memory ran out, nothing is said of it.
abbrev pub Reads : {A : Type 0} → Result A ConfigFault → Result A ConfigRefusal → Type 0
Reads (Ok value) read = read ≡ Ok value
Reads (Err (Refused refusal)) read = read ≡ Err refusal
Reads (Err Memory) read = Unit {0}
