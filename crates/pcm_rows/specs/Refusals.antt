-- Lines that are refused, and a device with a ring as large as all that a device may get.
use Rattle.std.specs.Prelude.{ℕ, [], ◌∷◌, Result, Err}
use Rattle.pcm_oss.specs.declared.event.Event.TheVariants.{Open, Intr}
use Rattle.pcm_oss.specs.declared.event.Way.TheVariants.{Play}
use Rattle.pcm_format.specs.declared.format.Format.TheVariants.{U32Be}
use Rattle.pcm_format.specs.declared.layout.Layout.TheVariants.{Eight}
use Rattle.pcm_format.specs.declared.settings.Settings.{Settings}
use Rattle.pcm_desk.specs.Device.{DeviceSeen}
use Rattle.pcm_desk.specs.Usual.{usual_device}
use Rattle.pcm_script.specs.declared.fault.ScriptKind.{ScriptKind}
use Rattle.pcm_script.specs.declared.script.Script.{Script}
use Rattle.pcm_verdict.specs.Faults.{Fault, BadScript}

-- a line that is refused
abbrev pub refused_at : ℕ → ScriptKind → Result Script Fault
refused_at line kind = Err (BadScript (record { line = line; kind = kind }))

-- an open alone
abbrev pub open_script : Settings → Script
open_script settings = record { events = Open 0 Play settings ∷ []; inline_bytes = []; device_frames = 0 }

-- eight channels of 32 bits
abbrev pub eight_at : ℕ → Settings
eight_at rate = record { format = U32Be; layout = Eight; rate = rate }

-- a ring of 2 ^ 26 + 1 frames of four bytes; the device gets 2 ^ 28 bytes at most
abbrev pub large_device : DeviceSeen
large_device = record usual_device { ring_frames = 67108865 }

abbrev pub largest_script : Script
largest_script = record { events = Intr 67108864 ∷ []; inline_bytes = []; device_frames = 67108864 }
