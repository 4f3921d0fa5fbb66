-- What code that may run out of memory returns.
use Rattle.std.specs.Prelude.{◌≡◌, Result, Ok, Err}
use Rattle.pcm_script.specs.declared.fault.ScriptKind.{ScriptKind}
use Rattle.pcm_script.specs.declared.fault.Refusal.{Refusal}
use Rattle.pcm_script.specs.declared.fault.LineFault.{LineFault}
use Rattle.pcm_script.specs.declared.fault.LineFault.TheVariants.{Refused, Memory}
use Rattle.pcm_script.specs.declared.fault.ScriptFault.{ScriptFault}
use Rattle.pcm_script.specs.declared.fault.ScriptFault.TheVariants.{Refused as TextRefused, Memory as TextMemory}
use Rattle.pcm_script.specs.declared.script.Script.{Script}

-- A value that came of this judgement, or its refusal. Where memory ran out, nothing is said of it.
abbrev pub Gives : {A B : Type 0} → (A → B) → Result A LineFault → Result B ScriptKind → Type 0
Gives shown (Ok value) judged = judged ≡ Ok (shown value)
Gives shown (Err (Refused kind)) judged = judged ≡ Err kind
Gives shown (Err Memory) judged = Unit {0}

-- the same of a value that is left by a call
abbrev pub Leaves : {A B : Type 0} → B → Result A LineFault → Result B ScriptKind → Type 0
Leaves value answer judged = Gives (λ _. value) answer judged

-- what a line asks for, as it was judged
abbrev pub Asks : {A : Type 0} → Result A LineFault → Result A ScriptKind → Type 0
Asks answer judged = Gives (λ asked. asked) answer judged

-- The script that a text is, or its refusal. Where memory ran out, nothing is said of the text.
abbrev pub ReadsScript : Result Script ScriptFault → Result Script Refusal → Type 0
ReadsScript (Ok script) read = read ≡ Ok script
ReadsScript (Err (TextRefused refusal)) read = read ≡ Err refusal
ReadsScript (Err TextMemory) read = Unit {0}
