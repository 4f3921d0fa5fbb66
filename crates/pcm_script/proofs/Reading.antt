-- One line after another.
use Rattle.std.proofs.Common.{◌≡◌, ℕ, ◌+◌, ◌<◌, ◌≤◌, List, [], ◌∷◌, length, Option, Some, None, Result, Ok, Err, Bor, IfSome, MatchOption, refl, ap, ◌∙◌, arith}
use Rattle.std.proofs.lemmas.Bool.Decides.{nat_tests}
use Rattle.pcm_wave.specs.DataFiles.{DataFileSeen}
use Rattle.pcm_desk.specs.Device.{DeviceSeen}
use Rattle.pcm_script.specs.declared.fault.ScriptKind.{ScriptKind}
use Rattle.pcm_script.specs.declared.fault.ScriptKind.TheVariants.{Long}
use Rattle.pcm_script.specs.declared.fault.Refusal.{Refusal}
use Rattle.pcm_script.specs.declared.limits.TheConstants.{TEXT_BYTES}
use Rattle.pcm_script.specs.declared.script.Script.{Script}
use Rattle.pcm_script.specs.Steps.{◌>>=◌}
use Rattle.pcm_script.specs.Commands.{line_event}
use Rattle.pcm_script.specs.Collecting.{with_line}
use Rattle.pcm_script.specs.Lines.{at_line, collected, empty_script, lines_read, script_read}
use Rattle.pcm_script.specs.Words.{lines_of, words_of}

-- a script with the lines of a text from a number on
abbrev pub with_lines : DeviceSeen → List DataFileSeen → Script → ℕ → List (List ℕ) → Result Script Refusal
with_lines device files script number lines = collected device script number (lines_read device files lines)

-- the same of the lines that are left, in a text after those before, if there is one
abbrev pub with_rest : DeviceSeen → List DataFileSeen → Script → ℕ → Option (Bor (List ℕ)) → Result Script Refusal
with_rest device files script number None = with_lines device files script number []
with_rest device files script number (Some text) = with_lines device files script number (lines_of text.now)

-- how many lines are left at most
abbrev pub left_of : Option (Bor (List ℕ)) → ℕ
left_of None = 0
left_of (Some text) = length text.now + 1

pub left_of-less : (text : List ℕ) (behind : Option (Bor (List ℕ))) → IfSome behind (λ more. length more.now < length text) → left_of behind ≤ length text
left_of-less text None shorter = omega arith
left_of-less text (Some more) shorter = omega (arith, shorter)

-- the first line of a text, and what follows it
abbrev pub IsCut : List ℕ → List ℕ → Option (Bor (List ℕ)) → Type 0
IsCut text first behind = MatchOption behind (lines_of text ≡ first ∷ []) (λ more. lines_of text ≡ first ∷ lines_of more.now)

-- what a first line gives, and then the lines after it
then_rest : DeviceSeen → List DataFileSeen → ℕ → Option (Bor (List ℕ)) → Result Script ScriptKind → Result Script Refusal
then_rest device files number behind more = at_line number more >>= (λ script. with_rest device files script (number + 1) behind)

with_lines-cut : (device : DeviceSeen) (files : List DataFileSeen) (script : Script) (number : ℕ) (text first : List ℕ) (behind : Option (Bor (List ℕ)))
    → IsCut text first behind
    → with_lines device files script number (lines_of text)
    ≡ then_rest device files number behind (with_line device script (line_event device files (words_of first)))
unfolding collected then_rest
with_lines-cut device files script number text first None cut = rw cut refl
with_lines-cut device files script number text first (Some more) cut = rw cut refl

pub with_lines-more : (device : DeviceSeen) (files : List DataFileSeen) (script more : Script) (number : ℕ) (text first : List ℕ) (behind : Option (Bor (List ℕ)))
    → IsCut text first behind → with_line device script (line_event device files (words_of first)) ≡ Ok more
    → with_lines device files script number (lines_of text) ≡ with_rest device files more (number + 1) behind
unfolding then_rest
with_lines-more device files script more number text first behind cut read =
    with_lines-cut device files script number text first behind cut ∙ ap (then_rest device files number behind) read

pub with_lines-refused : (device : DeviceSeen) (files : List DataFileSeen) (script : Script) (number : ℕ) (kind : ScriptKind) (text first : List ℕ) (behind : Option (Bor (List ℕ)))
    → IsCut text first behind → with_line device script (line_event device files (words_of first)) ≡ Err kind
    → with_lines device files script number (lines_of text) ≡ Err (record { line = number; kind = kind })
unfolding then_rest
with_lines-refused device files script number kind text first behind cut read =
    with_lines-cut device files script number text first behind cut ∙ ap (then_rest device files number behind) read

pub with_rest-end : (device : DeviceSeen) (files : List DataFileSeen) (script : Script) (number : ℕ) → with_rest device files script number None ≡ Ok script
unfolding collected
with_rest-end device files script number = refl

-- a text that is too long is refused as a whole
pub script_read-long : (device : DeviceSeen) (files : List DataFileSeen) (text : List ℕ) → TEXT_BYTES < length text → script_read device files text ≡ Err (record { line = 0; kind = Long })
unfolding script_read
script_read-long device files text long = grind (arith, nat_tests)

-- a text that isn't too long is its lines
pub script_read-lines : (device : DeviceSeen) (files : List DataFileSeen) (text : List ℕ) → length text ≤ TEXT_BYTES
    → script_read device files text ≡ with_lines device files empty_script 1 (lines_of text)
unfolding script_read
script_read-lines device files text short = grind (arith, nat_tests)
