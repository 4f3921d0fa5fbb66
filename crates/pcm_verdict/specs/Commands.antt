-- The forms of words after the program's name.
use Rattle.std.specs.Prelude.{ℕ, ◌&&◌, nat_le, if◌then◌else◌, List, [], ◌∷◌, Option, Some, None, codes}
use Rattle.std.specs.Str.{bytes_eq}
use Rattle.pcm_format.specs.declared.settings.Settings.{Settings}
use Rattle.pcm_format.specs.declared.settings.TheConstants.{RATE_LEAST, RATE_MOST}
use Rattle.pcm_format.specs.Formats.{format_named}
use Rattle.pcm_format.specs.Layouts.{layout_of}
use Rattle.pcm_wave.specs.Formats.{wave_format}
use Rattle.pcm_script.specs.Numbers.{decimal_in}

-- what the words after the program's name ask for
pub data Command : Type 0 where
  -- run a script into a device file: the names of both, and of a configuration
  RunScript : List ℕ → List ℕ → Option (List ℕ) → Command
  -- judge a script and all that it is read with
  CheckScript : List ℕ → Option (List ℕ) → Command
  -- convert a wave into another, with these settings
  ConvertWave : List ℕ → List ℕ → Settings → Command
  -- run the script that a number makes
  SoakRun : ℕ → Command

-- the next word, if this one is of its form
infixl 10 ◌>>=◌
abbrev pub ◌>>=◌ : {A B : Type 0} → Option A → (A → Option B) → Option B
None >>= next = None
Some value >>= next = next value

-- a name isn't empty
abbrev pub name_in : List ℕ → Option (List ℕ)
name_in [] = None
name_in (byte ∷ bytes) = Some (byte ∷ bytes)

-- the greatest number that makes a script
abbrev pub SEED_MOST : ℕ
SEED_MOST = 4294967295

-- frames per second, within the limits
abbrev pub rate_within : ℕ → Option ℕ
rate_within rate = if nat_le RATE_LEAST rate && nat_le rate RATE_MOST then Some rate else None

-- a number that makes a script: one of 32 bits
abbrev pub seed_within : ℕ → Option ℕ
seed_within number = if nat_le number SEED_MOST then Some number else None

-- the settings that three words ask for: a rate, a format that waves have, and a number of channels
unfoldable pub target_asked : List ℕ → List ℕ → List ℕ → Option Settings
target_asked r f c = do
  number ← decimal_in r
  rate ← rate_within number
  named ← format_named f
  format ← wave_format named
  channels ← decimal_in c
  layout ← layout_of channels
  Some (record { format = format; layout = layout; rate = rate })

-- the name of a configuration, which may be left out
abbrev pub config_named : List (List ℕ) → Option (Option (List ℕ))
config_named [] = Some None
config_named (c ∷ []) = do
  config ← name_in c
  Some (Some config)
config_named words = None

-- `run SCRIPT OUT` and `run SCRIPT OUT CONFIG`
unfoldable pub run_words : List (List ℕ) → Option Command
run_words (s ∷ o ∷ rest) = do
  script ← name_in s
  out ← name_in o
  config ← config_named rest
  Some (RunScript script out config)
run_words words = None

-- `check SCRIPT` and `check SCRIPT CONFIG`
unfoldable pub check_words : List (List ℕ) → Option Command
check_words (s ∷ rest) = do
  script ← name_in s
  config ← config_named rest
  Some (CheckScript script config)
check_words words = None

-- `convert IN OUT RATE FORMAT CHANNELS`
unfoldable pub convert_words : List (List ℕ) → Option Command
convert_words (i ∷ o ∷ r ∷ f ∷ c ∷ []) = do
  input ← name_in i
  out ← name_in o
  target ← target_asked r f c
  Some (ConvertWave input out target)
convert_words words = None

-- `soak N`
unfoldable pub soak_words : List (List ℕ) → Option Command
soak_words (n ∷ []) = do
  number ← decimal_in n
  seed ← seed_within number
  Some (SoakRun seed)
soak_words words = None

-- the command that words spell, if they match a form
unfoldable pub command_of : List (List ℕ) → Option Command
command_of [] = None
command_of (word ∷ words) =
    if bytes_eq word (codes "run") then run_words words
    else if bytes_eq word (codes "check") then check_words words
    else if bytes_eq word (codes "convert") then convert_words words
    else if bytes_eq word (codes "soak") then soak_words words
    else None
