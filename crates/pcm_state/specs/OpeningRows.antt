-- What is kept of an opening, as a row of numbers.
use Rattle.std.specs.Prelude.{◌<◌, ◌^◌, ℕ, Bool, true, false, List, [], ◌∷◌}
use Rattle.pcm_format.specs.Formats.{code_of}
use Rattle.pcm_format.specs.Layouts.{channels_of}
use Rattle.pcm_desk.specs.declared.opening.Opening.{Opening}
use Rattle.pcm_state.specs.Numbers.{IsNumber}

-- a number of 32 bits
abbrev pub IsWord : ℕ → Type 0
IsWord number = number < 2 ^ 32

-- a flag as a number
abbrev pub flag : Bool → ℕ
flag false = 0
flag true = 1

-- the row of an opening
abbrev pub opening_row : Opening → List ℕ
opening_row opening =
    code_of opening.settings.format ∷ opening.settings.rate ∷ channels_of opening.settings.layout
    ∷ opening.fragments.count ∷ opening.fragments.log ∷ flag opening.trigger ∷ opening.told ∷ []

-- each number of an opening has as many bits as its type keeps
pub record FitsOpening (opening : Opening) : Type 0 where
  pub rate : IsWord opening.settings.rate
  pub count : IsWord opening.fragments.count
  pub log : IsWord opening.fragments.log
  pub told : IsNumber opening.told
