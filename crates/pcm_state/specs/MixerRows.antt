-- What the mixer device holds, as a row of numbers.
use Rattle.std.specs.Prelude.{◌≡◌, ℕ, List, ◌∷◌, ◌++◌, IsTrue, length, map}
use Rattle.pcm_mixdev.specs.Mixers.{are_volumes, Levels}
use Rattle.pcm_oss.specs.declared.event.TheConstants.{SLOTS}
use Rattle.pcm_state.specs.OpeningRows.{flag}

-- the volume of all that is mixed, the volumes of the slots, and which of these are muted
abbrev pub mixer_row : Levels → List ℕ
mixer_row mixer = mixer.master ∷ mixer.volumes ++ map flag mixer.muted

-- each slot has a volume, and is muted or not
pub record FitsMixer (mixer : Levels) : Type 0 where
  pub volumes : length mixer.volumes ≡ SLOTS
  pub muted : length mixer.muted ≡ SLOTS
  pub valid : IsTrue (are_volumes mixer.master mixer.volumes)
