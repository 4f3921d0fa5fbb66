-- Numbers of words that no command allows.
use Rattle.std.proofs.Common.{◌≡◌, ◌≢◌, ℕ, List, [], ◌∷◌, length, Err, refl}
use Rattle.pcm_script.specs.declared.fault.ScriptKind.TheVariants.{Count}
use Rattle.pcm_wave.specs.DataFiles.{DataFileSeen}
use Rattle.pcm_script.specs.Commands.{open_line, send_line, poke_line, read_line, ioctl_line, close_line}

-- an open has two arguments or five
pub open_line-count : (arguments : List (List ℕ)) → length arguments ≢ 2 → length arguments ≢ 5 → open_line arguments ≡ Err Count
unfolding open_line
open_line-count [] two five = refl
open_line-count (a ∷ []) two five = refl
open_line-count (a ∷ b ∷ []) two five = absurd (two refl)
open_line-count (a ∷ b ∷ c ∷ []) two five = refl
open_line-count (a ∷ b ∷ c ∷ d ∷ []) two five = refl
open_line-count (a ∷ b ∷ c ∷ d ∷ e ∷ []) two five = absurd (five refl)
open_line-count (a ∷ b ∷ c ∷ d ∷ e ∷ f ∷ more) two five = refl

pub send_line-count : (files : List DataFileSeen) (arguments : List (List ℕ)) → length arguments ≢ 4 → send_line files arguments ≡ Err Count
unfolding send_line
send_line-count files [] other = refl
send_line-count files (d ∷ []) other = refl
send_line-count files (d ∷ f ∷ []) other = refl
send_line-count files (d ∷ f ∷ o ∷ []) other = refl
send_line-count files (d ∷ f ∷ o ∷ l ∷ []) other = absurd (other refl)
send_line-count files (d ∷ f ∷ o ∷ l ∷ x ∷ more) other = refl

pub poke_line-count : (arguments : List (List ℕ)) → length arguments ≢ 3 → poke_line arguments ≡ Err Count
unfolding poke_line
poke_line-count [] other = refl
poke_line-count (d ∷ []) other = refl
poke_line-count (d ∷ o ∷ []) other = refl
poke_line-count (d ∷ o ∷ h ∷ []) other = absurd (other refl)
poke_line-count (d ∷ o ∷ h ∷ x ∷ more) other = refl

pub read_line-count : (arguments : List (List ℕ)) → length arguments ≢ 2 → read_line arguments ≡ Err Count
unfolding read_line
read_line-count [] other = refl
read_line-count (d ∷ []) other = refl
read_line-count (d ∷ l ∷ []) other = absurd (other refl)
read_line-count (d ∷ l ∷ x ∷ more) other = refl

-- a request has two arguments or three
pub ioctl_line-count : (arguments : List (List ℕ)) → length arguments ≢ 2 → length arguments ≢ 3 → ioctl_line arguments ≡ Err Count
unfolding ioctl_line
ioctl_line-count [] two three = refl
ioctl_line-count (d ∷ []) two three = refl
ioctl_line-count (d ∷ name ∷ []) two three = absurd (two refl)
ioctl_line-count (d ∷ name ∷ a ∷ []) two three = absurd (three refl)
ioctl_line-count (d ∷ name ∷ a ∷ x ∷ more) two three = refl

pub close_line-count : (arguments : List (List ℕ)) → length arguments ≢ 1 → close_line arguments ≡ Err Count
unfolding close_line
close_line-count [] other = refl
close_line-count (d ∷ []) other = absurd (other refl)
close_line-count (d ∷ x ∷ more) other = refl
