-- What is so of the slots that are mixed, by number, where it is so of those that play and of the mapped ones.
use Rattle.std.proofs.Common.{ℕ, ◌-◌, Bool, true, false, cond}
use Rattle.std.specs.Prelude.{nat_lt}
use Rattle.pcm_desk.specs.Device.{DeviceSeen, play_slots}
use Rattle.pcm_sound.specs.Story.{by_number}

either : {X : Type 0} (P : X → Type 0) (b : Bool) (x y : X) → P x → P y → P (cond b x y)
either P true x y px py = px
either P false x y px py = py

pub by-number : {X : Type 0} (P : X → Type 0) (device : DeviceSeen) (play mapped : ℕ → X) (slot : ℕ) → ((at : ℕ) → P (play at)) → ((at : ℕ) → P (mapped at)) → P (by_number device play mapped slot)
by-number P device play mapped slot p m = either P (nat_lt slot (play_slots device)) (play slot) (mapped (slot - play_slots device)) (p slot) (m (slot - play_slots device))
