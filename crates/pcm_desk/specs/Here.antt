-- Where the mix and the device can be.
use Rattle.std.specs.Prelude.{ℕ, pos, ◌<◌, ◌^◌, ◌+ℤ◌, ◌≤ℤ◌}
use Rattle.pcm_desk.specs.declared.here.Here.{Here}

-- the most frames of the mix that are still to leave the device's ring
abbrev pub held_most : ℕ
held_most = 2 ^ 19

-- what the device has been given was mixed, and no more is held than a ring and a filter hold
pub record IsHere (here : Here) : Type 0 where
  pub past : here.passed ≤ℤ pos here.mixed
  pub held : pos here.mixed ≤ℤ (here.passed +ℤ pos held_most)
  pub count : here.mixed < 2 ^ 56
