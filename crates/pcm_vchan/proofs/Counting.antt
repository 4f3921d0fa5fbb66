-- The counts of frames mixed and given to the device have room for an interrupt where one of them has.
use Rattle.std.proofs.Common.{◌≡◌, ◌⊎◌, ℕ, pos, ◌+◌, ◌*◌, ◌^◌, ◌<◌, ◌≤◌, inl, inr, arith}
use Rattle.std.specs.Prelude.{◌≤ℤ◌}
use Rattle.std.proofs.lemmas.Int.{ints}
use Rattle.pcm_chain.proofs.Counting.{need-near, rate-near}
use Rattle.pcm_desk.specs.Channels.{mixed_by}
use Rattle.pcm_desk.specs.Device.{DeviceSeen, IsDevice, mix_frames, mixed_for, parent_plan, parent_rate, passed_for, ring_frames}
use Rattle.pcm_desk.proofs.Passing.{handed-most, past-is}
use Rattle.pcm_desk.proofs.Ratios.{mix-within, mixed-behind, parent-plan-fits}

-- an interrupt of n frames, after `mixed` frames of the mix and `handed` of the device
pub record AreCounted (device : DeviceSeen) (mixed handed n : ℕ) : Type 0 where
  pub handed_fit : handed + n < 2 ^ 64
  pub mixed_fit : mixed + mixed_by device handed n < 2 ^ 64
  pub passed_near : passed_for device (handed + n) ≤ℤ pos (2 ^ 62)

pub counted : (device : DeviceSeen) (mixed handed n : ℕ) → IsDevice device → 0 < n → n ≤ ring_frames device → mix_frames device ≤ 2 ^ 18 → ring_frames device ≤ 2 ^ 18
    → mixed ≡ mixed_for device handed → (mixed < 2 ^ 56) ⊎ (handed + n < 2 ^ 56) → AreCounted device mixed handed n
counted device mixed handed n d some within few ring level room = record {
  handed_fit = elim room [
    | inl mixes ↦ omega (arith, mixes, level, handed-most device handed d, within, ring)
    | inr hands ↦ omega (arith, hands)
  ];
  mixed_fit = omega (arith, most);
  passed_near = omega (arith, ints, past-is device (handed + n) d (omega (arith, some, within)), behind, level, most);
}
  where
    behind : mixed_for device handed + mixed_by device handed n ≡ mixed_for device (handed + n)
    behind = mixed-behind device handed n d

    near : mixed_for device (handed + n) ≤ 48 * (handed + n) + 33
    near = need-near (parent_rate device) (handed + n) (rate-near (parent_plan device) (parent-plan-fits device d))

    most : mixed + mixed_by device handed n ≤ 2 ^ 62
    most = elim room [
      | inl mixes ↦ omega (arith, mixes, mix-within device handed n d within, few)
      | inr hands ↦ omega (arith, hands, near, behind, level)
    ]
