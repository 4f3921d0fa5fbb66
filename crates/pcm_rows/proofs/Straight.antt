-- A device that gets what is mixed as it is.
use Rattle.std.proofs.Common.{◌≡◌, ◌++◌, ◌≤◌, ◌+◌, ℕ, true, List, replicate, sym, ap, ◌∙◌, arith}
use Rattle.std.specs.List.{range_with_len}
use Rattle.std.proofs.lemmas.Simd.{map-map}
use Rattle.pcm_format.specs.Frames.{Frame}
use Rattle.pcm_plan.specs.Through.{recs}
use Rattle.pcm_desk.specs.Device.{DeviceSeen, device_settings, device_filters, full_frame, is_straight, mixed_for, parent_plan, ring_frames}
use Rattle.pcm_desk.proofs.Straight.{straight-count, straight-mixed}
use Rattle.pcm_sound.specs.DeviceList.{device_list, mix_at, silence_in}
use Rattle.pcm_sound.specs.Gains.{Faders}
use Rattle.pcm_sound.specs.Mix.{Table}
use Rattle.pcm_rows.specs.MixRows.{mix_behind_silence}

-- its frames are the silence of its ring and then those of the mix
pub device_list-straight : (device : DeviceSeen) (faders : Faders) (table : Table) (handed : ℕ) → is_straight device ≡ true
    → device_list device faders table handed ≡ mix_behind_silence device faders table handed
device_list-straight device faders table handed straight =
    let mix : ℕ → Frame = mix_at device faders table in
    let count : ℕ = mixed_for device handed in
    let silent : List Frame = replicate (ring_frames device) (silence_in (device_settings device)) in
    let enough : 0 + handed ≤ count = omega (arith, straight-count device handed straight) in
    ap (λ (made : List Frame). silent ++ made)
    (ap (λ (mixed : List Frame). recs (parent_plan device) (device_filters device) mixed 0 handed)
    (sym (map-map (full_frame device) mix (range_with_len 0 count)))
    ∙ straight-mixed device mix count 0 handed straight enough)
