-- Blocks of the mix at the gains of the mixer device.
use Rattle.std.proofs.Common.{◌≡◌, ℕ, ◌+◌, ◌≤◌, sym, ap, ◌∙◌, arith, add-zero}
use Rattle.std.specs.Prelude.{IfSome, option_map}
use Rattle.std.specs.List.{range_with_len, flat_map}
use Rattle.pcm_format.specs.declared.layout.Layout.{Layout}
use Rattle.pcm_format.specs.Formats.{bits_of}
use Rattle.pcm_format.specs.Frames.{Frame}
use Rattle.pcm_format.proofs.Ranges.{flat_map-range-same, flat_map-range-shift}
use Rattle.pcm_oss.specs.declared.event.Event.{Event}
use Rattle.pcm_oss.specs.declared.event.Event.TheVariants.{Intr}
use Rattle.pcm_wave.specs.declared.pool.Pool.{Pool}
use Rattle.pcm_feeder.specs.declared.stage.Gain.{Gain}
use Rattle.pcm_feeder.specs.Layouts.{at_gain}
use Rattle.pcm_feeder.specs.Fades.{faded}
use Rattle.pcm_mixdev.specs.Mixers.{Levels, master_gain, slot_gain}
use Rattle.pcm_feeder.proofs.FadedFrames.{faded-joined}
use Rattle.pcm_desk.specs.Device.{DeviceSeen, mix_settings, mixed_slots}
use Rattle.pcm_desk.specs.Desk.{after}
use Rattle.pcm_sound.specs.Story.{Story, told}
use Rattle.pcm_sound.specs.Mix.{Table}
use Rattle.pcm_sound.specs.DeviceList.{faded_table, mix_at, silence_in, sum_at}
use Rattle.pcm_sound.specs.Valid.{StoryIsValid}
use Rattle.pcm_sound.proofs.DeviceLists.{IsMixedFrame, faded-frame, mix_of-frame, mix_of-same}
use Rattle.pcm_sound.proofs.Stories.{master-faded, slots-faded}

-- a table with each slot at the gain that a mixer gives it
abbrev pub mixer_table : DeviceSeen → Levels → Table → Table
mixer_table device mixer table slot position = option_map (at_gain (mix_settings device).layout (slot_gain mixer slot)) (table slot position)

-- it gives frames of the mix where the table does
pub mixer_table-frames : (device : DeviceSeen) (mixer : Levels) (table : Table) → ((slot position : ℕ) → IfSome (table slot position) (IsMixedFrame device)) → (slot position : ℕ) → IfSome (mixer_table device mixer table slot position) (IsMixedFrame device)
mixer_table-frames device mixer table g slot position = faded-frame device (slot_gain mixer slot) (table slot position) (g slot position)

-- from the next frame on the faders are at the gains that the mixer device has after an event
pub mix_at-now : (device : DeviceSeen) (pool : Pool) (story : Story) (event : Event) (table : Table) (position : ℕ) → StoryIsValid device story → story.desk.mixed ≤ position
    → let mixer : Levels = (after device story.desk event).desk.mixer in
    mix_at device (told device pool story event).faders table position ≡ at_gain (mix_settings device).layout (master_gain mixer) (sum_at device (mixer_table device mixer table) position)
mix_at-now device pool story event table position v later =
    let new : Story = told device pool story event in
    let mixer : Levels = (after device story.desk event).desk.mixer in
    let layout : Layout = (mix_settings device).layout in
    ap (λ (gain : Gain). at_gain layout gain (sum_at device (faded_table device new.faders table) position)) (master-faded device pool story event v position later)
    ∙ ap (at_gain layout (master_gain mixer))
    (mix_of-same (bits_of (mix_settings device).format) (silence_in (mix_settings device)) (faded_table device new.faders table) (mixer_table device mixer table) (mixed_slots device) position
    (λ slot. ap (λ (gain : Gain). option_map (at_gain layout gain) (table slot position)) (slots-faded device pool story event v slot position later)))

-- So the sums of the positions of an interrupt, joined and at the gain of all that is mixed, are the mix of these positions.
pub sums-faded : (device : DeviceSeen) (pool : Pool) (story : Story) (n count : ℕ) (table : Table) → StoryIsValid device story → ((slot position : ℕ) → IfSome (table slot position) (IsMixedFrame device))
    → let mixer : Levels = story.desk.mixer in
    faded (mix_settings device).layout (master_gain mixer) (flat_map (λ k. sum_at device (mixer_table device mixer table) (story.desk.mixed + k)) (range_with_len 0 count))
    ≡ flat_map (mix_at device (told device pool story (Intr n)).faders table) (range_with_len story.desk.mixed count)
sums-faded device pool story n count table v g =
    let mixer : Levels = story.desk.mixer in
    let position : ℕ = story.desk.mixed in
    let layout : Layout = (mix_settings device).layout in
    let sum : ℕ → Frame = λ k. sum_at device (mixer_table device mixer table) (position + k) in
    let mix : ℕ → Frame = mix_at device (told device pool story (Intr n)).faders table in
    faded-joined layout (master_gain mixer) sum 0 count
    (λ k l. mix_of-frame device (bits_of (mix_settings device).format) (mixer_table device mixer table) (mixed_slots device) (position + (0 + k))
    (λ slot. mixer_table-frames device mixer table g slot (position + (0 + k))))
    ∙ flat_map-range-same (λ k. at_gain layout (master_gain mixer) (sum k)) (λ k. mix (position + k)) 0 count (λ k l. sym (mix_at-now device pool story (Intr n) table (position + (0 + k)) v (omega arith)))
    ∙ flat_map-range-shift mix position 0 count
    ∙ ap (λ from. flat_map mix (range_with_len from count)) (add-zero position)
