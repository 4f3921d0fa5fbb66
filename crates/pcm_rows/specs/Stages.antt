-- Stages of a chain over streams of one channel, and what comes out.
use Rattle.std.specs.Prelude.{ℕ, ℤ, pos, negsuc, List, [], ◌∷◌, flat_map, map}
use Rattle.pcm_format.specs.Frames.{Frame}
use Rattle.pcm_feeder.specs.declared.stage.Gain.{Gain}
use Rattle.pcm_feeder.specs.declared.stage.Spec.{Spec}
use Rattle.pcm_feeder.specs.declared.stage.Spec.TheVariants.{Hold, Linear}
use Rattle.pcm_feeder.specs.Filters.{Filters, as_filters, no_filters}
use Rattle.pcm_feeder.specs.Layouts.{unity}
use Rattle.pcm_feeder.specs.Kept.{fresh}
use Rattle.pcm_feeder.specs.Stages.{channels_in, outputs}
use Rattle.pcm_feeder.specs.Streams.{stream_of}
use Rattle.pcm_feeder.specs.Turns.{Turn, turn_of}

-- frames of one channel
abbrev pub mono : List ℤ → List Frame
mono samples = map (λ sample. sample ∷ []) samples

-- frames of one channel, none of them below zero
abbrev pub levels : List ℕ → List Frame
levels numbers = mono (map pos numbers)

-- frames of two channels with the same number in both
abbrev pub in_both : List ℕ → List Frame
in_both numbers = map (λ number. pos number ∷ pos number ∷ []) numbers

-- frames of one channel, each of them twice
abbrev pub twice_each : List ℤ → List Frame
twice_each samples = flat_map (λ sample. (sample ∷ []) ∷ (sample ∷ []) ∷ []) samples

-- half as loud on the right side
abbrev pub half_right : Gain
half_right = record { left = 65536; right = 32768 }

-- two phases of two taps for a doubled rate, coefficients in halves
abbrev pub two_taps : Filters
two_taps = as_filters (record { src = 0; dst = 0; phases = 2; taps = 2; shift = 1; coefs = pos 2 ∷ pos 0 ∷ pos 1 ∷ pos 1 ∷ [] } ∷ []) []

-- the first outputs of a stage over a list of frames
abbrev pub first_outputs : Spec → Filters → Gain → List Frame → ℕ → List Frame
first_outputs spec tables gain frames count = outputs spec tables gain (stream_of (channels_in spec) frames) 0 count

-- those at a gain of one, without a filter
abbrev pub made_by : Spec → List Frame → ℕ → List Frame
made_by spec frames count = first_outputs spec no_filters unity frames count

-- those at a gain of one, by filters
abbrev pub made_with : Filters → Spec → List Frame → ℕ → List Frame
made_with tables spec frames count = first_outputs spec tables unity frames count

-- what a stage without a rate makes of one frame
abbrev pub made_of_one : Spec → Gain → Frame → List Frame
made_of_one spec gain frame = first_outputs spec no_filters gain (frame ∷ []) 1

-- one channel at a rate, brought to 48000 by lines, or by a hold
abbrev pub line_from : ℕ → Spec
line_from rate = Linear rate 48000 1

abbrev pub hold_from : ℕ → Spec
hold_from rate = Hold rate 48000 1

-- samples at 44100, and what lines make of them at 48000
abbrev pub up_and_down : List Frame
up_and_down = mono (pos 0 ∷ pos 480 ∷ negsuc 480 ∷ pos 160 ∷ [])

abbrev pub up_and_down_drawn : List Frame
up_and_down_drawn = mono (pos 0 ∷ pos 441 ∷ negsuc 324 ∷ pos 3 ∷ pos 52 ∷ [])

-- -3 and 4, and the same with the mean of each and the next after it
abbrev pub rise : List Frame
rise = mono (negsuc 2 ∷ pos 4 ∷ [])

abbrev pub rise_filtered : List Frame
rise_filtered = mono (negsuc 2 ∷ pos 1 ∷ pos 4 ∷ pos 2 ∷ [])

-- 65535, -65536 and -1, and what is left of them at 16 bits
abbrev pub fine_steps : List Frame
fine_steps = mono (pos 65535 ∷ negsuc 65535 ∷ negsuc 0 ∷ [])

abbrev pub fine_steps_cut : List Frame
fine_steps_cut = mono (pos 0 ∷ negsuc 0 ∷ negsuc 0 ∷ [])

-- 100, 200, 300 and 400 of 16 bits at the front, the centre and the low frequency effects, one at the back left
abbrev pub six_samples : Frame
six_samples = pos 6553600 ∷ pos 13107200 ∷ pos 19660800 ∷ pos 26214400 ∷ pos 65536 ∷ pos 0 ∷ []

-- the first feed of a stage, at a gain of one
abbrev pub first_feed : Spec → List Frame → ℕ → Turn
first_feed spec frames want = turn_of spec (fresh spec) no_filters unity frames want
