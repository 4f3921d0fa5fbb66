-- Filters, and plans that choose between them.
use Rattle.std.specs.Prelude.{ℕ, ℤ, pos, negsuc, List, [], ◌∷◌, ◌++◌, replicate}
use Rattle.pcm_format.specs.declared.layout.Layout.TheVariants.{One, Two}
use Rattle.pcm_format.specs.Frames.{Frame}
use Rattle.pcm_feeder.specs.declared.stage.Spec.{Spec}
use Rattle.pcm_feeder.specs.declared.stage.Spec.TheVariants.{Poly}
use Rattle.pcm_feeder.specs.declared.table.Table.{Table}
use Rattle.pcm_feeder.specs.Filters.{Filters, as_filters}
use Rattle.pcm_feeder.specs.Kept.{fresh}
use Rattle.pcm_feeder.specs.Layouts.{unity}
use Rattle.pcm_feeder.specs.Turns.{Turn, turn_of}
use Rattle.pcm_plan.specs.Plans.{PlanSeen, plan_play}
use Rattle.pcm_rows.specs.PlanRows.{sixteen_bits}
use Rattle.pcm_rows.specs.Stages.{made_with, levels, mono}

-- one filter for any rates, with its rows one after another
abbrev pub one_filter : ℕ → ℕ → ℕ → List ℤ → Filters
one_filter phases taps shift coefs =
    as_filters (record { src = 0; dst = 0; phases = phases; taps = taps; shift = shift; coefs = coefs } ∷ []) []

-- three phases of two taps for a tripled rate, coefficients in quarters
abbrev pub three_rows : Filters
three_rows = one_filter 3 2 2 (pos 4 ∷ pos 0 ∷ pos 3 ∷ pos 1 ∷ pos 1 ∷ pos 3 ∷ [])

-- a frame and the next one, added
abbrev pub both_added : Filters
both_added = one_filter 1 2 1 (pos 2 ∷ pos 2 ∷ [])

-- the frame before, the frame itself and the next two, once, twice, three and four times
abbrev pub four_taps : Filters
four_taps = one_filter 1 4 1 (pos 2 ∷ pos 4 ∷ pos 6 ∷ pos 8 ∷ [])

-- 64 taps of which only that of the frame itself counts
abbrev pub sixty_four_taps : Filters
sixty_four_taps = one_filter 1 64 1 (replicate 31 (pos 0) ++ pos 2 ∷ replicate 32 (pos 0))

-- the first feed of a stage by filters, at a gain of one
abbrev pub first_feed_by : Filters → Spec → List Frame → ℕ → Turn
first_feed_by tables spec frames want = turn_of spec (fresh spec) tables unity frames want

-- twice the rate by the first filter, with `taps` taps
abbrev pub doubling : ℕ → ℕ → Spec
doubling channels taps = Poly 24000 48000 channels 0 taps

-- three times the rate, and four thirds of it, by the first filter of two taps
abbrev pub tripling : Spec
tripling = Poly 16000 48000 1 0 2

abbrev pub by_four_thirds : Spec
by_four_thirds = Poly 24000 32000 1 0 2

-- 5 and -6, and what the three rows make of them
abbrev pub five_and_six : List Frame
five_and_six = mono (pos 5 ∷ negsuc 5 ∷ [])

abbrev pub five_and_six_tripled : List Frame
five_and_six_tripled = mono (pos 5 ∷ pos 2 ∷ negsuc 2 ∷ negsuc 5 ∷ negsuc 3 ∷ negsuc 0 ∷ [])

-- the four sums at twice the rate that two frames make
abbrev pub sums_of : ℤ → ℤ → List Frame
sums_of first second = made_with both_added (doubling 1 2) (mono (first ∷ second ∷ [])) 4

-- 1, 10 and 100
abbrev pub tens : List Frame
tens = levels (1 ∷ 10 ∷ 100 ∷ [])

-- two frames of two channels, and the same with the mean of each and the next after it
abbrev pub two_sided : List Frame
two_sided = (pos 10 ∷ negsuc 2 ∷ []) ∷ (pos 20 ∷ pos 4 ∷ []) ∷ []

abbrev pub two_sided_doubled : List Frame
two_sided_doubled =
    (pos 10 ∷ negsuc 2 ∷ []) ∷ (pos 15 ∷ pos 1 ∷ []) ∷ (pos 20 ∷ pos 4 ∷ []) ∷ (pos 10 ∷ pos 2 ∷ []) ∷ []

-- a filter of zeros for two rates, with `taps` taps
abbrev pub zeros_for : ℕ → ℕ → ℕ → Table
zeros_for src dst taps = record { src = src; dst = dst; phases = 1; taps = taps; shift = 1; coefs = replicate taps (pos 0) }

-- one for half the rate, one for any rates, and two for twice the rate
abbrev pub by_rates : Filters
by_rates = as_filters (zeros_for 48000 24000 2 ∷ zeros_for 0 0 2 ∷ zeros_for 24000 48000 4 ∷ zeros_for 24000 48000 6 ∷ []) []

-- one for half the rate alone
abbrev pub only_back : Filters
only_back = as_filters (zeros_for 48000 24000 2 ∷ []) []

-- one channel at 16000 to two at 48000, by a filter of three rows
abbrev pub tripling_plan : PlanSeen
tripling_plan = plan_play three_rows 2 (sixteen_bits One 16000) (sixteen_bits Two 48000)

-- 5 and -6 in steps of 65536, and what comes of them at 16 bits on both sides
abbrev pub high_five_and_six : List Frame
high_five_and_six = mono (pos 327680 ∷ negsuc 393215 ∷ [])

abbrev pub five_and_six_played : List Frame
five_and_six_played =
    (pos 5 ∷ pos 5 ∷ []) ∷ (pos 2 ∷ pos 2 ∷ []) ∷ (negsuc 3 ∷ negsuc 3 ∷ [])
    ∷ (negsuc 5 ∷ negsuc 5 ∷ []) ∷ (negsuc 4 ∷ negsuc 4 ∷ []) ∷ (negsuc 1 ∷ negsuc 1 ∷ []) ∷ []
