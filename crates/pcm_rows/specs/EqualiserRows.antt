-- Sections of an equaliser, and what they make of a few frames.
use Rattle.std.specs.Prelude.{ℕ, ℤ, pos, negsuc, List, [], ◌∷◌, codes}
use Rattle.pcm_format.specs.declared.format.Format.TheVariants.{S32Le}
use Rattle.pcm_format.specs.declared.layout.Layout.TheVariants.{One}
use Rattle.pcm_format.specs.declared.settings.Settings.{Settings}
use Rattle.pcm_format.specs.Frames.{Frame}
use Rattle.pcm_feeder.specs.declared.section.Section.{Section}
use Rattle.pcm_feeder.specs.declared.stage.Spec.TheVariants.{Eq}
use Rattle.pcm_feeder.specs.Filters.{Filters, as_filters}
use Rattle.pcm_feeder.specs.Kept.{fresh}
use Rattle.pcm_feeder.specs.Layouts.{unity}
use Rattle.pcm_feeder.specs.Turns.{Turn, turn_of}
use Rattle.pcm_oss.specs.declared.event.Event.TheVariants.{Close, Intr, Open, Write}
use Rattle.pcm_oss.specs.declared.event.Way.TheVariants.{Play}
use Rattle.pcm_wave.specs.declared.pool.Source.TheVariants.{Inline}
use Rattle.pcm_desk.specs.Device.{DeviceSeen}
use Rattle.pcm_desk.specs.Usual.{usual_device}
use Rattle.pcm_script.specs.declared.script.Script.{Script}
use Rattle.pcm_rows.specs.Calls.{device_in, joined}
use Rattle.pcm_rows.specs.Stages.{made_with}

-- a section that counts in halves: the input, the one before it, and the output before
abbrev pub in_halves : ℤ → ℤ → ℤ → Section
in_halves b0 b1 a1 = record { shift = 1; b0 = b0; b1 = b1; b2 = pos 0; a1 = a1; a2 = pos 0 }

-- sections as those of a run
abbrev pub sections_alone : List Section → Filters
sections_alone sections = as_filters [] sections

-- the sum of all inputs so far
abbrev pub adding_up : Section
adding_up = in_halves (pos 2) (pos 0) (negsuc 1)

-- half of the input and of the output before
abbrev pub halving : Section
halving = in_halves (pos 1) (pos 0) (negsuc 0)

-- the input and half of the output before, and then each with the one before it
abbrev pub ringing_then_pairs : Filters
ringing_then_pairs = sections_alone (in_halves (pos 2) (pos 0) (negsuc 0) ∷ in_halves (pos 2) (pos 2) (pos 0) ∷ [])

-- twice the input, and then half of that
abbrev pub loud_then_half : Filters
loud_then_half = sections_alone (in_halves (pos 4) (pos 0) (pos 0) ∷ in_halves (pos 1) (pos 0) (pos 0) ∷ [])

-- half of the input, and then twice that
abbrev pub half_then_loud : Filters
half_then_loud = sections_alone (in_halves (pos 1) (pos 0) (pos 0) ∷ in_halves (pos 4) (pos 0) (pos 0) ∷ [])

-- what one section makes of frames of one channel, and what two make
abbrev pub by_one : Section → List Frame → ℕ → List Frame
by_one section frames count = made_with (sections_alone (section ∷ [])) (Eq 1 1) frames count

abbrev pub by_two : Filters → List Frame → ℕ → List Frame
by_two sections frames count = made_with sections (Eq 1 2) frames count

-- a feed of one frame to what was fed others
abbrev pub fed_on : Filters → List Frame → List Frame → Turn
fed_on sections frames next = turn_of (Eq 1 1) (turn_of (Eq 1 1) (fresh (Eq 1 1)) sections unity frames 2).kept sections unity next 1

-- ---- a client of one channel through a section

abbrev pub one_channel : Settings
one_channel = record { format = S32Le; layout = One; rate = 48000 }

-- a device of one channel of 32 bits, with a section
abbrev pub equalised : Section → DeviceSeen
equalised section = record (device_in one_channel usual_device) { device_filters = sections_alone (section ∷ []) }

-- three frames of one byte each
abbrev pub three_frames : ℕ → ℕ → ℕ → List ℕ
three_frames a b c = a ∷ 0 ∷ 0 ∷ 0 ∷ b ∷ 0 ∷ 0 ∷ 0 ∷ c ∷ 0 ∷ 0 ∷ 0 ∷ []

-- and then one frame of silence
abbrev pub three_heard : ℕ → ℕ → ℕ → List ℕ
three_heard a b c = a ∷ 0 ∷ 0 ∷ 0 ∷ b ∷ 0 ∷ 0 ∷ 0 ∷ c ∷ 0 ∷ 0 ∷ 0 ∷ 0 ∷ 0 ∷ 0 ∷ 0 ∷ []

abbrev pub equalised_script : List ℕ → Script
equalised_script bytes = record {
  events = Open 0 Play one_channel ∷ Write 0 Inline 0 12 ∷ Close 0 ∷ Intr 1024 ∷ Intr 4 ∷ [];
  inline_bytes = bytes;
  device_frames = 1028;
}

abbrev pub equalised_lines : List ℕ
equalised_lines = joined (codes "1: ok 0" ∷ codes "2: ok 12" ∷ codes "3: ok" ∷ codes "4: ok 1024" ∷ codes "5: ok 4" ∷ [])
