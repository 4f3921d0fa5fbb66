-- The runs of a slot lie apart where no position has two of their pieces or two of their spans. Then a sum of what all runs give is one of
-- what each slot gives.
use Rattle.std.specs.Prelude.{ℕ, ◌≤◌, List, length, map, fold}
use Rattle.std.specs.List.{filter, flat_map, range_with_len}
use Rattle.pcm_format.specs.Formats.{bits_of}
use Rattle.pcm_format.specs.Frames.{Frame}
use Rattle.pcm_feeder.specs.declared.stage.Gain.{Gain}
use Rattle.pcm_feeder.specs.Layouts.{at_gain}
use Rattle.pcm_mix.specs.Mix.{mixed}
use Rattle.pcm_desk.specs.Device.{DeviceSeen, mix_settings, mixed_slots}
use Rattle.pcm_sound.specs.Given.{given_frame}
use Rattle.pcm_sound.specs.Gains.{Faders, last_gain, slot_gain_at}
use Rattle.pcm_sound.specs.Runs.{Piece, Run, covers, run_frames}
use Rattle.pcm_sound.specs.Story.{Story, mixed_gains, mixed_runs}
use Rattle.pcm_sound.specs.DeviceList.{silence_in}
use Rattle.pcm_sound.specs.Plain.{is_within, place_of, span_frame, spans_of}

-- the pieces of all runs of a slot
abbrev pub all_pieces : List Run → List Piece
all_pieces runs = flat_map (λ (run : Run). run.pieces) runs

-- of all pieces of these runs at most one covers a position, and of all their spans at most one has it
pub record AreApart (device : DeviceSeen) (mixed : ℕ) (runs : List Run) : Type 0 where
  pub pieces : (position : ℕ) → length (filter (covers position) (all_pieces runs)) ≤ 1
  pub spans : (position : ℕ) → length (filter (is_within position) (spans_of device mixed runs)) ≤ 1

-- the frame of each piece of a run that covers a position, with the gain there
abbrev pub covering_frames : DeviceSeen → Gain → ℕ → Run → List Frame
covering_frames device gain position run =
    map (λ (piece : Piece). given_frame device run.settings (run_frames run) (place_of position piece) gain) (filter (covers position) run.pieces)

-- what all runs of a slot of a story give at a position by their pieces
abbrev pub all_by_pieces : DeviceSeen → Story → ℕ → ℕ → List Frame
all_by_pieces device story slot position =
    flat_map (covering_frames device (last_gain (mixed_gains device story slot) position) position) (mixed_runs device story slot)

-- and by their spans
abbrev pub all_by_spans : DeviceSeen → Story → ℕ → ℕ → List Frame
all_by_spans device story slot position =
    map (span_frame device (last_gain (mixed_gains device story slot) position) position) (filter (is_within position) (spans_of device story.desk.mixed (mixed_runs device story slot)))

-- the sum at a position of all frames that slots give there, each at the gain of its slot's fader, limited after each addition
abbrev pub sum_of_all : DeviceSeen → Faders → (ℕ → ℕ → List Frame) → ℕ → Frame
sum_of_all device faders given position =
    fold (λ sum slot. fold (mixed (bits_of (mix_settings device).format)) sum (map (at_gain (mix_settings device).layout (slot_gain_at faders slot position)) (given slot position)))
    (silence_in (mix_settings device)) (range_with_len 0 (mixed_slots device))
