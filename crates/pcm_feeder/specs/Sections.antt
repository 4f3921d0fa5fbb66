-- An equaliser's sections, one after another, over whole lists of frames.
use Rattle.std.specs.Prelude.{ℕ, zero, suc, ℤ, pos, ◌+ℤ◌, ◌-ℤ◌, ◌*ℤ◌, List, [], ◌∷◌, ◌++◌, length, map, take, drop, slice_index_or}
use Rattle.std.specs.List.{range_with_len}
use Rattle.pcm_format.specs.Frames.{Frame}
use Rattle.pcm_feeder.specs.declared.section.Section.{Section}
use Rattle.pcm_feeder.specs.Filters.{Filters}
use Rattle.pcm_feeder.specs.Sums.{scaled_down}
use Rattle.pcm_feeder.specs.Streams.{Stream, stream_of, last_frames, moved_on}

-- What a section makes of a sample x, the two inputs before it and the two outputs before it: a sum
-- of products, scaled down and limited to 32 bits.
abbrev pub weighed : Section → ℤ → ℤ → ℤ → ℤ → ℤ → ℤ
weighed section x x1 x2 y1 y2 =
    scaled_down section.shift
    (section.b0 *ℤ x +ℤ section.b1 *ℤ x1 +ℤ section.b2 *ℤ x2 -ℤ section.a1 *ℤ y1 -ℤ section.a2 *ℤ y2)

-- the sample of a channel
abbrev pub sample_of : Frame → ℕ → ℤ
sample_of frame channel = slice_index_or frame channel (pos 0)

-- and of frames: each channel by itself
abbrev pub weighed_frame : Section → ℕ → Frame → Frame → Frame → Frame → Frame → Frame
weighed_frame section channels x x1 x2 y1 y2 =
    map (λ c. weighed section
    (sample_of x c) (sample_of x1 c) (sample_of x2 c) (sample_of y1 c) (sample_of y2 c))
    (range_with_len 0 channels)

-- output k of a section, from its inputs x and its outputs y so far
abbrev pub section_frame : Section → ℕ → Stream → Stream → ℤ → Frame
section_frame section channels x y k =
    weighed_frame section channels
    (x k) (x (k -ℤ pos 1)) (x (k -ℤ pos 2)) (y (k -ℤ pos 1)) (y (k -ℤ pos 2))

-- a section's outputs over the inputs x: those before, then the next ones
abbrev pub outputs_behind : Section → ℕ → List Frame → Stream → ℕ → List Frame
outputs_behind section channels before x zero = before
outputs_behind section channels before x (suc n) =
    let y = outputs_behind section channels before x n in
    y ++ section_frame section channels x (stream_of channels y) (pos (length y)) ∷ []

-- a section over a whole list of frames
abbrev pub through_section : ℕ → Section → List Frame → List Frame
through_section channels section x =
    outputs_behind section channels [] (stream_of channels x) (length x)

-- sections over a whole list of frames, one after another
abbrev pub through_sections : ℕ → List Section → List Frame → List Frame
through_sections channels [] x = x
through_sections channels (section ∷ rest) x =
    through_sections channels rest (through_section channels section x)

-- the section at a place, which is a silent one past the last
abbrev pub section_at : Filters → ℕ → Section
section_at tables place =
    slice_index_or tables.sections place
    (record { shift = 1; b0 = pos 0; b1 = pos 0; b2 = pos 0; a1 = pos 0; a2 = pos 0 })

-- the first `sections` sections
abbrev pub sections_of : Filters → ℕ → List Section
sections_of tables sections = map (section_at tables) (range_with_len 0 sections)

-- ---- what is kept

-- the last two frames of the input, and of what each section makes of it
abbrev pub past_of_sections : ℕ → List Section → List Frame → List Frame
past_of_sections channels [] x = last_frames channels 2 x
past_of_sections channels (section ∷ rest) x =
    last_frames channels 2 x
    ++ past_of_sections channels rest (through_section channels section x)

-- what a section makes of more frames, after the last two of its input and of its outputs
abbrev pub section_on : ℕ → Section → List Frame → List Frame → List Frame → List Frame
section_on channels section input output more =
    drop 2 (outputs_behind section channels output (stream_of channels (input ++ more)) (length more))

-- what sections make of more frames, after the last two of the input and of each one's outputs
abbrev pub sections_on : ℕ → List Section → List Frame → List Frame → List Frame
sections_on channels [] tail more = more
sections_on channels (section ∷ rest) tail more =
    sections_on channels rest (drop 2 tail)
    (section_on channels section (take 2 tail) (take 2 (drop 2 tail)) more)

-- and what is kept then
abbrev pub past_behind : ℕ → List Section → List Frame → List Frame → List Frame
past_behind channels [] tail more = moved_on tail more
past_behind channels (section ∷ rest) tail more =
    moved_on (take 2 tail) more
    ++ past_behind channels rest (drop 2 tail)
    (section_on channels section (take 2 tail) (take 2 (drop 2 tail)) more)
