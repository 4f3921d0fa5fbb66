-- The outputs of a stage over a whole stream.
use Rattle.std.specs.Prelude.{ℕ, ◌+◌, ◌-◌, ◌*◌, ◌/◌, ◌%◌, ℤ, pos, negsuc, ◌+ℤ◌, ◌-ℤ◌, ◌*ℤ◌, List, [], map, slice_index_or}
use Rattle.std.specs.List.{range_with_len}
use Rattle.std.specs.Simd.Lanes.{zip2}
use Rattle.pcm_num.specs.Floor.{floor_div}
use Rattle.pcm_rate.specs.declared.rate.Rate.{Rate}
use Rattle.pcm_rate.specs.Rates.{unchanged}
use Rattle.pcm_format.specs.Samples.{at_depth}
use Rattle.pcm_format.specs.Layouts.{channels_of}
use Rattle.pcm_format.specs.Frames.{Frame}
use Rattle.pcm_feeder.specs.declared.stage.Gain.{Gain}
use Rattle.pcm_feeder.specs.declared.table.Table.{Table}
use Rattle.pcm_feeder.specs.Filters.{Filters}
use Rattle.pcm_feeder.specs.declared.stage.Spec.{Spec}
use Rattle.pcm_feeder.specs.declared.stage.Spec.TheVariants.{Matrix, Hold, Linear, Poly, Volume, Depth, Eq}
use Rattle.pcm_feeder.specs.Layouts.{in_layout, at_gain}
use Rattle.pcm_feeder.specs.Sums.{sum_of, scaled_down}
use Rattle.pcm_feeder.specs.Streams.{Stream, silence, stream_of, frames_until}
use Rattle.pcm_feeder.specs.Sections.{sections_of, through_sections}

-- the channels that a stage takes
abbrev pub channels_in : Spec → ℕ
channels_in (Matrix from to) = channels_of from
channels_in (Hold src dst channels) = channels
channels_in (Linear src dst channels) = channels
channels_in (Poly src dst channels table taps) = channels
channels_in (Volume layout) = channels_of layout
channels_in (Depth bits channels) = channels
channels_in (Eq channels sections) = channels

-- the channels that a stage gives: a matrix has others, each other stage those that it takes
abbrev pub channels_out : Spec → ℕ
channels_out (Matrix from to) = channels_of to
channels_out spec = channels_in spec

-- the rate of a stage
abbrev pub rate_of : Spec → Rate
rate_of (Hold src dst channels) = record { src = src; dst = dst; lookahead = 0 }
rate_of (Linear src dst channels) = record { src = src; dst = dst; lookahead = 1 }
rate_of (Poly src dst channels table taps) = record { src = src; dst = dst; lookahead = taps / 2 }
rate_of _ = unchanged

-- how many frames of the past a stage keeps
abbrev pub history : Spec → ℕ
history (Hold src dst channels) = 1
history (Linear src dst channels) = 2
history (Poly src dst channels table taps) = taps
history (Eq channels sections) = 2 + 2 * sections
history _ = 0

-- a frame at fewer bits, rounded down
abbrev pub at_bits : ℕ → Frame → Frame
at_bits bits frame = map (at_depth bits) frame

-- the point f of dst parts along the line from one frame to the next
abbrev pub blended : ℕ → ℕ → Frame → Frame → Frame
blended dst f frame next = zip2 (λ a b. floor_div (a *ℤ pos (dst - f) +ℤ b *ℤ pos f) dst) frame next

-- the filter at a place, which is empty past the last one
abbrev pub table_at : Filters → ℕ → Table
table_at tables place =
    slice_index_or tables.list place
    (record { src = 0; dst = 0; phases = 1; taps = 2; shift = 1; coefs = [] })

-- coefficient j of a row
abbrev pub coef : Table → ℕ → ℕ → ℤ
coef table row j = slice_index_or table.coefs (row * table.taps + j) (pos 0)

-- a channel of the frames around a place, through one row of a filter
abbrev pub filtered : Table → ℕ → ℕ → Stream → ℕ → ℤ
filtered table taps row around channel =
    scaled_down table.shift (sum_of (map (λ j. coef table row j
    *ℤ slice_index_or (around (pos (j + 1) -ℤ pos (taps / 2))) channel (pos 0))
    (range_with_len 0 taps)))

-- What a converter gives f of dst parts past an input frame, from the frames around that one:
-- `around (pos 0)` is the frame itself and `around (pos 1)` the next.
abbrev pub Converter : Type 0
Converter = ℕ → Stream → Frame

-- a hold: the frame itself
abbrev pub held : Converter
held f around = around (pos 0)

-- a line: the point between the frame and the next
abbrev pub on_line : ℕ → Converter
on_line dst f around = blended dst f (around (pos 0)) (around (pos 1))

-- a filter: each channel through the row for f
abbrev pub filtered_frame : Table → ℕ → ℕ → ℕ → Converter
filtered_frame table taps channels dst f around =
    map (filtered table taps (f * table.phases / dst) around) (range_with_len 0 channels)

-- output k of a converter over a whole stream
abbrev pub converted : Converter → Rate → Stream → ℕ → Frame
converted converter rate x k =
    converter (k * rate.src % rate.dst) (λ a. x (pos (k * rate.src / rate.dst) +ℤ a))

-- output k of a stage over a whole stream
unfoldable pub conv : Spec → Filters → Gain → Stream → ℕ → Frame
conv (Matrix from to) tables gain x k = in_layout from to (x (pos k))
conv (Hold src dst channels) tables gain x k = converted held (rate_of (Hold src dst channels)) x k
conv (Linear src dst channels) tables gain x k =
    converted (on_line dst) (rate_of (Linear src dst channels)) x k
conv (Poly src dst channels table taps) tables gain x k =
    converted (filtered_frame (table_at tables table) taps channels dst)
    (rate_of (Poly src dst channels table taps)) x k
conv (Volume layout) tables gain x k = at_gain layout gain (x (pos k))
conv (Depth bits channels) tables gain x k = at_bits bits (x (pos k))
conv (Eq channels sections) tables gain x k =
    stream_of channels (through_sections channels (sections_of tables sections) (frames_until x (k + 1)))
    (pos k)

-- `count` outputs, from output `from` on
abbrev pub outputs : Spec → Filters → Gain → Stream → ℕ → ℕ → List Frame
outputs spec tables gain x from count = map (conv spec tables gain x) (range_with_len from count)

-- all outputs of a stage as a stream, silent before the first
abbrev pub all_outputs : Spec → Filters → Gain → Stream → Stream
all_outputs spec tables gain x (pos k) = conv spec tables gain x k
all_outputs spec tables gain x (negsuc _) = silence (channels_out spec)
