-- A stage without a change of rate turns each frame by itself.
use Rattle.std.proofs.Common.{◌≡◌, ◌+◌, ◌*◌, ◌/◌, ◌%◌, min, ℕ, zero, suc, ℤ, pos, ◌+ℤ◌, ◌-ℤ◌, List, [], length, map, take, Some, refl, ap, ◌∙◌, arith}
use Rattle.std.proofs.lemmas.Int.{ints}
use Rattle.pcm_format.specs.declared.layout.Layout.{Layout}
use Rattle.pcm_format.specs.Frames.{Frame}
use Rattle.pcm_feeder.specs.declared.stage.Gain.{Gain}
use Rattle.pcm_feeder.specs.declared.stage.Spec.{Spec}
use Rattle.pcm_feeder.specs.declared.stage.Spec.TheVariants.{Matrix, Volume, Depth}
use Rattle.pcm_feeder.specs.Filters.{Filters}
use Rattle.pcm_feeder.specs.Layouts.{in_layout, at_gain}
use Rattle.pcm_rate.specs.Rates.{unchanged}
use Rattle.pcm_feeder.specs.Streams.{Stream, frames_of}
use Rattle.pcm_feeder.specs.Laws.{FeedsMapFrames}
use Rattle.pcm_feeder.specs.Stages.{channels_in, conv, at_bits}
use Rattle.pcm_feeder.specs.Kept.{Kept, fresh}
use Rattle.pcm_feeder.specs.Turns.{reach, eaten_by, given_by, Turn, turn, turn_of, fed, MapsFrames}
use Rattle.pcm_feeder.proofs.Turns.{natural-is, turn-fitted}

-- ---- outputs over a whole stream

pub conv-matrix : (from to : Layout) (tables : Filters) (gain : Gain) (x : Stream) (k : ℕ) → conv (Matrix from to) tables gain x k ≡ in_layout from to (x (pos k))
unfolding conv
conv-matrix from to tables gain x k = refl

pub conv-volume : (layout : Layout) (tables : Filters) (gain : Gain) (x : Stream) (k : ℕ) → conv (Volume layout) tables gain x k ≡ at_gain layout gain (x (pos k))
unfolding conv
conv-volume layout tables gain x k = refl

pub conv-depth : (bits channels : ℕ) (tables : Filters) (gain : Gain) (x : Stream) (k : ℕ) → conv (Depth bits channels) tables gain x k ≡ at_bits bits (x (pos k))
unfolding conv
conv-depth bits channels tables gain x k = refl

-- ---- feeds

-- as many frames are eaten as are wanted, or all
pub eaten-unrated : (o want : ℕ) → eaten_by unchanged 0 (pos 0) o want ≡ min want o
eaten-unrated o zero = omega arith
eaten-unrated o (suc j) = omega (arith, natural-is (pos (reach unchanged 0 (suc j)) -ℤ pos 0) (suc j) 0 (omega (arith, ints)))

-- and as many are given
pub given-unrated : (o want : ℕ) → given_by unchanged 0 (pos 0) o want ≡ min want o
given-unrated o want = omega (arith, natural-is (pos 0 +ℤ pos o) o 0 (omega (arith, ints)))

-- a feeder that keeps nothing
abbrev kept_of : Spec → ℕ → ℤ → Kept
kept_of spec phase ahead = record { spec = Some spec; phase = phase; ahead = ahead; tail = [] }

-- nothing is kept after as many frames were given as eaten
kept-unrated : (spec : Spec) (n eaten given : ℕ) → eaten ≡ n → given ≡ n
    → kept_of spec ((0 + given * 1) % 1) (pos 0 +ℤ pos eaten -ℤ pos ((0 + given * 1) / 1)) ≡ kept_of spec 0 (pos 0)
kept-unrated spec n eaten given e g =
    let phase : (0 + given * 1) % 1 ≡ 0 = omega arith in
    let ahead : (pos 0 +ℤ pos eaten -ℤ pos ((0 + given * 1) / 1)) ≡ pos 0 = omega (arith, ints) in
    ap (λ z. kept_of spec z (pos 0 +ℤ pos eaten -ℤ pos ((0 + given * 1) / 1))) phase ∙ ap (kept_of spec 0) ahead

-- a feed of a stage that turns each frame by itself
maps-frames : (spec : Spec) (f : Frame → Frame) (input : List Frame) (want : ℕ) (turned : Turn)
    → turned.eaten ≡ min want (length input) → turned.given ≡ min want (length input)
    → turned.frames ≡ map f (take turned.given input)
    → turned.kept ≡ kept_of spec ((0 + turned.given * 1) % 1) (pos 0 +ℤ pos turned.eaten -ℤ pos ((0 + turned.given * 1) / 1))
    → kept_of spec 0 (pos 0) ≡ fresh spec
    → MapsFrames spec f input want turned
maps-frames spec f input want turned eaten given frames kept begin = record {
  eaten = eaten;
  given = given;
  frames = frames ∙ ap (λ n. map f (take n input)) given;
  kept = kept ∙ kept-unrated spec (min want (length input)) turned.eaten turned.given eaten given ∙ begin;
}

pub maps-matrix : (from to : Layout) (tables : Filters) (gain : Gain) (input : List Frame) (want : ℕ)
    → MapsFrames (Matrix from to) (in_layout from to) input want (turn (fresh (Matrix from to)) tables gain input want)
maps-matrix from to tables gain input want =
    let spec = Matrix from to in
    rw (turn-fitted spec (fresh spec) tables gain input want refl)
    (maps-frames spec (in_layout from to) input want (turn_of spec (fresh spec) tables gain input want)
    (eaten-unrated (length input) want) (given-unrated (length input) want) refl refl refl)

pub maps-volume : (layout : Layout) (tables : Filters) (gain : Gain) (input : List Frame) (want : ℕ)
    → MapsFrames (Volume layout) (at_gain layout gain) input want (turn (fresh (Volume layout)) tables gain input want)
maps-volume layout tables gain input want =
    let spec = Volume layout in
    rw (turn-fitted spec (fresh spec) tables gain input want refl)
    (maps-frames spec (at_gain layout gain) input want (turn_of spec (fresh spec) tables gain input want)
    (eaten-unrated (length input) want) (given-unrated (length input) want) refl refl refl)

pub maps-depth : (bits channels : ℕ) (tables : Filters) (gain : Gain) (input : List Frame) (want : ℕ)
    → MapsFrames (Depth bits channels) (at_bits bits) input want (turn (fresh (Depth bits channels)) tables gain input want)
maps-depth bits channels tables gain input want =
    let spec = Depth bits channels in
    rw (turn-fitted spec (fresh spec) tables gain input want refl)
    (maps-frames spec (at_bits bits) input want (turn_of spec (fresh spec) tables gain input want)
    (eaten-unrated (length input) want) (given-unrated (length input) want) refl refl refl)

-- ---- feeds of interleaved samples

pub fed-maps : (spec : Spec) (f : Gain → Frame → Frame) (tables : Filters) (gain : Gain) (samples : List ℤ) (want : ℕ) → FeedsMapFrames spec f
    → MapsFrames spec (f gain) (frames_of (channels_in spec) samples) want (fed (fresh spec) tables gain samples want)
unfolding fed
fed-maps spec f tables gain samples want maps = maps tables gain (frames_of (channels_in spec) samples) want
