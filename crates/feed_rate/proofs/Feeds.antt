-- What a feed gives, and what is kept of it.
use Rattle.std.proofs.Common.{◌≡◌, ◌*◌, ◌/◌, ℕ, ℤ, pos, ◌+ℤ◌, ◌-ℤ◌, List, length, take, Some, refl, sym, ap, ◌∙◌}
use Rattle.pcm_format.specs.Frames.{Frame}
use Rattle.pcm_rate.specs.declared.rate.Rate.{Rate}
use Rattle.pcm_feeder.specs.declared.pace.Pace.{Pace}
use Rattle.pcm_feeder.specs.declared.pace.Step.{Step}
use Rattle.pcm_feeder.specs.declared.stage.Gain.{Gain}
use Rattle.pcm_feeder.specs.Filters.{Filters}
use Rattle.pcm_feeder.specs.Kept.{Kept}
use Rattle.pcm_feeder.specs.Pace.{rate_by, phase_by, ahead_by, factor_of, IsStep}
use Rattle.pcm_feeder.specs.Stages.{channels_in}
use Rattle.pcm_feeder.specs.Streams.{frames_of, moved_on}
use Rattle.pcm_feeder.specs.Turns.{Turn, eaten_by, given_by, kept_after, fed}
use Rattle.pcm_feeder.proofs.Writing.{fed-by, turn_by, kept-by}
use Rattle.feed_rate.specs.Feeders.{kept_at}
use Rattle.feed_rate.specs.Outputs.{next_frames}
use Rattle.feed_rate.specs.Methods.{Method, spec_of, channels_by, lookahead_by}
use Rattle.feed_rate.proofs.Methods.{channels-are, rate-is, past-is, frames-are}

-- a feed, by how many frames it eats and gives
abbrev pub turned : Method → Filters → Pace → List Frame → List ℤ → ℕ → ℕ → Turn
turned method tables pace tail input eaten given = record {
  eaten = eaten;
  given = given;
  frames = next_frames method tables pace tail input given;
  kept = kept_after (spec_of method (rate_by pace)) tables (kept_at pace method tail) (frames_of (channels_by method) input) eaten given;
}

pub fed-is : (method : Method) (pace : Pace) (tail : List Frame) (tables : Filters) (gain : Gain) (samples : List ℤ) (want channels eaten given : ℕ)
    → (rate_by pace).lookahead ≡ lookahead_by method → channels ≡ channels_by method
    → eaten ≡ eaten_by (rate_by pace) (phase_by pace) (ahead_by pace) (length samples / channels) want
    → given ≡ given_by (rate_by pace) (phase_by pace) (ahead_by pace) (length samples / channels) want
    → fed (kept_at pace method tail) tables gain samples want ≡ turned method tables pace tail samples eaten given
fed-is method pace tail tables gain samples want channels eaten given level channels_are eats gives =
    let rate = rate_by pace in
    let spec = spec_of method rate in
    let same : channels ≡ channels_in spec = channels_are ∙ sym (channels-are method rate) in
    fed-by spec (kept_at pace method tail) tables gain samples rate want eaten given refl (rate-is method rate level)
    (eats ∙ ap (λ n. eaten_by rate (phase_by pace) (ahead_by pace) (length samples / n) want) same)
    (gives ∙ ap (λ n. given_by rate (phase_by pace) (ahead_by pace) (length samples / n) want) same)
    ∙ ap (λ n. turn_by spec (kept_at pace method tail) tables gain (frames_of n samples) eaten given) (channels-are method rate)
    ∙ ap (λ frames. record { eaten = eaten; given = given; frames = frames; kept = kept_after spec tables (kept_at pace method tail) (frames_of (channels_by method) samples) eaten given })
    (frames-are method pace tail tables gain samples given)

-- what is kept after a feed, by the pace that has moved on
pub kept-is : (method : Method) (pace moved : Pace) (tail new : List Frame) (tables : Filters) (input : List Frame) (eaten given : ℕ) (step : Step) → (rate_by pace).lookahead ≡ lookahead_by method
    → IsStep pace step given → rate_by moved ≡ rate_by pace → phase_by moved ≡ step.phase * factor_of pace → ahead_by moved ≡ (ahead_by pace +ℤ pos eaten -ℤ pos step.frames)
    → new ≡ moved_on tail (take eaten input) → kept_at moved method new ≡ kept_after (spec_of method (rate_by pace)) tables (kept_at pace method tail) input eaten given
kept-is method pace moved tail new tables input eaten given step level at rate phase ahead is =
    let make : Rate → Kept = λ r. record { spec = Some (spec_of method r); phase = phase_by moved; ahead = ahead_by moved; tail = new } in
    ap make rate
    ∙ kept-by (spec_of method (rate_by pace)) tables (kept_at pace method tail) input new pace moved eaten given step (rate-is method (rate_by pace) level) refl refl at phase ahead
    (is ∙ sym (past-is method (rate_by pace) tables tail (take eaten input)))
