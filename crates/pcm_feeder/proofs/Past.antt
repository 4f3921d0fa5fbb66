-- What is kept of the past: how much, at the begin, and after more frames.
use Rattle.std.proofs.Common.{◌≡◌, ◌+◌, ◌*◌, ℕ, List, [], ◌++◌, length, replicate, refl, sym, ap, ◌∙◌, pos}
use Rattle.std.proofs.lemmas.List.{length-replicate}
use Rattle.std.proofs.lemmas.List.Elements.{All-replicate, All-nil}
use Rattle.pcm_format.specs.Frames.{Frame}
use Rattle.pcm_feeder.specs.declared.stage.Spec.{Spec}
use Rattle.pcm_feeder.specs.declared.stage.Spec.TheVariants.{Matrix, Hold, Linear, Poly, Volume, Depth, Eq}
use Rattle.pcm_feeder.specs.Filters.{Filters, as_filters}
use Rattle.pcm_feeder.specs.Sections.{sections_of, past_of_sections}
use Rattle.pcm_feeder.specs.Streams.{silence, HaveChannels}
use Rattle.pcm_feeder.specs.Stages.{channels_in, history}
use Rattle.pcm_feeder.specs.Kept.{past, past_after, StandsFor, Kept}
use Rattle.pcm_feeder.proofs.Histories.{last-begin, last-moves, moved-count, moved-channels}
use Rattle.pcm_feeder.proofs.Sections.{past-silent, past-goes_on, behind-count, behind-channels, length-sections_of}

-- ---- the past of each stage

-- at the begin it is silence
pub past-begin : (spec : Spec) (tables : Filters) → replicate (history spec) (silence (channels_in spec)) ≡ past spec tables []
past-begin (Matrix from to) tables = refl
past-begin (Hold src dst channels) tables = last-begin channels 1
past-begin (Linear src dst channels) tables = last-begin channels 2
past-begin (Poly src dst channels table taps) tables = last-begin channels taps
past-begin (Volume layout) tables = refl
past-begin (Depth bits channels) tables = refl
past-begin (Eq channels sections) tables =
    ap (λ n. replicate (2 + 2 * n) (silence channels)) (sym (length-sections_of tables sections)) ∙ past-silent channels (sections_of tables sections)

-- it moves on with the frames eaten
pub past-append : (spec : Spec) (tables : Filters) (x more : List Frame) → past_after spec tables (past spec tables x) more ≡ past spec tables (x ++ more)
past-append (Matrix from to) tables x more = refl
past-append (Hold src dst channels) tables x more = last-moves channels 1 x more
past-append (Linear src dst channels) tables x more = last-moves channels 2 x more
past-append (Poly src dst channels table taps) tables x more = last-moves channels taps x more
past-append (Volume layout) tables x more = refl
past-append (Depth bits channels) tables x more = refl
past-append (Eq channels sections) tables x more = past-goes_on channels (sections_of tables sections) x more

-- it keeps its length
pub past_after-count : (spec : Spec) (tables : Filters) (tail more : List Frame) → length tail ≡ history spec → length (past_after spec tables tail more) ≡ history spec
past_after-count (Matrix from to) tables tail more has = refl
past_after-count (Hold src dst channels) tables tail more has = moved-count tail more 1 has
past_after-count (Linear src dst channels) tables tail more has = moved-count tail more 2 has
past_after-count (Poly src dst channels table taps) tables tail more has = moved-count tail more taps has
past_after-count (Volume layout) tables tail more has = refl
past_after-count (Depth bits channels) tables tail more has = refl
past_after-count (Eq channels sections) tables tail more has =
    let many = ap (λ n. 2 + 2 * n) (length-sections_of tables sections) in
    behind-count channels (sections_of tables sections) tail more (has ∙ sym many) ∙ many

-- and its channels
pub past_after-channels : (spec : Spec) (tables : Filters) (tail more : List Frame) → HaveChannels (channels_in spec) tail → HaveChannels (channels_in spec) more
    → HaveChannels (channels_in spec) (past_after spec tables tail more)
past_after-channels (Matrix from to) tables tail more tails mores = All-nil (λ frame. length frame ≡ channels_in (Matrix from to))
past_after-channels (Hold src dst channels) tables tail more tails mores = moved-channels channels tail more tails mores
past_after-channels (Linear src dst channels) tables tail more tails mores = moved-channels channels tail more tails mores
past_after-channels (Poly src dst channels table taps) tables tail more tails mores = moved-channels channels tail more tails mores
past_after-channels (Volume layout) tables tail more tails mores = All-nil (λ frame. length frame ≡ channels_in (Volume layout))
past_after-channels (Depth bits channels) tables tail more tails mores = All-nil (λ frame. length frame ≡ channels)
past_after-channels (Eq channels sections) tables tail more tails mores = behind-channels channels (sections_of tables sections) tail more tails mores

-- so the past of any frames has them
pub past-count : (spec : Spec) (tables : Filters) (x : List Frame) → length (past spec tables x) ≡ history spec
past-count spec tables x =
    sym (ap length (past-append spec tables [] x))
    ∙ past_after-count spec tables (past spec tables []) x (sym (ap length (past-begin spec tables)) ∙ length-replicate (history spec) (silence (channels_in spec)))

pub past-channels : (spec : Spec) (tables : Filters) (x : List Frame) → HaveChannels (channels_in spec) x → HaveChannels (channels_in spec) (past spec tables x)
past-channels spec tables x have =
    let c = channels_in spec in
    let P : Frame → Type 0 = λ frame. length frame ≡ c in
    rw (← past-append spec tables [] x)
    (past_after-channels spec tables (past spec tables []) x
    (rw (← past-begin spec tables) (All-replicate P (history spec) (silence c) (length-replicate c (pos 0)))) have)

-- of the tables only the sections have a part in it
past-same : (spec : Spec) (tables other : Filters) (x : List Frame) → tables.sections ≡ other.sections → past spec tables x ≡ past spec other x
past-same (Matrix from to) tables other x same = refl
past-same (Hold src dst channels) tables other x same = refl
past-same (Linear src dst channels) tables other x same = refl
past-same (Poly src dst channels table taps) tables other x same = refl
past-same (Volume layout) tables other x same = refl
past-same (Depth bits channels) tables other x same = refl
past-same (Eq channels sections) tables other x same = ap (λ list. past_of_sections channels (sections_of (as_filters [] list) sections) x) same

-- so a feeder stands for the same frames with any tables of the same sections
pub StandsFor-any : (spec : Spec) (tables other : Filters) (kept : Kept) (x : List Frame) (given : ℕ) → tables.sections ≡ other.sections → StandsFor spec tables kept x given → StandsFor spec other kept x given
StandsFor-any spec tables other kept x given same h = record {
  fitted = h.fitted;
  phase = h.phase;
  ahead = h.ahead;
  least = h.least;
  most = h.most;
  tail = h.tail ∙ past-same spec tables other x same;
  frames = h.frames;
}
