-- What a feed eats, gives and keeps is what the counts and the stage's outputs over all frames eaten say.
use Rattle.std.proofs.Common.{◌≡◌, ◌↔◌, ◌<◌, ◌≤◌, ◌+◌, ◌-◌, ◌*◌, ◌/◌, ◌%◌, ◌*ℤ◌, get_or, min, max, ℕ, zero, suc, ℤ, pos, negsuc, ◌+ℤ◌, ◌-ℤ◌, ◌≤ℤ◌, List, ◌++◌, length, map, take, replicate, Option, None, Some, inl, inr, refl, sym, ap, ◌∙◌, arith}
use Rattle.std.proofs.Math.Seq.{take-append-add}
use Rattle.std.specs.List.{range_with_len}
use Rattle.std.proofs.lemmas.Bool.{cases_lt}
use Rattle.std.proofs.lemmas.Int.{ints}
use Rattle.std.proofs.lemmas.List.{length-append, length-take, length-take-le, length-map, get_or-map, get_or-take, get_or-append-add, take-take}
use Rattle.std.proofs.lemmas.List.Elements.{All-append, All-take, All-map, All-same}
use Rattle.std.proofs.lemmas.Simd.{length-zip2}
use Rattle.pcm_num.specs.Floor.{floor_div}
use Rattle.pcm_format.specs.Samples.{at_depth, natural}
use Rattle.pcm_format.specs.Layouts.{positions_of, channels_of}
use Rattle.pcm_feeder.specs.Layouts.{gathered, side_gain, in_layout, at_gain}
use Rattle.std.proofs.lemmas.List.FromFn.{length-map-range_with_len, fill_by_all}
use Rattle.pcm_format.proofs.Ranges.{map-range-same, map-range-shift}
use Rattle.pcm_format.proofs.Streams.{length-positions}
use Rattle.pcm_format.specs.Frames.{Frame}
use Rattle.pcm_feeder.specs.declared.stage.Gain.{Gain}
use Rattle.pcm_feeder.specs.declared.stage.Spec.{Spec}
use Rattle.pcm_feeder.specs.declared.stage.Spec.TheVariants.{Matrix, Hold, Linear, Poly, Volume, Depth, Eq}
use Rattle.pcm_feeder.specs.Filters.{Filters}
use Rattle.pcm_feeder.specs.Limits.{IsSpec}
use Rattle.pcm_rate.specs.declared.rate.Rate.{Rate}
use Rattle.pcm_rate.specs.Rates.{need, can, unchanged}
use Rattle.pcm_feeder.specs.Sections.{sections_of, sections_on, through_sections}
use Rattle.pcm_feeder.specs.Streams.{frames_of, Stream, silence, stream_of, frames_until, HaveChannels, last_frames}
use Rattle.pcm_feeder.specs.Stages.{rate_of, channels_in, channels_out, history, at_bits, Converter, held, on_line, filtered_frame, converted, conv, outputs, filtered, table_at}
use Rattle.pcm_feeder.specs.Kept.{Kept, past, past_after, StandsFor}
use Rattle.pcm_feeder.specs.Turns.{step_of, phase_of, reach, allowed, eaten_by, given_by, around, next_outputs, frames_by, kept_after, turn_of, turn_at, turn, frames_for, fed, Continues}
use Rattle.pcm_rate.proofs.Counts.{same-bound, can-greatest, need_grows, need-unchanged}
use Rattle.pcm_feeder.proofs.Phases.{reach_allowed, place_from, phase_from, need_from}
use Rattle.pcm_feeder.proofs.Streams.{stream-channels, stream-take, stream-drop, stream-padded, history-append}
use Rattle.pcm_feeder.proofs.Frames.{frames_of-channels}
use Rattle.pcm_feeder.proofs.Outputs.{src-above, dst-above, Uses, hold-uses, line-uses, filter-uses}
use Rattle.pcm_feeder.proofs.Past.{past-append}
use Rattle.pcm_feeder.proofs.Sections.{on-outputs, sections-channels}

-- ---- counts

-- an integer that is the difference of two natural numbers, cut off at 0
pub natural-is : (z : ℤ) (m n : ℕ) → z +ℤ pos n ≡ pos m → natural z ≡ m - n
natural-is (pos k) m n e = omega (arith, ints)
natural-is (negsuc k) m n e = omega (arith, ints)

-- the frames that a feeder has before it, from the one under its next output on
ahead-is : (spec : Spec) (tables : Filters) (kept : Kept) (x : List Frame) (given o : ℕ) → StandsFor spec tables kept x given
    → natural (kept.ahead +ℤ pos o) ≡ length x + o - given * (rate_of spec).src / (rate_of spec).dst
ahead-is spec tables kept x given o h = natural-is (kept.ahead +ℤ pos o) (length x + o) (given * (rate_of spec).src / (rate_of spec).dst) (omega (arith, ints))

-- the frames that the next outputs use
need-is : (spec : Spec) (tables : Filters) (kept : Kept) (x : List Frame) (given j : ℕ) → IsSpec spec → StandsFor spec tables kept x given → 0 < j
    → need (rate_of spec) (given + j) ≡ given * (rate_of spec).src / (rate_of spec).dst + reach (rate_of spec) kept.phase j
need-is spec tables kept x given j is h above =
    need_from (rate_of spec) given j (dst-above spec is) above
    ∙ ap (λ phase. given * (rate_of spec).src / (rate_of spec).dst + reach (rate_of spec) phase j) (sym h.phase)

-- an output uses at least one frame
pub reach-above : (rate : Rate) (phase j : ℕ) → 0 < j → 0 < reach rate phase j
reach-above rate phase zero above = absurd (omega arith)
reach-above rate phase (suc j) above = omega arith

-- an output is allowed exactly where all frames are enough for it
bound-is : (spec : Spec) (tables : Filters) (kept : Kept) (x : List Frame) (given o c : ℕ) → IsSpec spec → StandsFor spec tables kept x given
    → (c ≤ allowed (rate_of spec) kept.phase (natural (kept.ahead +ℤ pos o))) ↔ (c ≤ can (rate_of spec) (length x + o) - given)
bound-is spec tables kept x given o zero is h = (λ q. omega arith, λ q. omega arith)
bound-is spec tables kept x given o (suc j) is h =
    let rate = rate_of spec in
    let n = natural (kept.ahead +ℤ pos o) in
    let room = ahead-is spec tables kept x given o h in
    let uses = need-is spec tables kept x given (suc j) is h (omega arith) in
    let near = reach_allowed rate kept.phase (suc j) n (src-above spec is) (dst-above spec is) in
    let far = can-greatest rate (src-above spec is) (dst-above spec is) (given + suc j) (length x + o) in
    (λ q. omega (arith, far.0 (omega (arith, near.1 q))), λ q. near.0 (omega (arith, far.1 (omega arith))))

-- how many outputs are allowed
allowed-is : (spec : Spec) (tables : Filters) (kept : Kept) (x : List Frame) (given o : ℕ) → IsSpec spec → StandsFor spec tables kept x given
    → allowed (rate_of spec) kept.phase (natural (kept.ahead +ℤ pos o)) ≡ can (rate_of spec) (length x + o) - given
allowed-is spec tables kept x given o is h =
    same-bound (allowed (rate_of spec) kept.phase (natural (kept.ahead +ℤ pos o))) (can (rate_of spec) (length x + o) - given)
    (λ c. bound-is spec tables kept x given o c is h)

-- how many frames are given
given-is : (spec : Spec) (tables : Filters) (kept : Kept) (x : List Frame) (given o want : ℕ) → IsSpec spec → StandsFor spec tables kept x given
    → given_by (rate_of spec) kept.phase kept.ahead o want ≡ min want (can (rate_of spec) (length x + o) - given)
given-is spec tables kept x given o want is h = ap (min want) (allowed-is spec tables kept x given o is h)

-- how many frames are eaten, with those eaten before
eaten-is : (spec : Spec) (tables : Filters) (kept : Kept) (x : List Frame) (given o want : ℕ) → IsSpec spec → StandsFor spec tables kept x given
    → length x + eaten_by (rate_of spec) kept.phase kept.ahead o want ≡ max (length x) (min (length x + o) (need (rate_of spec) (given + want)))
eaten-is spec tables kept x given o zero is h =
    let none : given + 0 ≡ given = omega arith in
    omega (arith, h.least, ap (need (rate_of spec)) none)
eaten-is spec tables kept x given o (suc j) is h =
    let rate = rate_of spec in
    let start = given * rate.src / rate.dst in
    let uses = need-is spec tables kept x given (suc j) is h (omega arith) in
    let more = natural-is (pos (reach rate kept.phase (suc j)) -ℤ kept.ahead) (reach rate kept.phase (suc j) + start) (length x) (omega (arith, ints, h.ahead)) in
    omega (arith, more, uses)

-- no more are eaten than are offered
pub eaten-within : (rate : Rate) (kept : Kept) (o want : ℕ) → eaten_by rate kept.phase kept.ahead o want ≤ o
eaten-within rate kept o zero = omega arith
eaten-within rate kept o (suc j) = omega arith

-- what a feed eats and gives, in numbers alone: E frames before it, G given before it
record Counts (rate : Rate) (E G o want eaten given : ℕ) : Type 0 where
  total : E + eaten ≡ max E (min (E + o) (need rate (G + want)))
  within : eaten ≤ o
  gives : given ≡ min want (can rate (E + o) - G)
  least : need rate G ≤ E
  most : E ≤ max (need rate G) (need rate (G + 1) - 1)

counts-are : (spec : Spec) (tables : Filters) (kept : Kept) (x : List Frame) (given o want : ℕ) → IsSpec spec → StandsFor spec tables kept x given
    → Counts (rate_of spec) (length x) given o want (eaten_by (rate_of spec) kept.phase kept.ahead o want) (given_by (rate_of spec) kept.phase kept.ahead o want)
counts-are spec tables kept x given o want is h = record {
  total = eaten-is spec tables kept x given o want is h;
  within = eaten-within (rate_of spec) kept o want;
  gives = given-is spec tables kept x given o want is h;
  least = h.least;
  most = h.most;
}

-- the frames given are allowed by those eaten
least-after : (rate : Rate) (E G o want eaten given : ℕ) → 0 < rate.src → 0 < rate.dst → Counts rate E G o want eaten given → need rate (G + given) ≤ E + eaten
least-after rate E G o want eaten zero src dst h =
    let none : G + 0 ≡ G = omega arith in
    omega (arith, h.least, ap (need rate) none)
least-after rate E G o want eaten (suc given) src dst h =
    let gives = h.gives in
    let fits = (can-greatest rate src dst (G + suc given) (E + o)).1 (omega arith) in
    let wanted = need_grows rate (G + suc given) (G + want) dst (omega arith) in
    omega (arith, h.total)

-- and no frame was eaten that is of no use to the next output
most-after : (rate : Rate) (E G o want eaten given : ℕ) → 0 < rate.src → 0 < rate.dst → Counts rate E G o want eaten given
    → E + eaten ≤ max (need rate (G + given)) (need rate (G + given + 1) - 1)
most-after rate E G o want eaten given src dst h =
    let gives = h.gives in
    let more = can-greatest rate src dst (G + given + 1) (E + o) in
    let grown = need_grows rate G (G + given) dst (omega arith) in
    let next = need_grows rate (G + 1) (G + given + 1) dst (omega arith) in
    elim (cases_lt given want) [
      | inl fewer ↦ elim (cases_lt (E + o) (need rate (G + given + 1))) [
        | inl short ↦ omega (arith, h.within)
        | inr enough ↦ absurd (omega (arith, more.0 enough))
      ]
      | inr all ↦ let same : G + given ≡ G + want = omega arith in omega (arith, h.total, h.most, ap (need rate) same)
    ]

-- ---- what a feeder keeps is bounded

-- one output more, and the frames up to there
need-next : (rate : Rate) (k : ℕ) → need rate (k + 1) ≡ k * rate.src / rate.dst + 1 + rate.lookahead
need-next rate k = let next : k + 1 ≡ suc k = omega arith in ap (need rate) next

need-within : (rate : Rate) (k : ℕ) → 0 < rate.dst → need rate k ≤ k * rate.src / rate.dst + 1 + rate.lookahead
need-within rate k dst = omega (arith, need_grows rate k (k + 1) dst (omega arith), need-next rate k)

-- it is never more than one frame past what the next output uses
pub ahead-most : (spec : Spec) (tables : Filters) (kept : Kept) (x : List Frame) (given : ℕ) → IsSpec spec → StandsFor spec tables kept x given
    → kept.ahead ≤ℤ pos (1 + (rate_of spec).lookahead)
ahead-most spec tables kept x given is h =
    omega (arith, ints, h.ahead, h.most, need-next (rate_of spec) given, need-within (rate_of spec) given (dst-above spec is))

-- a stage without a change of rate has given what it has eaten
ahead-unchanged : (E G : ℕ) (ahead : ℤ) → need unchanged G ≤ E → E ≤ max (need unchanged G) (need unchanged (G + 1) - 1)
    → ahead +ℤ pos (G * 1 / 1) ≡ pos E → ahead ≡ pos 0
ahead-unchanged E G ahead least most same = omega (arith, ints, need-unchanged G, need-unchanged (G + 1))

pub ahead-unrated : (spec : Spec) (tables : Filters) (kept : Kept) (x : List Frame) (given : ℕ) → StandsFor spec tables kept x given
    → rate_of spec ≡ unchanged → kept.ahead ≡ pos 0
ahead-unrated spec tables kept x given h level = from_rate (rate_of spec) level h.least h.most h.ahead
  where
    from_rate : (rate : Rate) → rate ≡ unchanged → need rate given ≤ length x → length x ≤ max (need rate given) (need rate (given + 1) - 1)
        → kept.ahead +ℤ pos (given * rate.src / rate.dst) ≡ pos (length x) → kept.ahead ≡ pos 0
    from_rate rate level = rw level (ahead-unchanged (length x) given kept.ahead)

-- and has eaten as many frames as it has given
pub given-unchanged : (spec : Spec) (tables : Filters) (kept : Kept) (x : List Frame) (given : ℕ) → rate_of spec ≡ unchanged → StandsFor spec tables kept x given → length x ≡ given
given-unchanged spec tables kept x given level h =
    let now = ap (λ r. need r given) level ∙ need-unchanged given in
    let next = ap (λ r. need r (given + 1)) level ∙ need-unchanged (given + 1) in
    omega (arith, h.least, h.most, now, next)

-- ---- the frames

-- a natural number that an integer is
the_natural : (z : ℤ) → pos 0 ≤ℤ z → (n : ℕ) × (z ≡ pos n)
the_natural (pos n) above = (n, refl)
the_natural (negsuc n) above = absurd (omega (arith, ints))

-- A converter: the frames that its outputs use are kept, or come.
record Converts (converter : Converter) (spec : Spec) (tables : Filters) (x : List Frame) (first : ℤ) : Type 0 where
  uses : Uses converter first (rate_of spec).lookahead
  reaches : pos (1 + (rate_of spec).lookahead) ≤ℤ (pos (history spec) +ℤ first)
  keeps : past spec tables x ≡ last_frames (channels_in spec) (history spec) x

-- a frame around an output from now, by its place among all frames
around-is : (converter : Converter) (spec : Spec) (tables : Filters) (kept : Kept) (x input : List Frame) (given j : ℕ) (first a : ℤ) → IsSpec spec
    → StandsFor spec tables kept x given → Converts converter spec tables x first → first ≤ℤ a
    → around spec kept input j a
    ≡ stream_of (channels_in spec) (x ++ input) (pos (given * (rate_of spec).src / (rate_of spec).dst + step_of (rate_of spec) kept.phase j) +ℤ a)
around-is converter spec tables kept x input given j first a is h converts least =
    let c = channels_in spec in
    let t = history spec in
    let step = step_of (rate_of spec) kept.phase j in
    let start = given * (rate_of spec).src / (rate_of spec).dst in
    let most = ahead-most spec tables kept x given is h in
    let back = converts.reaches in
    let place = the_natural (pos (t + step) -ℤ kept.ahead +ℤ a) (omega (arith, ints)) in
    let moved : pos (length x + place.0) ≡ pos t +ℤ (pos (start + step) +ℤ a) = omega (arith, ints, place.1, h.ahead) in
    ap (stream_of c (kept.tail ++ input)) place.1
    ∙ ap (λ list. stream_of c list (pos place.0)) (ap (λ tail. tail ++ input) (h.tail ∙ converts.keeps) ∙ history-append t (silence c) x input)
    ∙ stream-drop c (length x) place.0 (replicate t (silence c) ++ (x ++ input))
    ∙ ap (stream_of c (replicate t (silence c) ++ (x ++ input))) moved
    ∙ stream-padded c t (x ++ input) (pos (start + step) +ℤ a) (omega (arith, ints, moved))

-- an output from now is the converter's output over all frames eaten, which are enough for it
output-is : (converter : Converter) (spec : Spec) (tables : Filters) (kept : Kept) (x input : List Frame) (given eaten j : ℕ) (first : ℤ) → IsSpec spec
    → StandsFor spec tables kept x given → Converts converter spec tables x first
    → need (rate_of spec) (given + suc j) ≤ length x + eaten
    → converter (phase_of (rate_of spec) kept.phase j) (around spec kept input j)
    ≡ converted converter (rate_of spec) (stream_of (channels_in spec) (x ++ take eaten input)) (given + j)
output-is converter spec tables kept x input given eaten j first is h converts enough =
    let rate = rate_of spec in
    let c = channels_in spec in
    let start = given * rate.src / rate.dst in
    let step = step_of rate kept.phase j in
    let uses = need-is spec tables kept x given (suc j) is h (omega arith) in
    let place : (given + j) * rate.src / rate.dst ≡ start + step = place_from rate given j (dst-above spec is) ∙ ap (λ phase. start + step_of rate phase j) (sym h.phase) in
    let phase : phase_of rate kept.phase j ≡ (given + j) * rate.src % rate.dst = ap (λ phase. phase_of rate phase j) h.phase ∙ sym (phase_from rate given j) in
    ap (λ f. converter f (around spec kept input j)) phase
    ∙ converts.uses ((given + j) * rate.src % rate.dst) (around spec kept input j)
    (λ a. stream_of c (x ++ take eaten input) (pos ((given + j) * rate.src / rate.dst) +ℤ a))
    (λ a least most. around-is converter spec tables kept x input given j first a is h converts least
    ∙ sym (stream-take c (length x + eaten) (x ++ input) (pos (start + step) +ℤ a) (omega (arith, ints)))
    ∙ ap (λ list. stream_of c list (pos (start + step) +ℤ a)) (take-append-add x input eaten)
    ∙ ap (λ n. stream_of c (x ++ take eaten input) (pos n +ℤ a)) (sym place))

-- so the next outputs are its outputs from there on
converter-gives : (converter : Converter) (spec : Spec) (tables : Filters) (gain : Gain) (kept : Kept) (x input : List Frame) (given eaten count : ℕ) (first : ℤ) → IsSpec spec
    → StandsFor spec tables kept x given → Converts converter spec tables x first
    → ((s : Stream) (k : ℕ) → converted converter (rate_of spec) s k ≡ conv spec tables gain s k)
    → need (rate_of spec) (given + count) ≤ length x + eaten
    → next_outputs converter spec kept input count ≡ outputs spec tables gain (stream_of (channels_in spec) (x ++ take eaten input)) given count
converter-gives converter spec tables gain kept x input given eaten count first is h converts same enough =
    let rate = rate_of spec in
    let s = stream_of (channels_in spec) (x ++ take eaten input) in
    let g = conv spec tables gain s in
    let start : given + 0 ≡ given = omega arith in
    map-range-same (λ j. converter (phase_of rate kept.phase j) (around spec kept input j)) (λ j. g (given + j)) count
    (λ j below. output-is converter spec tables kept x input given eaten j first is h converts
    (omega (arith, need_grows rate (given + suc j) (given + count) (dst-above spec is) (omega arith))) ∙ same s (given + j))
    ∙ map-range-shift g given 0 count ∙ ap (λ z. map g (range_with_len z count)) start

-- A stage without a change of rate gives a function of each frame.
mapped-gives : (f : Frame → Frame) (c : ℕ) (g : ℕ → Frame) (x input : List Frame) (given eaten count : ℕ) → length x ≡ given → count ≤ eaten → eaten ≤ length input
    → ((k : ℕ) → f (stream_of c (x ++ take eaten input) (pos k)) ≡ g k)
    → map f (take count input) ≡ map g (range_with_len given count)
mapped-gives f c g x input given eaten count level within offered same =
    let d = silence c in
    let has : length (take count input) ≡ count = length-take-le count input (omega arith) in
    let start : given + 0 ≡ given = omega arith in
    fill_by_all (λ j. g (given + j)) (map f (take count input)) count (f d) (length-map (take count input) f ∙ has)
    (λ j below. get_or-map f (take count input) j d (f d) (omega arith)
    ∙ ap f (get_or-take count input j d below ∙ sym (get_or-take eaten input j d (omega arith)) ∙ sym (get_or-append-add x (take eaten input) j d))
    ∙ ap (λ n. f (get_or (x ++ take eaten input) (n + j) d)) level
    ∙ same (given + j))
    ∙ map-range-shift g given 0 count ∙ ap (λ z. map g (range_with_len z count)) start

-- ---- how many channels the frames have

-- an output has the channels that its stage gives
pub length-conv : (spec : Spec) (tables : Filters) (gain : Gain) (x : Stream) (k : ℕ)
    → ((a : ℤ) → length (x a) ≡ channels_in spec) → length (conv spec tables gain x k) ≡ channels_out spec
unfolding conv
length-conv (Matrix from to) tables gain x k have = length-map (positions_of to) (λ target. gathered from to target (x (pos k))) ∙ length-positions to
length-conv (Hold src dst channels) tables gain x k have = have (pos (k * src / dst) +ℤ pos 0)
length-conv (Linear src dst channels) tables gain x k have =
    let i = k * src / dst in
    let f = k * src % dst in
    let here = have (pos i +ℤ pos 0) in
    length-zip2 (λ a b. floor_div (a *ℤ pos (dst - f) +ℤ b *ℤ pos f) dst) (x (pos i +ℤ pos 0)) (x (pos i +ℤ pos 1)) (here ∙ sym (have (pos i +ℤ pos 1))) ∙ here
length-conv (Poly src dst channels table taps) tables gain x k have =
    let found = table_at tables table in
    length-map-range_with_len (filtered found taps (k * src % dst * found.phases / dst) (λ a. x (pos (k * src / dst) +ℤ a))) 0 channels
length-conv (Volume layout) tables gain x k have =
    length-zip2 (λ position sample. floor_div (sample *ℤ pos (side_gain gain position)) 65536) (positions_of layout) (x (pos k)) (length-positions layout ∙ sym (have (pos k)))
    ∙ length-positions layout
length-conv (Depth bits channels) tables gain x k have = length-map (x (pos k)) (at_depth bits) ∙ have (pos k)
length-conv (Eq channels sections) tables gain x k have =
    let P : Frame → Type 0 = λ frame. length frame ≡ channels in
    let list = sections_of tables sections in
    let places = range_with_len 0 (k + 1) in
    stream-channels channels (through_sections channels list (frames_until x (k + 1))) (pos k)
    (sections-channels channels list (frames_until x (k + 1)) (All-map P (λ j. x (pos j)) places (λ i d below. have (pos (get_or places i d)))))

-- the outputs over a list of frames have the channels that their stage gives
pub outputs-channels : (spec : Spec) (tables : Filters) (gain : Gain) (frames : List Frame) (from count : ℕ) → HaveChannels (channels_in spec) frames
    → HaveChannels (channels_out spec) (outputs spec tables gain (stream_of (channels_in spec) frames) from count)
outputs-channels spec tables gain frames from count have =
    let x = stream_of (channels_in spec) frames in
    let P : Frame → Type 0 = λ frame. length frame ≡ channels_out spec in
    All-map P (conv spec tables gain x) (range_with_len from count)
    (λ i d below. length-conv spec tables gain x (get_or (range_with_len from count) i d) (λ a. stream-channels (channels_in spec) frames a have))

-- ---- the law

-- the frames given are the stage's outputs over all frames eaten
frames-are : (spec : Spec) (tables : Filters) (gain : Gain) (kept : Kept) (x input : List Frame) (given eaten count : ℕ) → IsSpec spec → StandsFor spec tables kept x given
    → eaten ≤ length input → need (rate_of spec) (given + count) ≤ length x + eaten
    → frames_by spec kept tables gain input count ≡ outputs spec tables gain (stream_of (channels_in spec) (x ++ take eaten input)) given count
unfolding conv
frames-are (Matrix from to) tables gain kept x input given eaten count is h offered enough =
    let level = given-unchanged (Matrix from to) tables kept x given refl h in
    mapped-gives (in_layout from to) (channels_of from) (conv (Matrix from to) tables gain (stream_of (channels_of from) (x ++ take eaten input))) x input given eaten count
    level (omega (arith, need-unchanged (given + count))) offered (λ k. refl)
frames-are (Hold src dst channels) tables gain kept x input given eaten count is h offered enough =
    converter-gives held (Hold src dst channels) tables gain kept x input given eaten count (pos 0) is h
    (record { uses = hold-uses; reaches = omega (arith, ints); keeps = refl }) (λ s k. refl) enough
frames-are (Linear src dst channels) tables gain kept x input given eaten count is h offered enough =
    converter-gives (on_line dst) (Linear src dst channels) tables gain kept x input given eaten count (pos 0) is h
    (record { uses = line-uses dst; reaches = omega (arith, ints); keeps = refl }) (λ s k. refl) enough
frames-are (Poly src dst channels table taps) tables gain kept x input given eaten count is h offered enough =
    let found = table_at tables table in
    converter-gives (filtered_frame found taps channels dst) (Poly src dst channels table taps) tables gain kept x input given eaten count (pos 1 -ℤ pos (taps / 2)) is h
    (record { uses = filter-uses found taps channels dst is.row; reaches = omega (arith, ints, is.row.even); keeps = refl }) (λ s k. refl) enough
frames-are (Volume layout) tables gain kept x input given eaten count is h offered enough =
    let level = given-unchanged (Volume layout) tables kept x given refl h in
    mapped-gives (at_gain layout gain) (channels_of layout) (conv (Volume layout) tables gain (stream_of (channels_of layout) (x ++ take eaten input))) x input given eaten count
    level (omega (arith, need-unchanged (given + count))) offered (λ k. refl)
frames-are (Depth bits channels) tables gain kept x input given eaten count is h offered enough =
    let level = given-unchanged (Depth bits channels) tables kept x given refl h in
    mapped-gives (at_bits bits) channels (conv (Depth bits channels) tables gain (stream_of channels (x ++ take eaten input))) x input given eaten count
    level (omega (arith, need-unchanged (given + count))) offered (λ k. refl)
frames-are (Eq channels sections) tables gain kept x input given eaten count is h offered enough =
    let level = given-unchanged (Eq channels sections) tables kept x given refl h in
    let list = sections_of tables sections in
    let all = x ++ take eaten input in
    let g = conv (Eq channels sections) tables gain (stream_of channels all) in
    let within : count ≤ eaten = omega (arith, need-unchanged (given + count)) in
    let start : given + 0 ≡ given = omega arith in
    ap (λ tail. sections_on channels list tail (take count input)) h.tail
    ∙ on-outputs channels list x (take count input) all given count level (length-take-le count input (omega arith))
    (omega (arith, length-append x (take eaten input), length-take eaten input))
    (ap (λ n. take (n + count) all) (sym level) ∙ take-append-add x (take eaten input) count ∙ ap (λ front. x ++ front) (take-take count eaten input within))
    ∙ map-range-shift g given 0 count ∙ ap (λ z. map g (range_with_len z count)) start

-- all frames eaten
length-eaten : (x input : List Frame) (eaten : ℕ) → eaten ≤ length input → length (x ++ take eaten input) ≡ length x + eaten
length-eaten x input eaten within = omega (arith, length-append x (take eaten input), length-take eaten input)

-- what is kept stands for all frames eaten and given
stands-after : (spec : Spec) (tables : Filters) (kept : Kept) (x input : List Frame) (given o want eaten count : ℕ) → IsSpec spec → StandsFor spec tables kept x given
    → HaveChannels (channels_in spec) input → eaten ≤ length input → Counts (rate_of spec) (length x) given o want eaten count
    → StandsFor spec tables (kept_after spec tables kept input eaten count) (x ++ take eaten input) (given + count)
stands-after spec tables kept x input given o want eaten count is h have within counts =
    let rate = rate_of spec in
    let all = length-eaten x input eaten within in
    let c = channels_in spec in
    let place : (given + count) * rate.src / rate.dst ≡ given * rate.src / rate.dst + step_of rate kept.phase count =
    place_from rate given count (dst-above spec is) ∙ ap (λ phase. given * rate.src / rate.dst + step_of rate phase count) (sym h.phase) in
    record {
      fitted = refl;
      phase = ap (λ phase. phase_of rate phase count) h.phase ∙ sym (phase_from rate given count);
      ahead = omega (arith, ints, h.ahead, place, all);
      least = omega (arith, all, least-after rate (length x) given o want eaten count (src-above spec is) (dst-above spec is) counts);
      most = omega (arith, all, most-after rate (length x) given o want eaten count (src-above spec is) (dst-above spec is) counts);
      tail = ap (λ tail. past_after spec tables tail (take eaten input)) h.tail ∙ past-append spec tables x (take eaten input);
      frames =
          let P : Frame → Type 0 = λ frame. length frame ≡ c in
          All-append P x (take eaten input) h.frames (All-take P eaten input have);
    }

-- a feed of a feeder that is fitted
turn_of-continues : (spec : Spec) (kept : Kept) (tables : Filters) (gain : Gain) (x input : List Frame) (given want : ℕ) → IsSpec spec → StandsFor spec tables kept x given
    → HaveChannels (channels_in spec) input → Continues spec tables gain x given input want (turn_of spec kept tables gain input want)
turn_of-continues spec kept tables gain x input given want is h have =
    let rate = rate_of spec in
    let o = length input in
    let eaten = eaten_by rate kept.phase kept.ahead o want in
    let count = given_by rate kept.phase kept.ahead o want in
    let counts = counts-are spec tables kept x given o want is h in
    let stands = stands-after spec tables kept x input given o want eaten count is h have counts.within counts in
    let frames = frames-are spec tables gain kept x input given eaten count is h counts.within (least-after rate (length x) given o want eaten count (src-above spec is) (dst-above spec is) counts) in
    let P : Frame → Type 0 = λ frame. length frame ≡ channels_out spec in
    record {
      eaten = counts.total;
      within = counts.within;
      given = counts.gives;
      frames = frames;
      count = ap length frames ∙ length-map-range_with_len (conv spec tables gain (stream_of (channels_in spec) (x ++ take eaten input))) given count;
      channels = All-same P (frames_by spec kept tables gain input count) (outputs spec tables gain (stream_of (channels_in spec) (x ++ take eaten input)) given count) frames
          (outputs-channels spec tables gain (x ++ take eaten input) given count stands.frames);
      stands = stands;
    }

-- a feed goes by what the feeder is fitted to
pub turn-fitted : (spec : Spec) (kept : Kept) (tables : Filters) (gain : Gain) (input : List Frame) (want : ℕ) → kept.spec ≡ Some spec
    → turn kept tables gain input want ≡ turn_of spec kept tables gain input want
unfolding turn
turn-fitted spec kept tables gain input want fitted = ap (λ s. turn_at s kept tables gain input want) fitted

-- the law of a feed
pub turn-continues : (spec : Spec) (kept : Kept) (tables : Filters) (gain : Gain) (x input : List Frame) (given want : ℕ) → IsSpec spec → StandsFor spec tables kept x given
    → HaveChannels (channels_in spec) input → Continues spec tables gain x given input want (turn kept tables gain input want)
turn-continues spec kept tables gain x input given want is h have =
    rw (turn-fitted spec kept tables gain input want h.fitted) (turn_of-continues spec kept tables gain x input given want is h have)

-- a feed of interleaved samples
pub fed-fitted : (spec : Spec) (kept : Kept) (tables : Filters) (gain : Gain) (samples : List ℤ) (want : ℕ) → kept.spec ≡ Some spec
    → fed kept tables gain samples want ≡ turn kept tables gain (frames_of (channels_in spec) samples) want
unfolding fed
fed-fitted spec kept tables gain samples want fitted = ap (λ s. turn kept tables gain (frames_for s samples) want) fitted

pub fed-continues : (spec : Spec) (kept : Kept) (tables : Filters) (gain : Gain) (x : List Frame) (given : ℕ) (samples : List ℤ) (want : ℕ) → IsSpec spec → StandsFor spec tables kept x given
    → Continues spec tables gain x given (frames_of (channels_in spec) samples) want (fed kept tables gain samples want)
fed-continues spec kept tables gain x given samples want is h =
    rw (fed-fitted spec kept tables gain samples want h.fitted)
    (turn-continues spec kept tables gain x (frames_of (channels_in spec) samples) given want is h (frames_of-channels (channels_in spec) samples))

-- a feed gives no more than is wanted, whatever the feeder stands for
pub fed-most : (kept : Kept) (tables : Filters) (gain : Gain) (samples : List ℤ) (want : ℕ) → (fed kept tables gain samples want).given ≤ want
unfolding fed turn
fed-most kept tables gain samples want = most kept.spec
  where
    most : (spec : Option Spec) → (turn_at spec kept tables gain (frames_for spec samples) want).given ≤ want
    most None = omega arith
    most (Some spec) = omega arith

-- and leaves the feeder fitted to the same
pub fed-spec : (kept : Kept) (tables : Filters) (gain : Gain) (samples : List ℤ) (want : ℕ) → (fed kept tables gain samples want).kept.spec ≡ kept.spec
unfolding fed turn
fed-spec kept tables gain samples want = same kept.spec refl
  where
    same : (spec : Option Spec) → spec ≡ kept.spec → (turn_at spec kept tables gain (frames_for spec samples) want).kept.spec ≡ kept.spec
    same None e = refl
    same (Some spec) e = e
