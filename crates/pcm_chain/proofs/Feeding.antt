-- How frames go through stages that are fed one after another.
use Rattle.std.proofs.Common.{◌≡◌, ◌≢◌, ◌≤◌, ◌<◌, ◌+◌, ◌-◌, ◌*◌, ◌/◌, ◌%◌, min, ℕ, ℤ, pos, List, [], ◌∷◌, ◌++◌, length, map, take, drop, get_or, Option, Some, IsSomeAnd, All, refl, sym, ap, ◌∙◌, subst, arith}
use Rattle.std.specs.List.{range_with_len}
use Rattle.std.proofs.Math.Nat.{mul-div_cancel, mul-le-mul}
use Rattle.std.proofs.lemmas.List.{take_all, nil_from_length, length-take-le}
use Rattle.std.proofs.lemmas.List.Elements.{All-nil, All-cons, All-head, All-tail, All-append, All-map, All-take}
use Rattle.std.proofs.lemmas.List.FromFn.{length-map-range_with_len}
use Rattle.std.proofs.lemmas.Simd.{length-zip2}
use Rattle.pcm_format.specs.Frames.{Frame}
use Rattle.pcm_format.proofs.Streams.{channels_of-above, channels_of-most}
use Rattle.pcm_rate.specs.Rates.{unchanged}
use Rattle.pcm_feeder.specs.declared.rack.SevenOf.{SevenOf}
use Rattle.pcm_feeder.specs.declared.stage.Gain.{Gain}
use Rattle.pcm_feeder.specs.declared.stage.Spec.{Spec}
use Rattle.pcm_feeder.specs.declared.stage.Spec.TheVariants.{Matrix, Hold, Linear, Poly, Volume, Depth, Eq}
use Rattle.pcm_feeder.specs.Filters.{Filters}
use Rattle.pcm_feeder.specs.Kept.{Kept, fresh, IsFitted}
use Rattle.pcm_feeder.specs.Kinds.{kind_of}
use Rattle.pcm_feeder.specs.Limits.{AreChannels, IsSpec, IsGain, HasTable}
use Rattle.pcm_feeder.specs.Sections.{sections_of}
use Rattle.pcm_feeder.specs.Stages.{rate_of, channels_in, channels_out, table_at, filtered, held, on_line, filtered_frame}
use Rattle.pcm_feeder.specs.Streams.{written, HaveChannels}
use Rattle.pcm_feeder.specs.Turns.{Turn, CanFeed, turn, turn_of, fed, around, phase_of, given_by}
use Rattle.pcm_feeder.proofs.Driven.{whole-front, frames-written}
use Rattle.pcm_feeder.proofs.Fitted.{fresh-stands, turn-fits}
use Rattle.pcm_feeder.proofs.Frames.{frames_of-channels, length-frames_of, interleaved-frames_of}
use Rattle.pcm_feeder.proofs.Sections.{length-on, on-channels, length-sections_of}
use Rattle.pcm_feeder.proofs.Streams.{stream-channels}
use Rattle.pcm_feeder.proofs.Turns.{turn-continues, turn-fitted, fed-fitted}
use Rattle.pcm_feeder.proofs.Unrated.{given-unrated}
use Rattle.pcm_plan.specs.Plans.{rate_among}
use Rattle.pcm_plan.specs.Fits.{Follow, AreDistinct, HaveBits, HaveTables}
use Rattle.pcm_chain.specs.Bits.{bits_after, bits_left}
use Rattle.pcm_chain.specs.Boxes.{kept_in, HaveFitted}
use Rattle.pcm_chain.specs.Feeds.{asked, first_frames, turn_in, fed_through, AreFed, GoneThrough, HaveRoom}

-- ---- what a stage asks

-- the box of a stage may be fed the first n frames of samples
pub can-feed : (spec : Spec) (box before : Kept) (tables : Filters) (gain : Gain) (n want c : ℕ) (input output : List ℤ) → before ≡ box → c ≡ channels_in spec
    → IsFitted spec before → IsGain gain → HasTable spec tables → n * channels_in spec ≤ length input → want * channels_out spec ≤ length output
    → IsSomeAnd box.spec (λ s. CanFeed s tables gain (take (n * c) input) want output)
can-feed spec box before tables gain n want c input output same width fits limits filter source room =
    rw (← same, fits.fitted, width) (record {
      whole_frames = whole-front n n (channels_in spec) input (omega arith) source;
      room = room;
      limits = limits;
      filter = filter;
    })

-- a stage gives up to eight channels
pub channels-given : (spec : Spec) → IsSpec spec → AreChannels (channels_out spec)
channels-given (Matrix from to) is = record { least = channels_of-above to; most = channels_of-most to }
channels-given (Hold src dst channels) is = is.within
channels-given (Linear src dst channels) is = is.within
channels-given (Poly src dst channels table taps) is = is.change.within
channels-given (Volume layout) is = record { least = channels_of-above layout; most = channels_of-most layout }
channels-given (Depth bits channels) is = is.within
channels-given (Eq channels sections) is = is.within

-- ---- the frames of one feed

-- what keeps no sound is known by its spec, its phase and its distance
kept-is : (kept : Kept) (spec : Option Spec) → kept.spec ≡ spec → kept.phase ≡ 0 → kept.ahead ≡ pos 0 → kept.tail ≡ []
    → kept ≡ record { spec = spec; phase = 0; ahead = pos 0; tail = [] }
kept-is kept spec fitted phase ahead tail =
    ap (λ s. let k : Kept = record { spec = s; phase = kept.phase; ahead = kept.ahead; tail = kept.tail } in k) fitted
    ∙ ap (λ p. let k : Kept = record { spec = spec; phase = p; ahead = kept.ahead; tail = kept.tail } in k) phase
    ∙ ap (λ a. let k : Kept = record { spec = spec; phase = 0; ahead = a; tail = kept.tail } in k) ahead
    ∙ ap (λ t. let k : Kept = record { spec = spec; phase = 0; ahead = pos 0; tail = t } in k) tail

-- how many frames a feed gives, and of how many channels
pub record HasShape (spec : Spec) (turned : Turn) : Type 0 where
  pub count : length turned.frames ≡ turned.given
  pub channels : HaveChannels (channels_out spec) turned.frames

-- a stage that keeps nothing is as at the begin
shape-fresh : (spec : Spec) (kept : Kept) (tables : Filters) (gain : Gain) (input : List Frame) (want : ℕ) → IsSpec spec → HaveChannels (channels_in spec) input
    → kept ≡ fresh spec → HasShape spec (turn kept tables gain input want)
shape-fresh spec kept tables gain input want is have same =
    let goes = turn-continues spec (fresh spec) tables gain [] input 0 want is (fresh-stands spec tables is) have in
    rw same (record { count = goes.count; channels = goes.channels })

-- a frame around an output has the channels of its stage
around-channels : (spec : Spec) (kept : Kept) (input : List Frame) (j : ℕ) (a : ℤ) → IsFitted spec kept → HaveChannels (channels_in spec) input → length (around spec kept input j a) ≡ channels_in spec
around-channels spec kept input j a fits have =
    let c = channels_in spec in
    stream-channels c (kept.tail ++ input) _ (All-append (λ (frame : Frame). length frame ≡ c) kept.tail input fits.frames have)

-- a converter gives a frame for each output
shape-converted : (spec : Spec) (kept : Kept) (tables : Filters) (gain : Gain) (input : List Frame) (want : ℕ) (next : ℕ → Frame) → kept.spec ≡ Some spec
    → (turn_of spec kept tables gain input want).frames ≡ map next (range_with_len 0 (turn_of spec kept tables gain input want).given) → ((j : ℕ) → length (next j) ≡ channels_out spec)
    → HasShape spec (turn kept tables gain input want)
shape-converted spec kept tables gain input want next fitted are have =
    let given = (turn_of spec kept tables gain input want).given in
    let P : Frame → Type 0 = λ (frame : Frame). length frame ≡ channels_out spec in
    rw (turn-fitted spec kept tables gain input want fitted) (record {
      count = ap length are ∙ length-map-range_with_len next 0 given;
      channels = rw are (All-map P next (range_with_len 0 given) (λ i d below. have (get_or (range_with_len 0 given) i d)));
    })

pub turn-shape : (spec : Spec) (kept : Kept) (tables : Filters) (gain : Gain) (input : List Frame) (want : ℕ) → IsSpec spec → IsFitted spec kept → HaveChannels (channels_in spec) input
    → HasShape spec (turn kept tables gain input want)
turn-shape (Matrix from to) kept tables gain input want is fits have =
    shape-fresh (Matrix from to) kept tables gain input want is have (kept-is kept (Some (Matrix from to)) fits.fitted (omega (arith, fits.phase)) (fits.unrated refl) (nil_from_length kept.tail fits.count))
turn-shape (Hold src dst channels) kept tables gain input want is fits have =
    let spec = Hold src dst channels in
    shape-converted spec kept tables gain input want (λ j. held (phase_of (rate_of spec) kept.phase j) (around spec kept input j)) fits.fitted refl
    (λ j. around-channels spec kept input j (pos 0) fits have)
turn-shape (Linear src dst channels) kept tables gain input want is fits have =
    let spec = Linear src dst channels in
    shape-converted spec kept tables gain input want (λ j. on_line dst (phase_of (rate_of spec) kept.phase j) (around spec kept input j)) fits.fitted refl
    (λ j.
    let here = around-channels spec kept input j (pos 0) fits have in
    length-zip2 _ (around spec kept input j (pos 0)) (around spec kept input j (pos 1))
    (here ∙ sym (around-channels spec kept input j (pos 1) fits have)) ∙ here)
turn-shape (Poly src dst channels table taps) kept tables gain input want is fits have =
    let spec = Poly src dst channels table taps in
    let found = table_at tables table in
    shape-converted spec kept tables gain input want (λ j. filtered_frame found taps channels dst (phase_of (rate_of spec) kept.phase j) (around spec kept input j)) fits.fitted refl
    (λ j. length-map-range_with_len (filtered found taps (phase_of (rate_of spec) kept.phase j * found.phases / dst) (around spec kept input j)) 0 channels)
turn-shape (Volume layout) kept tables gain input want is fits have =
    shape-fresh (Volume layout) kept tables gain input want is have (kept-is kept (Some (Volume layout)) fits.fitted (omega (arith, fits.phase)) (fits.unrated refl) (nil_from_length kept.tail fits.count))
turn-shape (Depth bits channels) kept tables gain input want is fits have =
    shape-fresh (Depth bits channels) kept tables gain input want is have (kept-is kept (Some (Depth bits channels)) fits.fitted (omega (arith, fits.phase)) (fits.unrated refl) (nil_from_length kept.tail fits.count))
turn-shape (Eq channels sections) kept tables gain input want is fits have =
    let spec = Eq channels sections in
    let list = sections_of tables sections in
    let given = (turn_of spec kept tables gain input want).given in
    let few : given ≡ min want (length input) =
    ap (λ p. given_by unchanged p kept.ahead (length input) want) (omega (arith, fits.phase))
    ∙ ap (λ a. given_by unchanged 0 a (length input) want) (fits.unrated refl)
    ∙ given-unrated (length input) want in
    let P : Frame → Type 0 = λ (frame : Frame). length frame ≡ channels in
    let long : length kept.tail ≡ 2 + 2 * length list = fits.count ∙ ap (λ n. 2 + 2 * n) (sym (length-sections_of tables sections)) in
    rw (turn-fitted spec kept tables gain input want fits.fitted) (record {
      count = length-on channels list kept.tail (take given input) long ∙ length-take-le given input (omega (arith, few));
      channels = on-channels channels list kept.tail (take given input) fits.frames (All-take P given input have);
    })

-- ---- samples and frames

pub length-first_frames : (n c : ℕ) (samples : List ℤ) → 0 < c → n * c ≤ length samples → length (first_frames n c samples) ≡ n
length-first_frames n c samples above room =
    length-frames_of c (take (n * c) samples) ∙ ap (λ k. k / c) (length-take-le (n * c) samples room) ∙ mul-div_cancel n above

-- a feed of the first samples is what the stage does with the first frames
pub feeds : (keeps : Spec → Kept) (tables : Filters) (gain : Gain) (want : ℕ) (spec : Spec) (n source : ℕ) (samples : List ℤ) → IsFitted spec (keeps spec) → channels_in spec ≡ source → 0 < source
    → n * source ≤ length samples
    → fed (keeps spec) tables gain (take (n * channels_in spec) samples) (asked spec want n) ≡ turn_in keeps tables gain want spec (first_frames n source samples)
feeds keeps tables gain want spec n source samples fits same above room =
    fed-fitted spec (keeps spec) tables gain (take (n * channels_in spec) samples) (asked spec want n) fits.fitted
    ∙ ap (λ c. turn (keeps spec) tables gain (first_frames n c samples) (asked spec want n)) same
    ∙ ap (λ m. turn (keeps spec) tables gain (first_frames n source samples) (asked spec want m)) (sym (length-first_frames n source samples above room))

-- the first frames of an untouched list of samples, written to a buffer
pub written-front : (n c : ℕ) (samples out : List ℤ) → n * c ≤ length samples → take (n * c) samples ++ drop (n * c) out ≡ written (first_frames n c samples) out
written-front n c samples out room =
    let even : length (take (n * c) samples) % c ≡ 0 = whole-front n n c samples (omega arith) room in
    let same = interleaved-frames_of c (take (n * c) samples) even in
    ap (λ k. take (n * c) samples ++ drop k out) (sym (length-take-le (n * c) samples room))
    ∙ ap (λ list. list ++ drop (length list) out) (sym same)

-- ---- one stage, and those after it

-- frames go through stages whatever other boxes keep
through-same : (old mid : Spec → Kept) (tables : Filters) (gain : Gain) (want : ℕ) (specs : List Spec) (input : List Frame) → All (λ spec. mid spec ≡ old spec) specs
    → fed_through mid tables gain want specs input ≡ fed_through old tables gain want specs input
through-same old mid tables gain want [] input same = refl
through-same old mid tables gain want (spec ∷ specs) input same =
    let Same : Spec → Type 0 = λ s. mid s ≡ old s in
    ap (λ kept. fed_through mid tables gain want specs (turn kept tables gain input (asked spec want (length input))).frames) (All-head Same spec specs same)
    ∙ through-same old mid tables gain want specs (turn_in old tables gain want spec input).frames (All-tail Same spec specs same)

fed-same : (old mid new : Spec → Kept) (tables : Filters) (gain : Gain) (want : ℕ) (specs : List Spec) (input : List Frame) → All (λ spec. mid spec ≡ old spec) specs
    → AreFed mid new tables gain want specs input → AreFed old new tables gain want specs input
fed-same old mid new tables gain want [] input same h = tt
fed-same old mid new tables gain want (spec ∷ specs) input same h =
    let Same : Spec → Type 0 = λ s. mid s ≡ old s in
    let here = All-head Same spec specs same in
    let P : Kept → Type 0 = λ kept. AreFed mid new tables gain want specs (turn kept tables gain input (asked spec want (length input))).frames in (
      h.0 ∙ ap (λ kept. (turn kept tables gain input (asked spec want (length input))).kept) here,
      fed-same old mid new tables gain want specs (turn_in old tables gain want spec input).frames (All-tail Same spec specs same) (subst P here h.1),
    )

-- the stages in a slice: the first one, and the others
pub stages-cut : (stages : List Spec) (d : Spec) → length stages ≢ 0 → stages ≡ get_or stages 0 d ∷ take (length stages - 1) (drop 1 stages)
stages-cut [] d some = absurd (some refl)
stages-cut (spec ∷ rest) d some = ap (λ list. spec ∷ list) (sym (take_all (length (spec ∷ rest) - 1) rest (omega arith)))

-- the others are of other kinds, so their boxes keep what they kept
others-keep : {B : Type 0} (kept : B → Kept) (old mid : SevenOf B) (spec : Spec) (rest : List Spec) → All (λ other. kind_of spec ≢ kind_of other) rest
    → ((other : Spec) → kind_of other ≢ kind_of spec → kept_in kept mid other ≡ kept_in kept old other) → All (λ s. kept_in kept mid s ≡ kept_in kept old s) rest
others-keep kept old mid spec rest differ others k d below = others (get_or rest k d) (λ same. differ k d below (sym same))

-- what the stages after the first one require
pub record AskOn {B : Type 0} (kept : B → Kept) (boxes : SevenOf B) (filters : Filters) (given want source space : ℕ) (rest : List Spec) : Type 0 where
  pub limits : All IsSpec rest
  pub distinct : AreDistinct rest
  pub fitted : HaveFitted kept boxes rest
  pub tables : HaveTables rest filters
  pub channels : AreChannels source
  pub offered : given ≤ 256
  pub level : rate_among rest ≡ unchanged → given ≤ want
  pub room : HaveRoom source rest want space

level-on : (spec : Spec) (rest : List Spec) (frames given want : ℕ) → (rate_among (spec ∷ rest) ≡ unchanged → frames ≤ want) → given ≤ asked spec want frames
    → rate_among rest ≡ unchanged → given ≤ want
level-on (Matrix from to) rest frames given want level most still = omega (arith, level still)
level-on (Hold src dst channels) rest frames given want level most still = most
level-on (Linear src dst channels) rest frames given want level most still = most
level-on (Poly src dst channels table taps) rest frames given want level most still = most
level-on (Volume layout) rest frames given want level most still = omega (arith, level still)
level-on (Depth bits channels) rest frames given want level most still = omega (arith, level still)
level-on (Eq channels sections) rest frames given want level most still = omega (arith, level still)

-- what is asked of a stage fits a block
pub asked-most : (spec : Spec) (want frames : ℕ) → want ≤ 256 → frames ≤ 256 → asked spec want frames ≤ 256
asked-most (Matrix from to) want frames w f = f
asked-most (Hold src dst channels) want frames w f = w
asked-most (Linear src dst channels) want frames w f = w
asked-most (Poly src dst channels table taps) want frames w f = w
asked-most (Volume layout) want frames w f = f
asked-most (Depth bits channels) want frames w f = f
asked-most (Eq channels sections) want frames w f = f

pub ask-on : {B : Type 0} (kept : B → Kept) (old mid : SevenOf B) (tables : Filters) (frames given want source room : ℕ) (stages : List Spec) (spec : Spec) (rest : List Spec) → stages ≡ spec ∷ rest
    → All IsSpec stages → AreDistinct stages → HaveFitted kept old stages → HaveTables stages tables → frames ≤ 256 → want ≤ 256
    → (rate_among stages ≡ unchanged → frames ≤ want) → HaveRoom source stages want room → given ≤ asked spec want frames
    → ((other : Spec) → kind_of other ≢ kind_of spec → kept_in kept mid other ≡ kept_in kept old other)
    → AskOn kept mid tables given want (channels_out spec) room rest
ask-on kept old mid tables frames given want source room stages spec rest cut limits distinct fitted filters few wanted level has most others =
    let P : Spec → Type 0 = λ s. IsFitted s (kept_in kept old s) in
    let different = rw cut at distinct in
    let keep = others-keep kept old mid spec rest different.0 others in
    let Levels : List Spec → Type 0 = λ list. rate_among list ≡ unchanged → frames ≤ want in
    let Rooms : List Spec → Type 0 = λ list. HaveRoom source list want room in
    let space = subst Rooms cut has in
    let follow = space.follow in
    record {
      limits = All-tail IsSpec spec rest (subst (λ list. All IsSpec list) cut limits);
      distinct = different.1;
      fitted = λ k d below. rw (keep k d below) (All-tail P spec rest (subst (λ list. All P list) cut fitted) k d below);
      tables = All-tail (λ s. HasTable s tables) spec rest (subst (λ list. All (λ s. HasTable s tables) list) cut filters);
      channels = channels-given spec (All-head IsSpec spec rest (subst (λ list. All IsSpec list) cut limits));
      offered = omega (arith, asked-most spec want frames wanted few);
      level = level-on spec rest frames given want (subst Levels cut level) most;
      room = record { target = space.target; follow = follow.1; room_is = space.room_is };
    }

-- ---- what comes of it

-- the frames of a feed stand at the front of the buffer that it gave to
pub given-front : (keeps : Spec → Kept) (tables : Filters) (gain : Gain) (want : ℕ) (spec : Spec) (n given source : ℕ) (samples next old : List ℤ) → IsSpec spec → IsFitted spec (keeps spec)
    → channels_in spec ≡ source → 0 < source → n * source ≤ length samples
    → given ≡ (fed (keeps spec) tables gain (take (n * channels_in spec) samples) (asked spec want n)).given
    → next ≡ written (fed (keeps spec) tables gain (take (n * channels_in spec) samples) (asked spec want n)).frames old
    → first_frames given (channels_out spec) next ≡ (turn_in keeps tables gain want spec (first_frames n source samples)).frames
given-front keeps tables gain want spec n given source samples next old is fits same above room gives are =
    let input = first_frames n source samples in
    let done = turn_in keeps tables gain want spec input in
    let does = feeds keeps tables gain want spec n source samples fits same above room in
    let shape = turn-shape spec (keeps spec) tables gain input (asked spec want (length input)) is fits (rw same (frames_of-channels source (take (n * source) samples))) in
    let out = channels-given spec is in
    ap (first_frames given (channels_out spec)) (are ∙ ap (λ (t : Turn). written t.frames old) does)
    ∙ ap (λ k. first_frames k (channels_out spec) (written done.frames old)) (gives ∙ ap (λ (t : Turn). t.given) does)
    ∙ frames-written (channels_out spec) done.given done.frames old (omega (arith, out.least)) shape.channels shape.count

-- the stages behind one decide
bits-behind : (spec : Spec) (rest : List Spec) → 0 < length rest → bits_left (spec ∷ rest) ≡ bits_left rest
bits-behind spec [] some = absurd (omega arith)
bits-behind spec (next ∷ rest) some = refl

-- frames that went through one stage, and then through the others, went through all
pub gone-on : {B : Type 0} (kept : B → Kept) (old mid new : SevenOf B) (tables : Filters) (gain : Gain) (want : ℕ) (stages : List Spec) (spec : Spec) (rest : List Spec) (input next : List Frame) (given : ℕ) (before after : List ℤ)
    → stages ≡ spec ∷ rest → 0 < length rest → AreDistinct stages
    → ((other : Spec) → kind_of other ≢ kind_of spec → kept_in kept mid other ≡ kept_in kept old other)
    → kept_in kept mid spec ≡ (turn_in (kept_in kept old) tables gain want spec input).kept → next ≡ (turn_in (kept_in kept old) tables gain want spec input).frames
    → ((other : Spec) → All (λ s. kind_of other ≢ kind_of s) rest → kept_in kept new other ≡ kept_in kept mid other)
    → GoneThrough (kept_in kept mid) (kept_in kept new) tables gain want rest next given before after
    → GoneThrough (kept_in kept old) (kept_in kept new) tables gain want stages input given before after
gone-on kept old mid new tables gain want stages spec rest input next given before after cut some distinct others here are stay h =
    let different = rw cut at distinct in
    let keep = others-keep kept old mid spec rest different.0 others in
    let through = through-same (kept_in kept old) (kept_in kept mid) tables gain want rest next keep ∙ ap (fed_through (kept_in kept old) tables gain want rest) are in
    let P : List Frame → Type 0 = λ list. AreFed (kept_in kept old) (kept_in kept new) tables gain want rest list in
    rw cut (record {
      fed = (stay spec different.0 ∙ here, subst P are (fed-same (kept_in kept old) (kept_in kept mid) (kept_in kept new) tables gain want rest next keep h.fed));
      given = h.given ∙ ap length through;
      bits = subst (HaveBits (bits_left (spec ∷ rest))) through (subst (λ bits. HaveBits bits (fed_through (kept_in kept mid) tables gain want rest next)) (sym (bits-behind spec rest some)) h.bits);
      out = h.out ∙ ap (λ list. written list before) through;
    })

-- the last stage gives what comes out of them all
pub gone-last : (old new : Spec → Kept) (tables : Filters) (gain : Gain) (want : ℕ) (stages : List Spec) (spec : Spec) (rest : List Spec) (n source given : ℕ) (samples before after : List ℤ)
    → stages ≡ spec ∷ rest → length rest ≡ 0 → IsSpec spec → IsFitted spec (old spec) → channels_in spec ≡ source → 0 < source → n * source ≤ length samples
    → new spec ≡ (fed (old spec) tables gain (take (n * channels_in spec) samples) (asked spec want n)).kept
    → given ≡ (fed (old spec) tables gain (take (n * channels_in spec) samples) (asked spec want n)).given
    → HaveBits (bits_after spec) (fed (old spec) tables gain (take (n * channels_in spec) samples) (asked spec want n)).frames
    → after ≡ written (fed (old spec) tables gain (take (n * channels_in spec) samples) (asked spec want n)).frames before
    → GoneThrough old new tables gain want stages (first_frames n source samples) given before after
gone-last old new tables gain want stages spec rest n source given samples before after cut none is fits same above room keeps gives have are =
    let input = first_frames n source samples in
    let does = feeds old tables gain want spec n source samples fits same above room in
    let shape = turn-shape spec (old spec) tables gain input (asked spec want (length input)) is fits (rw same (frames_of-channels source (take (n * source) samples))) in
    let alone : stages ≡ spec ∷ [] = cut ∙ ap (λ list. spec ∷ list) (nil_from_length rest none) in
    rw alone (record {
      fed = (keeps ∙ ap (λ (t : Turn). t.kept) does, tt);
      given = gives ∙ ap (λ (t : Turn). t.given) does ∙ sym shape.count;
      bits = subst (λ (t : Turn). HaveBits (bits_after spec) t.frames) does have;
      out = are ∙ ap (λ (t : Turn). written t.frames before) does;
    })

-- without a stage what comes in comes out
pub gone-none : (old new : Spec → Kept) (tables : Filters) (gain : Gain) (want : ℕ) (stages : List Spec) (n source : ℕ) (samples before : List ℤ) → length stages ≡ 0 → AreChannels source → n * source ≤ length samples
    → HaveBits 32 (first_frames n source samples)
    → GoneThrough old new tables gain want stages (first_frames n source samples) n before (take (n * source) samples ++ drop (n * source) before)
gone-none old new tables gain want [] n source samples before none are room have = record {
  fed = tt;
  given = sym (length-first_frames n source samples (omega (arith, are.least)) room);
  bits = have;
  out = written-front n source samples before room;
}
gone-none old new tables gain want (spec ∷ stages) n source samples before none are room have = absurd (omega (arith, none))

-- the samples of a block have room
pub block-room : (n c : ℕ) → n ≤ 256 → AreChannels c → n * c ≤ 2048
block-room n c few are = mul-le-mul few are.most

-- what holds of the first stage, and of the others
pub record AtHead {B : Type 0} (kept : B → Kept) (boxes : SevenOf B) (from : ℕ) (stages : List Spec) (spec : Spec) (rest : List Spec) : Type 0 where
  pub limits : IsSpec spec
  pub fitted : IsFitted spec (kept_in kept boxes spec)
  pub source : channels_in spec ≡ from
  pub first : (other : Spec) → All (λ s. kind_of other ≢ kind_of s) stages → kind_of other ≢ kind_of spec
  pub behind : (other : Spec) → All (λ s. kind_of other ≢ kind_of s) stages → All (λ s. kind_of other ≢ kind_of s) rest

pub at-head : {B : Type 0} (kept : B → Kept) (boxes : SevenOf B) (from want space : ℕ) (stages : List Spec) (spec : Spec) (rest : List Spec) → stages ≡ spec ∷ rest
    → All IsSpec stages → HaveFitted kept boxes stages → HaveRoom from stages want space → AtHead kept boxes from stages spec rest
at-head kept boxes from want space stages spec rest cut limits fitted has =
    let P : Spec → Type 0 = λ s. IsFitted s (kept_in kept boxes s) in
    let Rooms : List Spec → Type 0 = λ list. HaveRoom from list want space in
    let room = subst Rooms cut has in
    let follow = room.follow in
    record {
      limits = All-head IsSpec spec rest (subst (λ list. All IsSpec list) cut limits);
      fitted = All-head P spec rest (subst (λ list. All P list) cut fitted);
      source = follow.0;
      first = λ other differ. All-head (λ s. kind_of other ≢ kind_of s) spec rest (subst (λ list. All (λ s. kind_of other ≢ kind_of s) list) cut differ);
      behind = λ other differ. All-tail (λ s. kind_of other ≢ kind_of s) spec rest (subst (λ list. All (λ s. kind_of other ≢ kind_of s) list) cut differ);
    }

-- boxes that were fed stay fitted
pub fed-fits : (old new : Spec → Kept) (tables : Filters) (gain : Gain) (want : ℕ) (specs : List Spec) (c d : ℕ) (input : List Frame) → All IsSpec specs → All (λ spec. IsFitted spec (old spec)) specs
    → Follow c specs d → HaveChannels c input → AreFed old new tables gain want specs input → All (λ spec. IsFitted spec (new spec)) specs
fed-fits old new tables gain want [] c d input limits fitted follow have fed = All-nil (λ spec. IsFitted spec (new spec))
fed-fits old new tables gain want (spec ∷ specs) c d input limits fitted follow have fed =
    let Old : Spec → Type 0 = λ s. IsFitted s (old s) in
    let New : Spec → Type 0 = λ s. IsFitted s (new s) in
    let is = All-head IsSpec spec specs limits in
    let fits = All-head Old spec specs fitted in
    let whole : HaveChannels (channels_in spec) input = rw follow.0 have in
    let shape = turn-shape spec (old spec) tables gain input (asked spec want (length input)) is fits whole in
    let after : IsFitted spec (turn_in old tables gain want spec input).kept = turn-fits spec (old spec) tables gain input (asked spec want (length input)) is fits whole in
    let here : IsFitted spec (new spec) = rw fed.0 after in
    All-cons New spec specs here
    (fed-fits old new tables gain want specs (channels_out spec) d (turn_in old tables gain want spec input).frames (All-tail IsSpec spec specs limits) (All-tail Old spec specs fitted) follow.1 shape.channels fed.1)
