-- How far stages are after a block went through them, whatever frames they were.
use Rattle.std.proofs.Common.{◌≡◌, ◌≤◌, ◌+◌, ◌-◌, ◌*◌, ◌/◌, min, max, ℕ, pos, ◌+ℤ◌, ◌-ℤ◌, List, [], ◌∷◌, ◌++◌, length, take, replicate, All, refl, sym, ap, ◌∙◌, subst, arith}
use Rattle.std.proofs.lemmas.List.{length-append, length-replicate, length-take-le}
use Rattle.std.proofs.lemmas.List.Elements.{All-nil, All-cons, All-head, All-tail, All-replicate}
use Rattle.pcm_format.specs.Frames.{Frame}
use Rattle.pcm_format.specs.Layouts.{channels_of}
use Rattle.pcm_rate.specs.declared.rate.Rate.{Rate}
use Rattle.pcm_rate.specs.Rates.{need, can, unchanged}
use Rattle.pcm_rate.proofs.Counts.{need-unchanged, can-unchanged}
use Rattle.pcm_feeder.specs.declared.stage.Gain.{Gain}
use Rattle.pcm_feeder.specs.declared.stage.Spec.{Spec}
use Rattle.pcm_feeder.specs.declared.stage.Spec.TheVariants.{Matrix, Hold, Linear, Poly, Volume, Depth, Eq}
use Rattle.pcm_feeder.specs.Filters.{Filters}
use Rattle.pcm_feeder.specs.Kept.{Kept, past, IsFitted, StandsFor}
use Rattle.pcm_feeder.specs.Limits.{IsSpec}
use Rattle.pcm_feeder.specs.Stages.{rate_of, channels_in, channels_out}
use Rattle.pcm_feeder.specs.Streams.{silence, HaveChannels}
use Rattle.pcm_feeder.specs.Turns.{step_of, phase_of, eaten_by, given_by, turn, turn_of, Turn, Continues}
use Rattle.pcm_feeder.proofs.Fitted.{StandsFor-fitted, turn-fits}
use Rattle.pcm_feeder.proofs.Turns.{turn-continues, turn-fitted, given-unchanged}
use Rattle.pcm_plan.specs.Plans.{rate_among}
use Rattle.pcm_plan.specs.Fits.{Follow, IsUnrated, HaveOneRate}
use Rattle.pcm_plan.proofs.Fits.{one-rate-unrated}
use Rattle.pcm_chain.specs.declared.chain.ChainOf.{ChainOf}
use Rattle.pcm_chain.specs.Boxes.{kept_in}
use Rattle.pcm_chain.specs.Chains.{AreFitted, ChainStands, StagesStand}
use Rattle.pcm_chain.specs.Far.{silent_frames, IsSoFar, AreSoFar, ChainIsSoFar}
use Rattle.pcm_chain.specs.Feeds.{asked, turn_in, fed_through, AreFed}
use Rattle.pcm_chain.proofs.Feeding.{HasShape, turn-shape}

-- ---- counts

-- Stages that have eaten `eaten` frames and given `before` frames are offered more, all of which they eat, and give m of those wanted.
pub record Asks (rate : Rate) (eaten before offered want m : ℕ) : Type 0 where
  pub all : eaten + offered ≡ max eaten (min (eaten + offered) (need rate (before + want)))
  pub gives : m ≡ min want (can rate (eaten + offered) - before)

-- without a change of rate what is given is what was offered
pub level-asks : (eaten offered want m : ℕ) → Asks unchanged eaten eaten offered want m → m ≡ offered
level-asks eaten offered want m asks = omega (arith, asks.all, asks.gives, need-unchanged (eaten + want), can-unchanged (eaten + offered))

-- stages that keep the rate have that of no change
pub rate-unrated : (specs : List Spec) → All IsUnrated specs → rate_among specs ≡ unchanged
rate-unrated [] level = refl
rate-unrated (Matrix from to ∷ specs) level = rate-unrated specs (All-tail IsUnrated (Matrix from to) specs level)
rate-unrated (Hold src dst channels ∷ specs) level = All-head IsUnrated (Hold src dst channels) specs level
rate-unrated (Linear src dst channels ∷ specs) level = All-head IsUnrated (Linear src dst channels) specs level
rate-unrated (Poly src dst channels table taps ∷ specs) level = All-head IsUnrated (Poly src dst channels table taps) specs level
rate-unrated (Volume layout ∷ specs) level = rate-unrated specs (All-tail IsUnrated (Volume layout) specs level)
rate-unrated (Depth bits channels ∷ specs) level = rate-unrated specs (All-tail IsUnrated (Depth bits channels) specs level)
rate-unrated (Eq channels sections ∷ specs) level = rate-unrated specs (All-tail IsUnrated (Eq channels sections) specs level)

-- ---- what stands for frames is as far as these are many

-- a feeder is as far as one that stands for frames, where both keep the same of their counts
as-far : (spec : Spec) (tables : Filters) (one kept : Kept) (x : List Frame) (eaten given : ℕ) → StandsFor spec tables one x given → length x ≡ eaten
    → IsFitted spec kept → kept.phase ≡ one.phase → kept.ahead ≡ one.ahead → IsSoFar spec tables kept eaten given
as-far spec tables one kept x eaten given h long fits phase ahead =
    let s = silence (channels_in spec) in
    let count = length-replicate eaten s in
    let total : length x ≡ length (silent_frames spec eaten) = long ∙ sym count in
    record {
      fitted = fits;
      stands = record {
        fitted = fits.fitted;
        phase = phase ∙ h.phase;
        ahead = ap (λ z. z +ℤ pos (given * (rate_of spec).src / (rate_of spec).dst)) ahead ∙ h.ahead ∙ ap pos total;
        least = omega (arith, h.least, total);
        most = omega (arith, h.most, total);
        tail = refl;
        frames = All-replicate (λ (frame : Frame). length frame ≡ channels_in spec) eaten s (length-replicate (channels_in spec) (pos 0));
      };
    }

pub stands-far : (spec : Spec) (tables : Filters) (kept : Kept) (x : List Frame) (given : ℕ) → IsSpec spec → StandsFor spec tables kept x given → IsSoFar spec tables kept (length x) given
stands-far spec tables kept x given is h = as-far spec tables kept kept x (length x) given h refl (StandsFor-fitted spec tables kept x given is h) refl refl

pub stages-far : (keeps : Spec → Kept) (tables : Filters) (specs : List Spec) (x : List Frame) (given : ℕ) → All IsSpec specs → StagesStand keeps tables specs x given → AreSoFar keeps tables specs (length x) given
stages-far keeps tables [] x given limits h = h
stages-far keeps tables (spec ∷ specs) x given limits h = (
  length h.0,
  stands-far spec tables (keeps spec) x (length h.0) (All-head IsSpec spec specs limits) h.1,
  stages-far keeps tables specs h.0 given (All-tail IsSpec spec specs limits) h.3,
)

pub chain-far : {B : Type 0} (kept : B → Kept) (tables : Filters) (chain : ChainOf B) (x : List Frame) (zeros given : ℕ) → ChainStands kept tables chain x zeros given → ChainIsSoFar kept tables chain (length x) zeros given
chain-far kept tables chain x zeros given h =
    let s = silence (channels_of chain.plan.source) in
    let total : length (x ++ replicate zeros s) ≡ length x + zeros = omega (arith, length-append x (replicate zeros s), length-replicate zeros s) in
    record {
      fits = h.fits;
      counts = h.counts;
      silent = h.silent;
      stages = subst (λ n. AreSoFar (kept_in kept chain.boxes) tables chain.plan.stages n given) total (stages-far (kept_in kept chain.boxes) tables chain.plan.stages (x ++ replicate zeros s) given h.fits.specs h.stages);
    }

-- ---- what is so far is fitted

stages-fitted : (keeps : Spec → Kept) (tables : Filters) (specs : List Spec) (eaten given : ℕ) → AreSoFar keeps tables specs eaten given → All (λ spec. IsFitted spec (keeps spec)) specs
stages-fitted keeps tables [] eaten given h = All-nil (λ spec. IsFitted spec (keeps spec))
stages-fitted keeps tables (spec ∷ specs) eaten given h =
    let here = h.1 in
    All-cons (λ s. IsFitted s (keeps s)) spec specs here.fitted (stages-fitted keeps tables specs h.0 given h.2)

pub far-fitted : {B : Type 0} (kept : B → Kept) (tables : Filters) (chain : ChainOf B) (eaten zeros given : ℕ) → ChainIsSoFar kept tables chain eaten zeros given → AreFitted kept chain
far-fitted kept tables chain eaten zeros given h = stages-fitted (kept_in kept chain.boxes) tables chain.plan.stages (eaten + zeros) given h.stages

-- ---- one feed

-- what a feed does to a feeder that is so far
pub record TurnsFar (spec : Spec) (tables : Filters) (eaten given offered want : ℕ) (turned : Turn) : Type 0 where
  pub total : eaten + turned.eaten ≡ max eaten (min (eaten + offered) (need (rate_of spec) (given + want)))
  pub gives : turned.given ≡ min want (can (rate_of spec) (eaten + offered) - given)
  pub far : IsSoFar spec tables turned.kept (eaten + turned.eaten) (given + turned.given)
  pub count : length turned.frames ≡ turned.given
  pub channels : HaveChannels (channels_out spec) turned.frames

-- it is what a feed of silent frames does to one that has eaten silent ones
turn-far : (spec : Spec) (kept : Kept) (tables : Filters) (gain : Gain) (input : List Frame) (eaten given want : ℕ) → IsSpec spec → IsSoFar spec tables kept eaten given
    → HaveChannels (channels_in spec) input → TurnsFar spec tables eaten given (length input) want (turn kept tables gain input want)
turn-far spec kept tables gain input eaten given want is h have =
    let s = silence (channels_in spec) in
    let rate = rate_of spec in
    let x = silent_frames spec eaten in
    let quiet = silent_frames spec (length input) in
    let one : Kept = record kept { tail = past spec tables x } in
    let silent = All-replicate (λ (frame : Frame). length frame ≡ channels_in spec) (length input) s (length-replicate (channels_in spec) (pos 0)) in
    let goes = subst (λ (t : Turn). Continues spec tables gain x given quiet want t) (turn-fitted spec one tables gain quiet want h.fitted.fitted)
    (turn-continues spec one tables gain x quiet given want is h.stands silent) in
    let before = length-replicate eaten s in
    let offered = length-replicate (length input) s in
    let eats = ap (λ n. eaten_by rate kept.phase kept.ahead n want) offered in
    let makes = ap (λ n. given_by rate kept.phase kept.ahead n want) offered in
    let all : length x + length quiet ≡ eaten + length input = omega (arith, before, offered) in
    let e = eaten_by rate kept.phase kept.ahead (length input) want in
    let g = given_by rate kept.phase kept.ahead (length input) want in
    let done = turn_of spec one tables gain quiet want in
    let long : length (x ++ take done.eaten quiet) ≡ eaten + e = omega (arith, length-append x (take done.eaten quiet), length-take-le done.eaten quiet goes.within, before, eats) in
    let fits = subst (λ (t : Turn). IsFitted spec t.kept) (turn-fitted spec kept tables gain input want h.fitted.fitted) (turn-fits spec kept tables gain input want is h.fitted have) in
    let shape = subst (λ (t : Turn). HasShape spec t) (turn-fitted spec kept tables gain input want h.fitted.fitted) (turn-shape spec kept tables gain input want is h.fitted have) in
    rw (turn-fitted spec kept tables gain input want h.fitted.fitted) (record {
      total = omega (arith, goes.eaten, before, offered, eats);
      gives = omega (arith, goes.given, makes, ap (can rate) all);
      far = as-far spec tables done.kept (turn_of spec kept tables gain input want).kept (x ++ take done.eaten quiet) (eaten + e) (given + g)
          (subst (λ n. StandsFor spec tables done.kept (x ++ take done.eaten quiet) (given + n)) makes goes.stands) long fits
          (ap (phase_of rate kept.phase) (sym makes))
          (ap (λ n. kept.ahead +ℤ pos n -ℤ pos (step_of rate kept.phase g)) (sym eats) ∙ ap (λ n. kept.ahead +ℤ pos done.eaten -ℤ pos (step_of rate kept.phase n)) (sym makes));
      count = shape.count;
      channels = shape.channels;
    })

-- ---- stages that keep the rate

-- such a stage has eaten as many frames as it has given
level-far : (spec : Spec) (tables : Filters) (kept : Kept) (eaten given : ℕ) → IsUnrated spec → IsSoFar spec tables kept eaten given → eaten ≡ given
level-far spec tables kept eaten given level h =
    sym (length-replicate eaten (silence (channels_in spec)))
    ∙ given-unchanged spec tables (record kept { tail = past spec tables (silent_frames spec eaten) }) (silent_frames spec eaten) given level h.stands

-- and so have several
pub stages-level : (keeps : Spec → Kept) (tables : Filters) (specs : List Spec) (eaten given : ℕ) → All IsUnrated specs → AreSoFar keeps tables specs eaten given → eaten ≡ given
stages-level keeps tables [] eaten given level h = h
stages-level keeps tables (spec ∷ specs) eaten given level h =
    level-far spec tables (keeps spec) eaten h.0 (All-head IsUnrated spec specs level) h.1
    ∙ stages-level keeps tables specs h.0 given (All-tail IsUnrated spec specs level) h.2

-- ---- the first stage

-- what the first stage does with a block, and what it leaves to the others
pub record HeadFar (keeps : Spec → Kept) (tables : Filters) (gain : Gain) (want : ℕ) (spec : Spec) (specs : List Spec) (total middle : ℕ) (input : List Frame) (before m : ℕ) : Type 0 where
  pub goes : TurnsFar spec tables total middle (length input) (asked spec want (length input)) (turn_in keeps tables gain want spec input)
  pub eaten : (turn_in keeps tables gain want spec input).eaten ≡ length input
  pub asks : Asks (rate_among specs) middle before (length (turn_in keeps tables gain want spec input).frames) want m
  pub one : HaveOneRate specs

-- a stage that keeps the rate gives all frames that it is offered
head-level : (keeps : Spec → Kept) (tables : Filters) (gain : Gain) (want : ℕ) (spec : Spec) (specs : List Spec) (total middle : ℕ) (input : List Frame) (before m : ℕ) → IsSpec spec → IsUnrated spec
    → asked spec want (length input) ≡ length input → IsSoFar spec tables (keeps spec) total middle → HaveChannels (channels_in spec) input → HaveOneRate specs
    → Asks (rate_among specs) total before (length input) want m → HeadFar keeps tables gain want spec specs total middle input before m
head-level keeps tables gain want spec specs total middle input before m is level wanted far have one asks =
    let turned = turn_in keeps tables gain want spec input in
    let o = length input in
    let goes = turn-far spec (keeps spec) tables gain input total middle (asked spec want o) is far have in
    let same = level-far spec tables (keeps spec) total middle level far in
    let all = ap (λ r. need r (middle + asked spec want o)) level ∙ need-unchanged (middle + asked spec want o) in
    let fits = ap (λ r. can r (total + o)) level ∙ can-unchanged (total + o) in
    let eaten : turned.eaten ≡ o = omega (arith, goes.total, all, same, wanted) in
    let count : length turned.frames ≡ o = omega (arith, goes.count, goes.gives, fits, same, wanted) in
    record { goes = goes; eaten = eaten; asks = rw (← same, count) asks; one = one }

-- a stage that changes the rate gives what is wanted
head-rated : (keeps : Spec → Kept) (tables : Filters) (gain : Gain) (want : ℕ) (spec : Spec) (specs : List Spec) (total middle : ℕ) (input : List Frame) (before m : ℕ) → IsSpec spec → All IsUnrated specs
    → asked spec want (length input) ≡ want → IsSoFar spec tables (keeps spec) total middle → AreSoFar keeps tables specs middle before → HaveChannels (channels_in spec) input
    → Asks (rate_of spec) total before (length input) want m → HeadFar keeps tables gain want spec specs total middle input before m
head-rated keeps tables gain want spec specs total middle input before m is level wanted far rest have asks =
    let turned = turn_in keeps tables gain want spec input in
    let o = length input in
    let goes = turn-far spec (keeps spec) tables gain input total middle (asked spec want o) is far have in
    let same = stages-level keeps tables specs middle before level rest in
    let more : middle + asked spec want o ≡ before + want = omega (arith, same, wanted) in
    let eaten : turned.eaten ≡ o = omega (arith, goes.total, ap (need (rate_of spec)) more, asks.all) in
    let gives : turned.given ≡ m = omega (arith, goes.gives, same, wanted, asks.gives) in
    let count : length turned.frames ≡ m = goes.count ∙ gives in
    let within : m ≤ want = omega (arith, asks.gives) in
    record {
      goes = goes;
      eaten = eaten;
      asks = rw (rate-unrated specs level, same, count) (record {
        all = omega (arith, within, need-unchanged (before + want));
        gives = omega (arith, within, can-unchanged (before + m));
      });
      one = one-rate-unrated specs level;
    }

pub head-far : (keeps : Spec → Kept) (tables : Filters) (gain : Gain) (want : ℕ) (spec : Spec) (specs : List Spec) (total middle : ℕ) (input : List Frame) (before m : ℕ) → IsSpec spec → HaveOneRate (spec ∷ specs)
    → IsSoFar spec tables (keeps spec) total middle → AreSoFar keeps tables specs middle before → HaveChannels (channels_in spec) input
    → Asks (rate_among (spec ∷ specs)) total before (length input) want m → HeadFar keeps tables gain want spec specs total middle input before m
head-far keeps tables gain want (Matrix from to) specs total middle input before m is one far rest have asks =
    head-level keeps tables gain want (Matrix from to) specs total middle input before m is refl refl far have one asks
head-far keeps tables gain want (Hold src dst channels) specs total middle input before m is one far rest have asks =
    head-rated keeps tables gain want (Hold src dst channels) specs total middle input before m is one refl far rest have asks
head-far keeps tables gain want (Linear src dst channels) specs total middle input before m is one far rest have asks =
    head-rated keeps tables gain want (Linear src dst channels) specs total middle input before m is one refl far rest have asks
head-far keeps tables gain want (Poly src dst channels table taps) specs total middle input before m is one far rest have asks =
    head-rated keeps tables gain want (Poly src dst channels table taps) specs total middle input before m is one refl far rest have asks
head-far keeps tables gain want (Volume layout) specs total middle input before m is one far rest have asks =
    head-level keeps tables gain want (Volume layout) specs total middle input before m is refl refl far have one asks
head-far keeps tables gain want (Depth bits channels) specs total middle input before m is one far rest have asks =
    head-level keeps tables gain want (Depth bits channels) specs total middle input before m is refl refl far have one asks
head-far keeps tables gain want (Eq channels sections) specs total middle input before m is one far rest have asks =
    head-level keeps tables gain want (Eq channels sections) specs total middle input before m is refl refl far have one asks

-- ---- all stages

-- stages that were offered a block have eaten all of it, and given m frames more, of as many channels as the last one gives
pub record AreFarther (now : Spec → Kept) (tables : Filters) (specs : List Spec) (eaten given m d : ℕ) (through : List Frame) : Type 0 where
  pub far : AreSoFar now tables specs eaten given
  pub count : length through ≡ m
  pub channels : HaveChannels d through

pub fed-far : (keeps now : Spec → Kept) (tables : Filters) (gain : Gain) (want : ℕ) (specs : List Spec) (c d total : ℕ) (input : List Frame) (before m : ℕ) → All IsSpec specs → HaveOneRate specs → Follow c specs d
    → AreSoFar keeps tables specs total before → HaveChannels c input → Asks (rate_among specs) total before (length input) want m → AreFed keeps now tables gain want specs input
    → AreFarther now tables specs (total + length input) (before + m) m d (fed_through keeps tables gain want specs input)
fed-far keeps now tables gain want [] c d total input before m limits one follow h have asks fed =
    let level : Asks unchanged total total (length input) want m = subst (λ n. Asks unchanged total n (length input) want m) (sym h) asks in
    let same = level-asks total (length input) want m level in
    record { far = omega (arith, h, same); count = sym same; channels = subst (λ n. HaveChannels n input) follow have }
fed-far keeps now tables gain want (spec ∷ specs) c d total input before m limits one follow h have asks fed =
    let is = All-head IsSpec spec specs limits in
    let turned = turn_in keeps tables gain want spec input in
    let head = head-far keeps tables gain want spec specs total h.0 input before m is one h.1 h.2 (rw follow.0 have) asks in
    let goes = head.goes in
    let rest = fed-far keeps now tables gain want specs (channels_out spec) d h.0 turned.frames before m (All-tail IsSpec spec specs limits) head.one follow.1 h.2 goes.channels head.asks fed.1 in
    let same : h.0 + turned.given ≡ h.0 + length turned.frames = ap (λ n. h.0 + n) (sym goes.count) in
    record {
      far = (
        h.0 + length turned.frames,
        subst (λ k. IsSoFar spec tables k (total + length input) (h.0 + length turned.frames)) (sym fed.0)
            (subst (λ n. IsSoFar spec tables turned.kept n (h.0 + length turned.frames)) (ap (λ n. total + n) head.eaten)
            (subst (λ n. IsSoFar spec tables turned.kept (total + turned.eaten) n) same goes.far)),
        rest.far,
      );
      count = rest.count;
      channels = rest.channels;
    }
