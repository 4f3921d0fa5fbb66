-- What a refill leaves of a channel, from what a pull of its chain means.
use Rattle.std.proofs.Common.{◌≡◌, ℕ, ◌+◌, ◌-◌, ◌*◌, ◌/◌, ◌<◌, ◌≤◌, Bool, true, false, List, [], ◌++◌, length, take, drop, ℤ, All, sym, ap, ◌∙◌, subst, arith}
use Rattle.std.proofs.lemmas.List.{take-append-drop, drop_all, nil_from_length}
use Rattle.pcm_num.specs.Limit.{FitsBits}
use Rattle.pcm_format.specs.declared.layout.Layout.{Layout}
use Rattle.pcm_format.specs.declared.settings.Settings.{Settings}
use Rattle.pcm_format.specs.Formats.{bits_of}
use Rattle.pcm_format.specs.Layouts.{channels_of}
use Rattle.pcm_format.specs.Frames.{Frame, frame_bytes, frames, whole_frames}
use Rattle.pcm_format.proofs.Streams.{frame_bytes-above, length-frames}
use Rattle.pcm_format.proofs.Whole.{frames_fit}
use Rattle.pcm_rate.specs.declared.rate.Rate.{Rate}
use Rattle.pcm_rate.proofs.Counts.{div_more}
use Rattle.pcm_feeder.specs.declared.stage.Gain.{Gain}
use Rattle.pcm_feeder.specs.Filters.{Filters}
use Rattle.pcm_feeder.specs.declared.kind.Kind.{Kind}
use Rattle.pcm_feeder.specs.Kept.{Kept}
use Rattle.pcm_feeder.specs.Racks.{HaveKinds}
use Rattle.pcm_feeder.specs.Limits.{IsGain, IsRate}
use Rattle.pcm_feeder.specs.Streams.{interleaved, written}
use Rattle.pcm_mix.specs.Mix.{mixed}
use Rattle.pcm_feeder.specs.Fades.{faded}
use Rattle.pcm_feeder.proofs.FadedBits.{faded-fits}
use Rattle.pcm_plan.specs.Plans.{PlanSeen, rate_in_plan}
use Rattle.pcm_plan.specs.Through.{outs}
use Rattle.pcm_plan.proofs.Through.{outs-channels, length-outs}
use Rattle.pcm_chain.specs.declared.chain.ChainOf.{ChainOf}
use Rattle.pcm_chain.specs.declared.chain.Pulled.{Pulled}
use Rattle.pcm_chain.specs.Bits.{bits_left}
use Rattle.pcm_chain.specs.Chains.{boxes_in, plan_in, ChainStands}
use Rattle.pcm_chain.specs.Pulls.{waiting_frames, GoesOnFar, IsFarBehind, IsPastTheEnd, Pulls, PullsAsFar, StandsBehind}
use Rattle.pcm_desk.specs.declared.play_book.PlayBook.{PlayBook}
use Rattle.pcm_desk.specs.Device.{DeviceSeen, IsDevice, device_filters, mix_settings, play_plan_between, device_quality, seen}
use Rattle.pcm_desk.specs.PlayBooks.{frames_written, giving, is_draining, is_started, play_fill_of, refilled}
use Rattle.pcm_desk.specs.Channels.{mixing, play_rate_at}
use Rattle.pcm_desk.proofs.Ratios.{plan-between-fits}
use Rattle.pcm_sound.specs.Gains.{book_gain}
use Rattle.pcm_sound.specs.Given.{given_samples}
use Rattle.pcm_sound.specs.Added.{turned}
use Rattle.pcm_sound.proofs.DeviceLists.{frames-channels}
use Rattle.pcm_sound.proofs.Stories.{IsSafeAt, safe-mixing}
use Rattle.pcm_play.specs.declared.channel.PlayChannelOf.{PlayChannelOf}
use Rattle.pcm_play.specs.Channels.{PlayStands, IsPlayPlanned, PlayIsSoFar, PlayMoves}
use Rattle.pcm_chain.proofs.Bits.{bits-played}
use Rattle.pcm_chain.proofs.Waiting.{frames-waiting, length-waiting}
use Rattle.pcm_oss.specs.declared.event.Way.TheVariants.{Play}
use Rattle.pcm_path.proofs.Paths.{front-written, planned-as}
use Rattle.pcm_play.proofs.Moving.{safe-at}
use Rattle.pcm_play.proofs.Held.{started-held}
use Rattle.pcm_play.proofs.Stands.{far-pulled, nothing-more, play-far, stands-pulled}
use Rattle.pcm_play.proofs.Refills.{Goes, PullsAsCounted, giving-none, refilled-goes, mixing-some, eaten-written, pulls-counted}

-- what a pull of a channel's chain does by the counts of its book, whatever the bytes of its run
pub record PullsByCount {B : Type 0} (kept : B → Kept) (device : DeviceSeen) (n : ℕ) (book : PlayBook) (new : ChainOf B) (pulled : Pulled) (out : List ℤ) : Type 0 where
  pub counted : PullsAsCounted (play_rate_at device book) n book pulled
  pub bits : All (FitsBits (bits_of (mix_settings device).format)) (take (pulled.given * channels_of (mix_settings device).layout) out)
  pub behind : IsFarBehind kept (device_filters device) (is_draining book.state) (frames_written book - book.eaten) new book.eaten book.given pulled

-- how many frames wait in a channel's ring
waiting-counted : {B : Type 0} (filters : Filters) (old : PlayChannelOf B) → IsPlayPlanned filters old
    → length (waiting_frames (plan_in old.path.chain) old.book.opening.settings.format old.path.ring.bytes) ≡ frames_written old.book - old.book.eaten
waiting-counted filters old planned =
    let book : PlayBook = old.book in
    let settings : Settings = book.opening.settings in
    let within = old.within in
    let more = div_more (play_fill_of book) book.written (frame_bytes settings) book.eaten (frame_bytes-above settings) (omega (arith, within)) in
    ap (λ (p : PlanSeen). length (waiting_frames p settings.format old.path.ring.bytes)) planned.plan_is
    ∙ length-waiting (play_plan_between (seen filters old.path.device) settings) settings.format old.path.ring.bytes
    ∙ ap (λ m. m / frame_bytes settings) old.fill
    ∙ omega (arith, more)

pub pulls-by-count : {B : Type 0} (kept : B → Kept) (filters : Filters) (old : PlayChannelOf B) (new : ChainOf B) (no_more : Bool) (n : ℕ) (pulled : Pulled) (out : List ℤ)
    → is_started old.book.state ≡ true → IsPlayPlanned filters old → no_more ≡ is_draining old.book.state
    → GoesOnFar kept filters no_more n old.book.opening.settings.format old.path.ring old.path.chain new pulled out
    → PlayIsSoFar kept filters old → PullsByCount kept (seen filters old.path.device) n old.book new pulled out
pulls-by-count {B = B} kept filters old new no_more n pulled out started planned drains goes far =
    let device : DeviceSeen = seen filters old.path.device in
    let book : PlayBook = old.book in
    let settings : Settings = book.opening.settings in
    let waiting : List Frame = waiting_frames (plan_in old.path.chain) settings.format old.path.ring.bytes in
    let count = waiting-counted filters old planned in
    let ending : GoesOnFar kept filters (is_draining book.state) n settings.format old.path.ring old.path.chain new pulled out = rw drains at goes in
    let p = ending book.eaten far.zeros book.given (far.chain_is (started-held book.state started)) (λ some.
    let over = far.ended some in
    (over.0, nil_from_length waiting (omega (arith, over.1, count)))) in
    record {
      counted = pulls-counted (play_rate_at device book) n book pulled started (eaten-written (play_rate_at device book) book (safe-at filters old planned))
          (subst (λ (plan : PlanSeen). PullsAsFar (rate_in_plan plan) (is_draining book.state) n book.eaten (frames_written book - book.eaten) book.given pulled) planned.plan_is
          (subst (λ m. PullsAsFar (rate_in_plan (plan_in old.path.chain)) (is_draining book.state) n book.eaten m book.given pulled) count p.far));
      bits = subst (λ k. All (FitsBits k) (take (pulled.given * channels_of (mix_settings device).layout) out)) (bits-played (device_filters device) (device_quality device) settings (mix_settings device))
          (subst (λ (plan : PlanSeen). All (FitsBits (bits_left plan.stages)) (take (pulled.given * channels_of plan.target) out)) planned.plan_is p.bits);
      behind = subst (λ m. IsFarBehind kept (device_filters device) (is_draining book.state) m new book.eaten book.given pulled) count p.behind;
    }

-- what it gives, and what its chain stands for then, once the run's bytes are known
pub record PullsRun {B : Type 0} (kept : B → Kept) (device : DeviceSeen) (gain : Gain) (book : PlayBook) (bytes : List ℕ) (new : ChainOf B) (pulled : Pulled) (out_old out_new : List ℤ) : Type 0 where
  pub samples : out_new ≡ written (outs (play_plan_between device book.opening.settings) (device_filters device) gain (frames book.opening.settings bytes) book.given pulled.given) out_old
  pub behind : StandsBehind kept (device_filters device) (is_draining book.state) (drop book.eaten (frames book.opening.settings bytes)) new (take book.eaten (frames book.opening.settings bytes)) book.given pulled

-- what a pull means, for whatever its chain stands for
abbrev PullsFor : {B : Type 0} → (B → Kept) → Filters → Gain → Bool → ℕ → List Frame → ChainOf B → ChainOf B → Pulled → List ℤ → List ℤ → Type 0
PullsFor kept tables gain no_more n waiting old new pulled out_old out_new =
    (x : List Frame) (zeros before : ℕ) → ChainStands kept tables old x zeros before → IsPastTheEnd no_more zeros waiting → Pulls kept tables gain no_more n waiting old new x before pulled out_old out_new

-- the frames that wait in a channel's ring
waiting-is : {B : Type 0} (kept : B → Kept) (filters : Filters) (old : PlayChannelOf B) (bytes : List ℕ) → IsPlayPlanned filters old → old.book.eaten ≤ frames_written old.book → PlayStands kept filters old old.book bytes
    → waiting_frames (plan_in old.path.chain) old.book.opening.settings.format old.path.ring.bytes ≡ drop old.book.eaten (frames old.book.opening.settings bytes)
waiting-is kept filters old bytes planned within s =
    let settings : Settings = old.book.opening.settings in
    ap (λ (p : PlanSeen). waiting_frames p settings.format old.path.ring.bytes) planned.plan_is
    ∙ ap (waiting_frames (play_plan_between (seen filters old.path.device) settings) settings.format) s.ring_is
    ∙ frames-waiting settings bytes old.book.eaten (let count = s.count in rw count within)

pub pulls-run : {B : Type 0} (kept : B → Kept) (filters : Filters) (old : PlayChannelOf B) (new : ChainOf B) (gain : Gain) (no_more : Bool) (n : ℕ) (pulled : Pulled) (out_old out_new : List ℤ) (bytes : List ℕ)
    → is_started old.book.state ≡ true → IsPlayPlanned filters old → no_more ≡ is_draining old.book.state
    → PullsFor kept filters gain no_more n (waiting_frames (plan_in old.path.chain) old.book.opening.settings.format old.path.ring.bytes) old.path.chain new pulled out_old out_new
    → PlayStands kept filters old old.book bytes → PullsRun kept (seen filters old.path.device) gain old.book bytes new pulled out_old out_new
pulls-run {B = B} kept filters old new gain no_more n pulled out_old out_new bytes started planned drains pulls s =
    let device : DeviceSeen = seen filters old.path.device in
    let book : PlayBook = old.book in
    let all : List Frame = frames book.opening.settings bytes in
    let within = eaten-written (play_rate_at device book) book (safe-at filters old planned) in
    let at_plan : PullsFor kept (device_filters device) gain (is_draining book.state) n (drop book.eaten all) old.path.chain new pulled out_old out_new =
    rw (drains, waiting-is kept filters old bytes planned within s) at pulls in
    let long : length all ≡ frames_written book = length-frames book.opening.settings bytes ∙ ap (whole_frames book.opening.settings) s.count in
    let p = at_plan (take book.eaten all) s.zeros book.given (s.chain_is (started-held book.state started)) (λ some.
    let over = s.ended some in
    (over.0, drop_all book.eaten all (omega (arith, over.1, long)))) in
    record {
      samples = p.frames ∙ ap (λ (plan : PlanSeen). written (outs plan (device_filters device) gain (take book.eaten all ++ drop book.eaten all) book.given pulled.given) out_old) planned.plan_is
          ∙ ap (λ fs. written (outs (play_plan_between device book.opening.settings) (device_filters device) gain fs book.given pulled.given) out_old) (take-append-drop book.eaten all);
      behind = p.stands;
    }

-- what an interrupt leaves of a started book
pub record BookRefilled (device : DeviceSeen) (n : ℕ) (old new : PlayBook) : Type 0 where
  pub goes : Goes (play_rate_at device old) n old new
  pub safe : IsSafeAt device new

-- the book of a refill is that of an interrupt
pub book-mixed : (device : DeviceSeen) (position n : ℕ) (old new : PlayBook) (between : Rate) (plan : PlanSeen) → 0 < n
    → new ≡ refilled between position n old → between ≡ rate_in_plan plan → plan ≡ play_plan_between device old.opening.settings → new ≡ mixing device position n old
book-mixed device position n old new between plan some made rate_is plan_is =
    made ∙ ap (λ (r : Rate). refilled r position n old) (rate_is ∙ ap (λ (p : PlanSeen). rate_in_plan p) plan_is) ∙ sym (mixing-some device position n old some)

pub book-refilled : (device : DeviceSeen) (position n : ℕ) (old new : PlayBook) → 0 < n → IsDevice device → IsRate old.opening.settings.rate → IsSafeAt device old → is_started old.state ≡ true
    → new ≡ mixing device position n old → BookRefilled device n old new
book-refilled device position n old new some d rate safe started is = record {
  goes = subst (Goes (play_rate_at device old) n old) (sym (is ∙ mixing-some device position n old some)) (refilled-goes (play_rate_at device old) position n old started);
  safe = subst (IsSafeAt device) (sym is) (safe-mixing device position n old d rate safe);
}

-- what the book of a run that goes on says of the ring, once as many frames were pulled as it counts
pub record RingRefilled (old new : PlayBook) (eaten : ℕ) : Type 0 where
  pub within : new.eaten * frame_bytes new.opening.settings ≤ new.written
  pub fill : play_fill_of old - eaten * frame_bytes old.opening.settings ≡ play_fill_of new

pub ring-refilled : (device : DeviceSeen) (n : ℕ) (old new : PlayBook) (pulled : Pulled) → IsSafeAt device new → Goes (play_rate_at device old) n old new → PullsAsCounted (play_rate_at device old) n old pulled → RingRefilled old new pulled.eaten
ring-refilled device n old new pulled safe go counted =
    let size : frame_bytes new.opening.settings ≡ frame_bytes old.opening.settings = ap frame_bytes go.settings in
    let z : ℕ = frame_bytes old.opening.settings in
    let eaten : new.eaten ≡ old.eaten + pulled.eaten = go.eaten ∙ sym counted.eaten in
    let sum : (old.eaten + pulled.eaten) * z ≡ old.eaten * z + pulled.eaten * z = omega arith in
    record {
      within = frames_fit new.opening.settings new.written new.eaten (eaten-written (play_rate_at device new) new safe);
      fill = rw (go.written, eaten, size) (omega arith);
    }

-- a channel that isn't started adds nothing to a block
pub turned-none : (device : DeviceSeen) (n : ℕ) (fader : Gain) (book : PlayBook) (bytes : List ℕ) (sum : List ℤ) → is_started book.state ≡ false → sum ≡ turned device n fader book bytes sum
turned-none device n fader book bytes sum idle =
    let layout : Layout = (mix_settings device).layout in
    let size : ℕ = channels_of layout in
    let bits : ℕ = bits_of (mix_settings device).format in
    let none : 0 * size ≡ 0 = omega arith in
    let samples : ℕ → List ℤ = λ k. faded layout fader (given_samples device (book_gain book) book.opening.settings bytes book.given k) in
    sym (ap (λ (k : ℕ). mixed bits (take (k * size) sum) (samples k) ++ drop (k * size) sum) (giving-none (play_rate_at device book) n book idle)
    ∙ ap (λ (m : ℕ). mixed bits (take m sum) (samples 0) ++ drop m sum) none)

-- the samples that a chain gave, which stand at the front of a buffer
given-front : {B : Type 0} (kept : B → Kept) (device : DeviceSeen) (gain : Gain) (book : PlayBook) (bytes : List ℕ) (new : ChainOf B) (pulled : Pulled) (out_old out_new : List ℤ) → IsDevice device → IsRate book.opening.settings.rate
    → PullsRun kept device gain book bytes new pulled out_old out_new
    → take (pulled.given * channels_of (mix_settings device).layout) out_new ≡ interleaved (outs (play_plan_between device book.opening.settings) (device_filters device) gain (frames book.opening.settings bytes) book.given pulled.given)
given-front kept device gain book bytes new pulled out_old out_new d rate p =
    let c : ℕ = channels_of (mix_settings device).layout in
    let plan : PlanSeen = play_plan_between device book.opening.settings in
    let given : List Frame = outs plan (device_filters device) gain (frames book.opening.settings bytes) book.given pulled.given in
    let have = outs-channels plan (device_filters device) gain (frames book.opening.settings bytes) book.given pulled.given (plan-between-fits device book.opening.settings d rate) (frames-channels book.opening.settings bytes) in
    ap (take (pulled.given * c)) p.samples ∙ front-written c pulled.given given out_old have (length-outs plan (device_filters device) gain (frames book.opening.settings bytes) book.given pulled.given)

-- samples of the bits of the mix have these at a gain too
pub given-fits : (device : DeviceSeen) (fader : Gain) (given : ℕ) (out : List ℤ) (size bits : ℕ) → IsGain fader → All (FitsBits (bits_of (mix_settings device).format)) (take (given * channels_of (mix_settings device).layout) out)
    → size ≡ channels_of (mix_settings device).layout → bits ≡ bits_of (mix_settings device).format → All (FitsBits bits) (faded (mix_settings device).layout fader (take (given * size) out))
given-fits device fader given out size bits fades fits size_is bits_is =
    rw (size_is, bits_is) (faded-fits (bits_of (mix_settings device).format) (mix_settings device).layout fader (take (given * channels_of (mix_settings device).layout) out) fades fits)

-- what a channel adds to a block: the samples that its chain gave, at the gain of its slot
pub turned-pulled : {B : Type 0} (kept : B → Kept) (device : DeviceSeen) (gain fader : Gain) (n : ℕ) (book : PlayBook) (bytes : List ℕ) (new : ChainOf B) (pulled : Pulled) (out_old out_new sum acc : List ℤ) (size bits : ℕ)
    → IsDevice device → IsRate book.opening.settings.rate → gain ≡ book_gain book → PullsAsCounted (play_rate_at device book) n book pulled → PullsRun kept device gain book bytes new pulled out_old out_new → size ≡ channels_of (mix_settings device).layout → bits ≡ bits_of (mix_settings device).format
    → acc ≡ mixed bits (take (pulled.given * size) sum) (faded (mix_settings device).layout fader (take (pulled.given * size) out_new)) → acc ++ drop (pulled.given * size) sum ≡ turned device n fader book bytes sum
turned-pulled kept device gain fader n book bytes new pulled out_old out_new sum acc size bits d rate gain_is counted p size_is bits_is acc_is =
    let layout : Layout = (mix_settings device).layout in
    let c : ℕ = channels_of layout in
    let deep : ℕ = bits_of (mix_settings device).format in
    let onto : ℕ → List ℤ → List ℤ = λ k more. mixed deep (take (k * c) sum) (faded layout fader more) ++ drop (k * c) sum in
    let front = given-front kept device gain book bytes new pulled out_old out_new d rate p in
    ap (λ a. a ++ drop (pulled.given * size) sum) acc_is
    ∙ ap (λ s. mixed bits (take (pulled.given * s) sum) (faded layout fader (take (pulled.given * s) out_new)) ++ drop (pulled.given * s) sum) size_is
    ∙ ap (λ b. mixed b (take (pulled.given * c) sum) (faded layout fader (take (pulled.given * c) out_new)) ++ drop (pulled.given * c) sum) bits_is
    ∙ ap (onto pulled.given) front
    ∙ ap (λ count. onto count (given_samples device gain book.opening.settings bytes book.given count)) counted.given
    ∙ ap (λ (g : Gain). onto (giving (play_rate_at device book) n book) (given_samples device g book.opening.settings bytes book.given (giving (play_rate_at device book) n book))) gain_is

-- a channel whose run goes on, once its chain was pulled
pub moves-pulled : {B : Type 0} (kind : B → Kind) (kept : B → Kept) (filters : Filters) (old new : PlayChannelOf B) (n : ℕ) (pulled : Pulled) (gain : Gain) (out_old out_new : List ℤ)
    → IsPlayPlanned filters old → new.path.device ≡ old.path.device → plan_in new.path.chain ≡ plan_in old.path.chain → Goes (play_rate_at (seen filters old.path.device) old.book) n old.book new.book → (HaveKinds kind (boxes_in old.path.chain) → HaveKinds kind (boxes_in new.path.chain)) → new.path.ring.bytes ≡ drop (pulled.eaten * frame_bytes old.book.opening.settings) old.path.ring.bytes
    → (PlayIsSoFar kept filters old → PullsByCount kept (seen filters old.path.device) n old.book new.path.chain pulled out_new)
    → ((bytes : List ℕ) → PlayStands kept filters old old.book bytes → PullsRun kept (seen filters old.path.device) gain old.book bytes new.path.chain pulled out_old out_new) → PlayMoves kind kept filters [] n old new
moves-pulled {B = B} kind kept filters old new n pulled gain out_old out_new planned device plan go kinds ring counts pulls = record {
  kinds = kinds;
  planned = λ p used. planned-as Play filters _ _ old.path new.path device plan go.settings planned;
  far = λ f.
      let p = counts f in
      far-pulled kept filters old new rate n pulled within go p.counted p.behind;
  stands = λ bytes s.
      let p = counts (play-far kept filters old bytes s) in
      let run = pulls bytes s in
      subst (PlayStands kept filters new new.book) (sym (nothing-more new.book.written bytes (s.count ∙ sym go.written)))
      (stands-pulled kept filters old new rate n pulled bytes within go p.counted ring run.behind s);
  written = omega (arith, go.written);
  counted = omega (arith, go.written, go.done);
  grown = omega (arith, go.written, go.done);
  given = omega (arith, go.given);
}
  where
    rate : Rate
    rate = play_rate_at (seen filters old.path.device) old.book

    within : old.book.eaten ≤ frames_written old.book
    within = eaten-written rate old.book (safe-at filters old planned)
