-- What a capture leaves of a channel, from what a push of its chain means.
use Rattle.std.proofs.Common.{◌≡◌, ℕ, ◌+◌, ◌-◌, ◌*◌, ◌/◌, ◌^◌, ◌<◌, ◌≤◌, ℤ, true, false, min, List, ◌++◌, length, take, refl, sym, ap, ◌∙◌, subst, arith, length-append}
use Rattle.std.proofs.lemmas.List.{take_all}
use Rattle.pcm_format.specs.declared.settings.Settings.{Settings}
use Rattle.pcm_format.specs.Frames.{Frame, frame_bytes, spelled_frames}
use Rattle.pcm_format.specs.Layouts.{channels_of}
use Rattle.pcm_format.proofs.Streams.{channels_of-above}
use Rattle.pcm_ring.specs.Ring.{Ring, free_bytes}
use Rattle.pcm_rate.specs.declared.rate.Rate.{Rate}
use Rattle.pcm_rate.specs.Rates.{can}
use Rattle.pcm_feeder.specs.declared.kind.Kind.{Kind}
use Rattle.pcm_feeder.specs.Filters.{Filters}
use Rattle.pcm_feeder.specs.Kept.{Kept}
use Rattle.pcm_feeder.specs.Limits.{IsRate}
use Rattle.pcm_feeder.specs.Racks.{HaveKinds}
use Rattle.pcm_feeder.specs.Streams.{frames_of, HaveChannels}
use Rattle.pcm_oss.specs.declared.fragments.TheConstants.{RING_BYTES}
use Rattle.pcm_plan.specs.Fits.{HaveBits}
use Rattle.pcm_plan.specs.Plans.{PlanSeen, rate_in_plan}
use Rattle.pcm_plan.specs.Through.{recs}
use Rattle.pcm_chain.specs.declared.chain.ChainOf.{ChainOf}
use Rattle.pcm_chain.specs.declared.chain.Pushed.{Pushed}
use Rattle.pcm_chain.specs.Chains.{boxes_in, plan_in}
use Rattle.pcm_chain.specs.Pushes.{pushed_frames, room_for, HasRecorded, HasRecordedFar, Pushes, PushesFar}
use Rattle.pcm_chain.specs.Rings.{put_bytes, GrowsBy}
use Rattle.pcm_chain.proofs.Counting.{allowed-grows}
use Rattle.pcm_chain.proofs.Pushing.{count-frames}
use Rattle.pcm_desk.specs.declared.record_book.RecordBook.{RecordBook}
use Rattle.pcm_desk.specs.declared.run_state.RunState.{RunState}
use Rattle.pcm_desk.specs.declared.run_state.RunState.TheVariants.{Free, Setup, Running}
use Rattle.pcm_desk.specs.Device.{DeviceSeen, IsDevice, seen}
use Rattle.pcm_desk.specs.Channels.{capturing, record_rate_at}
use Rattle.pcm_desk.specs.Openings.{ring_bytes}
use Rattle.pcm_desk.specs.RunStates.{is_running}
use Rattle.pcm_desk.specs.RecordBooks.{captured, captured_in, captures, coming, keeping, record_fill_of, record_free_of}
use Rattle.pcm_desk.specs.RecordSafe.{RecordIsSafe}
use Rattle.pcm_desk.proofs.Ratios.{record-few, record-ratio-between}
use Rattle.pcm_desk.proofs.RecordSafe.{record-safe-captured}
use Rattle.pcm_sound.specs.Given.{recorded_bytes}
use Rattle.pcm_sound.proofs.Recordings.{length-recorded}
use Rattle.pcm_record.specs.declared.channel.RecordChannelOf.{RecordChannelOf}
use Rattle.pcm_record.specs.Channels.{CaptureFits, IsRecordPlanned, RecordMoves, RecordStands}
use Rattle.pcm_oss.specs.declared.event.Way.TheVariants.{Record}
use Rattle.pcm_path.proofs.Paths.{planned-as}
use Rattle.pcm_record.proofs.Moving.{device-is}
use Rattle.pcm_record.proofs.Stands.{stands-as, stands-captured}

-- ---- books

-- an interrupt captures in a running book
captures-running : (rate : Rate) (n : ℕ) (book : RecordBook) → is_running book.state ≡ true → captures rate n book ≡ captured rate n book
captures-running rate n book runs = at book.state runs
  where
    at : (state : RunState) → is_running state ≡ true → captures rate n book ≡ captured_in rate state n book
    at Free e = cc
    at Setup e = cc
    at Running e = refl

-- what an interrupt leaves of a running book
pub record BookCaptured (device : DeviceSeen) (n : ℕ) (old new : RecordBook) : Type 0 where
  pub settings : new.opening.settings ≡ old.opening.settings
  pub fragments : new.opening.fragments ≡ old.opening.fragments
  pub captured : new.captured ≡ old.captured + n
  pub kept : new.kept ≡ old.kept + keeping (record_rate_at device old) n old * frame_bytes old.opening.settings
  pub read : new.read ≡ old.read
  pub most : new.kept ≤ old.kept + RING_BYTES
  pub safe : RecordIsSafe (record_rate_at device old) new
  pub is : new ≡ capturing device n old

pub book-captured : (device : DeviceSeen) (n : ℕ) (old new : RecordBook) → is_running old.state ≡ true → RecordIsSafe (record_rate_at device old) old → new ≡ captured (record_rate_at device old) n old → BookCaptured device n old new
book-captured device n old new runs safe is =
    let rate : Rate = record_rate_at device old in
    let made : new ≡ captures rate n old = is ∙ sym (captures-running rate n old runs) in
    let kept : new.kept ≡ old.kept + keeping rate n old * frame_bytes old.opening.settings = ap (λ (b : RecordBook). b.kept) made in
    let read : new.read ≡ old.read = ap (λ (b : RecordBook). b.read) made in
    let after : RecordIsSafe rate new = subst (RecordIsSafe rate) (sym is) (record-safe-captured rate n old safe) in
    let before = safe.read in
    let fill = after.fill in
    let fits = after.fragments.fits in
    record {
      settings = ap (λ (b : RecordBook). b.opening.settings) made;
      fragments = ap (λ (b : RecordBook). b.opening.fragments) made;
      captured = ap (λ (b : RecordBook). b.captured) made;
      kept = kept;
      read = read;
      most = omega (arith, read);
      safe = after;
      is = is;
    }

-- the bytes kept have room in a count
pub kept-most : (device : DeviceSeen) (n : ℕ) (book : RecordBook) → is_running book.state ≡ true → RecordIsSafe (record_rate_at device book) book → book.kept + keeping (record_rate_at device book) n book * frame_bytes book.opening.settings ≤ book.kept + RING_BYTES
kept-most device n book runs safe = (book-captured device n book (captures (record_rate_at device book) n book) runs safe (captures-running (record_rate_at device book) n book runs)).most

-- and so have the frames that come
pub given-most : (device : DeviceSeen) (n : ℕ) (book : RecordBook) → IsDevice device → IsRate book.opening.settings.rate → RecordIsSafe (record_rate_at device book) book → can (record_rate_at device book) (book.captured + n) < 2 ^ 64
    → book.given + coming (record_rate_at device book) n book < 2 ^ 64
given-most device n book d rate safe fits =
    let given = safe.given in
    let grows = allowed-grows false (record_rate_at device book) book.captured (book.captured + n) (record-ratio-between device book.opening.settings d rate) (omega arith) in
    omega arith

-- counts that stay below a bound have room
pub capture-fits : {B : Type 0} (filters : Filters) (n : ℕ) (channel : RecordChannelOf B) → IsDevice (seen filters channel.path.device) → channel.book.captured + n < 2 ^ 56 → CaptureFits filters n channel
capture-fits filters n channel d few =
    let most = record-few (seen filters channel.path.device) channel.book.opening.settings (channel.book.captured + n) d channel.serves.rate in
    record { captured = omega (arith, few); given = omega (arith, few, most) }

-- ---- pushes

-- the frames pushed are those of the samples
pub pushed-is : {B : Type 0} (filters : Filters) (old : RecordChannelOf B) (samples : List ℤ) → IsRecordPlanned filters old → pushed_frames (plan_in old.path.chain) samples ≡ frames_of (channels_of old.path.device.settings.layout) samples
pushed-is filters old samples planned = ap (λ (p : PlanSeen). pushed_frames p samples) planned.plan_is

-- they are n frames
pub pushed-count : {B : Type 0} (filters : Filters) (old : RecordChannelOf B) (n : ℕ) (samples : List ℤ) → IsRecordPlanned filters old → length samples ≡ n * channels_of old.path.device.settings.layout → length (pushed_frames (plan_in old.path.chain) samples) ≡ n
pushed-count filters old n samples planned whole =
    let layout = old.path.device.settings.layout in
    ap length (pushed-is filters old samples planned) ∙ count-frames (channels_of layout) n samples (channels_of-above layout) whole

-- what a push of a channel's chain says of the counts
pub record PushFar {B : Type 0} (kept : B → Kept) (filters : Filters) (device : DeviceSeen) (n : ℕ) (book : RecordBook) (new : ChainOf B) (pushed : Pushed) (bytes_old bytes_new : List ℕ) : Type 0 where
  pub keeps : pushed.kept ≡ keeping (record_rate_at device book) n book
  pub records : HasRecordedFar kept filters new (book.captured + n)
  pub long : length bytes_new ≡ length bytes_old + keeping (record_rate_at device book) n book * frame_bytes book.opening.settings

pub push-far : {B : Type 0} (kept : B → Kept) (filters : Filters) (old : RecordChannelOf B) (n : ℕ) (samples : List ℤ) (new : ChainOf B) (pushed : Pushed) (ring : Ring)
    → IsRecordPlanned filters old → length samples ≡ n * channels_of old.path.device.settings.layout → pushed.kept ≡ min pushed.came (room_for (plan_in old.path.chain) old.book.opening.settings.format old.path.ring)
    → GrowsBy (put_bytes (plan_in old.path.chain) old.book.opening.settings.format pushed.kept) old.path.ring ring
    → PushesFar kept filters (length (pushed_frames (plan_in old.path.chain) samples)) old.path.chain new pushed old.book.captured
    → PushFar kept filters (seen filters old.path.device) n old.book new pushed old.path.ring.bytes ring.bytes
push-far {B = B} kept filters old n samples new pushed ring planned whole kept_is grows far =
    let device : DeviceSeen = seen filters old.path.device in
    let book : RecordBook = old.book in
    let settings : Settings = book.opening.settings in
    let rate : Rate = record_rate_at device book in
    let plan : PlanSeen = plan_in old.path.chain in
    let is = planned.plan_is in
    let p = subst (λ k. PushesFar kept filters k old.path.chain new pushed book.captured) (pushed-count filters old n samples planned whole) far in
    let same : rate_in_plan plan ≡ rate = ap (λ (q : PlanSeen). rate_in_plan q) is in
    let came : pushed.came ≡ coming rate n book =
    p.came ∙ ap (λ (r : Rate). can r (book.captured + n) - can r book.captured) same ∙ ap (λ k. can rate (book.captured + n) - k) (ap (λ (r : Rate). can r book.captured) (sym same) ∙ sym old.safe.given) in
    let free : free_bytes old.path.ring ≡ record_free_of book = ap (λ k. k - length old.path.ring.bytes) old.serves.size ∙ ap (λ k. ring_bytes book.opening - k) old.fill in
    let room : room_for plan settings.format old.path.ring ≡ record_free_of book / frame_bytes settings =
    ap (λ (q : PlanSeen). room_for q settings.format old.path.ring) is ∙ ap (λ k. k / frame_bytes settings) free in
    let keeps : pushed.kept ≡ keeping rate n book = kept_is ∙ ap (λ k. min k (room_for plan settings.format old.path.ring)) came ∙ ap (λ k. min (coming rate n book) k) room in
    record {
      keeps = keeps;
      records = p.records;
      long = grows ∙ ap (λ (q : PlanSeen). length old.path.ring.bytes + put_bytes q settings.format pushed.kept) is
          ∙ ap (λ k. length old.path.ring.bytes + k * frame_bytes settings) keeps;
    }

-- and, once it is known what the channel stands for, of the frames and bytes
pub record PushCaptured {B : Type 0} (kept : B → Kept) (filters : Filters) (device : DeviceSeen) (n : ℕ) (book : RecordBook) (frames input : List Frame) (new : ChainOf B) (bytes_old bytes_new : List ℕ) : Type 0 where
  pub records : HasRecorded kept filters new (frames ++ input)
  pub bytes : bytes_new ≡ bytes_old ++ recorded_bytes device book.opening.settings (frames ++ input) book.given (keeping (record_rate_at device book) n book)

pub push-captured : {B : Type 0} (kept : B → Kept) (filters : Filters) (old : RecordChannelOf B) (n : ℕ) (samples : List ℤ) (new : ChainOf B) (pushed : Pushed) (ring bytes : List ℕ) (frames : List Frame)
    → IsRecordPlanned filters old → pushed.kept ≡ keeping (record_rate_at (seen filters old.path.device) old.book) n old.book
    → Pushes kept filters old.book.opening.settings.format (pushed_frames (plan_in old.path.chain) samples) old.path.chain new frames pushed old.path.ring.bytes ring → RecordStands kept filters old old.book bytes frames
    → PushCaptured kept filters (seen filters old.path.device) n old.book frames (frames_of (channels_of old.path.device.settings.layout) samples) new old.path.ring.bytes ring
push-captured {B = B} kept filters old n samples new pushed ring bytes frames planned keeps p s =
    let device : DeviceSeen = seen filters old.path.device in
    let book : RecordBook = old.book in
    let settings : Settings = book.opening.settings in
    let plan : PlanSeen = plan_in old.path.chain in
    let input : List Frame = frames_of (channels_of old.path.device.settings.layout) samples in
    let is = planned.plan_is in
    let all : pushed_frames plan samples ≡ input = pushed-is filters old samples planned in
    let given : can (rate_in_plan plan) (length frames) ≡ book.given = ap (λ k. can (rate_in_plan plan) k) s.captured ∙ sym old.safe.given in
    record {
      records = subst (λ list. HasRecorded kept filters new (frames ++ list)) all p.records;
      bytes = p.bytes
          ∙ ap (λ list. old.path.ring.bytes ++ spelled_frames settings.format (recs plan filters (frames ++ list) (can (rate_in_plan plan) (length frames)) pushed.kept)) all
          ∙ ap (λ (q : PlanSeen). old.path.ring.bytes ++ spelled_frames settings.format (recs q filters (frames ++ input) (can (rate_in_plan plan) (length frames)) pushed.kept)) is
          ∙ ap (λ from. old.path.ring.bytes ++ recorded_bytes device settings (frames ++ input) from pushed.kept) given
          ∙ ap (λ count. old.path.ring.bytes ++ recorded_bytes device settings (frames ++ input) book.given count) keeps;
    }

-- the rate of the chain's plan, which a push leaves
pub rate-pushed : {B : Type 0} (filters : Filters) (old : RecordChannelOf B) (new : ChainOf B) (between : Rate) (plan : PlanSeen) → IsRecordPlanned filters old → between ≡ rate_in_plan plan → plan ≡ plan_in new → plan_in new ≡ plan_in old.path.chain
    → between ≡ record_rate_at (seen filters old.path.device) old.book
rate-pushed filters old new between plan planned rate_is plan_is same = rate_is ∙ ap (λ (q : PlanSeen). rate_in_plan q) (plan_is ∙ same ∙ planned.plan_is)

-- the book by that rate
pub captured-at : (device : DeviceSeen) (n : ℕ) (old new : RecordBook) (between : Rate) → between ≡ record_rate_at device old → new ≡ captured between n old → new ≡ capturing device n old
captured-at device n old new between rate is = is ∙ ap (λ (r : Rate). captured r n old) rate

-- ---- channels

-- the bytes that were kept
kept-length : {B : Type 0} (kept : B → Kept) (filters : Filters) (old : RecordChannelOf B) (n : ℕ) (frames input : List Frame) (new : ChainOf B) → IsRecordPlanned filters old → plan_in new ≡ plan_in old.path.chain → HasRecorded kept filters new (frames ++ input)
    → let device : DeviceSeen = seen filters old.path.device in
    length (recorded_bytes device old.book.opening.settings (frames ++ input) old.book.given (keeping (record_rate_at device old.book) n old.book)) ≡ keeping (record_rate_at device old.book) n old.book * frame_bytes old.book.opening.settings
kept-length kept filters old n frames input new planned plan records =
    let device : DeviceSeen = seen filters old.path.device in
    length-recorded device old.book.opening.settings (frames ++ input) old.book.given (keeping (record_rate_at device old.book) n old.book) (device-is filters old planned) old.serves.rate
    (subst (λ (p : PlanSeen). HaveChannels (channels_of p.source) (frames ++ input)) (plan ∙ planned.plan_is) records.frames)

-- the ring holds as many bytes as the book says
pub fill-captured : {B : Type 0} (kept : B → Kept) (filters : Filters) (old : RecordChannelOf B) (book : RecordBook) (n : ℕ) (new : ChainOf B) (pushed : Pushed) (ring : List ℕ)
    → BookCaptured (seen filters old.path.device) n old.book book → PushFar kept filters (seen filters old.path.device) n old.book new pushed old.path.ring.bytes ring → length ring ≡ record_fill_of book
fill-captured kept filters old book n new pushed ring b p =
    let fill = old.fill in
    let within = old.within in
    omega (arith, p.long, b.kept, b.read)

-- a channel that is running, once its chain was pushed
pub moves-captured : {B : Type 0} (kind : B → Kind) (kept : B → Kept) (filters : Filters) (old new : RecordChannelOf B) (n : ℕ) (input : List Frame) → IsRecordPlanned filters old → new.path.device ≡ old.path.device → plan_in new.path.chain ≡ plan_in old.path.chain
    → (HaveKinds kind (boxes_in old.path.chain) → HaveKinds kind (boxes_in new.path.chain)) → length input ≡ n → HaveBits 32 input → BookCaptured (seen filters old.path.device) n old.book new.book
    → HasRecordedFar kept filters new.path.chain (old.book.captured + n)
    → ((bytes : List ℕ) (frames : List Frame) → RecordStands kept filters old old.book bytes frames → PushCaptured kept filters (seen filters old.path.device) n old.book frames input new.path.chain old.path.ring.bytes new.path.ring.bytes)
    → RecordMoves kind kept filters input (keeping (record_rate_at (seen filters old.path.device) old.book) n old.book) old new
moves-captured {B = B} kind kept filters old new n input planned device plan kinds count bits b far pushes = record {
  kinds = kinds;
  planned = λ p used. planned-as Record filters _ _ old.path new.path device plan b.settings planned;
  far = λ h used. subst (λ k. HasRecordedFar kept filters new.path.chain k) (sym b.captured) far;
  stands = λ bytes frames s.
      let p = pushes bytes frames s in
      let more : List ℕ = recorded_bytes (seen filters old.path.device) old.book.opening.settings (frames ++ input) old.book.given (keeping (record_rate_at (seen filters old.path.device) old.book) n old.book) in
      let long : length more ≡ keeping (record_rate_at (seen filters old.path.device) old.book) n old.book * frame_bytes old.book.opening.settings = kept-length kept filters old n frames input new.path.chain planned plan p.records in
      let grows : new.book.kept ≡ old.book.kept + length more = omega (arith, b.kept, long) in
      let brings : new.book.captured ≡ old.book.captured + length input = omega (arith, b.captured, count) in
      stands-as kept filters new (bytes ++ more) (take new.book.kept (bytes ++ more)) (frames ++ input) (take new.book.captured (frames ++ input))
      (take_all new.book.kept (bytes ++ more) (omega (arith, length-append bytes more, s.count, grows))) (take_all new.book.captured (frames ++ input) (omega (arith, length-append frames input, s.captured, brings)))
      (stands-captured kept filters old new bytes more frames input p.bytes b.read old.within grows brings bits p.records s);
  captured = omega (arith, b.captured, count);
  kept = b.most;
}
