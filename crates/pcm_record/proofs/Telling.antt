-- A channel that was told its book and what it kept, and one that is known by them.
use Rattle.std.proofs.Common.{◌≡◌, ◌+◌, ◌-◌, ℕ, ℤ, true, false, List, length, refl, sym, ap, ◌∙◌, subst, arith}
use Rattle.std.proofs.lemmas.List.{nil_from_length}
use Rattle.pcm_format.specs.Frames.{Frame}
use Rattle.pcm_rate.specs.declared.rate.Rate.{Rate}
use Rattle.pcm_rate.specs.Rates.{IsRatio, need, can}
use Rattle.pcm_rate.proofs.Counts.{can-le-len, need-can, need-past}
use Rattle.pcm_feeder.specs.declared.kind.Kind.{Kind}
use Rattle.pcm_feeder.specs.Filters.{Filters}
use Rattle.pcm_feeder.specs.Kept.{Kept}
use Rattle.pcm_oss.specs.declared.event.Way.TheVariants.{Record}
use Rattle.pcm_plan.specs.Plans.{PlanSeen, rate_in_plan}
use Rattle.pcm_chain.specs.Chains.{plan_in, ChainStands}
use Rattle.pcm_chain.specs.Counts.{InTime}
use Rattle.pcm_chain.specs.Far.{ChainIsSoFar}
use Rattle.pcm_chain.proofs.Known.{chain-known, far-anyhow}
use Rattle.pcm_desk.specs.declared.record_book.RecordBook.{RecordBook}
use Rattle.pcm_desk.specs.declared.run_state.RunState.{RunState}
use Rattle.pcm_desk.specs.declared.run_state.RunState.TheVariants as states
use Rattle.pcm_desk.specs.Channels.{record_rate_at}
use Rattle.pcm_desk.specs.Device.{seen}
use Rattle.pcm_desk.specs.RecordBooks.{record_fill_of}
use Rattle.pcm_desk.specs.RecordSafe.{IsRecordInOrder}
use Rattle.pcm_desk.specs.RunStates.{is_unheld}
use Rattle.pcm_desk.proofs.Ratios.{record-ratio-between}
use Rattle.pcm_path.specs.Paths.{path_rate, HasBegun}
use Rattle.pcm_path.specs.Telling.{CanTellPath, HasToldPath}
use Rattle.pcm_path.proofs.Paths.{planned-as}
use Rattle.pcm_path.proofs.Telling.{can-tell-path, plans-same}
use Rattle.pcm_record.specs.declared.channel.RecordChannelOf.{RecordChannelOf}
use Rattle.pcm_record.specs.Channels.{IsRecordReady, RecordIsSoFar, RecordStands, RecordStandsAs}
use Rattle.pcm_record.specs.Telling.{CanTellRecord, HasToldRecord, RecordAreAlike}

-- ---- the counts of a book

-- what is given of all frames captured is in time
can-in_time : (rate : Rate) (eaten given : ℕ) → IsRatio rate → given ≡ can rate eaten → InTime rate (record { eaten = eaten; given = given })
can-in_time rate eaten given ratio is = record {
  early = (let past = need-past rate (given + 1) eaten ratio (omega (arith, is)) in omega (arith, past));
  late = omega (arith, is, can-le-len rate eaten ratio.src);
}

-- nothing was kept of a free book
free-in : (state : RunState) (book : RecordBook) → IsRecordInOrder state book → is_unheld state ≡ true → (book.kept ≡ 0) × (book.read ≡ 0)
free-in states.Running book h free = absurd (let clash : false ≡ true = free in cc)
free-in state book h free = (h.kept_none, h.read_none)

-- ---- a channel that is told

-- a path can go on from what its book says
pub can-tell : {B : Type 0} (kind : B → Kind) (filters : Filters) (book : RecordBook) (bytes : List ℕ) (samples : List ℤ) (channel : RecordChannelOf B) → CanTellRecord kind filters book bytes samples channel → is_unheld book.state ≡ false
    → CanTellPath kind Record filters book.opening bytes book.captured book.given samples channel.path
can-tell kind filters book bytes samples channel h used =
    let safe = h.safe in
    let serves = channel.serves in
    let device = seen filters channel.path.device in
    can-tell-path kind Record filters book.opening bytes book.captured book.given samples channel.path
    (record { device = serves.device; rate = h.rate; fragments = safe.fragments; room = serves.room; kinds = h.kinds }) (omega (arith, h.waiting, safe.fill))
    (λ is. can-in_time (record_rate_at device book) book.captured book.given (record-ratio-between device book.opening.settings is h.rate) safe.given) (h.past used)

-- and the channel has been told: it is as far as its book counts
far-told : {B : Type 0} (kind : B → Kind) (kept : B → Kept) (mark : B → ℕ) (filters : Filters) (bytes : List ℕ) (samples : List ℤ) (old new : RecordChannelOf B)
    → HasToldPath kind kept mark Record filters new.book.opening bytes new.book.captured new.book.given samples old.path new.path → RecordIsSoFar kept filters new
far-told kind kept mark filters bytes samples old new t used =
    let safe = new.safe in
    let serves = new.serves in
    let rate = path_rate new.path in
    let silent : need rate new.book.given - new.book.captured ≡ 0 = omega (arith, ap (need rate) safe.given, need-can rate new.book.captured serves.ratio) in
    subst (λ n. ChainIsSoFar kept filters new.path.chain new.book.captured 0 n) safe.given
    (subst (λ n. ChainIsSoFar kept filters new.path.chain new.book.captured n new.book.given) silent (t.far filters))

pub told : {B : Type 0} (kind : B → Kind) (kept : B → Kept) (mark : B → ℕ) (filters : Filters) (bytes : List ℕ) (samples : List ℤ) (old new : RecordChannelOf B)
    → HasToldPath kind kept mark Record filters new.book.opening bytes new.book.captured new.book.given samples old.path new.path → HasToldRecord kind kept mark filters new.book bytes samples old new
told kind kept mark filters bytes samples old new t = record {
  device_same = t.device;
  marks = t.marks;
  book_is = refl;
  ring_is = t.ring;
  ready = record { kinds = t.kinds; planned = λ used. t.planned; far = far-told kind kept mark filters bytes samples old new t };
  keeps = λ used. t.keeps;
}

-- so has a free one, on whose path a run began
pub told-free : {B : Type 0} (kind : B → Kind) (kept : B → Kept) (mark : B → ℕ) (filters : Filters) (bytes : List ℕ) (samples : List ℤ) (old new : RecordChannelOf B) → is_unheld new.book.state ≡ true → length bytes ≡ record_fill_of new.book
    → HasBegun kind kept mark Record filters new.book.opening old.path new.path → HasToldRecord kind kept mark filters new.book bytes samples old new
told-free kind kept mark filters bytes samples old new free long begun = record {
  device_same = begun.device;
  marks = begun.marks;
  book_is = refl;
  ring_is = begun.empty.ring ∙ sym (nil_from_length bytes none);
  ready = record { kinds = begun.kinds; planned = λ used. begun.planned; far = λ used. absurd (taken used) };
  keeps = λ used. absurd (taken used);
}
  where
    taken : is_unheld new.book.state ≡ false → ⊥
    taken used = let clash = sym free ∙ used in cc

    none : length bytes ≡ 0
    none =
        let safe = new.safe in
        let nothing = free-in new.book.state new.book safe.order free in
        omega (arith, long, nothing.0, nothing.1)

-- ---- channels that are alike

-- Two channels of one device that are ready by one book, with the same bytes in the ring and the same samples kept, stand for the same.
pub record-known : {B : Type 0} (kind : B → Kind) (kept : B → Kept) (filters : Filters) (one other : RecordChannelOf B) → IsRecordReady kind kept filters one → IsRecordReady kind kept filters other → RecordAreAlike kept one other
    → RecordStandsAs kept one other
record-known kind kept filters one other a b alike = record {
  book = alike.book_same;
  planned = λ tables served used.
      let busy = free used in
      planned-as Record tables one.book.opening.settings other.book.opening.settings one.path other.path alike.device_same (same-plan busy) settings (served busy);
  far = λ tables f used. far-anyhow kept filters tables other.path.chain other.book.captured 0 (can (path_rate other.path) other.book.captured) (b.far used);
  stands = λ tables bytes frames s. subst (λ (k : RecordBook). RecordStands kept tables other k bytes frames) (sym alike.book_same) (record {
    book_is = alike.book_same;
    count = s.count;
    ring_is = alike.ring_same ∙ s.ring_is;
    captured = s.captured;
    bits = s.bits;
    records = λ used.
        subst (λ n. ChainStands kept tables other.path.chain frames 0 n) (sym (given used frames s.captured))
        (chain-known kept filters one.path.chain other.path.chain one.book.captured 0 (can (path_rate one.path) (length frames))
        (subst (λ n. ChainIsSoFar kept filters one.path.chain one.book.captured 0 (can (path_rate one.path) n)) (sym s.captured) (a.far used))
        (subst (λ n. ChainIsSoFar kept filters other.path.chain one.book.captured 0 n) (given-far used frames s.captured) (as-far used))
        (record { plan = same-plan used; keeps = alike.keeps used }) tables frames 0 s.captured (s.records used));
  });
}
  where
    free : is_unheld other.book.state ≡ false → is_unheld one.book.state ≡ false
    free used = sym (ap (λ (k : RecordBook). is_unheld k.state) alike.book_same) ∙ used

    settings : other.book.opening.settings ≡ one.book.opening.settings
    settings = ap (λ (k : RecordBook). k.opening.settings) alike.book_same

    same-plan : is_unheld one.book.state ≡ false → plan_in other.path.chain ≡ plan_in one.path.chain
    same-plan used =
        let busy = ap (λ (k : RecordBook). is_unheld k.state) alike.book_same ∙ used in
        plans-same Record filters one.book.opening.settings other.book.opening.settings one.path other.path alike.device_same settings (a.planned used) (b.planned busy)

    given : (used : is_unheld one.book.state ≡ false) (frames : List Frame) → length frames ≡ one.book.captured → can (path_rate other.path) (length frames) ≡ can (path_rate one.path) (length frames)
    given used frames count = ap (λ (p : PlanSeen). can (rate_in_plan p) (length frames)) (same-plan used)

    given-far : (used : is_unheld one.book.state ≡ false) (frames : List Frame) → length frames ≡ one.book.captured → can (path_rate other.path) one.book.captured ≡ can (path_rate one.path) (length frames)
    given-far used frames count = ap (λ (p : PlanSeen). can (rate_in_plan p) one.book.captured) (same-plan used) ∙ ap (can (path_rate one.path)) (sym count)

    as-far : is_unheld one.book.state ≡ false → ChainIsSoFar kept filters other.path.chain one.book.captured 0 (can (path_rate other.path) one.book.captured)
    as-far used =
        let busy = ap (λ (k : RecordBook). is_unheld k.state) alike.book_same ∙ used in
        subst (λ (k : RecordBook). ChainIsSoFar kept filters other.path.chain k.captured 0 (can (path_rate other.path) k.captured)) alike.book_same (b.far busy)
