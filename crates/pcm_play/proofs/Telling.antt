-- A channel that was told its book and what it kept, and one that is known by them.
use Rattle.std.proofs.Common.{◌≡◌, ◌≤◌, ◌<◌, ◌-◌, min, ℕ, ℤ, true, false, List, length, take, inl, inr, refl, sym, ap, ◌∙◌, subst, arith}
use Rattle.std.proofs.lemmas.Bool.{cases_lt}
use Rattle.std.proofs.lemmas.List.{nil_from_length}
use Rattle.pcm_format.specs.Frames.{frames}
use Rattle.pcm_format.proofs.Whole.{frames_there}
use Rattle.pcm_rate.specs.declared.rate.Rate.{Rate}
use Rattle.pcm_rate.specs.Rates.{IsRatio, need, len}
use Rattle.pcm_rate.proofs.Counts.{can-greatest, can-le-len}
use Rattle.pcm_feeder.specs.declared.kind.Kind.{Kind}
use Rattle.pcm_feeder.specs.Filters.{Filters}
use Rattle.pcm_feeder.specs.Kept.{Kept}
use Rattle.pcm_oss.specs.declared.event.Way.TheVariants.{Play}
use Rattle.pcm_plan.specs.Plans.{PlanSeen, rate_in_plan}
use Rattle.pcm_chain.specs.Chains.{plan_in}
use Rattle.pcm_chain.specs.Counts.{InTime}
use Rattle.pcm_chain.specs.Far.{ChainIsSoFar}
use Rattle.pcm_chain.proofs.Known.{chain-known, far-anyhow}
use Rattle.pcm_desk.specs.declared.play_book.PlayBook.{PlayBook}
use Rattle.pcm_desk.specs.declared.play_book.PlayState.{PlayState}
use Rattle.pcm_desk.specs.declared.play_book.PlayState.TheVariants.{Free, Setup, Primed, Running, Draining}
use Rattle.pcm_desk.specs.Channels.{play_rate_at}
use Rattle.pcm_desk.specs.Device.{seen}
use Rattle.pcm_desk.specs.PlayBooks.{frames_written, is_draining, is_play_free, play_fill_of}
use Rattle.pcm_desk.specs.PlaySafe.{EatsInTime, IsPlayInOrder, IsPlayUnstarted}
use Rattle.pcm_desk.proofs.Ratios.{ratio-between}
use Rattle.pcm_path.specs.Paths.{path_rate, HasBegun}
use Rattle.pcm_path.specs.Telling.{CanTellPath, HasToldPath}
use Rattle.pcm_path.proofs.Paths.{planned-as}
use Rattle.pcm_path.proofs.Telling.{can-tell-path, plans-same}
use Rattle.pcm_play.specs.declared.channel.PlayChannelOf.{PlayChannelOf}
use Rattle.pcm_play.specs.Channels.{IsPlayReady, PlayStands, PlayStandsAs}
use Rattle.pcm_play.specs.Telling.{CanTellPlay, HasToldPlay, PlayAreAlike}
use Rattle.pcm_play.proofs.Refills.{length-eaten}

-- ---- the counts of a book

-- nothing eaten or given is in time
none-in_time : (rate : Rate) (eaten given : ℕ) → IsPlayUnstarted eaten given → InTime rate (record { eaten = eaten; given = given })
none-in_time rate eaten given h = record { early = omega (arith, h.eaten_none); late = omega (arith, h.given_none) }

-- what eats in time is so, where silence stood in only past the last frame
eats-in_time : (rate : Rate) (frames eaten given : ℕ) → IsRatio rate → EatsInTime rate frames eaten given → min frames (need rate given) ≤ eaten → given ≤ len rate frames → InTime rate (record { eaten = eaten; given = given })
eats-in_time rate frames eaten given ratio eats needed allowed = record {
  early = eats.early;
  late = elim (cases_lt eaten (need rate given)) [
    | inl short ↦ (let all : eaten ≡ frames = omega (arith, needed, eats.written, short) in omega (arith, allowed, ap (len rate) all))
    | inr enough ↦ (let some = (can-greatest rate ratio.src ratio.dst given eaten).0 enough in omega (arith, some, can-le-len rate eaten ratio.src))
  ];
}

-- so the counts of a book in order are in time
in_time-in : (rate : Rate) (state : PlayState) (book : PlayBook) → IsRatio rate → IsPlayInOrder rate state book → InTime rate (record { eaten = book.eaten; given = book.given })
in_time-in rate Free book ratio h = none-in_time rate book.eaten book.given h.1
in_time-in rate Setup book ratio h = none-in_time rate book.eaten book.given h.1
in_time-in rate Primed book ratio h = none-in_time rate book.eaten book.given h.1
in_time-in rate Running book ratio h =
    eats-in_time rate (frames_written book) book.eaten book.given ratio h.eats (omega (arith, h.needed)) (omega (arith, h.allowed, can-le-len rate (frames_written book) ratio.src))
in_time-in rate (Draining closed) book ratio h = eats-in_time rate (frames_written book) book.eaten book.given ratio h.eats h.needed h.allowed

-- and silence was eaten only once no more comes, after the last frame
ended-in : (rate : Rate) (state : PlayState) (book : PlayBook) → IsPlayInOrder rate state book → 0 < need rate book.given - book.eaten → (is_draining state ≡ true) × (book.eaten ≡ frames_written book)
ended-in rate Free book h some = absurd (omega (arith, some, ap (need rate) h.1.given_none))
ended-in rate Setup book h some = absurd (omega (arith, some, ap (need rate) h.1.given_none))
ended-in rate Primed book h some = absurd (omega (arith, some, ap (need rate) h.1.given_none))
ended-in rate Running book h some = absurd (omega (arith, some, h.needed))
ended-in rate (Draining closed) book h some =
    let eats = h.eats in
    (refl, omega (arith, some, h.needed, eats.written))

-- nothing was written of a free book
free-in : (rate : Rate) (state : PlayState) (book : PlayBook) → IsPlayInOrder rate state book → is_play_free state ≡ true → book.written ≡ 0
free-in rate Free book h free = h.0
free-in rate Setup book h free = h.0
free-in rate Primed book h free = absurd (let clash : false ≡ true = free in cc)
free-in rate Running book h free = absurd (let clash : false ≡ true = free in cc)
free-in rate (Draining closed) book h free = absurd (let clash : false ≡ true = free in cc)

-- ---- a channel that is told

-- a path can go on from what its book says
pub can-tell : {B : Type 0} (kind : B → Kind) (filters : Filters) (book : PlayBook) (bytes : List ℕ) (samples : List ℤ) (channel : PlayChannelOf B) → CanTellPlay kind filters book bytes samples channel → is_play_free book.state ≡ false
    → CanTellPath kind Play filters book.opening bytes book.eaten book.given samples channel.path
can-tell kind filters book bytes samples channel h used =
    let safe = h.safe in
    let serves = channel.serves in
    let device = seen filters channel.path.device in
    can-tell-path kind Play filters book.opening bytes book.eaten book.given samples channel.path
    (record { device = serves.device; rate = h.rate; fragments = safe.fragments; room = serves.room; kinds = h.kinds }) (omega (arith, h.waiting, safe.fill))
    (λ is. in_time-in (play_rate_at device book) book.state book (ratio-between device book.opening.settings is h.rate) safe.order) (h.past used)

-- and the channel has been told
pub told : {B : Type 0} (kind : B → Kind) (kept : B → Kept) (mark : B → ℕ) (filters : Filters) (bytes : List ℕ) (samples : List ℤ) (old new : PlayChannelOf B)
    → HasToldPath kind kept mark Play filters new.book.opening bytes new.book.eaten new.book.given samples old.path new.path → HasToldPlay kind kept mark filters new.book bytes samples old new
told kind kept mark filters bytes samples old new t =
    let safe = new.safe in
    record {
      device_same = t.device;
      marks = t.marks;
      book_is = refl;
      ring_is = t.ring;
      ready = record {
        kinds = t.kinds;
        planned = λ used. t.planned;
        far = record {
          zeros = need (path_rate new.path) new.book.given - new.book.eaten;
          chain_is = λ used. t.far filters;
          ended = ended-in (path_rate new.path) new.book.state new.book safe.order;
        };
      };
      keeps = λ used. t.keeps;
    }

-- so has a free one, on whose path a run began
pub told-free : {B : Type 0} (kind : B → Kind) (kept : B → Kept) (mark : B → ℕ) (filters : Filters) (bytes : List ℕ) (samples : List ℤ) (old new : PlayChannelOf B) → is_play_free new.book.state ≡ true → length bytes ≡ play_fill_of new.book
    → HasBegun kind kept mark Play filters new.book.opening old.path new.path → HasToldPlay kind kept mark filters new.book bytes samples old new
told-free kind kept mark filters bytes samples old new free long begun =
    let safe = new.safe in
    let empty = begun.empty in
    let none : length bytes ≡ 0 = omega (arith, long, free-in (path_rate new.path) new.book.state new.book safe.order free) in
    record {
      device_same = begun.device;
      marks = begun.marks;
      book_is = refl;
      ring_is = empty.ring ∙ sym (nil_from_length bytes none);
      ready = record {
        kinds = begun.kinds;
        planned = λ used. begun.planned;
        far = record {
          zeros = 0;
          chain_is = λ used. absurd (let clash = sym free ∙ used in cc);
          ended = λ some. absurd (omega (arith, some));
        };
      };
      keeps = λ used. absurd (let clash = sym free ∙ used in cc);
    }

-- ---- channels that are alike

-- Two channels of one device that are ready by one book, with the same bytes in the ring and the same samples kept, stand for the same.
pub play-known : {B : Type 0} (kind : B → Kind) (kept : B → Kept) (filters : Filters) (one other : PlayChannelOf B) → IsPlayReady kind kept filters one → IsPlayReady kind kept filters other → PlayAreAlike kept one other
    → PlayStandsAs kept one other
play-known kind kept filters one other a b alike = record {
  book = alike.book_same;
  planned = λ tables served used.
      let busy = free used in
      planned-as Play tables one.book.opening.settings other.book.opening.settings one.path other.path alike.device_same (same-plan busy) settings (served busy);
  far = λ tables f.
      let far = b.far in
      record {
        zeros = far.zeros;
        chain_is = λ used. far-anyhow kept filters tables other.path.chain other.book.eaten far.zeros other.book.given (far.chain_is used);
        ended = far.ended;
      };
  stands = λ tables bytes s. subst (λ (k : PlayBook). PlayStands kept tables other k bytes) (sym alike.book_same) (record {
    book_is = alike.book_same;
    count = s.count;
    ring_is = alike.ring_same ∙ s.ring_is;
    zeros = s.zeros;
    chain_is = λ used.
        chain-known kept filters one.path.chain other.path.chain one.book.eaten a.far.zeros one.book.given ((a.far).chain_is used) (as-far used)
        (record { plan = same-plan used; keeps = alike.keeps used }) tables _ s.zeros (eaten bytes s.count) (s.chain_is used);
    ended = s.ended;
  });
}
  where
    eaten : (bytes : List ℕ) → length bytes ≡ one.book.written → length (take one.book.eaten (frames one.book.opening.settings bytes)) ≡ one.book.eaten
    eaten bytes count =
        let within = one.within in
        length-eaten one.book.opening.settings bytes one.book.eaten (frames_there one.book.opening.settings (length bytes) one.book.eaten (omega (arith, within, count)))

    free : is_play_free other.book.state ≡ false → is_play_free one.book.state ≡ false
    free used = sym (ap (λ (k : PlayBook). is_play_free k.state) alike.book_same) ∙ used

    settings : other.book.opening.settings ≡ one.book.opening.settings
    settings = ap (λ (k : PlayBook). k.opening.settings) alike.book_same

    same-plan : is_play_free one.book.state ≡ false → plan_in other.path.chain ≡ plan_in one.path.chain
    same-plan used =
        let busy = ap (λ (k : PlayBook). is_play_free k.state) alike.book_same ∙ used in
        plans-same Play filters one.book.opening.settings other.book.opening.settings one.path other.path alike.device_same settings (a.planned used) (b.planned busy)

    as-far : is_play_free one.book.state ≡ false → ChainIsSoFar kept filters other.path.chain one.book.eaten (a.far).zeros one.book.given
    as-far used =
        let busy = ap (λ (k : PlayBook). is_play_free k.state) alike.book_same ∙ used in
        let here = subst (λ (k : PlayBook). ChainIsSoFar kept filters other.path.chain k.eaten (b.far).zeros k.given) alike.book_same ((b.far).chain_is busy) in
        let zeros = here.silent ∙ ap (λ (p : PlanSeen). need (rate_in_plan p) one.book.given - one.book.eaten) (same-plan used) ∙ sym ((a.far).chain_is used).silent in
        subst (λ n. ChainIsSoFar kept filters other.path.chain one.book.eaten n one.book.given) zeros here
