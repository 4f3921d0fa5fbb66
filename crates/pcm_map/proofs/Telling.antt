-- A channel that was told its book and what it kept, and one that is known by them.
use Rattle.std.proofs.Common.{◌≡◌, ◌-◌, ℕ, ℤ, true, false, List, [], length, refl, sym, ap, ◌∙◌, subst, arith}
use Rattle.std.proofs.Math.Nat.{mul-div_cancel}
use Rattle.pcm_format.specs.declared.settings.Settings.{Settings}
use Rattle.pcm_format.specs.Frames.{frames, whole_frames}
use Rattle.pcm_format.proofs.Streams.{frame_bytes-above, length-frames}
use Rattle.pcm_ring.specs.Ring.{Ring, empty_ring}
use Rattle.pcm_rate.specs.declared.rate.Rate.{Rate}
use Rattle.pcm_rate.specs.Rates.{IsRatio, need}
use Rattle.pcm_rate.proofs.Counts.{can-greatest, can-le-len}
use Rattle.pcm_feeder.specs.declared.kind.Kind.{Kind}
use Rattle.pcm_feeder.specs.Filters.{Filters}
use Rattle.pcm_feeder.specs.Kept.{Kept}
use Rattle.pcm_feeder.specs.Racks.{HaveKinds}
use Rattle.pcm_oss.specs.declared.event.Way.TheVariants.{Map}
use Rattle.pcm_plan.specs.Plans.{rate_in_plan}
use Rattle.pcm_chain.specs.declared.chain.ChainOf.{ChainOf}
use Rattle.pcm_chain.specs.Chains.{boxes_in, marks_in, plan_in}
use Rattle.pcm_chain.specs.Pasts.{past_of}
use Rattle.pcm_chain.specs.Counts.{InTime}
use Rattle.pcm_chain.specs.Far.{ChainIsSoFar}
use Rattle.pcm_chain.proofs.Known.{chain-known, far-anyhow}
use Rattle.pcm_desk.specs.declared.map_book.MapBook.{MapBook}
use Rattle.pcm_desk.specs.Channels.{map_rate_at}
use Rattle.pcm_desk.specs.Device.{seen}
use Rattle.pcm_desk.specs.MapBooks.{taken_of}
use Rattle.pcm_desk.specs.RunStates.{is_unheld}
use Rattle.pcm_desk.proofs.Ratios.{ratio-between}
use Rattle.pcm_path.specs.declared.path.PathOf.{PathOf}
use Rattle.pcm_path.specs.Paths.{path_rate, HasBoxes}
use Rattle.pcm_path.specs.Telling.{CanTellPath, HasToldPath}
use Rattle.pcm_path.proofs.Paths.{planned-as}
use Rattle.pcm_path.proofs.Telling.{can-tell-path, plans-same}
use Rattle.pcm_map.specs.declared.channel.MapChannelOf.{MapChannelOf}
use Rattle.pcm_map.specs.Channels.{IsMapReady, MapStands, MapStandsAs}
use Rattle.pcm_map.specs.Telling.{CanTellMap, HasToldMap, MapAreAlike}

-- ---- a channel that is told

-- just what the frames given need is in time
need-in_time : (rate : Rate) (eaten given : ℕ) → IsRatio rate → eaten ≡ need rate given → InTime rate (record { eaten = eaten; given = given })
need-in_time rate eaten given ratio is = record {
  early = omega (arith, is);
  late = (let some = (can-greatest rate ratio.src ratio.dst given eaten).0 (omega (arith, is)) in omega (arith, some, can-le-len rate eaten ratio.src));
}

-- a path can go on from what its book says
pub can-tell : {B : Type 0} (kind : B → Kind) (filters : Filters) (book : MapBook) (samples : List ℤ) (channel : MapChannelOf B) → CanTellMap kind filters book samples channel → is_unheld book.state ≡ false
    → CanTellPath kind Map filters book.opening [] book.eaten book.given samples channel.path
can-tell kind filters book samples channel h used =
    let safe = h.safe in
    let device = seen filters channel.path.device in
    can-tell-path kind Map filters book.opening [] book.eaten book.given samples channel.path
    (record { device = channel.rates; rate = h.rate; fragments = safe.fragments; room = ap (λ (r : Ring). r.max) channel.ring; kinds = h.kinds }) (omega arith)
    (λ is. need-in_time (map_rate_at device book) book.eaten book.given (ratio-between device book.opening.settings is h.rate) safe.taken) (h.past used)

-- its ring has all of its room for a piece of the area
pub all-room : (ring : Ring) (size : ℕ) → ring.bytes ≡ [] → ring.max ≡ size → record ring { size = size } ≡ empty_ring size
all-room ring size empty room =
    ap (λ bytes. record { bytes = bytes; size = size; max = ring.max }) empty ∙ ap (λ max. record { bytes = []; size = size; max = max }) room

-- and the channel, which has that path but for its ring, has been told
pub told : {B : Type 0} (kind : B → Kind) (kept : B → Kept) (mark : B → ℕ) (filters : Filters) (samples : List ℤ) (old new : MapChannelOf B) (path : PathOf B) → new.area ≡ old.area → new.path.device ≡ path.device → new.path.chain ≡ path.chain
    → HasToldPath kind kept mark Map filters new.book.opening [] new.book.eaten new.book.given samples old.path path → HasToldMap kind kept mark filters new.book samples old new
told {B = B} kind kept mark filters samples old new path area device chain t =
    let book : MapBook = new.book in
    let settings : Settings = book.opening.settings in
    let safe = new.safe in
    let silent : need (path_rate path) book.given - book.eaten ≡ 0 = omega (arith, safe.taken, ap (λ (k : ChainOf B). need (rate_in_plan (plan_in k)) book.given) chain) in
    record {
      device_same = device ∙ t.device;
      marks = ap (marks_in mark) chain ∙ t.marks;
      book_is = refl;
      area_same = area;
      ready = record {
        kinds = subst (λ (k : ChainOf B). HaveKinds kind (boxes_in k)) (sym chain) t.kinds;
        planned = λ used. planned-as Map filters settings settings path new.path device (ap plan_in chain) refl t.planned;
        far = λ used. subst (λ (k : ChainOf B). ChainIsSoFar kept filters k book.eaten 0 book.given) (sym chain)
            (subst (λ n. ChainIsSoFar kept filters path.chain book.eaten n book.given) silent (t.far filters));
      };
      keeps = λ used. ap (past_of kept) chain ∙ t.keeps;
    }

-- so has a free one, on whose path a run began
pub told-free : {B : Type 0} (kind : B → Kind) (kept : B → Kept) (mark : B → ℕ) (filters : Filters) (samples : List ℤ) (old new : MapChannelOf B) → is_unheld new.book.state ≡ true → new.area ≡ old.area → new.path.device ≡ old.path.device
    → HasBoxes kind new.path → marks_in mark new.path.chain ≡ marks_in mark old.path.chain → HasToldMap kind kept mark filters new.book samples old new
told-free kind kept mark filters samples old new free area device kinds marks = record {
  device_same = device;
  marks = marks;
  book_is = refl;
  area_same = area;
  ready = record {
    kinds = kinds;
    planned = λ used. absurd (let clash = sym free ∙ used in cc);
    far = λ used. absurd (let clash = sym free ∙ used in cc);
  };
  keeps = λ used. absurd (let clash = sym free ∙ used in cc);
}

-- ---- channels that are alike

-- Two channels of one device that are ready by one book, with the same in their areas and the same samples kept, stand for the same.
pub map-known : {B : Type 0} (kind : B → Kind) (kept : B → Kept) (filters : Filters) (one other : MapChannelOf B) → IsMapReady kind kept filters one → IsMapReady kind kept filters other → MapAreAlike kept one other
    → MapStandsAs kept one other
map-known kind kept filters one other a b alike = record {
  book = alike.book_same;
  area = alike.area_same;
  planned = λ tables served used.
      let busy = free used in
      planned-as Map tables one.book.opening.settings other.book.opening.settings one.path other.path alike.device_same (same-plan busy) settings (served busy);
  far = λ tables f used. far-anyhow kept filters tables other.path.chain other.book.eaten 0 other.book.given (b.far used);
  stands = λ tables bytes s. subst (λ (k : MapBook). MapStands kept tables other k bytes) (sym alike.book_same) (record {
    book_is = alike.book_same;
    count = s.count;
    chain_is = λ used.
        chain-known kept filters one.path.chain other.path.chain one.book.eaten 0 one.book.given (a.far used) (as-far used)
        (record { plan = same-plan used; keeps = alike.keeps used }) tables (frames one.book.opening.settings bytes) 0 (eaten bytes s.count) (s.chain_is used);
  });
}
  where
    eaten : (bytes : List ℕ) → length bytes ≡ taken_of one.book → length (frames one.book.opening.settings bytes) ≡ one.book.eaten
    eaten bytes count =
        let settings : Settings = one.book.opening.settings in
        length-frames settings bytes ∙ ap (whole_frames settings) count ∙ mul-div_cancel one.book.eaten (frame_bytes-above settings)

    free : is_unheld other.book.state ≡ false → is_unheld one.book.state ≡ false
    free used = sym (ap (λ (k : MapBook). is_unheld k.state) alike.book_same) ∙ used

    settings : other.book.opening.settings ≡ one.book.opening.settings
    settings = ap (λ (k : MapBook). k.opening.settings) alike.book_same

    same-plan : is_unheld one.book.state ≡ false → plan_in other.path.chain ≡ plan_in one.path.chain
    same-plan used =
        let busy = ap (λ (k : MapBook). is_unheld k.state) alike.book_same ∙ used in
        plans-same Map filters one.book.opening.settings other.book.opening.settings one.path other.path alike.device_same settings (a.planned used) (b.planned busy)

    as-far : is_unheld one.book.state ≡ false → ChainIsSoFar kept filters other.path.chain one.book.eaten 0 one.book.given
    as-far used =
        let busy = ap (λ (k : MapBook). is_unheld k.state) alike.book_same ∙ used in
        subst (λ (k : MapBook). ChainIsSoFar kept filters other.path.chain k.eaten 0 k.given) alike.book_same (b.far busy)
