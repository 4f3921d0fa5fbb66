-- How far a channel is, by its book's counts, and how far a pull of its chain goes then.
use Rattle.std.proofs.Common.{◌≡◌, ℕ, ◌+◌, ◌-◌, ◌*◌, true, false, List, length, take, ℤ, All, sym, ap, ◌∙◌, subst, arith}
use Rattle.std.proofs.Math.Nat.{mul_comm, mul-div_cancel, mul-sub}
use Rattle.pcm_num.specs.Limit.{FitsBits}
use Rattle.pcm_format.specs.declared.settings.Settings.{Settings}
use Rattle.pcm_format.specs.Formats.{bits_of}
use Rattle.pcm_format.specs.Frames.{Frame, frame_bytes, frames, whole_frames}
use Rattle.pcm_format.specs.Layouts.{channels_of}
use Rattle.pcm_format.proofs.Streams.{frame_bytes-above, length-frames}
use Rattle.pcm_rate.specs.declared.rate.Rate.{Rate}
use Rattle.pcm_rate.specs.Rates.{IsRatio, need}
use Rattle.pcm_rate.proofs.Counts.{can-greatest, need_grows}
use Rattle.pcm_ring.specs.Ring.{Ring}
use Rattle.pcm_feeder.specs.Filters.{Filters}
use Rattle.pcm_feeder.specs.Kept.{Kept}
use Rattle.pcm_plan.specs.Plans.{PlanSeen}
use Rattle.pcm_chain.specs.declared.chain.ChainOf.{ChainOf}
use Rattle.pcm_chain.specs.declared.chain.Pulled.{Pulled}
use Rattle.pcm_chain.specs.Bits.{bits_left}
use Rattle.pcm_chain.specs.Chains.{plan_in}
use Rattle.pcm_chain.specs.Far.{ChainIsSoFar}
use Rattle.pcm_chain.specs.Pulls.{waiting_frames, GoesOnFar, PullsAsFar}
use Rattle.pcm_chain.specs.Rings.{taken_bytes}
use Rattle.pcm_chain.proofs.Bits.{bits-played}
use Rattle.pcm_chain.proofs.Far.{chain-far}
use Rattle.pcm_chain.proofs.Pulling.{no-silence-far}
use Rattle.pcm_chain.proofs.Waiting.{length-waiting}
use Rattle.pcm_desk.specs.declared.map_book.MapBook.{MapBook}
use Rattle.pcm_desk.specs.Device.{DeviceSeen, mix_settings, play_plan_between, device_quality, seen}
use Rattle.pcm_desk.specs.RunStates.{is_running}
use Rattle.pcm_desk.specs.MapBooks.{taken_of}
use Rattle.pcm_desk.specs.Channels.{map_rate_at}
use Rattle.pcm_map.specs.declared.channel.MapChannelOf.{MapChannelOf}
use Rattle.pcm_map.specs.Channels.{area_of, IsMapPlanned, MapIsSoFar, MapStands}
use Rattle.pcm_map.specs.Pieces.{book_giving, taken_for}
use Rattle.pcm_map.proofs.Areas.{length-area_bytes}
use Rattle.pcm_map.proofs.Books.{planned-near, planned-rate, planned-safe}
use Rattle.pcm_map.proofs.Held.{running-held}

-- ---- what stands for bytes is as far as its book counts

-- the bytes hold as many frames as its book has eaten
pub frames-eaten : {B : Type 0} (kept : B → Kept) (filters : Filters) (channel : MapChannelOf B) (bytes : List ℕ) → MapStands kept filters channel channel.book bytes → length (frames channel.book.opening.settings bytes) ≡ channel.book.eaten
frames-eaten kept filters channel bytes s =
    let settings : Settings = channel.book.opening.settings in
    length-frames settings bytes ∙ ap (whole_frames settings) s.count ∙ mul-div_cancel channel.book.eaten (frame_bytes-above settings)

pub map-far : {B : Type 0} (kept : B → Kept) (filters : Filters) (channel : MapChannelOf B) (bytes : List ℕ) → MapStands kept filters channel channel.book bytes → MapIsSoFar kept filters channel
map-far kept filters channel bytes s used =
    let chain = channel.path.chain in
    subst (λ (n : ℕ). ChainIsSoFar kept filters chain n 0 channel.book.given) (frames-eaten kept filters channel bytes s)
    (chain-far kept filters chain (frames channel.book.opening.settings bytes) 0 channel.book.given (s.chain_is used))

-- ---- a pull

-- the bytes of the frames between two counts
pub between-bytes : (a b z : ℕ) → (b - a) * z ≡ b * z - a * z
between-bytes a b z = mul_comm (b - a) z ∙ mul-sub z b a ∙ ap (λ (x : ℕ). x - z * a) (mul_comm z b) ∙ ap (λ (y : ℕ). b * z - y) (mul_comm z a)

-- how far a pull goes that is handed just what its outputs need
far-enough : (rate : Rate) (n eaten waiting given : ℕ) (pulled : Pulled) → IsRatio rate → eaten ≡ need rate given → waiting ≡ need rate (given + n) - eaten → PullsAsFar rate false n eaten waiting given pulled
    → (pulled.given ≡ n) × (pulled.eaten ≡ waiting)
far-enough rate n eaten waiting given pulled ratio all rest far =
    let grows = need_grows rate given (given + n) ratio.dst (omega arith) in
    let sum : eaten + waiting ≡ need rate (given + n) = omega (arith, all, rest, grows) in
    let allowed = (can-greatest rate ratio.src ratio.dst (given + n) (eaten + waiting)).0 (omega (arith, sum)) in
    let went = far.given in
    let took = far.eaten in
    (omega (arith, went, allowed), omega (arith, took, sum))

-- what a pull says of a channel, whatever bytes were taken
pub record PullsFar {B : Type 0} (kept : B → Kept) (filters : Filters) (n : ℕ) (old : MapChannelOf B) (ring : Ring) (new : ChainOf B) (pulled : Pulled) (out : List ℤ) : Type 0 where
  pub given : pulled.given ≡ n
  pub eaten : pulled.eaten ≡ length (waiting_frames (plan_in old.path.chain) old.book.opening.settings.format ring.bytes)
  pub all : pulled.eaten * frame_bytes old.book.opening.settings ≡ length (taken_for filters n old)
  pub bits : All (FitsBits (bits_of old.path.device.mix.format)) (take (n * channels_of old.path.device.mix.layout) out)
  pub chain_is : ChainIsSoFar kept filters new (need (map_rate_at (seen filters old.path.device) old.book) (old.book.given + n)) 0 (old.book.given + n)

pub pulls-far : {B : Type 0} (kept : B → Kept) (filters : Filters) (n : ℕ) (old : MapChannelOf B) (ring : Ring) (new : ChainOf B) (pulled : Pulled) (out : List ℤ) → IsMapPlanned filters old → is_running old.book.state ≡ true
    → ring.bytes ≡ taken_for filters n old → GoesOnFar kept filters false n old.book.opening.settings.format ring old.path.chain new pulled out → MapIsSoFar kept filters old
    → PullsFar kept filters n old ring new pulled out
pulls-far kept filters n old ring new pulled out planned running taken goes far =
    let device : DeviceSeen = seen filters old.path.device in
    let book : MapBook = old.book in
    let settings : Settings = book.opening.settings in
    let z : ℕ = frame_bytes settings in
    let plan : PlanSeen = play_plan_between device settings in
    let rate : Rate = map_rate_at device book in
    let ratio = (planned-near filters old planned).ratio in
    let counted = (planned-safe filters old planned).taken in
    let m : ℕ = need rate (book.given + n) in
    let grows = need_grows rate book.given (book.given + n) ratio.dst (omega arith) in
    let long : length (taken_for filters n old) ≡ (m - book.eaten) * z =
    length-area_bytes (area_of old) (taken_of book) (taken_of (book_giving filters n old) - taken_of book) ∙ sym (between-bytes book.eaten m z) in
    let waiting : List Frame = waiting_frames (plan_in old.path.chain) settings.format ring.bytes in
    let rest : length waiting ≡ m - book.eaten =
    ap (λ (p : PlanSeen). length (waiting_frames p settings.format ring.bytes)) planned.plan_is ∙ length-waiting plan settings.format ring.bytes
    ∙ ap (λ (bytes : List ℕ). whole_frames settings (length bytes)) taken ∙ ap (whole_frames settings) long ∙ mul-div_cancel (m - book.eaten) (frame_bytes-above settings) in
    let p = goes book.eaten 0 book.given (far (running-held book.state running)) (λ some. absurd (omega arith)) in
    let went = far-enough rate n book.eaten (length waiting) book.given pulled ratio counted rest
    (subst (λ (r : Rate). PullsAsFar r false n book.eaten (length waiting) book.given pulled) (planned-rate filters old planned) p.far) in
    let total : book.eaten + pulled.eaten ≡ m = omega (arith, went.1, rest, counted, grows) in
    record {
      given = went.0;
      eaten = went.1;
      all = ap (λ (k : ℕ). k * z) (went.1 ∙ rest) ∙ sym long;
      bits = subst (λ (deep : ℕ). All (FitsBits deep) (take (n * channels_of plan.target) out)) (bits-played filters (device_quality device) settings (mix_settings device))
          (subst (λ (k : ℕ). All (FitsBits (bits_left plan.stages)) (take (k * channels_of plan.target) out)) went.0
          (subst (λ (q : PlanSeen). All (FitsBits (bits_left q.stages)) (take (pulled.given * channels_of q.target) out)) planned.plan_is p.bits));
      chain_is = subst (λ (k : ℕ). ChainIsSoFar kept filters new m 0 (book.given + k)) went.0
          (subst (λ (k : ℕ). ChainIsSoFar kept filters new k 0 (book.given + pulled.given)) total
          (no-silence-far kept filters (length waiting) new book.eaten book.given pulled p.behind));
    }

-- no byte is left in the ring
pub ring-empty : {B : Type 0} (kept : B → Kept) (filters : Filters) (n : ℕ) (old : MapChannelOf B) (ring : Ring) (new : ChainOf B) (pulled : Pulled) (out : List ℤ) → IsMapPlanned filters old
    → PullsFar kept filters n old ring new pulled out → taken_bytes (plan_in old.path.chain) old.book.opening.settings.format pulled.eaten ≡ length (taken_for filters n old)
ring-empty kept filters n old ring new pulled out planned p =
    ap (λ (q : PlanSeen). taken_bytes q old.book.opening.settings.format pulled.eaten) planned.plan_is ∙ p.all
