-- What a channel's book counts, by the rate of its chain's plan.
use Rattle.std.proofs.Common.{inl, inr, ◌≡◌, ℕ, zero, suc, ◌+◌, ◌-◌, ◌*◌, ◌/◌, ◌<◌, ◌≤◌, ◌^◌, Bool, true, false, cond, Ok, refl, sym, ap, ◌∙◌, subst, arith}
use Rattle.std.specs.Prelude.{nat_lt}
use Rattle.std.proofs.Math.Nat.{mul-le-mul_right, mul-div_cancel}
use Rattle.std.proofs.lemmas.Bool.{cases_Bool}
use Rattle.std.proofs.lemmas.Bool.Decides.{nat_tests}
use Rattle.pcm_format.specs.declared.settings.Settings.{Settings}
use Rattle.pcm_format.specs.Frames.{frame_bytes, whole_frames}
use Rattle.pcm_format.proofs.Streams.{frame_bytes-above, frame_bytes-most}
use Rattle.pcm_rate.specs.declared.rate.Rate.{Rate}
use Rattle.pcm_rate.specs.Rates.{IsRatio, can, need}
use Rattle.pcm_rate.proofs.Counts.{can-greatest, div_grows, need-apart, need_grows}
use Rattle.pcm_oss.specs.declared.reply.Answer.{Answer}
use Rattle.pcm_oss.specs.declared.reply.Errno.TheVariants.{Inval}
use Rattle.pcm_feeder.specs.Filters.{Filters}
use Rattle.pcm_plan.specs.Plans.{PlanSeen, rate_in_plan}
use Rattle.pcm_plan.specs.Fits.{IsPlan}
use Rattle.pcm_chain.specs.Chains.{plan_in}
use Rattle.pcm_chain.specs.Counts.{IsNear}
use Rattle.pcm_path.specs.Paths.{path_rate}
use Rattle.pcm_chain.proofs.Counting.{rate-near}
use Rattle.pcm_desk.specs.declared.map_book.MapBook.{MapBook}
use Rattle.pcm_desk.specs.declared.run_state.RunState.{RunState}
use Rattle.pcm_desk.specs.declared.run_state.RunState.TheVariants.{Free, Setup, Running}
use Rattle.pcm_desk.specs.declared.turn.Turn.{Turn}
use Rattle.pcm_desk.specs.Device.{DeviceSeen, IsDevice, play_plan_between, seen}
use Rattle.pcm_desk.specs.BookTurns.{doing, refused}
use Rattle.pcm_desk.specs.Openings.{ring_bytes}
use Rattle.pcm_desk.specs.RunStates.{is_unheld, is_running}
use Rattle.pcm_desk.specs.MapBooks.{map_gives, map_refilled, map_refilled_in, poke_turn, taken_of}
use Rattle.pcm_desk.specs.MapSafe.{MapIsSafe}
use Rattle.pcm_desk.specs.Channels.{map_mixing, map_rate_at}
use Rattle.pcm_desk.proofs.Ratios.{device-is, plan-between-fits}
use Rattle.pcm_map.specs.declared.channel.MapChannelOf.{MapChannelOf}
use Rattle.pcm_map.specs.Channels.{CountsFit, IsMapPlanned, IsMapServed}
use Rattle.pcm_map.specs.Pieces.{book_giving}
use Rattle.pcm_map.proofs.Held.{safe-any}
use Rattle.pcm_desk.proofs.MapSafe.{map-safe-refilled}

-- ---- counts alone

-- a book that counts what it needs has given none more
pub gives-none : (rate : Rate) (book : MapBook) → book.eaten ≡ need rate book.given → map_gives rate 0 book ≡ book
gives-none rate book taken =
    let none : book.given + 0 ≡ book.given = omega arith in
    ap (λ given. record book { eaten = need rate given; given = given }) none ∙ ap (λ eaten. record book { eaten = eaten }) (sym taken)

-- frames given one after another
pub gives-add : (rate : Rate) (n m : ℕ) (book : MapBook) → map_gives rate m (map_gives rate n book) ≡ map_gives rate (n + m) book
gives-add rate n m book =
    let sum : book.given + n + m ≡ book.given + (n + m) = omega arith in
    ap (λ given. record book { eaten = need rate given; given = given }) sum

-- no fewer bytes are taken for more frames
pub taken-grows : (rate : Rate) (n : ℕ) (book : MapBook) → IsRatio rate → book.eaten ≡ need rate book.given → taken_of book ≤ taken_of (map_gives rate n book)
taken-grows rate n book ratio taken =
    let more = need_grows rate book.given (book.given + n) ratio.dst (omega arith) in
    mul-le-mul_right {m = book.eaten} {n = need rate (book.given + n)} (frame_bytes book.opening.settings) (omega (arith, taken, more))

-- what was taken for some frames allows them all
pub given-allowed : (rate : Rate) (settings : Settings) (given : ℕ) → IsRatio rate → given ≤ can rate (whole_frames settings (need rate given * frame_bytes settings))
given-allowed rate settings given ratio =
    let whole : whole_frames settings (need rate given * frame_bytes settings) ≡ need rate given = mul-div_cancel (need rate given) (frame_bytes-above settings) in
    let most = (can-greatest rate ratio.src ratio.dst given (need rate given)).0 (omega arith) in
    omega (arith, most, ap (can rate) whole)

-- few frames need few frames more
pub need-few : (rate : Rate) (given n : ℕ) → IsNear rate → n ≤ 64 → need rate (given + n) ≤ need rate given + 3105
need-few rate given n near few =
    let apart = need-apart rate given n near.ratio.dst in
    let product = mul-le-mul_right {m = rate.src} {n = 48 * rate.dst} n (omega (arith, near.src)) in
    let place = div_grows (n * rate.src) (n * (48 * rate.dst)) rate.dst near.ratio.dst (omega (arith, product)) in
    let most : n * (48 * rate.dst) / rate.dst ≡ n * 48 = ap (λ k. k / rate.dst) (let e : n * (48 * rate.dst) ≡ n * 48 * rate.dst = omega arith in e) ∙ mul-div_cancel (n * 48) near.ratio.dst in
    omega (arith, apart, place, most, near.lookahead)

-- ---- states

running_gives : (state : RunState) (rate : Rate) (n : ℕ) (book : MapBook) → is_running state ≡ true → map_refilled_in rate state n book ≡ map_gives rate n book
running_gives Free rate n book e = cc
running_gives Setup rate n book e = cc
running_gives Running rate n book e = refl

-- a started book gives all frames of an interrupt
pub refilled-gives : (rate : Rate) (n : ℕ) (book : MapBook) → is_running book.state ≡ true → map_refilled rate n book ≡ map_gives rate n book
refilled-gives rate n book e = running_gives book.state rate n book e

pub mixing-gives : (device : DeviceSeen) (n : ℕ) (book : MapBook) → 0 < n → is_running book.state ≡ true → map_mixing device n book ≡ map_gives (map_rate_at device book) n book
mixing-gives device zero book some e = absurd (omega arith)
mixing-gives device (suc n) book some e = refilled-gives (map_rate_at device book) (suc n) book e

-- ---- channels

-- a channel that goes by the plan of some filters: its device
pub planned-device : {B : Type 0} (filters : Filters) (channel : MapChannelOf B) → IsMapPlanned filters channel → IsDevice (seen filters channel.path.device)
planned-device filters channel p = device-is filters channel.path.device channel.rates p.limits

-- the stages fit each other
pub planned-fits : {B : Type 0} (filters : Filters) (channel : MapChannelOf B) → IsMapPlanned filters channel → IsPlan (play_plan_between (seen filters channel.path.device) channel.book.opening.settings)
planned-fits filters channel p = plan-between-fits (seen filters channel.path.device) channel.book.opening.settings (planned-device filters channel p) channel.rate

-- the rate of its plan
pub planned-rate : {B : Type 0} (filters : Filters) (channel : MapChannelOf B) → IsMapPlanned filters channel → rate_in_plan (plan_in channel.path.chain) ≡ map_rate_at (seen filters channel.path.device) channel.book
planned-rate filters channel p = ap (λ (plan : PlanSeen). rate_in_plan plan) p.plan_is

pub planned-near : {B : Type 0} (filters : Filters) (channel : MapChannelOf B) → IsMapPlanned filters channel → IsNear (map_rate_at (seen filters channel.path.device) channel.book)
planned-near filters channel p = rate-near (play_plan_between (seen filters channel.path.device) channel.book.opening.settings) (planned-fits filters channel p)

-- and its book by that rate
pub planned-safe : {B : Type 0} (filters : Filters) (channel : MapChannelOf B) → IsMapPlanned filters channel → MapIsSafe (map_rate_at (seen filters channel.path.device) channel.book) channel.book
planned-safe filters channel p = subst (λ (rate : Rate). MapIsSafe rate channel.book) (planned-rate filters channel p) channel.safe

-- and so a channel's that may be free
pub safe-served : {B : Type 0} (filters : Filters) (channel : MapChannelOf B) → IsMapServed filters channel → MapIsSafe (map_rate_at (seen filters channel.path.device) channel.book) channel.book
safe-served filters channel served =
    elim (cases_Bool (is_unheld channel.book.state)) [
      | inl free ↦ safe-any (path_rate channel.path) (map_rate_at (seen filters channel.path.device) channel.book) channel.book free channel.safe
      | inr used ↦ planned-safe filters channel (served used)
    ]

-- counts that fit at an interrupt fit at one that mixes fewer frames
pub counts-fewer : {B : Type 0} (filters : Filters) (few n : ℕ) (channel : MapChannelOf B) → IsMapPlanned filters channel → few ≤ n → CountsFit filters n channel → CountsFit filters few channel
counts-fewer filters few n channel p within fits =
    let rate = map_rate_at (seen filters channel.path.device) channel.book in
    let z = frame_bytes channel.book.opening.settings in
    let grows = mul-le-mul_right {m = need rate (channel.book.given + few)} {n = need rate (channel.book.given + n)} z
    (need_grows rate (channel.book.given + few) (channel.book.given + n) (planned-near filters channel p).ratio.dst (omega arith)) in
    record { given = omega (arith, fits.given); taken = omega (arith, fits.taken, grows) }

-- then the bytes taken so far fit
pub taken-fits : {B : Type 0} (filters : Filters) (n : ℕ) (channel : MapChannelOf B) → IsMapPlanned filters channel → CountsFit filters n channel → taken_of channel.book < 2 ^ 64
taken-fits filters n channel p fits =
    let rate = map_rate_at (seen filters channel.path.device) channel.book in
    let z = frame_bytes channel.book.opening.settings in
    let none : channel.book.given + 0 ≡ channel.book.given = omega arith in
    let now = counts-fewer filters 0 n channel p (omega arith) fits in
    let taken = (planned-safe filters channel p).taken in
    omega (arith, now.taken, ap (λ (k : ℕ). need rate k * z) none, ap (λ (k : ℕ). k * z) taken)

-- the book of a piece, by the rate of the chain's plan
pub book-given : {B : Type 0} (filters : Filters) (n : ℕ) (old : MapChannelOf B) (new : MapBook) (between : Rate) (plan : PlanSeen) → IsMapPlanned filters old → is_running old.book.state ≡ true
    → new ≡ map_refilled between n old.book → between ≡ rate_in_plan plan → plan ≡ plan_in old.path.chain → new ≡ book_giving filters n old
book-given filters n old new between plan p running made rate_is plan_is =
    made ∙ ap (λ (r : Rate). map_refilled r n old.book) (rate_is ∙ ap (λ (q : PlanSeen). rate_in_plan q) plan_is ∙ planned-rate filters old p)
    ∙ refilled-gives (map_rate_at (seen filters old.path.device) old.book) n old.book running

-- it is in order by that rate
pub safe-given : {B : Type 0} (filters : Filters) (n : ℕ) (old : MapChannelOf B) (new : MapBook) → IsMapPlanned filters old → is_running old.book.state ≡ true → new ≡ book_giving filters n old
    → MapIsSafe (rate_in_plan (plan_in old.path.chain)) new
safe-given filters n old new p running is =
    let rate = map_rate_at (seen filters old.path.device) old.book in
    subst (λ (r : Rate). MapIsSafe r new) (sym (planned-rate filters old p))
    (subst (MapIsSafe rate) (refilled-gives rate n old.book running ∙ sym is) (map-safe-refilled rate n old.book (planned-safe filters old p)))

-- a poke that isn't refused fits the area
poke_within : (b : Bool) (offset count : ℕ) (book : MapBook) (answer : Answer) → nat_lt (ring_bytes book.opening) (offset + count) ≡ b
    → (cond {A = Turn MapBook} b (refused Inval book) (doing book)).reply ≡ Ok answer → offset + count ≤ ring_bytes book.opening
poke_within true offset count book answer e r = cc
poke_within false offset count book answer e r = grind (arith, nat_tests)

pub poke-fits : (offset count : ℕ) (book : MapBook) (answer : Answer) (turn : Turn MapBook) → turn ≡ poke_turn offset count book → turn.reply ≡ Ok answer → offset + count ≤ ring_bytes book.opening
poke-fits offset count book answer turn is r =
    poke_within (nat_lt (ring_bytes book.opening) (offset + count)) offset count book answer refl (ap (λ (t : Turn MapBook). t.reply) (sym is) ∙ r)

-- ---- a piece

-- what its frames need fits 64 bits
pub next-fits : {B : Type 0} (filters : Filters) (n : ℕ) (channel : MapChannelOf B) (between : Rate) → between ≡ map_rate_at (seen filters channel.path.device) channel.book → CountsFit filters n channel
    → need between (channel.book.given + n) < 2 ^ 64
next-fits filters n channel between is fits =
    let settings = channel.book.opening.settings in
    let rate = map_rate_at (seen filters channel.path.device) channel.book in
    let wide = mul-le-mul_right {m = 1} {n = frame_bytes settings} (need rate (channel.book.given + n)) (frame_bytes-above settings) in
    omega (arith, wide, fits.taken, ap (λ (r : Rate). need r (channel.book.given + n)) is)

-- no fewer frames are eaten
pub eaten-grows : {B : Type 0} (filters : Filters) (n : ℕ) (old : MapChannelOf B) (new : MapBook) → IsMapPlanned filters old → new ≡ book_giving filters n old → old.book.eaten ≤ new.eaten
eaten-grows filters n old new p is =
    let rate = map_rate_at (seen filters old.path.device) old.book in
    let more = need_grows rate old.book.given (old.book.given + n) (planned-near filters old p).ratio.dst (omega arith) in
    omega (arith, more, (planned-safe filters old p).taken, ap (λ (b : MapBook). b.eaten) is)

-- and few enough for the ring
pub eaten-few : {B : Type 0} (filters : Filters) (n : ℕ) (old : MapChannelOf B) (new : MapBook) (z : ℕ) → IsMapPlanned filters old → n ≤ 64 → new ≡ book_giving filters n old → z ≡ frame_bytes old.book.opening.settings → (new.eaten - old.book.eaten) * z ≤ 99360
eaten-few filters n old new z p few is wide =
    let rate = map_rate_at (seen filters old.path.device) old.book in
    let most = need-few rate old.book.given n (planned-near filters old p) few in
    let count : new.eaten - old.book.eaten ≤ 3105 = omega (arith, most, (planned-safe filters old p).taken, ap (λ (b : MapBook). b.eaten) is) in
    let narrow = frame_bytes-most old.book.opening.settings in
    let up = mul-le-mul_right {m = new.eaten - old.book.eaten} {n = 3105} z count in
    omega (arith, up, narrow, wide)
