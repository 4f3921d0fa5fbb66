-- The books of a ready engine are in order, and no ring passes its size: its channels and its parent carry it.
use Rattle.std.proofs.Common.{◌≡◌, ℕ, ◌+◌, ◌<◌, ◌≤◌, ◌^◌, List, length, get_or, map, refl, sym, ap, ◌∙◌, subst, arith, ◌*◌}
use Rattle.std.specs.Prelude.{All}
use Rattle.std.proofs.lemmas.List.Elements.{All-map}
use Rattle.std.proofs.lemmas.List.{get_or-map, length-map}
use Rattle.std.proofs.Math.Nat.{mul-le-mul_right}
use Rattle.pcm_oss.proofs.Limits.{usual-fragments}
use Rattle.pcm_engine.specs.Types.{Device, Filters, Here, Kept, Kind, MapBook, PlayBook, PlayState, Rate, RecordBook}
use Rattle.pcm_feeder.specs.Limits.{IsRate}
use Rattle.pcm_desk.specs.Here.{IsHere}
use Rattle.pcm_desk.specs.Device.{DeviceSeen, IsDevice, IsInLimits, here_at, passed_for, ring_frames, seen, mix_frames, unfiltered, parent_plan, parent_rate, play_plan_between}
use Rattle.pcm_desk.specs.Channels.{map_rate_at, play_rate_at, record_rate_at}
use Rattle.pcm_desk.specs.Desk.{Desk, map_unopened, play_at, play_unopened, record_unopened}
use Rattle.pcm_desk.specs.Own.{MembersWait}
use Rattle.pcm_desk.specs.MapBooks.{taken_of}
use Rattle.pcm_desk.specs.PlaySafe.{PlayIsHere, PlayIsSafe, IsPlayInOrder}
use Rattle.pcm_desk.specs.RecordSafe.{RecordIsSafe}
use Rattle.pcm_desk.specs.MapSafe.{MapIsSafe}
use Rattle.pcm_desk.proofs.Passing.{here-is}
use Rattle.pcm_desk.proofs.PlaySafe.{unstarted}
use Rattle.pcm_desk.proofs.RecordSafe.{safe-unstarted}
use Rattle.pcm_play.specs.declared.channel.PlayChannelOf.{PlayChannelOf}
use Rattle.pcm_sound.proofs.Stories.{HaveRates}
use Rattle.pcm_play.specs.Channels.{IsPlayHere, IsPlayReady}
use Rattle.pcm_play.proofs.Moving.{safe-served}
use Rattle.pcm_record.specs.declared.channel.RecordChannelOf.{RecordChannelOf}
use Rattle.pcm_record.specs.Channels.{IsRecordReady}
use Rattle.pcm_map.specs.declared.channel.MapChannelOf.{MapChannelOf}
use Rattle.pcm_map.specs.Channels.{IsMapReady, CountsFit, IsMapServed}
use Rattle.pcm_bus.specs.Slots.{PlayAreOf, play_books_of}
use Rattle.pcm_vchan.specs.Parents.{mixed_in, AreDue, AreServed, HasBus, here_of, map_channels, play_channels, record_channels}
use Rattle.pcm_engine.specs.declared.descriptors.Descriptors.{Descriptors}
use Rattle.pcm_engine.specs.declared.engine.EngineOf.{EngineOf}
use Rattle.pcm_engine.specs.Desks.{desk_with}
use Rattle.pcm_engine.specs.Invariants.{PartsInOrder}
use Rattle.pcm_engine.specs.Life.{MapKeepsPace, PlayKeepsPace, RecordKeepsPace, bytes_for_frame}
use Rattle.pcm_engine.specs.Answered.{CanBeAsked}
use Rattle.pcm_record.proofs.Capturing.{capture-fits}
use Rattle.pcm_desk.proofs.Ratios.{mix-within, parent-plan-fits, plan-between-fits}
use Rattle.pcm_desk.specs.declared.limits.TheConstants.{MIX_FRAMES}
use Rattle.pcm_engine.proofs.Pace.{ReliesOn, at-slot, near-rate}
use Rattle.pcm_engine.specs.Engines.{AreReady, BooksAreHere, RingsHold, desk_of, device_of}
use Rattle.pcm_format.specs.Frames.{frame_bytes}
use Rattle.pcm_format.proofs.Streams.{frame_bytes-most}
use Rattle.pcm_rate.specs.Rates.{need}
use Rattle.pcm_chain.specs.Counts.{IsNear}
use Rattle.pcm_chain.proofs.Counting.{need-near, rate-near}
use Rattle.pcm_desk.specs.declared.play_book.PlayState.TheVariants.{Running, Draining}
use Rattle.pcm_vchan.specs.declared.parent.ParentOf.{ParentOf}
use Rattle.pcm_engine.specs.declared.limits.TheConstants.{LIFE}
use Rattle.pcm_record.proofs.Moving as recorders
use Rattle.pcm_map.proofs.Books as maps

-- ---- few frames are given to the device, and no count of a book runs ahead of them: so all counts fit 64 bits

-- a frame of the device needs 48 of the mix at most
mixed-few : {B : Type 0} (kept : B → Kept) (device : DeviceSeen) (parent : ParentOf B) → HasBus kept device parent → parent.handed ≤ LIFE → parent.mixed ≤ 48 * LIFE + 33
mixed-few kept device parent has few =
    let most = need-near (parent_rate device) parent.handed (rate-near (parent_plan device) (parent-plan-fits device has.planned.limits)) in
    let level = has.level in
    omega (arith, most, level, few)

-- ---- books that play

-- a run needs 48 frames of its client at most for each that it gave
eaten_few : (state : PlayState) (rate : Rate) (book : PlayBook) → IsNear rate → IsPlayInOrder rate state book → book.eaten ≤ 48 * book.given + 81
eaten_few Running rate book near o = (let early = o.eats.early in omega (arith, early, need-near rate book.given near, need-near rate (book.given + 1) near))
eaten_few (Draining closed) rate book near o = (let early = o.eats.early in omega (arith, early, need-near rate book.given near, need-near rate (book.given + 1) near))
eaten_few state rate book near o = (let none = o.1.eaten_none in omega (arith, none))

-- what was written waits, or was needed for what was mixed
bytes-few : (rate : Rate) (mixed : ℕ) (book : PlayBook) → IsNear rate → PlayIsSafe rate book → PlayKeepsPace mixed book → book.done + book.written ≤ bytes_for_frame * mixed + 133664
bytes-few rate mixed book near safe pace =
    let size : ℕ = frame_bytes book.opening.settings in
    let few = eaten_few book.state rate book near safe.order in
    let up = mul-le-mul_right {m = book.eaten} {n = 48 * book.given + 81} size (omega (arith, few)) in
    let wide = mul-le-mul_right {m = size} {n = 32} (48 * book.given + 81) (frame_bytes-most book.opening.settings) in
    let fill = safe.fill in
    let ring = safe.fragments.fits in
    let played = pace.played in
    omega (arith, up, wide, fill, ring, played)

-- ---- mapped channels

-- the counts of one fit, where it gave so few frames: it takes 48 * 32 bytes a frame at most
counts-fit : {B : Type 0} (filters : Filters) (n : ℕ) (channel : MapChannelOf B) → IsDevice (seen filters channel.path.device) → channel.book.given + n ≤ 2 ^ 53 → CountsFit filters n channel
counts-fit filters n channel d few =
    let device : DeviceSeen = seen filters channel.path.device in
    let settings = channel.book.opening.settings in
    let rate = map_rate_at device channel.book in
    let most = need-near rate (channel.book.given + n) (rate-near (play_plan_between device settings) (plan-between-fits device settings d channel.rate)) in
    let wide = frame_bytes-most settings in
    let up = mul-le-mul_right {m = need rate (channel.book.given + n)} {n = 48 * 2 ^ 53 + 33} (frame_bytes settings) (omega (arith, few, most)) in
    record { given = omega (arith, few); taken = omega (arith, up, wide) }

-- so do the bytes that it took so far
taken-few : {B : Type 0} (filters : Filters) (channel : MapChannelOf B) → IsDevice (seen filters channel.path.device) → IsMapServed filters channel → channel.book.given ≤ 2 ^ 53 → taken_of channel.book < 2 ^ 64
taken-few filters channel d served few =
    let rate = map_rate_at (seen filters channel.path.device) channel.book in
    let z = frame_bytes channel.book.opening.settings in
    let none : channel.book.given + 0 ≡ channel.book.given = omega arith in
    let now = counts-fit filters 0 channel d (omega (arith, few)) in
    let taken = (maps.safe-served filters channel served).taken in
    omega (arith, now.taken, ap (λ (k : ℕ). need rate k * z) none, ap (λ (k : ℕ). k * z) taken)

-- ---- the book of each slot

abbrev IsSafe : DeviceSeen → PlayBook → Type 0
IsSafe device book = PlayIsSafe (play_rate_at device book) book

abbrev IsRecordSafe : DeviceSeen → RecordBook → Type 0
IsRecordSafe device book = RecordIsSafe (record_rate_at device book) book

abbrev IsMapSafe : DeviceSeen → MapBook → Type 0
IsMapSafe device book = MapIsSafe (map_rate_at device book) book

-- what holds of the book of each channel, and of one that nobody has opened, holds of each slot
pub each_book : {X Book : Type 0} (book : X → Book) (holds : Book → Type 0) (channels : List X) (slot : ℕ) (none : Book) → All (λ (channel : X). holds (book channel)) channels → holds none → holds (get_or (map book channels) slot none)
each_book book holds channels slot none each unopened = at-slot holds (map book channels) slot none unopened (All-map holds book channels each)

-- and its rate
pub books-rates : {B : Type 0} (engine : EngineOf B) → IsDevice (device_of engine) → HaveRates (device_of engine) (desk_of engine)
books-rates {B} engine d slot =
    each_book (λ (channel : PlayChannelOf B). channel.book) (λ book. IsRate book.opening.settings.rate) (play_channels engine.parent) slot (play_unopened (device_of engine))
    (λ at other there. (let channel : PlayChannelOf B = get_or (play_channels engine.parent) at other in channel.serves.rate)) d.mix_rate

-- where the mix and the device are
pub here-seen : {B : Type 0} (kept : B → Kept) (filters : Filters) (parent : ParentOf B) → HasBus kept (seen filters parent.device) parent → here_of parent ≡ here_at (seen filters parent.device) parent.handed
here-seen kept filters parent has = ap (λ (mixed : ℕ). record { mixed = mixed; passed = passed_for (seen filters parent.device) parent.handed }) has.level

-- what an event relies on, so that no count runs ahead
pub relies : {B : Type 0} (kind : B → Kind) (kept : B → Kept) (engine : EngineOf B) → AreReady kind kept engine → ReliesOn (device_of engine) (desk_of engine)
relies kind kept engine ready = record { device_is = ready.limits.device_is; rates = books-rates engine ready.limits.device_is; records_safe = ready.records; maps_safe = ready.maps }

-- few frames were mixed, since the device has been given few
pub few-mixed : {B : Type 0} (kept : B → Kept) (engine : EngineOf B) → HasBus kept (device_of engine) engine.parent → engine.parent.mixed < 2 ^ 53
few-mixed kept engine has = omega (arith, mixed-few kept (device_of engine) engine.parent has engine.order.life)

-- the mix and the device are within the limits
pub here-within : {B : Type 0} (kept : B → Kept) (engine : EngineOf B) → IsInLimits (device_of engine) → HasBus kept (device_of engine) engine.parent → IsHere (here_of engine.parent)
here-within kept engine limits has =
    let level = has.level in
    subst IsHere (sym (here-seen kept engine.tables engine.parent has)) (here-is (device_of engine) engine.parent.handed limits (omega (arith, level, few-mixed kept engine has)))

-- and each channel is there
pub channels-here : {B : Type 0} (kept : B → Kept) (filters : Filters) (parent : ParentOf B) (descriptors : Descriptors) → PlayAreOf parent.device (play_channels parent)
    → HasBus kept (seen filters parent.device) parent → BooksAreHere (seen filters parent.device) (desk_with parent descriptors) → All (IsPlayHere filters (here_of parent)) (play_channels parent)
channels-here {B} kept filters parent descriptors own has places slot other there =
    let device : DeviceSeen = seen filters parent.device in
    let desk : Desk = desk_with parent descriptors in
    let channel : PlayChannelOf B = get_or (play_channels parent) slot other in
    let At : PlayBook → Type 0 = λ book. PlayIsHere (play_rate_at device book) (here_of parent) book in
    let book : At channel.book =
    subst At (get_or-map (λ (c : PlayChannelOf B). c.book) (play_channels parent) slot other (play_unopened device) there)
    (subst (λ (here : Here). PlayIsHere (play_rate_at device (play_at device desk slot)) here (play_at device desk slot)) (sym (here-seen kept filters parent has)) (places slot)) in
    subst (λ (d : Device). PlayIsHere (play_rate_at (seen filters d) channel.book) (here_of parent) channel.book) (sym (own slot other there)) book

-- books that nobody has opened are anywhere
pub books-start : {B : Type 0} (filters : Filters) (device : Device) (channels : List (PlayChannelOf B)) (slot : ℕ) (here : Here) → let none : PlayBook = play_unopened (seen filters device) in
    All (λ (channel : PlayChannelOf B). channel.book ≡ none) channels
    → let book : PlayBook = get_or (play_books_of channels) slot none in PlayIsHere (play_rate_at (seen filters device) book) here book
books-start {B} filters device channels slot here each =
    let Here_is : PlayBook → Type 0 = λ book. PlayIsHere (play_rate_at (seen filters device) book) here book in
    let none : Here_is (play_unopened (seen filters device)) = record { last = λ e. cc; left = λ e. cc } in
    each_book (λ (channel : PlayChannelOf B). channel.book) Here_is channels slot (play_unopened (seen filters device)) (λ at other there. subst Here_is (sym (each at other there)) none) none

-- ---- rings

-- what waits is what a book counts, which is no more than its ring holds
pub rings-hold : {B : Type 0} (engine : EngineOf B) → RingsHold engine
rings-hold engine = record {
  playing = λ slot other there. (let channel = get_or (play_channels engine.parent) slot other in let fill = channel.fill in let most = channel.safe.fill in omega arith);
  recording = λ slot other there. (let channel = get_or (record_channels engine.parent) slot other in let fill = channel.fill in let most = channel.safe.fill in omega arith);
  device = engine.parent.full;
}

-- ---- an engine whose channels are ready

pub ready-all : {B : Type 0} (kind : B → Kind) (kept : B → Kept) (engine : EngineOf B) → All (IsPlayReady kind kept engine.tables) (play_channels engine.parent) → All (IsRecordReady kind kept engine.tables) (record_channels engine.parent) → All (IsMapReady kind kept engine.tables) (map_channels engine.parent)
    → HasBus kept (device_of engine) engine.parent → IsInLimits (device_of engine) → BooksAreHere (device_of engine) (desk_of engine) → MembersWait (device_of engine) (desk_of engine) → AreReady kind kept engine
ready-all {B} kind kept engine playing recording mapped bus limits places members = record {
  members = members;
  limits = limits;
  places = places;
  playing = playing;
  recording = recording;
  mapped = mapped;
  bus = bus;
  -- a channel carries it by the plan that its chain goes by
  books = λ slot.
      each_book (λ (channel : PlayChannelOf B). channel.book) (IsSafe (device_of engine)) (play_channels engine.parent) slot (play_unopened (device_of engine))
      (λ at other there.
      let channel : PlayChannelOf B = get_or (play_channels engine.parent) at other in
      subst (λ (d : Device). IsSafe (seen engine.tables d) channel.book) (engine.order.own.playing at other there) (safe-served engine.tables channel (playing at other there).planned))
      (record { order = (refl, unstarted); fill = omega arith; fragments = usual-fragments; volume = refl; told = omega arith });
  records = λ slot.
      let none : RecordBook = record_unopened (device_of engine) in
      each_book (λ (channel : RecordChannelOf B). channel.book) (IsRecordSafe (device_of engine)) (record_channels engine.parent) slot none
      (λ at other there.
      let channel : RecordChannelOf B = get_or (record_channels engine.parent) at other in
      subst (λ (d : Device). IsRecordSafe (seen engine.tables d) channel.book) (engine.order.own.recording at other there) (recorders.safe-served engine.tables channel (recording at other there).planned))
      (safe-unstarted (record_rate_at (device_of engine) none) none (record { captured_none = refl; kept_none = refl; read_none = refl }) refl refl usual-fragments);
  maps = λ slot.
      each_book (λ (channel : MapChannelOf B). channel.book) (IsMapSafe (device_of engine)) (map_channels engine.parent) slot (map_unopened (device_of engine))
      (λ at other there.
      let channel : MapChannelOf B = get_or (map_channels engine.parent) at other in
      subst (λ (d : Device). IsMapSafe (seen engine.tables d) channel.book) (engine.order.own.mapped at other there) (maps.safe-served engine.tables channel (mapped at other there).planned))
      (record { order = refl; taken = refl; fragments = usual-fragments; volume = refl; told = omega arith });
  rings = rings-hold engine;
}

-- they are ready for a call
pub served : {B : Type 0} {kind : B → Kind} {kept : B → Kept} {engine : EngineOf B} → AreReady kind kept engine → AreServed kind kept engine.tables engine.parent
served {engine = engine} ready = record { own = engine.order.own.playing; recorders_own = engine.order.own.recording; maps_own = engine.order.own.mapped; ready = ready.playing; recorders_ready = ready.recording; maps_ready = ready.mapped }

-- ---- counts

-- what holds of every book holds of the book of each channel
book_at : {X Book : Type 0} (book : X → Book) (holds : Book → Type 0) (channels : List X) (slot : ℕ) (other : X) → slot < length channels → All holds (map book channels) → holds (book (get_or channels slot other))
book_at book holds channels slot other there each = subst holds (get_or-map book channels slot other (book other) there) (each slot (book other) (omega (arith, there, length-map channels book)))

-- no channel runs ahead of what was mixed and given to the device
pub play-pace : {B : Type 0} {parent : ParentOf B} {descriptors : Descriptors} → PartsInOrder parent descriptors → All (λ (channel : PlayChannelOf B). PlayKeepsPace parent.mixed channel.book) (play_channels parent)
play-pace {B} {parent} order slot other there = book_at (λ (channel : PlayChannelOf B). channel.book) (PlayKeepsPace parent.mixed) (play_channels parent) slot other there order.pace.playing

pub record-pace : {B : Type 0} {parent : ParentOf B} {descriptors : Descriptors} → PartsInOrder parent descriptors → All (λ (channel : RecordChannelOf B). RecordKeepsPace parent.handed channel.book) (record_channels parent)
record-pace {B} {parent} order slot other there = book_at (λ (channel : RecordChannelOf B). channel.book) (RecordKeepsPace parent.handed) (record_channels parent) slot other there order.pace.recording

pub map-pace : {B : Type 0} {parent : ParentOf B} {descriptors : Descriptors} → PartsInOrder parent descriptors → All (λ (channel : MapChannelOf B). MapKeepsPace parent.mixed channel.book) (map_channels parent)
map-pace {B} {parent} order slot other there = book_at (λ (channel : MapChannelOf B). channel.book) (MapKeepsPace parent.mixed) (map_channels parent) slot other there order.pace.mapped

-- the bytes that one counts are few
pub parent-counted : {B : Type 0} (kind : B → Kind) (kept : B → Kept) (filters : Filters) (parent : ParentOf B) (descriptors : Descriptors) → AreServed kind kept filters parent
    → HasBus kept (seen filters parent.device) parent → PartsInOrder parent descriptors → All (λ (channel : PlayChannelOf B). channel.book.done + channel.book.written < 2 ^ 63) (play_channels parent)
parent-counted {B} kind kept filters parent descriptors ready has order slot other there =
    let channel : PlayChannelOf B = get_or (play_channels parent) slot other in
    let near = near-rate (seen filters channel.path.device) channel.book.opening.settings
    (subst (λ (d : Device). IsDevice (seen filters d)) (sym (ready.own slot other there)) has.planned.limits) channel.serves.rate in
    let safe = safe-served filters channel (ready.ready slot other there).planned in
    omega (arith, bytes-few _ parent.mixed channel.book near safe (play-pace order slot other there), mixed-few kept (seen filters parent.device) parent has order.life)

pub bytes-counted : {B : Type 0} {kind : B → Kind} {kept : B → Kept} {engine : EngineOf B} → AreReady kind kept engine
    → All (λ (channel : PlayChannelOf B). channel.book.done + channel.book.written < 2 ^ 63) (play_channels engine.parent)
bytes-counted {B} {kind} {kept} {engine} ready = parent-counted kind kept engine.tables engine.parent engine.descriptors (served ready) ready.bus engine.order

-- and what a mapped one has taken fits
pub maps-taken : {B : Type 0} (kind : B → Kind) (kept : B → Kept) (engine : EngineOf B) → AreReady kind kept engine
    → All (λ (channel : MapChannelOf B). taken_of channel.book < 2 ^ 64) (map_channels engine.parent)
maps-taken kind kept engine ready slot other there =
    let channel = get_or (map_channels engine.parent) slot other in
    let given = (map-pace engine.order slot other there).given in
    let device = subst (λ (d : Device). IsDevice (seen engine.tables d)) (sym (engine.order.own.mapped slot other there)) ready.bus.planned.limits in
    taken-few engine.tables channel device (ready.mapped slot other there).planned (omega (arith, given, few-mixed kept engine ready.bus))

-- all may be asked where the mix and the device are
pub can-be-asked : {B : Type 0} {kind : B → Kind} {kept : B → Kept} {engine : EngineOf B} {here : Here} → AreReady kind kept engine → here ≡ here_of engine.parent → CanBeAsked kind kept engine.tables here engine.parent engine.descriptors
can-be-asked {B} {kind} {kept} {engine} {here} ready is = record {
  apart = engine.order.apart;
  served = served ready;
  bus = ready.bus;
  here = subst IsHere (sym is) (here-within kept engine ready.limits ready.bus);
  at = is ∙ here-seen kept engine.tables engine.parent ready.bus;
  places = subst (λ (place : Here). All (IsPlayHere engine.tables place) (play_channels engine.parent)) (sym is) (channels-here kept engine.tables engine.parent engine.descriptors engine.order.own.playing ready.bus ready.places);
  count = bytes-counted ready;
  taken = maps-taken kind kept engine ready;
}

-- and all are due for an interrupt, since few frames were mixed and given to the device
pub due : {B : Type 0} {kind : B → Kind} {kept : B → Kept} {engine : EngineOf B} {frames : ℕ} → AreReady kind kept engine → (0 < frames) × (frames ≤ ring_frames (device_of engine)) → AreDue kind kept engine.tables frames engine.parent
due {B} {kind} {kept} {engine} {frames} ready fits =
    let own = engine.order.own in
    let IsOf : Device → Type 0 = λ d. IsDevice (seen engine.tables d) in
    let most = mix-within (device_of engine) engine.parent.handed frames ready.limits.device_is fits.1 in
    let mixes = subst (λ (device : Device). mix_frames (unfiltered device) ≤ MIX_FRAMES) engine.parent.bus_of engine.parent.bus.mix_within in
    let few : mixed_in engine.tables frames engine.parent ≤ MIX_FRAMES = omega (arith, most, mixes) in
    let mixed = few-mixed kept engine ready.bus in
    record {
      bus = ready.bus;
      playing = λ slot other there. record {
        own = own.playing slot other there;
        ready = ready.playing slot other there;
        given = (let played = (play-pace engine.order slot other there).played in omega (arith, played, few, mixed));
        counted = (let counted = bytes-counted ready slot other there in omega (arith, counted));
      };
      recording = λ slot other there.
          let pace = record-pace engine.order slot other there in
          record {
            own = own.recording slot other there;
            ready = ready.recording slot other there;
            captured = capture-fits engine.tables frames (get_or (record_channels engine.parent) slot other) (subst IsOf (sym (own.recording slot other there)) ready.limits.device_is)
                (let captured = pace.captured in omega (arith, captured, engine.parent.within, fits.1, engine.order.life));
            kept = (let kept = pace.kept in omega (arith, kept, engine.order.life));
          };
      mapped = λ slot other there. record {
        own = own.mapped slot other there;
        ready = ready.mapped slot other there;
        counted = counts-fit engine.tables (mixed_in engine.tables frames engine.parent) (get_or (map_channels engine.parent) slot other) (subst IsOf (sym (own.mapped slot other there)) ready.limits.device_is)
            (let given = (map-pace engine.order slot other there).given in omega (arith, given, few, mixed-few kept (device_of engine) engine.parent ready.bus engine.order.life));
      };
    }
