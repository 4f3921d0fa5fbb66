-- What a descriptor of an engine holds.
use Rattle.std.proofs.Common.{◌≡◌, ℕ, ◌<◌, length, true, false, Some, refl, sym, ap, ◌∙◌, subst, arith, Bool}
use Rattle.std.specs.Prelude.{Option, not}
use Rattle.std.proofs.lemmas.List.{length-map}
use Rattle.pcm_sequence.proofs.Items.{items-count}
use Rattle.pcm_feeder.specs.declared.kind.Kind.{Kind}
use Rattle.pcm_feeder.specs.Kept.{Kept}
use Rattle.pcm_oss.specs.declared.event.Way.{Way}
use Rattle.pcm_oss.specs.declared.event.Way.TheVariants.{Play, Record, Map}
use Rattle.pcm_rate.specs.declared.rate.Rate.{Rate}
use Rattle.pcm_desk.specs.declared.device.Held.{Held}
use Rattle.pcm_desk.specs.declared.here.Here.{Here}
use Rattle.pcm_desk.specs.declared.play_book.PlayBook.{PlayBook}
use Rattle.pcm_desk.specs.declared.play_book.PlayState.{PlayState}
use Rattle.pcm_desk.specs.declared.play_book.PlayState.TheVariants.{Free, Setup, Primed, Running, Draining}
use Rattle.pcm_desk.specs.declared.record_book.RecordBook.{RecordBook}
use Rattle.pcm_desk.specs.declared.map_book.MapBook.{MapBook}
use Rattle.pcm_desk.specs.Device.{map_slots, play_slots, record_slots}
use Rattle.pcm_desk.specs.Channels.{is_held, map_rate_at, play_rate_at, record_rate_at, may_be_held}
use Rattle.pcm_desk.specs.Desk.{desk_here, held_by, map_at, play_at, record_at, channel_at}
use Rattle.pcm_desk.specs.Own.{slots_of}
use Rattle.pcm_desk.specs.PlayBooks.{is_play_free, is_started}
use Rattle.pcm_desk.specs.RunStates.{is_unheld}
use Rattle.pcm_desk.specs.PlaySafe.{PlayIsHere, PlayIsSafe}
use Rattle.pcm_desk.specs.RecordSafe.{RecordIsSafe}
use Rattle.pcm_desk.specs.MapSafe.{MapIsSafe}
use Rattle.pcm_vchan.specs.Parents.{map_books, map_channels, play_books, play_channels}
use Rattle.pcm_engine.specs.declared.engine.EngineOf.{EngineOf}
use Rattle.pcm_engine.specs.Engines.{AreReady, desk_of, device_of}
use Rattle.pcm_engine.proofs.Turning.{map-there, play-there, record-there}

-- ---- where it is

-- what is held, by its way
pub at-way : (found : Option Held) (held : Held) (way : Way) → found ≡ Some held → held.way ≡ way → found ≡ Some (record { way = way; slot = held.slot })
at-way found held way e is = e ∙ ap (λ (w : Way). Some (record { way = w; slot = held.slot })) is

pub play-slot : {B : Type 0} (engine : EngineOf B) (fd : ℕ) (held : Held) → held_by (desk_of engine) fd ≡ Some held → held.way ≡ Play → held.slot < play_slots (device_of engine)
play-slot engine fd held e way =
    let there = play-there engine.parent engine.descriptors fd held.slot engine.order.apart (at-way (held_by (desk_of engine) fd) held Play e way) in
    let count = engine.parent.slots in
    omega (arith, there, count, items-count engine.parent.channels)

pub record-slot : {B : Type 0} (engine : EngineOf B) (fd : ℕ) (held : Held) → held_by (desk_of engine) fd ≡ Some held → held.way ≡ Record → held.slot < record_slots (device_of engine)
record-slot engine fd held e way =
    let there = record-there engine.parent engine.descriptors fd held.slot engine.order.apart (at-way (held_by (desk_of engine) fd) held Record e way) in
    let count = engine.parent.recorders_count in
    omega (arith, there, count, items-count engine.parent.recorders)

pub map-slot : {B : Type 0} (engine : EngineOf B) (fd : ℕ) (held : Held) → held_by (desk_of engine) fd ≡ Some held → held.way ≡ Map → held.slot < map_slots (device_of engine)
map-slot engine fd held e way =
    let there = map-there engine.parent engine.descriptors fd held.slot engine.order.apart (at-way (held_by (desk_of engine) fd) held Map e way) in
    let count = engine.parent.maps_count in
    omega (arith, there, count, items-count engine.parent.maps)

-- the same of a slot that is one of its way
pub play-within : {B : Type 0} (engine : EngineOf B) (held : Held) → held.slot < slots_of (desk_of engine) held.way → held.way ≡ Play → held.slot < play_slots (device_of engine)
play-within engine held within way =
    let there : held.slot < length (desk_of engine).play = subst (λ (w : Way). held.slot < slots_of (desk_of engine) w) way within in
    let books : length (play_books engine.parent) ≡ length (play_channels engine.parent) = length-map _ _ in
    let count = engine.parent.slots in
    omega (arith, there, count, books, items-count engine.parent.channels)

pub map-within : {B : Type 0} (engine : EngineOf B) (held : Held) → held.slot < slots_of (desk_of engine) held.way → held.way ≡ Map → held.slot < map_slots (device_of engine)
map-within engine held within way =
    let there : held.slot < length (desk_of engine).mapped = subst (λ (w : Way). held.slot < slots_of (desk_of engine) w) way within in
    let books : length (map_books engine.parent) ≡ length (map_channels engine.parent) = length-map _ _ in
    let count = engine.parent.maps_count in
    omega (arith, there, count, books, items-count engine.parent.maps)

-- ---- that it isn't free

-- a run that is started is of a slot that is taken
pub started-taken : (state : PlayState) → is_started state ≡ true → is_play_free state ≡ false
started-taken Free started = cc
started-taken Setup started = cc
started-taken Primed started = cc
started-taken Running started = refl
started-taken (Draining closed) started = refl

unfree : (state : PlayState) → is_held state ≡ true → is_play_free state ≡ false
unfree Free held = cc
unfree Setup held = refl
unfree Primed held = refl
unfree Running held = refl
unfree (Draining closed) held = refl

not-true : (b : Bool) → not b ≡ true → b ≡ false
not-true true e = cc
not-true false e = refl

-- the channel that a descriptor holds, of a way that is known
may_be : {B : Type 0} (engine : EngineOf B) (fd : ℕ) (held : Held) (way : Way) → held_by (desk_of engine) fd ≡ Some held → held.way ≡ way
    → may_be_held (channel_at (device_of engine) (desk_of engine) (record { way = way; slot = held.slot })) ≡ true
may_be engine fd held way e is = subst (λ (w : Way). may_be_held (channel_at (device_of engine) (desk_of engine) (record { way = w; slot = held.slot })) ≡ true) is (engine.order.apart.taken fd held (device_of engine) e)

pub play-taken : {B : Type 0} (engine : EngineOf B) (fd : ℕ) (held : Held) → held_by (desk_of engine) fd ≡ Some held → held.way ≡ Play
    → is_play_free (play_at (device_of engine) (desk_of engine) held.slot).state ≡ false
play-taken engine fd held e way = unfree (play_at (device_of engine) (desk_of engine) held.slot).state (may_be engine fd held Play e way)

pub record-taken : {B : Type 0} (engine : EngineOf B) (fd : ℕ) (held : Held) → held_by (desk_of engine) fd ≡ Some held → held.way ≡ Record
    → is_unheld (record_at (device_of engine) (desk_of engine) held.slot).state ≡ false
record-taken engine fd held e way = not-true (is_unheld (record_at (device_of engine) (desk_of engine) held.slot).state) (may_be engine fd held Record e way)

-- ---- that its book is in order

pub play-safe : {B : Type 0} (kind : B → Kind) (kept : B → Kept) (engine : EngineOf B) (slot : ℕ) (book : PlayBook) → AreReady kind kept engine → book ≡ play_at (device_of engine) (desk_of engine) slot
    → PlayIsSafe (play_rate_at (device_of engine) book) book
play-safe kind kept engine slot book ready is = subst (λ (b : PlayBook). PlayIsSafe (play_rate_at (device_of engine) b) b) (sym is) (ready.books slot)

pub record-safe : {B : Type 0} (kind : B → Kind) (kept : B → Kept) (engine : EngineOf B) (slot : ℕ) (book : RecordBook) → AreReady kind kept engine → book ≡ record_at (device_of engine) (desk_of engine) slot
    → RecordIsSafe (record_rate_at (device_of engine) book) book
record-safe kind kept engine slot book ready is = subst (λ (b : RecordBook). RecordIsSafe (record_rate_at (device_of engine) b) b) (sym is) (ready.records slot)

pub map-safe : {B : Type 0} (kind : B → Kind) (kept : B → Kept) (engine : EngineOf B) (slot : ℕ) (book : MapBook) → AreReady kind kept engine → book ≡ map_at (device_of engine) (desk_of engine) slot
    → MapIsSafe (map_rate_at (device_of engine) book) book
map-safe kind kept engine slot book ready is = subst (λ (b : MapBook). MapIsSafe (map_rate_at (device_of engine) b) b) (sym is) (ready.maps slot)

pub play-here : {B : Type 0} (kind : B → Kind) (kept : B → Kept) (engine : EngineOf B) (slot : ℕ) (rate : Rate) (here : Here) (book : PlayBook) → AreReady kind kept engine
    → rate ≡ play_rate_at (device_of engine) (play_at (device_of engine) (desk_of engine) slot) → here ≡ desk_here (device_of engine) (desk_of engine) → book ≡ play_at (device_of engine) (desk_of engine) slot
    → PlayIsHere rate here book
play-here kind kept engine slot rate here book ready rate_is here_is book_is =
    let device = device_of engine in
    let desk = desk_of engine in
    subst (λ (r : Rate). PlayIsHere r here book) (sym rate_is)
    (subst (λ (h : Here). PlayIsHere (play_rate_at device (play_at device desk slot)) h book) (sym here_is)
    (subst (λ (b : PlayBook). PlayIsHere (play_rate_at device (play_at device desk slot)) (desk_here device desk) b) (sym book_is) (ready.places slot)))
