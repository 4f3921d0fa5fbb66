-- One event more of those that an engine is stepped through.
use Rattle.std.proofs.Common.{◌≡◌, ℕ, suc, ◌+◌, ◌*◌, List, [], ◌∷◌, ◌++◌, ◌<◌, ◌≤◌, length, take, refl, ◌∙◌, ap, subst, arith, length-append, length-take-le}
use Rattle.std.specs.Prelude.{All, slice_index_or}
use Rattle.std.proofs.lemmas.List.{take-append-le, take_all}
use Rattle.std.proofs.lemmas.List.Elements.{All-head, All-tail, All-take}
use Rattle.std.proofs.lemmas.List.Sums.{sum_by-append}
use Rattle.pcm_oss.specs.declared.event.Event.{Event}
use Rattle.pcm_oss.specs.declared.event.Event.TheVariants.{Intr}
use Rattle.pcm_oss.specs.Replies.{Reply}
use Rattle.pcm_wave.specs.declared.pool.Pool.{Pool}
use Rattle.pcm_desk.specs.declared.limits.TheConstants.{EVENTS, RING_FRAMES}
use Rattle.pcm_desk.specs.Device.{DeviceSeen, ring_frames}
use Rattle.pcm_desk.specs.Events.{Fits, all_frames_taken, frames_taken}
use Rattle.pcm_sound.specs.Story.{Story, told, told_all}
use Rattle.pcm_sound.specs.StoryReplies.{replies, reply_to}
use Rattle.pcm_feeder.specs.declared.kind.Kind.{Kind}
use Rattle.pcm_feeder.specs.Kept.{Kept}
use Rattle.pcm_engine.specs.declared.engine.EngineOf.{EngineOf}
use Rattle.pcm_engine.specs.declared.limits.TheConstants.{LIFE}
use Rattle.pcm_soak_command.specs.Running.{RanThrough}

pub length-push : (events : List Event) (event : Event) → length events + 1 ≡ length (events ++ event ∷ [])
length-push events event = omega (arith, length-append events (event ∷ []))

-- the replies to one event more
pub replies-more : (device : DeviceSeen) (pool : Pool) (story : Story) (events : List Event) (event : Event)
    → replies device pool story (events ++ event ∷ []) ≡ replies device pool story events ++ reply_to device (told_all device pool story events) event ∷ []
replies-more device pool story [] event = refl
replies-more device pool story (first ∷ events) event =
    ap (λ (rest : List Reply). reply_to device story first ∷ rest) (replies-more device pool (told device pool story first) events event)

pub length-replies : (device : DeviceSeen) (pool : Pool) (story : Story) (events : List Event) → length (replies device pool story events) ≡ length events
length-replies device pool story [] = refl
length-replies device pool story (first ∷ events) = ap (λ n. suc n) (length-replies device pool (told device pool story first) events)

-- ---- frames

-- an interrupt takes no more than the device's ring holds
one_few : (device : DeviceSeen) (pool : Pool) (event : Event) → ring_frames device ≤ RING_FRAMES → Fits device pool event → frames_taken event ≤ RING_FRAMES
one_few device pool (Intr frames) ring fits = omega (arith, ring, fits.1)
one_few device pool event ring fits = omega arith

taken_few : (device : DeviceSeen) (pool : Pool) (events : List Event) → ring_frames device ≤ RING_FRAMES → All (Fits device pool) events → all_frames_taken events ≤ RING_FRAMES * length events
taken_few device pool [] ring fits = omega arith
taken_few device pool (event ∷ events) ring fits =
    let one = one_few device pool event ring (All-head (Fits device pool) event events fits) in
    let rest = taken_few device pool events ring (All-tail (Fits device pool) event events fits) in
    omega (arith, one, rest, sum_by-append frames_taken (event ∷ []) events)

-- so what few events take is left
pub life-left : {B : Type 0} (kind : B → Kind) (kept : B → Kept) (engine : EngineOf B) (device : DeviceSeen) (pool : Pool) (events : List Event) (at : ℕ) (other : Event) → RanThrough kind kept engine device pool (take at events)
    → All (Fits device pool) events → length events ≤ EVENTS → at < length events → engine.parent.handed + frames_taken (slice_index_or events at other) ≤ LIFE
life-left kind kept engine device pool events at other ran fits few there =
    let ring : ring_frames device ≤ RING_FRAMES = subst (λ (d : DeviceSeen). ring_frames d ≤ RING_FRAMES) ran.device_is ran.ready.limits.ring_most in
    let before = taken_few device pool (take at events) ring (All-take (Fits device pool) at events fits) in
    let one = one_few device pool (slice_index_or events at other) ring (fits at other there) in
    omega (arith, ran.handed, before, one, few, there, length-take-le at events (omega (arith, there)))

-- the frames with one event more
pub handed-more : (events : List Event) (event : Event) (before now : ℕ) → before ≡ all_frames_taken events → now ≡ before + frames_taken event → now ≡ all_frames_taken (events ++ event ∷ [])
handed-more events event before now sofar more = omega (arith, sofar, more, sum_by-append frames_taken events (event ∷ []))

-- ---- lists

-- the front of joined lists
pub front : (n : ℕ) (a b : List ℕ) → length a ≡ n → take n (a ++ b) ≡ a
front n a b e =
    let within : n ≤ length a = omega arith in
    let whole : length a ≤ n = omega arith in
    take-append-le n a b within ∙ take_all n a whole
