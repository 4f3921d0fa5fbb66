-- A call that a session takes is one that its engine can take.
use Rattle.std.proofs.Common.{◌≡◌, List, ℕ, ◌+◌, ◌%◌, ◌<◌, ◌≤◌, true, length, subst, arith}
use Rattle.std.specs.Prelude.{◌&&◌, ◌==◌, nat_le, nat_lt}
use Rattle.std.proofs.lemmas.Bool.{and_parts, eqb-true}
use Rattle.std.proofs.lemmas.Bool.Decides.{nat_tests}
use Rattle.pcm_oss.specs.declared.event.Event.{Event}
use Rattle.pcm_oss.specs.declared.event.Event.TheVariants.{Open, Read, Mixer, Intr}
use Rattle.pcm_feeder.specs.declared.kind.Kind.{Kind}
use Rattle.pcm_feeder.specs.Kept.{Kept}
use Rattle.pcm_desk.specs.declared.limits.TheConstants.{DESCRIPTORS, READ_BYTES}
use Rattle.pcm_desk.specs.Device.{DeviceSeen, device_settings, ring_frames}
use Rattle.pcm_desk.specs.Events.{bytes_handed, frames_taken}
use Rattle.pcm_engine.specs.declared.engine.EngineOf.{EngineOf}
use Rattle.pcm_engine.specs.declared.limits.TheConstants.{LIFE}
use Rattle.pcm_engine.specs.Brought.{IsAllowed, bytes_asked, samples_asked}
use Rattle.pcm_engine.specs.Engines.{AreReady, CanStepWith, device_of, samples_most}
use Rattle.pcm_foreign.specs.Devices.{is_rate}
use Rattle.pcm_foreign.proofs.Judging.{rate-is}
use Rattle.pcm_format.specs.Layouts.{channels_of}
use Rattle.pcm_session.specs.Taken.{has_right, is_descriptor, is_left, is_taken, is_allowed}

below : (one other : ℕ) → nat_lt one other ≡ true → one < other
below one other is = grind (arith, nat_tests)

at_most : (one other : ℕ) → nat_le one other ≡ true → one ≤ other
at_most one other is = grind (arith, nat_tests)

allowed_is : (device : DeviceSeen) (event : Event) → is_allowed device event ≡ true → IsAllowed device event
allowed_is device (Open fd way settings) is =
    let both = and_parts (is_descriptor fd) (is_rate settings.rate) is in
    (below fd DESCRIPTORS both.0, rate-is settings.rate both.1)
allowed_is device (Read fd count) is =
    let both = and_parts (is_descriptor fd) (nat_le count READ_BYTES) is in
    (below fd DESCRIPTORS both.0, at_most count READ_BYTES both.1)
allowed_is device (Mixer request) is = tt
allowed_is device (Intr frames) is =
    let both = and_parts (nat_lt 0 frames) (nat_le frames (ring_frames device)) is in
    (below 0 frames both.0, at_most frames (ring_frames device) both.1)
allowed_is device event is = below _ DESCRIPTORS is

-- what the engine asks for
pub can-step : {B : Type 0} (kind : B → Kind) (kept : B → Kept) (engine : EngineOf B) (event : Event) (bytes : List ℕ) (samples : ℕ) (out : List ℕ) (room : ℕ) → is_taken (device_of engine) engine.parent.handed event (length bytes) samples room ≡ true → room ≡ length out
    → AreReady kind kept engine → (samples ≤ samples_most engine event) × CanStepWith kind kept engine event bytes out
can-step kind kept engine event bytes samples out room is long ready =
    let device = device_of engine in
    let layout = (device_settings device).layout in
    let within = is_allowed device event in
    let same = length bytes == bytes_asked event in
    let fits = nat_le samples (samples_asked layout event) in
    let all = and_parts (has_right device event (length bytes) samples && is_left engine.parent.handed event) (nat_le (bytes_handed device event) room) is in
    let most = and_parts (has_right device event (length bytes) samples) (is_left engine.parent.handed event) all.0 in
    let right = and_parts (within && same && fits) (samples % channels_of layout == 0) most.0 in
    let some = and_parts (within && same) fits right.0 in
    let first = and_parts within same some.0 in (
      at_most samples (samples_asked layout event) some.1,
      record {
        within = allowed_is device event first.0;
        bytes = eqb-true (length bytes) (bytes_asked event) first.1;
        step = record {
          ready = ready;
          room = subst (λ (n : ℕ). bytes_handed device event ≤ n) long (at_most (bytes_handed device event) room all.1);
          life = at_most (engine.parent.handed + frames_taken event) LIFE most.1;
        };
      },
    )
