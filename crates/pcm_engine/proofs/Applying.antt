-- An event is applied: what its call says of a parent and descriptors, and that they are in order after it.
use Rattle.std.proofs.Common.{◌≡◌, ℕ, ℤ, ◌+◌, ◌*◌, ◌≤◌, List, [], length, Result, Ok, Err, refl, sym, ap, ◌∙◌, subst, arith}
use Rattle.std.specs.Prelude.{IsErr, OnErr}
use Rattle.pcm_engine.specs.Types.{Answer, Device, Errno, Event, Filters, Kept, Kind}
use Rattle.pcm_oss.specs.declared.event.Event.TheVariants.{Read, Mixer, Intr}
use Rattle.pcm_sequence.specs.Fixed.{fixed_len}
use Rattle.pcm_format.specs.Layouts.{channels_of}
use Rattle.pcm_oss.specs.declared.mix_request.MixRequest.{MixRequest}
use Rattle.pcm_oss.specs.Replies.{Reply}
use Rattle.pcm_mixdev.specs.Mixers.{mixer_after, mixer_reply}
use Rattle.pcm_desk.specs.Device.{DeviceSeen, mixed_for, mixed_slots, seen, unfiltered}
use Rattle.pcm_desk.specs.Desk.{Desk}
use Rattle.pcm_desk.specs.Own.{HoldApart}
use Rattle.pcm_desk.specs.Events.{frames_taken}
use Rattle.pcm_desk.proofs.Apart.{apart-after}
use Rattle.pcm_desk.proofs.Turning.{handed-taken}
use Rattle.pcm_bus.specs.declared.bus.BusOf.{BusOf}
use Rattle.pcm_bus.specs.Handovers.{HasMadeFar, IsPlannedBy}
use Rattle.pcm_vchan.specs.declared.parent.ParentOf.{ParentOf}
use Rattle.pcm_vchan.specs.Lending.{with_mixer}
use Rattle.pcm_vchan.specs.Parents.{HasBus, map_channels, play_channels, record_channels, untouched}
use Rattle.pcm_vchan.specs.Slots.{AllHoldUnread}
use Rattle.pcm_engine.specs.declared.descriptors.Descriptors.{Descriptors}
use Rattle.pcm_engine.specs.declared.engine.EngineOf.{EngineOf}
use Rattle.pcm_engine.specs.declared.limits.TheConstants.{LIFE}
use Rattle.pcm_engine.specs.Answered.{AnswersWith, LeavesParent, TakesBy}
use Rattle.pcm_engine.specs.Applied.{Applied, FollowsRules, IsAnsweredAlone}
use Rattle.pcm_engine.specs.Brought.{IsAllowed}
use Rattle.pcm_engine.specs.Desks.{desk_with, turn_on}
use Rattle.pcm_engine.specs.Engines.{AreReady, desk_of, device_of}
use Rattle.pcm_engine.specs.Invariants.{PartsInOrder, AreOwn}
use Rattle.pcm_engine.specs.Life.{KeepsPace}
use Rattle.pcm_engine.specs.Steps.{area_written, bytes_answered, bytes_moved}
use Rattle.pcm_engine.proofs.Answering.{map-stay, play-stay, record-stay}
use Rattle.pcm_engine.proofs.InOrder.{relies}
use Rattle.pcm_engine.proofs.Pace.{HandsSome, pace-after}

-- ---- the parts are in order

hands_some : (device : DeviceSeen) (event : Event) → IsAllowed device event → HandsSome event
hands_some device (Intr n) within = within.0
hands_some device event within = tt

-- they are after an event that was applied
pub order-after : {B : Type 0} {kind : B → Kind} {kept : B → Kept} {engine : EngineOf B} {event : Event} {bytes : List ℕ} {samples : List ℤ} {new : ParentOf B} {left : Descriptors} {told : Reply} → AreReady kind kept engine → IsAllowed (device_of engine) event
    → engine.parent.handed + frames_taken event ≤ LIFE → Applied kind kept engine.tables event bytes samples engine.parent engine.descriptors new left told → PartsInOrder new left
order-after {kind = kind} {kept = kept} {engine = engine} {event = event} ready within life a =
    let turned = a.rules.desk in
    record {
      own = a.own;
      apart = subst HoldApart (sym turned) (apart-after (device_of engine) (desk_of engine) event engine.order.apart);
      pace = subst KeepsPace (sym turned) (pace-after (device_of engine) (desk_of engine) event (hands_some (device_of engine) event within) (relies kind kept engine ready) engine.order.pace);
      life = omega (arith, ap (λ (d : Desk). d.handed) turned, handed-taken (device_of engine) (desk_of engine) event, life);
    }

-- and so many samples are at hand still
pub samples-sized : {B : Type 0} (engine : EngineOf B) (new : ParentOf B) → new.device ≡ engine.parent.device → fixed_len engine.captured ≡ new.device.ring_frames * channels_of new.device.settings.layout
samples-sized engine new same = engine.captured_size ∙ ap (λ (d : Device). d.ring_frames * channels_of d.settings.layout) (sym same)

-- ---- a call

-- an event that isn't an interrupt
abbrev IsCall : Event → Type 0
IsCall (Intr n) = ⊥
IsCall event = Unit {0}

-- one that is told has no bytes in its answer
no_bytes : (device : DeviceSeen) (desk : Desk) (bytes : ℕ → List ℕ) (event : Event) → IsAnsweredAlone event → [] ≡ bytes_answered device desk bytes event
no_bytes device desk bytes (Read fd count) told = absurd told
no_bytes device desk bytes event told = refl

is_call : (event : Event) → IsAnsweredAlone event → IsCall event
is_call (Intr n) told = told
is_call event told = tt

pub applied-call : {B : Type 0} {kind : B → Kind} {kept : B → Kept} {filters : Filters} (call : Event) {bytes : List ℕ} {samples : List ℤ} {old : ParentOf B} {before : Descriptors} {new : ParentOf B} {left : Descriptors} {told : Reply}
    → IsCall call → HasBus kept (seen filters old.device) old → LeavesParent kind kept filters (bytes_moved bytes call) (area_written bytes (desk_with old before) call) old new → FollowsRules kept filters call old before new left told
    → Applied kind kept filters call bytes samples old before new left told
applied-call (Intr n) calls has leaves rules = absurd calls
applied-call {B} {kind} {kept} {filters} call {bytes} {samples} {old} {before} {new} calls has leaves rules = record {
  rules = rules;
  device = leaves.output.device_same;
  own = leaves.own;
  slots = leaves.output.slots_same;
  recorders_slots = leaves.output.recorders_same;
  maps_slots = leaves.output.maps_same;
  channels = leaves.channels;
  recorders = leaves.recorders;
  maps = leaves.maps;
  bus = record {
    planned = subst (λ (bus : BusOf B). IsPlannedBy (seen filters old.device) bus.chain) (sym leaves.output.bus_same) has.planned;
    made = subst (λ (bus : BusOf B). HasMadeFar kept (seen filters old.device) bus.chain new.handed) (sym leaves.output.bus_same)
        (subst (HasMadeFar kept (seen filters old.device) old.bus.chain) (sym leaves.output.handed_same) has.made);
    level = leaves.output.mixed_same ∙ has.level ∙ ap (mixed_for (seen filters old.device)) (sym leaves.output.handed_same);
  };
  turns = (ap (λ (bus : BusOf B). bus.chain) leaves.output.bus_same, leaves.output.ring_same);
}

refusal : {P : Type 0} (result : Result Answer Errno) → IsErr result → OnErr result P → P
refusal (Ok answer) err holds = cc
refusal (Err errno) err holds = holds

pub applied-answer : {B : Type 0} {kind : B → Kind} {kept : B → Kept} {filters : Filters} (call : Event) {bytes : List ℕ} {samples : List ℤ} {old : ParentOf B} {before : Descriptors} {new : ParentOf B} {left : Descriptors} {result : Result Answer Errno}
    → IsAnsweredAlone call → HasBus kept (seen filters old.device) old → AnswersWith kind kept filters (bytes_moved bytes call) (area_written bytes (desk_with old before) call) (turn_on call) old before new left result
    → Applied kind kept filters call bytes samples old before new left (record { result = result; bytes = [] })
applied-answer {filters = filters} call {old = old} {before = before} {result = result} told has a =
    let takes = a.takes in
    applied-call call (is_call call told) has takes.leaves (record {
      desk = takes.desk;
      result = takes.reply;
      refused = λ err. refusal result err takes.refused;
      answered = λ bytes stand. no_bytes (seen filters old.device) (desk_with old before) bytes call told;
    })

-- ---- what is asked of the mixer device

pub applied-mixer : {B : Type 0} {kind : B → Kind} {kept : B → Kept} {filters : Filters} (request : MixRequest) {bytes : List ℕ} {samples : List ℤ} {old : ParentOf B} {before : Descriptors} {new : ParentOf B} {result : Result Answer Errno}
    → AreOwn old → HasBus kept (seen filters old.device) old → (IsErr result → new ≡ old)
    → new ≡ with_mixer old (mixer_after (mixed_slots (unfiltered old.device)) request old.mixer) → result ≡ mixer_reply (mixed_slots (unfiltered old.device)) request old.mixer
    → Applied kind kept filters (Mixer request) bytes samples old before new before (record { result = result; bytes = [] })
applied-mixer {B} {kind} {kept} {filters} request {bytes} {samples} {old} {before} {new} {result} own has refused is reply = record {
  rules = record { desk = ap (λ (p : ParentOf B). desk_with p before) is; result = reply; refused = λ err. (refused err, refl); answered = λ bytes stand. refl };
  device = ap (λ (p : ParentOf B). p.device) is;
  own = subst AreOwn (sym is) (record { playing = own.playing; recording = own.recording; mapped = own.mapped });
  slots = ap (λ (p : ParentOf B). length (play_channels p)) is;
  recorders_slots = ap (λ (p : ParentOf B). length (record_channels p)) is;
  maps_slots = ap (λ (p : ParentOf B). length (map_channels p)) is;
  channels = play-stay kind kept filters [] old new (ap (λ (p : ParentOf B). p.channels) is);
  recorders = record-stay kind kept filters old new (ap (λ (p : ParentOf B). p.recorders) is);
  maps = map-stay kind kept filters old new (ap (λ (p : ParentOf B). p.maps) is);
  bus = subst (HasBus kept (seen filters old.device)) (sym is) (record { planned = has.planned; made = has.made; level = has.level });
  turns = (ap (λ (p : ParentOf B). p.bus.chain) is, ap (λ (p : ParentOf B). p.ring.bytes) is);
}

-- ---- whatever the event

-- what is applied is the event that is this one
pub applied-at : {B : Type 0} {kind : B → Kind} {kept : B → Kept} {filters : Filters} {event call : Event} {bytes : List ℕ} (samples : Event → List ℤ) {old : ParentOf B} {before : Descriptors} {new : ParentOf B} {left : Descriptors} {told : Reply} → event ≡ call
    → Applied kind kept filters call bytes (samples call) old before new left told → Applied kind kept filters event bytes (samples event) old before new left told
applied-at {kind = kind} {kept = kept} {filters = filters} {bytes = bytes} samples {old = old} {before = before} {new = new} {left = left} {told = told} is a =
    subst (λ (e : Event). Applied kind kept filters e bytes (samples e) old before new left told) (sym is) a

-- a read is applied by the turn that it takes, and what it got
pub applied-read : {B : Type 0} {kind : B → Kind} {kept : B → Kept} {filters : Filters} {event : Event} (fd count : ℕ) {bytes : List ℕ} (samples : Event → List ℤ) {old : ParentOf B} {before : Descriptors} {new : ParentOf B} {told : Reply} → event ≡ Read fd count
    → HasBus kept (seen filters old.device) old → TakesBy kind kept filters [] untouched (turn_on (Read fd count)) old before new before told.result
    → ((bytes : ℕ → List ℕ) → AllHoldUnread (record_channels old) bytes → told.bytes ≡ bytes_answered (seen filters old.device) (desk_with old before) bytes (Read fd count))
    → Applied kind kept filters event bytes (samples event) old before new before told
applied-read fd count samples {told = told} is has took answered =
    applied-at samples is (applied-call (Read fd count) tt has took.leaves (record { desk = took.desk; result = took.reply; refused = λ err. refusal told.result err took.refused; answered = answered }))
