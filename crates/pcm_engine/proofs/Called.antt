-- What a step does with an event, it does as a script has it that names the event.
use Rattle.std.proofs.Common.{◌≡◌, ℕ, List, [], ◌∷◌, ◌++◌, ℤ, length, take, refl, sym, ap, ◌∙◌, subst}
use Rattle.std.specs.Prelude.{IsOk}
use Rattle.pcm_engine.specs.Types.{Device, Event, Filters, Kept, Kind, Pool}
use Rattle.pcm_oss.specs.declared.event.Event.TheVariants.{StartGroup}
use Rattle.pcm_oss.specs.Replies.{Reply}
use Rattle.pcm_wave.specs.Pools.{IsCaptureIn}
use Rattle.pcm_sequence.specs.Fixed.{fixed_items, with_fixed_items}
use Rattle.pcm_sequence.proofs.Items.{items-count, items-written}
use Rattle.pcm_desk.specs.Device.{DeviceSeen, device_settings, seen}
use Rattle.pcm_desk.specs.Desk.{Desk, after}
use Rattle.pcm_desk.specs.Own.{MembersWait}
use Rattle.pcm_desk.specs.Events.{Fits, bytes_handed}
use Rattle.pcm_sound.specs.DeviceList.{device_body}
use Rattle.pcm_sound.specs.OwnAreas.{ChangesOneArea}
use Rattle.pcm_sound.specs.Story.{Story, story_of, story_at_start, told}
use Rattle.pcm_sound.specs.StoryReplies.{bytes_to}
use Rattle.pcm_sound.specs.Together.{StartAsOne}
use Rattle.pcm_sound.specs.Valid.{StoryIsValid}
use Rattle.pcm_sound.proofs.OwnAreas.{area-in-story}
use Rattle.pcm_sound.proofs.Plain.{map-in_place, plain-body}
use Rattle.pcm_sound.proofs.Stories.{told_all-push}
use Rattle.pcm_sound.proofs.Together.{start-as-one}
use Rattle.pcm_vchan.specs.Parents.{map_channels, play_channels, record_channels}
use Rattle.pcm_engine.specs.declared.engine.EngineOf.{EngineOf}
use Rattle.pcm_engine.specs.Applied.{Applied}
use Rattle.pcm_engine.specs.Brought.{IsCalled, bytes_brought, padded, samples_brought}
use Rattle.pcm_engine.specs.Engines.{AnswersKept, AreReady, HandsOver, Stands, StandsForNext, StepsAs, StepsAsCalled, device_of, desk_of, samples_most}
use Rattle.pcm_engine.specs.Stands.{RecordersStand, bytes_kept}
use Rattle.pcm_engine.specs.Steps.{BusMoves, ChannelsMove, MapsMove, RecordersMove, bytes_answered}
use Rattle.pcm_engine.proofs.Bringing.{descriptor-fits, wherever}
use Rattle.pcm_engine.proofs.Recording.{all-unread, answered-told, recorders-told, reply-made}
use Rattle.pcm_engine.proofs.Standing.{ParentStands, body-told, stands-told}

-- an event that brings these bytes and samples is applied to an engine
abbrev pub AppliedTo : {B : Type 0} → (B → Kind) → (B → Kept) → Event → List ℕ → List ℤ → EngineOf B → EngineOf B → Reply → Type 0
AppliedTo kind kept event bytes samples old new told = Applied kind kept old.tables event bytes samples old.parent old.descriptors new.parent new.descriptors told

-- one of a script, with the bytes and samples of its pool
abbrev AppliedIn : {B : Type 0} → (B → Kind) → (B → Kept) → Pool → Event → EngineOf B → EngineOf B → Reply → Type 0
AppliedIn kind kept pool event old new told =
    AppliedTo kind kept event (bytes_brought pool event) (samples_brought (device_settings (device_of old)).layout pool old.parent.handed event) old new told

-- it leaves the device
pub same-device : {B : Type 0} (old new : EngineOf B) → new.tables ≡ old.tables → new.parent.device ≡ old.parent.device → device_of new ≡ device_of old
same-device old new tables device = ap (λ (d : Device). seen new.tables d) device ∙ ap (λ (t : Filters). seen t old.parent.device) tables

-- an event that is applied, is so wherever its bytes stand: as a script has it that names the event, with its pool
as_named : {B : Type 0} (kind : B → Kind) (kept : B → Kept) (event : Event) (bytes : List ℕ) (samples : List ℤ) (old new : EngineOf B) (reply : Reply) (pool : Pool) (named : Event)
    → AppliedTo kind kept event bytes samples old new reply → IsCalled (device_of old) old.parent.handed event bytes samples pool named → AppliedIn kind kept pool named old new reply
as_named kind kept event bytes samples old new reply pool named a called =
    let device : DeviceSeen = device_of old in
    let desk : Desk = desk_of old in
    let channels : Event → Type 0 = λ e. ChannelsMove kind kept device bytes old.parent.handed e (play_channels old.parent) (play_channels new.parent) in
    let recorders : Event → Type 0 = λ e. RecordersMove kind kept device samples e (record_channels old.parent) (record_channels new.parent) in
    let maps : Event → Type 0 = λ e. MapsMove kind kept old.tables old.parent.device bytes desk e (map_channels old.parent) (map_channels new.parent) in
    let turns : Event → Type 0 = λ e. BusMoves kept device old.parent.handed old.parent.mixer e (play_channels old.parent) (map_channels old.parent) old.parent.bus.chain new.parent.bus.chain old.parent.ring.bytes new.parent.ring.bytes in
    record {
      rules = record {
        desk = wherever (λ e. desk_of new ≡ (after device desk e).desk) (λ fd one other at place count is. is) (λ fd offset at place count is. is) event named called.same a.rules.desk;
        result = wherever (λ e. reply.result ≡ (after device desk e).reply) (λ fd one other at place count is. is) (λ fd offset at place count is. is) event named called.same a.rules.result;
        refused = a.rules.refused;
        answered = wherever (λ e. AnswersKept e old reply.bytes) (λ fd one other at place count is. is) (λ fd offset at place count is. is) event named called.same a.rules.answered;
      };
      device = a.device;
      own = a.own;
      slots = a.slots;
      recorders_slots = a.recorders_slots;
      maps_slots = a.maps_slots;
      channels = subst (λ (b : List ℕ). ChannelsMove kind kept device b old.parent.handed named (play_channels old.parent) (play_channels new.parent)) (sym called.bytes_are)
          (wherever channels (λ fd one other at place count moves. moves) (λ fd offset at place count moves. moves) event named called.same a.channels);
      recorders = subst (λ (s : List ℤ). RecordersMove kind kept device s named (record_channels old.parent) (record_channels new.parent)) (sym called.samples_are)
          (wherever recorders (λ fd one other at place count moves. moves) (λ fd offset at place count moves. moves) event named called.same a.recorders);
      maps = subst (λ (b : List ℕ). MapsMove kind kept old.tables old.parent.device b desk named (map_channels old.parent) (map_channels new.parent)) (sym called.bytes_are)
          (wherever maps (λ fd one other at place count moves. moves) (λ fd offset at place count moves. moves) event named called.same a.maps);
      bus = a.bus;
      turns = wherever turns (λ fd one other at place count turns. turns) (λ fd offset at place count turns. turns) event named called.same a.turns;
    }

-- ---- a step on an event that a script names

-- a step, what the device gets by it, and what it needs
record StepsIn {B : Type 0} (kind : B → Kind) (kept : B → Kept) (pool : Pool) (event : Event) (old new : EngineOf B) (told : Reply) (handed : List ℕ) : Type 0 where
  applied : AppliedIn kind kept pool event old new told
  tables : new.tables ≡ old.tables
  out : handed ≡ take (bytes_handed (device_of old) event) old.parent.ring.bytes
  members : MembersWait (device_of old) (desk_of old)
  fits : Fits (device_of old) pool event
  captures : IsCaptureIn (device_settings (device_of old)).layout pool

module _ {B : Type 0} (kind : B → Kind) (kept : B → Kept) (pool : Pool) (event : Event) (old new : EngineOf B) (reply : Reply) (handed : List ℕ) (t : StepsIn kind kept pool event old new reply handed) where
  abbrev device : DeviceSeen
  device = device_of old

  abbrev story : List Event → Story
  story events = story_of device pool events

  device_same : device_of new ≡ device
  device_same = same-device old new t.tables t.applied.device

  pushed : (events : List Event) → story (events ++ event ∷ []) ≡ told device pool (story events) event
  pushed events = told_all-push device pool (story_at_start device) events event

  stands_next : StandsForNext kept pool event old new
  stands_next = λ events s.
      let a = t.applied in
      let stood = stands-told kind kept old.tables pool (story events) event _ old.parent old.descriptors new.parent new.descriptors reply a t.fits s.playing old.order.own.mapped in
      let recorded = recorders-told kind kept old.tables pool (story events) event _ old.parent old.descriptors new.parent new.descriptors reply a t.captures t.fits old.order.own.recording s.playing.desk_is s.playing.valid s.recording in
      record {
        playing = subst (λ (d : DeviceSeen). ParentStands kept d (desk_of new) new.parent (story_of d pool (events ++ event ∷ []))) (sym device_same)
            (subst (ParentStands kept device (desk_of new) new.parent) (sym (pushed events)) stood);
        recording = subst (λ (d : DeviceSeen). RecordersStand kept d pool (record_channels new.parent) (story_of d pool (events ++ event ∷ []))) (sym device_same)
            (subst (RecordersStand kept device pool (record_channels new.parent)) (sym (pushed events)) recorded);
      }

  hands_over : HandsOver kept pool event old handed
  hands_over = λ events s.
      ap (device_body device) (pushed events)
      ∙ body-told kept device pool (story events) event (desk_of old) old.parent t.fits s.playing
      ∙ ap (λ (bytes : List ℕ). device_body device (story events) ++ bytes) (sym t.out)

  valid_next : (events : List Event) → Stands kept old pool events → StoryIsValid device (story (events ++ event ∷ []))
  valid_next events s = subst (λ (d : DeviceSeen). StoryIsValid d (story_of d pool (events ++ event ∷ []))) device_same (stands_next events s).playing.valid

  steps_as : StepsAs kept pool event old new reply handed
  steps_as = record {
    stands = stands_next;
    reply = λ events s.
        let is = s.playing.desk_is in
        let all = all-unread kept device pool (story events) (record_channels old.parent) (ap (λ (d : Desk). d.recording) (sym is)) s.recording in
        reply-made reply (after device (story events).desk event).reply (bytes_to device (story events) event)
        (t.applied.rules.result ∙ ap (λ (d : Desk). (after device d event).reply) is)
        (t.applied.rules.answered (bytes_kept device (story events)) all
        ∙ ap (λ (d : Desk). bytes_answered device d (bytes_kept device (story events)) event) is
        ∙ answered-told device pool (story events) event s.recording.valid);
    bytes = hands_over;
    plain = λ events s unbroken. sym (plain-body device (story (events ++ event ∷ [])) (valid_next events s) unbroken) ∙ hands_over events s;
    mapped = λ events slot s. map-in_place device (story (events ++ event ∷ [])) slot (valid_next events s);
    together = λ events fd group s is ok.
        let accepted : IsOk (after device (story events).desk (StartGroup fd group)).reply =
        subst IsOk (t.applied.rules.result ∙ ap (λ (d : Desk). (after device d event).reply) s.playing.desk_is ∙ ap (λ (event : Event). (after device (story events).desk event).reply) is) ok in
        let started = start-as-one device pool (story events) fd group s.playing.valid (subst (MembersWait device) s.playing.desk_is t.members) accepted in
        subst (StartAsOne device group (story events)) (ap (told device pool (story events)) (sym is) ∙ sym (pushed events)) started;
    areas = λ events s. subst (ChangesOneArea device pool event (story events)) (sym (pushed events)) (area-in-story device pool events event (descriptor-fits device pool event t.fits));
  }

-- A step that does so with an event is one on each event of a script that is the same.
pub steps-as-called : {B : Type 0} (kind : B → Kind) (kept : B → Kept) (event : Event) (bytes : List ℕ) (samples : List ℤ) (old new : EngineOf B) (told : Reply) (handed : List ℕ) → AppliedTo kind kept event bytes samples old new told
    → new.tables ≡ old.tables → handed ≡ take (bytes_handed (device_of old) event) old.parent.ring.bytes → AreReady kind kept old → StepsAsCalled kept event bytes samples old new told handed
steps-as-called kind kept event bytes samples old new told handed a tables out ready = λ pool named called.
    steps_as kind kept pool named old new told handed (record {
      applied = as_named kind kept event bytes samples old new told pool named a called;
      tables = tables;
      out = wherever (λ e. handed ≡ take (bytes_handed (device_of old) e) old.parent.ring.bytes) (λ fd one other at place count is. is) (λ fd offset at place count is. is) event named called.same out;
      members = ready.members;
      fits = called.fits;
      captures = called.captures;
    })

-- ---- samples that are put at hand

-- those that a pool has for an event: with its bytes the event is called
pub loaded-called : {B : Type 0} (engine : EngineOf B) (pool : Pool) (event : Event) (bytes : List ℕ) (loaded : List ℤ) → Fits (device_of engine) pool event → IsCaptureIn (device_settings (device_of engine)).layout pool → bytes ≡ bytes_brought pool event
    → length loaded ≡ length (fixed_items engine.captured) → take (samples_most engine event) loaded ≡ samples_brought engine.parent.device.settings.layout pool engine.parent.handed event
    → IsCalled (device_of engine) engine.parent.handed event bytes (take (samples_most engine event) (fixed_items (with_fixed_items engine.captured loaded))) pool event
loaded-called engine pool event bytes loaded fits captures is long found = record {
  same = refl;
  fits = fits;
  captures = captures;
  bytes_are = sym is;
  samples_are = sym (ap (take (samples_most engine event)) (items-written engine.captured loaded (long ∙ items-count engine.captured)) ∙ found);
}

-- those that a call has with it
pub padded-called : {B : Type 0} (engine : EngineOf B) (pool : Pool) (event named : Event) (bytes : List ℕ) (samples loaded : List ℤ) (count : ℕ) → count ≡ samples_most engine event → length loaded ≡ length (fixed_items engine.captured) → take count loaded ≡ padded count samples
    → IsCalled (device_of engine) engine.parent.handed event bytes (padded (samples_most engine event) samples) pool named
    → IsCalled (device_of engine) engine.parent.handed event bytes (take (samples_most engine event) (fixed_items (with_fixed_items engine.captured loaded))) pool named
padded-called engine pool event named bytes samples loaded count is long put called = record {
  same = called.same;
  fits = called.fits;
  captures = called.captures;
  bytes_are = called.bytes_are;
  samples_are = called.samples_are
      ∙ sym (ap (take (samples_most engine event)) (items-written engine.captured loaded (long ∙ items-count engine.captured))
      ∙ ap (λ (n : ℕ). take n loaded) (sym is) ∙ put ∙ ap (λ (n : ℕ). padded n samples) is);
}
