-- A run of a number's script by one event more, and its tally.
use Rattle.std.proofs.Common.{◌≡◌, ℕ, ◌+◌, ◌^◌, ◌<◌, ◌≤◌, All, slice_index_or, List, [], ◌∷◌, ◌++◌, length, sym, ◌∙◌, ap, refl, subst, arith}
use Rattle.pcm_sequence.specs.Fixed.{fixed_len}
use Rattle.std.proofs.Math.Nat.{mul-le-mul_right}
use Rattle.std.proofs.lemmas.List.Sums.{sum_by-append}
use Rattle.pcm_oss.specs.declared.event.Event.{Event}
use Rattle.pcm_oss.specs.declared.event.Event.TheVariants.{Open, Write, Poke, Read, Ioctl, Join, StartGroup, Close, Mixer, Intr}
use Rattle.pcm_oss.specs.Replies.{Reply}
use Rattle.pcm_wave.specs.declared.pool.Pool.{Pool}
use Rattle.pcm_desk.specs.Device.{DeviceSeen, device_frame_bytes}
use Rattle.pcm_desk.specs.Events.{Fits, bytes_handed, frames_taken}
use Rattle.pcm_desk.specs.Usual.{usual_device}
use Rattle.pcm_sound.specs.DeviceList.{device_text}
use Rattle.pcm_sound.specs.StoryReplies.{replies, reply_to}
use Rattle.pcm_sound.specs.Story.{story_at_start, story_of}
use Rattle.pcm_feeder.specs.declared.kind.Kind.{Kind}
use Rattle.pcm_feeder.specs.Kept.{Kept}
use Rattle.pcm_engine.specs.Engines.{AreReady, Stands, device_of}
use Rattle.pcm_wave.specs.DataFiles.{DataFileSeen}
use Rattle.pcm_script.specs.declared.script.Script.{Script}
use Rattle.pcm_script.specs.Lines.{pool_of}
use Rattle.pcm_soak.specs.declared.limits.TheConstants.{SOAK_EVENTS}
use Rattle.pcm_soak.specs.declared.tally.Tally.{Tally}
use Rattle.pcm_soak.specs.Soak.{soak_script}
use Rattle.pcm_soak.proofs.Kept.{soak_script-counts, soak_script-fits}
use Rattle.pcm_soak.specs.Tallies.{IsWithin, no_tally, tallied, tally_all, total}
use Rattle.pcm_verdict.specs.Soaks.{soak_line, tally_line, tally_of}
use Rattle.pcm_soak_command.specs.declared.soak.SoakOf.{SoakOf}
use Rattle.pcm_soak_command.specs.Running.{CanRun}
use Rattle.pcm_soak_command.specs.Soaking.{HasSoaked, ring_room}
use Rattle.pcm_soak_command.proofs.Running.{handed-more, length-push, length-replies, replies-more}

-- ---- one event more in a tally

-- one event and its reply more, after all others
tally_all-more : (tally : Tally) (events : List Event) (said : List Reply) (event : Event) (reply : Reply) → length said ≡ length events
    → tally_all tally (events ++ event ∷ []) (said ++ reply ∷ []) ≡ tallied (tally_all tally events said) event reply
tally_all-more tally [] [] event reply same = refl
tally_all-more tally [] (one ∷ said) event reply same = absurd (omega arith)
tally_all-more tally (first ∷ events) [] event reply same = absurd (omega arith)
tally_all-more tally (first ∷ events) (one ∷ said) event reply same = tally_all-more (tallied tally first one) events said event reply (omega arith)

-- the tally of a run with one event more, of which the device gets a piece
tally_of-more : (device : DeviceSeen) (pool : Pool) (events : List Event) (event : Event) (piece : List ℕ)
    → device_text device pool (events ++ event ∷ []) ≡ device_text device pool events ++ piece
    → tally_of device pool (events ++ event ∷ [])
    ≡ record (tallied (tally_of device pool events) event (reply_to device (story_of device pool events) event)) { sum = total (device_text device pool events) + total piece }
tally_of-more device pool events event piece bytes =
    let start = story_at_start device in
    let said : List Reply = replies device pool start events in
    let reply : Reply = reply_to device (story_of device pool events) event in
    let more : List Event = events ++ event ∷ [] in
    let counted : tally_all no_tally more (replies device pool start more) ≡ tallied (tally_all no_tally events said) event reply =
    ap (tally_all no_tally more) (replies-more device pool start events event)
    ∙ tally_all-more no_tally events said event reply (length-replies device pool start events) in
    let heard : total (device_text device pool more) ≡ total (device_text device pool events) + total piece =
    ap total bytes ∙ sum_by-append (λ (byte : ℕ). byte) (device_text device pool events) piece in
    ap (λ (tally : Tally). record tally { sum = total (device_text device pool more) }) counted
    ∙ ap (λ (sum : ℕ). record (tallied (tally_all no_tally events said) event reply) { sum = sum }) heard

-- nothing was counted yet
pub IsWithin-none : (tally : Tally) → tally ≡ no_tally → IsWithin 0 tally
IsWithin-none tally none = subst (IsWithin 0) (sym none) (record { accepted = omega arith; read = omega arith; refused = omega arith; errors = omega arith })

-- a tally within the bounds of few events is within those of more
pub IsWithin-more : (few many : ℕ) (tally : Tally) → few ≤ many → IsWithin few tally → IsWithin many tally
IsWithin-more few many tally more within = record {
  accepted = omega (arith, within.accepted);
  read = omega (arith, within.read);
  refused = omega (arith, within.refused);
  errors = omega (arith, within.errors);
}

-- ---- one event more in a run

handed-one : (device : DeviceSeen) (pool : Pool) (event : Event) → Fits device pool event → bytes_handed device event ≤ ring_room device
handed-one device pool (Open fd way settings) fits = omega arith
handed-one device pool (Write fd source at count) fits = omega arith
handed-one device pool (Poke fd offset at count) fits = omega arith
handed-one device pool (Read fd count) fits = omega arith
handed-one device pool (Ioctl fd request) fits = omega arith
handed-one device pool (Join fd group) fits = omega arith
handed-one device pool (StartGroup fd group) fits = omega arith
handed-one device pool (Close fd) fits = omega arith
handed-one device pool (Mixer request) fits = omega arith
handed-one device pool (Intr frames) fits = mul-le-mul_right (device_frame_bytes device) fits.1

-- no event of these hands over more than the device's whole ring
handed-within : (device : DeviceSeen) (pool : Pool) (events : List Event) (at count : ℕ) (other : Event) → All (Fits device pool) events → at < length events
    → count ≡ bytes_handed device (slice_index_or events at other) → count ≤ ring_room device
handed-within device pool events at count other fits there is =
    let within = handed-one device pool (slice_index_or events at other) (fits at other there) in
    subst (λ n. n ≤ ring_room device) (sym is) within

-- nor the engine that is of it
pub handed-on : (device : DeviceSeen) (pool : Pool) (events : List Event) (at count : ℕ) (other : Event) → device ≡ usual_device → All (Fits usual_device pool) events → at < length events
    → count ≡ bytes_handed device (slice_index_or events at other) → count ≤ ring_room usual_device
handed-on device pool events at count other is fits there handed =
    handed-within usual_device pool events at count other fits there (subst (λ (d : DeviceSeen). count ≡ bytes_handed d (slice_index_or events at other)) is handed)

-- what an engine's step gave, and what was counted of it
pub record CountsStep {B : Type 0} (kind : B → Kind) (kept : B → Kept) (old new : SoakOf B) (pool : Pool) (events : List Event) (event : Event) (piece : List ℕ) (reply : Reply) (counted : Tally) : Type 0 where
  pub device : device_of new.engine ≡ device_of old.engine
  pub ready : AreReady kind kept new.engine
  pub stands : Stands kept old.engine pool events → Stands kept new.engine pool (events ++ event ∷ [])
  pub handed : new.engine.parent.handed ≡ old.engine.parent.handed + frames_taken event
  pub bytes : Stands kept old.engine pool events
      → device_text (device_of old.engine) pool (events ++ event ∷ []) ≡ device_text (device_of old.engine) pool events ++ piece
  pub replied : Stands kept old.engine pool events
      → reply ≡ reply_to (device_of old.engine) (story_of (device_of old.engine) pool events) event
  pub counts : counted ≡ tallied old.tally event reply
  pub within : (n : ℕ) → IsWithin n old.tally → IsWithin (n + 1) counted
  pub heard : new.tally ≡ record counted { sum = counted.sum + total piece }
  pub few : total piece ≤ 2 ^ 33
  pub room : fixed_len new.block ≡ fixed_len old.block
  pub line_room : fixed_len new.line ≡ fixed_len old.line

-- one event more was run
pub soaked : {B : Type 0} (kind : B → Kind) (kept : B → Kept) (old new : SoakOf B) (pool : Pool) (events : List Event) (event : Event) (piece : List ℕ) (reply : Reply) (counted : Tally)
    → CountsStep kind kept old new pool events event piece reply counted → HasSoaked kind kept old pool events → HasSoaked kind kept new pool (events ++ event ∷ [])
soaked kind kept old new pool events event piece reply counted s h =
    let more : List Event = events ++ event ∷ [] in
    let is : device_of old.engine ≡ usual_device = h.engine.device_is in
    let sofar : Tally = tally_of usual_device pool events in
    let bytes : device_text usual_device pool more ≡ device_text usual_device pool events ++ piece =
    subst (λ (d : DeviceSeen). device_text d pool more ≡ device_text d pool events ++ piece) is (s.bytes h.engine.stands) in
    let replied : reply ≡ reply_to usual_device (story_of usual_device pool events) event =
    subst (λ (d : DeviceSeen). reply ≡ reply_to d (story_of d pool events) event) is (s.replied h.engine.stands) in
    let counts : counted ≡ tallied sofar event (reply_to usual_device (story_of usual_device pool events) event) =
    s.counts ∙ ap (λ (tally : Tally). tallied tally event reply) h.tally ∙ ap (tallied sofar event) replied in
    let within : IsWithin (length events + 1) counted = s.within (length events) h.within in
    let heard : IsWithin (length events + 1) new.tally = subst (IsWithin (length events + 1)) (sym s.heard)
    (record { accepted = within.accepted; read = within.read; refused = within.refused; errors = within.errors }) in
    record {
      engine = record {
        device_is = s.device ∙ is;
        stands = s.stands h.engine.stands;
        ready = s.ready;
        handed = handed-more events event old.engine.parent.handed new.engine.parent.handed h.engine.handed s.handed;
      };
      tally = s.heard ∙ ap (λ (tally : Tally). record tally { sum = tally.sum + total piece }) counts
          ∙ sym (tally_of-more usual_device pool events event piece bytes);
      within = subst (λ (n : ℕ). IsWithin n new.tally) (length-push events event) heard;
      sum = omega (arith, ap (λ (tally : Tally). tally.sum) s.heard, ap (λ (tally : Tally). tally.sum) s.counts, h.sum, s.few, length-push events event);
      room = s.room ∙ h.room;
      line_room = s.line_room ∙ h.line_room;
    }

-- ---- the run of a number

-- a script is that of a number, and its events are run with no data files
pub record IsSoak (n : ℕ) (script : Script) (files : List DataFileSeen) (events : List Event) : Type 0 where
  pub made : script ≡ soak_script n
  pub none : files ≡ []
  pub same : events ≡ script.events

-- its events fit the device of a run without a configuration
soak-fits : (n : ℕ) (script : Script) (files : List DataFileSeen) (events : List Event) → IsSoak n script files events → All (Fits usual_device (pool_of files script)) events
soak-fits n script files events is =
    subst (λ (list : List Event). All (Fits usual_device (pool_of files script)) list) (sym is.same)
    (subst (λ (list : List DataFileSeen). All (Fits usual_device (pool_of list script)) script.events) (sym is.none)
    (subst (λ (made : Script). All (Fits usual_device (pool_of [] made)) made.events) (sym is.made) (soak_script-fits n)))

-- there are as many as there are to be
soak-few : (n : ℕ) (script : Script) (files : List DataFileSeen) (events : List Event) → IsSoak n script files events → length events ≤ SOAK_EVENTS
soak-few n script files events is = omega (arith, ap (λ (list : List Event). length list) is.same, ap (λ (made : Script). length made.events) is.made, soak_script-counts n)

-- that device can be stepped through them
pub soak-runs : (n : ℕ) (script : Script) (files : List DataFileSeen) (events : List Event) → IsSoak n script files events → CanRun SOAK_EVENTS usual_device (pool_of files script) events
soak-runs n script files events is = record { fits = soak-fits n script files events is; captures = tt; count = soak-few n script files events is }

-- the line of their tally
pub soak-told : (n : ℕ) (script : Script) (files : List DataFileSeen) (events again : List Event) (tally : Tally) → IsSoak n script files events → again ≡ script.events
    → tally ≡ tally_of usual_device (pool_of files script) events → tally_line (length again) script.device_frames tally ≡ soak_line n
soak-told n script files events again tally is again_same tally_is =
    ap (λ (list : List Event). tally_line (length list) script.device_frames tally) again_same
    ∙ ap (λ (came : Tally). tally_line (length script.events) script.device_frames came)
    (tally_is ∙ ap (λ (list : List Event). tally_of usual_device (pool_of files script) list) is.same
    ∙ ap (λ (list : List DataFileSeen). tally_of usual_device (pool_of list script) script.events) is.none)
    ∙ ap (λ (made : Script). tally_line (length made.events) made.device_frames (tally_of usual_device (pool_of [] made) made.events)) is.made
