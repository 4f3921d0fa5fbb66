-- What holds of each script that is read: its events fit the device, and the limits are kept.
use Rattle.std.proofs.Common.{◌≡◌, ℕ, ◌+◌, ◌*◌, ◌<◌, ◌≤◌, Bool, true, false, ◌&&◌, nat_le, nat_lt, cond, List, [], ◌∷◌, length, Option, Some, None, Result, Ok, Err, refl, ap, ◌∙◌, arith, IfOk}
use Rattle.std.specs.Option.{IfSome}
use Rattle.std.proofs.lemmas.Bool.Decides.{nat_tests}
use Rattle.std.proofs.lemmas.List.{length-append}
use Rattle.std.proofs.lemmas.List.Elements.{All-nil, All-push, All-weaker}
use Rattle.std.proofs.lemmas.List.Sums.{sum_by-append}
use Rattle.pcm_wave.specs.DataFiles.{DataFileSeen}
use Rattle.pcm_oss.specs.declared.event.Event.{Event}
use Rattle.pcm_desk.specs.declared.limits.TheConstants.{DEVICE_BYTES, EVENTS}
use Rattle.pcm_desk.specs.Device.{DeviceSeen, device_frame_bytes}
use Rattle.pcm_desk.specs.Events.{Fits, all_frames_taken, frames_taken}
use Rattle.pcm_script.specs.declared.fault.ScriptKind.{ScriptKind}
use Rattle.pcm_script.specs.declared.fault.ScriptKind.TheVariants.{Long}
use Rattle.pcm_script.specs.declared.limits.TheConstants.{TEXT_BYTES}
use Rattle.pcm_script.specs.declared.line_event.LineEvent.{LineEvent}
use Rattle.pcm_script.specs.declared.line_event.LineEvent.TheVariants.{Write, Poke, Whole}
use Rattle.pcm_script.specs.declared.script.Script.{Script}
use Rattle.pcm_script.specs.Words.{lines_of, words_of}
use Rattle.pcm_script.specs.Commands.{line_event}
use Rattle.pcm_script.specs.Collecting.{event_at, frames_asked, has_room, own_bytes, script_with, with_event, with_line}
use Rattle.pcm_script.specs.Lines.{AllFit, at_line, collected, bytes_taken, empty_script, lines_read, pool_of, script_read}
use Rattle.pcm_script.proofs.Asked.{HasBlocks, IsWithin, line_event-within}
use Rattle.pcm_script.proofs.Fitting.{Fits-more}
use Rattle.pcm_script.proofs.Judgements.{IfOk-then, IfOk-either}

pub record IsSound (device : DeviceSeen) (files : List DataFileSeen) (script : Script) : Type 0 where
  pub fits : AllFit device files script
  pub counts : length script.events ≤ EVENTS
  pub frames : bytes_taken device script ≤ DEVICE_BYTES
  pub sum : script.device_frames ≡ all_frames_taken script.events

-- ---- one event more

-- the event of a line fits
event_at-fits : (device : DeviceSeen) (files : List DataFileSeen) (script : Script) (line : LineEvent) → HasBlocks device → IsWithin device files line
    → Fits device (pool_of files (script_with script line)) (event_at (length script.inline_bytes) line)
event_at-fits device files script (Write fd bytes) blocks within =
    (within.0, within.1, record { has = tt; within = omega (arith, length-append script.inline_bytes bytes) })
event_at-fits device files script (Poke fd offset bytes) blocks within =
    (within.0, within.1, record { has = tt; within = omega (arith, length-append script.inline_bytes bytes) })
event_at-fits device files script (Whole event) blocks within =
    Fits-more device (pool_of files empty_script) (pool_of files (script_with script (Whole event))) event refl (omega arith) (within blocks)

-- the place of its bytes changes nothing of the frames that an event takes
frames_taken-event_at : (place : ℕ) (line : LineEvent) → frames_taken (event_at place line) ≡ frames_asked line
frames_taken-event_at place (Write fd bytes) = refl
frames_taken-event_at place (Poke fd offset bytes) = refl
frames_taken-event_at place (Whole event) = refl

script_with-sound : (device : DeviceSeen) (files : List DataFileSeen) (script : Script) (line : LineEvent) → IsSound device files script
    → Fits device (pool_of files (script_with script line)) (event_at (length script.inline_bytes) line) → length script.events < EVENTS
    → (script.device_frames + frames_asked line) * device_frame_bytes device ≤ DEVICE_BYTES
    → IsSound device files (script_with script line)
script_with-sound device files script line sound fits few small =
    let more : Script = script_with script line in
    let event : Event = event_at (length script.inline_bytes) line in
    let longer : length script.inline_bytes ≤ length more.inline_bytes = omega (arith, length-append script.inline_bytes (own_bytes line)) in
    record {
      fits = All-push (Fits device (pool_of files more)) script.events event
          (All-weaker (Fits device (pool_of files script)) (Fits device (pool_of files more))
          (λ x. Fits-more device (pool_of files script) (pool_of files more) x refl longer) script.events sound.fits)
          fits;
      counts = omega (arith, length-append script.events (event ∷ []));
      frames = small;
      sum = ap (λ n. n + frames_asked line) sound.sum
          ∙ omega (arith, sum_by-append frames_taken script.events (event ∷ []), frames_taken-event_at (length script.inline_bytes) line);
    }

-- what room there is
room_parts : (a b c d : ℕ) → (nat_lt a b && nat_le c d) ≡ true → (a < b) × (c ≤ d)
room_parts a b c d both = grind (arith, nat_tests)

-- what a test lets through
let_through : {A E : Type 0} (test : Bool) (value : A) (other : E) (P : A → Type 0) → (test ≡ true → P value) → IfOk (cond test (Ok value) (Err other)) P
let_through true value other P passed = passed refl
let_through false value other P passed = tt

with_event-sound : (device : DeviceSeen) (files : List DataFileSeen) (script : Script) (line : LineEvent) → HasBlocks device → IsSound device files script → IsWithin device files line
    → IfOk (with_event device script line) (IsSound device files)
with_event-sound device files script line blocks sound within =
    let_through (has_room device script (frames_asked line)) (script_with script line) Long (IsSound device files)
    (λ room.
    let parts = room_parts (length script.events) EVENTS ((script.device_frames + frames_asked line) * device_frame_bytes device) DEVICE_BYTES room in
    script_with-sound device files script line sound (event_at-fits device files script line blocks within) parts.0 parts.1)

-- ---- lines

with_line-sound : (device : DeviceSeen) (files : List DataFileSeen) (script : Script) (judged : Result (Option LineEvent) ScriptKind) → HasBlocks device → IsSound device files script
    → IfOk judged (λ asked. IfSome asked (IsWithin device files)) → IfOk (with_line device script judged) (IsSound device files)
with_line-sound device files script (Ok None) blocks sound within = sound
with_line-sound device files script (Ok (Some line)) blocks sound within = with_event-sound device files script line blocks sound within
with_line-sound device files script (Err kind) blocks sound within = tt

at_line-sound : (device : DeviceSeen) (files : List DataFileSeen) (number : ℕ) (judged : Result Script ScriptKind) → IfOk judged (IsSound device files) → IfOk (at_line number judged) (IsSound device files)
at_line-sound device files number (Ok script) sound = sound
at_line-sound device files number (Err kind) sound = tt

collected-sound : (device : DeviceSeen) (files : List DataFileSeen) (script : Script) (number : ℕ) (lines : List (List ℕ)) → HasBlocks device → IsSound device files script
    → IfOk (collected device script number (lines_read device files lines)) (IsSound device files)
unfolding collected
collected-sound device files script number [] blocks sound = sound
collected-sound device files script number (line ∷ lines) blocks sound =
    let judged : Result (Option LineEvent) ScriptKind = line_event device files (words_of line) in
    IfOk-then (at_line number (with_line device script judged)) _ (IsSound device files) (IsSound device files)
    (at_line-sound device files number (with_line device script judged) (with_line-sound device files script judged blocks sound (line_event-within device files (words_of line))))
    (λ more kept. collected-sound device files more (number + 1) lines blocks kept)

empty_script-sound : (device : DeviceSeen) (files : List DataFileSeen) → IsSound device files empty_script
empty_script-sound device files = record { fits = All-nil (Fits device (pool_of files empty_script)); counts = omega arith; frames = omega arith; sum = refl }

-- each script that is read is sound
pub script_read-sound : (device : DeviceSeen) (files : List DataFileSeen) (text : List ℕ) → HasBlocks device → IfOk (script_read device files text) (IsSound device files)
unfolding script_read
script_read-sound device files text blocks =
    IfOk-either (nat_lt TEXT_BYTES (length text)) (Err (record { line = 0; kind = Long })) (collected device empty_script 1 (lines_read device files (lines_of text)))
    (IsSound device files) tt (collected-sound device files empty_script 1 (lines_of text) blocks (empty_script-sound device files))
