-- The text of a script is read as the script with all that its lines spell, and that asks for the same.
use Rattle.std.proofs.Common.{◌≡◌, ℕ, ◌+◌, ◌*◌, ◌<◌, ◌≤◌, nat_lt, false, cond, List, [], ◌∷◌, ◌++◌, length, take, drop, Some, Ok, Err, All, refl, sym, ap, subst, ◌∙◌, arith, append-nil, append_assoc}
use Rattle.std.proofs.lemmas.Bool.{le-leb, lt-ltb}
use Rattle.std.proofs.lemmas.Bool.Decides.{nat_tests}
use Rattle.std.proofs.lemmas.List.{drop_at, length-append, length-drop, length-take, take_at}
use Rattle.std.proofs.lemmas.List.Elements.{All-head, All-tail}
use Rattle.std.proofs.lemmas.List.Sums.{sum_by-cons}
use Rattle.std.proofs.Math.Nat.{mul-le-mul_right}
use Rattle.hex.specs.Hex.{IsBytes}
use Rattle.pcm_oss.specs.declared.event.Event.{Event}
use Rattle.pcm_oss.specs.declared.event.Event.TheVariants.{Open, Write, Poke, Read, Ioctl, Join, StartGroup, Close, Mixer, Intr}
use Rattle.pcm_wave.specs.declared.pool.Pool.{Pool}
use Rattle.pcm_wave.specs.declared.pool.Source.TheVariants.{Inline, File}
use Rattle.pcm_wave.specs.DataFiles.{DataFileSeen}
use Rattle.pcm_wave.specs.Pools.{bytes_at}
use Rattle.pcm_desk.specs.declared.limits.TheConstants.{DEVICE_BYTES, EVENTS}
use Rattle.pcm_desk.specs.Device.{DeviceSeen, device_frame_bytes}
use Rattle.pcm_desk.specs.Events.{Fits, all_frames_taken, frames_taken}
use Rattle.pcm_script.specs.declared.fault.ScriptKind.TheVariants.{Long}
use Rattle.pcm_script.specs.declared.limits.TheConstants.{TEXT_BYTES}
use Rattle.pcm_script.specs.declared.script.Script.{Script}
use Rattle.pcm_script.specs.Collecting.{event_at, frames_asked, own_bytes, script_with, with_line}
use Rattle.pcm_script.specs.Commands.{line_event}
use Rattle.pcm_script.specs.Lines.{AllFit, at_line, collected, empty_script, lines_read, pool_of, script_read}
use Rattle.pcm_script.specs.Steps.{◌>>=◌}
use Rattle.pcm_script.specs.Words.{lines_of}
use Rattle.pcm_text.specs.Texts.{AllFound, FindsBytes, event_line, lines_for, text_of}
use Rattle.pcm_text.specs.ReadBack.{AskTheSame, AsksTheSame, HasSmallNumbers, IsFileNamed, IsWritable, rewritten, line_asked, with_asked}
use Rattle.pcm_text.proofs.CutLines.{line-cut}
use Rattle.pcm_text.proofs.Lines.{line-read, line-whole}

-- ---- reading

-- what of a pool and a device holds for each line
record Reads (device : DeviceSeen) (pool : Pool) : Type 0 where
  pub bytes : IsBytes pool.inline_bytes
  pub named : (place : ℕ) → place < length pool.files → IsFileNamed pool.files place

-- a script has room for these events
record HasRoom (device : DeviceSeen) (script : Script) (events : List Event) : Type 0 where
  pub count : length script.events + length events ≤ EVENTS
  pub frames : (script.device_frames + all_frames_taken events) * device_frame_bytes device ≤ DEVICE_BYTES

frames-line_asked : (pool : Pool) (event : Event) → frames_asked (line_asked pool event) ≡ frames_taken event
frames-line_asked pool (Open fd way settings) = refl
frames-line_asked pool (Write fd Inline at count) = refl
frames-line_asked pool (Write fd (File place) at count) = refl
frames-line_asked pool (Poke fd offset at count) = refl
frames-line_asked pool (Read fd count) = refl
frames-line_asked pool (Ioctl fd request) = refl
frames-line_asked pool (Join fd group) = refl
frames-line_asked pool (StartGroup fd group) = refl
frames-line_asked pool (Close fd) = refl
frames-line_asked pool (Mixer request) = refl
frames-line_asked pool (Intr frames) = refl

-- the line of an event has room
line-added : (device : DeviceSeen) (pool : Pool) (script : Script) (event : Event) (events : List Event) → HasRoom device script (event ∷ events)
    → with_line device script (Ok (Some (line_asked pool event))) ≡ Ok (script_with script (line_asked pool event))
line-added device pool script event events room =
    let asked = frames-line_asked pool event in
    let all = sum_by-cons frames_taken event events in
    let fewer = mul-le-mul_right {m = script.device_frames + frames_taken event} {n = script.device_frames + all_frames_taken (event ∷ events)} (device_frame_bytes device) (omega (arith, all)) in
    rw (
      asked,
      lt-ltb (length script.events) EVENTS (omega (arith, room.count)),
      le-leb ((script.device_frames + frames_taken event) * device_frame_bytes device) DEVICE_BYTES (omega (arith, fewer, room.frames)),
    ) refl

room-left : (device : DeviceSeen) (pool : Pool) (script : Script) (event : Event) (events : List Event) → HasRoom device script (event ∷ events)
    → HasRoom device (script_with script (line_asked pool event)) events
room-left device pool script event events room =
    let asked = frames-line_asked pool event in
    let all = sum_by-cons frames_taken event events in
    record {
      count = omega (arith, room.count, length-append script.events (event_at (length script.inline_bytes) (line_asked pool event) ∷ []));
      frames = subst (λ (n : ℕ). n * device_frame_bytes device ≤ DEVICE_BYTES) {x = script.device_frames + all_frames_taken (event ∷ events)} (omega (arith, asked, all)) room.frames;
    }

-- the lines of events are read one after another
events-read : (device : DeviceSeen) (pool : Pool) → Reads device pool → (script : Script) (number : ℕ) (events : List Event)
    → All (Fits device pool) events → All HasSmallNumbers events → HasRoom device script events
    → collected device script number (lines_read device pool.files (lines_of (lines_for pool events))) ≡ Ok (with_asked pool script events)
unfolding collected line_event
events-read device pool reads script number [] fits small room = refl
events-read device pool reads script number (event ∷ events) fits small room =
    let fit = All-head (Fits device pool) event events fits in
    let low = All-head HasSmallNumbers event events small in
    let rest = lines_for pool events in
    let cut = line-cut (event_line pool event) rest (line-whole device pool event fit low reads.bytes reads.named) in
    ap (λ parts. collected device script number (lines_read device pool.files parts)) cut
    ∙ ap (λ judged. at_line number (with_line device script judged) >>= (λ more. collected device more (number + 1) (lines_read device pool.files (lines_of rest))))
    (line-read device pool event fit low reads.bytes reads.named)
    ∙ ap (λ added. at_line number added >>= (λ more. collected device more (number + 1) (lines_read device pool.files (lines_of rest)))) (line-added device pool script event events room)
    ∙ events-read device pool reads (script_with script (line_asked pool event)) (number + 1) events
    (All-tail (Fits device pool) event events fits) (All-tail HasSmallNumbers event events small) (room-left device pool script event events room)

pub text-read : (device : DeviceSeen) (files : List DataFileSeen) (script : Script) → IsWritable device files script
    → script_read device files (text_of files script) ≡ Ok (rewritten files script)
unfolding script_read
text-read device files script writable =
    let pool : Pool = pool_of files script in
    let short : (nat_lt TEXT_BYTES (length (text_of files script))) ≡ false = grind (arith, nat_tests, writable.text) in
    ap (λ test. cond test (Err (record { line = 0; kind = Long })) (collected device empty_script 1 (lines_read device files (lines_of (text_of files script))))) short
    ∙ events-read device pool (record { bytes = writable.bytes; named = writable.named }) empty_script 1 script.events writable.fits writable.small
    (record {
      count = omega (arith, writable.count);
      frames = subst (λ (n : ℕ). n * device_frame_bytes device ≤ DEVICE_BYTES) {x = all_frames_taken script.events} (omega arith) writable.frames;
    })

-- ---- the same events

-- what is written after what is there asks for the same
record AddsTheSame (pool : Pool) (files : List DataFileSeen) (script whole : Script) (events : List Event) : Type 0 where
  pub agains : List Event
  pub more : List ℕ
  pub events_are : whole.events ≡ script.events ++ agains
  pub bytes_are : whole.inline_bytes ≡ script.inline_bytes ++ more
  pub same : AskTheSame pool (pool_of files whole) events agains

-- bytes that stand after others and before more
middle-part : (front part more : List ℕ) (count : ℕ) → length part ≡ count → take count (drop (length front) ((front ++ part) ++ more)) ≡ part
middle-part front part more count size =
    ap (λ l. take count (drop (length front) l)) (append_assoc front part more) ∙ ap (take count) (drop_at front (part ++ more) (length front) refl)
    ∙ take_at part more count size

part-length : (count at : ℕ) (bytes : List ℕ) → at + count ≤ length bytes → length (take count (drop at bytes)) ≡ count
part-length count at bytes there = omega (arith, length-take count (drop at bytes), length-drop at bytes)

event-same : (device : DeviceSeen) (pool other : Pool) (event : Event) (front more : List ℕ) → Fits device pool event
    → other.inline_bytes ≡ (front ++ own_bytes (line_asked pool event)) ++ more → AsksTheSame pool other event (event_at (length front) (line_asked pool event))
event-same device pool other (Open fd way settings) front more fits bytes = refl
event-same device pool other (Write fd Inline at count) front more fits bytes =
    let size = part-length count at pool.inline_bytes fits.2.within in (
      length front,
      ap (λ n. Write fd Inline (length front) n) size,
      ap (λ l. take count (drop (length front) l)) bytes ∙ middle-part front (bytes_at pool Inline at count) more count size,
    )
event-same device pool other (Write fd (File place) at count) front more fits bytes = refl
event-same device pool other (Poke fd offset at count) front more fits bytes =
    let size = part-length count at pool.inline_bytes fits.2.within in (
      length front,
      ap (λ n. Poke fd offset (length front) n) size,
      ap (λ l. take count (drop (length front) l)) bytes ∙ middle-part front (bytes_at pool Inline at count) more count size,
    )
event-same device pool other (Read fd count) front more fits bytes = refl
event-same device pool other (Ioctl fd request) front more fits bytes = refl
event-same device pool other (Join fd group) front more fits bytes = refl
event-same device pool other (StartGroup fd group) front more fits bytes = refl
event-same device pool other (Close fd) front more fits bytes = refl
event-same device pool other (Mixer request) front more fits bytes = refl
event-same device pool other (Intr frames) front more fits bytes = refl

adds-same : (device : DeviceSeen) (pool : Pool) (files : List DataFileSeen) (script : Script) (events : List Event) → All (Fits device pool) events
    → AddsTheSame pool files script (with_asked pool script events) events
adds-same device pool files script [] fits = record {
  agains = [];
  more = [];
  events_are = sym (append-nil script.events);
  bytes_are = sym (append-nil script.inline_bytes);
  same = tt;
}
adds-same device pool files script (event ∷ events) fits =
    let line = line_asked pool event in
    let place = length script.inline_bytes in
    let rest = adds-same device pool files (script_with script line) events (All-tail (Fits device pool) event events fits) in
    let whole = with_asked pool (script_with script line) events in
    record {
      agains = event_at place line ∷ rest.agains;
      more = own_bytes line ++ rest.more;
      events_are = rest.events_are ∙ append_assoc script.events (event_at place line ∷ []) rest.agains;
      bytes_are = rest.bytes_are ∙ append_assoc script.inline_bytes (own_bytes line) rest.more;
      same = (event-same device pool (pool_of files whole) event script.inline_bytes rest.more (All-head (Fits device pool) event events fits) rest.bytes_are, rest.same);
    }

pub text-same : (device : DeviceSeen) (files : List DataFileSeen) (script : Script) → IsWritable device files script
    → AskTheSame (pool_of files script) (pool_of files (rewritten files script)) script.events (rewritten files script).events
text-same device files script writable =
    let added = adds-same device (pool_of files script) files empty_script script.events writable.fits in
    subst (λ agains. AskTheSame (pool_of files script) (pool_of files (rewritten files script)) script.events agains) (sym added.events_are) added.same

-- ---- what a caller has

found-event : (device : DeviceSeen) (pool : Pool) (event : Event) → Fits device pool event → FindsBytes pool event
found-event device pool (Open fd way settings) fits = tt
found-event device pool (Write fd source at count) fits = fits.2
found-event device pool (Poke fd offset at count) fits = fits.2
found-event device pool (Read fd count) fits = tt
found-event device pool (Ioctl fd request) fits = tt
found-event device pool (Join fd group) fits = tt
found-event device pool (StartGroup fd group) fits = tt
found-event device pool (Close fd) fits = tt
found-event device pool (Mixer request) fits = tt
found-event device pool (Intr frames) fits = tt

-- each write and each poke of a script that fits a device names bytes that are there
pub found-fits : (device : DeviceSeen) (files : List DataFileSeen) (script : Script) → AllFit device files script → AllFound files script
found-fits device files script fits = λ i d l. found-event device (pool_of files script) _ (fits i d l)
