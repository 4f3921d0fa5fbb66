-- What holds of each script of a number: its events fit the usual device, and the limits are kept.
use Rattle.std.proofs.Common.{◌≡◌, ℕ, zero, suc, ◌*◌, ◌≤◌, ◌==◌, nat_lt, cond, [], ◌∷◌, length, All, refl, ap, arith, rules}
use Rattle.std.proofs.lemmas.Bool.{cond_both}
use Rattle.std.proofs.lemmas.List.{length-append}
use Rattle.std.proofs.lemmas.List.Elements.{All-append, All-cons, All-from_recursion, All-nil}
use Rattle.std.proofs.lemmas.List.FromFn.{length-map-range_with_len}
use Rattle.std.proofs.lemmas.List.Sums.{sum_by-append}
use Rattle.pcm_oss.specs.declared.event.Event.{Event}
use Rattle.pcm_wave.specs.declared.pool.Pool.{Pool}
use Rattle.pcm_desk.specs.Events.{Fits, all_frames_taken, frames_taken}
use Rattle.pcm_desk.specs.Usual.{usual_device}
use Rattle.pcm_script.specs.Lines.{AllFit, pool_of}
use Rattle.pcm_script.proofs.Kept.{IsSound}
use Rattle.pcm_soak.specs.declared.limits.TheConstants.{DRAWN_EVENTS, INLINE_BYTES, SOAK_EVENTS, SOAK_FRAMES}
use Rattle.pcm_soak.specs.Draws.{Draw, drawn_below}
use Rattle.pcm_soak.specs.Events.{drawn_event, event_for, interrupt_event, order_event, question_event, read_event, volume_event, write_event}
use Rattle.pcm_soak.specs.Soak.{drawn_events, first_events, inline_byte, inline_bytes, soak_events, soak_script}

-- ---- an event that is drawn

-- a pool that has all bytes of which writes take parts
record HasBytes (pool : Pool) : Type 0 where
  room : INLINE_BYTES ≤ length pool.inline_bytes

-- an event that fits, and takes few frames
record IsKept (pool : Pool) (event : Event) : Type 0 where
  fits : Fits usual_device pool event
  few : frames_taken event ≤ 256

write_event-kept : (pool : Pool) (state : ℕ) → HasBytes pool → IsKept pool (write_event state).value
write_event-kept pool state has = record { fits = (omega arith, omega arith, record { has = tt; within = omega (arith, has.room) }); few = omega arith }

interrupt_event-kept : (pool : Pool) (state : ℕ) → IsKept pool (interrupt_event state).value
interrupt_event-kept pool state = record { fits = (omega arith, omega arith); few = omega arith }

read_event-kept : (pool : Pool) (state : ℕ) → IsKept pool (read_event state).value
read_event-kept pool state = record { fits = (omega arith, omega arith); few = omega arith }

question_event-kept : (pool : Pool) (state : ℕ) → IsKept pool (question_event state).value
question_event-kept pool state = record { fits = omega arith; few = omega arith }

volume_event-kept : (pool : Pool) (state : ℕ) → IsKept pool (volume_event state).value
volume_event-kept pool state = record { fits = omega arith; few = omega arith }

order_event-kept : (pool : Pool) (state : ℕ) → IsKept pool (order_event state).value
order_event-kept pool state = record { fits = omega arith; few = omega arith }

-- each kind of event
event_for-kept : (pool : Pool) (choice state : ℕ) → HasBytes pool → IsKept pool (event_for choice state).value
event_for-kept pool choice state has =
    let P : Draw Event → Type 0 = λ (draw : Draw Event). IsKept pool (draw state).value in
    let order = order_event in
    let volume = cond (choice == 14) volume_event order in
    let question = cond (choice == 13) question_event volume in
    let read = cond (choice == 12) read_event question in
    let interrupt = cond (nat_lt choice 12) interrupt_event read in
    cond_both (nat_lt choice 8) write_event interrupt P (λ _. write_event-kept pool state has) (λ _.
    cond_both (nat_lt choice 12) interrupt_event read P (λ _. interrupt_event-kept pool state) (λ _.
    cond_both (choice == 12) read_event question P (λ _. read_event-kept pool state) (λ _.
    cond_both (choice == 13) question_event volume P (λ _. question_event-kept pool state) (λ _.
    cond_both (choice == 14) volume_event order P (λ _. volume_event-kept pool state) (λ _. order_event-kept pool state)))))

drawn_event-kept : (pool : Pool) (state : ℕ) → HasBytes pool → IsKept pool (drawn_event state).value
unfolding drawn_event
drawn_event-kept pool state has = event_for-kept pool (drawn_below 16 state).value (drawn_below 16 state).state has

-- ---- all that are drawn

length-drawn : (count state : ℕ) → length (drawn_events count state) ≡ count
unfolding drawn_events
length-drawn zero state = refl
length-drawn (suc count) state = ap suc (length-drawn count (drawn_event state).state)

drawn-fit : (pool : Pool) (count state : ℕ) → HasBytes pool → All (Fits usual_device pool) (drawn_events count state)
unfolding drawn_events
drawn-fit pool zero state has = All-nil (Fits usual_device pool)
drawn-fit pool (suc count) state has =
    All-cons (Fits usual_device pool) (drawn_event state).value (drawn_events count (drawn_event state).state) (drawn_event-kept pool state has).fits
    (drawn-fit pool count (drawn_event state).state has)

drawn-few : (pool : Pool) (count state : ℕ) → HasBytes pool → all_frames_taken (drawn_events count state) ≤ 256 * count
unfolding drawn_events
drawn-few pool zero state has = omega arith
drawn-few pool (suc count) state has =
    let rest = drawn_events count (drawn_event state).state in
    omega (arith, sum_by-append frames_taken ((drawn_event state).value ∷ []) rest, (drawn_event-kept pool state has).few, drawn-few pool count (drawn_event state).state has)

-- ---- the first events

first-fit : (pool : Pool) → All (Fits usual_device pool) first_events
first-fit pool = All-from_recursion (Fits usual_device pool) first_events (search rules)

-- ---- the script

length-inline_bytes : (count n : ℕ) → length (inline_bytes count n) ≡ count
unfolding inline_bytes
length-inline_bytes count n = length-map-range_with_len (inline_byte n) 0 count

pool-has : (n : ℕ) → HasBytes (pool_of [] (soak_script n))
unfolding soak_script
pool-has n = record { room = omega (arith, length-inline_bytes INLINE_BYTES n) }

-- each event fits the device and names bytes that are there
pub soak_script-fits : (n : ℕ) → AllFit usual_device [] (soak_script n)
unfolding soak_script soak_events
soak_script-fits n =
    let pool = pool_of [] (soak_script n) in
    All-append (Fits usual_device pool) first_events (drawn_events DRAWN_EVENTS n) (first-fit pool) (drawn-fit pool DRAWN_EVENTS n (pool-has n))

-- how many they are
pub soak_script-counts : (n : ℕ) → length (soak_script n).events ≡ SOAK_EVENTS
unfolding soak_script soak_events
soak_script-counts n = omega (arith, length-append first_events (drawn_events DRAWN_EVENTS n), length-drawn DRAWN_EVENTS n)

-- the frames of all interrupts
pub soak_script-sum : (n : ℕ) → (soak_script n).device_frames ≡ all_frames_taken (soak_script n).events
unfolding soak_script
soak_script-sum n = refl

-- which aren't too many
pub soak_script-frames : (n : ℕ) → (soak_script n).device_frames ≤ SOAK_FRAMES
unfolding soak_script soak_events
soak_script-frames n =
    omega (arith, sum_by-append frames_taken first_events (drawn_events DRAWN_EVENTS n), drawn-few (pool_of [] (soak_script n)) DRAWN_EVENTS n (pool-has n))

-- the script keeps all that one that is read keeps
pub soak_script-sound : (n : ℕ) → IsSound usual_device [] (soak_script n)
soak_script-sound n = record {
  fits = soak_script-fits n;
  counts = omega (arith, soak_script-counts n);
  frames = omega (arith, soak_script-frames n);
  sum = soak_script-sum n;
}
