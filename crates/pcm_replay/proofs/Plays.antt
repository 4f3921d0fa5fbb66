-- A run by one event more.
use Rattle.std.proofs.Common.{◌≡◌, ℕ, zero, suc, ◌+◌, ◌*◌, max, List, [], ◌∷◌, ◌++◌, ◌<◌, ◌≤◌, fold, slice_index_or, length, take, refl, sym, ◌∙◌, ap, subst, arith, append_assoc, append-nil, length-take-le}
use Rattle.pcm_sequence.specs.Fixed.{fixed_len}
use Rattle.std.proofs.Math.Nat.{mul-le-mul_right}
use Rattle.std.proofs.lemmas.List.{take_more}
use Rattle.pcm_oss.specs.declared.event.Event.{Event}
use Rattle.pcm_oss.specs.declared.event.Event.TheVariants.{Open, Write, Poke, Read, Ioctl, Join, StartGroup, Close, Mixer, Intr}
use Rattle.pcm_wave.specs.declared.pool.Pool.{Pool}
use Rattle.pcm_oss.specs.Replies.{Reply}
use Rattle.pcm_desk.specs.Device.{DeviceSeen, device_frame_bytes}
use Rattle.pcm_desk.specs.Events.{all_frames_taken, bytes_handed, frames_taken}
use Rattle.pcm_sound.specs.DeviceList.{device_text}
use Rattle.pcm_sound.specs.StoryReplies.{replies, reply_to}
use Rattle.pcm_sound.specs.Story.{Story, story_at_start, story_of}
use Rattle.pcm_feeder.specs.declared.kind.Kind.{Kind}
use Rattle.pcm_feeder.specs.Kept.{Kept}
use Rattle.pcm_engine.specs.Engines.{AreReady, Stands, device_of}
use Rattle.pcm_report.specs.Lines.{reply_line}
use Rattle.pcm_verdict.specs.Transcript.{lines_from, transcript}
use Rattle.pcm_replay.specs.declared.replay.ReplayOf.{ReplayOf}
use Rattle.pcm_replay.specs.Playback.{playback}
use Rattle.pcm_soak_command.proofs.Running.{handed-more, length-replies, replies-more}
use Rattle.pcm_replay.specs.Playing.{HasPlayed, greatest_taken}
use Rattle.pcm_replay.specs.Turns.{IsNext}

-- the lines of one reply more
pub lines_from-more : (number : ℕ) (said : List Reply) (reply : Reply)
    → lines_from number (said ++ reply ∷ []) ≡ lines_from number said ++ reply_line (number + length said) reply
lines_from-more number [] reply =
    append-nil (reply_line number reply) ∙ ap (λ n. reply_line n reply) (let e : number ≡ number + 0 = omega arith in e)
lines_from-more number (first ∷ said) reply =
    let line : List ℕ = reply_line number first in
    let next : number + 1 + length said ≡ number + suc (length said) = omega arith in
    ap (λ (rest : List ℕ). line ++ rest) (lines_from-more (number + 1) said reply)
    ∙ sym (append_assoc line (lines_from (number + 1) said) (reply_line (number + 1 + length said) reply))
    ∙ ap (λ n. line ++ lines_from (number + 1) said ++ reply_line n reply) next

-- what is printed of one event more
pub transcript-more : (device : DeviceSeen) (pool : Pool) (events : List Event) (event : Event)
    → transcript device pool (events ++ event ∷ []) ≡ transcript device pool events ++ reply_line (length events + 1) (reply_to device (story_of device pool events) event)
transcript-more device pool events event =
    let story : Story = story_at_start device in
    let reply : Reply = reply_to device (story_of device pool events) event in
    let number : 1 + length (replies device pool story events) ≡ length events + 1 = omega (arith, length-replies device pool story events) in
    ap (lines_from 1) (replies-more device pool story events event)
    ∙ lines_from-more 1 (replies device pool story events) reply
    ∙ ap (λ n. lines_from 1 (replies device pool story events) ++ reply_line n reply) number

-- what an engine's step gave
pub record Steps {B : Type 0} (kind : B → Kind) (kept : B → Kept) (old new : ReplayOf B) (pool : Pool) (events : List Event) (event : Event) (piece : List ℕ) (reply : Reply) : Type 0 where
  pub device : device_of new.engine ≡ device_of old.engine
  pub ready : AreReady kind kept new.engine
  pub stands : Stands kept old.engine pool events → Stands kept new.engine pool (events ++ event ∷ [])
  pub handed : new.engine.parent.handed ≡ old.engine.parent.handed + frames_taken event
  pub bytes : Stands kept old.engine pool events
      → device_text (device_of old.engine) pool (events ++ event ∷ []) ≡ device_text (device_of old.engine) pool events ++ piece
  pub replied : Stands kept old.engine pool events
      → reply ≡ reply_to (device_of old.engine) (story_of (device_of old.engine) pool events) event
  pub room : fixed_len new.block ≡ fixed_len old.block
  pub line_room : fixed_len new.line ≡ fixed_len old.line

-- one event more was run
pub played : {B : Type 0} (kind : B → Kind) (kept : B → Kept) (old new : ReplayOf B) (pool : Pool) (events : List Event) (at : ℕ) (other : Event) (piece : List ℕ) (reply : Reply) → at < length events
    → Steps kind kept old new pool (take at events) (slice_index_or events at other) piece reply → HasPlayed kind kept old pool events at → HasPlayed kind kept new pool events (at + 1)
played kind kept old new pool events at other piece reply there s h =
    let device : DeviceSeen = device_of old.engine in
    let event : Event = slice_index_or events at other in
    let more : take (at + 1) events ≡ take at events ++ event ∷ [] = take_more events at other there in
    record {
      engine = record {
        device_is = refl;
        stands = subst (λ (list : List Event). Stands kept new.engine pool list) (sym more) (s.stands h.engine.stands);
        ready = s.ready;
        handed = subst (λ (list : List Event). new.engine.parent.handed ≡ all_frames_taken list) (sym more)
            (handed-more (take at events) event old.engine.parent.handed new.engine.parent.handed h.engine.handed s.handed);
      };
      room = s.room ∙ h.room ∙ ap (λ (d : DeviceSeen). greatest_taken events * device_frame_bytes d) (sym s.device);
      line_room = s.line_room ∙ h.line_room;
    }

-- what it gave
pub next-given : {B : Type 0} (kind : B → Kind) (kept : B → Kept) (old new : ReplayOf B) (pool : Pool) (events : List Event) (at : ℕ) (other : Event) (piece bytes line : List ℕ) (reply : Reply) → at < length events
    → Steps kind kept old new pool (take at events) (slice_index_or events at other) piece reply → bytes ≡ piece → line ≡ reply_line (at + 1) reply → HasPlayed kind kept old pool events at
    → IsNext (playback (device_of old.engine) pool events) at bytes line
next-given kind kept old new pool events at other piece bytes line reply there s shown is h =
    let device : DeviceSeen = device_of old.engine in
    let event : Event = slice_index_or events at other in
    let first : List Event = take at events in
    let more : take (at + 1) events ≡ first ++ event ∷ [] = take_more events at other there in
    let within : at ≤ length events = omega (arith, there) in
    let number : length first + 1 ≡ at + 1 = ap (λ n. n + 1) (length-take-le at events within) in
    let said : Reply = reply_to device (story_of device pool first) event in
    record {
      there = there;
      bytes_are = ap (λ (list : List Event). device_text device pool list) more ∙ s.bytes h.engine.stands
          ∙ ap (λ (p : List ℕ). device_text device pool first ++ p) (sym shown);
      line_is = ap (λ (list : List Event). transcript device pool list) more ∙ transcript-more device pool first event
          ∙ ap (λ (n : ℕ). transcript device pool first ++ reply_line n said) number
          ∙ ap (λ (r : Reply). transcript device pool first ++ reply_line (at + 1) r) (sym (s.replied h.engine.stands))
          ∙ ap (λ (l : List ℕ). transcript device pool first ++ l) (sym is);
    }

-- ---- the greatest interrupt

taken-most : (most : ℕ) (events : List Event) → most ≤ fold (λ m event. max m (frames_taken event)) most events
taken-most most [] = omega arith
taken-most most (event ∷ events) = let rest = taken-most (max most (frames_taken event)) events in omega arith

taken-each : (most : ℕ) (events : List Event) (at : ℕ) (other : Event) → at < length events → frames_taken (slice_index_or events at other) ≤ fold (λ m event. max m (frames_taken event)) most events
taken-each most [] at other there = absurd (omega arith)
taken-each most (event ∷ events) zero other there = let rest = taken-most (max most (frames_taken event)) events in omega arith
taken-each most (event ∷ events) (suc at) other there = taken-each (max most (frames_taken event)) events at other (omega arith)

-- one event more
pub taken-push : (most : ℕ) (events : List Event) (event : Event) → fold (λ m e. max m (frames_taken e)) most (events ++ event ∷ []) ≡ max (fold (λ m e. max m (frames_taken e)) most events) (frames_taken event)
taken-push most [] event = refl
taken-push most (first ∷ events) event = taken-push (max most (frames_taken first)) events event

-- no event but an interrupt takes frames
pub takes-none : (event : Event) → ((frames : ℕ) → event ≡ Intr frames → ⊥) → frames_taken event ≡ 0
takes-none (Open fd way settings) not = refl
takes-none (Write fd source at count) not = refl
takes-none (Poke fd offset at count) not = refl
takes-none (Read fd count) not = refl
takes-none (Ioctl fd request) not = refl
takes-none (Join fd group) not = refl
takes-none (StartGroup fd group) not = refl
takes-none (Close fd) not = refl
takes-none (Mixer request) not = refl
takes-none (Intr frames) not = absurd (not frames refl)

-- the greatest interrupt once one event more was looked at
pub greatest-more : (events : List Event) (at most now taken : ℕ) (other : Event) → at < length events → frames_taken (slice_index_or events at other) ≡ taken → most ≡ greatest_taken (take at events)
    → now ≡ max most taken → now ≡ greatest_taken (take (at + 1) events)
greatest-more events at most now taken other there is so_far greatest =
    greatest ∙ ap (λ m. max m taken) so_far ∙ ap (λ n. max (greatest_taken (take at events)) n) (sym is)
    ∙ sym (ap greatest_taken (take_more events at other there) ∙ taken-push 0 (take at events) (slice_index_or events at other))

-- no event of these hands over more than the greatest interrupt
pub handed-among : (device : DeviceSeen) (events : List Event) (at count room : ℕ) (other : Event) → at < length events
    → count ≡ bytes_handed device (slice_index_or events at other) → room ≡ greatest_taken events * device_frame_bytes device → count ≤ room
handed-among device events at count room other there is all =
    let most = mul-le-mul_right (device_frame_bytes device) (taken-each 0 events at other there) in
    omega (arith, most, is, all)
