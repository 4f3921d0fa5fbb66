-- Events and bytes one after another.
use Rattle.std.proofs.Common.{◌≡◌, ℕ, zero, suc, ◌+◌, ◌-◌, ◌<◌, List, [], ◌∷◌, ◌++◌, map, sym, ap, ◌∙◌, arith, append_assoc}
use Rattle.std.specs.List.{range_with_len}
use Rattle.std.proofs.lemmas.List.{append-nil}
use Rattle.std.proofs.lemmas.List.FromFn.{map-range_with_len_more}
use Rattle.pcm_oss.specs.declared.event.Event.{Event}
use Rattle.pcm_soak.specs.Events.{drawn_event}
use Rattle.pcm_desk.specs.Events.{all_frames_taken}
use Rattle.pcm_script.specs.declared.script.Script.{Script}
use Rattle.pcm_soak.specs.declared.limits.TheConstants.{INLINE_BYTES}
use Rattle.pcm_soak.specs.Soak.{drawn_events, inline_byte, inline_bytes, soak_events, soak_script}

-- the first of those that are still to be drawn comes after the events so far
pub drawn_events-more : (events : List Event) (left state : ℕ) → 0 < left
    → events ++ drawn_events left state ≡ (events ++ (drawn_event state).value ∷ []) ++ drawn_events (left - 1) (drawn_event state).state
unfolding drawn_events
drawn_events-more events zero state some = absurd (omega arith)
drawn_events-more events (suc left) state some =
    let one : suc left - 1 ≡ left = omega arith in
    rw one (sym (append_assoc events ((drawn_event state).value ∷ []) (drawn_events left (drawn_event state).state)))

-- none is left
pub drawn_events-none : (events : List Event) (state : ℕ) → events ++ drawn_events 0 state ≡ events
unfolding drawn_events
drawn_events-none events state = append-nil events

-- one byte more
pub inline_bytes-more : (n j byte : ℕ) (bytes more : List ℕ) → more ≡ bytes ++ byte ∷ [] → byte ≡ inline_byte n j → bytes ≡ map (inline_byte n) (range_with_len 0 j)
    → more ≡ map (inline_byte n) (range_with_len 0 (j + 1))
inline_bytes-more n j byte bytes more pushed byte_is bytes_are =
    pushed ∙ ap (λ list. list ++ byte ∷ []) bytes_are
    ∙ ap (λ x. map (inline_byte n) (range_with_len 0 j) ++ x ∷ []) byte_is
    ∙ sym (map-range_with_len_more (inline_byte n) 0 j j (omega arith))

-- a script of these parts is that of the number
pub soak_script-parts : (n : ℕ) (events : List Event) (bytes : List ℕ) (frames : ℕ) → events ≡ soak_events n → bytes ≡ inline_bytes INLINE_BYTES n → frames ≡ all_frames_taken events
    → record { events = events; inline_bytes = bytes; device_frames = frames } ≡ soak_script n
unfolding soak_script
soak_script-parts n events bytes frames events_are bytes_are frames_are =
    let make : List Event → List ℕ → ℕ → Script = λ e b f. record { events = e; inline_bytes = b; device_frames = f } in
    ap (make events bytes) frames_are
    ∙ ap (λ e. make e bytes (all_frames_taken e)) events_are
    ∙ ap (λ b. make (soak_events n) b (all_frames_taken (soak_events n))) bytes_are
