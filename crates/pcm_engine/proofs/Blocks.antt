-- The block that an interrupt mixes, folded over the slots, is the mix of its positions.
use Rattle.std.proofs.Common.{◌≡◌, ℕ, zero, suc, ◌+◌, ◌*◌, ◌<◌, ◌≤◌, Bool, true, false, cond, eqb, List, [], ◌∷◌, ◌++◌, replicate, fold, ℤ, pos, refl, sym, ap, ◌∙◌, subst, arith, zero-add}
use Rattle.std.specs.Prelude.{All, IfSome, Option, option_map, ◌-◌, ◌&&◌, ◌||◌, nat_lt, not}
use Rattle.std.specs.List.{range_with_len, flat_map}
use Rattle.std.proofs.lemmas.Bool.Decides.{nat_tests}
use Rattle.std.proofs.lemmas.List.{replicate-append-replicate}
use Rattle.std.proofs.lemmas.List.Sums.{fold-append}
use Rattle.pcm_oss.specs.declared.event.Event.TheVariants.{Intr}
use Rattle.pcm_engine.specs.Types.{Gain, MapBook, PlayBook, PlayState, Pool, Rate, RunState}
use Rattle.pcm_format.specs.declared.layout.Layout.{Layout}
use Rattle.pcm_format.specs.Formats.{bits_of}
use Rattle.pcm_format.specs.Layouts.{channels_of}
use Rattle.pcm_format.specs.Frames.{Frame}
use Rattle.pcm_format.proofs.Ranges.{flat_map-range-same, range-add}
use Rattle.pcm_feeder.specs.Layouts.{at_gain}
use Rattle.pcm_feeder.specs.Fades.{faded}
use Rattle.pcm_mixdev.specs.Mixers.{Levels, master_gain, slot_gain}
use Rattle.pcm_desk.specs.declared.play_book.PlayState.TheVariants.{Free, Setup, Running, Draining}
use Rattle.pcm_desk.specs.PlayBooks.{finished, is_over, is_play_free, play_settled, refilled}
use Rattle.pcm_desk.specs.declared.run_state.RunState.TheVariants as run_states
use Rattle.pcm_desk.specs.RunStates.{is_unheld}
use Rattle.pcm_desk.specs.MapBooks.{map_refilled_in}
use Rattle.pcm_desk.specs.Device.{DeviceSeen, map_slots, mix_settings, mixed_for, mixed_slots, passed_for, play_slots}
use Rattle.pcm_desk.specs.Channels.{map_mixing, map_rate_at, mixed_by, mixing, play_passing, play_rate_at}
use Rattle.pcm_desk.specs.Desk.{map_at, play_at}
use Rattle.pcm_desk.proofs.Slots.{map_at-passing, play_at-passing}
use Rattle.pcm_sound.specs.Gains.{GainSet, book_gain, last_gain, map_gain}
use Rattle.pcm_sound.specs.Runs.{Run, marking, playing, sounding}
use Rattle.pcm_sound.specs.MapRuns.{map_marking, map_playing}
use Rattle.pcm_sound.specs.Story.{Story, by_number, mixed_gains, told}
use Rattle.pcm_sound.specs.Mix.{Table, adding, mix_of}
use Rattle.pcm_sound.specs.DeviceList.{mix_at, silence_in, sum_at, table_of}
use Rattle.pcm_sound.specs.Added.{map_turned, turned}
use Rattle.pcm_sound.specs.Valid.{HasRate, StoryIsValid}
use Rattle.pcm_sound.proofs.DeviceLists.{IsMixedFrame, mix_of-same, mix_of-more, mix_of-frame, sounding-frame}
use Rattle.pcm_sound.proofs.FadedBlocks.{mixer_table, mixer_table-frames, sums-faded}
use Rattle.pcm_sound.proofs.MapSlots.{map-mixed}
use Rattle.pcm_sound.proofs.MapStories.{sounding-map_marking}
use Rattle.pcm_sound.proofs.MapTurns.{map-turn}
use Rattle.pcm_sound.proofs.Numbers.{by-number}
use Rattle.pcm_sound.proofs.Slots.{playing-own}
use Rattle.pcm_sound.proofs.Sounding.{sounding-marking}
use Rattle.pcm_sound.proofs.Turns.{turn}
use Rattle.pcm_bus.specs.Blocks.{block_of, map_gains, mapped_onto, mixed_onto, silent_samples}
use Rattle.pcm_engine.specs.Stands.{bytes_counted, map_bytes_counted}
use Rattle.pcm_engine.proofs.Counted.{counted-newest, counted-taken}

-- frames of silence, joined
pub silence-joined : (frame_size a n : ℕ) → flat_map (λ k. replicate frame_size (pos 0)) (range_with_len a n) ≡ replicate (n * frame_size) (pos 0)
silence-joined frame_size a zero = let none : 0 * frame_size ≡ 0 = omega arith in rw none refl
silence-joined frame_size a (suc n) =
    let more : suc n * frame_size ≡ frame_size + n * frame_size = omega arith in
    ap (λ xs. replicate frame_size (pos 0) ++ xs) (silence-joined frame_size (a + 1) n) ∙ replicate-append-replicate frame_size (n * frame_size) (pos 0) ∙ ap (λ k. replicate k (pos 0)) (sym more)

-- the runs of each slot that plays after an interrupt that mixes n frames, and of each mapped one
abbrev pub next_play : DeviceSeen → Story → ℕ → ℕ → List Run
next_play device story n slot = playing device story.desk.mixed n (play_at device story.desk slot) (story.runs slot)

abbrev pub next_map : DeviceSeen → Story → ℕ → ℕ → List Run
next_map device story n slot = map_playing device story.desk.mixed n (map_at device story.desk slot) (story.areas slot) (story.map_runs slot)

-- what each slot of a story gives after an interrupt that mixes n frames
abbrev pub next_sounds : DeviceSeen → Story → ℕ → Table
next_sounds device story n slot position =
    sounding device (last_gain (mixed_gains device story slot) position) (by_number device (next_play device story n) (next_map device story n) slot) position

-- and at the gain that the mixer device gives it
abbrev pub next_table : DeviceSeen → Story → ℕ → Table
next_table device story n = mixer_table device story.desk.mixer (next_sounds device story n)

sounds_frames : (device : DeviceSeen) (story : Story) (n : ℕ) → StoryIsValid device story → (slot position : ℕ) → IfSome (next_sounds device story n slot position) (IsMixedFrame device)
sounds_frames device story n v slot position =
    sounding-frame device (last_gain (mixed_gains device story slot) position) (by_number device (next_play device story n) (next_map device story n) slot) position v.limits
    (by-number (All HasRate) device (next_play device story n) (next_map device story n) slot
    (λ at. playing-own device story.desk.mixed n (play_at device story.desk at) (story.runs at) (v.slots at).own)
    (λ at. (map-mixed device story.desk.mixed n (map_at device story.desk at) (story.areas at) (story.map_runs at) v.limits (v.maps at)).own))

next_frames : (device : DeviceSeen) (story : Story) (n : ℕ) → StoryIsValid device story → (slot position : ℕ) → IfSome (next_table device story n slot position) (IsMixedFrame device)
next_frames device story n v slot position = mixer_table-frames device story.desk.mixer (next_sounds device story n) (sounds_frames device story n v) slot position

-- a frame at the gain of a slot
abbrev pub slot_faded : DeviceSeen → Story → ℕ → Option Frame → Option Frame
slot_faded device story slot given = option_map (at_gain (mix_settings device).layout (slot_gain story.desk.mixer slot)) given

-- in the slots that play it has what these give
next_playing : (device : DeviceSeen) (story : Story) (n slot position : ℕ) → slot < play_slots device
    → next_table device story n slot position ≡ slot_faded device story slot (sounding device (last_gain (story.gains slot) position) (next_play device story n slot) position)
next_playing device story n slot position below = let plays : nat_lt slot (play_slots device) ≡ true = grind (arith, nat_tests) in rw plays refl

-- and after them what the mapped ones give
next_mapped : (device : DeviceSeen) (story : Story) (n slot position : ℕ)
    → next_table device story n (play_slots device + slot) position ≡ slot_faded device story (play_slots device + slot) (sounding device (last_gain (story.map_gains slot) position) (next_map device story n slot) position)
next_mapped device story n slot position =
    let behind : nat_lt (play_slots device + slot) (play_slots device) ≡ false = grind (arith, nat_tests) in
    let place : play_slots device + slot - play_slots device ≡ slot = omega arith in
    rw (behind, place) refl

-- the mix of the first slots at its positions
abbrev pub front_mix : DeviceSeen → Story → ℕ → ℕ → ℕ → Frame
front_mix device story n slots k = mix_of (bits_of (mix_settings device).format) (silence_in (mix_settings device)) (next_table device story n) slots (story.desk.mixed + k)

-- the block of the first slots is their mix
fold-front : (device : DeviceSeen) (story : Story) (n j : ℕ) → j ≤ play_slots device → StoryIsValid device story
    → mixed_onto device n (slot_gain story.desk.mixer) story.desk.play (bytes_counted device story) j (silent_samples (mix_settings device) n) ≡ flat_map (front_mix device story n j) (range_with_len 0 n)
fold-front device story n zero few v = sym (silence-joined (channels_of (mix_settings device).layout) 0 n)
fold-front device story n (suc j) few v =
    let book : PlayBook = play_at device story.desk j in
    let bytes : List ℕ = bytes_counted device story j in
    let gain : Gain = slot_gain story.desk.mixer j in
    let onto : List ℤ → ℕ → List ℤ = λ sum slot. turned device n (slot_gain story.desk.mixer slot) (play_at device story.desk slot) (bytes_counted device story slot) sum in
    let sum : ℕ → Frame = front_mix device story n j in
    let next : suc j ≡ j + 1 = omega arith in
    let added = turn device story.desk.mixed n book (story.runs j) (λ k. last_gain (story.gains j) (story.desk.mixed + k)) (λ k. gain) gain bytes sum v.limits (v.slots j)
    (λ some. counted-newest device story.desk.mixed book (story.runs j) (v.slots j) some)
    (λ k l. v.gains j (story.desk.mixed + k) (omega arith)) (λ k l. refl)
    (λ k l. mix_of-frame device (bits_of (mix_settings device).format) (next_table device story n) j (story.desk.mixed + k) (λ slot. next_frames device story n v slot (story.desk.mixed + k))) in
    ap (λ m. fold onto (silent_samples (mix_settings device) n) (range_with_len 0 m)) next
    ∙ ap (fold onto (silent_samples (mix_settings device) n)) (range-add 0 j 1 ∙ ap (λ a. range_with_len 0 j ++ a ∷ []) (zero-add j))
    ∙ fold-append onto (silent_samples (mix_settings device) n) (range_with_len 0 j) (j ∷ [])
    ∙ ap (turned device n gain book bytes) (fold-front device story n j (omega arith) v)
    ∙ sym added
    ∙ flat_map-range-same (λ k. adding (bits_of (mix_settings device).format) (sum k) (slot_faded device story j (sounding device (last_gain (story.gains j) (story.desk.mixed + k)) (next_play device story n j) (story.desk.mixed + k))))
    (λ k. adding (bits_of (mix_settings device).format) (sum k) (next_table device story n j (story.desk.mixed + k))) 0 n
    (λ k l. ap (adding (bits_of (mix_settings device).format) (sum (0 + k))) (sym (next_playing device story n j (story.desk.mixed + (0 + k)) (omega arith))))
    ∙ flat_map-range-same (λ k. adding (bits_of (mix_settings device).format) (sum k) (next_table device story n j (story.desk.mixed + k))) (front_mix device story n (suc j)) 0 n
    (λ k l. sym (ap (λ slots. mix_of (bits_of (mix_settings device).format) (silence_in (mix_settings device)) (next_table device story n) slots (story.desk.mixed + (0 + k))) next
    ∙ mix_of-more (bits_of (mix_settings device).format) (silence_in (mix_settings device)) (next_table device story n) j (story.desk.mixed + (0 + k))))

-- and so is that with the first mapped slots after them
fold-back : (device : DeviceSeen) (story : Story) (n j : ℕ) → StoryIsValid device story → (front : List ℤ) → front ≡ flat_map (front_mix device story n (play_slots device)) (range_with_len 0 n)
    → mapped_onto device n (map_gains story.desk.mixer (play_slots device)) story.desk.mapped (map_bytes_counted device story) story.areas j front ≡ flat_map (front_mix device story n (play_slots device + j)) (range_with_len 0 n)
fold-back device story n zero v front is = is ∙ ap (λ slots. flat_map (front_mix device story n slots) (range_with_len 0 n)) (let e : play_slots device ≡ play_slots device + 0 = omega arith in e)
fold-back device story n (suc j) v front is =
    let book : MapBook = map_at device story.desk j in
    let bytes : List ℕ = map_bytes_counted device story j in
    let area : List ℕ = story.areas j in
    let bits : ℕ = bits_of (mix_settings device).format in
    let gain : Gain = slot_gain story.desk.mixer (play_slots device + j) in
    let onto : List ℤ → ℕ → List ℤ = λ sum slot. map_turned device n (slot_gain story.desk.mixer (play_slots device + slot)) (map_at device story.desk slot) (map_bytes_counted device story slot) (story.areas slot) sum in
    let sum : ℕ → Frame = front_mix device story n (play_slots device + j) in
    let next : suc j ≡ j + 1 = omega arith in
    let last : play_slots device + suc j ≡ play_slots device + j + 1 = omega arith in
    let added = map-turn device story.desk.mixed n book (story.map_runs j) (λ k. last_gain (story.map_gains j) (story.desk.mixed + k)) (λ k. gain) gain bytes area sum v.limits (v.maps j)
    (λ on. counted-taken device story.desk.mixed book (story.map_runs j) (v.maps j) on)
    (λ k l. v.map_gains j (story.desk.mixed + k) (omega arith)) (λ k l. refl)
    (λ k l. mix_of-frame device bits (next_table device story n) (play_slots device + j) (story.desk.mixed + k) (λ slot. next_frames device story n v slot (story.desk.mixed + k))) in
    ap (λ m. fold onto front (range_with_len 0 m)) next
    ∙ ap (fold onto front) (range-add 0 j 1 ∙ ap (λ a. range_with_len 0 j ++ a ∷ []) (zero-add j))
    ∙ fold-append onto front (range_with_len 0 j) (j ∷ [])
    ∙ ap (map_turned device n gain book bytes area) (fold-back device story n j v front is)
    ∙ sym added
    ∙ flat_map-range-same (λ k. adding bits (sum k) (slot_faded device story (play_slots device + j) (sounding device (last_gain (story.map_gains j) (story.desk.mixed + k)) (next_map device story n j) (story.desk.mixed + k)))) (front_mix device story n (play_slots device + suc j)) 0 n
    (λ k l. ap (adding bits (sum (0 + k))) (sym (next_mapped device story n j (story.desk.mixed + (0 + k))))
    ∙ sym (ap (λ slots. mix_of bits (silence_in (mix_settings device)) (next_table device story n) slots (story.desk.mixed + (0 + k))) last
    ∙ mix_of-more bits (silence_in (mix_settings device)) (next_table device story n) (play_slots device + j) (story.desk.mixed + (0 + k))))

-- ---- gains

-- no volume is set where it stays and nothing begins
quiet : (free begun : Bool) (volume now : ℕ) → (free ≡ true → begun ≡ true) → now ≡ volume → (free && not begun || not (eqb now volume)) ≡ false
quiet true true volume now h same = grind (arith, nat_tests)
quiet true false volume now h same = absurd (let not_so : false ≡ true = h refl in cc)
quiet false begun volume now h same = grind (arith, nat_tests)

-- what an interrupt leaves of a book: its volume, and a free one free
record Quiet (old new : PlayBook) : Type 0 where
  free : is_play_free old.state ≡ true → is_play_free new.state ≡ true
  volume : new.volume ≡ old.volume

quiet_over : (b closed : Bool) (book : PlayBook) → is_play_free book.state ≡ false → Quiet book (cond {A = PlayBook} b (finished (cond closed Free Setup) book) book)
quiet_over true closed book h = record { free = λ e. cc; volume = refl }
quiet_over false closed book h = record { free = λ e. e; volume = refl }

quiet_settled : (state : PlayState) (rate : Rate) (passed : ℤ) (book : PlayBook) → Quiet (record book { state = state }) (play_settled rate passed (record book { state = state }))
quiet_settled (Draining closed) rate passed book =
    let draining : PlayBook = record book { state = Draining closed } in
    quiet_over (is_over rate passed draining) closed draining refl
quiet_settled state rate passed book = record { free = λ e. e; volume = refl }

quiet_refilled : (state : PlayState) (rate : Rate) (mixed n : ℕ) (book : PlayBook) → Quiet (record book { state = state }) (refilled rate mixed n (record book { state = state }))
quiet_refilled Running rate mixed n book = record { free = λ e. e; volume = refl }
quiet_refilled state rate mixed n book = record { free = λ e. e; volume = refl }

quiet_mixing : (device : DeviceSeen) (mixed n : ℕ) (book : PlayBook) → Quiet book (mixing device mixed n book)
quiet_mixing device mixed zero book = record { free = λ e. e; volume = refl }
quiet_mixing device mixed (suc n) book = quiet_refilled book.state (play_rate_at device book) mixed (suc n) book

quiet_passing : (device : DeviceSeen) (handed n : ℕ) (book : PlayBook) → Quiet book (play_passing device handed n book)
quiet_passing device handed n book =
    let between : PlayBook = mixing device (mixed_for device handed) (mixed_by device handed n) book in
    let first = quiet_mixing device (mixed_for device handed) (mixed_by device handed n) book in
    let last = quiet_settled between.state (play_rate_at device between) (passed_for device (handed + n)) between in
    record { free = λ e. last.free (first.free e); volume = last.volume ∙ first.volume }

-- an interrupt sets no gain
gains-kept : (device : DeviceSeen) (pool : Pool) (story : Story) (n slot : ℕ)
    → (told device pool story (Intr n)).gains slot ≡ story.gains slot
gains-kept device pool story n slot =
    let old : PlayBook = play_at device story.desk slot in
    let new : PlayBook = play_at device (told device pool story (Intr n)).desk slot in
    let q : Quiet old new = subst (Quiet old) (sym (play_at-passing device story.desk n slot)) (quiet_passing device story.desk.handed n old) in
    ap (λ (b : Bool). cond b (record { position = story.desk.mixed; gain = book_gain new } ∷ story.gains slot)
    (story.gains slot))
    (quiet (is_play_free old.state) (is_play_free new.state) old.volume new.volume q.free q.volume)

-- nor does it set that of a mapped slot
record QuietMap (old new : MapBook) : Type 0 where
  free : is_unheld old.state ≡ true → is_unheld new.state ≡ true
  volume : new.volume ≡ old.volume

quiet_taken : (state : RunState) (rate : Rate) (n : ℕ) (book : MapBook) → QuietMap (record book { state = state }) (map_refilled_in rate state n (record book { state = state }))
quiet_taken run_states.Running rate n book = record { free = λ e. e; volume = refl }
quiet_taken state rate n book = record { free = λ e. e; volume = refl }

quiet_map : (device : DeviceSeen) (n : ℕ) (book : MapBook) → QuietMap book (map_mixing device n book)
quiet_map device zero book = record { free = λ e. e; volume = refl }
quiet_map device (suc n) book = quiet_taken book.state (map_rate_at device book) (suc n) book

map_gains-kept : (device : DeviceSeen) (pool : Pool) (story : Story) (n slot : ℕ)
    → (told device pool story (Intr n)).map_gains slot ≡ story.map_gains slot
map_gains-kept device pool story n slot =
    let old : MapBook = map_at device story.desk slot in
    let new : MapBook = map_at device (told device pool story (Intr n)).desk slot in
    let q : QuietMap old new = subst (QuietMap old) (sym (map_at-passing device story.desk n slot)) (quiet_map device (mixed_by device story.desk.handed n) old) in
    ap (λ (b : Bool). cond b (record { position = story.desk.mixed; gain = map_gain new } ∷ story.map_gains slot)
    (story.map_gains slot))
    (quiet (is_unheld old.state) (is_unheld new.state) old.volume new.volume q.free q.volume)

-- what the slots give after an interrupt of n frames
told_play : (device : DeviceSeen) (pool : Pool) (story : Story) (n slot position : ℕ) → let new : Story = told device pool story (Intr n) in
    sounding device (last_gain (new.gains slot) position) (new.runs slot) position
    ≡ sounding device (last_gain (story.gains slot) position) (next_play device story (mixed_by device story.desk.handed n) slot) position
told_play device pool story n slot position =
    let old : PlayBook = play_at device story.desk slot in
    let new : PlayBook = play_at device (told device pool story (Intr n)).desk slot in
    let runs : List Run = next_play device story (mixed_by device story.desk.handed n) slot in
    ap (λ (gains : List GainSet). sounding device (last_gain gains position)
    (marking story.desk.mixed (Intr n) old new runs) position) (gains-kept device pool story n slot)
    ∙ sounding-marking device (last_gain (story.gains slot) position) story.desk.mixed (Intr n) old new runs position

told_map : (device : DeviceSeen) (pool : Pool) (story : Story) (n slot position : ℕ) → let new : Story = told device pool story (Intr n) in
    sounding device (last_gain (new.map_gains slot) position) (new.map_runs slot) position
    ≡ sounding device (last_gain (story.map_gains slot) position) (next_map device story (mixed_by device story.desk.handed n) slot) position
told_map device pool story n slot position =
    let old : MapBook = map_at device story.desk slot in
    let new : MapBook = map_at device (told device pool story (Intr n)).desk slot in
    let runs : List Run = next_map device story (mixed_by device story.desk.handed n) slot in
    ap (λ (gains : List GainSet). sounding device (last_gain gains position)
    (map_marking story.desk.mixed old new runs) position) (map_gains-kept device pool story n slot)
    ∙ sounding-map_marking device (last_gain (story.map_gains slot) position) story.desk.mixed old new runs position

told_table : (device : DeviceSeen) (pool : Pool) (story : Story) (n slot position : ℕ)
    → table_of device (told device pool story (Intr n)) slot position
    ≡ next_sounds device story (mixed_by device story.desk.handed n) slot position
told_table device pool story n slot position =
    let new : Story = told device pool story (Intr n) in
    let q : ℕ = mixed_by device story.desk.handed n in
    let at : ℕ = slot - play_slots device in
    elim (nat_lt slot (play_slots device)) as (λ (b : Bool).
    sounding device (last_gain (cond b (new.gains slot) (new.map_gains at)) position) (cond b (new.runs slot) (new.map_runs at)) position
    ≡ sounding device (last_gain (cond b (story.gains slot) (story.map_gains at)) position) (cond b (next_play device story q slot) (next_map device story q at)) position) [
      | true ↦ told_play device pool story n slot position
      | false ↦ told_map device pool story n at position
    ]

-- they are frames of the mix
pub told-frames : (device : DeviceSeen) (pool : Pool) (story : Story) (n : ℕ) → StoryIsValid device story
    → (slot position : ℕ)
    → IfSome (table_of device (told device pool story (Intr n)) slot position) (IsMixedFrame device)
told-frames device pool story n v slot position =
    subst (λ given. IfSome given (IsMixedFrame device)) (sym (told_table device pool story n slot position))
    (sounds_frames device story (mixed_by device story.desk.handed n) v slot position)

-- the block that an interrupt of n frames mixes, from the mixer device, the books and the bytes of a story
abbrev pub story_block : DeviceSeen → Story → ℕ → List ℤ
story_block device story n =
    let q : ℕ = mixed_by device story.desk.handed n in
    let mixer : Levels = story.desk.mixer in
    faded (mix_settings device).layout (master_gain mixer)
    (mapped_onto device q (map_gains mixer (play_slots device)) story.desk.mapped (map_bytes_counted device story) story.areas (map_slots device)
    (block_of device q (slot_gain mixer) story.desk.play (bytes_counted device story) (play_slots device)))

-- it is the mix of its positions
pub block-mixed : (device : DeviceSeen) (pool : Pool) (story : Story) (n : ℕ) → StoryIsValid device story
    → story_block device story n
    ≡ flat_map (mix_at device (told device pool story (Intr n)).faders (table_of device (told device pool story (Intr n))))
    (range_with_len story.desk.mixed (mixed_by device story.desk.handed n))
block-mixed device pool story n v =
    let slots : ℕ = mixed_slots device in
    let q : ℕ = mixed_by device story.desk.handed n in
    let mixer : Levels = story.desk.mixer in
    let layout : Layout = (mix_settings device).layout in
    let position : ℕ = story.desk.mixed in
    let now : Table = table_of device (told device pool story (Intr n)) in
    let next : Table = next_table device story q in
    ap (faded layout (master_gain mixer))
    (fold-back device story q (map_slots device) v (block_of device q (slot_gain mixer) story.desk.play (bytes_counted device story) (play_slots device)) (fold-front device story q (play_slots device) (omega arith) v)
    ∙ flat_map-range-same (front_mix device story q slots) (λ k. sum_at device (mixer_table device mixer now) (position + k)) 0 q
    (λ k l. sym (mix_of-same (bits_of (mix_settings device).format) (silence_in (mix_settings device)) (mixer_table device mixer now) next slots
    (position + (0 + k)) (λ slot. ap (slot_faded device story slot) (told_table device pool story n slot (position + (0 + k)))))))
    ∙ sums-faded device pool story n q now v (told-frames device pool story n v)
