-- What one slot adds to the block of an interrupt, from the bytes of its run.
use Rattle.std.proofs.Common.{◌≡◌, ℕ, zero, suc, ◌+◌, ◌*◌, ◌<◌, true, List, [], ◌∷◌, ◌++◌, map, take, drop, Option, Some, inl, inr, ℤ, refl, sym, ap, ◌∙◌, arith, add-zero}
use Rattle.std.specs.Prelude.{option_map}
use Rattle.std.specs.List.{range_with_len, flat_map}
use Rattle.std.proofs.lemmas.Bool.{cases_lt}
use Rattle.pcm_format.specs.declared.layout.Layout.{Layout}
use Rattle.pcm_format.specs.declared.settings.Settings.{Settings}
use Rattle.pcm_format.specs.Formats.{bits_of}
use Rattle.pcm_format.specs.Layouts.{channels_of}
use Rattle.pcm_format.specs.Frames.{Frame, frames}
use Rattle.pcm_format.proofs.Ranges.{flat_map-range-shift}
use Rattle.pcm_feeder.specs.declared.stage.Gain.{Gain}
use Rattle.pcm_feeder.specs.Layouts.{at_gain}
use Rattle.pcm_feeder.specs.Limits.{IsRate}
use Rattle.pcm_mix.specs.Mix.{mixed}
use Rattle.pcm_feeder.specs.Fades.{faded}
use Rattle.pcm_feeder.proofs.FadedFrames.{faded-joined, faded-nothing, length-at_gain}
use Rattle.pcm_desk.specs.declared.play_book.PlayBook.{PlayBook}
use Rattle.pcm_desk.specs.Device.{DeviceSeen, IsDevice, mix_settings}
use Rattle.pcm_desk.specs.PlayBooks.{giving, is_started}
use Rattle.pcm_desk.specs.Channels.{play_rate_at}
use Rattle.pcm_desk.proofs.PlaySafe.{allowed-started}
use Rattle.pcm_sound.specs.Gains.{book_gain}
use Rattle.pcm_sound.specs.Given.{given_frame, given_samples}
use Rattle.pcm_sound.specs.Runs.{Run, run_frames, sounding, playing, newest_bytes}
use Rattle.pcm_sound.specs.Mix.{adding}
use Rattle.pcm_sound.specs.Added.{turned}
use Rattle.pcm_sound.specs.Valid.{SlotIsValid}
use Rattle.pcm_sound.proofs.Sounding.{sounding-playing_given, sounding-playing_none}
use Rattle.pcm_sound.proofs.DeviceLists.{IsMixedFrame, length-given_frame}
use Rattle.pcm_sound.proofs.Blocks.{adding-block}

flat_map-elements : {X : Type 0} (f : ℕ → List X) (xs : List ℕ) → flat_map (λ x. x) (map f xs) ≡ flat_map f xs
flat_map-elements f [] = refl
flat_map-elements f (x ∷ xs) = ap (λ ys. f x ++ ys) (flat_map-elements f xs)

-- frames that a client's bytes give, from one on, joined
pub given_samples-joined : (device : DeviceSeen) (gain : Gain) (settings : Settings) (bytes : List ℕ) (from count : ℕ)
    → flat_map (λ k. given_frame device settings (frames settings bytes) (from + k) gain) (range_with_len 0 count) ≡ given_samples device gain settings bytes from count
given_samples-joined device gain settings bytes from count =
    let given : ℕ → Frame = λ k. given_frame device settings (frames settings bytes) k gain in
    flat_map-range-shift given from 0 count
    ∙ ap (λ start. flat_map given (range_with_len start count)) (add-zero from)
    ∙ sym (flat_map-elements given (range_with_len from count))

-- and at the gain of their slot
pub given_samples-faded : (device : DeviceSeen) (slot_gain gain : Gain) (settings : Settings) (bytes : List ℕ) (from count : ℕ) → IsDevice device → IsRate settings.rate → let layout : Layout = (mix_settings device).layout in
    flat_map (λ k. at_gain layout slot_gain (given_frame device settings (frames settings bytes) (from + k) gain)) (range_with_len 0 count) ≡ faded layout slot_gain (given_samples device gain settings bytes from count)
given_samples-faded device slot_gain gain settings bytes from count d s =
    let layout : Layout = (mix_settings device).layout in
    let given : ℕ → Frame = λ k. given_frame device settings (frames settings bytes) (from + k) gain in
    sym (faded-joined layout slot_gain given 0 count (λ k l. length-given_frame device settings bytes (from + (0 + k)) gain d s))
    ∙ ap (faded layout slot_gain) (given_samples-joined device gain settings bytes from count)

-- the block of an interrupt with one slot more, which has the gain of its book's volume at all of its positions, and one gain of its fader
abbrev pub SlotTurn : DeviceSeen → ℕ → ℕ → PlayBook → List Run → (ℕ → Gain) → (ℕ → Gain) → Gain → List ℕ → (ℕ → Frame) → Type 0
SlotTurn device position n book runs gains faders slot_gain bytes sum =
    flat_map (λ k. adding (bits_of (mix_settings device).format) (sum k)
    (option_map (at_gain (mix_settings device).layout (faders k)) (sounding device (gains k) (playing device position n book runs) (position + k)))) (range_with_len 0 n)
    ≡ turned device n slot_gain book bytes (flat_map sum (range_with_len 0 n))

turn-silent : (device : DeviceSeen) (position n : ℕ) (book : PlayBook) (runs : List Run) (gains faders : ℕ → Gain) (slot_gain : Gain) (bytes : List ℕ) (sum : ℕ → Frame) → giving (play_rate_at device book) n book ≡ 0 → SlotIsValid device position book runs
    → ((k : ℕ) → k < n → IsMixedFrame device (sum k)) → SlotTurn device position n book runs gains faders slot_gain bytes sum
turn-silent device position n book runs gains faders slot_gain bytes sum none v s =
    let size : ℕ = channels_of (mix_settings device).layout in
    let bits : ℕ = bits_of (mix_settings device).format in
    let at : ℕ → Frame → Frame = λ k. at_gain (mix_settings device).layout (faders k) in
    let given : ℕ → Option Frame = λ k. option_map (at k) (sounding device (gains k) (playing device position n book runs) (position + k)) in
    let block = adding-block bits size 0 n sum given (λ k. []) (omega arith) s (λ k l. absurd (omega arith)) (λ k l. absurd (omega arith))
    (λ k l h. ap (option_map (at k)) (sounding-playing_none device (gains k) position n k book runs v.pieces (omega arith))) in
    rw none (block ∙ ap (λ (xs : List ℤ). mixed bits (take (0 * size) (flat_map sum (range_with_len 0 n))) xs ++ drop (0 * size) (flat_map sum (range_with_len 0 n))) (sym (faded-nothing (mix_settings device).layout slot_gain)))

turn-started : (device : DeviceSeen) (position n : ℕ) (book : PlayBook) (run : Run) (runs : List Run) (gains faders : ℕ → Gain) (slot_gain : Gain) (bytes : List ℕ) (sum : ℕ → Frame) → IsDevice device → is_started book.state ≡ true
    → SlotIsValid device position book (run ∷ runs) → bytes ≡ run.bytes → ((k : ℕ) → k < n → gains k ≡ book_gain book) → ((k : ℕ) → k < n → faders k ≡ slot_gain)
    → ((k : ℕ) → k < n → IsMixedFrame device (sum k)) → SlotTurn device position n book (run ∷ runs) gains faders slot_gain bytes sum
turn-started device position n book run runs gains faders slot_gain bytes sum d started v is one loud s =
    let layout : Layout = (mix_settings device).layout in
    let size : ℕ = channels_of layout in
    let bits : ℕ = bits_of (mix_settings device).format in
    let count : ℕ = giving (play_rate_at device book) n book in
    let newest = v.newest (v.started started) in
    let at : ℕ → Option Frame → Option Frame = λ k. option_map (at_gain layout (faders k)) in
    let given : ℕ → Option Frame = λ k. at k (sounding device (gains k) (playing device position n book (run ∷ runs)) (position + k)) in
    let frame : ℕ → Frame = λ k. given_frame device book.opening.settings (frames book.opening.settings bytes) (book.given + k) (book_gain book) in
    let add : ℕ → Frame = λ k. at_gain layout slot_gain (frame k) in
    let add_is : (k : ℕ) → k < count → given k ≡ Some (add k) = λ k l.
    ap (at k) (sounding-playing_given device (gains k) position n k book run runs started l)
    ∙ ap (λ (g : Gain). at k (Some (given_frame device run.settings (run_frames run) (book.given + k) g))) (one k (omega arith))
    ∙ ap (λ (settings : Settings). at k (Some (given_frame device settings (frames settings run.bytes) (book.given + k) (book_gain book)))) newest.0
    ∙ ap (λ (b : List ℕ). at k (Some (given_frame device book.opening.settings (frames book.opening.settings b) (book.given + k) (book_gain book)))) (sym is)
    ∙ ap (λ (g : Gain). Some (at_gain layout g (frame k))) (loud k (omega arith)) in
    let block = adding-block bits size count n sum given add (omega arith) s
    (λ k l. length-at_gain layout slot_gain (frame k) (length-given_frame device book.opening.settings bytes (book.given + k) (book_gain book) d v.settings))
    add_is
    (λ k l h. ap (at k) (sounding-playing_none device (gains k) position n k book (run ∷ runs) v.pieces l)) in
    block
    ∙ ap (λ (xs : List ℤ). mixed bits (take (count * size) (flat_map sum (range_with_len 0 n))) xs ++ drop (count * size) (flat_map sum (range_with_len 0 n)))
    (given_samples-faded device slot_gain (book_gain book) book.opening.settings bytes book.given count d v.settings)

turn-with : (device : DeviceSeen) (position n : ℕ) (book : PlayBook) (runs : List Run) (gains faders : ℕ → Gain) (slot_gain : Gain) (bytes : List ℕ) (sum : ℕ → Frame) → IsDevice device → is_started book.state ≡ true
    → SlotIsValid device position book runs → (0 < book.written → bytes ≡ newest_bytes runs) → ((k : ℕ) → k < n → gains k ≡ book_gain book) → ((k : ℕ) → k < n → faders k ≡ slot_gain)
    → ((k : ℕ) → k < n → IsMixedFrame device (sum k)) → SlotTurn device position n book runs gains faders slot_gain bytes sum
turn-with device position n book [] gains faders slot_gain bytes sum d started v is one loud s = absurd (v.newest (v.started started))
turn-with device position n book (run ∷ runs) gains faders slot_gain bytes sum d started v is one loud s =
    turn-started device position n book run runs gains faders slot_gain bytes sum d started v (is (v.started started)) one loud s

-- What a slot adds to the block of an interrupt is what its plan makes of the bytes of its run, at the gain of its fader, and no more.
pub turn : (device : DeviceSeen) (position n : ℕ) (book : PlayBook) (runs : List Run) (gains faders : ℕ → Gain) (slot_gain : Gain) (bytes : List ℕ) (sum : ℕ → Frame) → IsDevice device
    → SlotIsValid device position book runs → (0 < book.written → bytes ≡ newest_bytes runs) → ((k : ℕ) → k < n → gains k ≡ book_gain book) → ((k : ℕ) → k < n → faders k ≡ slot_gain)
    → ((k : ℕ) → k < n → IsMixedFrame device (sum k)) → SlotTurn device position n book runs gains faders slot_gain bytes sum
turn device position n book runs gains faders slot_gain bytes sum d v is one loud s =
    elim (cases_lt 0 (giving (play_rate_at device book) n book)) [
      | inl some ↦ turn-with device position n book runs gains faders slot_gain bytes sum d (allowed-started book.state (play_rate_at device book) book (omega arith)) v is one loud s
      | inr none ↦ turn-silent device position n book runs gains faders slot_gain bytes sum (omega arith) v s
    ]

-- an interrupt that mixes nothing adds nothing
onto-nothing : (bits k : ℕ) (add : List ℤ) → mixed bits (take k []) add ++ drop k [] ≡ []
onto-nothing bits zero add = refl
onto-nothing bits (suc k) add = refl

pub turned-nothing : (device : DeviceSeen) (slot_gain : Gain) (book : PlayBook) (bytes : List ℕ) → turned device 0 slot_gain book bytes [] ≡ []
turned-nothing device slot_gain book bytes =
    let count : ℕ = giving (play_rate_at device book) 0 book in
    onto-nothing (bits_of (mix_settings device).format) (count * channels_of (mix_settings device).layout)
    (faded (mix_settings device).layout slot_gain (given_samples device (book_gain book) book.opening.settings bytes book.given count))
