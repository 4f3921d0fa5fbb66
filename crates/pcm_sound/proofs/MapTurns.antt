-- What a mapped slot adds to the block of an interrupt, from what was taken of its area.
use Rattle.std.proofs.Common.{◌≡◌, ℕ, ◌+◌, ◌-◌, ◌*◌, ◌<◌, Bool, true, false, cond, List, [], ◌∷◌, ◌++◌, take, drop, Option, Some, ℤ, refl, sym, ap, ◌∙◌, arith}
use Rattle.std.specs.Prelude.{nat_lt, option_map, ◌&&◌}
use Rattle.std.specs.List.{range_with_len, flat_map}
use Rattle.std.proofs.lemmas.Bool.Decides.{nat_tests}
use Rattle.pcm_format.specs.declared.layout.Layout.{Layout}
use Rattle.pcm_format.specs.declared.settings.Settings.{Settings}
use Rattle.pcm_format.specs.Formats.{bits_of}
use Rattle.pcm_format.specs.Layouts.{channels_of}
use Rattle.pcm_format.specs.Frames.{Frame, frames}
use Rattle.pcm_feeder.specs.declared.stage.Gain.{Gain}
use Rattle.pcm_feeder.specs.Layouts.{at_gain}
use Rattle.pcm_mix.specs.Mix.{mixed}
use Rattle.pcm_feeder.specs.Fades.{faded}
use Rattle.pcm_feeder.proofs.FadedFrames.{faded-nothing, length-at_gain}
use Rattle.pcm_desk.specs.declared.map_book.MapBook.{MapBook}
use Rattle.pcm_desk.specs.Device.{DeviceSeen, IsDevice, mix_settings}
use Rattle.pcm_desk.specs.RunStates.{is_running}
use Rattle.pcm_sound.specs.Added.{map_giving, map_turned}
use Rattle.pcm_sound.specs.Gains.{map_gain}
use Rattle.pcm_sound.specs.Given.{given_frame, given_samples}
use Rattle.pcm_sound.specs.MapRuns.{map_piece, map_played, map_playing, area_taken}
use Rattle.pcm_sound.specs.Mix.{adding}
use Rattle.pcm_sound.specs.Runs.{Run, covers, newest_bytes, run_frames, sounding}
use Rattle.pcm_sound.specs.Valid.{MapIsValid}
use Rattle.pcm_sound.proofs.Blocks.{adding-block}
use Rattle.pcm_sound.proofs.DeviceLists.{IsMixedFrame, length-given_frame}
use Rattle.pcm_sound.proofs.Sounding.{sounding-past}
use Rattle.pcm_sound.proofs.Turns.{given_samples-faded}

-- the block of an interrupt with one mapped slot more, which has the gain of its book's volume at all of its positions, and one gain of its fader
abbrev pub MapTurn : DeviceSeen → ℕ → ℕ → MapBook → List Run → (ℕ → Gain) → (ℕ → Gain) → Gain → List ℕ → List ℕ → (ℕ → Frame) → Type 0
MapTurn device position n book runs gains faders slot_gain bytes area sum =
    flat_map (λ k. adding (bits_of (mix_settings device).format) (sum k)
    (option_map (at_gain (mix_settings device).layout (faders k)) (sounding device (gains k) (map_playing device position n book area runs) (position + k)))) (range_with_len 0 n)
    ≡ map_turned device n slot_gain book bytes area (flat_map sum (range_with_len 0 n))

-- a slot that hasn't started gives nothing
untouched : (device : DeviceSeen) (position n : ℕ) (book : MapBook) (area : List ℕ) (runs : List Run) → is_running book.state ≡ false → map_playing device position n book area runs ≡ runs
untouched device position n book area [] off = refl
untouched device position n book area (run ∷ runs) off = ap (λ (b : Bool). cond (b && nat_lt 0 n) (map_played device position n book area run ∷ runs) (run ∷ runs)) off

turn_idle : (device : DeviceSeen) (position n : ℕ) (book : MapBook) (runs : List Run) (gains faders : ℕ → Gain) (slot_gain : Gain) (bytes area : List ℕ) (sum : ℕ → Frame) → is_running book.state ≡ false → MapIsValid device position book runs
    → ((k : ℕ) → k < n → IsMixedFrame device (sum k)) → MapTurn device position n book runs gains faders slot_gain bytes area sum
turn_idle device position n book runs gains faders slot_gain bytes area sum off v s =
    let size : ℕ = channels_of (mix_settings device).layout in
    let bits : ℕ = bits_of (mix_settings device).format in
    let at : ℕ → Option Frame → Option Frame = λ k. option_map (at_gain (mix_settings device).layout (faders k)) in
    let given : ℕ → Option Frame = λ k. at k (sounding device (gains k) (map_playing device position n book area runs) (position + k)) in
    let block = adding-block bits size 0 n sum given (λ k. []) (omega arith) s (λ k l. absurd (omega arith)) (λ k l. absurd (omega arith))
    (λ k l h. ap (at k) (ap (λ (list : List Run). sounding device (gains k) list (position + k)) (untouched device position n book area runs off) ∙ sounding-past device (gains k) position (position + k) runs v.pieces (omega arith))) in
    let none : map_giving n book ≡ 0 = ap (λ (b : Bool). cond b n 0) off in
    rw none (block ∙ ap (λ (xs : List ℤ). mixed bits (take (0 * size) (flat_map sum (range_with_len 0 n))) xs ++ drop (0 * size) (flat_map sum (range_with_len 0 n))) (sym (faded-nothing (mix_settings device).layout slot_gain)))

-- what a run gives at the positions of an interrupt, with what it takes
given_at : (device : DeviceSeen) (gain : Gain) (position n k : ℕ) (book : MapBook) (area : List ℕ) (run : Run) (runs : List Run) → is_running book.state ≡ true → k < n
    → sounding device gain (map_playing device position n book area (run ∷ runs)) (position + k) ≡ Some (given_frame device run.settings (run_frames (map_played device position n book area run)) (book.given + k) gain)
given_at device gain position n k book area run runs on h =
    let some : nat_lt 0 n ≡ true = grind (arith, nat_tests) in
    let here : covers (position + k) (map_piece position n book) ≡ true = grind (arith, nat_tests) in
    let index : book.given + (position + k - position) ≡ book.given + k = omega arith in
    rw (on, some, here, index) refl

turn_running : (device : DeviceSeen) (position n : ℕ) (book : MapBook) (run : Run) (runs : List Run) (gains faders : ℕ → Gain) (slot_gain : Gain) (bytes area : List ℕ) (sum : ℕ → Frame) → IsDevice device → is_running book.state ≡ true
    → MapIsValid device position book (run ∷ runs) → bytes ≡ run.bytes → ((k : ℕ) → k < n → gains k ≡ map_gain book) → ((k : ℕ) → k < n → faders k ≡ slot_gain)
    → ((k : ℕ) → k < n → IsMixedFrame device (sum k)) → MapTurn device position n book (run ∷ runs) gains faders slot_gain bytes area sum
turn_running device position n book run runs gains faders slot_gain bytes area sum d on v is one loud s =
    let layout : Layout = (mix_settings device).layout in
    let size : ℕ = channels_of layout in
    let bits : ℕ = bits_of (mix_settings device).format in
    let settings : Settings = book.opening.settings in
    let all : List ℕ = bytes ++ area_taken device n book area in
    let newest = v.newest on in
    let at : ℕ → Option Frame → Option Frame = λ k. option_map (at_gain layout (faders k)) in
    let given : ℕ → Option Frame = λ k. at k (sounding device (gains k) (map_playing device position n book area (run ∷ runs)) (position + k)) in
    let frame : ℕ → Frame = λ k. given_frame device settings (frames settings all) (book.given + k) (map_gain book) in
    let add : ℕ → Frame = λ k. at_gain layout slot_gain (frame k) in
    let add_is : (k : ℕ) → k < n → given k ≡ Some (add k) = λ k l.
    ap (at k) (given_at device (gains k) position n k book area run runs on l)
    ∙ ap (λ (g : Gain). at k (Some (given_frame device run.settings (run_frames (map_played device position n book area run)) (book.given + k) g))) (one k l)
    ∙ ap (λ (own : Settings). at k (Some (given_frame device own (frames own (run.bytes ++ area_taken device n book area)) (book.given + k) (map_gain book)))) newest.0
    ∙ ap (λ (b : List ℕ). at k (Some (given_frame device settings (frames settings (b ++ area_taken device n book area)) (book.given + k) (map_gain book)))) (sym is)
    ∙ ap (λ (g : Gain). Some (at_gain layout g (frame k))) (loud k l) in
    let block = adding-block bits size n n sum given add (omega arith) s
    (λ k l. length-at_gain layout slot_gain (frame k) (length-given_frame device settings all (book.given + k) (map_gain book) d v.settings))
    add_is
    (λ k l h. absurd (omega arith)) in
    let count : map_giving n book ≡ n = ap (λ (b : Bool). cond b n 0) on in
    block
    ∙ ap (λ (xs : List ℤ). mixed bits (take (n * size) (flat_map sum (range_with_len 0 n))) xs ++ drop (n * size) (flat_map sum (range_with_len 0 n)))
    (given_samples-faded device slot_gain (map_gain book) settings all book.given n d v.settings)
    ∙ ap (λ (c : ℕ). mixed bits (take (c * size) (flat_map sum (range_with_len 0 n))) (faded layout slot_gain (given_samples device (map_gain book) settings all book.given c)) ++ drop (c * size) (flat_map sum (range_with_len 0 n))) (sym count)

turn_with : (device : DeviceSeen) (position n : ℕ) (book : MapBook) (runs : List Run) (gains faders : ℕ → Gain) (slot_gain : Gain) (bytes area : List ℕ) (sum : ℕ → Frame) → IsDevice device → is_running book.state ≡ true
    → MapIsValid device position book runs → bytes ≡ newest_bytes runs → ((k : ℕ) → k < n → gains k ≡ map_gain book) → ((k : ℕ) → k < n → faders k ≡ slot_gain)
    → ((k : ℕ) → k < n → IsMixedFrame device (sum k)) → MapTurn device position n book runs gains faders slot_gain bytes area sum
turn_with device position n book [] gains faders slot_gain bytes area sum d on v is one loud s = absurd (v.newest on)
turn_with device position n book (run ∷ runs) gains faders slot_gain bytes area sum d on v is one loud s = turn_running device position n book run runs gains faders slot_gain bytes area sum d on v is one loud s

turn_by : (b : Bool) (device : DeviceSeen) (position n : ℕ) (book : MapBook) (runs : List Run) (gains faders : ℕ → Gain) (slot_gain : Gain) (bytes area : List ℕ) (sum : ℕ → Frame) → is_running book.state ≡ b → IsDevice device
    → MapIsValid device position book runs → (is_running book.state ≡ true → bytes ≡ newest_bytes runs) → ((k : ℕ) → k < n → gains k ≡ map_gain book) → ((k : ℕ) → k < n → faders k ≡ slot_gain)
    → ((k : ℕ) → k < n → IsMixedFrame device (sum k)) → MapTurn device position n book runs gains faders slot_gain bytes area sum
turn_by true device position n book runs gains faders slot_gain bytes area sum on d v is one loud s = turn_with device position n book runs gains faders slot_gain bytes area sum d on v (is on) one loud s
turn_by false device position n book runs gains faders slot_gain bytes area sum off d v is one loud s = turn_idle device position n book runs gains faders slot_gain bytes area sum off v s

-- What a mapped slot adds to the block of an interrupt is what its plan makes of the bytes that were taken of its area, at the gain of its fader, and no more.
pub map-turn : (device : DeviceSeen) (position n : ℕ) (book : MapBook) (runs : List Run) (gains faders : ℕ → Gain) (slot_gain : Gain) (bytes area : List ℕ) (sum : ℕ → Frame) → IsDevice device
    → MapIsValid device position book runs → (is_running book.state ≡ true → bytes ≡ newest_bytes runs) → ((k : ℕ) → k < n → gains k ≡ map_gain book) → ((k : ℕ) → k < n → faders k ≡ slot_gain)
    → ((k : ℕ) → k < n → IsMixedFrame device (sum k)) → MapTurn device position n book runs gains faders slot_gain bytes area sum
map-turn device position n book runs gains faders slot_gain bytes area sum d v is one loud s = turn_by (is_running book.state) device position n book runs gains faders slot_gain bytes area sum refl d v is one loud s
