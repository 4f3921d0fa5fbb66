-- What the runs of a slot give at a position, while the slot's story goes on.
use Rattle.std.proofs.Common.{◌≡◌, ℕ, ◌+◌, ◌-◌, ◌<◌, ◌≤◌, Bool, true, false, cond, eqb, List, [], ◌∷◌, ◌++◌, length, map, take, Option, Some, None, refl, sym, ap, ◌∙◌, subst, arith, All, length-append, zero-add}
use Rattle.std.specs.Prelude.{find, ◌&&◌, nat_lt, nat_le}
use Rattle.std.specs.List.{range_with_len}
use Rattle.std.proofs.lemmas.List.{take-append-le}
use Rattle.std.proofs.lemmas.List.Elements.{All-head, All-tail}
use Rattle.std.proofs.lemmas.Bool.Decides.{nat_tests}
use Rattle.pcm_format.specs.declared.settings.Settings.{Settings}
use Rattle.pcm_oss.specs.declared.event.Event.{Event}
use Rattle.pcm_format.specs.Frames.{Frame, frame_at, frames, whole_frames}
use Rattle.pcm_format.proofs.Ranges.{map-range-same, map-range-add}
use Rattle.pcm_format.proofs.Streams.{frame_at-append, length-frames}
use Rattle.pcm_format.proofs.Whole.{frame_fits, whole_frames-mono}
use Rattle.pcm_rate.specs.Rates.{can}
use Rattle.pcm_feeder.specs.declared.stage.Gain.{Gain}
use Rattle.pcm_feeder.specs.Limits.{IsRate}
use Rattle.pcm_plan.proofs.Through.{out-append}
use Rattle.pcm_desk.proofs.Ratios.{plan-between-fits}
use Rattle.pcm_desk.specs.declared.play_book.PlayBook.{PlayBook}
use Rattle.pcm_desk.specs.Device.{DeviceSeen, IsDevice, device_filters, play_plan_between, play_rate_between}
use Rattle.pcm_desk.specs.PlayBooks.{giving, is_draining, is_started}
use Rattle.pcm_desk.specs.Channels.{play_rate_at}
use Rattle.pcm_sound.specs.Given.{given_frame}
use Rattle.pcm_sound.specs.Gains.{GainSet, Loudness, fader_after, gains_after, is_same_gain, last_gain, loudness_gain, sets_volume}
use Rattle.pcm_sound.specs.Runs.{Piece, Run, begun_run, piece_of, taking, playing, marking, covers, run_frames, piece_frame, first_of, sounding}
use Rattle.pcm_sound.specs.Valid.{PieceIsValid, RunIsValid, SlotIsValid, HasRate, frames_given, given_in}

-- a list made from a function, in two parts
range-split : {X : Type 0} (g : ℕ → X) (n m : ℕ) → n ≤ m → map g (range_with_len 0 m) ≡ map g (range_with_len 0 n) ++ map g (range_with_len n (m - n))
range-split g n m h =
    let split : m ≡ n + (m - n) = omega arith in
    ap (λ k. map g (range_with_len 0 k)) split
    ∙ map-range-add g 0 n (m - n)
    ∙ ap (λ start. map g (range_with_len 0 n) ++ map g (range_with_len start (m - n))) (zero-add n)

-- the frames that more bytes complete
abbrev frames_added : Settings → List ℕ → List ℕ → List Frame
frames_added settings bytes more =
    let before : ℕ = whole_frames settings (length bytes) in
    map (frame_at settings (bytes ++ more)) (range_with_len before (whole_frames settings (length (bytes ++ more)) - before))

-- the whole frames stay once more bytes came
pub frames-append : (settings : Settings) (bytes more : List ℕ) → frames settings (bytes ++ more) ≡ frames settings bytes ++ frames_added settings bytes more
frames-append settings bytes more =
    let before : ℕ = whole_frames settings (length bytes) in
    range-split (frame_at settings (bytes ++ more)) before (whole_frames settings (length (bytes ++ more)))
    (whole_frames-mono settings (length bytes) (length (bytes ++ more)) (omega (arith, length-append bytes more)))
    ∙ ap (λ list. list ++ frames_added settings bytes more)
    (map-range-same (frame_at settings (bytes ++ more)) (frame_at settings bytes) before
    (λ k below. frame_at-append settings bytes more k (frame_fits settings (length bytes) k below)))

-- so more bytes after them leave the frames before them
pub frames-front : (settings : Settings) (bytes more : List ℕ) (n : ℕ) → n ≤ whole_frames settings (length bytes) → take n (frames settings (bytes ++ more)) ≡ take n (frames settings bytes)
frames-front settings bytes more n within =
    ap (take n) (frames-append settings bytes more) ∙ take-append-le n (frames settings bytes) (frames_added settings bytes more) (omega (arith, length-frames settings bytes))

-- what whole frames gave stays once more bytes came, where it was allowed without these
pub given_frame-append : (device : DeviceSeen) (gain : Gain) (settings : Settings) (bytes more : List ℕ) (k : ℕ) → IsDevice device → IsRate settings.rate
    → k < can (play_rate_between device settings) (whole_frames settings (length bytes))
    → given_frame device settings (frames settings (bytes ++ more)) k gain ≡ given_frame device settings (frames settings bytes) k gain
given_frame-append device gain settings bytes more k d s h =
    ap (λ (list : List Frame). given_frame device settings list k gain) (frames-append settings bytes more)
    ∙ out-append (play_plan_between device settings) (device_filters device) (frames settings bytes) (frames_added settings bytes more) k gain (plan-between-fits device settings d s)
    (subst (λ n. k < can (play_rate_between device settings) n) (sym (length-frames settings bytes)) h)

-- a piece of the past doesn't cover a position from now on
pub covers_not-past : (mixed most p : ℕ) (piece : Piece) → PieceIsValid mixed most piece → mixed ≤ p → covers p piece ≡ false
covers_not-past mixed most p piece v h = let past = v.past in grind (arith, nat_tests)

-- a piece from now on doesn't cover a position of the past
pub covers_not-ahead : (p : ℕ) (piece : Piece) → p < piece.position → covers p piece ≡ false
covers_not-ahead p piece h = grind (arith, nat_tests)

pub find-past : (mixed most p : ℕ) (pieces : List Piece) → All (PieceIsValid mixed most) pieces → mixed ≤ p → find (covers p) pieces ≡ None
find-past mixed most p [] v h = refl
find-past mixed most p (piece ∷ pieces) v h =
    rw (covers_not-past mixed most p piece (All-head (PieceIsValid mixed most) piece pieces v) h)
    (find-past mixed most p pieces (All-tail (PieceIsValid mixed most) piece pieces v) h)

-- all that a slot gave lies in the past
pub sounding-past : (device : DeviceSeen) (gain : Gain) (mixed p : ℕ) (runs : List Run) → All (RunIsValid device mixed) runs → mixed ≤ p → sounding device gain runs p ≡ None
sounding-past device gain mixed p [] v h = refl
sounding-past device gain mixed p (run ∷ runs) v h =
    rw (find-past mixed (given_in device run) p run.pieces (All-head (RunIsValid device mixed) run runs v) h)
    (sounding-past device gain mixed p runs (All-tail (RunIsValid device mixed) run runs v) h)

-- a covered place is one of a piece's frames
covered_index : (mixed most p : ℕ) (piece : Piece) → PieceIsValid mixed most piece → covers p piece ≡ true → piece.index + (p - piece.position) < most
covered_index mixed most p piece v e =
    let inside = v.inside in
    let here : piece.index + (p - piece.position) < piece.index + piece.count = grind (arith, nat_tests) in
    omega arith

-- what a run gives while more may come
abbrev IsAllowed : DeviceSeen → ℕ → Settings → List ℕ → Piece → Type 0
IsAllowed device mixed settings bytes = PieceIsValid mixed (can (play_rate_between device settings) (whole_frames settings (length bytes)))

-- what a run gave at a position stays once more bytes came
abbrev StaysAt : DeviceSeen → Gain → ℕ → Settings → List ℕ → List ℕ → Option Piece → Type 0
StaysAt device gain p settings bytes more found =
    piece_frame device gain settings (frames settings (bytes ++ more)) p found ≡ piece_frame device gain settings (frames settings bytes) p found

piece_frame-append_at : (device : DeviceSeen) (gain : Gain) (mixed p : ℕ) (settings : Settings) (bytes more : List ℕ) (piece : Piece) (found : Option Piece) (b : Bool)
    → IsDevice device → IsRate settings.rate → covers p piece ≡ b → IsAllowed device mixed settings bytes piece
    → StaysAt device gain p settings bytes more found → StaysAt device gain p settings bytes more (cond b (Some piece) found)
piece_frame-append_at device gain mixed p settings bytes more piece found true d s e v same =
    ap (λ (frame : Frame). Some frame)
    (given_frame-append device gain settings bytes more (piece.index + (p - piece.position)) d s
    (covered_index mixed (can (play_rate_between device settings) (whole_frames settings (length bytes))) p piece v e))
piece_frame-append_at device gain mixed p settings bytes more piece found false d s e v same = same

pub piece_frame-append : (device : DeviceSeen) (gain : Gain) (mixed p : ℕ) (settings : Settings) (bytes more : List ℕ) (pieces : List Piece)
    → IsDevice device → IsRate settings.rate → All (IsAllowed device mixed settings bytes) pieces → StaysAt device gain p settings bytes more (find (covers p) pieces)
piece_frame-append device gain mixed p settings bytes more [] d s v = refl
piece_frame-append device gain mixed p settings bytes more (piece ∷ pieces) d s v =
    piece_frame-append_at device gain mixed p settings bytes more piece (find (covers p) pieces) (covers p piece) d s refl
    (All-head (IsAllowed device mixed settings bytes) piece pieces v)
    (piece_frame-append device gain mixed p settings bytes more pieces d s (All-tail (IsAllowed device mixed settings bytes) piece pieces v))

-- the pieces of a run that may still grow lie among the frames that its bytes allow
pub open-pieces : (device : DeviceSeen) (mixed : ℕ) (run : Run) → run.drained ≡ false → RunIsValid device mixed run → All (IsAllowed device mixed run.settings run.bytes) run.pieces
open-pieces device mixed run more v =
    subst (λ (drained : Bool). All (PieceIsValid mixed (frames_given (play_rate_between device run.settings) drained (whole_frames run.settings (length run.bytes)))) run.pieces) more v

sounding-taking_at : (b : Bool) (device : DeviceSeen) (gain : Gain) (mixed p byte : ℕ) (bytes : List ℕ) (book : PlayBook) (run : Run) (runs : List Run) → eqb book.written 0 ≡ b → IsDevice device
    → SlotIsValid device mixed book (run ∷ runs) → is_draining book.state ≡ false
    → sounding device gain (cond b (begun_run book (byte ∷ bytes) ∷ run ∷ runs) (record run { bytes = run.bytes ++ byte ∷ bytes } ∷ runs)) p ≡ sounding device gain (run ∷ runs) p
sounding-taking_at true device gain mixed p byte bytes book run runs e d v more = refl
sounding-taking_at false device gain mixed p byte bytes book run runs e d v more =
    let above : 0 < book.written = grind (arith, nat_tests) in
    let newest = v.newest above in
    ap (λ (given : Option Frame). first_of given (sounding device gain runs p))
    (piece_frame-append device gain mixed p run.settings run.bytes (byte ∷ bytes) run.pieces d (All-head HasRate run runs v.own)
    (open-pieces device mixed run (newest.2 ∙ more) (All-head (RunIsValid device mixed) run runs v.pieces)))

-- what a slot gave stays once more bytes came, which only come while its book doesn't drain
pub sounding-taking : (device : DeviceSeen) (gain : Gain) (mixed p : ℕ) (bytes : List ℕ) (book : PlayBook) (runs : List Run) → IsDevice device → SlotIsValid device mixed book runs
    → (0 < length bytes → is_draining book.state ≡ false)
    → sounding device gain (taking bytes book runs) p ≡ sounding device gain runs p
sounding-taking device gain mixed p [] book runs d v more = refl
sounding-taking device gain mixed p (byte ∷ bytes) book [] d v more = refl
sounding-taking device gain mixed p (byte ∷ bytes) book (run ∷ runs) d v more =
    sounding-taking_at (eqb book.written 0) device gain mixed p byte bytes book run runs refl d v (more (omega arith))

-- what a slot gave stays at the next interrupt
pub sounding-playing : (device : DeviceSeen) (gain : Gain) (position n p : ℕ) (book : PlayBook) (runs : List Run) → p < position
    → sounding device gain (playing device position n book runs) p ≡ sounding device gain runs p
sounding-playing device gain position n p book [] h = refl
sounding-playing device gain position n p book (run ∷ runs) h =
    elim (is_started book.state && nat_lt 0 n) as (λ (b : Bool). sounding device gain (cond b (record run { pieces = piece_of device position n book ∷ run.pieces } ∷ runs) (run ∷ runs)) p ≡ sounding device gain (run ∷ runs) p) [
      | true ↦ rw (covers_not-ahead p (piece_of device position n book) h) refl
      | false ↦ refl
    ]

-- how an event marks a run, beside its bytes and pieces, isn't heard
pub sounding-marking : (device : DeviceSeen) (gain : Gain) (position : ℕ) (event : Event) (old new : PlayBook) (runs : List Run) (p : ℕ)
    → sounding device gain (marking position event old new runs) p ≡ sounding device gain runs p
sounding-marking device gain position event old new [] p = refl
sounding-marking device gain position event old new (run ∷ runs) p = refl

-- what a started run gives at the positions of an interrupt
pub sounding-playing_given : (device : DeviceSeen) (gain : Gain) (position n k : ℕ) (book : PlayBook) (run : Run) (runs : List Run) → is_started book.state ≡ true → k < giving (play_rate_at device book) n book
    → sounding device gain (playing device position n book (run ∷ runs)) (position + k) ≡ Some (given_frame device run.settings (run_frames run) (book.given + k) gain)
sounding-playing_given device gain position n k book run runs started h =
    let piece : Piece = piece_of device position n book in
    let some : nat_lt 0 n ≡ true = grind (arith, nat_tests) in
    let here : covers (position + k) piece ≡ true = grind (arith, nat_tests) in
    let index : book.given + (position + k - position) ≡ book.given + k = omega arith in
    rw (started, some, here, index) refl

-- past its last frame a slot gives nothing at the positions of an interrupt
pub sounding-playing_none : (device : DeviceSeen) (gain : Gain) (position n k : ℕ) (book : PlayBook) (runs : List Run) → All (RunIsValid device position) runs → giving (play_rate_at device book) n book ≤ k
    → sounding device gain (playing device position n book runs) (position + k) ≡ None
sounding-playing_none device gain position n k book [] v h = refl
sounding-playing_none device gain position n k book (run ∷ runs) v h =
    let piece : Piece = piece_of device position n book in
    let not_here : covers (position + k) piece ≡ false = grind (arith, nat_tests) in
    elim (is_started book.state && nat_lt 0 n) as (λ (b : Bool). sounding device gain (cond b (record run { pieces = piece_of device position n book ∷ run.pieces } ∷ runs) (run ∷ runs)) (position + k) ≡ None) [
      | true ↦ rw (not_here) (sounding-past device gain position (position + k) (run ∷ runs) v (omega arith))
      | false ↦ sounding-past device gain position (position + k) (run ∷ runs) v (omega arith)
    ]

-- a gain that is set later doesn't count at a position of the past
pub last_gain-later : (position p : ℕ) (old new : Loudness) (gains : List GainSet) → p < position → last_gain (gains_after position old new gains) p ≡ last_gain gains p
last_gain-later position p old new gains h =
    let later : nat_le position p ≡ false = grind (arith, nat_tests) in
    elim (sets_volume old new) as (λ (b : Bool). last_gain (cond b (record { position = position; gain = loudness_gain new } ∷ gains) gains) p ≡ last_gain gains p) [
      | true ↦ rw later refl
      | false ↦ refl
    ]

-- nor does what a fader is set to later
pub fader-later : (position p : ℕ) (old new : Gain) (gains : List GainSet) → p < position → last_gain (fader_after position old new gains) p ≡ last_gain gains p
fader-later position p old new gains h =
    let later : nat_le position p ≡ false = grind (arith, nat_tests) in
    elim (is_same_gain old new) as (λ (b : Bool). last_gain (cond b gains (record { position = position; gain = new } ∷ gains)) p ≡ last_gain gains p) [
      | true ↦ refl
      | false ↦ rw later refl
    ]
