-- A story keeps its mapped slots valid through every event that fits, and what they gave stays as it was.
use Rattle.std.proofs.Common.{◌≡◌, ℕ, suc, zero, ◌+◌, ◌<◌, Bool, true, false, cond, List, [], ◌∷◌, Option, Some, None, refl, sym, ap, ◌∙◌, subst, arith, Result, Ok, Err}
use Rattle.std.specs.Prelude.{find, not, nat_lt, ◌&&◌}
use Rattle.std.proofs.lemmas.List.Elements.{All-head, All-nil}
use Rattle.pcm_oss.specs.declared.event.Event.{Event}
use Rattle.pcm_oss.specs.declared.event.Event.TheVariants.{Open, Write, Poke, Read, Ioctl, Join, StartGroup, Close, Mixer, Intr}
use Rattle.pcm_oss.specs.declared.event.Way.{Way}
use Rattle.pcm_oss.specs.declared.event.Way.TheVariants.{Map}
use Rattle.pcm_oss.specs.declared.request.Request.{Request}
use Rattle.pcm_oss.specs.declared.request.Request.TheVariants.{SetTrigger}
use Rattle.pcm_oss.proofs.Limits.{usual-fragments}
use Rattle.pcm_wave.specs.declared.pool.Pool.{Pool}
use Rattle.pcm_feeder.specs.declared.stage.Gain.{Gain}
use Rattle.pcm_desk.specs.declared.device.Held.{Held}
use Rattle.pcm_desk.specs.declared.map_book.MapBook.{MapBook}
use Rattle.pcm_desk.specs.declared.run_state.RunState.{RunState}
use Rattle.pcm_desk.specs.declared.run_state.RunState.TheVariants.{Free, Setup, Running}
use Rattle.pcm_desk.specs.Device.{DeviceSeen, IsDevice, here_at}
use Rattle.pcm_desk.specs.RunStates.{is_running}
use Rattle.pcm_desk.specs.MapBooks.{map_refilled_in}
use Rattle.pcm_desk.specs.Channels.{map_mixing, map_rate_at, mixed_by, own_request, own_join, own_turn, Grouping, Mapped, Channel, channel_begun, member_refusal}
use Rattle.pcm_desk.specs.Desk.{Desk, after, map_at, map_unopened, grouping_at}
use Rattle.pcm_desk.specs.Events.{Fits, frames_taken}
use Rattle.pcm_desk.proofs.MapSafe.{map-safe-unstarted}
use Rattle.pcm_desk.proofs.Slots.{map_at-passing}
use Rattle.pcm_sound.specs.Runs.{Piece, Run, covers, first_of, piece_frame, run_frames, sounding}
use Rattle.pcm_sound.specs.MapRuns.{map_carrying, map_marking, map_piece, map_played, map_playing, map_stopped, mapped_run, area_taken}
use Rattle.pcm_sound.specs.Plain.{IsUnbroken}
use Rattle.pcm_sound.specs.Story.{Story}
use Rattle.pcm_sound.specs.Valid.{HasRate, MapIsValid, RunIsValid}
use Rattle.pcm_sound.proofs.MapSlots.{Keeps, keeps-asked, keeps-begun, keeps-closed, keeps-poked, keeps-same, map-mixed}
use Rattle.pcm_sound.proofs.Sounding.{covers_not-ahead, open-pieces, piece_frame-append}
use Rattle.pcm_desk.proofs.After.{channel-after, mapped_or}
use Rattle.pcm_desk.proofs.Channels.{channel_named}
use Rattle.pcm_oss.specs.declared.reply.Errno.{Errno}
use Rattle.pcm_desk.specs.declared.here.Here.{Here}

-- ---- what an event that mixes nothing leaves of the books

-- each mapped slot
abbrev pub KeepsMaps : DeviceSeen → Desk → Desk → Type 0
KeepsMaps device old new = (slot : ℕ) → Keeps device (map_at device old slot) (map_at device new slot)

-- a request, which may be refused to a member of a group
requested : (device : DeviceSeen) (here : Here) (request : Request) (refusal : Option Errno) (book : MapBook) → Keeps device book (mapped_or book (own_request device here request refusal (Mapped book)).book)
requested device here request None book = keeps-asked device request book
requested device here request (Some errno) book = keeps-same device book

joined : (device : DeviceSeen) (here : Here) (result : Result ℕ Errno) (book : MapBook) → Keeps device book (mapped_or book (own_join device here result (Mapped book)).book)
joined device here (Ok group) book = keeps-asked device (SetTrigger 0) book
joined device here (Err errno) book = keeps-same device book

-- the turn of a mapped channel
turn_keeps : (device : DeviceSeen) (pool : Pool) (handed : ℕ) (grouping : Grouping) (event : Event) (book : MapBook) → Fits device pool event → frames_taken event ≡ 0
    → Keeps device book (mapped_or book (own_turn device handed grouping event (Mapped book)).book)
turn_keeps device pool handed grouping (Open fd way settings) book fits none = keeps-same device book
turn_keeps device pool handed grouping (Write fd source at count) book fits none = keeps-same device book
turn_keeps device pool handed grouping (Poke fd offset at count) book fits none = keeps-poked device offset count book
turn_keeps device pool handed grouping (Read fd count) book fits none = keeps-same device book
turn_keeps device pool handed grouping (Ioctl fd request) book fits none = requested device (here_at device handed) request (member_refusal grouping.member request) book
turn_keeps device pool handed grouping (Join fd group) book fits none = joined device (here_at device handed) (grouping.joins group) book
turn_keeps device pool handed grouping (StartGroup fd group) book fits none = keeps-same device book
turn_keeps device pool handed grouping (Close fd) book fits none = keeps-closed device book
turn_keeps device pool handed grouping (Mixer request) book fits none = keeps-same device book
turn_keeps device pool handed grouping (Intr n) book fits none = absurd (let some = fits.0 in omega arith)

-- any event but an interrupt
pub keeps-maps : (device : DeviceSeen) (pool : Pool) (desk : Desk) (event : Event) → Fits device pool event → frames_taken event ≡ 0 → KeepsMaps device desk (after device desk event).desk
keeps-maps device pool desk event fits none slot =
    channel-after device desk event mine (λ (c : Channel). Keeps device old (mapped_or old c)) (keeps-same device old) (turn_keeps device pool desk.handed (grouping_at device desk mine) event old fits none)
    (λ fd way settings is same free. subst (λ (w : Way). Keeps device old (mapped_or old (channel_begun w settings))) same (keeps-begun device old settings (subst (Fits device pool) is fits).1))
    (λ fd group is member. keeps-same device old)
  where
    mine : Held
    mine = channel_named Map slot

    old : MapBook
    old = map_at device desk slot

-- ---- the slots

-- an interrupt starts no run and stops none
runs_on : (state : RunState) (device : DeviceSeen) (n : ℕ) (book : MapBook) → is_running (map_refilled_in (map_rate_at device book) state n (record book { state = state })).state ≡ is_running state
runs_on Free device n book = refl
runs_on Setup device n book = refl
runs_on Running device n book = refl

pub map_mixing-runs : (device : DeviceSeen) (n : ℕ) (book : MapBook) → is_running (map_mixing device n book).state ≡ is_running book.state
map_mixing-runs device zero book = refl
map_mixing-runs device (suc n) book = runs_on book.state device (suc n) book

-- so it marks no run besides
pub map_marking-same : (position : ℕ) (old new : MapBook) (runs : List Run) → is_running new.state ≡ is_running old.state → map_marking position old new runs ≡ runs
map_marking-same position old new runs same = at (is_running old.state) (is_running new.state) same
  where
    at : (was is : Bool) → is ≡ was → cond (not was && is) (mapped_run position new ∷ runs) (cond (was && not is) (map_stopped position runs) runs) ≡ runs
    at true true e = refl
    at false false e = refl
    at true false e = cc
    at false true e = cc

-- an event that mixes nothing takes nothing of a slot
pub map-untaken : (device : DeviceSeen) (pool : Pool) (desk : Desk) (event : Event) (book : MapBook) (area : List ℕ) (runs : List Run) → Fits device pool event → frames_taken event ≡ 0 → map_carrying device desk event book area runs ≡ runs
map-untaken device pool desk (Open fd way settings) book area runs fits none = refl
map-untaken device pool desk (Write fd source at count) book area runs fits none = refl
map-untaken device pool desk (Poke fd offset at count) book area runs fits none = refl
map-untaken device pool desk (Read fd count) book area runs fits none = refl
map-untaken device pool desk (Ioctl fd request) book area runs fits none = refl
map-untaken device pool desk (Join fd group) book area runs fits none = refl
map-untaken device pool desk (StartGroup fd group) book area runs fits none = refl
map-untaken device pool desk (Close fd) book area runs fits none = refl
map-untaken device pool desk (Mixer request) book area runs fits none = refl
map-untaken device pool desk (Intr n) book area runs fits none = absurd (let some = fits.0 in omega arith)

-- what an interrupt takes of a slot
abbrev pub map_taken_at : DeviceSeen → Story → ℕ → ℕ → List Run
map_taken_at device story n slot = map_playing device story.desk.mixed (mixed_by device story.desk.handed n) (map_at device story.desk slot) (story.areas slot) (story.map_runs slot)

-- its book and its runs after an interrupt
pub map-interrupted : (device : DeviceSeen) (story : Story) (n slot : ℕ) → IsDevice device → MapIsValid device story.desk.mixed (map_at device story.desk slot) (story.map_runs slot)
    → let new : MapBook = map_at device (after device story.desk (Intr n)).desk slot in
    MapIsValid device (story.desk.mixed + mixed_by device story.desk.handed n) new (map_marking story.desk.mixed (map_at device story.desk slot) new (map_taken_at device story n slot))
map-interrupted device story n slot d v =
    let q : ℕ = mixed_by device story.desk.handed n in
    let old : MapBook = map_at device story.desk slot in
    let new : MapBook = map_at device (after device story.desk (Intr n)).desk slot in
    let is : new ≡ map_mixing device q old = map_at-passing device story.desk n slot in
    let runs : List Run = map_taken_at device story n slot in
    subst (MapIsValid device (story.desk.mixed + q) new) (sym (map_marking-same story.desk.mixed old new runs (ap (λ (book : MapBook). is_running book.state) is ∙ map_mixing-runs device q old)))
    (subst (λ (book : MapBook). MapIsValid device (story.desk.mixed + q) book runs) (sym is) (map-mixed device story.desk.mixed q old (story.areas slot) (story.map_runs slot) d v))

-- before the first event
pub map-valid-start : (device : DeviceSeen) → IsDevice device → MapIsValid device 0 (map_unopened device) []
map-valid-start device d = record {
  settings = d.mix_rate;
  safe = map-safe-unstarted (map_rate_at device (map_unopened device)) (map_unopened device) refl refl refl usual-fragments refl;
  newest = λ e. cc;
  pieces = All-nil (RunIsValid device 0);
  own = All-nil HasRate;
  placed = tt;
  whole = All-nil IsUnbroken;
}

-- ---- what was given stays

-- the start and the end of a run aren't heard in the past
pub sounding-map_marking : (device : DeviceSeen) (gain : Gain) (position : ℕ) (old new : MapBook) (runs : List Run) (p : ℕ) → sounding device gain (map_marking position old new runs) p ≡ sounding device gain runs p
sounding-map_marking device gain position old new runs p = at (not (is_running old.state) && is_running new.state) (is_running old.state && not (is_running new.state)) runs
  where
    at : (starts ends : Bool) (runs : List Run) → sounding device gain (cond starts (mapped_run position new ∷ runs) (cond ends (map_stopped position runs) runs)) p ≡ sounding device gain runs p
    at true ends runs = refl
    at false true [] = refl
    at false true (run ∷ runs) = refl
    at false false runs = refl

-- nor is what an interrupt takes
taken_past : (b : Bool) (device : DeviceSeen) (gain : Gain) (position n p : ℕ) (book : MapBook) (area : List ℕ) (run : Run) (runs : List Run) → IsDevice device → is_running book.state ≡ b → MapIsValid device position book (run ∷ runs) → p < position
    → sounding device gain (cond (b && nat_lt 0 n) (map_played device position n book area run ∷ runs) (run ∷ runs)) p ≡ sounding device gain (run ∷ runs) p
taken_past false device gain position n p book area run runs d on v h = refl
taken_past true device gain position n p book area run runs d on v h =
    elim (nat_lt 0 n) as (λ (b : Bool). sounding device gain (cond b (map_played device position n book area run ∷ runs) (run ∷ runs)) p ≡ sounding device gain (run ∷ runs) p) [
      | true ↦ ap (λ (found : Option Piece). first_of (piece_frame device gain run.settings (run_frames (map_played device position n book area run)) p found) (sounding device gain runs p)) before
          ∙ ap (λ (given : Option _). first_of given (sounding device gain runs p))
          (piece_frame-append device gain position p run.settings run.bytes (area_taken device n book area) run.pieces d (All-head HasRate run runs v.own)
          (open-pieces device position run (v.newest on).2 (All-head (RunIsValid device position) run runs v.pieces)))
      | false ↦ refl
    ]
  where
    before : find (covers p) (map_piece position n book ∷ run.pieces) ≡ find (covers p) run.pieces
    before = ap (λ (b : Bool). cond b (Some (map_piece position n book)) (find (covers p) run.pieces)) (covers_not-ahead p (map_piece position n book) h)

pub sounding-map_playing : (device : DeviceSeen) (gain : Gain) (position n p : ℕ) (book : MapBook) (area : List ℕ) (runs : List Run) → IsDevice device → MapIsValid device position book runs → p < position
    → sounding device gain (map_playing device position n book area runs) p ≡ sounding device gain runs p
sounding-map_playing device gain position n p book area [] d v h = refl
sounding-map_playing device gain position n p book area (run ∷ runs) d v h = taken_past (is_running book.state) device gain position n p book area run runs d refl v h

pub sounding-map_carrying : (device : DeviceSeen) (gain : Gain) (desk : Desk) (event : Event) (p : ℕ) (book : MapBook) (area : List ℕ) (runs : List Run) → IsDevice device → MapIsValid device desk.mixed book runs → p < desk.mixed
    → sounding device gain (map_carrying device desk event book area runs) p ≡ sounding device gain runs p
sounding-map_carrying device gain desk (Intr n) p book area runs d v h = sounding-map_playing device gain desk.mixed (mixed_by device desk.handed n) p book area runs d v h
sounding-map_carrying device gain desk (Open fd way settings) p book area runs d v h = refl
sounding-map_carrying device gain desk (Write fd source at count) p book area runs d v h = refl
sounding-map_carrying device gain desk (Poke fd offset at count) p book area runs d v h = refl
sounding-map_carrying device gain desk (Read fd count) p book area runs d v h = refl
sounding-map_carrying device gain desk (Ioctl fd request) p book area runs d v h = refl
sounding-map_carrying device gain desk (Join fd group) p book area runs d v h = refl
sounding-map_carrying device gain desk (StartGroup fd group) p book area runs d v h = refl
sounding-map_carrying device gain desk (Mixer request) p book area runs d v h = refl
sounding-map_carrying device gain desk (Close fd) p book area runs d v h = refl
