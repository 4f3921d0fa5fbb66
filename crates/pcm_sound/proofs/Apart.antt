-- The runs of a slot lie apart after any events that fit: a piece begins where all before it have ended, and so does a run.
use Rattle.std.proofs.Common.{◌≡◌, ℕ, ◌+◌, ◌-◌, ◌<◌, ◌≤◌, Bool, true, false, cond, List, [], ◌∷◌, ◌++◌, length, map, fold, Option, Some, None, refl, sym, ap, ◌∙◌, subst, arith, All, length-append}
use Rattle.std.specs.Prelude.{eqb, find, nat_lt, not, option_map, ◌&&◌}
use Rattle.std.specs.List.{filter, flat_map, range_with_len}
use Rattle.std.specs.Option.{option_to_list}
use Rattle.std.proofs.lemmas.Bool.Decides.{nat_tests}
use Rattle.std.proofs.lemmas.List.Elements.{All-head, All-tail, All-weaker, filter-append}
use Rattle.std.proofs.lemmas.Option.{same_Some}
use Rattle.pcm_format.specs.Formats.{bits_of}
use Rattle.pcm_format.specs.Frames.{Frame}
use Rattle.pcm_feeder.specs.declared.stage.Gain.{Gain}
use Rattle.pcm_feeder.specs.Layouts.{at_gain}
use Rattle.pcm_mix.specs.Mix.{mixed}
use Rattle.pcm_oss.specs.declared.event.Event.{Event}
use Rattle.pcm_oss.specs.declared.event.Event.TheVariants.{Open, Write, Poke, Read, Ioctl, Join, StartGroup, Close, Mixer, Intr}
use Rattle.pcm_wave.specs.declared.pool.Pool.{Pool}
use Rattle.pcm_wave.specs.Pools.{bytes_at}
use Rattle.pcm_desk.specs.declared.play_book.PlayBook.{PlayBook}
use Rattle.pcm_desk.specs.declared.map_book.MapBook.{MapBook}
use Rattle.pcm_desk.specs.Device.{DeviceSeen, IsDevice, mix_settings, mixed_slots}
use Rattle.pcm_desk.specs.PlayBooks.{is_started}
use Rattle.pcm_desk.specs.RunStates.{is_running}
use Rattle.pcm_desk.specs.Channels.{mixed_by}
use Rattle.pcm_desk.specs.Desk.{Desk, after, map_at, play_at}
use Rattle.pcm_desk.specs.Events.{Fits, frames_taken}
use Rattle.pcm_sound.specs.Given.{given_frame}
use Rattle.pcm_sound.specs.Gains.{Faders, last_gain, slot_gain_at}
use Rattle.pcm_sound.specs.Runs.{Piece, Run, begun_run, carrying, covers, first_of, marking, piece_frame, piece_of, playing, run_frames, sounding, starts, taking}
use Rattle.pcm_sound.specs.MapRuns.{map_ends, map_marking, map_played, map_playing, map_starts, map_stopped, mapped_run}
use Rattle.pcm_sound.specs.Story.{Story, mixed_gains, mixed_runs, story_at_start, story_of, told, told_all}
use Rattle.pcm_sound.specs.Mix.{Table, adding}
use Rattle.pcm_sound.specs.DeviceList.{faded_table, silence_in, sum_at, table_of}
use Rattle.pcm_sound.specs.Plain.{Span, is_within, place_of, plain_table, run_end, span_frame, span_of, spans_of}
use Rattle.pcm_sound.specs.Apart.{AreApart, all_by_pieces, all_by_spans, all_pieces, covering_frames, sum_of_all}
use Rattle.pcm_sound.specs.Places.{IsOver, IsOverFrom, MapArePlaced, MapIsPlaced, SlotIsPlaced}
use Rattle.pcm_sound.specs.Valid.{StoryIsValid}
use Rattle.pcm_sound.proofs.DeviceLists.{fold-same}
use Rattle.pcm_sound.proofs.Heard.{span_from}
use Rattle.pcm_sound.proofs.MapSlots.{map_playing-idle, unstarted-over}
use Rattle.pcm_sound.proofs.MapStories.{map-untaken}
use Rattle.pcm_sound.proofs.Numbers.{by-number}
use Rattle.pcm_sound.proofs.Stories.{Keeps, carried_at, keeps, valid-start, valid-told}

-- ---- pieces

-- pieces, the newest first, each of which has ended where the next one begins, and the newest by a position
abbrev pub HaveEnded : ℕ → List Piece → Type 0
HaveEnded by [] = Unit {0}
HaveEnded by (piece ∷ pieces) = (piece.position + piece.count ≤ by) × HaveEnded piece.position pieces

ended_later : (by later : ℕ) (pieces : List Piece) → by ≤ later → HaveEnded by pieces → HaveEnded later pieces
ended_later by later [] h e = e
ended_later by later (piece ∷ pieces) h e = (let past = e.0 in omega arith, e.1)

-- they cover nothing from there on
ended_none : (by p : ℕ) (pieces : List Piece) → by ≤ p → HaveEnded by pieces → length (filter (covers p) pieces) ≡ 0
ended_none by p [] h e = refl
ended_none by p (piece ∷ pieces) h e =
    let past = e.0 in
    let here : covers p piece ≡ false = grind (arith, nat_tests) in
    rw here (ended_none piece.position p pieces (omega arith) e.1)

ended_once_at : (b : Bool) (by p : ℕ) (piece : Piece) (pieces : List Piece) → covers p piece ≡ b → HaveEnded by (piece ∷ pieces) → length (filter (covers p) pieces) ≤ 1
    → length (cond b (piece ∷ filter (covers p) pieces) (filter (covers p) pieces)) ≤ 1
ended_once_at true by p piece pieces is e once =
    let here : piece.position ≤ p = grind (arith, nat_tests) in
    let none = ended_none piece.position p pieces here e.1 in
    omega arith
ended_once_at false by p piece pieces is e once = once

-- and no place twice
ended_once : (by p : ℕ) (pieces : List Piece) → HaveEnded by pieces → length (filter (covers p) pieces) ≤ 1
ended_once by p [] e = omega arith
ended_once by p (piece ∷ pieces) e = ended_once_at (covers p piece) by p piece pieces refl e (ended_once piece.position p pieces e.1)

-- ---- runs

-- a run that has ended by a position, if it ever started
abbrev pub HasEnded : DeviceSeen → ℕ → Run → Type 0
HasEnded device by run = (start : ℕ) → run.start ≡ Some start → (until : ℕ) → run_end device until start run ≤ by

-- runs, the newest first, of which all have ended where a newer one starts
abbrev pub AreInTurn : DeviceSeen → List Run → Type 0
AreInTurn device [] = Unit {0}
AreInTurn device (run ∷ runs) = ((start : ℕ) → run.start ≡ Some start → All (HasEnded device start) runs) × AreInTurn device runs

-- runs that are over have ended
over_ended : (device : DeviceSeen) (mixed : ℕ) (runs : List Run) → All (IsOver device mixed) runs → All (HasEnded device mixed) runs
over_ended device mixed runs over =
    All-weaker (IsOver device mixed) (HasEnded device mixed) (λ run o start is until. (subst (λ (s : Option ℕ). IsOverFrom device mixed run s) is o).0 until) runs over

-- ---- spans

out_of_at : (some : Bool) (p : ℕ) (span : Span) (spans : List Span) → is_within p span ≡ false → length (filter (is_within p) spans) ≡ 0 → length (filter (is_within p) (cond some (span ∷ spans) spans)) ≡ 0
out_of_at true p span spans out none = rw out none
out_of_at false p span spans out none = none

out_of : (device : DeviceSeen) (until p : ℕ) (run : Run) (start : Option ℕ) (spans : List Span) → ((s : ℕ) → start ≡ Some s → run_end device until s run ≤ p) → length (filter (is_within p) spans) ≡ 0
    → length (filter (is_within p) (span_of device until run start spans)) ≡ 0
out_of device until p run None spans ends none = none
out_of device until p run (Some start) spans ends none =
    let end = ends start refl in
    out_of_at (nat_lt start until) p (span_from device until run start) spans (grind (arith, nat_tests)) none

-- runs that have ended by a position have no span from there on
ended_outside : (device : DeviceSeen) (until by p : ℕ) (runs : List Run) → by ≤ p → All (HasEnded device by) runs → length (filter (is_within p) (spans_of device until runs)) ≡ 0
ended_outside device until by p [] h e = refl
ended_outside device until by p (run ∷ runs) h e =
    out_of device until p run run.start (spans_of device until runs) (λ start is. let end = (All-head (HasEnded device by) run runs e) start is until in omega arith)
    (ended_outside device until by p runs h (All-tail (HasEnded device by) run runs e))

once_at : (some within : Bool) (p : ℕ) (span : Span) (spans : List Span) → is_within p span ≡ within → (span.start ≤ p → length (filter (is_within p) spans) ≡ 0) → length (filter (is_within p) spans) ≤ 1
    → length (filter (is_within p) (cond some (span ∷ spans) spans)) ≤ 1
once_at true true p span spans is none once = let here : length (filter (is_within p) spans) ≡ 0 = none (grind (arith, nat_tests)) in rw is (omega arith)
once_at true false p span spans is none once = rw is once
once_at false within p span spans is none once = once

once_of : (device : DeviceSeen) (until p : ℕ) (run : Run) (start : Option ℕ) (spans : List Span) → ((s : ℕ) → start ≡ Some s → s ≤ p → length (filter (is_within p) spans) ≡ 0) → length (filter (is_within p) spans) ≤ 1
    → length (filter (is_within p) (span_of device until run start spans)) ≤ 1
once_of device until p run None spans none once = once
once_of device until p run (Some start) spans none once = once_at (nat_lt start until) (is_within p (span_from device until run start)) p (span_from device until run start) spans refl (none start refl) once

-- so no position lies within two spans
spans_once : (device : DeviceSeen) (until p : ℕ) (runs : List Run) → AreInTurn device runs → length (filter (is_within p) (spans_of device until runs)) ≤ 1
spans_once device until p [] turn = omega arith
spans_once device until p (run ∷ runs) turn =
    once_of device until p run run.start (spans_of device until runs) (λ start is from. ended_outside device until start p runs from (turn.0 start is)) (spans_once device until p runs turn.1)

-- ---- what an event leaves

-- the runs of a slot, whose pieces have ended by a position
pub record StandApart (device : DeviceSeen) (by : ℕ) (runs : List Run) : Type 0 where
  pub pieces : HaveEnded by (all_pieces runs)
  pub turn : AreInTurn device runs

apart_later : (device : DeviceSeen) (by later : ℕ) (runs : List Run) → by ≤ later → StandApart device by runs → StandApart device later runs
apart_later device by later runs h a = record { pieces = ended_later by later (all_pieces runs) h a.pieces; turn = a.turn }

-- all runs but the newest are over
abbrev pub OthersAreOver : DeviceSeen → ℕ → List Run → Type 0
OthersAreOver device mixed [] = Unit {0}
OthersAreOver device mixed (run ∷ runs) = All (IsOver device mixed) runs

placed_others : (device : DeviceSeen) (mixed : ℕ) (book : PlayBook) (runs : List Run) → SlotIsPlaced device mixed book runs → OthersAreOver device mixed runs
placed_others device mixed book [] p = tt
placed_others device mixed book (run ∷ runs) p = p.0

-- an event marks none of them
unmarked_others : (device : DeviceSeen) (mixed position : ℕ) (event : Event) (old new : PlayBook) (runs : List Run) → OthersAreOver device mixed (marking position event old new runs) → OthersAreOver device mixed runs
unmarked_others device mixed position event old new [] over = tt
unmarked_others device mixed position event old new (run ∷ runs) over = over

-- nor taken
played_others : (device : DeviceSeen) (mixed position n : ℕ) (book : PlayBook) (runs : List Run) → OthersAreOver device mixed runs → OthersAreOver device mixed (playing device position n book runs)
played_others device mixed position n book [] over = tt
played_others device mixed position n book (run ∷ runs) over =
    elim (is_started book.state && nat_lt 0 n) as (λ (b : Bool). OthersAreOver device mixed (cond b (record run { pieces = piece_of device position n book ∷ run.pieces } ∷ runs) (run ∷ runs))) [
      | true ↦ over
      | false ↦ over
    ]

-- a run that starts does so where all others have ended
started_at : (b : Bool) (device : DeviceSeen) (mixed start : ℕ) (was : Option ℕ) (runs : List Run) → All (IsOver device mixed) runs → (was ≡ Some start → All (HasEnded device start) runs) → cond b (Some mixed) was ≡ Some start → All (HasEnded device start) runs
started_at true device mixed start was runs over before is = subst (λ (by : ℕ). All (HasEnded device by) runs) (same_Some mixed start is) (over_ended device mixed runs over)
started_at false device mixed start was runs over before is = before is

apart_marking : (device : DeviceSeen) (mixed by : ℕ) (event : Event) (old new : PlayBook) (runs : List Run) → OthersAreOver device mixed runs → StandApart device by runs → StandApart device by (marking mixed event old new runs)
apart_marking device mixed by event old new [] over a = a
apart_marking device mixed by event old new (run ∷ runs) over a = record {
  pieces = a.pieces;
  turn = (λ start is. started_at (starts old new) device mixed start run.start runs over (a.turn.0 start) is, a.turn.1);
}

-- bytes make no piece
apart_taking : (device : DeviceSeen) (by : ℕ) (bytes : List ℕ) (book : PlayBook) (runs : List Run) → StandApart device by runs → StandApart device by (taking bytes book runs)
apart_taking device by [] book runs a = a
apart_taking device by (byte ∷ bytes) book [] a = record { pieces = tt; turn = (λ start is. cc, tt) }
apart_taking device by (byte ∷ bytes) book (run ∷ runs) a =
    elim (eqb book.written 0) as (λ (b : Bool). StandApart device by (cond b (begun_run book (byte ∷ bytes) ∷ run ∷ runs) (record run { bytes = run.bytes ++ byte ∷ bytes } ∷ runs))) [
      | true ↦ record { pieces = a.pieces; turn = (λ start is. cc, a.turn) }
      | false ↦ record { pieces = a.pieces; turn = a.turn }
    ]

-- the piece of an interrupt begins where frames are mixed next, and ends by where they are mixed then
apart_playing : (device : DeviceSeen) (mixed n : ℕ) (book : PlayBook) (runs : List Run) → StandApart device mixed runs → StandApart device (mixed + n) (playing device mixed n book runs)
apart_playing device mixed n book [] a = record { pieces = tt; turn = tt }
apart_playing device mixed n book (run ∷ runs) a =
    elim (is_started book.state && nat_lt 0 n) as (λ (b : Bool). StandApart device (mixed + n) (cond b (record run { pieces = piece_of device mixed n book ∷ run.pieces } ∷ runs) (run ∷ runs))) [
      | true ↦ record { pieces = (omega arith, a.pieces); turn = a.turn }
      | false ↦ apart_later device mixed (mixed + n) (run ∷ runs) (omega arith) a
    ]

-- what an event that mixes nothing brings
apart_carrying : (device : DeviceSeen) (pool : Pool) (desk : Desk) (event : Event) (by : ℕ) (old new : PlayBook) (runs : List Run) → Fits device pool event → frames_taken event ≡ 0 → StandApart device by runs
    → StandApart device by (carrying device pool desk event old new runs)
apart_carrying device pool desk (Open fd way settings) by old new runs fits none a = a
apart_carrying device pool desk (Write fd source at count) by old new runs fits none a = apart_taking device by (bytes_at pool source at (new.written - old.written)) old runs a
apart_carrying device pool desk (Poke fd offset at count) by old new runs fits none a = a
apart_carrying device pool desk (Read fd count) by old new runs fits none a = a
apart_carrying device pool desk (Ioctl fd request) by old new runs fits none a = a
apart_carrying device pool desk (Join fd group) by old new runs fits none a = a
apart_carrying device pool desk (StartGroup fd group) by old new runs fits none a = a
apart_carrying device pool desk (Close fd) by old new runs fits none a = a
apart_carrying device pool desk (Mixer request) by old new runs fits none a = a
apart_carrying device pool desk (Intr n) by old new runs fits none a = absurd (let some = fits.0 in omega arith)

-- ---- mapped slots

-- a slot that starts hadn't
starts_idle : (was is : Bool) → not was && is ≡ true → was ≡ false
starts_idle true is e = cc
starts_idle false is e = refl

map_marking_at : (starts ends : Bool) (device : DeviceSeen) (mixed by : ℕ) (new : MapBook) (runs : List Run) → (starts ≡ true → All (IsOver device mixed) runs) → StandApart device by runs
    → StandApart device by (cond starts (mapped_run mixed new ∷ runs) (cond ends (map_stopped mixed runs) runs))
map_marking_at true ends device mixed by new runs over a = record {
  pieces = a.pieces;
  turn = (λ start is. subst (λ (at : ℕ). All (HasEnded device at) runs) (same_Some mixed start is) (over_ended device mixed runs (over refl)), a.turn);
}
map_marking_at false true device mixed by new [] over a = a
map_marking_at false true device mixed by new (run ∷ runs) over a = record { pieces = a.pieces; turn = a.turn }
map_marking_at false false device mixed by new runs over a = a

apart_map_marking : (device : DeviceSeen) (mixed by : ℕ) (old new : MapBook) (runs : List Run) → (is_running old.state ≡ false → All (IsOver device mixed) runs) → StandApart device by runs → StandApart device by (map_marking mixed old new runs)
apart_map_marking device mixed by old new runs over a =
    map_marking_at (map_starts old new) (map_ends old new) device mixed by new runs (λ e. over (starts_idle (is_running old.state) (is_running new.state) e)) a

apart_map_playing : (device : DeviceSeen) (mixed n : ℕ) (book : MapBook) (area : List ℕ) (runs : List Run) → StandApart device mixed runs → StandApart device (mixed + n) (map_playing device mixed n book area runs)
apart_map_playing device mixed n book area [] a = record { pieces = tt; turn = tt }
apart_map_playing device mixed n book area (run ∷ runs) a =
    elim (is_running book.state && nat_lt 0 n) as (λ (b : Bool). StandApart device (mixed + n) (cond b (map_played device mixed n book area run ∷ runs) (run ∷ runs))) [
      | true ↦ record { pieces = (omega arith, a.pieces); turn = a.turn }
      | false ↦ apart_later device mixed (mixed + n) (run ∷ runs) (omega arith) a
    ]

-- all runs of a slot that hasn't started are over, whatever an interrupt takes
idle_over : (device : DeviceSeen) (mixed : ℕ) (book : MapBook) (runs : List Run) → MapIsPlaced device mixed book runs → is_running book.state ≡ false → All (IsOver device mixed) runs
idle_over device mixed book runs p idle = unstarted-over device mixed book runs (subst (λ (b : Bool). MapArePlaced device mixed book b runs) idle p)

played_over : (device : DeviceSeen) (mixed n : ℕ) (book : MapBook) (area : List ℕ) (runs : List Run) → MapIsPlaced device mixed book runs → is_running book.state ≡ false
    → All (IsOver device mixed) (map_playing device mixed n book area runs)
played_over device mixed n book area runs p idle =
    subst (All (IsOver device mixed)) (sym (map_playing-idle device mixed n book area runs (ap (λ (b : Bool). b && nat_lt 0 n) idle))) (idle_over device mixed book runs p idle)

-- ---- stories

-- the runs of each slot stand apart
pub record StoryIsApart (device : DeviceSeen) (story : Story) : Type 0 where
  pub plays : (slot : ℕ) → StandApart device story.desk.mixed (story.runs slot)
  pub maps : (slot : ℕ) → StandApart device story.desk.mixed (story.map_runs slot)

-- they do so after an event that mixes nothing
apart_kept : (device : DeviceSeen) (pool : Pool) (story : Story) (event : Event) → Fits device pool event → frames_taken event ≡ 0 → StoryIsValid device story → StoryIsApart device story → StoryIsApart device (told device pool story event)
apart_kept device pool story event fits none v a = record {
  plays = λ slot.
      let old : PlayBook = play_at device story.desk slot in
      let new : PlayBook = play_at device (after device story.desk event).desk slot in
      let carried : List Run = carried_at device pool story event slot in
      subst (λ (by : ℕ). StandApart device by (marking mixed event old new carried)) (sym k.mixed_same)
      (apart_marking device mixed mixed event old new carried
      (unmarked_others device mixed mixed event old new carried (placed_others device mixed new (marking mixed event old new carried) (k.placed slot)))
      (apart_carrying device pool story.desk event mixed old new (story.runs slot) fits none (a.plays slot)));
  maps = λ slot.
      let old : MapBook = map_at device story.desk slot in
      let new : MapBook = map_at device (after device story.desk event).desk slot in
      subst (λ (by : ℕ). StandApart device by ((told device pool story event).map_runs slot)) (sym k.mixed_same)
      (subst (λ (runs : List Run). StandApart device mixed (map_marking mixed old new runs)) (sym (map-untaken device pool story.desk event old (story.areas slot) (story.map_runs slot) fits none))
      (apart_map_marking device mixed mixed old new (story.map_runs slot) (idle_over device mixed old (story.map_runs slot) (v.maps slot).placed) (a.maps slot)));
}
  where
    mixed : ℕ
    mixed = story.desk.mixed

    k : Keeps device pool story event
    k = keeps device pool story event fits none v

-- and after an interrupt
apart_interrupted : (device : DeviceSeen) (pool : Pool) (story : Story) (n : ℕ) → StoryIsValid device story → StoryIsApart device story → StoryIsApart device (told device pool story (Intr n))
apart_interrupted device pool story n v a = record {
  plays = λ slot.
      let old : PlayBook = play_at device story.desk slot in
      apart_marking device mixed (mixed + q) (Intr n) old (play_at device new slot) (playing device mixed q old (story.runs slot))
      (played_others device mixed mixed q old (story.runs slot) (placed_others device mixed old (story.runs slot) (v.placed slot)))
      (apart_playing device mixed q old (story.runs slot) (a.plays slot));
  maps = λ slot.
      let old : MapBook = map_at device story.desk slot in
      apart_map_marking device mixed (mixed + q) old (map_at device new slot) (map_playing device mixed q old (story.areas slot) (story.map_runs slot))
      (played_over device mixed q old (story.areas slot) (story.map_runs slot) (v.maps slot).placed)
      (apart_map_playing device mixed q old (story.areas slot) (story.map_runs slot) (a.maps slot));
}
  where
    mixed : ℕ
    mixed = story.desk.mixed

    q : ℕ
    q = mixed_by device story.desk.handed n

    new : Desk
    new = (after device story.desk (Intr n)).desk

apart_told : (device : DeviceSeen) (pool : Pool) (story : Story) (event : Event) → Fits device pool event → StoryIsValid device story → StoryIsApart device story → StoryIsApart device (told device pool story event)
apart_told device pool story (Open fd way settings) fits v a = apart_kept device pool story (Open fd way settings) fits refl v a
apart_told device pool story (Write fd source at count) fits v a = apart_kept device pool story (Write fd source at count) fits refl v a
apart_told device pool story (Poke fd offset at count) fits v a = apart_kept device pool story (Poke fd offset at count) fits refl v a
apart_told device pool story (Read fd count) fits v a = apart_kept device pool story (Read fd count) fits refl v a
apart_told device pool story (Ioctl fd request) fits v a = apart_kept device pool story (Ioctl fd request) fits refl v a
apart_told device pool story (Join fd group) fits v a = apart_kept device pool story (Join fd group) fits refl v a
apart_told device pool story (StartGroup fd group) fits v a = apart_kept device pool story (StartGroup fd group) fits refl v a
apart_told device pool story (Close fd) fits v a = apart_kept device pool story (Close fd) fits refl v a
apart_told device pool story (Mixer request) fits v a = apart_kept device pool story (Mixer request) fits refl v a
apart_told device pool story (Intr n) fits v a = apart_interrupted device pool story n v a

apart_told_all : (device : DeviceSeen) (pool : Pool) (story : Story) (events : List Event) → All (Fits device pool) events → StoryIsValid device story → StoryIsApart device story → StoryIsApart device (told_all device pool story events)
apart_told_all device pool story [] fit v a = a
apart_told_all device pool story (event ∷ events) fit v a =
    let fits = All-head (Fits device pool) event events fit in
    apart_told_all device pool (told device pool story event) events (All-tail (Fits device pool) event events fit) (valid-told device pool story event fits v) (apart_told device pool story event fits v a)

apart_start : (device : DeviceSeen) → StoryIsApart device (story_at_start device)
apart_start device = record { plays = λ slot. record { pieces = tt; turn = tt }; maps = λ slot. record { pieces = tt; turn = tt } }

-- runs that stand so lie apart
lie_apart : (device : DeviceSeen) (mixed : ℕ) (runs : List Run) → StandApart device mixed runs → AreApart device mixed runs
lie_apart device mixed runs a = record { pieces = λ position. ended_once mixed position (all_pieces runs) a.pieces; spans = λ position. spans_once device mixed position runs a.turn }

-- those of each slot do, after any events that fit
pub runs-apart : (device : DeviceSeen) (pool : Pool) (events : List Event) (slot : ℕ) → IsDevice device → All (Fits device pool) events
    → let story : Story = story_of device pool events in
    AreApart device story.desk.mixed (story.runs slot) × AreApart device story.desk.mixed (story.map_runs slot)
runs-apart device pool events slot d fit =
    let story : Story = story_of device pool events in
    let a = apart_told_all device pool (story_at_start device) events fit (valid-start device d) (apart_start device) in
    (lie_apart device story.desk.mixed (story.runs slot) (a.plays slot), lie_apart device story.desk.mixed (story.map_runs slot) (a.maps slot))

-- and those of each that is mixed
mixed_apart : (device : DeviceSeen) (pool : Pool) (events : List Event) (slot : ℕ) → IsDevice device → All (Fits device pool) events
    → let story : Story = story_of device pool events in AreApart device story.desk.mixed (mixed_runs device story slot)
mixed_apart device pool events slot d fit =
    let story : Story = story_of device pool events in
    by-number (AreApart device story.desk.mixed) device story.runs story.map_runs slot (λ at. (runs-apart device pool events at d fit).0) (λ at. (runs-apart device pool events at d fit).1)

-- ---- the mix

none_of : {X : Type 0} (xs : List X) → length xs ≡ 0 → xs ≡ []
none_of [] h = refl
none_of (x ∷ xs) h = absurd (omega arith)

-- where at most one is found, all that are found are the first
only_at : {X Y : Type 0} (b : Bool) (test : X → Bool) (f : X → Y) (x : X) (xs : List X) → length (cond b (x ∷ filter test xs) (filter test xs)) ≤ 1
    → (length (filter test xs) ≤ 1 → map f (filter test xs) ≡ option_to_list (option_map f (find test xs)))
    → map f (cond b (x ∷ filter test xs) (filter test xs)) ≡ option_to_list (option_map f (cond b (Some x) (find test xs)))
only_at true test f x xs h rest = ap (λ list. f x ∷ map f list) (none_of (filter test xs) (omega arith))
only_at false test f x xs h rest = rest h

only_found : {X Y : Type 0} (test : X → Bool) (f : X → Y) (xs : List X) → length (filter test xs) ≤ 1 → map f (filter test xs) ≡ option_to_list (option_map f (find test xs))
only_found test f [] h = refl
only_found test f (x ∷ xs) h = only_at (test x) test f x xs h (only_found test f xs)

-- and what is found passes
found_at : {X : Type 0} (b : Bool) (test : X → Bool) (x y : X) (xs : List X) → cond b (Some x) (find test xs) ≡ Some y → (find test xs ≡ Some y → 0 < length (filter test xs)) → 0 < length (cond b (x ∷ filter test xs) (filter test xs))
found_at true test x y xs is rest = omega arith
found_at false test x y xs is rest = rest is

found_some : {X : Type 0} (test : X → Bool) (y : X) (xs : List X) → find test xs ≡ Some y → 0 < length (filter test xs)
found_some test y [] is = cc
found_some test y (x ∷ xs) is = found_at (test x) test x y xs is (found_some test y xs)

-- how many pieces cover a position
count_covering : (p : ℕ) (run : Run) (runs : List Run)
    → length (filter (covers p) (all_pieces (run ∷ runs))) ≡ length (filter (covers p) run.pieces) + length (filter (covers p) (all_pieces runs))
count_covering p run runs =
    ap length (filter-append (covers p) run.pieces (all_pieces runs)) ∙ length-append (filter (covers p) run.pieces) (filter (covers p) (all_pieces runs))

-- the frame of a piece of a run at a position
abbrev frame_at_piece : DeviceSeen → Gain → ℕ → Run → Piece → Frame
frame_at_piece device gain p run piece = given_frame device run.settings (run_frames run) (place_of p piece) gain

-- where none does, nothing is given
nothing_given : (device : DeviceSeen) (gain : Gain) (p : ℕ) (runs : List Run) → length (filter (covers p) (all_pieces runs)) ≡ 0 → flat_map (covering_frames device gain p) runs ≡ []
nothing_given device gain p [] h = refl
nothing_given device gain p (run ∷ runs) h =
    let count = count_covering p run runs in
    ap (λ (list : List Piece). map (frame_at_piece device gain p run) list ++ flat_map (covering_frames device gain p) runs) (none_of (filter (covers p) run.pieces) (omega arith))
    ∙ nothing_given device gain p runs (omega arith)

first_alone : (f : Piece → Frame) (found : Option Piece) (rest : List Frame) (other : Option Frame) → ((piece : Piece) → found ≡ Some piece → rest ≡ []) → rest ≡ option_to_list other
    → option_to_list (option_map f found) ++ rest ≡ option_to_list (first_of (option_map f found) other)
first_alone f None rest other alone is = is
first_alone f (Some piece) rest other alone is = ap (λ list. f piece ∷ list) (alone piece refl)

piece_frame_map : (device : DeviceSeen) (gain : Gain) (p : ℕ) (run : Run) (found : Option Piece) → piece_frame device gain run.settings (run_frames run) p found ≡ option_map (frame_at_piece device gain p run) found
piece_frame_map device gain p run None = refl
piece_frame_map device gain p run (Some piece) = refl

-- where at most one does, all that is given is what is heard
heard_alone : (device : DeviceSeen) (gain : Gain) (p : ℕ) (runs : List Run) → length (filter (covers p) (all_pieces runs)) ≤ 1 → flat_map (covering_frames device gain p) runs ≡ option_to_list (sounding device gain runs p)
heard_alone device gain p [] h = refl
heard_alone device gain p (run ∷ runs) h =
    let count = count_covering p run runs in
    let f : Piece → Frame = frame_at_piece device gain p run in
    let found : Option Piece = find (covers p) run.pieces in
    let rest : List Frame = flat_map (covering_frames device gain p) runs in
    let other : Option Frame = sounding device gain runs p in
    ap (λ (list : List Frame). list ++ rest) (only_found (covers p) f run.pieces (omega arith))
    ∙ first_alone f found rest other (λ piece is. let some = found_some (covers p) piece run.pieces is in nothing_given device gain p runs (omega arith)) (heard_alone device gain p runs (omega arith))
    ∙ ap (λ (first : Option Frame). option_to_list (first_of first other)) (sym (piece_frame_map device gain p run found))

-- a slot that gives one frame or none adds the same, be it a list or not
adds_alike : (bits : ℕ) (h : Frame → Frame) (sum : Frame) (given : Option Frame) → fold (mixed bits) sum (map h (option_to_list given)) ≡ adding bits sum (option_map h given)
adds_alike bits h sum None = refl
adds_alike bits h sum (Some frame) = refl

sums_alike : (device : DeviceSeen) (faders : Faders) (given : ℕ → ℕ → List Frame) (table : Table) (position : ℕ) → ((slot : ℕ) → given slot position ≡ option_to_list (table slot position))
    → sum_of_all device faders given position ≡ sum_at device (faded_table device faders table) position
sums_alike device faders given table position alike =
    let bits : ℕ = bits_of (mix_settings device).format in
    let h : ℕ → Frame → Frame = λ slot. at_gain (mix_settings device).layout (slot_gain_at faders slot position) in
    fold-same (λ sum slot. fold (mixed bits) sum (map (h slot) (given slot position))) (λ sum slot. adding bits sum (faded_table device faders table slot position)) (silence_in (mix_settings device)) (range_with_len 0 (mixed_slots device))
    (λ sum slot. ap (λ (list : List Frame). fold (mixed bits) sum (map (h slot) list)) (alike slot) ∙ adds_alike bits (h slot) sum (table slot position))

-- so the mix adds what all runs of its slots give
pub mix-of-all : (device : DeviceSeen) (pool : Pool) (events : List Event) (position : ℕ) → IsDevice device → All (Fits device pool) events
    → let story : Story = story_of device pool events in
    sum_of_all device story.faders (all_by_pieces device story) position ≡ sum_at device (faded_table device story.faders (table_of device story)) position
mix-of-all device pool events position d fit =
    let story : Story = story_of device pool events in
    sums_alike device story.faders (all_by_pieces device story) (table_of device story) position
    (λ slot. heard_alone device (last_gain (mixed_gains device story slot) position) position (mixed_runs device story slot) ((mixed_apart device pool events slot d fit).pieces position))

-- by their spans too
pub plain-of-all : (device : DeviceSeen) (pool : Pool) (events : List Event) (position : ℕ) → IsDevice device → All (Fits device pool) events
    → let story : Story = story_of device pool events in
    sum_of_all device story.faders (all_by_spans device story) position ≡ sum_at device (faded_table device story.faders (plain_table device story)) position
plain-of-all device pool events position d fit =
    let story : Story = story_of device pool events in
    sums_alike device story.faders (all_by_spans device story) (plain_table device story) position
    (λ slot. only_found (is_within position) (span_frame device (last_gain (mixed_gains device story slot) position) position) (spans_of device story.desk.mixed (mixed_runs device story slot))
    ((mixed_apart device pool events slot d fit).spans position))
