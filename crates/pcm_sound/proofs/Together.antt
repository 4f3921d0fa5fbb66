-- The members of a group start as one.
use Rattle.std.proofs.Common.{◌≡◌, ℕ, ◌<◌, Bool, true, false, cond, List, [], ◌∷◌, length, get_or, Some, None, inl, inr, refl, sym, ap, ◌∙◌, subst, arith}
use Rattle.std.specs.Prelude.{All, IsOk, nat_lt, not, ◌&&◌}
use Rattle.std.proofs.lemmas.Bool.{and_parts, cases_lt}
use Rattle.std.proofs.lemmas.Bool.Decides.{nat_tests}
use Rattle.std.proofs.lemmas.List.{get_or_past}
use Rattle.pcm_oss.specs.declared.event.Event.{Event}
use Rattle.pcm_oss.specs.declared.event.Event.TheVariants.{StartGroup}
use Rattle.pcm_oss.specs.declared.event.Way.TheVariants.{Play, Record}
use Rattle.pcm_oss.specs.declared.reply.Errno.TheVariants.{Busy}
use Rattle.pcm_wave.specs.declared.pool.Pool.{Pool}
use Rattle.pcm_group.specs.Groups.{all_in, group_at, is_used}
use Rattle.pcm_group.proofs.Members.{all_in-each, used-some}
use Rattle.pcm_desk.specs.declared.here.Here.{Here}
use Rattle.pcm_desk.specs.declared.device.Held.{Held}
use Rattle.pcm_desk.specs.declared.play_book.PlayBook.{PlayBook}
use Rattle.pcm_desk.specs.declared.play_book.PlayState.{PlayState}
use Rattle.pcm_desk.specs.declared.play_book.PlayState.TheVariants.{Free, Setup, Primed, Running, Draining}
use Rattle.pcm_desk.specs.declared.record_book.RecordBook.{RecordBook}
use Rattle.pcm_desk.specs.declared.run_state.RunState.{RunState}
use Rattle.pcm_desk.specs.declared.run_state.RunState.TheVariants as run_states
use Rattle.pcm_desk.specs.declared.turn.Turn.{Turn}
use Rattle.pcm_desk.specs.BookTurns.{doing, refused}
use Rattle.pcm_desk.specs.Device.{DeviceSeen, IsDevice}
use Rattle.pcm_desk.specs.PlayBooks.{frames_written, is_draining, is_primed, is_started, play_is_ready, started_at}
use Rattle.pcm_desk.specs.PlayRequests.{play_roused_in, play_with_trigger}
use Rattle.pcm_desk.specs.PlaySafe.{IsPlayInOrder}
use Rattle.pcm_desk.specs.RunStates.{is_in_setup, is_running}
use Rattle.pcm_desk.specs.Openings.{with_trigger}
use Rattle.pcm_desk.specs.Channels.{play_rate_at, play_starting, record_starting}
use Rattle.pcm_desk.specs.Desk.{Desk, DeskTurn, after, desk_here, group_started, held_by, play_at, play_unopened, record_at}
use Rattle.pcm_desk.specs.Own.{MembersWait, is_waiting}
use Rattle.pcm_desk.specs.Events.{Fits, after_all}
use Rattle.pcm_desk.proofs.Members.{waits-always}
use Rattle.pcm_desk.proofs.Grouping.{by-starting, is-this, play_at-started, record_at-started}
use Rattle.pcm_sound.specs.Runs.{Run, marking, starts}
use Rattle.pcm_sound.specs.Recordings.{recording_from, starts_recording}
use Rattle.pcm_sound.specs.Story.{Story, story_at_start, story_of, told, told_all}
use Rattle.pcm_sound.specs.Places.{SlotIsPlaced}
use Rattle.pcm_sound.specs.Together.{StartAsOne, newest_start}
use Rattle.pcm_sound.specs.Valid.{IsNewest, StoryIsValid}
use Rattle.pcm_sound.proofs.Stories.{valid-story}

-- ---- a member that plays

-- a book that is ready is primed
primed_of : (state : PlayState) → is_primed state ≡ true → state ≡ Primed
primed_of Primed e = refl
primed_of Free e = cc
primed_of Setup e = cc
primed_of Running e = cc
primed_of (Draining closed) e = cc

-- and runs once it was started
started_ready : (device : DeviceSeen) (here : Here) (book : PlayBook) → book.state ≡ Primed → nat_lt 0 (frames_written book) ≡ true → play_starting device here book ≡ started_at here.mixed Running (play_with_trigger true book)
started_ready device here book primed some =
    let armed : PlayBook = play_with_trigger true book in
    ap (λ (s : PlayState). (cond {A = Turn PlayBook} (is_draining s) (refused Busy book) (doing (play_roused_in here.mixed s armed))).book) primed
    ∙ ap (λ (b : Bool). cond b (started_at here.mixed Running armed) armed) some

-- what is waiting stands in a slot that is there
waiting_there : (device : DeviceSeen) (desk : Desk) (slot : ℕ) → is_waiting (play_at device desk slot).state ≡ true → slot < length desk.play
waiting_there device desk slot w =
    elim (cases_lt slot (length desk.play)) [
      | inl here ↦ here
      | inr past ↦ absurd (let clash : false ≡ true = sym (ap (λ (b : PlayBook). is_waiting b.state) (get_or_past desk.play slot (play_unopened device) past)) ∙ w in cc)
    ]

-- the newest run of a slot whose book has bytes
started_run : (mixed : ℕ) (event : Event) (old new : PlayBook) (runs : List Run) → IsNewest old runs → old.state ≡ Primed → new.state ≡ Running → newest_start (marking mixed event old new runs) ≡ Some mixed
started_run mixed event old new [] newest primed runs_now = absurd newest
started_run mixed event old new (run ∷ runs) newest primed runs_now =
    let begins : starts old new ≡ true = ap (λ (s : PlayState). not (is_started s) && is_started new.state) primed ∙ ap is_started runs_now in
    ap (λ (b : Bool). cond b (Some mixed) run.start) begins

waiting_run : (device : DeviceSeen) (mixed : ℕ) (book : PlayBook) (runs : List Run) → SlotIsPlaced device mixed book runs → 0 < book.written → is_started book.state ≡ false → newest_start runs ≡ None
waiting_run device mixed book [] placed some stopped = refl
waiting_run device mixed book (run ∷ runs) placed some stopped = ((placed.2 some).waits stopped).start

-- ---- a member that records

setup_of : (state : RunState) → is_in_setup state ≡ true → state ≡ run_states.Setup
setup_of run_states.Setup e = refl
setup_of run_states.Free e = cc
setup_of run_states.Running e = cc

record_started_rest : (book : RecordBook) → book.state ≡ run_states.Setup → record_starting book ≡ record book { opening = with_trigger true book.opening; state = run_states.Running }
record_started_rest book rests = grind arith

-- ---- all members

begun : (device : DeviceSeen) (pool : Pool) (story : Story) (fd group : ℕ) → StoryIsValid device story → MembersWait device story.desk → is_used story.desk.groups group ≡ true → all_in group play_is_ready story.desk.groups.play story.desk.play ≡ true
    → (after : Desk) → after ≡ group_started device story.desk group → (new : Story) → new.desk ≡ after
    → ((slot : ℕ) → new.runs slot ≡ marking story.desk.mixed (StartGroup fd group) (play_at device story.desk slot) (play_at device after slot) (story.runs slot))
    → ((slot : ℕ) → new.recordings slot ≡ cond (starts_recording (record_at device story.desk slot) (record_at device after slot)) (recording_from story.desk.handed) (story.recordings slot))
    → StartAsOne device group story new
begun device pool story fd group v waits used ready after is new desk_is runs_are recordings_are = record {
  waited = λ slot m. waiting_run device story.desk.mixed (old slot) (story.runs slot) (v.placed slot) (written slot m) (ap is_started (primed slot m));
  started = λ slot m. ap newest_start (runs_are slot) ∙ started_run story.desk.mixed (StartGroup fd group) (old slot) (play_at device after slot) (story.runs slot) ((v.slots slot).newest (written slot m)) (primed slot m) (runs_now slot m);
  idle = λ slot m. ap is_running (rests slot m);
  running = λ slot m. ap (λ (d : Desk). is_running (record_at device d slot).state) desk_is ∙ records_now slot m;
  recorded = λ slot m.
      let begins : starts_recording (record_at device story.desk slot) (record_at device after slot) ≡ true = ap (λ (s : RunState). not (is_running s) && is_running (record_at device after slot).state) (rests slot m) ∙ records_now slot m in
      recordings_are slot ∙ ap (λ (b : Bool). cond b (recording_from story.desk.handed) (story.recordings slot)) begins;
}
  where
    here : Here
    here = desk_here device story.desk

    old : ℕ → PlayBook
    old slot = play_at device story.desk slot

    some : 0 < group
    some = used-some story.desk.groups group used

    member : (mine : ℕ) → mine ≡ group → nat_lt 0 mine ≡ true
    member mine m = let positive = some in grind (arith, nat_tests)

    is_ready : (slot : ℕ) → group_at story.desk.groups Play slot ≡ group → play_is_ready (old slot) ≡ true
    is_ready slot m =
        let held : Held = record { way = Play; slot = slot } in
        all_in-each group play_is_ready story.desk.groups.play story.desk.play slot (play_unopened device) ready some
        (waiting_there device story.desk slot (waits held (member (group_at story.desk.groups Play slot) m)).0) m

    primed : (slot : ℕ) → group_at story.desk.groups Play slot ≡ group → (old slot).state ≡ Primed
    primed slot m = primed_of (old slot).state (and_parts (is_primed (old slot).state) (nat_lt 0 (frames_written (old slot))) (is_ready slot m)).0

    written : (slot : ℕ) → group_at story.desk.groups Play slot ≡ group → 0 < (old slot).written
    written slot m = (subst (λ (s : PlayState). IsPlayInOrder (play_rate_at device (old slot)) s (old slot)) (primed slot m) (v.safe slot).order).0

    runs_now : (slot : ℕ) → group_at story.desk.groups Play slot ≡ group → (play_at device after slot).state ≡ Running
    runs_now slot m =
        ap (λ (d : Desk). (play_at device d slot).state) is
        ∙ ap (λ (b : PlayBook). b.state) (play_at-started device device story.desk group slot some
        ∙ ap (λ (b : Bool). cond b (play_starting device here (old slot)) (old slot)) (is-this (get_or story.desk.groups.play slot 0) group m)
        ∙ started_ready device here (old slot) (primed slot m) (and_parts (is_primed (old slot).state) (nat_lt 0 (frames_written (old slot))) (is_ready slot m)).1)

    rests : (slot : ℕ) → group_at story.desk.groups Record slot ≡ group → (record_at device story.desk slot).state ≡ run_states.Setup
    rests slot m =
        let held : Held = record { way = Record; slot = slot } in
        setup_of (record_at device story.desk slot).state (waits held (member (group_at story.desk.groups Record slot) m)).0

    records_now : (slot : ℕ) → group_at story.desk.groups Record slot ≡ group → is_running (record_at device after slot).state ≡ true
    records_now slot m =
        ap (λ (d : Desk). is_running (record_at device d slot).state) is
        ∙ ap (λ (b : RecordBook). is_running b.state) (record_at-started device device story.desk group slot some
        ∙ ap (λ (b : Bool). cond b (record_starting (record_at device story.desk slot)) (record_at device story.desk slot)) (is-this (get_or story.desk.groups.recording slot 0) group m)
        ∙ record_started_rest (record_at device story.desk slot) (rests slot m))

-- Where a start is accepted all members start as one.
pub start-as-one : (device : DeviceSeen) (pool : Pool) (story : Story) (fd group : ℕ) → StoryIsValid device story → MembersWait device story.desk → IsOk (after device story.desk (StartGroup fd group)).reply
    → StartAsOne device group story (told device pool story (StartGroup fd group))
start-as-one device pool story fd group v waits ok =
    by-starting device Goal (held_by story.desk fd) story.desk group (λ errno fine same. cc)
    (λ used ready fine same. begun device pool story fd group v waits used ready (after device story.desk (StartGroup fd group)).desk (sym same) (told device pool story (StartGroup fd group)) refl (λ slot. refl) (λ slot. refl))
    ok refl
  where
    Goal : DeskTurn → Type 0
    Goal turn = IsOk turn.reply → turn.desk ≡ (after device story.desk (StartGroup fd group)).desk → StartAsOne device group story (told device pool story (StartGroup fd group))

-- the desk of a story
pub desk-told : (device : DeviceSeen) (pool : Pool) (story : Story) (events : List Event) → (told_all device pool story events).desk ≡ after_all device story.desk events
desk-told device pool story [] = refl
desk-told device pool story (event ∷ events) = desk-told device pool (told device pool story event) events

-- of any script
pub start-in-story : (device : DeviceSeen) (pool : Pool) (events : List Event) (fd group : ℕ) → IsDevice device → All (Fits device pool) events
    → let story : Story = story_of device pool events in
    IsOk (after device story.desk (StartGroup fd group)).reply → StartAsOne device group story (told device pool story (StartGroup fd group))
start-in-story device pool events fd group d fit =
    start-as-one device pool (story_of device pool events) fd group (valid-story device pool events d fit)
    (subst (MembersWait device) (sym (desk-told device pool (story_at_start device) events)) (waits-always device events))
