-- The pieces of a slot stay in their places through every event that takes no frames.
use Rattle.std.proofs.Common.{◌≡◌, ℕ, suc, zero, ◌+◌, ◌<◌, ◌≤◌, Bool, true, false, cond, eqb, List, [], ◌∷◌, ◌++◌, length, min, Option, Some, None, inl, inr, refl, sym, ap, ◌∙◌, subst, arith, All}
use Rattle.std.specs.Prelude.{◌&&◌, ◌||◌, not}
use Rattle.std.proofs.lemmas.List.Elements.{All-cons, All-nil, All-weaker}
use Rattle.std.proofs.lemmas.Bool.{cases_lt}
use Rattle.std.proofs.lemmas.Bool.Decides.{nat_tests}
use Rattle.pcm_oss.specs.declared.event.Event.{Event}
use Rattle.pcm_format.specs.declared.settings.Settings.{Settings}
use Rattle.pcm_format.specs.Frames.{whole_frames}
use Rattle.pcm_format.proofs.Streams.{length-frames}
use Rattle.pcm_rate.specs.declared.rate.Rate.{Rate}
use Rattle.pcm_rate.specs.Rates.{IsRatio, len}
use Rattle.pcm_feeder.specs.Limits.{IsRate}
use Rattle.pcm_desk.specs.declared.play_book.PlayBook.{PlayBook}
use Rattle.pcm_desk.specs.declared.play_book.PlayState.{PlayState}
use Rattle.pcm_desk.specs.declared.play_book.PlayState.TheVariants.{Free, Setup, Primed, Running, Draining}
use Rattle.pcm_desk.specs.Device.{DeviceSeen, IsDevice, play_rate_between}
use Rattle.pcm_desk.specs.PlayBooks.{frames_written, is_draining, is_started}
use Rattle.pcm_desk.specs.PlaySafe.{IsPlayInOrder, PlayIsSafe}
use Rattle.pcm_desk.specs.Channels.{play_rate_at}
use Rattle.pcm_desk.proofs.PlaySafe.{allowed-lasts, given-allowed}
use Rattle.pcm_desk.proofs.Ratios.{ratio-between}
use Rattle.pcm_sound.specs.Runs.{Piece, Run, begun_run, taking, drops, marked, marking, run_frames}
use Rattle.pcm_sound.specs.Plain.{IsUnbroken, drop_end, lasting, run_end}
use Rattle.pcm_sound.specs.Places.{FollowFrom, IsOver, IsOverFrom, IsWaiting, IsGoing, IsCounted, ArePlaced, SlotIsPlaced}
use Rattle.pcm_sound.specs.Valid.{IsNewest, SlotIsValid}
use Rattle.pcm_sound.proofs.Endings.{EndsWhole, KeepsGiven}
use Rattle.pcm_sound.proofs.Slots.{Accepts, IsUntold, none_above, still_drained}

-- ---- at later positions

-- a run that is over at a position is over at any later one
over_from_later : (device : DeviceSeen) (mixed later : ℕ) (run : Run) (start : Option ℕ) → mixed ≤ later → IsOverFrom device mixed run start → IsOverFrom device later run start
over_from_later device mixed later run None h over = over
over_from_later device mixed later run (Some start) h over = (
  λ until. let end = over.0 until in omega arith,
  λ unbroken.
      let o = over.1 unbroken in
      record { count = o.count; follow = o.follow; past = (let past = o.past in omega arith); end = λ until l. o.end until (omega arith) },
)

over-later : (device : DeviceSeen) (mixed later : ℕ) (run : Run) → mixed ≤ later → IsOver device mixed run → IsOver device later run
over-later device mixed later run h over = over_from_later device mixed later run run.start h over

-- so are all runs of a slot
pub over-all : (device : DeviceSeen) (mixed later : ℕ) (runs : List Run) → mixed ≤ later → All (IsOver device mixed) runs → All (IsOver device later) runs
over-all device mixed later runs h over = All-weaker (IsOver device mixed) (IsOver device later) (λ run o. over-later device mixed later run h o) runs over

-- and those of a slot that hasn't started stay in their places
pub idle-later : (device : DeviceSeen) (mixed later : ℕ) (book : PlayBook) (runs : List Run) → mixed ≤ later → is_started book.state ≡ false → SlotIsPlaced device mixed book runs → SlotIsPlaced device later book runs
idle-later device mixed later book [] h idle p = p
idle-later device mixed later book (run ∷ runs) h idle p = (
  over-all device mixed later runs h p.0,
  λ none. over-later device mixed later run h (p.1 none),
  λ some. let c = p.2 some in record { dropped = c.dropped; waits = c.waits; goes = λ e. absurd (let not_so : true ≡ false = sym e ∙ idle in cc) },
)

-- ---- where a run ends

-- a started book has given no more than it lasts for
pub given-lasts : (rate : Rate) (book : PlayBook) → IsRatio rate → is_started book.state ≡ true → PlayIsSafe rate book → book.given ≤ len rate (frames_written book)
given-lasts rate book r started safe =
    let allowed = given-allowed book.state rate book r started safe.order in
    let lasts = allowed-lasts book.state rate book r in
    omega arith

-- the newest run lasts as long as its book
pub lasts-newest : (device : DeviceSeen) (book : PlayBook) (run : Run) (runs : List Run) → IsNewest book (run ∷ runs) → len (play_rate_between device run.settings) (length (run_frames run)) ≡ len (play_rate_at device book) (frames_written book)
lasts-newest device book run runs newest =
    ap (len (play_rate_between device run.settings)) (length-frames run.settings run.bytes)
    ∙ ap (λ (settings : Settings). len (play_rate_between device settings) (whole_frames settings (length run.bytes))) newest.0
    ∙ ap (λ bytes. len (play_rate_at device book) (whole_frames book.opening.settings bytes)) newest.1

-- a run that was dropped, after all that was given
dropped_end : (was drained : Bool) (lasts start given mixed until : ℕ) → (was ≡ true → drained ≡ true) → given ≤ lasts → start + given ≤ mixed → ((was ≡ true → given < lasts) → start + given ≡ mixed) → mixed ≤ until
    → min (cond drained (start + lasts) until) (min mixed until) ≡ start + given
dropped_end true true lasts start given mixed until keeps most past next h =
    elim (cases_lt given lasts) [
      | inl less ↦ (let reached = next (λ e. less) in omega arith)
      | inr all ↦ omega arith
    ]
dropped_end true false lasts start given mixed until keeps most past next h = absurd (let not_so : false ≡ true = keeps refl in cc)
dropped_end false true lasts start given mixed until keeps most past next h = let reached = next (λ e. cc) in omega arith
dropped_end false false lasts start given mixed until keeps most past next h = let reached = next (λ e. cc) in omega arith

-- a run that was drained, after all that it lasts for
pub lasted_end : (drained : Bool) (dropped : Option ℕ) (start lasts until : ℕ) → drained ≡ true → dropped ≡ None → start + lasts ≤ until
    → min (cond drained (start + lasts) until) (min (drop_end until dropped) until) ≡ start + lasts
lasted_end true None start lasts until d e l = omega arith
lasted_end true (Some position) start lasts until d e l = cc
lasted_end false dropped start lasts until d e l = cc

-- a run that was dropped ends by there, whether it lasts longer or not
pub dropped-within : (lasted mixed until : ℕ) → min lasted (min mixed until) ≤ mixed
dropped-within lasted mixed until = omega arith

-- and one that was drained by what it lasts for
lasted_within : (drained : Bool) (lasted until rest mixed : ℕ) → drained ≡ true → lasted ≤ mixed → min (cond drained lasted until) rest ≤ mixed
lasted_within true lasted until rest mixed d l = omega arith
lasted_within false lasted until rest mixed d l = cc

-- ---- how an event marks the newest run

-- a run with the marks of an event, from whether its book was started before and after it, drains, and is dropped
abbrev pub told_run : Bool → Bool → Bool → Bool → ℕ → Run → Run
told_run before after draining dropping position run = record run {
  start = cond (not before && after) (Some position) run.start;
  drained = run.drained || draining || (before && not after) && not dropping;
  dropped = cond ((before && not after) && dropping) (Some position) run.dropped;
}

-- a book that neither was started nor is doesn't mark a run as drained
undrained : (drained dropping : Bool) → (drained || false || (false && not false) && not dropping) ≡ drained
undrained true dropping = refl
undrained false dropping = refl

-- a book that ends and drops nothing drains its run
pub drained_now : (drained draining : Bool) → (drained || draining || (true && not false) && not false) ≡ true
drained_now true draining = refl
drained_now false true = refl
drained_now false false = refl

-- a run that is over, of a book with nothing written
over_idle : (before after draining dropping : Bool) (device : DeviceSeen) (mixed : ℕ) (run : Run) → before ≡ false → after ≡ false → draining ≡ false → IsOver device mixed run
    → IsOver device mixed (told_run before after draining dropping mixed run)
over_idle true after draining dropping device mixed run b a d over = cc
over_idle false true draining dropping device mixed run b a d over = cc
over_idle false false true dropping device mixed run b a d over = cc
over_idle false false false dropping device mixed run b a d over = subst (λ (drained : Bool). IsOver device mixed (record run { drained = drained })) (sym (undrained run.drained dropping)) over

-- a run that never started is over
waiting_over : (device : DeviceSeen) (mixed : ℕ) (run : Run) → IsWaiting run → IsOver device mixed run
waiting_over device mixed run w = subst (λ (start : Option ℕ). IsOverFrom device mixed run start) (sym w.start) w.pieces

-- a run that was going, once it is over
going_over : (device : DeviceSeen) (mixed : ℕ) (book : PlayBook) (was run : Run) → run.start ≡ was.start → run.pieces ≡ was.pieces → IsGoing device mixed book was
    → ((start : ℕ) → start + book.given ≤ mixed → (until : ℕ) → run_end device until start run ≤ mixed)
    → ((start : ℕ) → start + book.given ≤ mixed → ((was.drained ≡ true → book.given < lasting device was) → start + book.given ≡ mixed) → (until : ℕ) → mixed ≤ until → run_end device until start run ≡ start + book.given)
    → IsOver device mixed run
going_over device mixed book was run start pieces g within end =
    subst (λ (s : Option ℕ). IsOverFrom device mixed run s) (sym (start ∙ g.started)) (
      λ until. within g.start g.past until,
      λ unbroken.
          let whole : IsUnbroken was = subst (λ (list : List Piece). All (λ (piece : Piece). piece.short ≡ 0) list) pieces unbroken in
          record {
            count = book.given;
            follow = subst (λ (list : List Piece). FollowFrom g.start book.given list) (sym pieces) (g.follow whole);
            past = g.past;
            end = λ until l. end g.start g.past (g.next whole) until l;
          },
    )

-- a run that its book counted, once nothing of it is left
over_counted : (before after draining dropping : Bool) (device : DeviceSeen) (mixed : ℕ) (old : PlayBook) (run : Run) → is_started old.state ≡ before → after ≡ false
    → (before ≡ true → old.given ≤ lasting device run) → (before ≡ true → dropping ≡ false → old.given ≡ lasting device run) → IsCounted device mixed old run
    → IsOver device mixed (told_run before after draining dropping mixed run)
over_counted before true draining dropping device mixed old run b a most whole c = cc
over_counted false false draining dropping device mixed old run b a most whole c =
    let w = c.waits b in
    waiting_over device mixed (told_run false false draining dropping mixed run) (record { start = w.start; pieces = w.pieces })
over_counted true false draining true device mixed old run b a most whole c =
    let now : Run = told_run true false draining true mixed run in
    going_over device mixed old run now refl refl (c.goes b)
    (λ start past until. dropped-within (cond now.drained (start + lasting device run) until) mixed until)
    (λ start past next until l. dropped_end run.drained now.drained (lasting device run) start old.given mixed until (still_drained run.drained draining ((true && not false) && not true)) (most refl) past next l)
over_counted true false draining false device mixed old run b a most whole c =
    let all = whole refl refl in
    let now : Run = told_run true false draining false mixed run in
    going_over device mixed old run now refl refl (c.goes b)
    (λ start past until. lasted_within now.drained (start + lasting device run) until (min (drop_end until run.dropped) until) mixed (drained_now run.drained draining) (omega arith))
    (λ start past next until l.
    lasted_end now.drained run.dropped start (lasting device run) until (drained_now run.drained draining) c.dropped (omega arith) ∙ ap (λ lasted. start + lasted) (sym all))

-- a run that its book goes on to count
counted_told : (before after draining dropping : Bool) (device : DeviceSeen) (mixed : ℕ) (old new : PlayBook) (run : Run) → is_started old.state ≡ before → is_started new.state ≡ after → (before ≡ true → after ≡ true)
    → (before ≡ false → old.given ≡ 0) → new.given ≡ old.given → IsCounted device mixed old run → IsCounted device mixed new (told_run before after draining dropping mixed run)
counted_told false false draining dropping device mixed old new run b a plays none given c = record {
  dropped = c.dropped;
  waits = λ e. let w = c.waits b in record { start = w.start; pieces = w.pieces };
  goes = λ e. absurd (let not_so : true ≡ false = sym e ∙ a in cc);
}
counted_told false true draining dropping device mixed old new run b a plays none given c =
    let nothing = none refl in
    record {
      dropped = c.dropped;
      waits = λ e. absurd (let not_so : true ≡ false = sym a ∙ e in cc);
      goes = λ e. record {
        start = mixed;
        started = refl;
        past = omega arith;
        follow = λ unbroken. subst (λ (list : List Piece). FollowFrom mixed new.given list) (sym (c.waits b).pieces) (given ∙ nothing);
        next = λ unbroken more. omega arith;
      };
    }
counted_told true false draining dropping device mixed old new run b a plays none given c = absurd (let not_so : false ≡ true = plays refl in cc)
counted_told true true draining dropping device mixed old new run b a plays none given c = record {
  dropped = c.dropped;
  waits = λ e. absurd (let not_so : true ≡ false = sym a ∙ e in cc);
  goes = λ e.
      let g = c.goes b in
      let past = g.past in
      record {
        start = g.start;
        started = g.started;
        past = omega arith;
        follow = λ unbroken. subst (λ (count : ℕ). FollowFrom g.start count run.pieces) (sym given) (g.follow unbroken);
        next = λ unbroken more.
            let reached = g.next unbroken (λ was. let less = more (still_drained run.drained draining ((true && not true) && not dropping) was) in omega arith) in
            omega arith;
      };
}

-- What an event that takes no frames does to a book, which counts `counts` bytes before the event marks its newest run: the book goes on
-- with what it gave, or nothing of its run is left.
pub record Moves (device : DeviceSeen) (event : Event) (old new : PlayBook) (counts : ℕ) (runs : List Run) : Type 0 where
  pub idle : counts ≡ 0 → is_started old.state ≡ false
  pub started : is_started new.state ≡ true → 0 < new.written
  pub plays : 0 < new.written → is_started old.state ≡ true → is_started new.state ≡ true
  pub written : 0 < new.written → 0 < counts
  pub given : 0 < new.written → new.given ≡ old.given
  pub newest : new.written ≡ 0 → 0 < counts → IsNewest old runs
  pub whole : EndsWhole (play_rate_at device old) (drops event) old new

-- a book that hasn't started gave nothing
idle_given : (state : PlayState) (rate : Rate) (book : PlayBook) → is_started state ≡ false → IsPlayInOrder rate state book → book.given ≡ 0
idle_given Free rate book e o = o.1.given_none
idle_given Setup rate book e o = o.1.given_none
idle_given Primed rate book e o = o.1.given_none
idle_given Running rate book e o = cc
idle_given (Draining closed) rate book e o = cc

-- nor does it drain
pub idle_undrained : (state : PlayState) → is_started state ≡ false → is_draining state ≡ false
idle_undrained Free e = refl
idle_undrained Setup e = refl
idle_undrained Primed e = refl
idle_undrained Running e = cc
idle_undrained (Draining closed) e = cc

-- what isn't true is false
pub not_true : (b : Bool) → (b ≡ true → ⊥) → b ≡ false
not_true true h = absurd (h refl)
not_true false h = refl

-- the newest run of a book with nothing written is over once the event has marked it
over_marked : (device : DeviceSeen) (mixed : ℕ) (event : Event) (old new : PlayBook) (written : ℕ) (run : Run) (runs : List Run) → IsDevice device → IsRate old.opening.settings.rate → PlayIsSafe (play_rate_at device old) old
    → Moves device event old new written (run ∷ runs) → ArePlaced device mixed old written (run ∷ runs) → new.written ≡ 0 → IsOver device mixed (marked mixed event old new run)
over_marked device mixed event old new zero run runs d s safe m p none =
    let stopped : is_started new.state ≡ false = not_true (is_started new.state) (λ e. let some = m.started e in omega arith) in
    over_idle (is_started old.state) (is_started new.state) (is_draining new.state) (drops event) device mixed run (m.idle refl) stopped (idle_undrained new.state stopped) (p.1 refl)
over_marked device mixed event old new (suc more) run runs d s safe m p none =
    let stopped : is_started new.state ≡ false = not_true (is_started new.state) (λ e. let some = m.started e in omega arith) in
    let lasts = lasts-newest device old run runs (m.newest none (omega arith)) in
    over_counted (is_started old.state) (is_started new.state) (is_draining new.state) (drops event) device mixed old run refl stopped
    (λ e. let most = given-lasts (play_rate_at device old) old (ratio-between device old.opening.settings d s) e safe in omega arith)
    (λ e keeps. m.whole e stopped keeps ∙ sym lasts)
    (p.2 (omega arith))

-- the pieces of a slot stay in their places once an event has marked its newest run
pub placed-marking : (device : DeviceSeen) (mixed : ℕ) (event : Event) (old new : PlayBook) (written : ℕ) (runs : List Run) → IsDevice device → IsRate old.opening.settings.rate → PlayIsSafe (play_rate_at device old) old
    → Moves device event old new written runs → ArePlaced device mixed old written runs → SlotIsPlaced device mixed new (marking mixed event old new runs)
placed-marking device mixed event old new written [] d s safe m p = tt
placed-marking device mixed event old new written (run ∷ runs) d s safe m p = (
  p.0,
  λ none. over_marked device mixed event old new written run runs d s safe m p none,
  λ some. counted_told (is_started old.state) (is_started new.state) (is_draining new.state) (drops event) device mixed old new run refl refl (m.plays some)
      (λ e. idle_given old.state (play_rate_at device old) old e safe.order) (m.given some) (p.2 (m.written some)),
)

-- through an event that brings no bytes
pub placed-left : (device : DeviceSeen) (mixed : ℕ) (event : Event) (old new : PlayBook) (runs : List Run) → IsDevice device → PlayIsSafe (play_rate_at device old) old → SlotIsValid device mixed old runs
    → KeepsGiven (play_rate_at device old) (drops event) old new → IsUntold device mixed old new runs → SlotIsPlaced device mixed old runs → SlotIsPlaced device mixed new (marking mixed event old new runs)
placed-left device mixed event old new runs d safe v k u p =
    placed-marking device mixed event old new old.written runs d v.settings safe (record {
      idle = λ none. not_true (is_started old.state) (λ e. let some = v.started e in omega arith);
      started = u.started;
      plays = λ some. (u.goes_on some).plays;
      written = k.written;
      given = k.given;
      newest = λ none some. v.newest some;
      whole = k.whole;
    }) p

-- ---- a write

-- a run that its book counts with more bytes, which none gets once no more was to come
counted_more : (device : DeviceSeen) (mixed : ℕ) (book : PlayBook) (run : Run) (more : List ℕ) → run.drained ≡ false → IsCounted device mixed book run → IsCounted device mixed book (record run { bytes = run.bytes ++ more })
counted_more device mixed book run more undrained c = record {
  dropped = c.dropped;
  waits = λ e. let w = c.waits e in record { start = w.start; pieces = w.pieces };
  goes = λ e.
      let g = c.goes e in
      record { start = g.start; started = g.started; past = g.past; follow = g.follow; next = λ unbroken l. g.next unbroken (λ was. absurd (let not_so : true ≡ false = sym was ∙ undrained in cc)) };
}

-- a run that begins
counted_begun : (device : DeviceSeen) (mixed : ℕ) (book : PlayBook) (bytes : List ℕ) → is_started book.state ≡ false → IsCounted device mixed book (begun_run book bytes)
counted_begun device mixed book bytes idle = record {
  dropped = refl;
  waits = λ e. record { start = refl; pieces = refl };
  goes = λ e. absurd (let not_so : true ≡ false = sym e ∙ idle in cc);
}

placed_taking_at : (b : Bool) (device : DeviceSeen) (mixed byte : ℕ) (bytes : List ℕ) (old : PlayBook) (written : ℕ) (run : Run) (runs : List Run) → eqb old.written 0 ≡ b → 0 < written → (old.written ≡ 0 → is_started old.state ≡ false)
    → is_draining old.state ≡ false → (0 < old.written → IsNewest old (run ∷ runs)) → SlotIsPlaced device mixed old (run ∷ runs)
    → ArePlaced device mixed old written (cond b (begun_run old (byte ∷ bytes) ∷ run ∷ runs) (record run { bytes = run.bytes ++ byte ∷ bytes } ∷ runs))
placed_taking_at true device mixed byte bytes old written run runs e some idle undrained newest p =
    let none : old.written ≡ 0 = grind (arith, nat_tests) in
    (All-cons (IsOver device mixed) run runs (p.1 none) p.0, λ h. absurd (omega arith), λ h. counted_begun device mixed old (byte ∷ bytes) (idle none))
placed_taking_at false device mixed byte bytes old written run runs e some idle undrained newest p =
    let above : 0 < old.written = grind (arith, nat_tests) in
    (p.0, λ h. absurd (omega arith), λ h. counted_more device mixed old run (byte ∷ bytes) ((newest above).2 ∙ undrained) (p.2 above))

-- the pieces of a slot stand where they did once more bytes came
placed_taking : (device : DeviceSeen) (mixed : ℕ) (bytes : List ℕ) (old new : PlayBook) (runs : List Run) → Accepts (length bytes) old new → (0 < length bytes → is_draining old.state ≡ false)
    → (old.written ≡ 0 → is_started old.state ≡ false) → (0 < old.written → IsNewest old runs) → SlotIsPlaced device mixed old runs → ArePlaced device mixed old new.written (taking bytes old runs)
placed_taking device mixed [] old new [] a undrained idle newest p = p
placed_taking device mixed [] old new (run ∷ runs) a undrained idle newest p = let w = a.written in (p.0, λ h. p.1 (omega arith), λ h. p.2 (omega arith))
placed_taking device mixed (byte ∷ bytes) old new [] a undrained idle newest p =
    let w = a.written in
    (All-nil (IsOver device mixed), λ h. absurd (omega arith), λ h. counted_begun device mixed old (byte ∷ bytes) (idle (none_above old.written newest)))
placed_taking device mixed (byte ∷ bytes) old new (run ∷ runs) a undrained idle newest p =
    let w = a.written in
    placed_taking_at (eqb old.written 0) device mixed byte bytes old new.written run runs refl (omega arith) idle (undrained (omega arith)) newest p

-- through a write
pub placed-taken : (device : DeviceSeen) (mixed : ℕ) (event : Event) (bytes : List ℕ) (old new : PlayBook) (runs : List Run) → IsDevice device → PlayIsSafe (play_rate_at device old) old → SlotIsValid device mixed old runs
    → Accepts (length bytes) old new → (0 < length bytes → is_draining old.state ≡ false) → SlotIsPlaced device mixed old runs → SlotIsPlaced device mixed new (marking mixed event old new (taking bytes old runs))
placed-taken device mixed event bytes old new runs d safe v a undrained p =
    let idle : old.written ≡ 0 → is_started old.state ≡ false = λ none. not_true (is_started old.state) (λ e. let some = v.started e in omega arith) in
    let w = a.written in
    placed-marking device mixed event old new new.written (taking bytes old runs) d v.settings safe (record {
      idle = λ none. idle (omega arith);
      started = a.started v.started;
      plays = λ some. a.goes_on.plays;
      written = λ some. some;
      given = λ some. (let most = a.given in let least = a.given_same in omega arith);
      newest = λ none some. absurd (omega arith);
      whole = λ e stopped keeps. absurd (let not_so : true ≡ false = sym (a.goes_on.plays e) ∙ stopped in cc);
    }) (placed_taking device mixed bytes old new runs a undrained idle v.newest p)
