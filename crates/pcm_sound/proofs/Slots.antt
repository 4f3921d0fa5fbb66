-- A slot's book and runs stay valid through every event.
use Rattle.std.proofs.Common.{◌≡◌, ℕ, suc, zero, ◌+◌, ◌-◌, ◌<◌, ◌≤◌, Bool, true, false, cond, eqb, List, [], ◌∷◌, ◌++◌, length, min, inl, inr, refl, sym, ap, ◌∙◌, subst, arith, All, length-append}
use Rattle.std.specs.Prelude.{nat_lt, nat_le, ◌&&◌, ◌||◌, not}
use Rattle.std.proofs.lemmas.List.Elements.{All-head, All-tail, All-cons, All-nil, All-weaker}
use Rattle.std.proofs.lemmas.Bool.{and_parts}
use Rattle.std.proofs.lemmas.Bool.Decides.{nat_tests}
use Rattle.std.proofs.lemmas.Nat.{pow_pos}
use Rattle.pcm_format.specs.declared.settings.Settings.{Settings}
use Rattle.pcm_oss.specs.declared.event.Event.{Event}
use Rattle.pcm_oss.specs.declared.reply.Answer.TheVariants.{Number}
use Rattle.pcm_oss.specs.declared.reply.Errno.TheVariants.{Again, Busy}
use Rattle.pcm_format.specs.Frames.{whole_frames}
use Rattle.pcm_format.proofs.Whole.{whole_frames-mono}
use Rattle.pcm_rate.specs.declared.rate.Rate.{Rate}
use Rattle.pcm_rate.specs.Rates.{IsRatio, can}
use Rattle.pcm_rate.proofs.Counts.{can-le-len, len_grows}
use Rattle.pcm_feeder.specs.Limits.{IsRate}
use Rattle.pcm_desk.specs.declared.turn.Turn.{Turn}
use Rattle.pcm_desk.specs.declared.play_book.PlayBook.{PlayBook}
use Rattle.pcm_desk.specs.declared.play_book.PlayState.{PlayState}
use Rattle.pcm_desk.specs.declared.play_book.PlayState.TheVariants.{Free, Setup, Primed, Running, Draining}
use Rattle.pcm_desk.specs.declared.here.Here.{Here}
use Rattle.pcm_desk.specs.BookTurns.{refused, telling}
use Rattle.pcm_desk.specs.Device.{DeviceSeen, IsDevice, passed_for, play_rate_between}
use Rattle.pcm_desk.specs.Openings.{fragment_bytes}
use Rattle.pcm_desk.specs.PlayBooks.{accepting, allowed_in, frames_written, giving, is_draining, is_started, play_fill_of, play_free_of, started_at, started_in, takes_none, write_turn}
use Rattle.pcm_desk.specs.PlaySafe.{PlayIsSafe}
use Rattle.pcm_desk.specs.Channels.{mixing, play_rate_at, settling}
use Rattle.pcm_desk.proofs.PlaySafe.{full_at, grown, given-allowed, settings-refilled, settings-settled, state-refilled, undrained, written-refilled}
use Rattle.pcm_desk.proofs.PlayLeaves.{Leaves, Stays, settle-leaves, stays-same}
use Rattle.pcm_desk.proofs.Ratios.{ratio-between}
use Rattle.pcm_sound.specs.Runs.{Piece, Run, begun_run, piece_of, taking, playing, drops, ends, marked, marking, newest_bytes}
use Rattle.pcm_sound.specs.Valid.{PieceIsValid, RunIsValid, HasRate, IsNewest, SlotIsValid, frames_given, given_in}

-- ---- what events do to a book that has something written

-- once started a book stays so, and so it does once draining
pub record GoesOn (old new : PlayBook) : Type 0 where
  pub plays : is_started old.state ≡ true → is_started new.state ≡ true
  pub drains : is_draining old.state ≡ true → is_draining new.state ≡ true

goes_on_same : (old new : PlayBook) → new.state ≡ old.state → GoesOn old new
goes_on_same old new e = record { plays = λ h. ap is_started e ∙ h; drains = λ h. ap is_draining e ∙ h }

draining_started : (state : PlayState) → is_draining state ≡ true → is_started state ≡ true
draining_started Free e = cc
draining_started Setup e = cc
draining_started Primed e = cc
draining_started Running e = refl
draining_started (Draining closed) e = refl

goes_on_unstarted : (old new : PlayBook) → is_started old.state ≡ false → GoesOn old new
goes_on_unstarted old new e = record {
  plays = λ h. absurd (let not_so : true ≡ false = sym h ∙ e in cc);
  drains = λ h. absurd (let not_so : true ≡ false = sym (draining_started old.state h) ∙ e in cc);
}

-- what a write leaves of a book: `accepted` more bytes
pub record Accepts (accepted : ℕ) (old new : PlayBook) : Type 0 where
  pub settings : new.opening.settings ≡ old.opening.settings
  pub eaten : new.eaten ≡ old.eaten
  pub given : new.given ≤ old.given
  pub given_same : old.given ≤ new.given
  pub written : new.written ≡ old.written + accepted
  pub started : (is_started old.state ≡ true → 0 < old.written) → is_started new.state ≡ true → 0 < new.written
  pub goes_on : GoesOn old new

accepts_grown : (accepted : ℕ) (state : PlayState) (old : PlayBook) → ((is_started old.state ≡ true → 0 < old.written) → is_started state ≡ true → 0 < old.written + accepted) → GoesOn old (grown accepted state old)
    → Accepts accepted old (grown accepted state old)
accepts_grown accepted state old h on = record { settings = refl; eaten = refl; given = omega arith; given_same = omega arith; written = refl; started = h; goes_on = on }

-- a fragment that waits was written, and no fragment is empty
filled : (book : PlayBook) → nat_le (fragment_bytes book.opening) (play_fill_of book) ≡ true → 0 < book.written
filled book e = let some = pow_pos book.opening.fragments.log in grind (arith, nat_tests)

accepts_started : (mixed accepted : ℕ) (old : PlayBook) → is_started old.state ≡ false → 0 < old.written + accepted → Accepts accepted old (started_at mixed Running (grown accepted Primed old))
accepts_started mixed accepted old stopped some = record {
  settings = refl;
  eaten = refl;
  given = omega arith;
  given_same = omega arith;
  written = refl;
  started = λ h s. some;
  goes_on = goes_on_unstarted old (started_at mixed Running (grown accepted Primed old)) stopped;
}

accepts_primed : (b : Bool) (mixed accepted : ℕ) (old : PlayBook) → is_started old.state ≡ false → full_at accepted old ≡ b
    → Accepts accepted old (cond b (started_at mixed Running (grown accepted Primed old)) (grown accepted Primed old))
accepts_primed true mixed accepted old stopped e =
    let more : PlayBook = grown accepted Primed old in
    let full = and_parts old.opening.trigger (nat_le (fragment_bytes more.opening) (play_fill_of more)) e in
    accepts_started mixed accepted old stopped (filled more full.1)
accepts_primed false mixed accepted old stopped e = accepts_grown accepted Primed old (λ h s. cc) (goes_on_unstarted old (grown accepted Primed old) stopped)

accepts_setup : (b : Bool) (mixed accepted : ℕ) (old : PlayBook) → is_started old.state ≡ false
    → Accepts accepted old (let primed : PlayBook = cond b (grown accepted Primed old) (grown accepted Setup old) in started_in mixed primed.state primed)
accepts_setup true mixed accepted old stopped = accepts_primed (full_at accepted old) mixed accepted old stopped refl
accepts_setup false mixed accepted old stopped = accepts_grown accepted Setup old (λ h s. cc) (goes_on_unstarted old (grown accepted Setup old) stopped)

accepts_at : (mixed accepted : ℕ) (state : PlayState) (book : PlayBook) → Accepts accepted (record book { state = state }) (accepting mixed accepted (record book { state = state }))
accepts_at mixed accepted Free book = let old : PlayBook = record book { state = Free } in accepts_grown accepted Free old (λ h s. cc) (goes_on_same old (grown accepted Free old) refl)
accepts_at mixed accepted Setup book = accepts_setup (nat_lt 0 (book.written + accepted)) mixed accepted (record book { state = Setup }) refl
accepts_at mixed accepted Primed book = accepts_primed (full_at accepted (record book { state = Primed })) mixed accepted (record book { state = Primed }) refl refl
accepts_at mixed accepted Running book =
    let old : PlayBook = record book { state = Running } in
    accepts_grown accepted Running old (λ h s. let p = h refl in omega arith) (goes_on_same old (grown accepted Running old) refl)
accepts_at mixed accepted (Draining closed) book =
    let old : PlayBook = record book { state = Draining closed } in
    accepts_grown accepted (Draining closed) old (λ h s. let p = h refl in omega arith) (goes_on_same old (grown accepted (Draining closed) old) refl)

-- an accepted write adds its bytes
pub accepts : (mixed accepted : ℕ) (book : PlayBook) → Accepts accepted book (accepting mixed accepted book)
accepts mixed accepted book = accepts_at mixed accepted book.state book

-- nothing accepted leaves the book
pub accepts_none : (book : PlayBook) → Accepts 0 book book
accepts_none book = record { settings = refl; eaten = refl; given = omega arith; given_same = omega arith; written = omega arith; started = λ h s. h s; goes_on = goes_on_same book book refl }

-- a write adds what it accepts, which is no more than it has, and nothing while the book drains
pub record WritesSome (length : ℕ) (old new : PlayBook) : Type 0 where
  pub accepted : ℕ
  pub within : accepted ≤ length
  pub undrained : 0 < accepted → is_draining old.state ≡ false
  pub accepts : Accepts accepted old new

pub writes-nothing : (length : ℕ) (book : PlayBook) → WritesSome length book book
writes-nothing length book = record { accepted = 0; within = omega arith; undrained = λ h. absurd (omega arith); accepts = accepts_none book }

-- a write to a book that doesn't drain
write_undrained : (full : Bool) (mixed length : ℕ) (book : PlayBook) → is_draining book.state ≡ false
    → WritesSome length book (cond {A = Turn PlayBook} full (refused Again book) (telling (Number (min length (play_free_of book))) (accepting mixed (min length (play_free_of book)) book))).book
write_undrained true mixed length book more = writes-nothing length book
write_undrained false mixed length book more =
    record { accepted = min length (play_free_of book); within = omega arith; undrained = λ h. more; accepts = accepts mixed (min length (play_free_of book)) book }

write_turn-writes_at : (busy : Bool) (mixed length : ℕ) (book : PlayBook) → takes_none book.state ≡ busy
    → WritesSome length book (cond {A = Turn PlayBook} busy (refused Busy book) (cond {A = Turn PlayBook} (nat_lt 0 length && eqb (play_free_of book) 0) (refused Again book) (telling (Number (min length (play_free_of book))) (accepting mixed (min length (play_free_of book)) book)))).book
write_turn-writes_at true mixed length book e = writes-nothing length book
write_turn-writes_at false mixed length book e = write_undrained (nat_lt 0 length && eqb (play_free_of book) 0) mixed length book (undrained book.state e)

pub write_turn-writes : (here : Here) (length : ℕ) (book : PlayBook) → WritesSome length book (write_turn here length book).book
write_turn-writes here length book = write_turn-writes_at (takes_none book.state) here.mixed length book refl

-- ---- how many frames a run gives

can_grows : (rate : Rate) (n m : ℕ) → 0 < rate.src → n ≤ m → can rate n ≤ can rate m
can_grows rate n m src h = len_grows rate (n - rate.lookahead) (m - rate.lookahead) src (omega arith)

-- more frames give no fewer
pub frames_given-grows : (rate : Rate) (drained : Bool) (n m : ℕ) → IsRatio rate → n ≤ m → frames_given rate drained n ≤ frames_given rate drained m
frames_given-grows rate true n m r h = len_grows rate n m r.src h
frames_given-grows rate false n m r h = can_grows rate n m r.src h

-- nor do they once no more comes
pub frames_given-drained : (rate : Rate) (drained now : Bool) (n : ℕ) → IsRatio rate → (drained ≡ true → now ≡ true) → frames_given rate drained n ≤ frames_given rate now n
frames_given-drained rate true true n r h = omega arith
frames_given-drained rate true false n r h = absurd (let not_so : false ≡ true = h refl in cc)
frames_given-drained rate false true n r h = can-le-len rate n r.src
frames_given-drained rate false false n r h = omega arith

-- what a started book allows is what its run gives
frames_given-allowed : (state : PlayState) (rate : Rate) (book : PlayBook) → is_started state ≡ true → allowed_in rate state book ≡ frames_given rate (is_draining state) (frames_written book)
frames_given-allowed Free rate book e = cc
frames_given-allowed Setup rate book e = cc
frames_given-allowed Primed rate book e = cc
frames_given-allowed Running rate book e = refl
frames_given-allowed (Draining closed) rate book e = refl

later_piece : (mixed later most more : ℕ) (piece : Piece) → mixed ≤ later → most ≤ more → PieceIsValid mixed most piece → PieceIsValid later more piece
later_piece mixed later most more piece h g v =
    let past = v.past in
    let inside = v.inside in
    record { past = omega arith; inside = omega arith }

-- pieces stay valid at a later position and among more frames
later_pieces : (mixed later most more : ℕ) (pieces : List Piece) → mixed ≤ later → most ≤ more → All (PieceIsValid mixed most) pieces → All (PieceIsValid later more) pieces
later_pieces mixed later most more pieces h g v = All-weaker (PieceIsValid mixed most) (PieceIsValid later more) (λ piece p. later_piece mixed later most more piece h g p) pieces v

-- ---- the runs of a slot, before an event marks them

-- the newest run has the bytes that a book counts, and is marked as drained or not
abbrev pub IsCarried : Bool → PlayBook → List Run → Type 0
IsCarried drained book [] = ⊥
IsCarried drained book (run ∷ runs) = (run.settings ≡ book.opening.settings) × (length run.bytes ≡ book.written) × (run.drained ≡ drained)

-- A slot's book after an event, and its runs before the event marks them: the newest is marked as the old book was.
pub record IsUntold (device : DeviceSeen) (mixed : ℕ) (old new : PlayBook) (runs : List Run) : Type 0 where
  pub settings : IsRate new.opening.settings.rate
  pub started : is_started new.state ≡ true → 0 < new.written
  pub goes_on : 0 < new.written → GoesOn old new
  pub newest : 0 < new.written → IsCarried (is_draining old.state) new runs
  pub pieces : All (RunIsValid device mixed) runs
  pub own : All HasRate runs

carried_newest : (old new : PlayBook) (runs : List Run) → new.opening.settings ≡ old.opening.settings → new.written ≡ old.written → IsNewest old runs → IsCarried (is_draining old.state) new runs
carried_newest old new [] settings written h = h
carried_newest old new (run ∷ runs) settings written h = (h.0 ∙ sym settings, h.1 ∙ sym written, h.2)

-- a book whose counts stay
untold_stays : (device : DeviceSeen) (mixed : ℕ) (old new : PlayBook) (runs : List Run) → Stays old new → IsRate new.opening.settings.rate → SlotIsValid device mixed old runs → IsUntold device mixed old new runs
untold_stays device mixed old new runs s rate v = record {
  settings = rate;
  started = s.starts v.started;
  goes_on = λ h. record { plays = s.plays; drains = s.drains };
  newest = λ h. carried_newest old new runs s.settings s.written (v.newest (let written = s.written in omega arith));
  pieces = v.pieces;
  own = v.own;
}

-- an event that leaves the book
pub untold-same : (device : DeviceSeen) (mixed : ℕ) (book : PlayBook) (runs : List Run) → SlotIsValid device mixed book runs → IsUntold device mixed book book runs
untold-same device mixed book runs v = untold_stays device mixed book book runs (stays-same book) v.settings v

-- a book with nothing written is valid over any runs of the past
pub untold-empty : (device : DeviceSeen) (mixed : ℕ) (old new : PlayBook) (runs : List Run) → new.written ≡ 0 → is_started new.state ≡ false → IsRate new.opening.settings.rate → All (RunIsValid device mixed) runs → All HasRate runs
    → IsUntold device mixed old new runs
untold-empty device mixed old new runs none stopped settings pieces own = record {
  settings = settings;
  started = λ e. absurd (let not_so : true ≡ false = sym e ∙ stopped in cc);
  goes_on = λ h. absurd (omega arith);
  newest = λ h. absurd (omega arith);
  pieces = pieces;
  own = own;
}

-- ---- how an event marks them

-- a run is marked as drained exactly where its book drains, since a book that goes on ends nothing
marked_drained : (drained now before after keeps : Bool) → (drained ≡ true → now ≡ true) → (before ≡ true → after ≡ true) → (drained || now || (before && not after) && keeps) ≡ now
marked_drained true true before after keeps drains plays = refl
marked_drained true false before after keeps drains plays = sym (drains refl)
marked_drained false true before after keeps drains plays = refl
marked_drained false false true true keeps drains plays = refl
marked_drained false false true false keeps drains plays = absurd (let not_so : false ≡ true = plays refl in cc)
marked_drained false false false after keeps drains plays = refl

-- a run that is marked so stays so
pub still_drained : (drained a b : Bool) → drained ≡ true → (drained || a || b) ≡ true
still_drained true a b e = refl
still_drained false a b e = cc

marked_pieces : (device : DeviceSeen) (mixed position : ℕ) (event : Event) (old new : PlayBook) (run : Run) → IsDevice device → HasRate run → RunIsValid device mixed run → RunIsValid device mixed (marked position event old new run)
marked_pieces device mixed position event old new run d s v =
    later_pieces mixed mixed (given_in device run) (given_in device (marked position event old new run)) run.pieces (omega arith)
    (frames_given-drained (play_rate_between device run.settings) run.drained (marked position event old new run).drained (whole_frames run.settings (length run.bytes)) (ratio-between device run.settings d s)
    (still_drained run.drained (is_draining new.state) (ends old new && not (drops event)))) v

marked_newest : (position : ℕ) (event : Event) (old new : PlayBook) (run : Run) (runs : List Run) → GoesOn old new → IsCarried (is_draining old.state) new (run ∷ runs) → IsNewest new (marked position event old new run ∷ runs)
marked_newest position event old new run runs on c =
    (c.0, c.1, marked_drained run.drained (is_draining new.state) (is_started old.state) (is_started new.state) (not (drops event)) (λ e. on.drains (sym c.2 ∙ e)) on.plays)

-- a slot is valid once the event has marked its newest run
pub valid-marking : (device : DeviceSeen) (mixed position : ℕ) (event : Event) (old new : PlayBook) (runs : List Run) → IsDevice device → IsUntold device mixed old new runs → SlotIsValid device mixed new (marking position event old new runs)
valid-marking device mixed position event old new [] d u = record {
  settings = u.settings;
  started = u.started;
  newest = λ h. absurd (u.newest h);
  pieces = u.pieces;
  own = u.own;
}
valid-marking device mixed position event old new (run ∷ runs) d u =
    let s = All-head HasRate run runs u.own in
    record {
      settings = u.settings;
      started = u.started;
      newest = λ h. marked_newest position event old new run runs (u.goes_on h) (u.newest h);
      pieces = All-cons (RunIsValid device mixed) (marked position event old new run) runs
          (marked_pieces device mixed position event old new run d s (All-head (RunIsValid device mixed) run runs u.pieces)) (All-tail (RunIsValid device mixed) run runs u.pieces);
      own = All-cons HasRate (marked position event old new run) runs s (All-tail HasRate run runs u.own);
    }

-- ---- a write

given_in-longer : (device : DeviceSeen) (run : Run) (more : List ℕ) → IsDevice device → HasRate run → given_in device run ≤ given_in device (record run { bytes = run.bytes ++ more })
given_in-longer device run more d s =
    frames_given-grows (play_rate_between device run.settings) run.drained (whole_frames run.settings (length run.bytes)) (whole_frames run.settings (length (run.bytes ++ more))) (ratio-between device run.settings d s)
    (whole_frames-mono run.settings (length run.bytes) (length (run.bytes ++ more)) (omega (arith, length-append run.bytes more)))

longer : (device : DeviceSeen) (mixed : ℕ) (run : Run) (more : List ℕ) → IsDevice device → HasRate run → RunIsValid device mixed run → RunIsValid device mixed (record run { bytes = run.bytes ++ more })
longer device mixed run more d s v =
    later_pieces mixed mixed (given_in device run) (given_in device (record run { bytes = run.bytes ++ more })) run.pieces (omega arith) (given_in-longer device run more d s) v

no_pieces : (device : DeviceSeen) (mixed : ℕ) (book : PlayBook) (bytes : List ℕ) → RunIsValid device mixed (begun_run book bytes)
no_pieces device mixed book bytes = All-nil (PieceIsValid mixed (given_in device (begun_run book bytes)))

-- the pieces of a slot stay valid once more bytes came
pub taking-pieces : (device : DeviceSeen) (mixed : ℕ) (bytes : List ℕ) (book : PlayBook) (runs : List Run) → IsDevice device → All HasRate runs → All (RunIsValid device mixed) runs → All (RunIsValid device mixed) (taking bytes book runs)
taking-pieces device mixed [] book runs d s v = v
taking-pieces device mixed (byte ∷ bytes) book [] d s v = All-cons (RunIsValid device mixed) _ [] (no_pieces device mixed book (byte ∷ bytes)) v
taking-pieces device mixed (byte ∷ bytes) book (run ∷ runs) d s v =
    elim (eqb book.written 0) as (λ (b : Bool). All (RunIsValid device mixed) (cond b (begun_run book (byte ∷ bytes) ∷ run ∷ runs) (record run { bytes = run.bytes ++ byte ∷ bytes } ∷ runs))) [
      | true ↦ All-cons (RunIsValid device mixed) (begun_run book (byte ∷ bytes)) (run ∷ runs) (no_pieces device mixed book (byte ∷ bytes)) v
      | false ↦ All-cons (RunIsValid device mixed) (record run { bytes = run.bytes ++ byte ∷ bytes }) runs
          (longer device mixed run (byte ∷ bytes) d (All-head HasRate run runs s) (All-head (RunIsValid device mixed) run runs v)) (All-tail (RunIsValid device mixed) run runs v)
    ]

-- what is not above 0 is 0
pub none_above : (n : ℕ) → (0 < n → ⊥) → n ≡ 0
none_above zero h = refl
none_above (suc n) h = absurd (h (omega arith))

newest_at : (b : Bool) (byte : ℕ) (bytes : List ℕ) (old new : PlayBook) (run : Run) (runs : List Run) → eqb old.written 0 ≡ b → Accepts (length (byte ∷ bytes)) old new → is_draining old.state ≡ false
    → (0 < old.written → IsNewest old (run ∷ runs))
    → IsCarried (is_draining old.state) new (cond b (begun_run old (byte ∷ bytes) ∷ run ∷ runs) (record run { bytes = run.bytes ++ byte ∷ bytes } ∷ runs))
newest_at true byte bytes old new run runs e a more newest = let w = a.written in (sym a.settings, grind (arith, nat_tests), sym more)
newest_at false byte bytes old new run runs e a more newest =
    let w = a.written in
    let above : 0 < old.written = grind (arith, nat_tests) in
    let n = newest above in
    (n.0 ∙ sym a.settings, omega (arith, n.1, length-append run.bytes (byte ∷ bytes)), n.2)

-- the newest run has the bytes that were written
pub taking-newest : (bytes : List ℕ) (old new : PlayBook) (runs : List Run) → Accepts (length bytes) old new → (0 < length bytes → is_draining old.state ≡ false) → (0 < old.written → IsNewest old runs) → 0 < new.written
    → IsCarried (is_draining old.state) new (taking bytes old runs)
taking-newest [] old new [] a more newest h = let w = a.written in newest (omega arith)
taking-newest [] old new (run ∷ runs) a more newest h =
    let w = a.written in
    let n = newest (omega arith) in
    (n.0 ∙ sym a.settings, omega (arith, n.1), n.2)
taking-newest (byte ∷ bytes) old new [] a more newest h =
    let w = a.written in
    let none = none_above old.written newest in
    (sym a.settings, omega arith, sym (more (omega arith)))
taking-newest (byte ∷ bytes) old new (run ∷ runs) a more newest h = newest_at (eqb old.written 0) byte bytes old new run runs refl a (more (omega arith)) newest

-- the runs of a slot keep their rates
pub taking-own : (bytes : List ℕ) (book : PlayBook) (runs : List Run) → IsRate book.opening.settings.rate → All HasRate runs → All HasRate (taking bytes book runs)
taking-own [] book runs s v = v
taking-own (byte ∷ bytes) book [] s v = All-cons HasRate (begun_run book (byte ∷ bytes)) [] s v
taking-own (byte ∷ bytes) book (run ∷ runs) s v =
    elim (eqb book.written 0) as (λ (b : Bool). All HasRate (cond b (begun_run book (byte ∷ bytes) ∷ run ∷ runs) (record run { bytes = run.bytes ++ byte ∷ bytes } ∷ runs))) [
      | true ↦ All-cons HasRate (begun_run book (byte ∷ bytes)) (run ∷ runs) s v
      | false ↦ All-cons HasRate (record run { bytes = run.bytes ++ byte ∷ bytes }) runs (All-head HasRate run runs v) (All-tail HasRate run runs v)
    ]

-- a slot stays valid when its book accepts bytes
pub untold-taking : (device : DeviceSeen) (mixed : ℕ) (bytes : List ℕ) (old new : PlayBook) (runs : List Run) → IsDevice device → Accepts (length bytes) old new → (0 < length bytes → is_draining old.state ≡ false)
    → SlotIsValid device mixed old runs → IsUntold device mixed old new (taking bytes old runs)
untold-taking device mixed bytes old new runs d a more v = record {
  settings = subst (λ (settings : Settings). IsRate settings.rate) (sym a.settings) v.settings;
  started = a.started v.started;
  goes_on = λ h. a.goes_on;
  newest = taking-newest bytes old new runs a more v.newest;
  pieces = taking-pieces device mixed bytes old runs d v.own v.pieces;
  own = taking-own bytes old runs v.settings v.own;
}

-- ---- a close, a request

-- a slot stays valid where the counts of its book stay, or nothing of its run
pub untold-leaves : (device : DeviceSeen) (mixed : ℕ) (old new : PlayBook) (runs : List Run) → Leaves old new → IsRate new.opening.settings.rate → SlotIsValid device mixed old runs → IsUntold device mixed old new runs
untold-leaves device mixed old new runs l rate v =
    elim l.counts [
      | inl kept ↦ untold_stays device mixed old new runs kept rate v
      | inr over ↦ untold-empty device mixed old new runs over.written over.stopped rate v.pieces v.own
    ]

-- ---- an interrupt

-- the newest run gives what its book allows
given_in-newest : (device : DeviceSeen) (book : PlayBook) (run : Run) (runs : List Run) → IsNewest book (run ∷ runs) → given_in device run ≡ frames_given (play_rate_at device book) (is_draining book.state) (frames_written book)
given_in-newest device book run runs newest =
    ap (λ (settings : Settings). frames_given (play_rate_between device settings) run.drained (whole_frames settings (length run.bytes))) newest.0
    ∙ ap (λ bytes. frames_given (play_rate_at device book) run.drained (whole_frames book.opening.settings bytes)) newest.1
    ∙ ap (λ (drained : Bool). frames_given (play_rate_at device book) drained (frames_written book)) newest.2

given_within : (given n most : ℕ) → given ≤ most → given + min n (most - given) ≤ most
given_within given n most h = omega arith

piece-valid : (device : DeviceSeen) (mixed n : ℕ) (book : PlayBook) (run : Run) (runs : List Run) → IsDevice device → is_started book.state ≡ true → PlayIsSafe (play_rate_at device book) book → SlotIsValid device mixed book (run ∷ runs)
    → PieceIsValid (mixed + n) (given_in device run) (piece_of device mixed n book)
piece-valid device mixed n book run runs d e safe v =
    let rate : Rate = play_rate_at device book in
    let count : ℕ = giving rate n book in
    let same : given_in device run ≡ allowed_in rate book.state book =
    given_in-newest device book run runs (v.newest (v.started e)) ∙ sym (frames_given-allowed book.state rate book e) in
    let gave = given-allowed book.state rate book (ratio-between device book.opening.settings d v.settings) e safe.order in
    record {
      past = omega arith;
      inside = subst (λ most. book.given + count ≤ most) (sym same) (given_within book.given n (allowed_in rate book.state book) gave);
    }

later_runs : (device : DeviceSeen) (mixed n : ℕ) (runs : List Run) → All (RunIsValid device mixed) runs → All (RunIsValid device (mixed + n)) runs
later_runs device mixed n runs v =
    All-weaker (RunIsValid device mixed) (RunIsValid device (mixed + n)) (λ run r. later_pieces mixed (mixed + n) (given_in device run) (given_in device run) run.pieces (omega arith) (omega arith) r) runs v

playing-pieces_at : (b : Bool) (device : DeviceSeen) (mixed n : ℕ) (book : PlayBook) (run : Run) (runs : List Run) → IsDevice device → (b ≡ true → is_started book.state ≡ true) → PlayIsSafe (play_rate_at device book) book → SlotIsValid device mixed book (run ∷ runs)
    → All (RunIsValid device (mixed + n)) (cond b (record run { pieces = piece_of device mixed n book ∷ run.pieces } ∷ runs) (run ∷ runs))
playing-pieces_at true device mixed n book run runs d e safe v =
    let later = later_runs device mixed n (run ∷ runs) v.pieces in
    All-cons (RunIsValid device (mixed + n)) (record run { pieces = piece_of device mixed n book ∷ run.pieces }) runs
    (All-cons (PieceIsValid (mixed + n) (given_in device run)) (piece_of device mixed n book) run.pieces (piece-valid device mixed n book run runs d (e refl) safe v) (All-head (RunIsValid device (mixed + n)) run runs later))
    (All-tail (RunIsValid device (mixed + n)) run runs later)
playing-pieces_at false device mixed n book run runs d e safe v = later_runs device mixed n (run ∷ runs) v.pieces

-- the pieces of a slot stay valid through an interrupt
pub playing-pieces : (device : DeviceSeen) (mixed n : ℕ) (book : PlayBook) (runs : List Run) → IsDevice device → PlayIsSafe (play_rate_at device book) book → SlotIsValid device mixed book runs
    → All (RunIsValid device (mixed + n)) (playing device mixed n book runs)
playing-pieces device mixed n book [] d safe v = All-nil (RunIsValid device (mixed + n))
playing-pieces device mixed n book (run ∷ runs) d safe v =
    playing-pieces_at (is_started book.state && nat_lt 0 n) device mixed n book run runs d (λ e. (and_parts (is_started book.state) (nat_lt 0 n) e).0) safe v

-- the runs of a slot keep their rates through an interrupt
pub playing-own : (device : DeviceSeen) (mixed n : ℕ) (book : PlayBook) (runs : List Run) → All HasRate runs → All HasRate (playing device mixed n book runs)
playing-own device mixed n book [] v = v
playing-own device mixed n book (run ∷ runs) v =
    elim (is_started book.state && nat_lt 0 n) as (λ (b : Bool). All HasRate (cond b (record run { pieces = piece_of device mixed n book ∷ run.pieces } ∷ runs) (run ∷ runs))) [
      | true ↦ All-cons HasRate (record run { pieces = piece_of device mixed n book ∷ run.pieces }) runs (All-head HasRate run runs v) (All-tail HasRate run runs v)
      | false ↦ v
    ]

-- the newest run keeps its bytes and marks through an interrupt
pub playing-newest : (device : DeviceSeen) (mixed n : ℕ) (old new : PlayBook) (runs : List Run) → new.opening.settings ≡ old.opening.settings → new.written ≡ old.written → new.state ≡ old.state → IsNewest old runs
    → IsNewest new (playing device mixed n old runs)
playing-newest device mixed n old new [] s w e h = h
playing-newest device mixed n old new (run ∷ runs) s w e h =
    elim (is_started old.state && nat_lt 0 n) as (λ (b : Bool). IsNewest new (cond b (record run { pieces = piece_of device mixed n old ∷ run.pieces } ∷ runs) (run ∷ runs))) [
      | true ↦ (h.0 ∙ sym s, h.1 ∙ sym w, h.2 ∙ sym (ap is_draining e))
      | false ↦ (h.0 ∙ sym s, h.1 ∙ sym w, h.2 ∙ sym (ap is_draining e))
    ]

-- a book with other counts is valid over the runs of an interrupt
valid_played : (device : DeviceSeen) (mixed n : ℕ) (old new : PlayBook) (runs : List Run) → IsDevice device → PlayIsSafe (play_rate_at device old) old → SlotIsValid device mixed old runs
    → new.opening.settings ≡ old.opening.settings → new.written ≡ old.written → new.state ≡ old.state → SlotIsValid device (mixed + n) new (playing device mixed n old runs)
valid_played device mixed n old new runs d safe v settings written state = record {
  settings = subst (λ (s : Settings). IsRate s.rate) (sym settings) v.settings;
  started = λ e. let some = v.started (sym (ap is_started state) ∙ e) in omega arith;
  newest = λ h. playing-newest device mixed n old new runs settings written state (v.newest (omega arith));
  pieces = playing-pieces device mixed n old runs d safe v;
  own = playing-own device mixed n old runs v.own;
}

-- a slot stays valid through an interrupt that mixes n frames
pub valid-mixing : (device : DeviceSeen) (mixed n : ℕ) (book : PlayBook) (runs : List Run) → IsDevice device → PlayIsSafe (play_rate_at device book) book → SlotIsValid device mixed book runs
    → SlotIsValid device (mixed + n) (mixing device mixed n book) (playing device mixed n book runs)
valid-mixing device mixed zero book runs d safe v = valid_played device mixed 0 book book runs d safe v refl refl refl
valid-mixing device mixed (suc n) book runs d safe v =
    let rate : Rate = play_rate_at device book in
    valid_played device mixed (suc n) book (mixing device mixed (suc n) book) runs d safe v (settings-refilled rate mixed (suc n) book) (written-refilled rate mixed (suc n) book) (state-refilled rate mixed (suc n) book)

-- what is left of a book is left of any in its state
untold_state : (device : DeviceSeen) (mixed : ℕ) (old between new : PlayBook) (runs : List Run) → between.state ≡ old.state → IsUntold device mixed between new runs → IsUntold device mixed old new runs
untold_state device mixed old between new runs same u = record {
  settings = u.settings;
  started = u.started;
  goes_on = λ h. let on = u.goes_on h in record { plays = λ e. on.plays (ap is_started same ∙ e); drains = λ e. on.drains (ap is_draining same ∙ e) };
  newest = λ h. subst (λ (state : PlayState). IsCarried (is_draining state) new runs) same (u.newest h);
  pieces = u.pieces;
  own = u.own;
}

-- an interrupt leaves the state of a book as long as its run isn't over
pub state-mixing : (device : DeviceSeen) (mixed n : ℕ) (book : PlayBook) → (mixing device mixed n book).state ≡ book.state
state-mixing device mixed zero book = refl
state-mixing device mixed (suc n) book = state-refilled (play_rate_at device book) mixed (suc n) book

-- what a hand-over leaves of a slot, before it marks the newest run
pub untold-settling : (device : DeviceSeen) (mixed handed : ℕ) (book : PlayBook) (runs : List Run) → SlotIsValid device mixed book runs → IsUntold device mixed book (settling device handed book) runs
untold-settling device mixed handed book runs v =
    let rate : Rate = play_rate_at device book in
    untold-leaves device mixed book (settling device handed book) runs (settle-leaves rate (passed_for device handed) book)
    (subst (λ (settings : Settings). IsRate settings.rate) (sym (settings-settled rate (passed_for device handed) book)) v.settings) v

-- what an interrupt that mixes n frames leaves of it once the device has been given `handed` frames
pub untold-passing : (device : DeviceSeen) (mixed n handed : ℕ) (book : PlayBook) (runs : List Run) → SlotIsValid device (mixed + n) (mixing device mixed n book) (playing device mixed n book runs)
    → IsUntold device (mixed + n) book (settling device handed (mixing device mixed n book)) (playing device mixed n book runs)
untold-passing device mixed n handed book runs v =
    let between : PlayBook = mixing device mixed n book in
    untold_state device (mixed + n) book between (settling device handed between) (playing device mixed n book runs) (state-mixing device mixed n book)
    (untold-settling device (mixed + n) handed between (playing device mixed n book runs) v)

-- ---- the bytes of the newest run

-- marks keep them
pub newest_bytes-marking : (position : ℕ) (event : Event) (old new : PlayBook) (runs : List Run) → newest_bytes (marking position event old new runs) ≡ newest_bytes runs
newest_bytes-marking position event old new [] = refl
newest_bytes-marking position event old new (run ∷ runs) = refl

-- and so does an interrupt
pub newest_bytes-playing : (device : DeviceSeen) (position n : ℕ) (book : PlayBook) (runs : List Run) → newest_bytes (playing device position n book runs) ≡ newest_bytes runs
newest_bytes-playing device position n book [] = refl
newest_bytes-playing device position n book (run ∷ runs) =
    elim (is_started book.state && nat_lt 0 n) as (λ (b : Bool). newest_bytes (cond b (record run { pieces = piece_of device position n book ∷ run.pieces } ∷ runs) (run ∷ runs)) ≡ run.bytes) [ true ↦ refl | false ↦ refl ]
