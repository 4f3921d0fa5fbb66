-- A mapped slot stays valid through every event: its runs and their pieces follow what its book does.
use Rattle.std.proofs.Common.{◌≡◌, ℕ, suc, zero, ◌+◌, ◌-◌, ◌*◌, ◌≤◌, Bool, true, false, cond, List, [], ◌∷◌, length, map, min, Some, inl, inr, refl, sym, ap, ◌∙◌, subst, arith, All, length-append}
use Rattle.std.specs.Prelude.{nat_lt, not, ◌&&◌}
use Rattle.std.specs.List.{range_with_len}
use Rattle.std.proofs.Math.Nat.{mul-le-mul_right}
use Rattle.std.proofs.lemmas.List.Elements.{All-head, All-tail, All-cons, All-nil, All-weaker}
use Rattle.std.proofs.lemmas.Bool.Decides.{nat_tests}
use Rattle.pcm_format.specs.declared.settings.Settings.{Settings}
use Rattle.pcm_format.specs.Frames.{frame_bytes, whole_frames}
use Rattle.pcm_format.proofs.Whole.{frames_there, whole_frames-mono}
use Rattle.pcm_rate.specs.declared.rate.Rate.{Rate}
use Rattle.pcm_rate.specs.Rates.{IsRatio, need}
use Rattle.pcm_rate.proofs.Counts.{can-greatest, need_grows}
use Rattle.pcm_feeder.specs.Limits.{IsRate}
use Rattle.pcm_oss.specs.declared.request.Request.{Request}
use Rattle.pcm_desk.specs.declared.map_book.MapBook.{MapBook}
use Rattle.pcm_desk.specs.declared.run_state.RunState.{RunState}
use Rattle.pcm_desk.specs.declared.run_state.RunState.TheVariants.{Free, Setup, Running}
use Rattle.pcm_desk.specs.Device.{DeviceSeen, IsDevice, play_rate_between}
use Rattle.pcm_desk.specs.RunStates.{is_running, is_in_setup}
use Rattle.pcm_desk.specs.MapBooks.{map_begun, map_closed, map_gives, map_refilled_in, poke_turn, taken_of}
use Rattle.pcm_desk.specs.MapRequests.{map_ask}
use Rattle.pcm_desk.specs.MapSafe.{IsMapInOrder, MapIsSafe}
use Rattle.pcm_desk.specs.Channels.{map_mixing, map_rate_at}
use Rattle.pcm_desk.proofs.MapAsking.{map-asked-kept, map-asked-rate}
use Rattle.pcm_desk.proofs.MapLeaves.{map-asked-leaves}
use Rattle.pcm_desk.proofs.MapSafe.{map-safe-asked, map-safe-begun, map-safe-closed, map-safe-refilled}
use Rattle.pcm_desk.proofs.Ratios.{ratio-between}
use Rattle.pcm_desk.proofs.Refused.{poke-kept}
use Rattle.pcm_sound.specs.Runs.{Piece, Run}
use Rattle.pcm_sound.specs.MapRuns.{map_marking, map_piece, map_played, map_playing, map_stopped, mapped_run, area_taken}
use Rattle.pcm_sound.specs.Plain.{IsUnbroken, lasting}
use Rattle.pcm_sound.specs.Places.{FollowFrom, IsGoingMap, IsOver, IsOverFrom, MapArePlaced}
use Rattle.pcm_sound.specs.Valid.{HasRate, MapIsNewest, MapIsValid, PieceIsValid, RunIsValid, frames_given, given_in}
use Rattle.pcm_sound.proofs.Places.{dropped-within, over-all}
use Rattle.pcm_sound.proofs.Slots.{frames_given-grows}

-- ---- what an event that mixes nothing leaves of a book

-- the counts of a mapped book are in order by the rate between it and the mix
abbrev pub MapIsSafeAt : DeviceSeen → MapBook → Type 0
MapIsSafeAt device book = MapIsSafe (map_rate_at device book) book

-- a run goes on as it was
pub record GoesOn (old new : MapBook) : Type 0 where
  pub settings : new.opening.settings ≡ old.opening.settings
  pub eaten : new.eaten ≡ old.eaten
  pub given : new.given ≡ old.given

-- the book stays in order, a run goes on as it was, and one that starts has given nothing
pub record Keeps (device : DeviceSeen) (old new : MapBook) : Type 0 where
  pub rate : IsRate old.opening.settings.rate → IsRate new.opening.settings.rate
  pub safe : MapIsSafeAt device old → MapIsSafeAt device new
  pub goes : MapIsSafeAt device old → is_running old.state ≡ true → is_running new.state ≡ true → GoesOn old new
  pub fresh : MapIsSafeAt device old → is_running old.state ≡ false → is_running new.state ≡ true → new.given ≡ 0

pub keeps-same : (device : DeviceSeen) (book : MapBook) → Keeps device book book
keeps-same device book = record {
  rate = λ r. r;
  safe = λ s. s;
  goes = λ s was is. record { settings = refl; eaten = refl; given = refl };
  fresh = λ s was is. absurd (let not_so : true ≡ false = sym is ∙ was in cc);
}

-- one that isn't running
stopped : (device : DeviceSeen) (old new : MapBook) → is_running new.state ≡ false → (IsRate old.opening.settings.rate → IsRate new.opening.settings.rate) → (MapIsSafeAt device old → MapIsSafeAt device new) → Keeps device old new
stopped device old new off rate safe = record {
  rate = rate;
  safe = safe;
  goes = λ s was is. absurd (let not_so : true ≡ false = sym is ∙ off in cc);
  fresh = λ s was is. absurd (let not_so : true ≡ false = sym is ∙ off in cc);
}

pub keeps-begun : (device : DeviceSeen) (old : MapBook) (settings : Settings) → IsRate settings.rate → Keeps device old (map_begun settings)
keeps-begun device old settings rate = stopped device old (map_begun settings) refl (λ r. rate) (λ s. map-safe-begun (play_rate_between device settings) settings)

pub keeps-closed : (device : DeviceSeen) (book : MapBook) → Keeps device book (map_closed book)
keeps-closed device book = stopped device book (map_closed book) refl (λ r. r) (λ s. map-safe-closed (map_rate_at device book) book s)

pub keeps-poked : (device : DeviceSeen) (offset count : ℕ) (book : MapBook) → Keeps device book (poke_turn offset count book).book
keeps-poked device offset count book = subst (Keeps device book) (sym (poke-kept offset count book)) (keeps-same device book)

-- a book that has not started has given nothing
pub unstarted-none : (state : RunState) (book : MapBook) → is_running state ≡ false → IsMapInOrder state book → book.given ≡ 0
unstarted-none Free book off order = order
unstarted-none Setup book off order = order
unstarted-none Running book off order = cc

not_setup : (state : RunState) → is_running state ≡ true → is_in_setup state ≡ false
not_setup Free on = cc
not_setup Setup on = cc
not_setup Running on = refl

pub keeps-asked : (device : DeviceSeen) (request : Request) (book : MapBook) → Keeps device book (map_ask request book).book
keeps-asked device request book = record {
  rate = map-asked-rate request book;
  safe = λ s. map-safe-asked (map_rate_at device book) (map_rate_at device (map_ask request book).book) request book
      (λ e. ap (play_rate_between device) (map-asked-kept request book e)) s;
  goes = λ s was is. elim (map-asked-leaves (map_rate_at device book) request book s).counts [
    | inl stays ↦ record { settings = stays.settings; eaten = stays.eaten; given = stays.given }
    | inr ends ↦ absurd (let not_so : true ≡ false = sym is ∙ ends.stopped in cc)
  ];
  fresh = λ s was is. elim (map-asked-leaves (map_rate_at device book) request book s).counts [
    | inl stays ↦ stays.given ∙ unstarted-none book.state book was s.order
    | inr ends ↦ absurd (let not_so : true ≡ false = sym is ∙ ends.stopped in cc)
  ];
}

-- ---- a run starts, goes on or stops

-- how the runs are marked, by whether the book ran and runs
abbrev marked_by : Bool → Bool → ℕ → MapBook → List Run → List Run
marked_by was is position new runs =
    cond (not was && is) (mapped_run position new ∷ runs) (cond (was && not is) (map_stopped position runs) runs)

newest_same : (old new : MapBook) (runs : List Run) → GoesOn old new → MapIsNewest old runs → MapIsNewest new runs
newest_same old new [] g n = n
newest_same old new (run ∷ runs) g n = (
  n.0 ∙ sym g.settings,
  n.1 ∙ ap (λ (eaten : ℕ). eaten * frame_bytes old.opening.settings) (sym g.eaten) ∙ ap (λ (settings : Settings). new.eaten * frame_bytes settings) (sym g.settings),
  n.2,
)

placed_same : (device : DeviceSeen) (mixed : ℕ) (old new : MapBook) (runs : List Run) → GoesOn old new → MapArePlaced device mixed old true runs → MapArePlaced device mixed new true runs
placed_same device mixed old new [] g p = tt
placed_same device mixed old new (run ∷ runs) g p = (
  p.0,
  λ off. cc,
  λ on.
      let going = p.2 refl in
      let next = going.next in
      let given = g.given in
      record {
        start = going.start;
        started = going.started;
        dropped = going.dropped;
        follow = subst (λ (n : ℕ). FollowFrom going.start n run.pieces) (sym given) going.follow;
        next = omega arith;
      },
)

-- all runs of a slot that hasn't started are over
pub unstarted-over : (device : DeviceSeen) (mixed : ℕ) (book : MapBook) (runs : List Run) → MapArePlaced device mixed book false runs → All (IsOver device mixed) runs
unstarted-over device mixed book [] p = All-nil (IsOver device mixed)
unstarted-over device mixed book (run ∷ runs) p = All-cons (IsOver device mixed) run runs (p.1 refl) p.0

idle_over : (device : DeviceSeen) (mixed : ℕ) (book : MapBook) (runs : List Run) → All (IsOver device mixed) runs → MapArePlaced device mixed book false runs
idle_over device mixed book [] over = tt
idle_over device mixed book (run ∷ runs) over = (
  All-tail (IsOver device mixed) run runs over,
  λ off. All-head (IsOver device mixed) run runs over,
  λ on. cc,
)

-- where a run stops that goes on until now
stop_end : (drained : Bool) (start lasts given mixed until : ℕ) → drained ≡ false → start + given ≡ mixed → mixed ≤ until → min (cond drained (start + lasts) until) (min mixed until) ≡ start + given
stop_end true start lasts given mixed until e n h = cc
stop_end false start lasts given mixed until e n h = omega arith

stopped_over : (device : DeviceSeen) (mixed : ℕ) (book : MapBook) (run : Run) → run.drained ≡ false → IsGoingMap mixed book run → IsOver device mixed (record run { dropped = Some mixed })
stopped_over device mixed book run more g =
    let next = g.next in
    subst (IsOverFrom device mixed (record run { dropped = Some mixed })) (sym g.started) (
      λ until. dropped-within (cond run.drained (g.start + lasting device run) until) mixed until,
      λ unbroken. record {
        count = book.given;
        follow = g.follow;
        past = omega arith;
        end = λ until h. stop_end run.drained g.start (lasting device run) book.given mixed until more next h;
      },
    )

-- the slot after one of these
marked : (was is : Bool) (device : DeviceSeen) (mixed : ℕ) (old new : MapBook) (runs : List Run) → is_running old.state ≡ was → is_running new.state ≡ is
    → Keeps device old new → MapIsValid device mixed old runs → MapIsValid device mixed new (marked_by was is mixed new runs)
marked true true device mixed old new runs was is k v =
    let g = k.goes v.safe was is in
    record {
      settings = k.rate v.settings;
      safe = k.safe v.safe;
      newest = λ e. newest_same old new runs g (v.newest was);
      pieces = v.pieces;
      own = v.own;
      placed = subst (λ (b : Bool). MapArePlaced device mixed new b runs) (sym is)
          (placed_same device mixed old new runs g (subst (λ (b : Bool). MapArePlaced device mixed old b runs) was v.placed));
      whole = v.whole;
    }
marked false false device mixed old new runs was is k v = record {
  settings = k.rate v.settings;
  safe = k.safe v.safe;
  newest = λ e. absurd (let not_so : true ≡ false = sym e ∙ is in cc);
  pieces = v.pieces;
  own = v.own;
  placed = subst (λ (b : Bool). MapArePlaced device mixed new b runs) (sym is)
      (idle_over device mixed new runs (unstarted-over device mixed old runs (subst (λ (b : Bool). MapArePlaced device mixed old b runs) was v.placed)));
  whole = v.whole;
}
marked false true device mixed old new runs was is k v =
    let run : Run = mapped_run mixed new in
    let none = k.fresh v.safe was is in
    let safe = k.safe v.safe in
    let untaken : new.eaten ≡ 0 = safe.taken ∙ ap (need (map_rate_at device new)) none in
    record {
      settings = k.rate v.settings;
      safe = safe;
      newest = λ e. (refl, omega (arith, ap (λ (eaten : ℕ). eaten * frame_bytes new.opening.settings) untaken), refl);
      pieces = All-cons (RunIsValid device mixed) run runs (All-nil (PieceIsValid mixed (given_in device run))) v.pieces;
      own = All-cons HasRate run runs (k.rate v.settings) v.own;
      placed = subst (λ (b : Bool). MapArePlaced device mixed new b (run ∷ runs)) (sym is) (
        unstarted-over device mixed old runs (subst (λ (b : Bool). MapArePlaced device mixed old b runs) was v.placed),
        (λ off. cc),
        (λ on. record { start = mixed; started = refl; dropped = refl; follow = none; next = omega arith }),
      );
      whole = All-cons IsUnbroken run runs (All-nil (λ (piece : Piece). piece.short ≡ 0)) v.whole;
    }
marked true false device mixed old new [] was is k v = absurd (v.newest was)
marked true false device mixed old new (run ∷ runs) was is k v =
    let now : Run = record run { dropped = Some mixed } in
    let placed = subst (λ (b : Bool). MapArePlaced device mixed old b (run ∷ runs)) was v.placed in
    record {
      settings = k.rate v.settings;
      safe = k.safe v.safe;
      newest = λ e. absurd (let not_so : true ≡ false = sym e ∙ is in cc);
      pieces = All-cons (RunIsValid device mixed) now runs (All-head (RunIsValid device mixed) run runs v.pieces) (All-tail (RunIsValid device mixed) run runs v.pieces);
      own = All-cons HasRate now runs (All-head HasRate run runs v.own) (All-tail HasRate run runs v.own);
      placed = subst (λ (b : Bool). MapArePlaced device mixed new b (now ∷ runs)) (sym is) (
        placed.0,
        (λ off. stopped_over device mixed old run (v.newest was).2 (placed.2 refl)),
        (λ on. cc),
      );
      whole = All-cons IsUnbroken now runs (All-head IsUnbroken run runs v.whole) (All-tail IsUnbroken run runs v.whole);
    }

-- a slot stays valid through an event that mixes nothing
pub map-marked : (device : DeviceSeen) (mixed : ℕ) (old new : MapBook) (runs : List Run) → Keeps device old new → MapIsValid device mixed old runs → MapIsValid device mixed new (map_marking mixed old new runs)
map-marked device mixed old new runs k v = marked (is_running old.state) (is_running new.state) device mixed old new runs refl refl k v

-- ---- frames are mixed

-- the pieces of runs at later positions
piece_later : (mixed later most : ℕ) (piece : Piece) → mixed ≤ later → PieceIsValid mixed most piece → PieceIsValid later most piece
piece_later mixed later most piece h p = record { past = (let past = p.past in omega arith); inside = p.inside }

run_later : (device : DeviceSeen) (mixed later : ℕ) (run : Run) → mixed ≤ later → RunIsValid device mixed run → RunIsValid device later run
run_later device mixed later run h v =
    All-weaker (PieceIsValid mixed (given_in device run)) (PieceIsValid later (given_in device run)) (λ piece p. piece_later mixed later (given_in device run) piece h p) run.pieces v

runs_later : (device : DeviceSeen) (mixed later : ℕ) (runs : List Run) → mixed ≤ later → All (RunIsValid device mixed) runs → All (RunIsValid device later) runs
runs_later device mixed later runs h v = All-weaker (RunIsValid device mixed) (RunIsValid device later) (λ run r. run_later device mixed later run h r) runs v

-- nothing is taken of a slot that hasn't started, nor of any where nothing is mixed
pub map_playing-idle : (device : DeviceSeen) (position n : ℕ) (book : MapBook) (area : List ℕ) (runs : List Run) → is_running book.state && nat_lt 0 n ≡ false → map_playing device position n book area runs ≡ runs
map_playing-idle device position n book area [] e = refl
map_playing-idle device position n book area (run ∷ runs) e = ap (λ (b : Bool). cond b (map_played device position n book area run ∷ runs) (run ∷ runs)) e

pub map_playing-on : (device : DeviceSeen) (position n : ℕ) (book : MapBook) (area : List ℕ) (run : Run) (runs : List Run) → is_running book.state && nat_lt 0 n ≡ true
    → map_playing device position n book area (run ∷ runs) ≡ map_played device position n book area run ∷ runs
map_playing-on device position n book area run runs e = ap (λ (b : Bool). cond b (map_played device position n book area run ∷ runs) (run ∷ runs)) e

-- a slot that hasn't started stays valid
idle_valid : (device : DeviceSeen) (mixed n : ℕ) (book : MapBook) (area : List ℕ) (runs : List Run) → is_running book.state ≡ false → MapIsValid device mixed book runs
    → MapIsValid device (mixed + n) book (map_playing device mixed n book area runs)
idle_valid device mixed n book area runs off v =
    subst (MapIsValid device (mixed + n) book) (sym (map_playing-idle device mixed n book area runs (ap (λ (b : Bool). b && nat_lt 0 n) off))) (record {
      settings = v.settings;
      safe = v.safe;
      newest = v.newest;
      pieces = runs_later device mixed (mixed + n) runs (omega arith) v.pieces;
      own = v.own;
      placed = subst (λ (b : Bool). MapArePlaced device (mixed + n) book b runs) (sym off)
          (idle_over device (mixed + n) book runs (over-all device mixed (mixed + n) runs (omega arith) (unstarted-over device mixed book runs (subst (λ (b : Bool). MapArePlaced device mixed book b runs) off v.placed))));
      whole = v.whole;
    })

-- the length of a part of an area
pub length-area_bytes : {X : Type 0} (g : ℕ → X) (from count : ℕ) → length (map g (range_with_len from count)) ≡ count
length-area_bytes g from zero = refl
length-area_bytes g from (suc count) = ap suc (length-area_bytes g (from + 1) count)

-- all that n frames more need is taken
taken-more : (rate : Rate) (n : ℕ) (book : MapBook) → IsRatio rate → book.eaten ≡ need rate book.given → taken_of book ≤ taken_of (map_gives rate n book)
taken-more rate n book ratio taken =
    let grows = need_grows rate book.given (book.given + n) ratio.dst (omega arith) in
    mul-le-mul_right (frame_bytes book.opening.settings) (let more : book.eaten ≤ need rate (book.given + n) = omega arith in more)

-- and is as many bytes as the book counts then
pub length-taken : (device : DeviceSeen) (n : ℕ) (book : MapBook) (area : List ℕ) → length (area_taken device n book area) ≡ taken_of (map_mixing device n book) - taken_of book
length-taken device n book area = length-area_bytes _ (taken_of book) (taken_of (map_mixing device n book) - taken_of book)

-- the frames that n more need allow them
allows : (device : DeviceSeen) (n : ℕ) (book : MapBook) (settings : Settings) (drained : Bool) (bytes : ℕ) → IsRatio (map_rate_at device book)
    → settings ≡ book.opening.settings → drained ≡ false → bytes ≡ taken_of (map_gives (map_rate_at device book) n book)
    → book.given + n ≤ frames_given (play_rate_between device settings) drained (whole_frames settings bytes)
allows device n book settings drained bytes ratio same more count =
    let rate : Rate = map_rate_at device book in
    let there = frames_there book.opening.settings (taken_of (map_gives rate n book)) (need rate (book.given + n)) (omega arith) in
    let can_all = (can-greatest rate ratio.src ratio.dst (book.given + n) (whole_frames book.opening.settings (taken_of (map_gives rate n book)))).0 there in
    rw (same, more, count) can_all

-- the run of a running book, with what an interrupt takes
going_valid : (device : DeviceSeen) (mixed n : ℕ) (book : MapBook) (area : List ℕ) (runs : List Run) → IsDevice device → MapIsValid device mixed (record book { state = Running }) runs
    → MapIsValid device (mixed + suc n) (map_gives (map_rate_at device book) (suc n) (record book { state = Running })) (map_playing device mixed (suc n) (record book { state = Running }) area runs)
going_valid device mixed n book area [] d v = absurd (v.newest refl)
going_valid device mixed n book area (run ∷ runs) d v =
    let old : MapBook = record book { state = Running } in
    let rate : Rate = map_rate_at device book in
    let new : MapBook = map_gives rate (suc n) old in
    let now : Run = map_played device mixed (suc n) old area run in
    let piece : Piece = map_piece mixed (suc n) old in
    let ratio = ratio-between device book.opening.settings d v.settings in
    let newest = v.newest refl in
    let going = v.placed.2 refl in
    let next = going.next in
    let more = taken-more rate (suc n) old ratio v.safe.taken in
    let count : length now.bytes ≡ taken_of new = omega (arith, length-append run.bytes (area_taken device (suc n) old area), length-taken device (suc n) old area, newest.1) in
    let most = allows device (suc n) old run.settings run.drained (length now.bytes) ratio newest.0 newest.2 count in
    let grown : given_in device run ≤ given_in device now =
    frames_given-grows (play_rate_between device run.settings) run.drained (whole_frames run.settings (length run.bytes)) (whole_frames run.settings (length now.bytes))
    (ratio-between device run.settings d (All-head HasRate run runs v.own)) (whole_frames-mono run.settings (length run.bytes) (length now.bytes) (omega (arith, length-append run.bytes (area_taken device (suc n) old area)))) in
    subst (MapIsValid device (mixed + suc n) new) (sym (map_playing-on device mixed (suc n) old area run runs (grind (arith, nat_tests)))) (record {
      settings = v.settings;
      safe = map-safe-refilled rate (suc n) old v.safe;
      newest = λ e. (newest.0, count, newest.2);
      pieces = All-cons (RunIsValid device (mixed + suc n)) now runs
          (All-cons (PieceIsValid (mixed + suc n) (given_in device now)) piece run.pieces (record { past = omega arith; inside = most })
          (All-weaker (PieceIsValid mixed (given_in device run)) (PieceIsValid (mixed + suc n) (given_in device now))
          (λ (p : Piece) valid. record { past = (let past = valid.past in omega arith); inside = (let inside = valid.inside in omega arith) }) run.pieces (All-head (RunIsValid device mixed) run runs v.pieces)))
          (runs_later device mixed (mixed + suc n) runs (omega arith) (All-tail (RunIsValid device mixed) run runs v.pieces));
      own = All-cons HasRate now runs (All-head HasRate run runs v.own) (All-tail HasRate run runs v.own);
      placed = (
        over-all device mixed (mixed + suc n) runs (omega arith) v.placed.0,
        (λ off. cc),
        (λ on. record { start = going.start; started = going.started; dropped = going.dropped; follow = (λ some. sym next, refl, going.follow); next = omega arith }),
      );
      whole = All-cons IsUnbroken now runs (All-cons (λ (p : Piece). p.short ≡ 0) piece run.pieces refl (All-head IsUnbroken run runs v.whole)) (All-tail IsUnbroken run runs v.whole);
    })

mixed_at : (state : RunState) (device : DeviceSeen) (mixed n : ℕ) (book : MapBook) (area : List ℕ) (runs : List Run) → IsDevice device → MapIsValid device mixed (record book { state = state }) runs
    → MapIsValid device (mixed + suc n) (map_refilled_in (map_rate_at device book) state (suc n) (record book { state = state })) (map_playing device mixed (suc n) (record book { state = state }) area runs)
mixed_at Free device mixed n book area runs d v = idle_valid device mixed (suc n) (record book { state = Free }) area runs refl v
mixed_at Setup device mixed n book area runs d v = idle_valid device mixed (suc n) (record book { state = Setup }) area runs refl v
mixed_at Running device mixed n book area runs d v = going_valid device mixed n book area runs d v

pub none-mixed : (b : Bool) → b && nat_lt 0 0 ≡ false
none-mixed true = refl
none-mixed false = refl

-- a slot stays valid once n frames were mixed
pub map-mixed : (device : DeviceSeen) (mixed n : ℕ) (book : MapBook) (area : List ℕ) (runs : List Run) → IsDevice device → MapIsValid device mixed book runs
    → MapIsValid device (mixed + n) (map_mixing device n book) (map_playing device mixed n book area runs)
map-mixed device mixed zero book area runs d v =
    subst (MapIsValid device (mixed + 0) book) (sym (map_playing-idle device mixed 0 book area runs (none-mixed (is_running book.state))))
    (subst (λ (m : ℕ). MapIsValid device m book runs) (omega arith) v)
map-mixed device mixed (suc n) book area runs d v = mixed_at book.state device mixed n book area runs d v
