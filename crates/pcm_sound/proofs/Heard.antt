-- A run without a shortage is heard from its start to its end: what its pieces give is what its plan makes of it there.
use Rattle.std.proofs.Common.{◌≡◌, ℕ, ◌+◌, ◌-◌, ◌<◌, ◌≤◌, Bool, true, false, cond, List, [], ◌∷◌, length, min, Option, Some, None, ◌⊎◌, inl, inr, refl, sym, ap, ◌∙◌, subst, arith, All}
use Rattle.std.specs.Prelude.{find, nat_le, nat_lt, ◌&&◌, option_map}
use Rattle.std.specs.List.{filter}
use Rattle.std.proofs.lemmas.Bool.{cases_lt}
use Rattle.std.proofs.lemmas.Bool.Decides.{nat_tests}
use Rattle.std.proofs.lemmas.List.Elements.{All-head, All-tail, All-cons, All-nil, All-weaker}
use Rattle.pcm_format.specs.declared.settings.Settings.{Settings}
use Rattle.pcm_format.specs.Frames.{Frame}
use Rattle.pcm_rate.specs.Rates.{len}
use Rattle.pcm_feeder.specs.declared.stage.Gain.{Gain}
use Rattle.pcm_desk.specs.declared.play_book.PlayBook.{PlayBook}
use Rattle.pcm_desk.specs.Device.{DeviceSeen, IsDevice, play_plan_between, play_rate_between}
use Rattle.pcm_desk.specs.declared.map_book.MapBook.{MapBook}
use Rattle.pcm_desk.specs.PlayBooks.{is_started}
use Rattle.pcm_desk.specs.RunStates.{is_running}
use Rattle.pcm_desk.specs.PlaySafe.{PlayIsSafe}
use Rattle.pcm_desk.specs.Channels.{play_rate_at}
use Rattle.pcm_desk.proofs.Ratios.{ratio-between}
use Rattle.pcm_sound.specs.Given.{given_frame}
use Rattle.pcm_sound.specs.Runs.{Piece, Run, covers, first_of, piece_frame, run_frames, sounding}
use Rattle.pcm_sound.specs.Plain.{IsInPlace, IsUnbroken, Span, drop_end, is_within, lasting, place_of, run_end, span_at, span_frame, span_of, spans_of}
use Rattle.pcm_sound.specs.Places.{FollowFrom, IsCounted, IsGoingMap, IsOver, IsOverFrom, SlotIsPlaced}
use Rattle.pcm_sound.specs.Valid.{IsNewest, MapIsValid, SlotIsValid}
use Rattle.pcm_sound.proofs.Places.{given-lasts, lasts-newest}

-- ---- pieces that follow each other

-- a piece that covers any position stands where its frames are in the stream
piece_place : (start p : ℕ) (piece : Piece) → covers p piece ≡ true → (0 < piece.count → piece.position ≡ start + piece.index) → piece.position ≡ start + piece.index
piece_place start p piece e at = at (grind (arith, nat_tests))

-- and covers none before its first frame or after its last
piece_outside : (start p : ℕ) (piece : Piece) → (p < start + piece.index) ⊎ (start + (piece.index + piece.count) ≤ p) → (0 < piece.count → piece.position ≡ start + piece.index) → covers p piece ≡ false
piece_outside start p piece out at =
    elim (cases_lt 0 piece.count) [
      | inl some ↦ (let place = at some in elim out [ inl before ↦ grind (arith, nat_tests) | inr behind ↦ grind (arith, nat_tests) ])
      | inr none ↦ grind (arith, nat_tests)
    ]

-- they cover nothing before their first frame or after their last
follow_outside : (start count p : ℕ) (pieces : List Piece) → (p < start) ⊎ (start + count ≤ p) → FollowFrom start count pieces → find (covers p) pieces ≡ None
follow_outside start count p [] out f = refl
follow_outside start count p (piece ∷ pieces) (inl before) f =
    let here = piece_outside start p piece (inl (omega arith)) f.0 in
    rw here (follow_outside start piece.index p pieces (inl before) f.2)
follow_outside start count p (piece ∷ pieces) (inr behind) f =
    let sum = f.1 in
    let here = piece_outside start p piece (inr (omega arith)) f.0 in
    rw here (follow_outside start piece.index p pieces (inr (omega arith)) f.2)

follow_within_at : (b : Bool) (start count p : ℕ) (piece : Piece) (pieces : List Piece) → covers p piece ≡ b → start ≤ p → p < start + count → FollowFrom start count (piece ∷ pieces)
    → (p < start + piece.index → option_map (place_of p) (find (covers p) pieces) ≡ Some (p - start))
    → option_map (place_of p) (cond b (Some piece) (find (covers p) pieces)) ≡ Some (p - start)
follow_within_at true start count p piece pieces e h g f earlier =
    let at = piece_place start p piece e f.0 in
    let here : piece.position ≤ p = grind (arith, nat_tests) in
    ap (λ k. Some k) (omega arith)
follow_within_at false start count p piece pieces e h g f earlier =
    let sum = f.1 in
    elim (cases_lt p (start + piece.index)) [
      | inl before ↦ earlier before
      | inr behind ↦ (let at = f.0 (omega arith) in absurd (let here : covers p piece ≡ true = grind (arith, nat_tests) in let not_so : true ≡ false = sym here ∙ e in cc))
    ]

-- at each place between they give the frame that is as far into the stream
follow_within : (start count p : ℕ) (pieces : List Piece) → start ≤ p → p < start + count → FollowFrom start count pieces → option_map (place_of p) (find (covers p) pieces) ≡ Some (p - start)
follow_within start count p [] h g f = absurd (omega (arith, f))
follow_within start count p (piece ∷ pieces) h g f =
    follow_within_at (covers p piece) start count p piece pieces refl h g f (λ earlier. follow_within start piece.index p pieces h earlier f.2)

-- what stands before a place doesn't cover it
follow_none : (start count p : ℕ) (pieces : List Piece) → start + count ≤ p → FollowFrom start count pieces → length (filter (covers p) pieces) ≡ 0
follow_none start count p [] h f = refl
follow_none start count p (piece ∷ pieces) h f =
    let sum = f.1 in
    let here = piece_outside start p piece (inr (omega arith)) f.0 in
    rw here (follow_none start piece.index p pieces (omega arith) f.2)

follow_once_at : (b : Bool) (start count p : ℕ) (piece : Piece) (pieces : List Piece) → covers p piece ≡ b → FollowFrom start count (piece ∷ pieces)
    → length (filter (covers p) pieces) ≤ 1 → length (cond b (piece ∷ filter (covers p) pieces) (filter (covers p) pieces)) ≤ 1
follow_once_at true start count p piece pieces e f earlier =
    let at = piece_place start p piece e f.0 in
    let here : piece.position ≤ p = grind (arith, nat_tests) in
    let none = follow_none start piece.index p pieces (omega arith) f.2 in
    omega arith
follow_once_at false start count p piece pieces e f earlier = earlier

-- and no place is covered twice
follow_once : (start count p : ℕ) (pieces : List Piece) → FollowFrom start count pieces → length (filter (covers p) pieces) ≤ 1
follow_once start count p [] f = omega arith
follow_once start count p (piece ∷ pieces) f = follow_once_at (covers p piece) start count p piece pieces refl f (follow_once start piece.index p pieces f.2)

-- ---- runs without a shortage

-- a run that is heard from its start to its end
pub record IsHeard (device : DeviceSeen) (mixed start : ℕ) (run : Run) : Type 0 where
  pub count : ℕ
  pub follow : FollowFrom start count run.pieces
  pub past : start + count ≤ mixed
  pub end : run_end device mixed start run ≡ start + count

-- a run by where it starts, if it does
abbrev pub HeardFrom : DeviceSeen → ℕ → Run → Option ℕ → Type 0
HeardFrom device mixed run None = run.pieces ≡ []
HeardFrom device mixed run (Some start) = IsHeard device mixed start run

-- a run that is heard so as long as no piece is short
abbrev pub RunIsHeard : DeviceSeen → ℕ → Run → Type 0
RunIsHeard device mixed run = IsUnbroken run → HeardFrom device mixed run run.start

-- a run that is over
over_from_heard : (device : DeviceSeen) (mixed : ℕ) (run : Run) (start : Option ℕ) → IsOverFrom device mixed run start → IsUnbroken run → HeardFrom device mixed run start
over_from_heard device mixed run None over unbroken = over
over_from_heard device mixed run (Some start) over unbroken =
    let o = over.1 unbroken in
    record { count = o.count; follow = o.follow; past = o.past; end = o.end mixed (omega arith) }

over_heard : (device : DeviceSeen) (mixed : ℕ) (run : Run) → IsOver device mixed run → RunIsHeard device mixed run
over_heard device mixed run over = λ unbroken. over_from_heard device mixed run run.start over unbroken

-- a run that goes on ends after all that was given, whether more is to come or it has given all
going_end : (drained : Bool) (dropped : Option ℕ) (start lasts given mixed : ℕ) → dropped ≡ None → given ≤ lasts → start + given ≤ mixed → ((drained ≡ true → given < lasts) → start + given ≡ mixed)
    → min (cond drained (start + lasts) mixed) (min (drop_end mixed dropped) mixed) ≡ start + given
going_end true None start lasts given mixed d most past next =
    elim (cases_lt given lasts) [
      | inl less ↦ (let reached = next (λ e. less) in omega arith)
      | inr all ↦ omega arith
    ]
going_end false None start lasts given mixed d most past next = let reached = next (λ e. cc) in omega arith
going_end drained (Some position) start lasts given mixed d most past next = cc

-- a run that its book counts
counted_heard : (b : Bool) (device : DeviceSeen) (mixed : ℕ) (book : PlayBook) (run : Run) (runs : List Run) → is_started book.state ≡ b → IsDevice device → PlayIsSafe (play_rate_at device book) book → SlotIsValid device mixed book (run ∷ runs)
    → IsNewest book (run ∷ runs) → IsCounted device mixed book run → RunIsHeard device mixed run
counted_heard false device mixed book run runs e d safe v newest c = λ unbroken.
    let w = c.waits e in
    subst (λ (start : Option ℕ). HeardFrom device mixed run start) (sym w.start) w.pieces
counted_heard true device mixed book run runs e d safe v newest c = λ unbroken.
    let g = c.goes e in
    let most = given-lasts (play_rate_at device book) book (ratio-between device book.opening.settings d v.settings) e safe in
    let lasts = lasts-newest device book run runs newest in
    subst (λ (start : Option ℕ). HeardFrom device mixed run start) (sym g.started) (record {
      count = book.given;
      follow = g.follow unbroken;
      past = g.past;
      end = going_end run.drained run.dropped g.start (lasting device run) book.given mixed c.dropped (omega arith) g.past (g.next unbroken);
    })

-- the newest run, which its book counts or which is over
newest_heard : (b : Bool) (device : DeviceSeen) (mixed : ℕ) (book : PlayBook) (run : Run) (runs : List Run) → nat_lt 0 book.written ≡ b → IsDevice device → PlayIsSafe (play_rate_at device book) book → SlotIsValid device mixed book (run ∷ runs)
    → SlotIsPlaced device mixed book (run ∷ runs) → RunIsHeard device mixed run
newest_heard true device mixed book run runs e d safe v p =
    let above : 0 < book.written = grind (arith, nat_tests) in
    counted_heard (is_started book.state) device mixed book run runs refl d safe v (v.newest above) (p.2 above)
newest_heard false device mixed book run runs e d safe v p = let none : book.written ≡ 0 = grind (arith, nat_tests) in over_heard device mixed run (p.1 none)

-- each run of a slot is heard so, unless a piece is short
pub runs-heard : (device : DeviceSeen) (mixed : ℕ) (book : PlayBook) (runs : List Run) → IsDevice device → PlayIsSafe (play_rate_at device book) book → SlotIsValid device mixed book runs → SlotIsPlaced device mixed book runs
    → All (RunIsHeard device mixed) runs
runs-heard device mixed book [] d safe v p = All-nil (RunIsHeard device mixed)
runs-heard device mixed book (run ∷ runs) d safe v p =
    All-cons (RunIsHeard device mixed) run runs (newest_heard (nat_lt 0 book.written) device mixed book run runs refl d safe v p)
    (All-weaker (IsOver device mixed) (RunIsHeard device mixed) (λ r over. over_heard device mixed r over) runs p.0)

-- ---- runs of mapped slots

-- the newest run of a mapped book that goes on ends where it is mixed
map_end : (drained : Bool) (dropped : Option ℕ) (start lasts given mixed : ℕ) → drained ≡ false → dropped ≡ None → start + given ≡ mixed
    → min (cond drained (start + lasts) mixed) (min (drop_end mixed dropped) mixed) ≡ start + given
map_end true dropped start lasts given mixed e d next = cc
map_end false (Some position) start lasts given mixed e d next = cc
map_end false None start lasts given mixed e d next = omega arith

going_map : (device : DeviceSeen) (mixed : ℕ) (book : MapBook) (run : Run) → run.drained ≡ false → IsGoingMap mixed book run → RunIsHeard device mixed run
going_map device mixed book run more g = λ unbroken.
    let next = g.next in
    subst (λ (start : Option ℕ). HeardFrom device mixed run start) (sym g.started) (record {
      count = book.given;
      follow = g.follow;
      past = omega arith;
      end = map_end run.drained run.dropped g.start (lasting device run) book.given mixed more g.dropped next;
    })

map_newest_heard : (running : Bool) (device : DeviceSeen) (mixed : ℕ) (book : MapBook) (run : Run) (runs : List Run) → is_running book.state ≡ running → MapIsValid device mixed book (run ∷ runs) → RunIsHeard device mixed run
map_newest_heard true device mixed book run runs e v = going_map device mixed book run (v.newest e).2 (v.placed.2 e)
map_newest_heard false device mixed book run runs e v = over_heard device mixed run (v.placed.1 e)

-- each run of a mapped slot is heard so
pub map-runs-heard : (device : DeviceSeen) (mixed : ℕ) (book : MapBook) (runs : List Run) → MapIsValid device mixed book runs → All (RunIsHeard device mixed) runs
map-runs-heard device mixed book [] v = All-nil (RunIsHeard device mixed)
map-runs-heard device mixed book (run ∷ runs) v =
    All-cons (RunIsHeard device mixed) run runs (map_newest_heard (is_running book.state) device mixed book run runs refl v)
    (All-weaker (IsOver device mixed) (RunIsHeard device mixed) (λ r over. over_heard device mixed r over) runs v.placed.0)

-- ---- spans

-- a run that started, as it is heard until a position
abbrev pub span_from : DeviceSeen → ℕ → Run → ℕ → Span
span_from device until run start = record { plan = play_plan_between device run.settings; stream = run_frames run; start = start; end = run_end device until start run }

-- it is heard at a position
abbrev is_heard : DeviceSeen → ℕ → Run → ℕ → ℕ → Bool
is_heard device until run start p = nat_lt start until && is_within p (span_from device until run start)

-- what is found with one span more: what is of this, if it is heard
first_span_at : {X : Type 0} (some within : Bool) (f : Span → X) (span : Span) (spans : List Span) (p : ℕ) → is_within p span ≡ within
    → option_map f (span_at (cond some (span ∷ spans) spans) p) ≡ cond (some && within) (Some (f span)) (option_map f (span_at spans p))
first_span_at true true f span spans p e = rw e refl
first_span_at true false f span spans p e = rw e refl
first_span_at false within f span spans p e = refl

first-span : {X : Type 0} (f : Span → X) (device : DeviceSeen) (until p start : ℕ) (run : Run) (spans : List Span)
    → option_map f (span_at (span_of device until run (Some start) spans) p) ≡ cond (is_heard device until run start p) (Some (f (span_from device until run start))) (option_map f (span_at spans p))
first-span f device until p start run spans =
    first_span_at (nat_lt start until) (is_within p (span_from device until run start)) f (span_from device until run start) spans p refl

-- the pieces of a run give a frame exactly where it is heard: the one as far into its stream
found_at : (b : Bool) (device : DeviceSeen) (mixed p start : ℕ) (run : Run) → is_heard device mixed run start p ≡ b → IsHeard device mixed start run
    → option_map (place_of p) (find (covers p) run.pieces) ≡ cond b (Some (p - start)) None
found_at true device mixed p start run e h =
    let end = h.end in
    follow_within start h.count p run.pieces (grind (arith, nat_tests)) (grind (arith, nat_tests)) h.follow
found_at false device mixed p start run e h = ap (option_map (place_of p)) (follow_outside start h.count p run.pieces out h.follow)
  where
    end : run_end device mixed start run ≡ start + h.count
    end = h.end

    past : start + h.count ≤ mixed
    past = h.past

    out : (p < start) ⊎ (start + h.count ≤ p)
    out = elim (cases_lt p start) [
      | inl before ↦ inl before
      | inr from ↦ elim (cases_lt p (start + h.count)) [
        | inl within ↦ absurd (grind (arith, nat_tests, e, end, past))
        | inr behind ↦ inr behind
      ]
    ]

found : (device : DeviceSeen) (mixed p start : ℕ) (run : Run) → IsHeard device mixed start run → option_map (place_of p) (find (covers p) run.pieces) ≡ cond (is_heard device mixed run start p) (Some (p - start)) None
found device mixed p start run h = found_at (is_heard device mixed run start p) device mixed p start run refl h

in_place_from : (device : DeviceSeen) (mixed p : ℕ) (run : Run) (start : Option ℕ) → HeardFrom device mixed run start
    → option_map (place_of p) (find (covers p) run.pieces) ≡ option_map (λ (span : Span). p - span.start) (span_at (span_of device mixed run start []) p)
in_place_from device mixed p run None h = ap (λ (pieces : List Piece). option_map (place_of p) (find (covers p) pieces)) h
in_place_from device mixed p run (Some start) h = found device mixed p start run h ∙ sym (first-span (λ (span : Span). p - span.start) device mixed p start run [])

once_from : (device : DeviceSeen) (mixed p : ℕ) (run : Run) (start : Option ℕ) → HeardFrom device mixed run start → length (filter (covers p) run.pieces) ≤ 1
once_from device mixed p run None h = omega (arith, ap (λ (pieces : List Piece). length (filter (covers p) pieces)) h)
once_from device mixed p run (Some start) h = follow_once start h.count p run.pieces h.follow

-- a run without a shortage stands in its place
pub heard-in_place : (device : DeviceSeen) (mixed : ℕ) (run : Run) → RunIsHeard device mixed run → IsUnbroken run → IsInPlace device mixed run
heard-in_place device mixed run h unbroken = record {
  place = λ position. in_place_from device mixed position run run.start (h unbroken);
  once = λ position. once_from device mixed position run run.start (h unbroken);
}

-- ---- the frames of a slot

-- the frame of a piece is as far into the stream of its run as its place says
piece_frame-place : (device : DeviceSeen) (gain : Gain) (settings : Settings) (frames : List Frame) (p : ℕ) (found : Option Piece)
    → piece_frame device gain settings frames p found ≡ option_map (λ k. given_frame device settings frames k gain) (option_map (place_of p) found)
piece_frame-place device gain settings frames p None = refl
piece_frame-place device gain settings frames p (Some piece) = refl

first_or : (b : Bool) (f : ℕ → Frame) (k : ℕ) (other : Option Frame) → first_of (option_map f (cond b (Some k) None)) other ≡ cond b (Some (f k)) other
first_or true f k other = refl
first_or false f k other = refl

sounding_from : (device : DeviceSeen) (gain : Gain) (mixed p : ℕ) (run : Run) (start : Option ℕ) (spans : List Span) → HeardFrom device mixed run start
    → first_of (option_map (λ k. given_frame device run.settings (run_frames run) k gain) (option_map (place_of p) (find (covers p) run.pieces))) (option_map (span_frame device gain p) (span_at spans p))
    ≡ option_map (span_frame device gain p) (span_at (span_of device mixed run start spans) p)
sounding_from device gain mixed p run None spans h =
    ap (λ (pieces : List Piece). first_of (option_map (λ k. given_frame device run.settings (run_frames run) k gain) (option_map (place_of p) (find (covers p) pieces))) (option_map (span_frame device gain p) (span_at spans p))) h
sounding_from device gain mixed p run (Some start) spans h =
    let f : ℕ → Frame = λ k. given_frame device run.settings (run_frames run) k gain in
    let rest : Option Frame = option_map (span_frame device gain p) (span_at spans p) in
    ap (λ (place : Option ℕ). first_of (option_map f place) rest) (found device mixed p start run h)
    ∙ first_or (is_heard device mixed run start p) f (p - start) rest
    ∙ sym (first-span (span_frame device gain p) device mixed p start run spans)

-- what the runs of a slot give is what their spans give
pub sounding-spans : (device : DeviceSeen) (gain : Gain) (mixed p : ℕ) (runs : List Run) → All (RunIsHeard device mixed) runs → All IsUnbroken runs
    → sounding device gain runs p ≡ option_map (span_frame device gain p) (span_at (spans_of device mixed runs) p)
sounding-spans device gain mixed p [] h unbroken = refl
sounding-spans device gain mixed p (run ∷ runs) h unbroken =
    let here : HeardFrom device mixed run run.start = (All-head (RunIsHeard device mixed) run runs h) (All-head IsUnbroken run runs unbroken) in
    ap (λ (rest : Option Frame). first_of (piece_frame device gain run.settings (run_frames run) p (find (covers p) run.pieces)) rest)
    (sounding-spans device gain mixed p runs (All-tail (RunIsHeard device mixed) run runs h) (All-tail IsUnbroken run runs unbroken))
    ∙ ap (λ (first : Option Frame). first_of first (option_map (span_frame device gain p) (span_at (spans_of device mixed runs) p)))
    (piece_frame-place device gain run.settings (run_frames run) p (find (covers p) run.pieces))
    ∙ sounding_from device gain mixed p run run.start (spans_of device mixed runs) here

-- ---- at an earlier position

-- what holds of both, in both directions
same_test : (a b : Bool) → (a ≡ true → b ≡ true) → (b ≡ true → a ≡ true) → a ≡ b
same_test true b h g = sym (h refl)
same_test false true h g = g refl
same_test false false h g = refl

-- a position before both is before the one end exactly where it is before the other
earlier_end : (drained : Bool) (dropped : Option ℕ) (lasted p until mixed : ℕ) → p < until → until ≤ mixed
    → nat_lt p (min (cond drained lasted mixed) (min (drop_end mixed dropped) mixed)) ≡ nat_lt p (min (cond drained lasted until) (min (drop_end until dropped) until))
earlier_end true None lasted p until mixed h g = same_test _ _ (λ e. grind (arith, nat_tests)) (λ e. grind (arith, nat_tests))
earlier_end true (Some position) lasted p until mixed h g = same_test _ _ (λ e. grind (arith, nat_tests)) (λ e. grind (arith, nat_tests))
earlier_end false None lasted p until mixed h g = same_test _ _ (λ e. grind (arith, nat_tests)) (λ e. grind (arith, nat_tests))
earlier_end false (Some position) lasted p until mixed h g = same_test _ _ (λ e. grind (arith, nat_tests)) (λ e. grind (arith, nat_tests))

-- a span that is heard until a position is heard before it, whatever comes later
earlier_heard : (device : DeviceSeen) (until mixed p start : ℕ) (run : Run) → p < until → until ≤ mixed → is_heard device mixed run start p ≡ is_heard device until run start p
earlier_heard device until mixed p start run h g =
    let end = earlier_end run.drained run.dropped (start + len (play_rate_between device run.settings) (length (run_frames run))) p until mixed h g in
    ap (λ (b : Bool). nat_lt start mixed && (nat_le start p && b)) end
    ∙ same_test (nat_lt start mixed && is_within p (span_from device until run start)) (is_heard device until run start p) (λ e. grind (arith, nat_tests)) (λ e. grind (arith, nat_tests))

span_earlier : (device : DeviceSeen) (gain : Gain) (until mixed p : ℕ) (run : Run) (start : Option ℕ) (later earlier : List Span) → p < until → until ≤ mixed
    → option_map (span_frame device gain p) (span_at later p) ≡ option_map (span_frame device gain p) (span_at earlier p)
    → option_map (span_frame device gain p) (span_at (span_of device mixed run start later) p) ≡ option_map (span_frame device gain p) (span_at (span_of device until run start earlier) p)
span_earlier device gain until mixed p run None later earlier h g same = same
span_earlier device gain until mixed p run (Some start) later earlier h g same =
    let f : Span → Frame = span_frame device gain p in
    first-span f device mixed p start run later
    ∙ ap (λ (b : Bool). cond b (Some (f (span_from device mixed run start))) (option_map f (span_at later p))) (earlier_heard device until mixed p start run h g)
    ∙ ap (λ (other : Option Frame). cond (is_heard device until run start p) (Some (f (span_from device until run start))) other) same
    ∙ sym (first-span f device until p start run earlier)

-- what the spans of a slot give at a position, those at any later one give too
pub spans-earlier : (device : DeviceSeen) (gain : Gain) (until mixed p : ℕ) (runs : List Run) → p < until → until ≤ mixed
    → option_map (span_frame device gain p) (span_at (spans_of device mixed runs) p) ≡ option_map (span_frame device gain p) (span_at (spans_of device until runs) p)
spans-earlier device gain until mixed p [] h g = refl
spans-earlier device gain until mixed p (run ∷ runs) h g =
    span_earlier device gain until mixed p run run.start (spans_of device mixed runs) (spans_of device until runs) h g (spans-earlier device gain until mixed p runs h g)
