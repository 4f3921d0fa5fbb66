-- The pieces of a slot stay in their places through an interrupt: it adds one to the newest run that has started, and may end the run.
use Rattle.std.proofs.Common.{◌≡◌, ℕ, ℤ, suc, zero, ◌+◌, ◌-◌, ◌<◌, Bool, true, false, cond, List, [], ◌∷◌, None, refl, sym, ap, ◌∙◌, subst, arith, All, add-zero}
use Rattle.std.specs.Prelude.{nat_lt, ◌&&◌}
use Rattle.std.proofs.lemmas.List.Elements.{All-head, All-tail}
use Rattle.std.proofs.lemmas.Bool.Decides.{nat_tests}
use Rattle.pcm_oss.specs.declared.event.Event.TheVariants.{Intr}
use Rattle.pcm_rate.specs.declared.rate.Rate.{Rate}
use Rattle.pcm_desk.specs.declared.play_book.PlayBook.{PlayBook}
use Rattle.pcm_desk.specs.declared.play_book.PlayState.{PlayState}
use Rattle.pcm_desk.specs.declared.play_book.PlayState.TheVariants.{Free, Setup, Primed, Running, Draining}
use Rattle.pcm_desk.specs.Device.{DeviceSeen, IsDevice, passed_for}
use Rattle.pcm_desk.specs.PlayBooks.{giving, is_draining, is_started, play_settled_in, refilled}
use Rattle.pcm_desk.specs.PlaySafe.{PlayIsSafe}
use Rattle.pcm_desk.specs.Channels.{mixing, play_rate_at, settling}
use Rattle.pcm_sound.specs.Runs.{Piece, Run, piece_of, playing, marking}
use Rattle.pcm_sound.specs.Plain.{IsUnbroken, lasting}
use Rattle.pcm_sound.specs.Places.{IsOver, IsGoing, SlotIsPlaced}
use Rattle.pcm_sound.specs.Valid.{SlotIsValid}
use Rattle.pcm_sound.proofs.Endings.{given-settled}
use Rattle.pcm_sound.proofs.Slots.{state-mixing, untold-settling}
use Rattle.pcm_sound.proofs.Places.{idle-later, lasts-newest, over-all, placed-left, told_run}

-- an interrupt takes nothing of a slot that hasn't started, nor of any where nothing is mixed
played_idle : (device : DeviceSeen) (position n : ℕ) (book : PlayBook) (runs : List Run) → is_started book.state && nat_lt 0 n ≡ false → playing device position n book runs ≡ runs
played_idle device position n book [] e = refl
played_idle device position n book (run ∷ runs) e = ap (λ (b : Bool). cond b (record run { pieces = piece_of device position n book ∷ run.pieces } ∷ runs) (run ∷ runs)) e

-- else a piece of the newest run
abbrev played_run : DeviceSeen → ℕ → ℕ → PlayBook → Run → Run
played_run device position n book run = record run { pieces = piece_of device position n book ∷ run.pieces }

played_started : (device : DeviceSeen) (position n : ℕ) (book : PlayBook) (run : Run) (runs : List Run) → is_started book.state && nat_lt 0 n ≡ true → playing device position n book (run ∷ runs) ≡ played_run device position n book run ∷ runs
played_started device position n book run runs e = ap (λ (b : Bool). cond b (played_run device position n book run ∷ runs) (run ∷ runs)) e

-- a slot that hasn't started
placed_idle : (device : DeviceSeen) (mixed n : ℕ) (book : PlayBook) (runs : List Run) → is_started book.state ≡ false → SlotIsPlaced device mixed book runs → SlotIsPlaced device (mixed + n) book (playing device mixed n book runs)
placed_idle device mixed n book runs idle p =
    subst (SlotIsPlaced device (mixed + n) book) (sym (played_idle device mixed n book runs (ap (λ (b : Bool). b && nat_lt 0 n) idle)))
    (idle-later device mixed (mixed + n) book runs (omega arith) idle p)

-- ---- the frames that are mixed

-- The pieces of a run that goes on, with one more. It is whole unless it is short, and has frames only where the run had more to give.
going_on : (device : DeviceSeen) (mixed n : ℕ) (old new : PlayBook) (run : Run) → new.given ≡ old.given + giving (play_rate_at device old) n old
    → (IsUnbroken (played_run device mixed n old run) → 0 < giving (play_rate_at device old) n old → run.drained ≡ true → old.given < lasting device run)
    → (IsUnbroken (played_run device mixed n old run) → (run.drained ≡ true → new.given < lasting device run) → giving (play_rate_at device old) n old ≡ n)
    → IsGoing device mixed old run → IsGoing device (mixed + n) new (played_run device mixed n old run)
going_on device mixed n old new run given has all g =
    let past = g.past in
    record {
      start = g.start;
      started = g.started;
      past = omega arith;
      follow = λ unbroken. (λ some. sym (g.next (earlier unbroken) (has unbroken some)), given, g.follow (earlier unbroken));
      next = λ unbroken more.
          let reached = g.next (earlier unbroken) (λ drained. let less = more drained in omega arith) in
          let whole = all unbroken more in
          omega arith;
    }
  where
    earlier : IsUnbroken (played_run device mixed n old run) → IsUnbroken run
    earlier unbroken = All-tail (λ (piece : Piece). piece.short ≡ 0) (piece_of device mixed n old) run.pieces unbroken

-- a slot whose run goes on
placed_going : (device : DeviceSeen) (mixed n : ℕ) (old new : PlayBook) (run : Run) (runs : List Run) → is_started new.state ≡ true → 0 < new.written
    → All (IsOver device mixed) runs → run.dropped ≡ None → IsGoing device (mixed + n) new (played_run device mixed n old run) → SlotIsPlaced device (mixed + n) new (played_run device mixed n old run ∷ runs)
placed_going device mixed n old new run runs after written over kept g = (
  over-all device mixed (mixed + n) runs (omega arith) over,
  λ none. absurd (omega arith),
  λ more. record { dropped = kept; waits = λ e. absurd (let not_so : true ≡ false = sym after ∙ e in cc); goes = λ e. g },
)

-- a running slot: an interrupt that gets fewer frames leaves a piece that is short
placed_running : (device : DeviceSeen) (mixed n : ℕ) (book : PlayBook) (runs : List Run) → 0 < n → SlotIsValid device mixed (record book { state = Running }) runs → SlotIsPlaced device mixed (record book { state = Running }) runs
    → SlotIsPlaced device (mixed + n) (refilled (play_rate_at device book) mixed n (record book { state = Running })) (playing device mixed n (record book { state = Running }) runs)
placed_running device mixed n book [] some v p = tt
placed_running device mixed n book (run ∷ runs) some v p =
    let old : PlayBook = record book { state = Running } in
    let new : PlayBook = refilled (play_rate_at device book) mixed n old in
    let above = v.started refl in
    let undrained = (v.newest above).2 in
    let c = p.2 above in
    subst (SlotIsPlaced device (mixed + n) new) (sym (played_started device mixed n old run runs (grind (arith, nat_tests))))
    (placed_going device mixed n old new run runs refl above p.0 c.dropped
    (going_on device mixed n old new run refl (λ unbroken given drained. absurd (let not_so : true ≡ false = sym drained ∙ undrained in cc))
    (λ unbroken more. let short : n - giving (play_rate_at device book) n old ≡ 0 = All-head (λ (piece : Piece). piece.short ≡ 0) (piece_of device mixed n old) run.pieces unbroken in omega arith)
    (c.goes refl)))

-- a draining slot, which gets all frames or those that are left
placed_draining : (closed : Bool) (device : DeviceSeen) (mixed n : ℕ) (book : PlayBook) (runs : List Run) → 0 < n
    → SlotIsValid device mixed (record book { state = Draining closed }) runs → SlotIsPlaced device mixed (record book { state = Draining closed }) runs
    → SlotIsPlaced device (mixed + n) (refilled (play_rate_at device book) mixed n (record book { state = Draining closed })) (playing device mixed n (record book { state = Draining closed }) runs)
placed_draining closed device mixed n book [] some v p = tt
placed_draining closed device mixed n book (run ∷ runs) some v p =
    let old : PlayBook = record book { state = Draining closed } in
    let new : PlayBook = refilled (play_rate_at device book) mixed n old in
    let above = v.started refl in
    let newest = v.newest above in
    let c = p.2 above in
    let lasts = lasts-newest device old run runs newest in
    subst (SlotIsPlaced device (mixed + n) new) (sym (played_started device mixed n old run runs (grind (arith, nat_tests))))
    (placed_going device mixed n old new run runs refl above p.0 c.dropped
    (going_on device mixed n old new run refl (λ unbroken given drained. omega arith)
    (λ unbroken more. let less = more newest.2 in omega arith)
    (c.goes refl)))

placed_refilled_at : (state : PlayState) (device : DeviceSeen) (mixed n : ℕ) (book : PlayBook) (runs : List Run) → 0 < n
    → SlotIsValid device mixed (record book { state = state }) runs → SlotIsPlaced device mixed (record book { state = state }) runs
    → SlotIsPlaced device (mixed + n) (refilled (play_rate_at device book) mixed n (record book { state = state })) (playing device mixed n (record book { state = state }) runs)
placed_refilled_at Free device mixed n book runs some v p = placed_idle device mixed n (record book { state = Free }) runs refl p
placed_refilled_at Setup device mixed n book runs some v p = placed_idle device mixed n (record book { state = Setup }) runs refl p
placed_refilled_at Primed device mixed n book runs some v p = placed_idle device mixed n (record book { state = Primed }) runs refl p
placed_refilled_at Running device mixed n book runs some v p = placed_running device mixed n book runs some v p
placed_refilled_at (Draining closed) device mixed n book runs some v p = placed_draining closed device mixed n book runs some v p

no_frames : (b : Bool) → b && nat_lt 0 0 ≡ false
no_frames true = refl
no_frames false = refl

-- the pieces of a slot stay in their places once n frames were mixed
pub placed-mixing : (device : DeviceSeen) (mixed n : ℕ) (book : PlayBook) (runs : List Run) → SlotIsValid device mixed book runs → SlotIsPlaced device mixed book runs
    → SlotIsPlaced device (mixed + n) (mixing device mixed n book) (playing device mixed n book runs)
placed-mixing device mixed zero book runs v p =
    subst (λ (list : List Run). SlotIsPlaced device (mixed + 0) book list) (sym (played_idle device mixed 0 book runs (no_frames (is_started book.state))))
    (subst (λ (m : ℕ). SlotIsPlaced device m book runs) (sym (add-zero mixed)) p)
placed-mixing device mixed (suc n) book runs v p = placed_refilled_at book.state device mixed (suc n) book runs (omega arith) v p

-- ---- the frames that the device is given

-- a mark of an interrupt, which starts nothing, has no place
told_anywhere : (before after draining : Bool) (position later : ℕ) (run : Run) → (before ≡ false → after ≡ false) → told_run before after draining false position run ≡ told_run before after draining false later run
told_anywhere true true draining position later run stopped = refl
told_anywhere true false draining position later run stopped = refl
told_anywhere false true draining position later run stopped = absurd (let not_so : true ≡ false = stopped refl in cc)
told_anywhere false false draining position later run stopped = refl

marking_anywhere : (n position later : ℕ) (old between new : PlayBook) (runs : List Run) → between.state ≡ old.state → (is_started old.state ≡ false → is_started new.state ≡ false)
    → marking later (Intr n) between new runs ≡ marking position (Intr n) old new runs
marking_anywhere n position later old between new [] same stopped = refl
marking_anywhere n position later old between new (run ∷ runs) same stopped =
    ap (λ (started : Bool). told_run started (is_started new.state) (is_draining new.state) false later run ∷ runs) (ap is_started same)
    ∙ ap (λ (r : Run). r ∷ runs) (told_anywhere (is_started old.state) (is_started new.state) (is_draining new.state) later position run stopped)

settled_stopped : (state : PlayState) (rate : Rate) (passed : ℤ) (book : PlayBook) → is_started state ≡ false → is_started (play_settled_in rate passed state (record book { state = state })).state ≡ false
settled_stopped Free rate passed book e = refl
settled_stopped Setup rate passed book e = refl
settled_stopped Primed rate passed book e = refl
settled_stopped Running rate passed book e = cc
settled_stopped (Draining closed) rate passed book e = cc

-- the pieces of a slot stay in their places through an interrupt that mixes n frames, once the device has been given `handed` frames
pub placed-passing : (device : DeviceSeen) (mixed n handed frames : ℕ) (book : PlayBook) (runs : List Run) → IsDevice device → SlotIsValid device mixed book runs → SlotIsPlaced device mixed book runs
    → let between : PlayBook = mixing device mixed n book in
    let new : PlayBook = settling device handed between in
    let played : List Run = playing device mixed n book runs in
    PlayIsSafe (play_rate_at device between) between → SlotIsValid device (mixed + n) between played → SlotIsPlaced device (mixed + n) new (marking mixed (Intr frames) book new played)
placed-passing device mixed n handed frames book runs d v p safe valid =
    let between : PlayBook = mixing device mixed n book in
    let new : PlayBook = settling device handed between in
    let played : List Run = playing device mixed n book runs in
    let rate : Rate = play_rate_at device between in
    let same = state-mixing device mixed n book in
    subst (SlotIsPlaced device (mixed + n) new)
    (marking_anywhere frames mixed (mixed + n) book between new played same (λ stopped. settled_stopped between.state rate (passed_for device handed) between (ap is_started same ∙ stopped)))
    (placed-left device (mixed + n) (Intr frames) between new played d safe valid (given-settled rate (passed_for device handed) between) (untold-settling device (mixed + n) handed between played valid)
    (placed-mixing device mixed n book runs v p))
