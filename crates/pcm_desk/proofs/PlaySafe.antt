-- The counts of a book stay in order through every event, for every rate between the client and the mix.
use Rattle.std.proofs.Common.{◌≡◌, ℕ, ℤ, ◌+◌, ◌-◌, ◌*◌, ◌<◌, ◌≤◌, Bool, true, false, cond, min, max, inl, inr, ◌⊎◌, refl, ap, arith}
use Rattle.std.proofs.Math.Nat.{mul-le-mul_right, zero-div}
use Rattle.std.specs.Prelude.{nat_le, ◌&&◌}
use Rattle.std.proofs.lemmas.Bool.{cases_lt}
use Rattle.pcm_desk.specs.Types.{Here, PlayBook, PlayState, Rate, Settings}
use Rattle.pcm_format.specs.Frames.{frame_bytes}
use Rattle.pcm_format.proofs.Whole.{whole_frames-mono}
use Rattle.pcm_oss.proofs.Limits.{usual-fragments}
use Rattle.pcm_rate.specs.Rates.{IsRatio, need, can, len}
use Rattle.pcm_rate.proofs.Counts.{below_div_up, can-greatest, can-le-len, need_grows, need-past}
use Rattle.pcm_desk.specs.declared.play_book.PlayState.TheVariants.{Free, Setup, Primed, Running, Draining}
use Rattle.pcm_desk.specs.Openings.{fragment_bytes}
use Rattle.pcm_desk.specs.PlayBooks.{accepting, allowed_in, close_turn, drained_in, finished, frames_written, gives, is_draining, is_started, play_begun, play_fill_of, play_free_of, play_settled, refilled, takes_none, write_turn}
use Rattle.pcm_desk.specs.PlaySafe.{EatsInTime, IsDraining, IsPlayInOrder, IsPlayUnstarted, IsRunning, PlayIsSafe}
use Rattle.pcm_desk.proofs.PlayTurns.{IsGrown, by-accepting, by-closed, by-drained, by-refilled, by-settled, by-writing}

-- ---- counts alone

-- nothing is eaten and given before the first frame
pub unstarted : IsPlayUnstarted 0 0
unstarted = record { eaten_none = refl; given_none = refl }

-- with nothing eaten and given a run may start
pub unstarted_running : (rate : Rate) (frames eaten given : ℕ) → IsPlayUnstarted eaten given → IsRunning rate frames eaten given
unstarted_running rate frames eaten given u = grind arith

-- and may drain from its start
unstarted_draining : (rate : Rate) (frames eaten given : ℕ) → IsPlayUnstarted eaten given → IsDraining rate frames eaten given
unstarted_draining rate frames eaten given u = grind arith

-- more frames were written
running-more : (rate : Rate) (frames more eaten given : ℕ) → IsRatio rate → frames ≤ more → IsRunning rate frames eaten given → IsRunning rate more eaten given
running-more rate frames more eaten given r grew o = let allowed = can-greatest rate r.src r.dst given more in grind arith

-- no more comes
running-drains : (rate : Rate) (frames eaten given : ℕ) → IsRatio rate → IsRunning rate frames eaten given → IsDraining rate frames eaten given
running-drains rate frames eaten given r o = let within = can-le-len rate frames r.src in record { eats = o.eats; needed = grind arith; allowed = grind arith }

-- what is eaten for the next n frames of the mix is eaten in time, wherever the giving stops
early-more : (rate : Rate) (frames eaten given n m : ℕ) → IsRatio rate → EatsInTime rate frames eaten given → m ≤ n → (m ≡ n → ⊥) → frames < need rate (given + m + 1)
    → EatsInTime rate frames (max eaten (min frames (need rate (given + n)))) (given + m)
early-more rate frames eaten given n m r o within short past = grind arith

early-all : (rate : Rate) (frames eaten given n : ℕ) → IsRatio rate → EatsInTime rate frames eaten given
    → EatsInTime rate frames (max eaten (min frames (need rate (given + n)))) (given + n)
early-all rate frames eaten given n r o =
    let first = need_grows rate given (given + n) r.dst (omega arith) in
    let next = need_grows rate (given + n) (given + n + 1) r.dst (omega arith) in
    record { written = omega arith; early = grind (arith, need_grows) }

-- so it is where it stops at `most`, of which no fewer are allowed than come of what was written
gives-in-time : (rate : Rate) (frames eaten given n most : ℕ) → IsRatio rate → given ≤ most → can rate frames ≤ most → EatsInTime rate frames eaten given
    → EatsInTime rate frames (max eaten (min frames (need rate (given + n)))) (given + min n (most - given))
gives-in-time rate frames eaten given n most r within allowed o =
    elim (cases_lt (most - given) n) [
      | inl fewer ↦ (
          let gave : min n (most - given) ≡ most - given = omega arith in
          rw gave (early-more rate frames eaten given n (most - given) r o (omega arith) (λ e. omega arith) (need-past rate (given + (most - given) + 1) frames r (omega arith))))
      | inr all ↦ (let gave : min n (most - given) ≡ n = omega arith in rw gave (early-all rate frames eaten given n r o))
    ]

-- a running book at an interrupt: it gives all n frames, or as many as are allowed
running-gives : (rate : Rate) (frames eaten given n : ℕ) → IsRatio rate → IsRunning rate frames eaten given
    → IsRunning rate frames (max eaten (min frames (need rate (given + n)))) (given + min n (can rate frames - given))
running-gives rate frames eaten given n r o =
    let allowed = o.allowed in
    let grows = need_grows rate (given + min n (can rate frames - given)) (given + n) r.dst (omega arith) in
    let most = (can-greatest rate r.src r.dst (given + min n (can rate frames - given)) frames).1 (omega arith) in
    record { eats = gives-in-time rate frames eaten given n (can rate frames) r allowed (omega arith) o.eats; needed = omega arith; allowed = omega arith }

-- a draining book at an interrupt: it gives all n frames, or as many as are left
draining-gives : (rate : Rate) (frames eaten given n : ℕ) → IsRatio rate → IsDraining rate frames eaten given
    → IsDraining rate frames (max eaten (min frames (need rate (given + n)))) (given + min n (len rate frames - given))
draining-gives rate frames eaten given n r o =
    let allowed = o.allowed in
    let grows = need_grows rate (given + min n (len rate frames - given)) (given + n) r.dst (omega arith) in
    record { eats = gives-in-time rate frames eaten given n (len rate frames) r allowed (can-le-len rate frames r.src) o.eats; needed = omega arith; allowed = omega arith }

-- ---- a book after each event

-- an opening
pub safe-begun : (rate : Rate) (settings : Settings) → PlayIsSafe rate (play_begun settings)
safe-begun rate settings = grind (arith, usual-fragments)

-- a book with more bytes and a state
abbrev pub grown : ℕ → PlayState → PlayBook → PlayBook
grown accepted state old = record old { state = state; written = old.written + accepted }

-- whether a primed book with more bytes starts
abbrev pub full_at : ℕ → PlayBook → Bool
full_at accepted old = old.opening.trigger && nat_le (fragment_bytes old.opening) (play_fill_of (grown accepted Primed old))

order_grown : (rate : Rate) (accepted : ℕ) (state : PlayState) (book : PlayBook) → IsRatio rate → takes_none book.state ≡ false → IsGrown accepted book state
    → IsPlayInOrder rate book.state book → IsPlayInOrder rate state (grown accepted state book)
order_grown rate accepted state book r more how o =
    let grew = whole_frames-mono book.opening.settings book.written (book.written + accepted) (omega arith) in
    let runs = running-more rate (frames_written book) (frames_written (grown accepted state book)) book.eaten book.given r grew in
    grind arith

pub order_waits : (rate : Rate) (book : PlayBook) → (book.state ≡ Primed) ⊎ (book.state ≡ Setup) → IsPlayInOrder rate book.state book → IsPlayUnstarted book.eaten book.given
order_waits rate book waits o = grind arith

-- a book that takes bytes doesn't drain
pub undrained : (state : PlayState) → takes_none state ≡ false → is_draining state ≡ false
undrained state more = grind arith

-- bytes that fit, while more may come
pub safe-accepting : (rate : Rate) (mixed accepted : ℕ) (book : PlayBook) → IsRatio rate → takes_none book.state ≡ false → accepted ≤ play_free_of book → PlayIsSafe rate book → PlayIsSafe rate (accepting mixed accepted book)
safe-accepting rate mixed accepted book r more room s =
    let fill = s.fill in
    by-accepting (PlayIsSafe rate) mixed accepted book
    (λ state how. record { order = order_grown rate accepted state book r more how s.order; fill = omega arith; fragments = s.fragments; volume = s.volume; told = s.told })
    (λ waits. record { order = unstarted_running rate (frames_written (grown accepted Running book)) book.eaten book.given (order_waits rate book waits s.order); fill = omega arith; fragments = s.fragments; volume = s.volume; told = s.told })

-- a write
pub safe-write : (rate : Rate) (here : Here) (length : ℕ) (book : PlayBook) → IsRatio rate → PlayIsSafe rate book → PlayIsSafe rate (write_turn here length book).book
safe-write rate here length book r s = by-writing (PlayIsSafe rate) here length book s (λ more. safe-accepting rate here.mixed (min length (play_free_of book)) book r more (omega arith) s)

-- a position that was reached stays so while more is eaten, be it of a run that is over then
played_grows : (told done z a b : ℕ) → told ≤ done + a * z → a ≤ b → told ≤ done + b * z
played_grows told done z a b t h = let more = mul-le-mul_right z h in omega arith

order_over : (rate : Rate) (closed : Bool) (book : PlayBook) → IsPlayInOrder rate (cond closed Free Setup) (finished (cond closed Free Setup) book)
order_over rate closed book = grind arith

eaten_written : (rate : Rate) (book : PlayBook) → is_draining book.state ≡ true → IsPlayInOrder rate book.state book → book.eaten ≤ frames_written book
eaten_written rate book e o = grind arith

-- a hand-over
pub safe-settled : (rate : Rate) (passed : ℤ) (book : PlayBook) → PlayIsSafe rate book → PlayIsSafe rate (play_settled rate passed book)
safe-settled rate passed book s =
    by-settled (PlayIsSafe rate) rate passed book (λ _. s)
    (λ closed e. let told = played_grows book.opening.told book.done (frame_bytes book.opening.settings) book.eaten (frames_written book) s.told (eaten_written rate book (ap is_draining e) s.order) in
    record { order = order_over rate closed book; fill = omega arith; fragments = s.fragments; volume = s.volume; told = omega arith })

-- no more comes
pub safe-drained : (rate : Rate) (here : Here) (book : PlayBook) → IsRatio rate → PlayIsSafe rate book → PlayIsSafe rate (drained_in rate here book.state book)
safe-drained rate here book r s =
    by-drained (PlayIsSafe rate) rate here book s
    (λ e some. record { order = unstarted_draining rate (frames_written book) book.eaten book.given (order_waits rate book (inl e) s.order); fill = s.fill; fragments = s.fragments; volume = s.volume; told = s.told })
    (λ e. let none = (order_waits rate book (inl e) s.order).eaten_none in record { order = (refl, unstarted); fill = omega arith; fragments = s.fragments; volume = s.volume; told = rw none at s.told })
    (λ e. safe-settled rate here.passed (record book { state = Draining false })
    (record { order = running-drains rate (frames_written book) book.eaten book.given r (rw e at s.order); fill = s.fill; fragments = s.fragments; volume = s.volume; told = s.told }))

-- a close
pub safe-close : (rate : Rate) (here : Here) (book : PlayBook) → IsRatio rate → PlayIsSafe rate book → PlayIsSafe rate (close_turn rate here book)
safe-close rate here book r s =
    let drained : PlayBook = drained_in rate here book.state book in
    let safe = safe-drained rate here book r s in
    by-closed (PlayIsSafe rate) drained safe (λ state order starts drains. record { order = order rate safe.order; fill = safe.fill; fragments = safe.fragments; volume = safe.volume; told = safe.told })

order_gives : (rate : Rate) (mixed n underruns : ℕ) (book : PlayBook) → IsRatio rate → is_started book.state ≡ true → IsPlayInOrder rate book.state book → IsPlayInOrder rate book.state (record (gives rate mixed n book) { underruns = underruns })
order_gives rate mixed n underruns book r e o = grind (arith, running-gives, draining-gives)

-- an interrupt that mixes
pub safe-refilled : (rate : Rate) (mixed n : ℕ) (book : PlayBook) → IsRatio rate → PlayIsSafe rate book → PlayIsSafe rate (refilled rate mixed n book)
safe-refilled rate mixed n book r s =
    let fill = s.fill in
    let after : ℕ = max book.eaten (min (frames_written book) (need rate (book.given + n))) in
    let more : book.eaten * frame_bytes book.opening.settings ≤ after * frame_bytes book.opening.settings = mul-le-mul_right (frame_bytes book.opening.settings) (omega arith) in
    by-refilled (PlayIsSafe rate) rate mixed n book s
    (λ underruns e. record { order = order_gives rate mixed n underruns book r e s.order; fill = omega arith; fragments = s.fragments; volume = s.volume; told = (let told = s.told in omega arith) })

-- ---- what a book allows

-- a started book gave no more than it allows
pub given-allowed : (state : PlayState) (rate : Rate) (book : PlayBook) → IsRatio rate → is_started state ≡ true → IsPlayInOrder rate state book → book.given ≤ allowed_in rate state book
given-allowed state rate book r e o = grind arith

-- and allows no more than lasts as long as what was written
pub allowed-lasts : (state : PlayState) (rate : Rate) (book : PlayBook) → IsRatio rate → allowed_in rate state book ≤ len rate (frames_written book)
allowed-lasts state rate book r = let within = can-le-len rate (frames_written book) r.src in grind arith

-- a book with nothing written counts nothing
pub none-written : (rate : Rate) (book : PlayBook) → IsRatio rate → book.written ≡ 0 → PlayIsSafe rate book → IsPlayUnstarted book.eaten book.given
none-written rate book r none s =
    let order = s.order in
    let within = can-le-len rate (frames_written book) r.src in
    let up = below_div_up 0 (frames_written book * rate.dst) rate.src r.src in
    grind (arith, zero-div)

-- only a started book allows any
pub allowed-started : (state : PlayState) (rate : Rate) (book : PlayBook) → 0 < allowed_in rate state book → is_started state ≡ true
allowed-started state rate book h = grind arith

-- ---- the settings of a book

-- an interrupt leaves them
pub settings-refilled : (rate : Rate) (mixed n : ℕ) (book : PlayBook) → (refilled rate mixed n book).opening.settings ≡ book.opening.settings
settings-refilled rate mixed n book = grind arith

-- and the state
pub state-refilled : (rate : Rate) (mixed n : ℕ) (book : PlayBook) → (refilled rate mixed n book).state ≡ book.state
state-refilled rate mixed n book = grind arith

-- and what was written
pub written-refilled : (rate : Rate) (mixed n : ℕ) (book : PlayBook) → (refilled rate mixed n book).written ≡ book.written
written-refilled rate mixed n book = grind arith

-- a hand-over leaves them too
pub settings-settled : (rate : Rate) (passed : ℤ) (book : PlayBook) → (play_settled rate passed book).opening.settings ≡ book.opening.settings
settings-settled rate passed book = grind arith
