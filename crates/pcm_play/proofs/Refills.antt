-- What an interrupt leaves of a channel: how far a pull of its chain goes is what its book counts.
use Rattle.std.proofs.Common.{◌≡◌, ℕ, zero, suc, ◌+◌, ◌-◌, ◌<◌, ◌≤◌, true, false, cond, min, List, length, take, drop, refl, sym, ap, ◌∙◌, arith, length-take, length-drop}
use Rattle.pcm_format.specs.declared.settings.Settings.{Settings}
use Rattle.pcm_format.specs.Frames.{frames, whole_frames}
use Rattle.pcm_format.proofs.Streams.{length-frames}
use Rattle.pcm_rate.specs.declared.rate.Rate.{Rate}
use Rattle.pcm_rate.specs.Rates.{can, len}
use Rattle.pcm_chain.specs.declared.chain.Pulled.{Pulled}
use Rattle.pcm_chain.specs.Pulls.{PullsAsFar}
use Rattle.pcm_desk.specs.declared.play_book.PlayBook.{PlayBook}
use Rattle.pcm_desk.specs.declared.play_book.PlayState.{PlayState}
use Rattle.pcm_desk.specs.declared.play_book.PlayState.TheVariants.{Free, Setup, Primed, Running, Draining}
use Rattle.pcm_desk.specs.Device.{DeviceSeen}
use Rattle.pcm_desk.specs.PlayBooks.{allowed_in, eaten_after, frames_written, giving, is_draining, is_started, refilled}
use Rattle.pcm_desk.specs.PlaySafe.{IsPlayInOrder, PlayIsSafe}
use Rattle.pcm_desk.specs.Channels.{mixing, play_rate_at}

-- ---- books

-- an interrupt that mixes some frames is a refill
pub mixing-some : (device : DeviceSeen) (mixed n : ℕ) (book : PlayBook) → 0 < n → mixing device mixed n book ≡ refilled (play_rate_at device book) mixed n book
mixing-some device mixed zero book some = absurd (omega arith)
mixing-some device mixed (suc n) book some = refl

-- what is allowed of a started book, by whether it drains
pub allowed-is : (rate : Rate) (book : PlayBook) → is_started book.state ≡ true
    → allowed_in rate book.state book ≡ cond (is_draining book.state) (len rate (frames_written book)) (can rate (frames_written book))
allowed-is rate book started = at book.state started
  where
    at : (state : PlayState) → is_started state ≡ true → allowed_in rate state book ≡ cond (is_draining state) (len rate (frames_written book)) (can rate (frames_written book))
    at Free e = cc
    at Setup e = cc
    at Primed e = cc
    at Running e = refl
    at (Draining closed) e = refl

-- a book that isn't started gives nothing
pub giving-none : (rate : Rate) (n : ℕ) (book : PlayBook) → is_started book.state ≡ false → giving rate n book ≡ 0
giving-none rate n book idle = at book.state idle
  where
    at : (state : PlayState) → is_started state ≡ false → min n (allowed_in rate state book - book.given) ≡ 0
    at Free e = omega arith
    at Setup e = omega arith
    at Primed e = omega arith
    at Running e = cc
    at (Draining closed) e = cc

-- no frame is eaten that wasn't written
pub eaten-written : (rate : Rate) (book : PlayBook) → PlayIsSafe rate book → book.eaten ≤ frames_written book
eaten-written rate book safe = at book.state safe.order
  where
    at : (state : PlayState) → IsPlayInOrder rate state book → book.eaten ≤ frames_written book
    at Free o = let u = o.1 in let none = u.eaten_none in omega arith
    at Setup o = let u = o.1 in let none = u.eaten_none in omega arith
    at Primed o = let u = o.1 in let none = u.eaten_none in omega arith
    at Running o = o.eats.written
    at (Draining closed) o = o.eats.written

-- the counts of a started book after an interrupt that mixes n frames
pub record Goes (rate : Rate) (n : ℕ) (old new : PlayBook) : Type 0 where
  pub settings : new.opening.settings ≡ old.opening.settings
  pub fragments : new.opening.fragments ≡ old.opening.fragments
  pub done : new.done ≡ old.done
  pub written : new.written ≡ old.written
  pub eaten : new.eaten ≡ eaten_after rate n old
  pub given : new.given ≡ old.given + giving rate n old
  pub draining : is_draining new.state ≡ is_draining old.state

pub refilled-goes : (rate : Rate) (mixed n : ℕ) (book : PlayBook) → is_started book.state ≡ true → Goes rate n book (refilled rate mixed n book)
refilled-goes rate mixed n book started = at book.state started
  where
    at : (state : PlayState) → is_started state ≡ true → Goes rate n (record book { state = state }) (refilled rate mixed n (record book { state = state }))
    at Free e = cc
    at Setup e = cc
    at Primed e = cc
    at Running e = record { settings = refl; fragments = refl; done = refl; written = refl; eaten = refl; given = refl; draining = refl }
    at (Draining closed) e = record { settings = refl; fragments = refl; done = refl; written = refl; eaten = refl; given = refl; draining = refl }

-- ---- pulls

-- the frames of a run, cut where the book has eaten
pub length-eaten : (settings : Settings) (bytes : List ℕ) (n : ℕ) → n ≤ whole_frames settings (length bytes) → length (take n (frames settings bytes)) ≡ n
length-eaten settings bytes n within = omega (arith, length-take n (frames settings bytes), length-frames settings bytes)

pub length-waiting : (settings : Settings) (bytes : List ℕ) (n : ℕ) → length (drop n (frames settings bytes)) ≡ whole_frames settings (length bytes) - n
length-waiting settings bytes n = omega (arith, length-drop n (frames settings bytes), length-frames settings bytes)

-- a pull gives and eats what the book counts
pub record PullsAsCounted (rate : Rate) (n : ℕ) (book : PlayBook) (pulled : Pulled) : Type 0 where
  pub given : pulled.given ≡ giving rate n book
  pub eaten : book.eaten + pulled.eaten ≡ eaten_after rate n book

pub pulls-counted : (rate : Rate) (n : ℕ) (book : PlayBook) (pulled : Pulled) → is_started book.state ≡ true → book.eaten ≤ frames_written book
    → PullsAsFar rate (is_draining book.state) n book.eaten (frames_written book - book.eaten) book.given pulled → PullsAsCounted rate n book pulled
pulls-counted rate n book pulled started within far =
    let waiting : ℕ = frames_written book - book.eaten in
    let all : book.eaten + waiting ≡ frames_written book = omega arith in
    let allowed = allowed-is rate book started in
    let reach : cond (is_draining book.state) (len rate (book.eaten + waiting)) (can rate (book.eaten + waiting)) ≡ allowed_in rate book.state book =
    ap (λ k. cond (is_draining book.state) (len rate k) (can rate k)) all ∙ sym allowed in
    let went = far.eaten in
    record {
      given = far.given ∙ ap (λ k. min n (k - book.given)) reach;
      eaten = omega (arith, went);
    }
