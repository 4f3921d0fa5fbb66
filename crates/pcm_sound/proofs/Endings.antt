-- An event that drops nothing ends a started book only once it has given all that it lasts for.
use Rattle.std.proofs.Common.{◌≡◌, ◌<◌, ℕ, ℤ, pos, Bool, true, false, cond, inl, inr, refl, sym, ap, ◌∙◌, subst, arith}
use Rattle.std.specs.Prelude.{int_le, not}
use Rattle.std.proofs.lemmas.Bool.{and_parts, eqb-true}
use Rattle.pcm_format.specs.declared.settings.Settings.{Settings}
use Rattle.pcm_oss.specs.declared.request.Request.{Request}
use Rattle.pcm_rate.specs.declared.rate.Rate.{Rate}
use Rattle.pcm_rate.specs.Rates.{len}
use Rattle.pcm_desk.specs.declared.here.Here.{Here}
use Rattle.pcm_desk.specs.declared.play_book.PlayBook.{PlayBook}
use Rattle.pcm_desk.specs.declared.play_book.PlayState.{PlayState}
use Rattle.pcm_desk.specs.declared.play_book.PlayState.TheVariants.{Free, Setup, Primed, Running, Draining}
use Rattle.pcm_desk.specs.PlayBooks.{close_turn, closed_in, drained_in, finished, frames_written, has_given_all, is_over, is_play_free, is_play_setup, is_started, play_begun, play_settled}
use Rattle.pcm_desk.specs.PlayRequests.{play_ask, play_roused_in, play_with_trigger}
use Rattle.pcm_desk.specs.PlaySafe.{PlayIsSafe}
use Rattle.pcm_desk.proofs.PlayAsking.{Dropping, Ending, Noting, SettingUp, Starting, Stopping, ask-does, noting}
use Rattle.pcm_desk.proofs.PlayLeaves.{Leaves, ask-leaves, close-leaves, settle-leaves}
use Rattle.pcm_sound.specs.Runs.{asks_drop}

-- a book that was started and is no more has given all, unless it was dropped
abbrev pub EndsWhole : Rate → Bool → PlayBook → PlayBook → Type 0
EndsWhole rate dropping old new = is_started old.state ≡ true → is_started new.state ≡ false → dropping ≡ false → old.given ≡ len rate (frames_written old)

-- what an event that takes no frames and brings no bytes leaves of a book: what it gave, while anything is written
pub record KeepsGiven (rate : Rate) (dropping : Bool) (old new : PlayBook) : Type 0 where
  pub written : 0 < new.written → 0 < old.written
  pub given : 0 < new.written → new.given ≡ old.given
  pub whole : EndsWhole rate dropping old new

-- a book that stays started ends nothing
unended : (rate : Rate) (dropping : Bool) (old new : PlayBook) → (is_started old.state ≡ true → is_started new.state ≡ true) → EndsWhole rate dropping old new
unended rate dropping old new plays s e d = absurd (let not_so : true ≡ false = sym (plays s) ∙ e in cc)

-- nor does one to which nothing happens
same : (rate : Rate) (dropping : Bool) (book : PlayBook) → EndsWhole rate dropping book book
same rate dropping book = unended rate dropping book book (λ s. s)

-- ---- a drain, a close

-- a book that is over has given all
over_whole : (rate : Rate) (passed : ℤ) (book : PlayBook) → is_over rate passed book ≡ true → book.given ≡ len rate (frames_written book)
over_whole rate passed book e = eqb-true book.given (len rate (frames_written book)) (and_parts (has_given_all rate book) (int_le (pos book.last) passed) e).0

settle_over : (b closed was : Bool) (rate : Rate) (passed : ℤ) (dropping : Bool) (state : PlayState) (book : PlayBook) → is_over rate passed book ≡ b
    → EndsWhole rate dropping (record book { state = state }) (cond b (finished (cond closed Free Setup) (record book { state = Draining was })) (record book { state = Draining was }))
settle_over true closed was rate passed dropping state book e s n d = over_whole rate passed book e
settle_over false closed was rate passed dropping state book e s n d = cc

settle_at : (state : PlayState) (rate : Rate) (passed : ℤ) (dropping : Bool) (book : PlayBook) → EndsWhole rate dropping (record book { state = state }) (play_settled rate passed (record book { state = state }))
settle_at Free rate passed dropping book s n d = cc
settle_at Setup rate passed dropping book s n d = cc
settle_at Primed rate passed dropping book s n d = cc
settle_at Running rate passed dropping book s n d = cc
settle_at (Draining closed) rate passed dropping book s n d = settle_over (is_over rate passed (record book { state = Draining closed })) closed closed rate passed dropping (Draining closed) book refl s n d

drain_at : (state : PlayState) (rate : Rate) (here : Here) (dropping : Bool) (book : PlayBook) → EndsWhole rate dropping (record book { state = state }) (drained_in rate here state (record book { state = state }))
drain_at Free rate here dropping book s n d = cc
drain_at Setup rate here dropping book s n d = cc
drain_at Primed rate here dropping book s n d = cc
drain_at Running rate here dropping book s n d = settle_over (is_over rate here.passed (record book { state = Draining false })) false false rate here.passed dropping Running book refl s n d
drain_at (Draining closed) rate here dropping book s n d = cc

closed_started : (state : PlayState) (book : PlayBook) → is_started state ≡ true → is_started (closed_in state (record book { state = state })).state ≡ true
closed_started Free book e = cc
closed_started Setup book e = cc
closed_started Primed book e = cc
closed_started Running book e = refl
closed_started (Draining was) book e = refl

close_at : (b : Bool) (rate : Rate) (book between : PlayBook) → is_started between.state ≡ b → EndsWhole rate false book between → EndsWhole rate false book (closed_in between.state between)
close_at true rate book between e whole s n d = absurd (let not_so : true ≡ false = sym (closed_started between.state between e) ∙ n in cc)
close_at false rate book between e whole s n d = whole s e d

-- a close drops nothing
whole_close : (rate : Rate) (here : Here) (book : PlayBook) → EndsWhole rate false book (close_turn rate here book)
whole_close rate here book =
    let between : PlayBook = drained_in rate here book.state book in
    close_at (is_started between.state) rate book between refl (drain_at book.state rate here false book)

-- ---- requests

rouse_at : (state : PlayState) (mixed : ℕ) (trigger : Bool) (rate : Rate) (dropping : Bool) (book : PlayBook) → EndsWhole rate dropping (record book { state = state }) (play_roused_in mixed state (play_with_trigger trigger (record book { state = state })))
rouse_at Free mixed trigger rate dropping book s n d = cc
rouse_at Setup mixed trigger rate dropping book s n d = cc
rouse_at Primed mixed trigger rate dropping book s n d = cc
rouse_at Running mixed trigger rate dropping book s n d = cc
rouse_at (Draining closed) mixed trigger rate dropping book s n d = cc

-- of the requests, a halt and a trigger that is set off drop what they end
whole_ask : (rate : Rate) (mix_rate : ℕ) (here : Here) (request : Request) (book : PlayBook) → EndsWhole rate (asks_drop request) book (play_ask rate mix_rate here request book).book
whole_ask rate mix_rate here request book =
    elim (ask-does rate mix_rate here request book) [
      | SettingUp opening setup sets is ↦ subst Ends (sym is) (unended rate (asks_drop request) book (record book { opening = opening }) (λ s. s))
      | Noting told volume underruns n is ↦ subst Ends (sym is) (unended rate (asks_drop request) book (noting told volume underruns book) (λ s. s))
      | Starting trigger is ↦ subst Ends (sym is) (rouse_at book.state here.mixed trigger rate (asks_drop request) book)
      | Stopping bits asks off is ↦ subst Ends (sym is) (λ s n d. absurd (let not_so : true ≡ false = sym (ap not off) ∙ sym (ap asks_drop asks) ∙ d in cc))
      | Ending is ↦ subst Ends (sym is) (drain_at book.state rate here (asks_drop request) book)
      | Dropping asks is ↦ subst Ends (sym is) (λ s n d. absurd (let not_so : true ≡ false = sym (ap asks_drop asks) ∙ d in cc))
    ]
  where
    Ends : PlayBook → Type 0
    Ends new = EndsWhole rate (asks_drop request) book new

-- ---- what is left

-- where the counts stay, or nothing is left of a run
given_left : (rate : Rate) (dropping : Bool) (old new : PlayBook) → Leaves old new → EndsWhole rate dropping old new → KeepsGiven rate dropping old new
given_left rate dropping old new l whole =
    elim l.counts [
      | inl kept ↦ record { written = λ h. let w = kept.written in omega arith; given = λ h. kept.given; whole = whole }
      | inr over ↦ record { written = λ h. absurd (let w = over.written in omega arith); given = λ h. absurd (let w = over.written in omega arith); whole = whole }
    ]

-- nothing happens to a book
pub given-same : (rate : Rate) (dropping : Bool) (book : PlayBook) → KeepsGiven rate dropping book book
given-same rate dropping book = record { written = λ h. h; given = λ h. refl; whole = same rate dropping book }

-- a request
pub given-ask : (rate : Rate) (mix_rate : ℕ) (here : Here) (request : Request) (book : PlayBook) → PlayIsSafe rate book → KeepsGiven rate (asks_drop request) book (play_ask rate mix_rate here request book).book
given-ask rate mix_rate here request book safe =
    given_left rate (asks_drop request) book (play_ask rate mix_rate here request book).book (ask-leaves rate mix_rate here request book safe) (whole_ask rate mix_rate here request book)

-- a request before a run drops nothing, whatever it is
setup_stopped : (state : PlayState) → is_play_setup state ≡ true → is_started state ≡ false
setup_stopped Setup e = refl
setup_stopped Free e = cc
setup_stopped Primed e = cc
setup_stopped Running e = cc
setup_stopped (Draining closed) e = cc

pub given-rest : (rate : Rate) (mix_rate : ℕ) (here : Here) (request : Request) (book : PlayBook) → PlayIsSafe rate book → is_play_setup book.state ≡ true → KeepsGiven rate false book (play_ask rate mix_rate here request book).book
given-rest rate mix_rate here request book safe rests =
    given_left rate false book (play_ask rate mix_rate here request book).book (ask-leaves rate mix_rate here request book safe)
    (λ s n d. absurd (let not_so : true ≡ false = sym s ∙ setup_stopped book.state rests in cc))

-- a close
pub given-close : (rate : Rate) (here : Here) (book : PlayBook) → KeepsGiven rate false book (close_turn rate here book)
given-close rate here book = given_left rate false book (close_turn rate here book) (close-leaves rate here book) (whole_close rate here book)

-- a hand-over
pub given-settled : (rate : Rate) (passed : ℤ) (book : PlayBook) → KeepsGiven rate false book (play_settled rate passed book)
given-settled rate passed book = given_left rate false book (play_settled rate passed book) (settle-leaves rate passed book) (settle_at book.state rate passed false book)

free_stopped : (state : PlayState) → is_play_free state ≡ true → is_started state ≡ false
free_stopped Free e = refl
free_stopped Setup e = cc
free_stopped Primed e = cc
free_stopped Running e = cc
free_stopped (Draining closed) e = cc

-- an opening of a slot that was free
pub given-begun : (rate : Rate) (book : PlayBook) (settings : Settings) → is_play_free book.state ≡ true → KeepsGiven rate false book (play_begun settings)
given-begun rate book settings free = record {
  written = λ h. absurd (omega arith);
  given = λ h. absurd (omega arith);
  whole = λ s n d. absurd (let not_so : true ≡ false = sym s ∙ free_stopped book.state free in cc);
}
