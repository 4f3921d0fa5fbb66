-- The settings that a request leaves: outside Setup they stay, and their rate stays within the limits.
use Rattle.std.proofs.Common.{◌≡◌, ℕ, Bool, true, false, cond, ◌⊎◌, inl, inr, refl, sym, ◌∙◌, subst}
use Rattle.std.specs.Prelude.{nat_lt}
use Rattle.pcm_format.specs.declared.settings.Settings.{Settings}
use Rattle.pcm_oss.specs.declared.request.Request.{Request}
use Rattle.pcm_rate.specs.declared.rate.Rate.{Rate}
use Rattle.pcm_feeder.specs.Limits.{IsRate}
use Rattle.pcm_desk.specs.declared.here.Here.{Here}
use Rattle.pcm_desk.specs.declared.play_book.PlayBook.{PlayBook}
use Rattle.pcm_desk.specs.declared.play_book.PlayState.{PlayState}
use Rattle.pcm_desk.specs.declared.play_book.PlayState.TheVariants.{Free, Setup, Primed, Running, Draining}
use Rattle.pcm_desk.specs.PlayBooks.{closed_in, drained_in, frames_written, is_play_setup, play_dropped, started_at}
use Rattle.pcm_desk.specs.PlayRequests.{play_ask, play_roused_in, play_stopped_in, play_with_trigger}
use Rattle.pcm_desk.proofs.PlayAsking.{Dropping, Ending, Noting, SettingUp, Starting, Stopping, ask-does, noting}
use Rattle.pcm_desk.proofs.PlayLeaves.{close-keeps}

-- the same settings, or in Setup others whose rate is within the limits
pub record Resets (old new : PlayBook) : Type 0 where
  pub settings : (new.opening.settings ≡ old.opening.settings) ⊎ ((is_play_setup old.state ≡ true) × IsRate new.opening.settings.rate)

-- the settings stay
kept : (old new : PlayBook) → new.opening.settings ≡ old.opening.settings → Resets old new
kept old new e = record { settings = inl e }

-- what starts a book or stops it leaves its settings
rouse_primed : (b : Bool) (mixed : ℕ) (book : PlayBook) → (cond b (started_at mixed Running book) book).opening.settings ≡ book.opening.settings
rouse_primed true mixed book = refl
rouse_primed false mixed book = refl

rouse_at : (state : PlayState) (mixed : ℕ) (book : PlayBook) → (play_roused_in mixed state book).opening.settings ≡ book.opening.settings
rouse_at Free mixed book = refl
rouse_at Setup mixed book = refl
rouse_at Primed mixed book = rouse_primed (nat_lt 0 (frames_written book)) mixed book
rouse_at Running mixed book = refl
rouse_at (Draining closed) mixed book = refl

stop_at : (state : PlayState) (book : PlayBook) → (play_stopped_in state book).opening.settings ≡ book.opening.settings
stop_at Free book = refl
stop_at Setup book = refl
stop_at Primed book = refl
stop_at Running book = refl
stop_at (Draining closed) book = refl

close_at : (state : PlayState) (book : PlayBook) → (closed_in state book).opening.settings ≡ book.opening.settings
close_at Free book = refl
close_at Setup book = refl
close_at Primed book = refl
close_at Running book = refl
close_at (Draining closed) book = refl

-- a drain leaves what a close leaves, which ends with it
drain_keeps : (rate : Rate) (here : Here) (book : PlayBook) → (drained_in rate here book.state book).opening.settings ≡ book.opening.settings
drain_keeps rate here book =
    let drained : PlayBook = drained_in rate here book.state book in
    sym (close_at drained.state drained) ∙ (close-keeps rate here book).settings

-- ---- any request

-- a request leaves the settings, or sets others in Setup
ask_resets : (rate : Rate) (mix_rate : ℕ) (here : Here) (request : Request) (book : PlayBook) → IsRate book.opening.settings.rate → Resets book (play_ask rate mix_rate here request book).book
ask_resets rate mix_rate here request book s =
    elim (ask-does rate mix_rate here request book) [
      | SettingUp opening setup sets is ↦ subst (Resets book) (sym is) (record { settings = inr (setup, sets.rate s) })
      | Noting told volume underruns n is ↦ subst (Resets book) (sym is) (kept book (noting told volume underruns book) refl)
      | Starting trigger is ↦ subst (Resets book) (sym is) (kept book (play_roused_in here.mixed book.state (play_with_trigger trigger book)) (rouse_at book.state here.mixed (play_with_trigger trigger book)))
      | Stopping bits asks off is ↦ subst (Resets book) (sym is) (kept book (play_stopped_in book.state (play_with_trigger false book)) (stop_at book.state (play_with_trigger false book)))
      | Ending is ↦ subst (Resets book) (sym is) (kept book (drained_in rate here book.state book) (drain_keeps rate here book))
      | Dropping asks is ↦ subst (Resets book) (sym is) (kept book (play_dropped book) refl)
    ]

-- the rate of a book's settings stays within the limits through a request
pub ask-rate : (rate : Rate) (mix_rate : ℕ) (here : Here) (request : Request) (book : PlayBook) → IsRate book.opening.settings.rate → IsRate (play_ask rate mix_rate here request book).book.opening.settings.rate
ask-rate rate mix_rate here request book s =
    elim (ask_resets rate mix_rate here request book s).settings [
      | inl same ↦ subst (λ (settings : Settings). IsRate settings.rate) (sym same) s
      | inr set ↦ set.1
    ]

-- outside Setup the settings stay through a request
pub ask-settings : (rate : Rate) (mix_rate : ℕ) (here : Here) (request : Request) (book : PlayBook) → IsRate book.opening.settings.rate → is_play_setup book.state ≡ false → (play_ask rate mix_rate here request book).book.opening.settings ≡ book.opening.settings
ask-settings rate mix_rate here request book s e =
    elim (ask_resets rate mix_rate here request book s).settings [
      | inl same ↦ same
      | inr set ↦ absurd (let not_so : true ≡ false = sym set.0 ∙ e in cc)
    ]
