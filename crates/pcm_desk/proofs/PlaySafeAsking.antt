-- The counts of a book stay in order through every request, which may change the rate between it and the mix in Setup alone.
use Rattle.std.proofs.Common.{◌≡◌, ℕ, ◌≤◌, Bool, true, false, inl, inr, refl, sym, subst, arith}
use Rattle.pcm_desk.specs.Types.{Here, Opening, PlayBook, Rate, Request}
use Rattle.pcm_oss.specs.Fragments.{AreFragments}
use Rattle.pcm_oss.specs.Volumes.{is_volume}
use Rattle.pcm_rate.specs.Rates.{IsRatio}
use Rattle.pcm_desk.specs.PlayBooks.{frames_written, is_play_setup, play_dropped, played_of}
use Rattle.pcm_desk.specs.PlayRequests.{play_ask, play_roused_in, play_with_trigger}
use Rattle.pcm_desk.specs.PlaySafe.{IsPlayInOrder, PlayIsSafe}
use Rattle.pcm_desk.proofs.PlayAsking.{Dropping, Ending, Noting, SettingUp, Starting, Stopping, ask-does}
use Rattle.pcm_desk.proofs.PlayTurns.{by-roused, by-stopped}
use Rattle.pcm_desk.proofs.PlaySafe.{order_waits, safe-drained, unstarted, unstarted_running}

-- ---- in Setup

setup_none : (rate : Rate) (book : PlayBook) → is_play_setup book.state ≡ true → IsPlayInOrder rate book.state book → (book.written ≡ 0) × (book.eaten ≡ 0)
setup_none rate book e o = grind arith

setup_order : (rate now : Rate) (book : PlayBook) (opening : Opening) → is_play_setup book.state ≡ true → IsPlayInOrder rate book.state book → IsPlayInOrder now book.state (record book { opening = opening })
setup_order rate now book opening e o = grind arith

-- a book in Setup is safe at every rate, with any settings and any fragments
anew : (rate now : Rate) (book : PlayBook) (opening : Opening) → is_play_setup book.state ≡ true → AreFragments opening.fragments → opening.told ≡ book.opening.told → PlayIsSafe rate book
    → PlayIsSafe now (record book { opening = opening })
anew rate now book opening e f t s =
    let nothing = (setup_none rate book e s.order).0 in
    let none = (setup_none rate book e s.order).1 in
    let reached = rw none at s.told in
    record { order = setup_order rate now book opening e s.order; fill = omega arith; fragments = f; volume = s.volume; told = rw none (omega (arith, reached, t)) }

-- ---- in every state

-- the counts of a book stay in order whatever is noted of it besides
order_noted : (rate : Rate) (book : PlayBook) (trigger : Bool) (volume told underruns : ℕ) → IsPlayInOrder rate book.state book
    → IsPlayInOrder rate book.state (record book { opening = record book.opening { trigger = trigger; told = told }; volume = volume; underruns = underruns })
order_noted rate book trigger volume told underruns o = grind arith

-- so does a book with a trigger, a volume, a last answered position and a count of shortages
with_notes : (rate : Rate) (book : PlayBook) (trigger : Bool) (volume told underruns : ℕ) → is_volume volume ≡ true → told ≤ played_of book → PlayIsSafe rate book
    → PlayIsSafe rate (record book { opening = record book.opening { trigger = trigger; told = told }; volume = volume; underruns = underruns })
with_notes rate book trigger volume told underruns v reached s =
    record { order = order_noted rate book trigger volume told underruns s.order; fill = s.fill; fragments = s.fragments; volume = v; told = reached }

-- a book whose trigger was set is as safe
trigger_set : (trigger : Bool) (rate : Rate) (book : PlayBook) → PlayIsSafe rate book → PlayIsSafe rate (play_with_trigger trigger book)
trigger_set trigger rate book s = with_notes rate book trigger book.volume book.opening.told book.underruns s.volume s.told s

roused : (rate : Rate) (mixed : ℕ) (book : PlayBook) → PlayIsSafe rate book → PlayIsSafe rate (play_roused_in mixed book.state book)
roused rate mixed book s =
    by-roused (PlayIsSafe rate) mixed book s
    (λ e some. record { order = unstarted_running rate (frames_written book) book.eaten book.given (order_waits rate book (inl e) s.order); fill = s.fill; fragments = s.fragments; volume = s.volume; told = s.told })

dropped : (rate : Rate) (book : PlayBook) → PlayIsSafe rate book → PlayIsSafe rate (play_dropped book)
dropped rate book s = record { order = (refl, unstarted); fill = omega arith; fragments = s.fragments; volume = s.volume; told = omega arith }

safe_ask : (rate : Rate) (mix_rate : ℕ) (here : Here) (request : Request) (book : PlayBook) → IsRatio rate → PlayIsSafe rate book → PlayIsSafe rate (play_ask rate mix_rate here request book).book
safe_ask rate mix_rate here request book r s =
    elim (ask-does rate mix_rate here request book) [
      | SettingUp opening setup sets is ↦ subst (PlayIsSafe rate) (sym is) (anew rate rate book opening setup (sets.fragments s.fragments) sets.told s)
      | Noting told volume underruns n is ↦ subst (PlayIsSafe rate) (sym is) (with_notes rate book book.opening.trigger volume told underruns (n.volume_is s.volume) (let before = s.told in elim n.told_is [ inl same ↦ omega (arith, same, before) | inr now ↦ omega (arith, now) ]) s)
      | Starting trigger is ↦ subst (PlayIsSafe rate) (sym is) (roused rate here.mixed (play_with_trigger trigger book) (trigger_set trigger rate book s))
      | Stopping bits asks off is ↦ subst (PlayIsSafe rate) (sym is) (by-stopped (PlayIsSafe rate) (play_with_trigger false book) (trigger_set false rate book s) (dropped rate (play_with_trigger false book) (trigger_set false rate book s)))
      | Ending is ↦ subst (PlayIsSafe rate) (sym is) (safe-drained rate here book r s)
      | Dropping asks is ↦ subst (PlayIsSafe rate) (sym is) (dropped rate book s)
    ]

-- a book in Setup stays there
pub setup-lasts : (rate : Rate) (mix_rate : ℕ) (here : Here) (request : Request) (book : PlayBook) → is_play_setup book.state ≡ true → is_play_setup (play_ask rate mix_rate here request book).book.state ≡ true
setup-lasts rate mix_rate here request book e = grind arith

-- a request, at the rate that the book has after it
pub safe-ask : (rate now : Rate) (mix_rate : ℕ) (here : Here) (request : Request) (book : PlayBook) → IsRatio rate → PlayIsSafe rate book → (is_play_setup book.state ≡ false → now ≡ rate) → PlayIsSafe now (play_ask rate mix_rate here request book).book
safe-ask rate now mix_rate here request book r s same = at (is_play_setup book.state) refl
  where
    after : PlayBook
    after = (play_ask rate mix_rate here request book).book

    safe : PlayIsSafe rate after
    safe = safe_ask rate mix_rate here request book r s

    at : (b : Bool) → is_play_setup book.state ≡ b → PlayIsSafe now after
    at true e = anew rate now after after.opening (setup-lasts rate mix_rate here request book e) safe.fragments refl safe
    at false e = subst (λ (between : Rate). PlayIsSafe between after) (sym (same e)) safe
