-- The book of a slot after a hand-over.
use Rattle.std.proofs.Common.{◌≡◌, ℕ, zero, suc, ◌+◌, ◌<◌, false, refl, sym, ap, ◌∙◌, subst, arith}
use Rattle.pcm_rate.specs.declared.rate.Rate.{Rate}
use Rattle.pcm_rate.specs.Rates.{IsRatio}
use Rattle.pcm_desk.specs.declared.opening.Opening.{Opening}
use Rattle.pcm_desk.specs.declared.play_book.PlayBook.{PlayBook}
use Rattle.pcm_desk.specs.declared.play_book.PlayState.{PlayState}
use Rattle.pcm_desk.specs.declared.play_book.PlayState.TheVariants.{Free, Setup, Primed, Running, Draining}
use Rattle.pcm_desk.specs.declared.record_book.RecordBook.{RecordBook}
use Rattle.pcm_desk.specs.declared.run_state.RunState.{RunState}
use Rattle.pcm_desk.specs.declared.run_state.RunState.TheVariants as run_states
use Rattle.pcm_desk.specs.Device.{DeviceSeen, mixed_for, passed_for}
use Rattle.pcm_desk.specs.Channels.{mixed_by, mixing, play_rate_at, record_rate_at}
use Rattle.pcm_desk.specs.Desk.{Desk, held_by, play_at, record_at}
use Rattle.pcm_desk.specs.PlayBooks.{play_settled, refilled}
use Rattle.pcm_desk.specs.RunStates.{is_running}
use Rattle.pcm_desk.specs.RecordBooks.{captured}
use Rattle.pcm_desk.specs.PlaySafe.{PlayIsSafe}
use Rattle.pcm_desk.proofs.PlaySafe.{safe-refilled}
use Rattle.pcm_desk.proofs.Slots.{play_at-passing, record_at-capturing}
use Rattle.pcm_status.specs.Waits.{desk_after}

-- what a descriptor holds stays
pub held-after : (device : DeviceSeen) (desk : Desk) (fd n : ℕ) → held_by (desk_after device desk n) fd ≡ held_by desk fd
held-after device desk fd zero = refl
held-after device desk fd (suc n) = refl

-- ---- what a refill leaves

-- what a book has beside its counts of a run, as it was
pub record Stays (old new : PlayBook) : Type 0 where
  pub opening : new.opening ≡ old.opening
  pub done : new.done ≡ old.done
  pub written : new.written ≡ old.written

stays_in : (state : PlayState) (rate : Rate) (mixed n : ℕ) (book : PlayBook) → Stays (record book { state = state }) (refilled rate mixed n (record book { state = state }))
stays_in Free rate mixed n book = record { opening = refl; done = refl; written = refl }
stays_in Setup rate mixed n book = record { opening = refl; done = refl; written = refl }
stays_in Primed rate mixed n book = record { opening = refl; done = refl; written = refl }
stays_in Running rate mixed n book = record { opening = refl; done = refl; written = refl }
stays_in (Draining closed) rate mixed n book = record { opening = refl; done = refl; written = refl }

pub refill-stays : (rate : Rate) (mixed n : ℕ) (book : PlayBook) → Stays book (refilled rate mixed n book)
refill-stays rate mixed n book = stays_in book.state rate mixed n book

-- a refill of some frames is what mixes them
pub refill-mixes : (device : DeviceSeen) (mixed n : ℕ) (book : PlayBook) → 0 < n → refilled (play_rate_at device book) mixed n book ≡ mixing device mixed n book
refill-mixes device mixed zero book some = absurd (omega arith)
refill-mixes device mixed (suc n) book some = refl

-- and of none, nothing
pub none-mixed : (device : DeviceSeen) (mixed n : ℕ) (book : PlayBook) → n ≡ 0 → book ≡ mixing device mixed n book
none-mixed device mixed zero book none = refl
none-mixed device mixed (suc n) book none = absurd (omega (arith, none))

-- a mix leaves the counts in order
pub safe-mixing : (device : DeviceSeen) (rate : Rate) (mixed n : ℕ) (book : PlayBook) → rate ≡ play_rate_at device book → IsRatio rate → PlayIsSafe rate book → PlayIsSafe rate (mixing device mixed n book)
safe-mixing device rate mixed zero book is ratio safe = safe
safe-mixing device rate mixed (suc n) book is ratio safe =
    subst (λ (r : Rate). PlayIsSafe rate (refilled r mixed (suc n) book)) is (safe-refilled rate mixed (suc n) book ratio safe)

-- a number that isn't 0 is above
pub some-of : (n : ℕ) → (n ≡ 0 → ⊥) → 0 < n
some-of zero none = absurd (none refl)
some-of (suc n) none = omega arith

-- ---- the book after some frames

-- a book after `more` frames were mixed, settled by its own rate, is the book of the slot
pub settled-after : (device : DeviceSeen) (desk : Desk) (n slot more : ℕ) (rate : Rate) (mixed : PlayBook) → 0 < n → rate ≡ play_rate_at device (play_at device desk slot)
    → more ≡ mixed_by device desk.handed n → mixed.opening ≡ (play_at device desk slot).opening → mixed ≡ mixing device (mixed_for device desk.handed) more (play_at device desk slot)
    → play_settled rate (passed_for device (desk.handed + n)) mixed ≡ play_at device (desk_after device desk n) slot
settled-after device desk zero slot more rate mixed some rate_is more_is opening is = absurd (omega arith)
settled-after device desk (suc n) slot more rate mixed some rate_is more_is opening is =
    ap (λ (r : Rate). play_settled r (passed_for device (desk.handed + suc n)) mixed) (rate_is ∙ ap (λ (o : Opening). play_rate_at device (record mixed { opening = o })) (sym opening))
    ∙ ap (λ (book : PlayBook). play_settled (play_rate_at device book) (passed_for device (desk.handed + suc n)) book)
    (is ∙ ap (λ (k : ℕ). mixing device (mixed_for device desk.handed) k (play_at device desk slot)) more_is)
    ∙ sym (play_at-passing device desk (suc n) slot)

-- ---- the book of one that records

idle_stays : (state : RunState) (rate : Rate) (n : ℕ) (book : RecordBook) → is_running state ≡ false → record book { state = state } ≡ captured rate n (record book { state = state })
idle_stays run_states.Free rate n book idle = refl
idle_stays run_states.Setup rate n book idle = refl
idle_stays run_states.Running rate n book idle = cc

-- one that isn't started captures nothing
pub idle-after : (device : DeviceSeen) (desk : Desk) (n slot : ℕ) → is_running (record_at device desk slot).state ≡ false → record_at device desk slot ≡ record_at device (desk_after device desk n) slot
idle-after device desk zero slot idle = refl
idle-after device desk (suc n) slot idle =
    let book : RecordBook = record_at device desk slot in
    idle_stays book.state (record_rate_at device book) (suc n) book idle ∙ sym (record_at-capturing device desk (suc n) slot)

pub captured-after : (device : DeviceSeen) (desk : Desk) (n slot : ℕ) → 0 < n → captured (record_rate_at device (record_at device desk slot)) n (record_at device desk slot) ≡ record_at device (desk_after device desk n) slot
captured-after device desk zero slot some = absurd (omega arith)
captured-after device desk (suc n) slot some = sym (record_at-capturing device desk (suc n) slot)
