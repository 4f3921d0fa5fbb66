-- What a request does to a book that plays: it sets the opening up again, notes something, starts or stops the book, lets it play to
-- its end, or drops its bytes.
use Rattle.std.proofs.Common.{◌≡◌, ℕ, Bool, true, false, cond, ◌⊎◌, inl, inr, refl, arith}
use Rattle.pcm_oss.specs.declared.reply.Errno.TheVariants.{Busy, Inval}
use Rattle.pcm_desk.specs.Types.{Here, Opening, PlayBook, Rate, Request}
use Rattle.pcm_oss.specs.declared.request.Request.TheVariants.{GetOSpace, GetOPtr, GetODelay, GetError, SetTrigger, SetPlayVol, GetPlayVol, Post, Sync, Halt}
use Rattle.pcm_oss.specs.Volumes.{is_volume}
use Rattle.pcm_desk.specs.declared.trigger.TheConstants.{PLAY_BIT}
use Rattle.pcm_desk.specs.Triggers.{has_other_bits, has_play_bit}
use Rattle.pcm_desk.specs.PlayBooks.{drained_in, is_draining, is_play_setup, play_dropped, played_of}
use Rattle.pcm_desk.specs.Openings as openings
use Rattle.pcm_desk.specs.PlayRequests.{play_ask, play_with_opening, play_roused_in, play_stopped_in, play_triggered, play_with_trigger, set_volume}
use Rattle.pcm_desk.specs.BookTurns.{doing, refused}
use Rattle.pcm_desk.proofs.Openings.{Sets, opening-ask-does}

-- the book with a last answered position, a volume and a count of shortages
abbrev pub noting : ℕ → ℕ → ℕ → PlayBook → PlayBook
noting told volume underruns book = record book { opening = record book.opening { told = told }; volume = volume; underruns = underruns }

-- the position was reached, and the volume is one
pub record AreNoted (book : PlayBook) (told volume : ℕ) : Type 0 where
  pub told_is : (told ≡ book.opening.told) ⊎ (told ≡ played_of book)
  pub volume_is : is_volume book.volume ≡ true → is_volume volume ≡ true

pub data Does (rate : Rate) (here : Here) (request : Request) (old new : PlayBook) : Type 0 where
  SettingUp : (opening : Opening) → is_play_setup old.state ≡ true → Sets old.opening opening → new ≡ record old { opening = opening } → Does rate here request old new
  Noting : (told volume underruns : ℕ) → AreNoted old told volume → new ≡ noting told volume underruns old → Does rate here request old new
  Starting : (trigger : Bool) → new ≡ play_roused_in here.mixed old.state (play_with_trigger trigger old) → Does rate here request old new
  Stopping : (bits : ℕ) → request ≡ SetTrigger bits → has_play_bit bits ≡ false → new ≡ play_stopped_in old.state (play_with_trigger false old) → Does rate here request old new
  Ending : new ≡ drained_in rate here old.state old → Does rate here request old new
  Dropping : request ≡ Halt → new ≡ play_dropped old → Does rate here request old new

-- the book stays
untouched : (rate : Rate) (here : Here) (request : Request) (book : PlayBook) → Does rate here request book book
untouched rate here request book = Noting book.opening.told book.volume book.underruns (record { told_is = inl refl; volume_is = λ v. v }) refl

-- what is asked of every opening
common_ask : (rate : Rate) (here : Here) (request : Request) (book : PlayBook) → Does rate here request book (record book { opening = (openings.ask (is_play_setup book.state) PLAY_BIT request book.opening).book })
common_ask rate here request book =
    elim (opening-ask-does (is_play_setup book.state) PLAY_BIT request book.opening) [
      | inl is ↦ rw is (untouched rate here request book)
      | inr sets ↦ SettingUp (openings.ask (is_play_setup book.state) PLAY_BIT request book.opening).book sets.0 sets.1 refl
    ]

volume_in : (b : Bool) (volume : ℕ) (rate : Rate) (here : Here) (request : Request) (book : PlayBook) → is_volume volume ≡ b → Does rate here request book (set_volume volume book).book
volume_in true volume rate here request book e = rw e (Noting book.opening.told volume book.underruns (record { told_is = inl refl; volume_is = λ v. e }) refl)
volume_in false volume rate here request book e = rw e (untouched rate here request book)

post_in : (b : Bool) (rate : Rate) (here : Here) (request : Request) (book : PlayBook) → Does rate here request book (cond b (play_roused_in here.mixed book.state book) book)
post_in true rate here request book = Starting book.opening.trigger refl
post_in false rate here request book = untouched rate here request book

trigger_in : (b : Bool) (bits : ℕ) (rate : Rate) (here : Here) (book : PlayBook) → has_play_bit bits ≡ b → Does rate here (SetTrigger bits) book (play_triggered here.mixed b book)
trigger_in true bits rate here book e = Starting true refl
trigger_in false bits rate here book e = Stopping bits refl e refl

set_trigger_in : (wrong busy : Bool) (bits : ℕ) (rate : Rate) (here : Here) (book : PlayBook)
    → Does rate here (SetTrigger bits) book (cond wrong (refused Inval book) (cond busy (refused Busy book) (doing (play_triggered here.mixed (has_play_bit bits) book)))).book
set_trigger_in true busy bits rate here book = untouched rate here (SetTrigger bits) book
set_trigger_in false true bits rate here book = untouched rate here (SetTrigger bits) book
set_trigger_in false false bits rate here book = trigger_in (has_play_bit bits) bits rate here book refl

-- any request
pub ask-does : (rate : Rate) (mix_rate : ℕ) (here : Here) (request : Request) (book : PlayBook) → Does rate here request book (play_ask rate mix_rate here request book).book
ask-does rate mix_rate here GetOPtr book = Noting (played_of book) book.volume book.underruns (record { told_is = inr refl; volume_is = λ v. v }) refl
ask-does rate mix_rate here GetError book = Noting book.opening.told book.volume 0 (record { told_is = inl refl; volume_is = λ v. v }) refl
ask-does rate mix_rate here (SetTrigger bits) book = set_trigger_in (has_other_bits bits) (is_draining book.state) bits rate here book
ask-does rate mix_rate here (SetPlayVol volume) book = volume_in (is_volume volume) volume rate here (SetPlayVol volume) book refl
ask-does rate mix_rate here Post book = post_in book.opening.trigger rate here Post book
ask-does rate mix_rate here Sync book = Ending refl
ask-does rate mix_rate here Halt book = Dropping refl refl
ask-does rate mix_rate here GetOSpace book = untouched rate here GetOSpace book
ask-does rate mix_rate here GetODelay book = untouched rate here GetODelay book
ask-does rate mix_rate here GetPlayVol book = untouched rate here GetPlayVol book
ask-does rate mix_rate here request book = common_ask rate here request book

-- what isn't asked of a book that plays alone is asked of its opening
pub asks-common : (rate : Rate) (mix_rate : ℕ) (here : Here) (request : Request) (book : PlayBook) → (request ≡ GetOSpace → ⊥) → (request ≡ GetOPtr → ⊥) → (request ≡ GetODelay → ⊥) → (request ≡ GetError → ⊥)
    → ((bits : ℕ) → request ≡ SetTrigger bits → ⊥) → ((volume : ℕ) → request ≡ SetPlayVol volume → ⊥) → (request ≡ GetPlayVol → ⊥) → (request ≡ Post → ⊥) → (request ≡ Sync → ⊥) → (request ≡ Halt → ⊥)
    → play_with_opening book (openings.ask (is_play_setup book.state) PLAY_BIT request book.opening) ≡ play_ask rate mix_rate here request book
asks-common rate mix_rate here request book space pointer delay error trigger volume_set volume_told post sync halt = grind arith
