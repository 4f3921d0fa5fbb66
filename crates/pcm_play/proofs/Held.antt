-- Which books aren't free.
use Rattle.std.proofs.Common.{◌≡◌, ℕ, ◌+◌, Bool, true, false, cond, refl, sym, ap, ◌∙◌}
use Rattle.pcm_rate.specs.declared.rate.Rate.{Rate}
use Rattle.pcm_desk.specs.declared.here.Here.{Here}
use Rattle.pcm_desk.specs.declared.play_book.PlayBook.{PlayBook}
use Rattle.pcm_desk.specs.declared.play_book.PlayState.{PlayState}
use Rattle.pcm_desk.specs.declared.play_book.PlayState.TheVariants.{Free, Setup, Primed, Running, Draining}
use Rattle.pcm_desk.specs.PlayBooks.{close_turn, closed_in, drained_in, is_draining, is_play_free, is_started, play_fill_of, takes_none}
use Rattle.pcm_desk.specs.BookTurns.{doing, telling}
use Rattle.pcm_desk.specs.PlayRequests.{device_holds, lasting_bytes, mark_of, play_ask, still_to_pass}
use Rattle.pcm_desk.specs.PlaySafe.{IsPlayInOrder, PlayIsHere, PlayIsSafe}
use Rattle.pcm_oss.specs.declared.reply.Answer.TheVariants.{Number}
use Rattle.pcm_oss.specs.declared.request.Request.{Request}
use Rattle.pcm_oss.specs.declared.request.Request.TheVariants.{SetFmt, Speed, Channels, GetFmts, GetCaps, GetBlkSize, SetFragment, GetOSpace, GetISpace, GetOPtr, GetIPtr, GetODelay, GetError, SetTrigger, GetTrigger, SetPlayVol, GetPlayVol, Post, Sync, Halt}

-- one of which a run has started
pub started-held : (state : PlayState) → is_started state ≡ true → is_play_free state ≡ false
started-held Free started = sym started
started-held Setup started = refl
started-held Primed started = refl
started-held Running started = refl
started-held (Draining closed) started = refl

-- one that drains
pub draining-held : (state : PlayState) → is_draining state ≡ true → is_play_free state ≡ false
draining-held Free draining = sym draining
draining-held Setup draining = refl
draining-held Primed draining = refl
draining-held Running draining = refl
draining-held (Draining closed) draining = refl

-- one that takes bytes
pub taking-held : (state : PlayState) → takes_none state ≡ false → is_play_free state ≡ false
taking-held Free takes = takes
taking-held Setup takes = refl
taking-held Primed takes = refl
taking-held Running takes = refl
taking-held (Draining closed) takes = refl

-- one that counts bytes
in-order-held : (rate : Rate) (state : PlayState) (book : PlayBook) → IsPlayInOrder rate state book → (book.written ≡ 0 → ⊥) → is_play_free state ≡ false
in-order-held rate Free book order some = absurd (some order.0)
in-order-held rate Setup book order some = refl
in-order-held rate Primed book order some = refl
in-order-held rate Running book order some = refl
in-order-held rate (Draining closed) book order some = refl

pub written-held : (rate : Rate) (book : PlayBook) → PlayIsSafe rate book → (book.written ≡ 0 → ⊥) → is_play_free book.state ≡ false
written-held rate book safe some = in-order-held rate book.state book safe.order some

-- one that is open after a close
open-closed : (rate : Rate) (here : Here) (state : PlayState) (book : PlayBook) → book.state ≡ state
    → is_play_free (closed_in (drained_in rate here state book).state (drained_in rate here state book)).state ≡ false → is_play_free state ≡ false
open-closed rate here Free book is used =
    let same : is_play_free (closed_in book.state book).state ≡ true = ap (λ (s : PlayState). is_play_free (closed_in s book).state) is ∙ ap is_play_free is in
    sym same ∙ used
open-closed rate here Setup book is used = refl
open-closed rate here Primed book is used = refl
open-closed rate here Running book is used = refl
open-closed rate here (Draining closed) book is used = refl

pub closed-held : (rate : Rate) (here : Here) (book : PlayBook) → is_play_free (close_turn rate here book).state ≡ false → is_play_free book.state ≡ false
closed-held rate here book used = open-closed rate here book.state book refl used

-- ---- a free book is safe at every rate, since it counts nothing

order-any : (rate now : Rate) (state : PlayState) (book : PlayBook) → is_play_free state ≡ true → IsPlayInOrder rate state book → IsPlayInOrder now state book
order-any rate now Free book free order = order
order-any rate now Setup book free order = order
order-any rate now Primed book free order = order
order-any rate now Running book free order = absurd (let clash : false ≡ true = free in cc)
order-any rate now (Draining closed) book free order = absurd (let clash : false ≡ true = free in cc)

pub safe-any : (rate now : Rate) (book : PlayBook) → is_play_free book.state ≡ true → PlayIsSafe rate book → PlayIsSafe now book
safe-any rate now book free safe = record {
  order = order-any rate now book.state book free safe.order;
  fill = safe.fill;
  fragments = safe.fragments;
  volume = safe.volume;
  told = safe.told;
}

-- ---- nor does a request of a free book go by a rate

free-stopped : (state : PlayState) → is_play_free state ≡ true → is_started state ≡ false
free-stopped Free free = refl
free-stopped Setup free = refl
free-stopped Primed free = refl
free-stopped Running free = sym free
free-stopped (Draining closed) free = sym free

drained-any : (rate now : Rate) (here : Here) (state : PlayState) (book : PlayBook) → is_play_free state ≡ true → drained_in rate here state book ≡ drained_in now here state book
drained-any rate now here Free book free = refl
drained-any rate now here Setup book free = refl
drained-any rate now here Primed book free = refl
drained-any rate now here Running book free = absurd (let clash : false ≡ true = free in cc)
drained-any rate now here (Draining closed) book free = refl

pub ask-any : (rate now : Rate) (mix_rate : ℕ) (here : Here) (request : Request) (book : PlayBook) → is_play_free book.state ≡ true → play_ask rate mix_rate here request book ≡ play_ask now mix_rate here request book
ask-any rate now mix_rate here (SetFmt bits) book free = refl
ask-any rate now mix_rate here (Speed rate_asked) book free = refl
ask-any rate now mix_rate here (Channels count) book free = refl
ask-any rate now mix_rate here GetFmts book free = refl
ask-any rate now mix_rate here GetCaps book free = refl
ask-any rate now mix_rate here GetBlkSize book free = refl
ask-any rate now mix_rate here (SetFragment value) book free = refl
ask-any rate now mix_rate here GetOSpace book free = refl
ask-any rate now mix_rate here GetISpace book free = refl
ask-any rate now mix_rate here GetOPtr book free = refl
ask-any rate now mix_rate here GetIPtr book free = refl
ask-any rate now mix_rate here GetODelay book free =
    let stopped = free-stopped book.state free in
    let none : (r : Rate) → device_holds r mix_rate here book ≡ 0 = λ r. ap (λ (b : Bool). cond b (lasting_bytes mix_rate (still_to_pass here.passed (mark_of r here.mixed book)) book) 0) stopped in
    ap (λ (held : ℕ). telling (Number (play_fill_of book + held)) book) (none rate ∙ sym (none now))
ask-any rate now mix_rate here GetError book free = refl
ask-any rate now mix_rate here (SetTrigger bits) book free = refl
ask-any rate now mix_rate here GetTrigger book free = refl
ask-any rate now mix_rate here (SetPlayVol volume) book free = refl
ask-any rate now mix_rate here GetPlayVol book free = refl
ask-any rate now mix_rate here Post book free = refl
ask-any rate now mix_rate here Sync book free = ap (λ (b : PlayBook). doing b) (drained-any rate now here book.state book free)
ask-any rate now mix_rate here Halt book free = refl

-- and it stands at every place
pub here-any : (rate : Rate) (here : Here) (book : PlayBook) → is_play_free book.state ≡ true → PlayIsHere rate here book
here-any rate here book free = record {
  last = λ started. absurd (let clash : false ≡ true = sym (started-held book.state started) ∙ free in cc);
  left = λ draining. absurd (let clash : false ≡ true = sym (draining-held book.state draining) ∙ free in cc);
}

-- nor does a close
pub close-any : (rate now : Rate) (here : Here) (book : PlayBook) → is_play_free book.state ≡ true → close_turn rate here book ≡ close_turn now here book
close-any rate now here book free = ap (λ (b : PlayBook). closed_in b.state b) (drained-any rate now here book.state book free)
