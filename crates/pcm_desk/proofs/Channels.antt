-- A channel, of whichever way: that it keeps its way, where it lies in a desk, and that a descriptor may hold it still after each event but its close.
use Rattle.std.proofs.Common.{◌≡◌, ℕ, ℤ, ◌<◌, true, false, zero, suc, List, [], ◌∷◌, set, get_or, Option, Some, ◌⊎◌, refl, ap, arith, get_or-set_same, get_or-set_other}
use Rattle.std.specs.Prelude.{◌≢◌}
use Rattle.std.proofs.lemmas.Bool.{cases_eq, cases_lt}
use Rattle.std.proofs.lemmas.List.{length-set, set_past}
use Rattle.std.proofs.lemmas.List.Quantifiers.{position-Some}
use Rattle.pcm_desk.specs.Types.{Errno, Event, Held, Here, PlayBook, Rate, Request, Settings, Way}
use Rattle.pcm_oss.specs.declared.event.Event.TheVariants.{Close, Intr, Ioctl}
use Rattle.pcm_desk.specs.Device.{DeviceSeen, here_at}
use Rattle.pcm_desk.specs.PlayBooks.{play_settled}
use Rattle.pcm_desk.specs.Channels.{Channel, Grouping, Playing, channel_begun, is_free, is_held, may_be_held, member_refusal, mixing, own_request, own_turn, passing, play_passing, starting, way_of}
use Rattle.pcm_desk.specs.Desk.{Desk, channel_at, least_free, with_channel_at}
use Rattle.pcm_desk.specs.Own.{slots_of}

-- the channel with this way and slot
abbrev pub channel_named : Way → ℕ → Held
channel_named way slot = record { way = way; slot = slot }

-- two channels are one, or they differ in their way or their slot
pub same-channel : (one other : Held) → (one ≡ other) ⊎ (one ≢ other)
same-channel one other = let slots = cases_eq one.slot other.slot in grind arith

-- ---- its way

pub way-at : (device : DeviceSeen) (desk : Desk) (held : Held) → way_of (channel_at device desk held) ≡ held.way
way-at device desk held = grind arith

pub way-begun : (way : Way) (settings : Settings) → way_of (channel_begun way settings) ≡ way
way-begun way settings = grind arith

-- each event leaves it that
pub turn-way : (device : DeviceSeen) (handed : ℕ) (grouping : Grouping) (event : Event) (channel : Channel) → way_of (own_turn device handed grouping event channel).book ≡ way_of channel
turn-way device handed grouping event channel = grind arith

-- ---- where it lies

-- a slot has the channel that was put there
pub at-put : (device : DeviceSeen) (desk : Desk) (held : Held) (channel : Channel) → way_of channel ≡ held.way → held.slot < slots_of desk held.way → channel_at device (with_channel_at desk held.slot channel) held ≡ channel
at-put device desk held channel is there = grind (arith, get_or-set_same)

-- and every other its own
pub at-other : (device : DeviceSeen) (desk : Desk) (held : Held) (channel : Channel) (other : Held) → way_of channel ≡ held.way → other ≢ held → channel_at device (with_channel_at desk held.slot channel) other ≡ channel_at device desk other
at-other device desk held channel other is differ = grind (arith, get_or-set_other)

-- there are as many slots as before
pub slots-put : (desk : Desk) (slot : ℕ) (channel : Channel) (way : Way) → slots_of (with_channel_at desk slot channel) way ≡ slots_of desk way
slots-put desk slot channel way = grind (arith, length-set)

-- a slot has what was put there, or, where it isn't there, what it had
pub at-either : (device : DeviceSeen) (desk : Desk) (held : Held) (channel : Channel) → way_of channel ≡ held.way
    → (channel_at device (with_channel_at desk held.slot channel) held ≡ channel) ⊎ (channel_at device (with_channel_at desk held.slot channel) held ≡ channel_at device desk held)
at-either device desk held channel is = let there = cases_lt held.slot (slots_of desk held.way) in grind (arith, get_or-set_same, set_past)

set_again : {B : Type 0} (books : List B) (slot : ℕ) (none : B) → set books slot (get_or books slot none) ≡ books
set_again [] slot none = refl
set_again (book ∷ books) zero none = refl
set_again (book ∷ books) (suc slot) none = ap (λ (more : List _). book ∷ more) (set_again books slot none)

-- a channel that is put back as it was changes nothing
pub put-again : (device : DeviceSeen) (desk : Desk) (held : Held) → with_channel_at desk held.slot (channel_at device desk held) ≡ desk
put-again device desk held = grind (arith, set_again)

-- ---- the slot that an open takes

-- it is there and free, so no descriptor holds it
pub record IsFreeSlot (device : DeviceSeen) (desk : Desk) (held : Held) : Type 0 where
  pub there : held.slot < slots_of desk held.way
  pub free : is_free (channel_at device desk held) ≡ true
  pub unheld : may_be_held (channel_at device desk held) ≡ false

pub least-unheld : (device : DeviceSeen) (desk : Desk) (way : Way) (slot : ℕ) → least_free desk way ≡ Some slot → IsFreeSlot device desk (channel_named way slot)
least-unheld device desk way slot found = grind (arith, position-Some)

-- ---- a descriptor may hold it still

pub begun-held : (way : Way) (settings : Settings) → may_be_held (channel_begun way settings) ≡ true
begun-held way settings = grind arith

held_mixing : (device : DeviceSeen) (mixed n : ℕ) (book : PlayBook) → is_held book.state ≡ true → is_held (mixing device mixed n book).state ≡ true
held_mixing device mixed n book e = grind arith

held_settled : (rate : Rate) (passed : ℤ) (book : PlayBook) → is_held book.state ≡ true → is_held (play_settled rate passed book).state ≡ true
held_settled rate passed book e = grind arith

held_passing : (device : DeviceSeen) (handed n : ℕ) (book : PlayBook) → is_held book.state ≡ true → is_held (play_passing device handed n book).state ≡ true
held_passing device handed n book e = search (held_settled, held_mixing)

-- after an interrupt
pub passing-held : (device : DeviceSeen) (handed n : ℕ) (channel : Channel) → may_be_held channel ≡ true → may_be_held (passing device handed n channel) ≡ true
passing-held device handed n (Playing book) e = held_passing device handed n book e
passing-held device handed n channel e = grind arith

-- as one of a group that starts
pub starting-held : (device : DeviceSeen) (here : Here) (channel : Channel) → may_be_held channel ≡ true → may_be_held (starting device here channel) ≡ true
starting-held device here channel e = grind arith

request_held : (device : DeviceSeen) (here : Here) (request : Request) (refusal : Option Errno) (channel : Channel) → may_be_held channel ≡ true → may_be_held (own_request device here request refusal channel).book ≡ true
request_held device here request refusal channel e = grind arith

-- an event that closes nothing
abbrev pub ClosesNone : Event → Type 0
ClosesNone (Close fd) = ⊥
ClosesNone _ = Unit {0}

pub turn-held : (device : DeviceSeen) (handed : ℕ) (grouping : Grouping) (event : Event) (channel : Channel) → ClosesNone event → may_be_held channel ≡ true → may_be_held (own_turn device handed grouping event channel).book ≡ true
turn-held device handed grouping (Intr n) channel none e = passing-held device handed n channel e
turn-held device handed grouping (Close fd) channel none e = absurd none
turn-held device handed grouping (Ioctl fd request) channel none e = request_held device (here_at device handed) request (member_refusal grouping.member request) channel e
turn-held device handed grouping event channel none e = grind arith
