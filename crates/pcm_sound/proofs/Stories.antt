-- A story stays valid through every event that fits, and what was mixed stays as it was.
use Rattle.std.proofs.Common.{◌≡◌, ℕ, suc, zero, ◌+◌, ◌-◌, ◌<◌, ◌≤◌, Bool, true, false, cond, List, [], ◌∷◌, ◌++◌, length, get_or, drop, replicate, Option, Some, None, inl, inr, refl, sym, ap, ◌∙◌, subst, arith, All, length-take, length-drop, Result, Ok, Err}
use Rattle.std.specs.Prelude.{nat_le, nat_lt, not, eqb}
use Rattle.std.proofs.lemmas.List.{get_or_past, get_or-replicate, length-replicate}
use Rattle.std.proofs.lemmas.Bool.{and_parts, cases_lt, eqb-true, not-false, or_parts}
use Rattle.std.proofs.lemmas.Bool.Decides.{nat_tests}
use Rattle.std.proofs.lemmas.List.Elements.{All-head, All-nil, All-tail}
use Rattle.pcm_format.specs.declared.settings.Settings.{Settings}
use Rattle.pcm_oss.specs.declared.event.Event.{Event}
use Rattle.pcm_oss.specs.declared.event.Event.TheVariants.{Open, Write, Poke, Read, Ioctl, Join, StartGroup, Close, Mixer, Intr}
use Rattle.pcm_oss.specs.declared.event.Way.{Way}
use Rattle.pcm_oss.specs.declared.event.Way.TheVariants.{Play}
use Rattle.pcm_oss.specs.declared.event.TheConstants.{SLOTS}
use Rattle.pcm_oss.specs.declared.volume.TheConstants.{VOLUME}
use Rattle.pcm_oss.specs.declared.request.Request.{Request}
use Rattle.pcm_oss.specs.declared.request.Request.TheVariants.{SetTrigger}
use Rattle.pcm_wave.specs.declared.pool.Pool.{Pool}
use Rattle.pcm_oss.specs.Volumes.{gain_of}
use Rattle.pcm_oss.proofs.Limits.{usual-fragments}
use Rattle.pcm_wave.specs.declared.pool.Source.{Source}
use Rattle.pcm_wave.specs.Pools.{bytes_at, source_bytes}
use Rattle.pcm_feeder.specs.declared.stage.Gain.{Gain}
use Rattle.pcm_rate.specs.declared.rate.Rate.{Rate}
use Rattle.pcm_feeder.specs.Limits.{IsRate}
use Rattle.pcm_mixdev.specs.Mixers.{full_mixer, master_gain, no_gain, slot_gain, slot_volume}
use Rattle.pcm_desk.specs.declared.play_book.PlayBook.{PlayBook}
use Rattle.pcm_desk.specs.declared.map_book.MapBook.{MapBook}
use Rattle.pcm_desk.specs.declared.here.Here.{Here}
use Rattle.pcm_desk.specs.Device.{DeviceSeen, IsDevice, here_at, mix_settings, map_slots, mixed_for, play_rate_between, play_slots}
use Rattle.pcm_desk.specs.PlayBooks.{is_draining, is_play_free, is_started, play_begun, write_turn}
use Rattle.pcm_desk.specs.PlaySafe.{PlayIsHere, PlayIsSafe}
use Rattle.pcm_desk.specs.Channels.{asking, closing, mixed_by, mixing, play_passing, play_rate_at, rests, settling, own_request, own_join, own_turn, Playing, Channel, channel_begun, member_refusal, join_result, play_starting}
use Rattle.pcm_desk.specs.Triggers.{both_bits}
use Rattle.pcm_desk.specs.Desk.{Desk, after, desk_here, map_at, map_unopened, play_at, play_unopened, grouping_at, is_member}
use Rattle.pcm_desk.specs.Events.{Fits, frames_taken}
use Rattle.pcm_desk.proofs.PlayHere.{here-ask, here-begun, here-close, here-settled, here-write, last-refilled}
use Rattle.pcm_desk.proofs.PlaySafe.{unstarted, safe-begun, safe-write, safe-close, safe-refilled, safe-settled, settings-refilled, settings-settled}
use Rattle.pcm_desk.proofs.PlaySafeAsking.{safe-ask}
use Rattle.pcm_desk.proofs.PlayLeaves.{ask-leaves, close-leaves, close-keeps}
use Rattle.pcm_desk.proofs.Ratios.{mixed-behind, ratio-between}
use Rattle.pcm_desk.proofs.Slots.{play_at-passing}
use Rattle.pcm_sound.specs.Gains.{GainSet, Loudness, begins, book_gain, is_same_gain, last_gain, loudness_gain, map_gain, map_loudness, master_gain_at, play_loudness, sets_volume, slot_gain_at}
use Rattle.pcm_sound.specs.Runs.{Run, asks_drop, drops, taking, playing, carrying, marking, sounding}
use Rattle.pcm_sound.specs.MapRuns.{map_carrying, map_marking}
use Rattle.pcm_sound.specs.Story.{Story, story_at_start, story_of, told, told_all}
use Rattle.pcm_sound.specs.DeviceList.{table_of}
use Rattle.pcm_sound.specs.Places.{SlotIsPlaced}
use Rattle.pcm_sound.specs.Valid.{RunIsValid, HasRate, MapIsValid, SlotIsValid, StoryIsValid}
use Rattle.pcm_sound.proofs.Rates.{ask-rate, ask-settings}
use Rattle.pcm_sound.proofs.Endings.{KeepsGiven, given-ask, given-begun, given-close, given-rest, given-same}
use Rattle.pcm_sound.proofs.Sounding.{sounding-taking, sounding-playing, sounding-marking, last_gain-later}
use Rattle.pcm_sound.proofs.Slots.{Accepts, WritesSome, IsUntold, writes-nothing, write_turn-writes, untold-same, untold-empty, untold-taking, untold-leaves, untold-passing, valid-marking, valid-mixing}
use Rattle.pcm_sound.proofs.Places.{placed-left, placed-taken}
use Rattle.pcm_sound.proofs.Interrupts.{placed-passing}
use Rattle.pcm_sound.proofs.MapSlots.{map-marked}
use Rattle.pcm_sound.proofs.MapStories.{keeps-maps, map-interrupted, map-untaken, map-valid-start, sounding-map_carrying, sounding-map_marking}
use Rattle.pcm_desk.proofs.After.{channel-after, playing_or}
use Rattle.pcm_desk.proofs.Channels.{channel_named}
use Rattle.pcm_group.specs.Groups.{joining}
use Rattle.pcm_oss.specs.declared.reply.Errno.{Errno}
use Rattle.pcm_desk.proofs.Turning.{mixed-same, handed-taken}

-- ---- the counts of a book

-- the counts of a book are in order by the rate between it and the mix
abbrev pub IsSafeAt : DeviceSeen → PlayBook → Type 0
IsSafeAt device book = PlayIsSafe (play_rate_at device book) book

safe_settings : (device : DeviceSeen) (old new : PlayBook) → new.opening.settings ≡ old.opening.settings → PlayIsSafe (play_rate_at device old) new → IsSafeAt device new
safe_settings device old new same safe = subst (λ (settings : Settings). PlayIsSafe (play_rate_between device settings) new) (sym same) safe

-- where the mix and the device are no run has given more than is mixed, and none that drains is over
abbrev pub IsHereAt : DeviceSeen → Here → PlayBook → Type 0
IsHereAt device here book = PlayIsHere (play_rate_at device book) here book

here_settings : (device : DeviceSeen) (here : Here) (old new : PlayBook) → new.opening.settings ≡ old.opening.settings → PlayIsHere (play_rate_at device old) here new → IsHereAt device here new
here_settings device here old new same at = subst (λ (settings : Settings). PlayIsHere (play_rate_between device settings) here new) (sym same) at

-- both
pub record IsInOrder (device : DeviceSeen) (here : Here) (book : PlayBook) : Type 0 where
  pub counts : IsSafeAt device book
  pub place : IsHereAt device here book

-- a book stays in order through a write
pub order-written : (device : DeviceSeen) (here : Here) (length : ℕ) (book : PlayBook) → IsDevice device → IsRate book.opening.settings.rate → IsInOrder device here book → IsInOrder device here (write_turn here length book).book
order-written device here length book d s o =
    let rate : Rate = play_rate_at device book in
    let new : PlayBook = (write_turn here length book).book in
    let same = (write_turn-writes here length book).accepts.settings in
    record {
      counts = safe_settings device book new same (safe-write rate here length book (ratio-between device book.opening.settings d s) o.counts);
      place = here_settings device here book new same (here-write rate here length book o.place);
    }

-- the counts of a book stay in order through a request, which may change the rate in Setup alone
pub safe-asking : (device : DeviceSeen) (here : Here) (request : Request) (book : PlayBook) → IsDevice device → IsRate book.opening.settings.rate → IsSafeAt device book → IsSafeAt device (asking device here request book).book
safe-asking device here request book d s safe =
    let rate : Rate = play_rate_at device book in
    let mix_rate : ℕ = (mix_settings device).rate in
    safe-ask rate (play_rate_at device (asking device here request book).book) mix_rate here request book (ratio-between device book.opening.settings d s) safe
    (λ e. ap (play_rate_between device) (ask-settings rate mix_rate here request book s e))

-- and so does its place
pub order-asking : (device : DeviceSeen) (here : Here) (request : Request) (book : PlayBook) → IsDevice device → IsRate book.opening.settings.rate → IsInOrder device here book → IsInOrder device here (asking device here request book).book
order-asking device here request book d s o =
    let rate : Rate = play_rate_at device book in
    let mix_rate : ℕ = (mix_settings device).rate in
    record {
      counts = safe-asking device here request book d s o.counts;
      place = here-ask rate (play_rate_at device (asking device here request book).book) mix_rate here request book (ratio-between device book.opening.settings d s)
          (λ e. ap (play_rate_between device) (ask-settings rate mix_rate here request book s e)) o.counts o.place;
    }

-- through a close
pub order-closing : (device : DeviceSeen) (here : Here) (book : PlayBook) → IsDevice device → IsRate book.opening.settings.rate → IsInOrder device here book → IsInOrder device here (closing device here book)
order-closing device here book d s o =
    let rate : Rate = play_rate_at device book in
    let ratio = ratio-between device book.opening.settings d s in
    let same = (close-keeps rate here book).settings in
    record {
      counts = safe_settings device book (closing device here book) same (safe-close rate here book ratio o.counts);
      place = here_settings device here book (closing device here book) same (here-close rate here book ratio o.counts o.place);
    }

-- where n frames are mixed
pub safe-mixing : (device : DeviceSeen) (mixed n : ℕ) (book : PlayBook) → IsDevice device → IsRate book.opening.settings.rate → IsSafeAt device book → IsSafeAt device (mixing device mixed n book)
safe-mixing device mixed zero book d s safe = safe
safe-mixing device mixed (suc n) book d s safe =
    safe_settings device book (mixing device mixed (suc n) book) (settings-refilled (play_rate_at device book) mixed (suc n) book)
    (safe-refilled (play_rate_at device book) mixed (suc n) book (ratio-between device book.opening.settings d s) safe)

-- where no run has given more than was mixed before, none gives more than is mixed then
last-mixing : (device : DeviceSeen) (mixed n : ℕ) (book : PlayBook) → (is_started book.state ≡ true → book.last ≤ mixed) → is_started (mixing device mixed n book).state ≡ true → (mixing device mixed n book).last ≤ mixed + n
last-mixing device mixed zero book h e = let past = h e in omega arith
last-mixing device mixed (suc n) book h e = last-refilled (play_rate_at device book) mixed (suc n) book h e

-- and after a hand-over
pub order-settling : (device : DeviceSeen) (mixed handed : ℕ) (book : PlayBook) → mixed_for device handed ≡ mixed → (is_started book.state ≡ true → book.last ≤ mixed) → IsSafeAt device book → IsInOrder device (here_at device handed) (settling device handed book)
order-settling device mixed handed book level past safe =
    let rate : Rate = play_rate_at device book in
    let here : Here = here_at device handed in
    let same = settings-settled rate here.passed book in
    record {
      counts = safe_settings device book (settling device handed book) same (safe-settled rate here.passed book safe);
      place = here_settings device here book (settling device handed book) same (here-settled rate here book (λ e. let l = past e in omega arith));
    }

-- ---- the desk

-- the rate of each slot's book is within the limits
abbrev pub HaveRates : DeviceSeen → Desk → Type 0
HaveRates device desk = (slot : ℕ) → IsRate (play_at device desk slot).opening.settings.rate

-- what an event at a desk leaves of a slot, before it marks the newest run
abbrev pub SlotIsUntold : DeviceSeen → ℕ → Desk → Desk → ℕ → List Run → Type 0
SlotIsUntold device mixed old new slot runs = IsUntold device mixed (play_at device old slot) (play_at device new slot) runs

-- a book after an event that brings no bytes and takes no frames
abbrev KeepsGivenAt : DeviceSeen → Bool → PlayBook → PlayBook → Type 0
KeepsGivenAt device dropping old new = KeepsGiven (play_rate_at device old) dropping old new

-- what an event that brings no bytes and takes no frames leaves of a book: its order, its runs, and what it gives
record LeavesBook (device : DeviceSeen) (here : Here) (mixed : ℕ) (dropping : Bool) (old new : PlayBook) : Type 0 where
  order : IsInOrder device here old → IsInOrder device here new
  runs : (runs : List Run) → IsSafeAt device old → SlotIsValid device mixed old runs → IsUntold device mixed old new runs
  given : IsSafeAt device old → KeepsGivenAt device dropping old new

-- and so of each slot, and of the counts of the device
pub record LeavesSlots (device : DeviceSeen) (mixed : ℕ) (dropping : Bool) (old new : Desk) : Type 0 where
  slots : (slot : ℕ) → LeavesBook device (desk_here device old) mixed dropping (play_at device old slot) (play_at device new slot)
  handed_same : new.handed ≡ old.handed
  mixed_same : new.mixed ≡ old.mixed

-- ---- the turn of a channel

same_leaves : (device : DeviceSeen) (here : Here) (mixed : ℕ) (dropping : Bool) (book : PlayBook) → LeavesBook device here mixed dropping book book
same_leaves device here mixed dropping book = record {
  order = λ o. o;
  runs = λ runs s v. untold-same device mixed book runs v;
  given = λ s. given-same (play_rate_at device book) dropping book;
}

-- an open takes a free slot
begun_leaves : (device : DeviceSeen) (here : Here) (mixed : ℕ) (old : PlayBook) (settings : Settings) → IsRate settings.rate → is_play_free old.state ≡ true → LeavesBook device here mixed false old (play_begun settings)
begun_leaves device here mixed old settings rate free = record {
  order = λ o. record { counts = safe-begun (play_rate_between device settings) settings; place = here-begun (play_rate_between device settings) here settings };
  runs = λ runs s v. untold-empty device mixed old (play_begun settings) runs refl refl rate v.pieces v.own;
  given = λ s. given-begun (play_rate_at device old) old settings free;
}

-- a request leaves the counts of its book, or nothing of its run
asked_leaves : (device : DeviceSeen) (here : Here) (mixed : ℕ) (dropping : Bool) (request : Request) (book : PlayBook) → IsDevice device → IsRate book.opening.settings.rate → (IsSafeAt device book → KeepsGivenAt device dropping book (asking device here request book).book)
    → LeavesBook device here mixed dropping book (asking device here request book).book
asked_leaves device here mixed dropping request book d rate given =
    let mix_rate : ℕ = (mix_settings device).rate in
    record {
      order = order-asking device here request book d rate;
      runs = λ runs s v. untold-leaves device mixed book (asking device here request book).book runs (ask-leaves (play_rate_at device book) mix_rate here request book s) (ask-rate (play_rate_at device book) mix_rate here request book v.settings) v;
      given = given;
    }

requested : (device : DeviceSeen) (here : Here) (mixed : ℕ) (request : Request) (refusal : Option Errno) (book : PlayBook) → IsDevice device → IsRate book.opening.settings.rate
    → LeavesBook device here mixed (asks_drop request) book (playing_or book (own_request device here request refusal (Playing book)).book)
requested device here mixed request None book d rate = asked_leaves device here mixed (asks_drop request) request book d rate (given-ask (play_rate_at device book) (mix_settings device).rate here request book)
requested device here mixed request (Some errno) book d rate = same_leaves device here mixed (asks_drop request) book

-- a channel that joins a group is before a run, which nothing drops
joined : (device : DeviceSeen) (here : Here) (mixed : ℕ) (result : Result ℕ Errno) (resting : Bool) (book : PlayBook) → rests (Playing book) ≡ resting → IsDevice device → IsRate book.opening.settings.rate
    → LeavesBook device here mixed false book (playing_or book (own_join device here (join_result result resting) (Playing book)).book)
joined device here mixed (Ok group) true book e d rate = asked_leaves device here mixed false (SetTrigger 0) book d rate (λ s. given-rest (play_rate_at device book) (mix_settings device).rate here (SetTrigger 0) book s e)
joined device here mixed (Ok group) false book e d rate = same_leaves device here mixed false book
joined device here mixed (Err errno) resting book e d rate = same_leaves device here mixed false book

closed_leaves : (device : DeviceSeen) (here : Here) (mixed : ℕ) (book : PlayBook) → IsDevice device → IsRate book.opening.settings.rate → LeavesBook device here mixed false book (closing device here book)
closed_leaves device here mixed book d rate = record {
  order = order-closing device here book d rate;
  runs = λ runs s v. untold-leaves device mixed book (closing device here book) runs (close-leaves (play_rate_at device book) here book)
      (subst (λ (settings : Settings). IsRate settings.rate) (sym (close-keeps (play_rate_at device book) here book).settings) v.settings) v;
  given = λ s. given-close (play_rate_at device book) here book;
}

-- an event that brings no bytes and takes no frames
abbrev IsQuiet : Event → Type 0
IsQuiet (Write fd source at count) = ⊥
IsQuiet (Intr n) = ⊥
IsQuiet event = Unit {0}

-- an opening has a rate within the limits
abbrev pub OpensWithin : Event → Type 0
OpensWithin (Open fd way settings) = IsRate settings.rate
OpensWithin event = Unit {0}

turn_leaves : (device : DeviceSeen) (desk : Desk) (slot : ℕ) (event : Event) → IsQuiet event → IsDevice device → IsRate (play_at device desk slot).opening.settings.rate
    → let book : PlayBook = play_at device desk slot in
    LeavesBook device (desk_here device desk) desk.mixed (drops event) book (playing_or book (own_turn device desk.handed (grouping_at device desk (channel_named Play slot)) event (Playing book)).book)
turn_leaves device desk slot (Open fd way settings) quiet d rate = same_leaves device (desk_here device desk) desk.mixed false (play_at device desk slot)
turn_leaves device desk slot (Write fd source at count) quiet d rate = absurd quiet
turn_leaves device desk slot (Poke fd offset at count) quiet d rate = same_leaves device (desk_here device desk) desk.mixed false (play_at device desk slot)
turn_leaves device desk slot (Read fd count) quiet d rate = same_leaves device (desk_here device desk) desk.mixed false (play_at device desk slot)
turn_leaves device desk slot (Ioctl fd request) quiet d rate = requested device (desk_here device desk) desk.mixed request (member_refusal (is_member desk (channel_named Play slot)) request) (play_at device desk slot) d rate
turn_leaves device desk slot (Join fd group) quiet d rate = joined device (desk_here device desk) desk.mixed (joining desk.groups Play slot group) (rests (Playing (play_at device desk slot))) (play_at device desk slot) refl d rate
turn_leaves device desk slot (StartGroup fd group) quiet d rate = same_leaves device (desk_here device desk) desk.mixed false (play_at device desk slot)
turn_leaves device desk slot (Close fd) quiet d rate = closed_leaves device (desk_here device desk) desk.mixed (play_at device desk slot) d rate
turn_leaves device desk slot (Mixer request) quiet d rate = same_leaves device (desk_here device desk) desk.mixed false (play_at device desk slot)
turn_leaves device desk slot (Intr n) quiet d rate = absurd quiet

quiet_frames : (event : Event) → IsQuiet event → frames_taken event ≡ 0
quiet_frames (Intr n) quiet = absurd quiet
quiet_frames _ quiet = refl

-- the slots after such an event
leaves : (device : DeviceSeen) (desk : Desk) (event : Event) → OpensWithin event → IsQuiet event → IsDevice device → HaveRates device desk → LeavesSlots device desk.mixed (drops event) desk (after device desk event).desk
leaves device desk event fits quiet d rates = record {
  slots = slots;
  handed_same = let taken = handed-taken device desk event in let none = quiet_frames event quiet in omega (arith, taken, none);
  mixed_same = mixed-same device desk event (λ n is. subst IsQuiet is quiet);
}
  where
    here : Here
    here = desk_here device desk

    begins : (event : Event) (fd : ℕ) (way : Way) (settings : Settings) (old : PlayBook) → event ≡ Open fd way settings → Play ≡ way → OpensWithin event → is_play_free old.state ≡ true
        → LeavesBook device here desk.mixed (drops event) old (playing_or old (channel_begun way settings))
    begins event fd way settings old is same fits free =
        subst (λ (e : Event). LeavesBook device here desk.mixed (drops e) old (playing_or old (channel_begun way settings))) (sym is)
        (subst (λ (w : Way). LeavesBook device here desk.mixed false old (playing_or old (channel_begun w settings))) same (begun_leaves device here desk.mixed old settings (subst OpensWithin is fits) free))

    starts : (event : Event) (fd group : ℕ) (old : PlayBook) → event ≡ StartGroup fd group → IsRate old.opening.settings.rate → LeavesBook device here desk.mixed (drops event) old (play_starting device here old)
    starts event fd group old is rate =
        subst (λ (e : Event). LeavesBook device here desk.mixed (drops e) old (play_starting device here old)) (sym is)
        (asked_leaves device here desk.mixed false (SetTrigger both_bits) old d rate (given-ask (play_rate_at device old) (mix_settings device).rate here (SetTrigger both_bits) old))

    slots : (slot : ℕ) → LeavesBook device here desk.mixed (drops event) (play_at device desk slot) (play_at device (after device desk event).desk slot)
    slots slot =
        let old : PlayBook = play_at device desk slot in
        channel-after device desk event (channel_named Play slot) (λ (c : Channel). LeavesBook device here desk.mixed (drops event) old (playing_or old c))
        (same_leaves device here desk.mixed (drops event) old) (turn_leaves device desk slot event quiet d (rates slot))
        (λ fd way settings is same free. begins event fd way settings old is same fits free)
        (λ fd group is member. starts event fd group old is (rates slot))

-- ---- writes

-- a write leaves each slot's book with some of its bytes, or as it was
pub writes-some : (device : DeviceSeen) (desk : Desk) (fd : ℕ) (source : Source) (at count slot : ℕ) → WritesSome count (play_at device desk slot) (play_at device (after device desk (Write fd source at count)).desk slot)
writes-some device desk fd source at count slot =
    let old : PlayBook = play_at device desk slot in
    channel-after device desk (Write fd source at count) (channel_named Play slot) (λ (c : Channel). WritesSome count old (playing_or old c)) (writes-nothing count old) (write_turn-writes (desk_here device desk) count old)
    (λ k way settings is same free. cc) (λ k group is member. cc)

-- and books in order
order_write : (device : DeviceSeen) (desk : Desk) (fd : ℕ) (source : Source) (at count slot : ℕ) → IsDevice device → HaveRates device desk → IsInOrder device (desk_here device desk) (play_at device desk slot)
    → IsInOrder device (desk_here device desk) (play_at device (after device desk (Write fd source at count)).desk slot)
order_write device desk fd source at count slot d rates o =
    let old : PlayBook = play_at device desk slot in
    channel-after device desk (Write fd source at count) (channel_named Play slot) (λ (c : Channel). IsInOrder device (desk_here device desk) (playing_or old c)) o (order-written device (desk_here device desk) count old d (rates slot) o)
    (λ k way settings is same free. cc) (λ k group is member. cc)

-- as many bytes as are asked for are there
pub length-bytes_at : (pool : Pool) (source : Source) (at count : ℕ) → at + count ≤ length (source_bytes pool source) → length (bytes_at pool source at count) ≡ count
length-bytes_at pool source at count h = omega (arith, length-take count (drop at (source_bytes pool source)), length-drop at (source_bytes pool source))

-- bytes that a book grew by came while it didn't drain
written_undrained : (pool : Pool) (source : Source) (at count : ℕ) (old new : PlayBook) → WritesSome count old new → 0 < length (bytes_at pool source at (new.written - old.written)) → is_draining old.state ≡ false
written_undrained pool source at count old new w h =
    let written = w.accepts.written in
    let some = length-take (new.written - old.written) (drop at (source_bytes pool source)) in
    w.undrained (omega arith)

-- a book accepts the bytes that it grew by
written_accepts : (pool : Pool) (source : Source) (at count : ℕ) (old new : PlayBook) → at + count ≤ length (source_bytes pool source) → WritesSome count old new
    → Accepts (length (bytes_at pool source at (new.written - old.written))) old new
written_accepts pool source at count old new h w =
    let written = w.accepts.written in
    let within = w.within in
    let same : new.written - old.written ≡ w.accepted = omega arith in
    let length_is : length (bytes_at pool source at (new.written - old.written)) ≡ w.accepted = length-bytes_at pool source at (new.written - old.written) (omega arith) ∙ same in
    subst (λ (n : ℕ). Accepts n old new) (sym length_is) w.accepts

-- a slot stays valid through a write of bytes that are there
untold_written : (device : DeviceSeen) (mixed : ℕ) (pool : Pool) (source : Source) (at count : ℕ) (old new : PlayBook) (runs : List Run) → IsDevice device → at + count ≤ length (source_bytes pool source) → WritesSome count old new → SlotIsValid device mixed old runs
    → IsUntold device mixed old new (taking (bytes_at pool source at (new.written - old.written)) old runs)
untold_written device mixed pool source at count old new runs d h w v =
    untold-taking device mixed (bytes_at pool source at (new.written - old.written)) old new runs d (written_accepts pool source at count old new h w) (written_undrained pool source at count old new w) v

-- the runs of a slot after an event, before it marks the newest
abbrev pub carried_at : DeviceSeen → Pool → Story → Event → ℕ → List Run
carried_at device pool story event slot =
    carrying device pool story.desk event (play_at device story.desk slot) (play_at device (after device story.desk event).desk slot) (story.runs slot)

-- where the pieces of a slot stand after an event that takes no frames
abbrev IsPlacedAt : DeviceSeen → Pool → Story → Event → ℕ → Type 0
IsPlacedAt device pool story event slot = SlotIsPlaced device story.desk.mixed (play_at device (after device story.desk event).desk slot) ((told device pool story event).runs slot)

-- what an event that takes no frames leaves of a story: the device's counts, safe books, and valid slots whose pieces are in their places
pub record Keeps (device : DeviceSeen) (pool : Pool) (story : Story) (event : Event) : Type 0 where
  pub order : (slot : ℕ) → IsInOrder device (desk_here device story.desk) (play_at device (after device story.desk event).desk slot)
  pub slots : (slot : ℕ) → SlotIsUntold device story.desk.mixed story.desk (after device story.desk event).desk slot (carried_at device pool story event slot)
  pub placed : (slot : ℕ) → IsPlacedAt device pool story event slot
  pub handed_same : (after device story.desk event).desk.handed ≡ story.desk.handed
  pub mixed_same : (after device story.desk event).desk.mixed ≡ story.desk.mixed

rates_of : (device : DeviceSeen) (story : Story) → StoryIsValid device story → HaveRates device story.desk
rates_of device story v slot = (v.slots slot).settings

order_of : (device : DeviceSeen) (story : Story) (slot : ℕ) → StoryIsValid device story → IsInOrder device (desk_here device story.desk) (play_at device story.desk slot)
order_of device story slot v = record { counts = v.safe slot; place = v.here slot }

-- an event that leaves the slots valid, and their runs as they are
keeps_left : (device : DeviceSeen) (pool : Pool) (story : Story) (event : Event) → OpensWithin event → IsQuiet event
    → ((slot : ℕ) → story.runs slot ≡ carried_at device pool story event slot) → StoryIsValid device story → Keeps device pool story event
keeps_left device pool story event fits quiet same v = record {
  order = λ slot. (l.slots slot).order (order_of device story slot v);
  slots = λ slot. subst (SlotIsUntold device story.desk.mixed story.desk (after device story.desk event).desk slot) (same slot) (untold slot);
  placed = λ slot.
      let old : PlayBook = play_at device story.desk slot in
      let new : PlayBook = play_at device (after device story.desk event).desk slot in
      subst (λ (runs : List Run). SlotIsPlaced device story.desk.mixed new (marking story.desk.mixed event old new runs)) (same slot)
      (placed-left device story.desk.mixed event old new (story.runs slot) v.limits (v.safe slot) (v.slots slot) ((l.slots slot).given (v.safe slot)) (untold slot) (v.placed slot));
  handed_same = l.handed_same;
  mixed_same = l.mixed_same;
}
  where
    l : LeavesSlots device story.desk.mixed (drops event) story.desk (after device story.desk event).desk
    l = leaves device story.desk event fits quiet v.limits (rates_of device story v)

    untold : (slot : ℕ) → SlotIsUntold device story.desk.mixed story.desk (after device story.desk event).desk slot (story.runs slot)
    untold slot = (l.slots slot).runs (story.runs slot) (v.safe slot) (v.slots slot)

keeps_write : (device : DeviceSeen) (pool : Pool) (story : Story) (fd : ℕ) (source : Source) (at count : ℕ) → at + count ≤ length (source_bytes pool source) → StoryIsValid device story → Keeps device pool story (Write fd source at count)
keeps_write device pool story fd source at count h v =
    let event : Event = Write fd source at count in
    let new : Desk = (after device story.desk event).desk in
    record {
      order = λ slot. order_write device story.desk fd source at count slot v.limits (rates_of device story v) (order_of device story slot v);
      slots = λ slot. untold_written device story.desk.mixed pool source at count (play_at device story.desk slot) (play_at device new slot) (story.runs slot) v.limits h (writes-some device story.desk fd source at count slot) (v.slots slot);
      placed = λ slot.
          let old : PlayBook = play_at device story.desk slot in
          let now : PlayBook = play_at device new slot in
          let some = writes-some device story.desk fd source at count slot in
          placed-taken device story.desk.mixed event (bytes_at pool source at (now.written - old.written)) old now (story.runs slot) v.limits (v.safe slot) (v.slots slot)
          (written_accepts pool source at count old now h some) (written_undrained pool source at count old now some) (v.placed slot);
      handed_same = let taken = handed-taken device story.desk event in omega (arith, taken);
      mixed_same = mixed-same device story.desk event (λ n is. cc);
    }

-- such an event leaves the counts of the device
pub keeps : (device : DeviceSeen) (pool : Pool) (story : Story) (event : Event) → Fits device pool event → frames_taken event ≡ 0 → StoryIsValid device story → Keeps device pool story event
keeps device pool story (Open fd way settings) fits none v = keeps_left device pool story (Open fd way settings) fits.1 tt (λ slot. refl) v
keeps device pool story (Write fd source at count) fits none v = keeps_write device pool story fd source at count fits.2.within v
keeps device pool story (Poke fd offset at count) fits none v = keeps_left device pool story (Poke fd offset at count) tt tt (λ slot. refl) v
keeps device pool story (Read fd count) fits none v = keeps_left device pool story (Read fd count) tt tt (λ slot. refl) v
keeps device pool story (Ioctl fd request) fits none v = keeps_left device pool story (Ioctl fd request) tt tt (λ slot. refl) v
keeps device pool story (Join fd group) fits none v = keeps_left device pool story (Join fd group) tt tt (λ slot. refl) v
keeps device pool story (StartGroup fd group) fits none v = keeps_left device pool story (StartGroup fd group) tt tt (λ slot. refl) v
keeps device pool story (Close fd) fits none v = keeps_left device pool story (Close fd) tt tt (λ slot. refl) v
keeps device pool story (Mixer request) fits none v = keeps_left device pool story (Mixer request) tt tt (λ slot. refl) v
keeps device pool story (Intr n) fits none v = absurd (let some = fits.0 in omega arith)

-- a volume that isn't set stays
same_volume : (old new : Loudness) → sets_volume old new ≡ false → new.volume ≡ old.volume
same_volume old new e = eqb-true new.volume old.volume (not-false (eqb new.volume old.volume) (or_parts (begins old new) (not (eqb new.volume old.volume)) e).1)

-- from its position on a gain counts that was set, else the last one
gain_set : (b : Bool) (position p : ℕ) (old new : Loudness) (gains : List GainSet) → sets_volume old new ≡ b → position ≤ p → last_gain gains p ≡ loudness_gain old
    → last_gain (cond b (record { position = position; gain = loudness_gain new } ∷ gains) gains) p ≡ loudness_gain new
gain_set true position p old new gains e later h = let here : nat_le position p ≡ true = grind (arith, nat_tests) in rw here refl
gain_set false position p old new gains e later h = h ∙ ap gain_of (sym (same_volume old new e))

-- from now on each slot has the gain of its book's volume
gains-told : (device : DeviceSeen) (pool : Pool) (story : Story) (event : Event) → story.desk.mixed ≤ (after device story.desk event).desk.mixed → StoryIsValid device story
    → (slot position : ℕ) → (after device story.desk event).desk.mixed ≤ position
    → last_gain ((told device pool story event).gains slot) position ≡ book_gain (play_at device (after device story.desk event).desk slot)
gains-told device pool story event grows v slot position later =
    let old : Loudness = play_loudness (play_at device story.desk slot) in
    let new : Loudness = play_loudness (play_at device (after device story.desk event).desk slot) in
    gain_set (sets_volume old new) story.desk.mixed position old new (story.gains slot) refl (omega arith) (v.gains slot position (omega arith))

-- and so has each mapped slot
map_gains-told : (device : DeviceSeen) (pool : Pool) (story : Story) (event : Event) → story.desk.mixed ≤ (after device story.desk event).desk.mixed → StoryIsValid device story
    → (slot position : ℕ) → (after device story.desk event).desk.mixed ≤ position
    → last_gain ((told device pool story event).map_gains slot) position ≡ map_gain (map_at device (after device story.desk event).desk slot)
map_gains-told device pool story event grows v slot position later =
    let old : Loudness = map_loudness (map_at device story.desk slot) in
    let new : Loudness = map_loudness (map_at device (after device story.desk event).desk slot) in
    gain_set (sets_volume old new) story.desk.mixed position old new (story.map_gains slot) refl (omega arith) (v.map_gains slot position (omega arith))

-- gains that are the same on both sides are one
one_gain : (one other : Gain) → is_same_gain one other ≡ true → one ≡ other
one_gain one other e = λ i. record {
  left = eqb-true one.left other.left (and_parts (eqb one.left other.left) (eqb one.right other.right) e).0 i;
  right = eqb-true one.right other.right (and_parts (eqb one.left other.left) (eqb one.right other.right) e).1 i;
}

-- from its position on a gain counts that a fader was set to, else the last one
fader_set : (b : Bool) (position p : ℕ) (old new : Gain) (gains : List GainSet) → is_same_gain old new ≡ b → position ≤ p → last_gain gains p ≡ old
    → last_gain (cond b gains (record { position = position; gain = new } ∷ gains)) p ≡ new
fader_set true position p old new gains e later h = h ∙ one_gain old new e
fader_set false position p old new gains e later h = let here : nat_le position p ≡ true = grind (arith, nat_tests) in rw here refl

-- from the next frame on each slot has the gain that the mixer device gives it after an event
pub slots-faded : (device : DeviceSeen) (pool : Pool) (story : Story) (event : Event) → StoryIsValid device story → (slot position : ℕ) → story.desk.mixed ≤ position
    → slot_gain_at (told device pool story event).faders slot position ≡ slot_gain (after device story.desk event).desk.mixer slot
slots-faded device pool story event v slot position later =
    let old : Gain = slot_gain story.desk.mixer slot in
    let new : Gain = slot_gain (after device story.desk event).desk.mixer slot in
    fader_set (is_same_gain old new) story.desk.mixed position old new (story.faders.slots slot) refl later (v.faders slot position later)

-- and so has all that is mixed
pub master-faded : (device : DeviceSeen) (pool : Pool) (story : Story) (event : Event) → StoryIsValid device story → (position : ℕ) → story.desk.mixed ≤ position
    → master_gain_at (told device pool story event).faders position ≡ master_gain (after device story.desk event).desk.mixer
master-faded device pool story event v position later =
    let old : Gain = master_gain story.desk.mixer in
    let new : Gain = master_gain (after device story.desk event).desk.mixer in
    fader_set (is_same_gain old new) story.desk.mixed position old new story.faders.master refl later (v.master position later)

-- a mapped slot stays valid where its book keeps what it counts and its runs are marked alone
maps-kept : (device : DeviceSeen) (pool : Pool) (story : Story) (event : Event) → Fits device pool event → frames_taken event ≡ 0 → (after device story.desk event).desk.mixed ≡ story.desk.mixed → StoryIsValid device story
    → (slot : ℕ) → MapIsValid device (after device story.desk event).desk.mixed (map_at device (after device story.desk event).desk slot) ((told device pool story event).map_runs slot)
maps-kept device pool story event fits none same v slot =
    let old : MapBook = map_at device story.desk slot in
    let new : MapBook = map_at device (after device story.desk event).desk slot in
    subst (λ (mixed : ℕ). MapIsValid device mixed new ((told device pool story event).map_runs slot)) (sym same)
    (subst (λ (runs : List Run). MapIsValid device story.desk.mixed new (map_marking story.desk.mixed old new runs)) (sym (map-untaken device pool story.desk event old (story.areas slot) (story.map_runs slot) fits none))
    (map-marked device story.desk.mixed old new (story.map_runs slot) (keeps-maps device pool story.desk event fits none slot) (v.maps slot)))

-- a slot of the next desk is valid once the event has marked its newest run
valid-at : (device : DeviceSeen) (pool : Pool) (story : Story) (event : Event) (mixed slot : ℕ) → IsDevice device → (after device story.desk event).desk.mixed ≡ mixed
    → SlotIsUntold device mixed story.desk (after device story.desk event).desk slot (carried_at device pool story event slot)
    → SlotIsValid device (after device story.desk event).desk.mixed (play_at device (after device story.desk event).desk slot) ((told device pool story event).runs slot)
valid-at device pool story event mixed slot d same u =
    let old : PlayBook = play_at device story.desk slot in
    let new : Desk = (after device story.desk event).desk in
    let runs : List Run = carried_at device pool story event slot in
    valid-marking device new.mixed story.desk.mixed event old (play_at device new slot) runs d
    (subst (λ (m : ℕ). IsUntold device m old (play_at device new slot) runs) (sym same) u)

valid-kept : (device : DeviceSeen) (pool : Pool) (story : Story) (event : Event) → Fits device pool event → frames_taken event ≡ 0 → Keeps device pool story event → StoryIsValid device story → StoryIsValid device (told device pool story event)
valid-kept device pool story event fits none k v = record {
  limits = v.limits;
  slots = λ slot. valid-at device pool story event story.desk.mixed slot v.limits k.mixed_same (k.slots slot);
  safe = λ slot. (k.order slot).counts;
  here = λ slot. subst (λ (handed : ℕ). IsHereAt device (here_at device handed) (play_at device (after device story.desk event).desk slot)) (sym k.handed_same) (k.order slot).place;
  placed = λ slot. subst (λ (mixed : ℕ). SlotIsPlaced device mixed (play_at device (after device story.desk event).desk slot) ((told device pool story event).runs slot)) (sym k.mixed_same) (k.placed slot);
  gains = gains-told device pool story event (let same = k.mixed_same in omega arith) v;
  maps = maps-kept device pool story event fits none k.mixed_same v;
  map_gains = map_gains-told device pool story event (let same = k.mixed_same in omega arith) v;
  faders = λ slot position later. slots-faded device pool story event v slot position (let same = k.mixed_same in omega arith);
  master = λ position later. master-faded device pool story event v position (let same = k.mixed_same in omega arith);
  mixed = k.mixed_same ∙ v.mixed ∙ ap (mixed_for device) (sym k.handed_same);
}

-- a book after an interrupt of n frames is in order, where the mix and the device are then
order-passing : (device : DeviceSeen) (handed n : ℕ) (book : PlayBook) → IsDevice device → IsRate book.opening.settings.rate → IsInOrder device (here_at device handed) book → IsInOrder device (here_at device (handed + n)) (play_passing device handed n book)
order-passing device handed n book d s o =
    let mixed : ℕ = mixed_for device handed in
    let q : ℕ = mixed_by device handed n in
    order-settling device (mixed + q) (handed + n) (mixing device mixed q book) (sym (mixed-behind device handed n d)) (last-mixing device mixed q book o.place.last)
    (safe-mixing device mixed q book d s o.counts)

-- and so is that of each slot
order_passed : (device : DeviceSeen) (desk : Desk) (n slot : ℕ) → IsDevice device → HaveRates device desk → IsInOrder device (desk_here device desk) (play_at device desk slot)
    → IsInOrder device (here_at device (desk.handed + n)) (play_at device (after device desk (Intr n)).desk slot)
order_passed device desk n slot d rates o =
    subst (IsInOrder device (here_at device (desk.handed + n))) (sym (play_at-passing device desk n slot)) (order-passing device desk.handed n (play_at device desk slot) d (rates slot) o)

order_quiet : (device : DeviceSeen) (desk : Desk) (event : Event) (slot : ℕ) → IsQuiet event → IsDevice device → OpensWithin event → HaveRates device desk → IsInOrder device (desk_here device desk) (play_at device desk slot)
    → IsInOrder device (desk_here device (after device desk event).desk) (play_at device (after device desk event).desk slot)
order_quiet device desk event slot quiet d fits rates o =
    let l = leaves device desk event fits quiet d rates in
    subst (λ (handed : ℕ). IsInOrder device (here_at device handed) (play_at device (after device desk event).desk slot)) (sym l.handed_same) ((l.slots slot).order o)

-- books stay in order through every event, if what is opened has such a rate
pub order-after : (device : DeviceSeen) (desk : Desk) (event : Event) (slot : ℕ) → IsDevice device → OpensWithin event → HaveRates device desk → IsInOrder device (desk_here device desk) (play_at device desk slot)
    → IsInOrder device (desk_here device (after device desk event).desk) (play_at device (after device desk event).desk slot)
order-after device desk (Open fd way settings) slot d fits rates o = order_quiet device desk (Open fd way settings) slot tt d fits rates o
order-after device desk (Write fd source at count) slot d fits rates o =
    let event : Event = Write fd source at count in
    let same : (after device desk event).desk.handed ≡ desk.handed = let taken = handed-taken device desk event in omega (arith, taken) in
    subst (λ (handed : ℕ). IsInOrder device (here_at device handed) (play_at device (after device desk event).desk slot)) (sym same) (order_write device desk fd source at count slot d rates o)
order-after device desk (Poke fd offset at count) slot d fits rates o = order_quiet device desk (Poke fd offset at count) slot tt d tt rates o
order-after device desk (Read fd count) slot d fits rates o = order_quiet device desk (Read fd count) slot tt d tt rates o
order-after device desk (Ioctl fd request) slot d fits rates o = order_quiet device desk (Ioctl fd request) slot tt d tt rates o
order-after device desk (Join fd group) slot d fits rates o = order_quiet device desk (Join fd group) slot tt d tt rates o
order-after device desk (StartGroup fd group) slot d fits rates o = order_quiet device desk (StartGroup fd group) slot tt d tt rates o
order-after device desk (Close fd) slot d fits rates o = order_quiet device desk (Close fd) slot tt d tt rates o
order-after device desk (Mixer request) slot d fits rates o = o
order-after device desk (Intr n) slot d fits rates o = order_passed device desk n slot d rates o

-- a story stays valid through an interrupt
valid-interrupted : (device : DeviceSeen) (pool : Pool) (story : Story) (n : ℕ) → StoryIsValid device story → StoryIsValid device (told device pool story (Intr n))
valid-interrupted device pool story n v = record {
  limits = v.limits;
  slots = λ slot. valid-at device pool story (Intr n) (story.desk.mixed + q) slot v.limits refl
      (subst (λ (b : PlayBook). IsUntold device (story.desk.mixed + q) (old slot) b (played slot)) (sym (is slot)) (untold-passing device story.desk.mixed q (story.desk.handed + n) (old slot) (story.runs slot) (valid slot)));
  safe = λ slot. (order_passed device story.desk n slot v.limits (rates_of device story v) (order_of device story slot v)).counts;
  here = λ slot. (order_passed device story.desk n slot v.limits (rates_of device story v) (order_of device story slot v)).place;
  placed = λ slot. subst (λ (b : PlayBook). SlotIsPlaced device (story.desk.mixed + q) b (marking story.desk.mixed (Intr n) (old slot) b (played slot))) (sym (is slot))
      (placed-passing device story.desk.mixed q (story.desk.handed + n) n (old slot) (story.runs slot) v.limits (v.slots slot) (v.placed slot)
      (safe-mixing device story.desk.mixed q (old slot) v.limits (v.slots slot).settings (v.safe slot)) (valid slot));
  gains = gains-told device pool story (Intr n) (omega arith) v;
  maps = λ slot. map-interrupted device story n slot v.limits (v.maps slot);
  map_gains = map_gains-told device pool story (Intr n) (omega arith) v;
  faders = λ slot position later. slots-faded device pool story (Intr n) v slot position (omega arith);
  master = λ position later. master-faded device pool story (Intr n) v position (omega arith);
  mixed = ap (λ frames. frames + q) v.mixed ∙ mixed-behind device story.desk.handed n v.limits;
}
  where
    q : ℕ
    q = mixed_by device story.desk.handed n

    old : ℕ → PlayBook
    old slot = play_at device story.desk slot

    played : ℕ → List Run
    played slot = playing device story.desk.mixed q (old slot) (story.runs slot)

    valid : (slot : ℕ) → SlotIsValid device (story.desk.mixed + q) (mixing device story.desk.mixed q (old slot)) (played slot)
    valid slot = valid-mixing device story.desk.mixed q (old slot) (story.runs slot) v.limits (v.safe slot) (v.slots slot)

    is : (slot : ℕ) → play_at device (after device story.desk (Intr n)).desk slot ≡ settling device (story.desk.handed + n) (mixing device story.desk.mixed q (old slot))
    is slot =
        play_at-passing device story.desk n slot
        ∙ sym (ap (λ (mixed : ℕ). settling device (story.desk.handed + n) (mixing device mixed q (old slot))) v.mixed)

-- a story stays valid through an event that fits
pub valid-told : (device : DeviceSeen) (pool : Pool) (story : Story) (event : Event) → Fits device pool event → StoryIsValid device story → StoryIsValid device (told device pool story event)
valid-told device pool story (Open fd way settings) fits v = valid-kept device pool story (Open fd way settings) fits refl (keeps device pool story (Open fd way settings) fits refl v) v
valid-told device pool story (Write fd source at count) fits v = valid-kept device pool story (Write fd source at count) fits refl (keeps device pool story (Write fd source at count) fits refl v) v
valid-told device pool story (Poke fd offset at count) fits v = valid-kept device pool story (Poke fd offset at count) fits refl (keeps device pool story (Poke fd offset at count) fits refl v) v
valid-told device pool story (Read fd count) fits v = valid-kept device pool story (Read fd count) fits refl (keeps device pool story (Read fd count) fits refl v) v
valid-told device pool story (Ioctl fd request) fits v = valid-kept device pool story (Ioctl fd request) fits refl (keeps device pool story (Ioctl fd request) fits refl v) v
valid-told device pool story (Join fd group) fits v = valid-kept device pool story (Join fd group) fits refl (keeps device pool story (Join fd group) fits refl v) v
valid-told device pool story (StartGroup fd group) fits v = valid-kept device pool story (StartGroup fd group) fits refl (keeps device pool story (StartGroup fd group) fits refl v) v
valid-told device pool story (Close fd) fits v = valid-kept device pool story (Close fd) fits refl (keeps device pool story (Close fd) fits refl v) v
valid-told device pool story (Mixer request) fits v = valid-kept device pool story (Mixer request) fits refl (keeps device pool story (Mixer request) fits refl v) v
valid-told device pool story (Intr n) fits v = valid-interrupted device pool story n v

-- each element of copies is the copied one
pub get_or-same : {X : Type 0} (n i : ℕ) (x : X) → get_or (replicate n x) i x ≡ x
get_or-same n i x =
    elim (cases_lt i n) [
      | inl h ↦ get_or-replicate n i x x h
      | inr h ↦ get_or_past (replicate n x) i x (omega (arith, length-replicate n x))
    ]

-- before the first event
pub valid-start : (device : DeviceSeen) → IsDevice device → StoryIsValid device (story_at_start device)
valid-start device d = record {
  limits = d;
  slots = λ slot. subst (λ (b : PlayBook). SlotIsValid device 0 b []) (sym (get_or-same (play_slots device) slot (play_unopened device))) (record {
    settings = d.mix_rate;
    started = λ e. cc;
    newest = λ h. absurd (omega arith);
    pieces = All-nil (RunIsValid device 0);
    own = All-nil HasRate;
  });
  here = λ slot. subst (IsHereAt device (here_at device 0)) (sym (get_or-same (play_slots device) slot (play_unopened device))) (record { last = λ e. cc; left = λ e. cc });
  safe = λ slot. subst (IsSafeAt device) (sym (get_or-same (play_slots device) slot (play_unopened device))) (record { order = (refl, unstarted); fill = omega arith; fragments = usual-fragments; volume = refl; told = omega arith });
  placed = λ slot. tt;
  gains = λ slot position l. ap book_gain (sym (get_or-same (play_slots device) slot (play_unopened device)));
  maps = λ slot. subst (λ (b : MapBook). MapIsValid device 0 b []) (sym (get_or-same (map_slots device) slot (map_unopened device))) (map-valid-start device d);
  map_gains = λ slot position l. ap map_gain (sym (get_or-same (map_slots device) slot (map_unopened device)));
  faders = λ slot position l. sym (ap (λ (muted : Bool). cond muted no_gain (gain_of (slot_volume full_mixer slot))) (get_or-same SLOTS slot false) ∙ ap gain_of (get_or-same SLOTS slot VOLUME));
  master = λ position l. refl;
  mixed = refl;
}

-- a story stays valid through events that fit
pub valid-told_all : (device : DeviceSeen) (pool : Pool) (story : Story) (events : List Event) → All (Fits device pool) events → StoryIsValid device story → StoryIsValid device (told_all device pool story events)
valid-told_all device pool story [] fit v = v
valid-told_all device pool story (event ∷ events) fit v =
    valid-told_all device pool (told device pool story event) events (All-tail (Fits device pool) event events fit) (valid-told device pool story event (All-head (Fits device pool) event events fit) v)

-- the story of a script whose events fit
pub valid-story : (device : DeviceSeen) (pool : Pool) (events : List Event) → IsDevice device → All (Fits device pool) events → StoryIsValid device (story_of device pool events)
valid-story device pool events d fit = valid-told_all device pool (story_at_start device) events fit (valid-start device d)

-- what the runs of a slot gave in the past stays
sounding-carrying : (device : DeviceSeen) (pool : Pool) (story : Story) (event : Event) (gain : Gain) (slot position : ℕ) → StoryIsValid device story → position < story.desk.mixed
    → sounding device gain (carried_at device pool story event slot) position ≡ sounding device gain (story.runs slot) position
sounding-carrying device pool story (Open fd way settings) gain slot position v h = refl
sounding-carrying device pool story (Write fd source at count) gain slot position v h =
    let old : PlayBook = play_at device story.desk slot in
    let new : PlayBook = play_at device (after device story.desk (Write fd source at count)).desk slot in
    sounding-taking device gain story.desk.mixed position (bytes_at pool source at (new.written - old.written)) old (story.runs slot) v.limits (v.slots slot)
    (written_undrained pool source at count old new (writes-some device story.desk fd source at count slot))
sounding-carrying device pool story (Poke fd offset at count) gain slot position v h = refl
sounding-carrying device pool story (Read fd count) gain slot position v h = refl
sounding-carrying device pool story (Ioctl fd request) gain slot position v h = refl
sounding-carrying device pool story (Join fd group) gain slot position v h = refl
sounding-carrying device pool story (StartGroup fd group) gain slot position v h = refl
sounding-carrying device pool story (Close fd) gain slot position v h = refl
sounding-carrying device pool story (Mixer request) gain slot position v h = refl
sounding-carrying device pool story (Intr n) gain slot position v h = sounding-playing device gain story.desk.mixed (mixed_by device story.desk.handed n) position (play_at device story.desk slot) (story.runs slot) h

-- what a slot that plays gave stays as it was
play_told : (device : DeviceSeen) (pool : Pool) (story : Story) (event : Event) (slot position : ℕ) → StoryIsValid device story → position < story.desk.mixed
    → let new : Story = told device pool story event in
    sounding device (last_gain (new.gains slot) position) (new.runs slot) position ≡ sounding device (last_gain (story.gains slot) position) (story.runs slot) position
play_told device pool story event slot position v h =
    let old : PlayBook = play_at device story.desk slot in
    let new : PlayBook = play_at device (after device story.desk event).desk slot in
    let carried : List Run = carried_at device pool story event slot in
    ap (λ (gain : Gain). sounding device gain (marking story.desk.mixed event old new carried) position) (last_gain-later story.desk.mixed position (play_loudness old) (play_loudness new) (story.gains slot) h)
    ∙ sounding-marking device (last_gain (story.gains slot) position) story.desk.mixed event old new carried position
    ∙ sounding-carrying device pool story event (last_gain (story.gains slot) position) slot position v h

-- and so does what a mapped slot gave
map_told : (device : DeviceSeen) (pool : Pool) (story : Story) (event : Event) (slot position : ℕ) → StoryIsValid device story → position < story.desk.mixed
    → let new : Story = told device pool story event in
    sounding device (last_gain (new.map_gains slot) position) (new.map_runs slot) position ≡ sounding device (last_gain (story.map_gains slot) position) (story.map_runs slot) position
map_told device pool story event slot position v h =
    let old : MapBook = map_at device story.desk slot in
    let new : MapBook = map_at device (after device story.desk event).desk slot in
    let carried : List Run = map_carrying device story.desk event old (story.areas slot) (story.map_runs slot) in
    ap (λ (gain : Gain). sounding device gain (map_marking story.desk.mixed old new carried) position) (last_gain-later story.desk.mixed position (map_loudness old) (map_loudness new) (story.map_gains slot) h)
    ∙ sounding-map_marking device (last_gain (story.map_gains slot) position) story.desk.mixed old new carried position
    ∙ sounding-map_carrying device (last_gain (story.map_gains slot) position) story.desk event position old (story.areas slot) (story.map_runs slot) v.limits (v.maps slot) h

-- what was mixed stays as it was
pub table_of-told : (device : DeviceSeen) (pool : Pool) (story : Story) (event : Event) (slot position : ℕ) → StoryIsValid device story → position < story.desk.mixed → table_of device (told device pool story event) slot position ≡ table_of device story slot position
table_of-told device pool story event slot position v h =
    let new : Story = told device pool story event in
    let at : ℕ = slot - play_slots device in
    elim (nat_lt slot (play_slots device)) as (λ (b : Bool).
    sounding device (last_gain (cond b (new.gains slot) (new.map_gains at)) position) (cond b (new.runs slot) (new.map_runs at)) position
    ≡ sounding device (last_gain (cond b (story.gains slot) (story.map_gains at)) position) (cond b (story.runs slot) (story.map_runs at)) position) [
      | true ↦ play_told device pool story event slot position v h
      | false ↦ map_told device pool story event at position v h
    ]

-- a list of events with one more at its end
pub told_all-push : (device : DeviceSeen) (pool : Pool) (story : Story) (events : List Event) (event : Event) → told_all device pool story (events ++ event ∷ []) ≡ told device pool (told_all device pool story events) event
told_all-push device pool story [] event = refl
told_all-push device pool story (first ∷ events) event = told_all-push device pool (told device pool story first) events event
