-- No count of a desk runs ahead of what was mixed and given to the device, whatever events come; so all of them fit 64 bits for long.
use Rattle.std.proofs.Common.{◌≡◌, ℕ, ℤ, zero, suc, ◌+◌, ◌*◌, ◌<◌, ◌≤◌, Bool, true, false, cond, All, List, length, get_or, Option, Some, inl, inr, refl, sym, ap, subst, arith, Err, None, Ok, Result}
use Rattle.std.specs.Prelude.{eqb, nat_lt, nat_le, min, ◌&&◌}
use Rattle.std.proofs.lemmas.Bool.{and_parts, cases_lt, eqb-true}
use Rattle.std.proofs.lemmas.List.{get_or_default, get_or_past}
use Rattle.std.proofs.lemmas.List.Elements.{All-map, All-set}
use Rattle.std.proofs.Math.Nat.{mul-le-mul_right}
use Rattle.pcm_engine.specs.Types.{Errno, Event, Held, Here, MapBook, PlayBook, PlayState, Rate, RecordBook, Request, RunState, Settings, Turn, Way}
use Rattle.pcm_format.specs.Frames.{frame_bytes}
use Rattle.pcm_format.proofs.Streams.{frame_bytes-most}
use Rattle.pcm_oss.specs.declared.event.Event.TheVariants.{Open, Write, Poke, Read, Ioctl, Join, StartGroup, Close, Mixer, Intr}
use Rattle.pcm_oss.specs.declared.reply.Answer.TheVariants.{Got, Number}
use Rattle.pcm_oss.specs.declared.reply.Errno.TheVariants.{Again, Busy, Inval}
use Rattle.pcm_oss.specs.declared.request.Request.TheVariants.{SetTrigger}
use Rattle.pcm_rate.specs.Rates.{len}
use Rattle.pcm_rate.proofs.Counts.{below_div_up}
use Rattle.pcm_feeder.specs.Limits.{IsRate}
use Rattle.pcm_plan.specs.Plans.{rate_in_plan}
use Rattle.pcm_chain.specs.Counts.{IsNear}
use Rattle.pcm_chain.proofs.Counting.{rate-near}
use Rattle.pcm_group.specs.Groups.{change_in}
use Rattle.pcm_group.proofs.Members.{get_or-change_in, length-change_in, used-some}
use Rattle.pcm_desk.specs.declared.run_state.RunState.TheVariants as run_states
use Rattle.pcm_desk.specs.declared.play_book.PlayState.TheVariants.{Free, Setup, Primed, Running, Draining}
use Rattle.pcm_desk.specs.Device.{DeviceSeen, IsDevice, mix_settings, mixed_for, passed_for, play_plan_between}
use Rattle.pcm_desk.specs.BookTurns.{doing, refused, telling}
use Rattle.pcm_desk.specs.Openings.{fragment_bytes, ring_bytes}
use Rattle.pcm_desk.specs.PlayBooks.{accepting, closed_in, drained_in, finished, frames_written, is_over, play_emptied, play_fill_of, play_free_of, play_settled, refilled_in, started_at, started_in, takes_none, write_turn}
use Rattle.pcm_desk.specs.PlayRequests.{play_ask, play_roused_in, play_stopped_in, play_with_trigger}
use Rattle.pcm_desk.specs.RecordBooks as records
use Rattle.pcm_desk.specs.RunStates.{is_running}
use Rattle.pcm_desk.specs.RecordBooks.{captured_in, record_fill_of}
use Rattle.pcm_desk.specs.RecordRequests.{record_ask}
use Rattle.pcm_desk.specs.RecordSafe.{RecordIsSafe}
use Rattle.pcm_desk.specs.MapBooks.{map_refilled_in, poke_turn}
use Rattle.pcm_desk.specs.MapRequests.{map_ask}
use Rattle.pcm_desk.specs.MapSafe.{MapIsSafe}
use Rattle.pcm_desk.specs.Channels.{capturing, map_mixing, map_passing, map_rate_at, mixed_by, mixing, play_passing, play_rate_at, play_starting, record_rate_at, record_starting, Channel, Mapped, Playing, Recording, channel_begun, member_refusal, own_close, own_ioctl, own_join, own_poke, own_read, own_request, own_turn, own_write}
use Rattle.pcm_desk.specs.Triggers.{both_bits}
use Rattle.pcm_desk.specs.Desk.{Desk, DeskTurn, after, desk_here, group_started, held_by, interrupt_turn, map_at, map_unopened, play_at, play_unopened, record_at, record_unopened, channel_at, channel_turn, grouping_at, is_member, with_channel_at}
use Rattle.pcm_desk.proofs.Grouping.{by-starting}
use Rattle.pcm_desk.proofs.MapLeaves as map_leaves
use Rattle.pcm_desk.proofs.PlayAsking.{Dropping, Ending, Noting, SettingUp, Starting, Stopping, ask-does, noting}
use Rattle.pcm_desk.proofs.PlaySafe.{settings-refilled}
use Rattle.pcm_desk.proofs.Ratios.{plan-between-fits}
use Rattle.pcm_desk.proofs.RecordLeaves as record_leaves
use Rattle.pcm_desk.proofs.Turning.{by-opening, by-turning}
use Rattle.pcm_sound.proofs.Stories.{HaveRates}
use Rattle.pcm_record.proofs.Capturing.{kept-most}
use Rattle.pcm_engine.specs.Engines.{MapBooksAreSafe, RecordsAreSafe}
use Rattle.pcm_engine.specs.Life.{KeepsPace, MapKeepsPace, PlayKeepsPace, RecordKeepsPace}
use Rattle.pcm_desk.proofs.Channels.{channel_named}
use Rattle.pcm_oss.specs.declared.event.Way.TheVariants.{Map, Play, Record}

-- ---- books that play

-- what holds of both holds of either
either : {X : Type 0} (P : X → Type 0) (b : Bool) (x y : X) → P x → P y → P (cond b x y)
either P true x y px py = px
either P false x y px py = py

-- what counts as much as a book before keeps the pace of as many frames
paced : (mixed : ℕ) (old new : PlayBook) → new.done ≡ old.done → new.given ≡ old.given → PlayKeepsPace mixed old → PlayKeepsPace mixed new
paced mixed old new done given p = record { played = (let before = p.played in omega (arith, done, given, before)) }

-- a frame of the mix lasts no longer than 48 of a client
frames-near : (rate : Rate) (n : ℕ) → IsNear rate → n ≤ 48 * len rate n
frames-near rate n near =
    let ends : n * rate.dst ≤ len rate n * rate.src =
    elim (cases_lt (len rate n * rate.src) (n * rate.dst)) [
      | inl more ↦ (let above : suc (len rate n) ≤ len rate n = (below_div_up (len rate n) (n * rate.dst) rate.src near.ratio.src).1 more in absurd (omega (arith, above)))
      | inr most ↦ omega (arith, most)
    ] in
    let up = mul-le-mul_right {m = rate.src} {n = 48 * rate.dst} (len rate n) (omega (arith, near.src)) in
    let all : n * rate.dst ≤ 48 * len rate n * rate.dst = omega (arith, ends, up) in
    elim (cases_lt (48 * len rate n) n) [
      | inl more ↦ (let past = mul-le-mul_right {m = suc (48 * len rate n)} {n = n} rate.dst (omega (arith, more)) in absurd (omega (arith, past, all, near.ratio.dst)))
      | inr most ↦ omega (arith, most)
    ]

-- a run that was played whole had no more bytes than its frames of the mix allow
finished_pace : (rate : Rate) (mixed : ℕ) (state : PlayState) (book : PlayBook) → IsNear rate → book.given ≡ len rate (frames_written book) → PlayKeepsPace mixed book → PlayKeepsPace mixed (finished state book)
finished_pace rate mixed state book near all p =
    let frames : ℕ = frames_written book in
    let size : ℕ = frame_bytes book.opening.settings in
    let few = frames-near rate frames near in
    let up = mul-le-mul_right {m = frames} {n = 48 * book.given} size (omega (arith, few, all)) in
    let wide = mul-le-mul_right {m = size} {n = 32} (48 * book.given) (frame_bytes-most book.opening.settings) in
    let before = p.played in
    record { played = omega (arith, before, up, wide) }

over_in : (b : Bool) (rate : Rate) (passed : ℤ) (mixed : ℕ) (state : PlayState) (book : PlayBook) → IsNear rate → is_over rate passed book ≡ b → PlayKeepsPace mixed book → PlayKeepsPace mixed (cond b (finished state book) book)
over_in true rate passed mixed state book near over p = finished_pace rate mixed state book near (eqb-true book.given (len rate (frames_written book)) (and_parts (eqb book.given (len rate (frames_written book))) _ over).0) p
over_in false rate passed mixed state book near over p = p

settled_at : (state : PlayState) (rate : Rate) (passed : ℤ) (mixed : ℕ) (book : PlayBook) → IsNear rate → PlayKeepsPace mixed (record book { state = state }) → PlayKeepsPace mixed (play_settled rate passed (record book { state = state }))
settled_at (Draining closed) rate passed mixed book near p =
    let draining : PlayBook = record book { state = Draining closed } in
    over_in (is_over rate passed draining) rate passed mixed (cond closed Free Setup) draining near refl p
settled_at state rate passed mixed book near p = p

drained_at : (state : PlayState) (rate : Rate) (here : Here) (mixed : ℕ) (book : PlayBook) → IsNear rate → PlayKeepsPace mixed (record book { state = state }) → PlayKeepsPace mixed (drained_in rate here state (record book { state = state }))
drained_at Primed rate here mixed book near p =
    let started : PlayBook = started_at here.mixed (Draining false) (record book { state = Primed }) in
    let emptied : PlayBook = play_emptied Setup (record book { state = Primed }) in
    either (PlayKeepsPace mixed) (nat_lt 0 (frames_written book)) started emptied (paced mixed (record book { state = Primed }) started refl refl p) (record { played = (let before = p.played in omega (arith, before)) })
drained_at Running rate here mixed book near p =
    settled_at (Draining false) rate here.passed mixed book near (paced mixed (record book { state = Running }) (record book { state = Draining false }) refl refl p)
drained_at state rate here mixed book near p = p

closed_at : (state : PlayState) (mixed : ℕ) (book : PlayBook) → PlayKeepsPace mixed (record book { state = state }) → PlayKeepsPace mixed (closed_in state (record book { state = state }))
closed_at Setup mixed book p = paced mixed (record book { state = Setup }) (record book { state = Free }) refl refl p
closed_at (Draining was) mixed book p = paced mixed (record book { state = Draining was }) (record book { state = Draining true }) refl refl p
closed_at state mixed book p = p

-- a write counts no frame
started_pace : (b : Bool) (at mixed : ℕ) (more : PlayBook) → PlayKeepsPace mixed more → PlayKeepsPace mixed (cond b (started_at at Running more) (record more { state = Primed }))
started_pace true at mixed more p = paced mixed more (started_at at Running more) refl refl p
started_pace false at mixed more p = paced mixed more (record more { state = Primed }) refl refl p

primed_pace : (b : Bool) (at mixed : ℕ) (more : PlayBook) → PlayKeepsPace mixed more
    → PlayKeepsPace mixed (let primed : PlayBook = cond b (record more { state = Primed }) (record more { state = Setup }) in started_in at primed.state primed)
primed_pace true at mixed more p = started_pace (more.opening.trigger && nat_le (fragment_bytes more.opening) (play_fill_of more)) at mixed more p
primed_pace false at mixed more p = paced mixed more (record more { state = Setup }) refl refl p

accepting_at : (state : PlayState) (at mixed accepted : ℕ) (book : PlayBook) → PlayKeepsPace mixed book → PlayKeepsPace mixed (accepting at accepted (record book { state = state }))
accepting_at Setup at mixed accepted book p =
    let more : PlayBook = record book { written = book.written + accepted } in
    primed_pace (nat_lt 0 (book.written + accepted)) at mixed more (paced mixed book more refl refl p)
accepting_at Primed at mixed accepted book p =
    let more : PlayBook = record book { written = book.written + accepted } in
    started_pace (more.opening.trigger && nat_le (fragment_bytes more.opening) (play_fill_of more)) at mixed more (paced mixed book more refl refl p)
accepting_at state at mixed accepted book p = paced mixed book (accepting at accepted (record book { state = state })) refl refl p

write_pace : (here : Here) (mixed length : ℕ) (book : PlayBook) → PlayKeepsPace mixed book → PlayKeepsPace mixed (write_turn here length book).book
write_pace here mixed length book p =
    let Paces : Turn PlayBook → Type 0 = λ turn. PlayKeepsPace mixed turn.book in
    let accepted : ℕ = min length (play_free_of book) in
    let taken : Turn PlayBook = telling (Number accepted) (accepting here.mixed accepted book) in
    either Paces (takes_none book.state) (refused Busy book) (cond (nat_lt 0 length && eqb (play_free_of book) 0) (refused Again book) taken) p
    (either Paces (nat_lt 0 length && eqb (play_free_of book) 0) (refused Again book) taken p (accepting_at book.state here.mixed mixed accepted book p))

-- a request
roused_at : (state : PlayState) (at mixed : ℕ) (book : PlayBook) → PlayKeepsPace mixed (record book { state = state }) → PlayKeepsPace mixed (play_roused_in at state (record book { state = state }))
roused_at Primed at mixed book p =
    let primed : PlayBook = record book { state = Primed } in
    either (PlayKeepsPace mixed) (nat_lt 0 (frames_written book)) (started_at at Running primed) primed (paced mixed primed (started_at at Running primed) refl refl p) p
roused_at state at mixed book p = p

stopped_at : (state : PlayState) (mixed : ℕ) (book : PlayBook) → PlayKeepsPace mixed (record book { state = state }) → PlayKeepsPace mixed (play_stopped_in state (record book { state = state }))
stopped_at Primed mixed book p = record { played = omega arith }
stopped_at Running mixed book p = record { played = omega arith }
stopped_at state mixed book p = p

ask_pace : (rate : Rate) (mix_rate : ℕ) (here : Here) (request : Request) (mixed : ℕ) (book : PlayBook) → IsNear rate → PlayKeepsPace mixed book → PlayKeepsPace mixed (play_ask rate mix_rate here request book).book
ask_pace rate mix_rate here request mixed book near p =
    let set : (trigger : Bool) → PlayKeepsPace mixed (play_with_trigger trigger book) = λ trigger. paced mixed book (play_with_trigger trigger book) refl refl p in
    elim (ask-does rate mix_rate here request book) [
      | SettingUp opening setup sets is ↦ subst (PlayKeepsPace mixed) (sym is) (paced mixed book (record book { opening = opening }) refl refl p)
      | Noting told volume underruns n is ↦ subst (PlayKeepsPace mixed) (sym is) (paced mixed book (noting told volume underruns book) refl refl p)
      | Starting trigger is ↦ subst (PlayKeepsPace mixed) (sym is) (roused_at book.state here.mixed mixed (play_with_trigger trigger book) (set trigger))
      | Stopping bits asks off is ↦ subst (PlayKeepsPace mixed) (sym is) (stopped_at book.state mixed (play_with_trigger false book) (set false))
      | Ending is ↦ subst (PlayKeepsPace mixed) (sym is) (drained_at book.state rate here mixed book near p)
      | Dropping asks is ↦ subst (PlayKeepsPace mixed) (sym is) (record { played = omega arith })
    ]

-- an interrupt gives no more frames than it mixes
refilled_at : (state : PlayState) (rate : Rate) (at mixed n : ℕ) (book : PlayBook) → PlayKeepsPace mixed (record book { state = state }) → PlayKeepsPace (mixed + n) (refilled_in rate at state n (record book { state = state }))
refilled_at Running rate at mixed n book p = record { played = (let before = p.played in omega (arith, before)) }
refilled_at state rate at mixed n book p = record { played = (let before = p.played in omega (arith, before)) }

mixing_pace : (device : DeviceSeen) (at mixed n : ℕ) (book : PlayBook) → PlayKeepsPace mixed book → PlayKeepsPace (mixed + n) (mixing device at n book)
mixing_pace device at mixed zero book p = record { played = (let before = p.played in omega (arith, before)) }
mixing_pace device at mixed (suc n) book p = refilled_at book.state (play_rate_at device book) at mixed (suc n) book p

mixing_settings : (device : DeviceSeen) (at n : ℕ) (book : PlayBook) → (mixing device at n book).opening.settings ≡ book.opening.settings
mixing_settings device at zero book = refl
mixing_settings device at (suc n) book = settings-refilled (play_rate_at device book) at (suc n) book

pub near-rate : (device : DeviceSeen) (settings : Settings) → IsDevice device → IsRate settings.rate → IsNear (rate_in_plan (play_plan_between device settings))
near-rate device settings d rate = rate-near (play_plan_between device settings) (plan-between-fits device settings d rate)

passing_pace : (device : DeviceSeen) (handed mixed n : ℕ) (book : PlayBook) → IsDevice device → IsRate book.opening.settings.rate → PlayKeepsPace mixed book
    → PlayKeepsPace (mixed + mixed_by device handed n) (play_passing device handed n book)
passing_pace device handed mixed n book d rate p =
    let frames : ℕ = mixed_by device handed n in
    let at : ℕ = mixed_for device handed in
    let between : PlayBook = mixing device at frames book in
    let its : IsRate between.opening.settings.rate = subst (λ (settings : Settings). IsRate settings.rate) (sym (mixing_settings device at frames book)) rate in
    settled_at between.state (play_rate_at device between) (passed_for device (handed + n)) (mixed + frames) between (near-rate device between.opening.settings d its) (mixing_pace device at mixed frames book p)

-- ---- books that record

record_paced : (handed : ℕ) (old new : RecordBook) → new.captured ≤ old.captured → new.kept ≤ old.kept → RecordKeepsPace handed old → RecordKeepsPace handed new
record_paced handed old new captured kept p = record { captured = (let before = p.captured in omega (arith, captured, before)); kept = (let before = p.kept in omega (arith, kept, before)) }

record_ask_pace : (rate : Rate) (request : Request) (handed : ℕ) (book : RecordBook) → RecordIsSafe rate book → RecordKeepsPace handed book → RecordKeepsPace handed (record_ask request book).book
record_ask_pace rate request handed book s p =
    elim (record_leaves.record-ask-leaves rate request book s).counts [
      | inl stays ↦ record_paced handed book (record_ask request book).book (omega (arith, stays.captured)) (omega (arith, stays.kept)) p
      | inr ends ↦ record_paced handed book (record_ask request book).book (omega (arith, ends.captured)) (omega (arith, ends.kept)) p
    ]

read_pace : (length handed : ℕ) (book : RecordBook) → RecordKeepsPace handed book → RecordKeepsPace handed (records.read_turn length book).book
read_pace length handed book p =
    let got : ℕ = min length (record_fill_of book) in
    let read : Turn RecordBook = telling (Got got) (record book { read = book.read + got }) in
    either (λ turn. RecordKeepsPace handed turn.book) (nat_lt 0 length && eqb (record_fill_of book) 0) (refused Again book) read p
    (record_paced handed book (record book { read = book.read + got }) (omega arith) (omega arith) p)

captured_at : (state : RunState) (device : DeviceSeen) (handed n : ℕ) (book : RecordBook) → book.state ≡ state → 0 < n → RecordIsSafe (record_rate_at device book) book → RecordKeepsPace handed book
    → RecordKeepsPace (handed + n) (captured_in (record_rate_at device book) state n book)
captured_at run_states.Running device handed n book e some s p =
    let more = kept-most device n book (ap is_running e) s in
    record { captured = (let before = p.captured in omega (arith, before)); kept = (let before = p.kept in omega (arith, before, more, some)) }
captured_at state device handed n book e some s p = record { captured = (let before = p.captured in omega (arith, before)); kept = (let before = p.kept in omega (arith, before)) }

-- ---- mapped books

map_ask_pace : (rate : Rate) (request : Request) (mixed : ℕ) (book : MapBook) → MapIsSafe rate book → MapKeepsPace mixed book → MapKeepsPace mixed (map_ask request book).book
map_ask_pace rate request mixed book s p =
    elim (map_leaves.map-asked-leaves rate request book s).counts [
      | inl stays ↦ record { given = (let before = p.given in omega (arith, stays.given, before)) }
      | inr ends ↦ record { given = (let before = p.given in omega (arith, ends.given, before)) }
    ]

poke_pace : (offset count mixed : ℕ) (book : MapBook) → MapKeepsPace mixed book → MapKeepsPace mixed (poke_turn offset count book).book
poke_pace offset count mixed book p = either (λ (turn : Turn MapBook). MapKeepsPace mixed turn.book) (nat_lt (ring_bytes book.opening) (offset + count)) (refused Inval book) (doing book) p p

map_refilled_at : (state : RunState) (rate : Rate) (mixed n : ℕ) (book : MapBook) → MapKeepsPace mixed book → MapKeepsPace (mixed + n) (map_refilled_in rate state n book)
map_refilled_at run_states.Running rate mixed n book p = record { given = (let before = p.given in omega (arith, before)) }
map_refilled_at state rate mixed n book p = record { given = (let before = p.given in omega (arith, before)) }

map_mixing_pace : (device : DeviceSeen) (mixed n : ℕ) (book : MapBook) → MapKeepsPace mixed book → MapKeepsPace (mixed + n) (map_mixing device n book)
map_mixing_pace device mixed zero book p = record { given = (let before = p.given in omega (arith, before)) }
map_mixing_pace device mixed (suc n) book p = map_refilled_at book.state (map_rate_at device book) mixed (suc n) book p

-- ---- a desk

-- what holds of each book, and of one that nobody has opened, holds of each slot
pub at-slot : {X : Type 0} (P : X → Type 0) (books : List X) (slot : ℕ) (none : X) → P none → All P books → P (get_or books slot none)
at-slot P books slot none unopened each =
    elim (cases_lt slot (length books)) [
      | inl there ↦ each slot none there
      | inr past ↦ subst P (sym (get_or_past books slot none past)) unopened
    ]

play_slot : (device : DeviceSeen) (desk : Desk) (slot : ℕ) → KeepsPace desk → PlayKeepsPace desk.mixed (play_at device desk slot)
play_slot device desk slot p = at-slot (PlayKeepsPace desk.mixed) desk.play slot (play_unopened device) (record { played = omega arith }) p.playing

record_slot : (device : DeviceSeen) (desk : Desk) (slot : ℕ) → KeepsPace desk → RecordKeepsPace desk.handed (record_at device desk slot)
record_slot device desk slot p = at-slot (RecordKeepsPace desk.handed) desk.recording slot (record_unopened device) (record { captured = omega arith; kept = omega arith }) p.recording

map_slot : (device : DeviceSeen) (desk : Desk) (slot : ℕ) → KeepsPace desk → MapKeepsPace desk.mixed (map_at device desk slot)
map_slot device desk slot p = at-slot (MapKeepsPace desk.mixed) desk.mapped slot (map_unopened device) (record { given = omega arith }) p.mapped

-- a channel runs ahead of nothing
abbrev ChannelKeepsPace : Desk → Channel → Type 0
ChannelKeepsPace desk (Playing book) = PlayKeepsPace desk.mixed book
ChannelKeepsPace desk (Recording book) = RecordKeepsPace desk.handed book
ChannelKeepsPace desk (Mapped book) = MapKeepsPace desk.mixed book

-- whatever is done to a channel, way by way
by_ways : (device : DeviceSeen) (desk : Desk) (held : Held) (how : Channel → Channel) → ChannelKeepsPace desk (how (Playing (play_at device desk held.slot))) → ChannelKeepsPace desk (how (Recording (record_at device desk held.slot)))
    → ChannelKeepsPace desk (how (Mapped (map_at device desk held.slot))) → ChannelKeepsPace desk (how (channel_at device desk held))
by_ways device desk held how playing recording mapped = at held.way
  where
    at : (way : Way) → ChannelKeepsPace desk (how (channel_at device desk (channel_named way held.slot)))
    at Play = playing
    at Record = recording
    at Map = mapped

channel_pace : (device : DeviceSeen) (desk : Desk) (held : Held) → KeepsPace desk → ChannelKeepsPace desk (channel_at device desk held)
channel_pace device desk held p = by_ways device desk held (λ channel. channel) (play_slot device desk held.slot p) (record_slot device desk held.slot p) (map_slot device desk held.slot p)

begun_pace : (desk : Desk) (way : Way) (settings : Settings) → ChannelKeepsPace desk (channel_begun way settings)
begun_pace desk Play settings = record { played = omega arith }
begun_pace desk Record settings = record { captured = omega arith; kept = omega arith }
begun_pace desk Map settings = record { given = omega arith }

-- one channel is another
channel_set : (desk : Desk) (slot : ℕ) (channel : Channel) → ChannelKeepsPace desk channel → KeepsPace desk → KeepsPace (with_channel_at desk slot channel)
channel_set desk slot (Playing book) its p = record { playing = All-set (PlayKeepsPace desk.mixed) desk.play slot book its p.playing; recording = p.recording; mapped = p.mapped }
channel_set desk slot (Recording book) its p = record { playing = p.playing; recording = All-set (RecordKeepsPace desk.handed) desk.recording slot book its p.recording; mapped = p.mapped }
channel_set desk slot (Mapped book) its p = record { playing = p.playing; recording = p.recording; mapped = All-set (MapKeepsPace desk.mixed) desk.mapped slot book its p.mapped }

-- what an event relies on
pub record ReliesOn (device : DeviceSeen) (desk : Desk) : Type 0 where
  pub device_is : IsDevice device
  pub rates : HaveRates device desk
  pub records_safe : RecordsAreSafe device desk
  pub maps_safe : MapBooksAreSafe device desk

-- ---- the turn of a channel

asked_pace : (device : DeviceSeen) (desk : Desk) (held : Held) (request : Request) → ReliesOn device desk → KeepsPace desk → ChannelKeepsPace desk (own_ioctl device (desk_here device desk) request (channel_at device desk held)).book
asked_pace device desk held request r p =
    let old : PlayBook = play_at device desk held.slot in
    by_ways device desk held (λ channel. (own_ioctl device (desk_here device desk) request channel).book)
    (ask_pace (play_rate_at device old) (mix_settings device).rate (desk_here device desk) request desk.mixed old (near-rate device old.opening.settings r.device_is (r.rates held.slot)) (play_slot device desk held.slot p))
    (record_ask_pace (record_rate_at device (record_at device desk held.slot)) request desk.handed (record_at device desk held.slot) (r.records_safe held.slot) (record_slot device desk held.slot p))
    (map_ask_pace (map_rate_at device (map_at device desk held.slot)) request desk.mixed (map_at device desk held.slot) (r.maps_safe held.slot) (map_slot device desk held.slot p))

requested_pace : (device : DeviceSeen) (desk : Desk) (held : Held) (request : Request) (refusal : Option Errno) → ReliesOn device desk → KeepsPace desk
    → ChannelKeepsPace desk (own_request device (desk_here device desk) request refusal (channel_at device desk held)).book
requested_pace device desk held request None r p = asked_pace device desk held request r p
requested_pace device desk held request (Some errno) r p = channel_pace device desk held p

joined_pace : (device : DeviceSeen) (desk : Desk) (held : Held) (result : Result ℕ Errno) → ReliesOn device desk → KeepsPace desk → ChannelKeepsPace desk (own_join device (desk_here device desk) result (channel_at device desk held)).book
joined_pace device desk held (Ok group) r p = asked_pace device desk held (SetTrigger 0) r p
joined_pace device desk held (Err errno) r p = channel_pace device desk held p

-- all members of a group start
change_pace : {X : Type 0} (P : X → Type 0) (group : ℕ) (how : X → X) (slots : List ℕ) (books : List X) → 0 < group → ((slot : ℕ) (other : X) → slot < length books → P (how (get_or books slot other))) → All P books
    → All P (change_in group how slots books)
change_pace P group how slots books some changed each = λ slot other there.
    let within : slot < length books = omega (arith, there, length-change_in group how slots books) in
    subst P (sym (get_or-change_in group how slots books slot other some within))
    (either P (eqb (get_or slots slot 0) group) (how (get_or books slot other)) (get_or books slot other) (changed slot other within) (each slot other within))

start_pace : (device : DeviceSeen) (desk : Desk) (group : ℕ) → 0 < group → ReliesOn device desk → KeepsPace desk → KeepsPace (group_started device desk group)
start_pace device desk group some r p =
    let here : Here = desk_here device desk in
    record {
      playing = change_pace (PlayKeepsPace desk.mixed) group (play_starting device here) desk.groups.play desk.play some
          (λ slot other there.
          let same : get_or desk.play slot other ≡ play_at device desk slot = get_or_default desk.play slot other (play_unopened device) there in
          let old : PlayBook = get_or desk.play slot other in
          let rate = subst (λ (book : PlayBook). IsRate book.opening.settings.rate) (sym same) (r.rates slot) in
          ask_pace (play_rate_at device old) (mix_settings device).rate here (SetTrigger both_bits) desk.mixed old (near-rate device old.opening.settings r.device_is rate) (p.playing slot other there))
          p.playing;
      recording = change_pace (RecordKeepsPace desk.handed) group record_starting desk.groups.recording desk.recording some
          (λ slot other there.
          let same : get_or desk.recording slot other ≡ record_at device desk slot = get_or_default desk.recording slot other (record_unopened device) there in
          let old : RecordBook = get_or desk.recording slot other in
          record_ask_pace (record_rate_at device old) (SetTrigger both_bits) desk.handed old (subst (λ (book : RecordBook). RecordIsSafe (record_rate_at device book) book) (sym same) (r.records_safe slot)) (p.recording slot other there))
          p.recording;
      mapped = p.mapped;
    }

interrupt_pace : (device : DeviceSeen) (desk : Desk) (n : ℕ) → 0 < n → ReliesOn device desk → KeepsPace desk → KeepsPace (interrupt_turn device desk n).desk
interrupt_pace device desk n some r p =
    let frames : ℕ = mixed_by device desk.handed n in
    record {
      playing = All-map (PlayKeepsPace (desk.mixed + frames)) (play_passing device desk.handed n) desk.play
          (λ slot other there.
          let same : get_or desk.play slot other ≡ play_at device desk slot = get_or_default desk.play slot other (play_unopened device) there in
          let rate = subst (λ (book : PlayBook). IsRate book.opening.settings.rate) (sym same) (r.rates slot) in
          passing_pace device desk.handed desk.mixed n (get_or desk.play slot other) r.device_is rate (p.playing slot other there));
      recording = All-map (RecordKeepsPace (desk.handed + n)) (capturing device n) desk.recording
          (λ slot other there.
          let same : get_or desk.recording slot other ≡ record_at device desk slot = get_or_default desk.recording slot other (record_unopened device) there in
          let old : RecordBook = get_or desk.recording slot other in
          captured_at old.state device desk.handed n old refl some (subst (λ (book : RecordBook). RecordIsSafe (record_rate_at device book) book) (sym same) (r.records_safe slot)) (p.recording slot other there));
      mapped = All-map (MapKeepsPace (desk.mixed + frames)) (map_passing device desk.handed n) desk.mapped
          (λ slot other there. map_mixing_pace device desk.mixed frames (get_or desk.mapped slot other) (p.mapped slot other there));
    }

-- an interrupt hands some frames over
abbrev pub HandsSome : Event → Type 0
HandsSome (Intr n) = 0 < n
HandsSome event = Unit {0}

-- an event of a descriptor
turned_pace : (device : DeviceSeen) (desk : Desk) (event : Event) (fd : ℕ) → KeepsPace desk → ((held : Held) → ChannelKeepsPace desk (own_turn device desk.handed (grouping_at device desk held) event (channel_at device desk held)).book)
    → KeepsPace (channel_turn device desk event (held_by desk fd)).desk
turned_pace device desk event fd p its = by-turning (λ (t : DeskTurn). KeepsPace t.desk) device desk event (held_by desk fd) (λ e. p)
    (λ held e. let set = channel_set desk held.slot (own_turn device desk.handed (grouping_at device desk held) event (channel_at device desk held)).book (its held) p in
    record { playing = set.playing; recording = set.recording; mapped = set.mapped })

-- no book runs ahead, whatever event comes
pub pace-after : (device : DeviceSeen) (desk : Desk) (event : Event) → HandsSome event → ReliesOn device desk → KeepsPace desk → KeepsPace (after device desk event).desk
pace-after device desk (Open fd way settings) some r p =
    by-opening (λ (t : DeskTurn). KeepsPace t.desk) desk fd way settings (λ held e. p) (λ shut. p)
    (λ slot shut found. let set = channel_set desk slot (channel_begun way settings) (begun_pace desk way settings) p in record { playing = set.playing; recording = set.recording; mapped = set.mapped })
pace-after device desk (Write fd source at count) some r p =
    turned_pace device desk (Write fd source at count) fd p (λ held.
    by_ways device desk held (λ channel. (own_write (desk_here device desk) count channel).book)
    (write_pace (desk_here device desk) desk.mixed count (play_at device desk held.slot) (play_slot device desk held.slot p)) (record_slot device desk held.slot p) (map_slot device desk held.slot p))
pace-after device desk (Poke fd offset at count) some r p =
    turned_pace device desk (Poke fd offset at count) fd p (λ held.
    by_ways device desk held (λ channel. (own_poke offset count channel).book)
    (play_slot device desk held.slot p) (record_slot device desk held.slot p) (poke_pace offset count desk.mixed (map_at device desk held.slot) (map_slot device desk held.slot p)))
pace-after device desk (Read fd count) some r p =
    turned_pace device desk (Read fd count) fd p (λ held.
    by_ways device desk held (λ channel. (own_read count channel).book)
    (play_slot device desk held.slot p) (read_pace count desk.handed (record_at device desk held.slot) (record_slot device desk held.slot p)) (map_slot device desk held.slot p))
pace-after device desk (Ioctl fd request) some r p = turned_pace device desk (Ioctl fd request) fd p (λ held. requested_pace device desk held request (member_refusal (is_member desk held) request) r p)
pace-after device desk (Join fd group) some r p = turned_pace device desk (Join fd group) fd p (λ held. joined_pace device desk held ((grouping_at device desk held).joins group) r p)
pace-after device desk (StartGroup fd group) some r p =
    by-starting device (λ (t : DeskTurn). KeepsPace t.desk) (held_by desk fd) desk group (λ errno. p) (λ used ready. start_pace device desk group (used-some desk.groups group used) r p)
pace-after device desk (Close fd) some r p =
    turned_pace device desk (Close fd) fd p (λ held.
    let old : PlayBook = play_at device desk held.slot in
    let rate : Rate = play_rate_at device old in
    by_ways device desk held (own_close device (desk_here device desk))
    (closed_at (drained_in rate (desk_here device desk) old.state old).state desk.mixed (drained_in rate (desk_here device desk) old.state old)
    (drained_at old.state rate (desk_here device desk) desk.mixed old (near-rate device old.opening.settings r.device_is (r.rates held.slot)) (play_slot device desk held.slot p)))
    (record { captured = omega arith; kept = omega arith }) (record { given = omega arith }))
pace-after device desk (Mixer request) some r p = record { playing = p.playing; recording = p.recording; mapped = p.mapped }
pace-after device desk (Intr n) some r p = interrupt_pace device desk n some r p
