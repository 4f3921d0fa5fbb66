-- Two open descriptors never hold one channel, whatever events come.
use Rattle.std.proofs.Common.{◌≡◌, ◌≢◌, ℕ, ◌<◌, ◌≤◌, Bool, true, false, cond, List, [], ◌∷◌, length, set, get_or, replicate, Option, Some, None, ◌⊎◌, inl, inr, refl, sym, ap, ◌∙◌, subst, arith, get_or-set_same, get_or-set_other}
use Rattle.std.specs.Prelude.{eqb}
use Rattle.std.proofs.lemmas.Bool.{cases_lt, cases_eq}
use Rattle.std.proofs.lemmas.List.{get_or_past, get_or-map, get_or-replicate, length-map, length-replicate, set_past}
use Rattle.pcm_desk.specs.Types.{Event, Groups, Held, Settings, Way}
use Rattle.pcm_oss.specs.declared.event.Event.TheVariants.{Open, StartGroup, Close, Mixer, Intr}
use Rattle.pcm_group.proofs.Members.{length-change_in, used-some}
use Rattle.pcm_desk.specs.declared.limits.TheConstants.{DESCRIPTORS}
use Rattle.pcm_desk.specs.Device.{DeviceSeen}
use Rattle.pcm_desk.specs.Channels.{Channel, Grouping, channel_begun, may_be_held, own_turn, passing, starting, way_of}
use Rattle.pcm_desk.specs.Desk.{Desk, DeskTurn, after, channel_at, channel_turn, desk_at_start, desk_here, group_of, group_started, grouping_at, held_by, interrupt_turn, opened_at, with_channel_at}
use Rattle.pcm_desk.specs.Events.{after_all}
use Rattle.pcm_desk.specs.Own.{HoldApart, descriptor_of, slots_of}
use Rattle.pcm_desk.proofs.Channels.{ClosesNone, at-other, at-put, begun-held, channel_named, least-unheld, passing-held, same-channel, slots-put, starting-held, turn-held, turn-way, way-at, way-begun}
use Rattle.pcm_desk.proofs.Grouping.{by-starting, started-at}
use Rattle.pcm_desk.proofs.Turning.{number_of, by-opening, by-turning}

-- ---- channels

-- a channel is there and may be held
record IsTaken (desk : Desk) (held : Held) : Type 0 where
  within : held.slot < slots_of desk held.way
  may : (device : DeviceSeen) → may_be_held (channel_at device desk held) ≡ true

-- each descriptor holds one
taken : (desk : Desk) (fd : ℕ) (held : Held) → HoldApart desk → held_by desk fd ≡ Some held → IsTaken desk held
taken desk fd held h e = record { within = h.within fd held e; may = λ device. h.taken fd held device e }

-- which is all that descriptors are to hold
hold_apart : (desk : Desk) → ((fd : ℕ) (held : Held) → held_by desk fd ≡ Some held → IsTaken desk held)
    → ((fd other : ℕ) (held theirs : Held) → held_by desk fd ≡ Some held → held_by desk other ≡ Some theirs → held ≡ theirs → fd ≡ other)
    → HoldApart desk
hold_apart desk each apart = record {
  within = λ fd held there. (each fd held there).within;
  taken = λ fd held device there. (each fd held there).may device;
  apart = apart;
}

-- the descriptors stay, and each channel that may be held may be so still
moved : (desk new : Desk) → ((fd : ℕ) → held_by new fd ≡ held_by desk fd) → ((held : Held) → IsTaken desk held → IsTaken new held) → HoldApart desk → HoldApart new
moved desk new same moves h =
    hold_apart new (λ fd held there. moves held (taken desk fd held h (sym (same fd) ∙ there)))
    (λ fd other held theirs there here. h.apart fd other held theirs (sym (same fd) ∙ there) (sym (same other) ∙ here))

-- a channel that was put at a slot, be it one that may be held
put_taken : (desk : Desk) (held : Held) (channel : Channel) → way_of channel ≡ held.way → held.slot < slots_of desk held.way → may_be_held channel ≡ true → IsTaken (with_channel_at desk held.slot channel) held
put_taken desk held channel is there may = grind (arith, at-put, slots-put)

-- leaves every other
other_taken : (desk : Desk) (held : Held) (channel : Channel) (other : Held) → way_of channel ≡ held.way → other ≢ held → IsTaken desk other → IsTaken (with_channel_at desk held.slot channel) other
other_taken desk held channel other is differ t = grind (arith, at-other, slots-put)

-- and so each that may be held, where it may be so itself
either_taken : (desk : Desk) (held : Held) (channel : Channel) (other : Held) → way_of channel ≡ held.way → may_be_held channel ≡ true → IsTaken desk other → IsTaken (with_channel_at desk held.slot channel) other
either_taken desk held channel other is may t =
    elim (same-channel other held) [
      | inl same ↦ subst (IsTaken (with_channel_at desk held.slot channel)) (sym same) (put_taken desk held channel is (subst (λ (c : Held). c.slot < slots_of desk c.way) same t.within) may)
      | inr differ ↦ other_taken desk held channel other is differ t
    ]

-- ---- a descriptor that is set

-- what stands at a descriptor, one of which was set
reads : (descriptors : List (Option Held)) (at fd : ℕ) (put : Option Held) (held : Held) → get_or (set descriptors at put) fd None ≡ Some held
    → ((fd ≡ at) × (put ≡ Some held)) ⊎ ((get_or descriptors fd None ≡ Some held) × (fd ≡ at → length descriptors ≤ at))
reads descriptors at fd put held e = let same = cases_eq fd at in let here = cases_lt at (length descriptors) in grind (arith, get_or-set_same, get_or-set_other, set_past)

-- each channel but this one may be held as before
abbrev Spares : Desk → Desk → Held → Type 0
Spares desk new held = (other : Held) → other ≢ held → IsTaken desk other → IsTaken new other

-- a descriptor is shut
shut : (desk new : Desk) (fd : ℕ) (held : Held) → held_by desk fd ≡ Some held → new.descriptors ≡ set desk.descriptors fd None → Spares desk new held → HoldApart desk → HoldApart new
shut desk new fd held e put spares h =
    hold_apart new (λ d mine there. spares mine (λ same. (was d mine there).1 (h.apart d fd mine held (was d mine there).0 e same)) (taken desk d mine h (was d mine there).0))
    (λ d other mine theirs there here. h.apart d other mine theirs (was d mine there).0 (was other theirs here).0)
  where
    -- the descriptor is there, since it holds something
    there_is : fd < length desk.descriptors
    there_is = let here = cases_lt fd (length desk.descriptors) in grind (arith, get_or_past)

    -- what is open still was open before, and is another
    was : (d : ℕ) (mine : Held) → held_by new d ≡ Some mine → (held_by desk d ≡ Some mine) × (d ≢ fd)
    was d mine there = let read = reads desk.descriptors fd d None mine (ap (λ (l : List (Option Held)). get_or l d None) (sym put) ∙ there) in grind (arith, there_is)

-- a descriptor is opened, with a channel that none holds
is_opened : (desk new : Desk) (fd : ℕ) (held : Held) → new.descriptors ≡ set desk.descriptors fd (Some held) → IsTaken new held → (IsTaken desk held → ⊥) → Spares desk new held → HoldApart desk → HoldApart new
is_opened desk new fd held put has free spares h = hold_apart new each apart
  where
    -- what stands at a descriptor is the new channel at this one, or what stood there
    at : (d : ℕ) (mine : Held) → held_by new d ≡ Some mine → ((d ≡ fd) × (held ≡ mine)) ⊎ (held_by desk d ≡ Some mine)
    at d mine there = let read = reads desk.descriptors fd d (Some held) mine (ap (λ (l : List (Option Held)). get_or l d None) (sym put) ∙ there) in grind arith

    differ : (d : ℕ) (mine : Held) → held_by desk d ≡ Some mine → mine ≢ held
    differ d mine there same = free (subst (IsTaken desk) same (taken desk d mine h there))

    each : (d : ℕ) (mine : Held) → held_by new d ≡ Some mine → IsTaken new mine
    each d mine there = elim (at d mine there) [
      | inl is ↦ subst (IsTaken new) is.1 has
      | inr old ↦ spares mine (differ d mine old) (taken desk d mine h old)
    ]

    apart : (d other : ℕ) (mine theirs : Held) → held_by new d ≡ Some mine → held_by new other ≡ Some theirs → mine ≡ theirs → d ≡ other
    apart d other mine theirs there here same =
        let first = at d mine there in
        let second = at other theirs here in
        let mine_differs = differ d mine in
        let theirs_differs = differ other theirs in
        let both = h.apart d other mine theirs in
        grind arith

-- ---- each event

-- an open
opens : (device : DeviceSeen) (desk : Desk) (fd : ℕ) (way : Way) (settings : Settings) (slot : ℕ) → may_be_held (channel_at device desk (channel_named way slot)) ≡ false → slot < slots_of desk way → HoldApart desk
    → HoldApart (opened_at desk fd (channel_named way slot) settings)
opens device desk fd way settings slot unheld there h =
    is_opened desk (opened_at desk fd held settings) fd held refl (record { within = put.within; may = put.may }) (λ t. let clash : true ≡ false = sym (t.may device) ∙ unheld in cc) spares h
  where
    held : Held
    held = channel_named way slot

    put : IsTaken (with_channel_at desk slot (channel_begun way settings)) held
    put = put_taken desk held (channel_begun way settings) (way-begun way settings) there (begun-held way settings)

    spares : Spares desk (opened_at desk fd held settings) held
    spares other differ t = let spared = other_taken desk held (channel_begun way settings) other (way-begun way settings) differ t in record { within = spared.within; may = spared.may }

-- an event of an open descriptor, that doesn't close it
turned : (device : DeviceSeen) (desk : Desk) (event : Event) (fd : ℕ) (held : Held) → ClosesNone event → (channel_turn device desk event (Some held)).desk.descriptors ≡ desk.descriptors → held_by desk fd ≡ Some held → HoldApart desk
    → HoldApart (channel_turn device desk event (Some held)).desk
turned device desk event fd held none same e h = moved desk (channel_turn device desk event (Some held)).desk (λ other. ap (λ (l : List (Option Held)). get_or l other None) same) moves h
  where
    grouping : Grouping
    grouping = grouping_at device desk held

    old : Channel
    old = channel_at device desk held

    moves : (other : Held) → IsTaken desk other → IsTaken (channel_turn device desk event (Some held)).desk other
    moves other t =
        let put = either_taken desk held (own_turn device desk.handed grouping event old).book other (turn-way device desk.handed grouping event old ∙ way-at device desk held) (turn-held device desk.handed grouping event old none (h.taken fd held device e)) t in
        record { within = put.within; may = put.may }

-- of any descriptor
turns : (device : DeviceSeen) (desk : Desk) (event : Event) (fd : ℕ) → ClosesNone event → ((held : Held) → (channel_turn device desk event (Some held)).desk.descriptors ≡ desk.descriptors) → HoldApart desk
    → HoldApart (channel_turn device desk event (held_by desk fd)).desk
turns device desk event fd none same h = by-turning (λ (t : DeskTurn). HoldApart t.desk) device desk event (held_by desk fd) (λ e. h) (λ held e. turned device desk event fd held none (same held) e h)

-- a close
closes : (device : DeviceSeen) (desk : Desk) (fd : ℕ) → HoldApart desk → HoldApart (channel_turn device desk (Close fd) (held_by desk fd)).desk
closes device desk fd h = by-turning (λ (t : DeskTurn). HoldApart t.desk) device desk (Close fd) (held_by desk fd) (λ e. h) (λ held e. shut desk (channel_turn device desk (Close fd) (Some held)).desk fd held e refl (spares held) h)
  where
    spares : (held : Held) → Spares desk (channel_turn device desk (Close fd) (Some held)).desk held
    spares held other differ t =
        let grouping : Grouping = grouping_at device desk held in
        let old : Channel = channel_at device desk held in
        let spared = other_taken desk held (own_turn device desk.handed grouping (Close fd) old).book other (turn-way device desk.handed grouping (Close fd) old ∙ way-at device desk held) differ t in
        record { within = spared.within; may = spared.may }

-- the groups have no part in which descriptor holds which channel
pub regrouped : (desk : Desk) (groups : Groups) → HoldApart desk → HoldApart (record desk { groups = groups })
regrouped desk groups h = grind arith

-- a start of a group
slots_started : (device : DeviceSeen) (desk : Desk) (group : ℕ) (way : Way) → slots_of (group_started device desk group) way ≡ slots_of desk way
slots_started device desk group way = grind (arith, length-change_in)

started : (device : DeviceSeen) (desk : Desk) (group : ℕ) → 0 < group → HoldApart desk → HoldApart (group_started device desk group)
started device desk group some h = moved desk (group_started device desk group) (λ fd. refl) (λ held t. record { within = within held t.within; may = may held t }) h
  where
    within : (held : Held) → held.slot < slots_of desk held.way → held.slot < slots_of (group_started device desk group) held.way
    within held there = omega (arith, slots_started device desk group held.way)

    may : (held : Held) → IsTaken desk held → (seen : DeviceSeen) → may_be_held (channel_at seen (group_started device desk group) held) ≡ true
    may held t seen =
        let old = t.may seen in
        let new = starting-held device (desk_here device desk) (channel_at seen desk held) old in
        let either : (b : Bool) → may_be_held (cond b (starting device (desk_here device desk) (channel_at seen desk held)) (channel_at seen desk held)) ≡ true = λ b. grind arith in
        ap may_be_held (started-at seen device desk group held some) ∙ either (eqb (group_of desk held) group)

-- an interrupt
slots_passed : (device : DeviceSeen) (n : ℕ) (desk : Desk) (way : Way) → slots_of (interrupt_turn device desk n).desk way ≡ slots_of desk way
slots_passed device n desk way = grind (arith, length-map)

passes : (seen device : DeviceSeen) (n : ℕ) (desk : Desk) (held : Held) → held.slot < slots_of desk held.way → channel_at seen (interrupt_turn device desk n).desk held ≡ passing device desk.handed n (channel_at seen desk held)
passes seen device n desk held there = grind (arith, get_or-map)

passed : (device : DeviceSeen) (n : ℕ) (desk : Desk) → HoldApart desk → HoldApart (interrupt_turn device desk n).desk
passed device n desk h = moved desk (interrupt_turn device desk n).desk (λ fd. refl) (λ held t. record { within = within held t.within; may = may held t }) h
  where
    within : (held : Held) → held.slot < slots_of desk held.way → held.slot < slots_of (interrupt_turn device desk n).desk held.way
    within held there = omega (arith, slots_passed device n desk held.way)

    may : (held : Held) → IsTaken desk held → (seen : DeviceSeen) → may_be_held (channel_at seen (interrupt_turn device desk n).desk held) ≡ true
    may held t seen = ap may_be_held (passes seen device n desk held t.within) ∙ passing-held device desk.handed n (channel_at seen desk held) (t.may seen)

-- Two descriptors hold two channels after every event.
pub apart-after : (device : DeviceSeen) (desk : Desk) (event : Event) → HoldApart desk → HoldApart (after device desk event).desk
apart-after device desk (Open fd way settings) h =
    by-opening (λ (t : DeskTurn). HoldApart t.desk) desk fd way settings (λ held e. h) (λ shut. h)
    (λ slot shut found. let free = least-unheld device desk way slot found in opens device desk fd way settings slot free.unheld free.there h)
apart-after device desk (StartGroup fd group) h = by-starting device (λ (t : DeskTurn). HoldApart t.desk) (held_by desk fd) desk group (λ errno. h) (λ used ready. started device desk group (used-some desk.groups group used) h)
apart-after device desk (Close fd) h = closes device desk fd h
apart-after device desk (Mixer request) h = record { within = h.within; taken = h.taken; apart = h.apart }
apart-after device desk (Intr n) h = passed device n desk h
apart-after device desk event h = turns device desk event (number_of (descriptor_of event)) tt (λ held. refl) h

-- and after any events
pub apart-all : (device : DeviceSeen) (desk : Desk) (events : List Event) → HoldApart desk → HoldApart (after_all device desk events)
apart-all device desk [] h = h
apart-all device desk (event ∷ events) h = apart-all device (after device desk event).desk events (apart-after device desk event h)

-- a desk with no open descriptor
pub apart-shut : (desk : Desk) → ((fd : ℕ) (held : Held) → held_by desk fd ≡ Some held → ⊥) → HoldApart desk
apart-shut desk none = grind arith

-- before the first event
none_held : (n fd : ℕ) (held : Held) → get_or (replicate {A = Option Held} n None) fd None ≡ Some held → ⊥
none_held n fd held there =
    let here = cases_lt fd n in
    let long : length (replicate {A = Option Held} n None) ≡ n = length-replicate n None in
    grind (arith, get_or-replicate, get_or_past)

pub apart-start : (device : DeviceSeen) → HoldApart (desk_at_start device)
apart-start device = apart-shut (desk_at_start device) (none_held DESCRIPTORS)
