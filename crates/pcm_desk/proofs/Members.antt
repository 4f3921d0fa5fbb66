-- The members of a group wait for its start, whatever events come; and what opens is a member of none.
use Rattle.std.proofs.Common.{◌≡◌, ℕ, ◌+◌, ◌<◌, Bool, true, false, cond, List, [], ◌∷◌, get_or, replicate, Option, Some, None, inl, inr, Result, Ok, Err, refl, sym, ap, ◌∙◌, subst, arith}
use Rattle.std.specs.Prelude.{◌≢◌, eqb, nat_lt}
use Rattle.std.proofs.lemmas.Bool.{cases_lt}
use Rattle.std.proofs.lemmas.Bool.Decides.{nat_tests}
use Rattle.std.proofs.lemmas.List.{get_or_past, get_or-replicate, length-replicate}
use Rattle.pcm_desk.specs.Types.{Errno, Event, Groups, Held, Here, PlayBook, Request, Settings, Way}
use Rattle.pcm_oss.specs.declared.event.Event.TheVariants.{Open, Write, Poke, Read, Ioctl, Join, StartGroup, Close, Mixer, Intr}
use Rattle.pcm_oss.specs.declared.event.TheConstants.{SLOTS}
use Rattle.pcm_oss.specs.declared.request.Request.TheVariants.{SetTrigger, Sync}
use Rattle.pcm_group.specs.Groups.{group_at, groups_joined, joining, no_groups}
use Rattle.pcm_group.proofs.Members.{group-dissolved, group-left, group-other, used-some}
use Rattle.pcm_desk.specs.Device.{DeviceSeen, here_at, mixed_for}
use Rattle.pcm_desk.specs.Channels.{Channel, Grouping, Playing, channel_begun, join_result, may_be_held, member_refusal, mixed_by, mixing, own_ioctl, own_join, own_poke, own_read, own_request, own_turn, own_write, passing, rests, settling, way_of}
use Rattle.pcm_desk.specs.Desk.{Desk, DeskTurn, after, channel_at, desk_at_start, group_of, group_started, grouping_at, groups_after, held_by, is_member, least_free, leaving, left_by, open_turn, opened_at}
use Rattle.pcm_desk.specs.Own.{GoesByDescriptor, GoesByEach, HoldApart, MembersWait, Waits, descriptor_of, is_waiting}
use Rattle.pcm_desk.specs.Events.{after_all}
use Rattle.pcm_desk.proofs.Apart.{apart-after, apart-start}
use Rattle.pcm_desk.proofs.Grouping.{by-starting}
use Rattle.pcm_desk.proofs.Channels.{at-other, channel_named, least-unheld, same-channel, way-at, way-begun}
use Rattle.pcm_desk.proofs.Isolation.{by-descriptor, isolated, opened-is, other-waits}
use Rattle.pcm_desk.proofs.Turning.{number_of, by-opening}

-- ---- an event of its own

wrote_waits : (here : Here) (count : ℕ) (channel : Channel) → Waits channel → Waits (own_write here count channel).book
wrote_waits here count channel w = grind arith

poked_waits : (offset count : ℕ) (channel : Channel) → Waits channel → Waits (own_poke offset count channel).book
poked_waits offset count channel w = grind arith

read_waits : (count : ℕ) (channel : Channel) → Waits channel → Waits (own_read count channel).book
read_waits count channel w = grind arith

-- a request that leaves a member waiting: any but those that groups have a part in
abbrev Leaves : Request → Type 0
Leaves (SetTrigger bits) = ⊥
Leaves Sync = ⊥
Leaves _ = Unit {0}

asked_waits : (device : DeviceSeen) (here : Here) (request : Request) (channel : Channel) → Leaves request → Waits channel → Waits (own_ioctl device here request channel).book
asked_waits device here request channel l w = grind arith

-- a join sets the trigger off; a mapped channel is a member of no group
joined_waits : (device : DeviceSeen) (new : Desk) (here : Here) (slot number : ℕ) (channel : Channel) → rests channel ≡ true → is_member new (channel_named (way_of channel) slot) ≡ true → Waits (own_join device here (Ok number) channel).book
joined_waits device new here slot number channel r m = grind arith

-- an interrupt passes a member by
mixing_waits : (device : DeviceSeen) (mixed frames : ℕ) (book : PlayBook) → is_waiting book.state ≡ true → mixing device mixed frames book ≡ book
mixing_waits device mixed frames book w = grind arith

settling_waits : (device : DeviceSeen) (handed : ℕ) (book : PlayBook) → is_waiting book.state ≡ true → settling device handed book ≡ book
settling_waits device handed book w = grind arith

passed_waits : (device : DeviceSeen) (handed n : ℕ) (channel : Channel) → Waits channel → Waits (passing device handed n channel)
passed_waits device handed n (Playing book) w =
    let same = mixing_waits device (mixed_for device handed) (mixed_by device handed n) book w.0 in
    subst (λ (b : PlayBook). Waits (Playing (settling device (handed + n) b))) (sym same) (subst (λ (b : PlayBook). Waits (Playing b)) (sym (settling_waits device (handed + n) book w.0)) w)
passed_waits device handed n channel w = grind arith

-- a request, which is refused where groups have a part in it, or leaves a group
requested_waits : (device : DeviceSeen) (request : Request) (held : Held) (desk new : Desk) → new.groups ≡ left_by request held desk.groups → (is_member desk held ≡ true → Waits (channel_at device desk held)) → is_member new held ≡ true
    → Waits (own_request device (here_at device desk.handed) request (member_refusal (is_member desk held) request) (channel_at device desk held)).book
requested_waits device request held desk new is waits member = grind (arith, group-left, asked_waits)

-- what it leaves of a member, where that is a member still
own_waits : (device : DeviceSeen) (event : Event) (held : Held) (desk new : Desk) → descriptor_of event ≢ None → new.groups ≡ groups_after event held (grouping_at device desk held) desk.groups → MembersWait device desk → is_member new held ≡ true
    → Waits (own_turn device desk.handed (grouping_at device desk held) event (channel_at device desk held)).book
own_waits device event held desk new own is waits member = at event own is
  where
    old : desk.groups ≡ new.groups → Waits (channel_at device desk held)
    old same = waits held (ap (λ (g : Groups). nat_lt 0 (group_of (record desk { groups = g }) held)) same ∙ member)

    gone : new.groups ≡ leaving held desk.groups → ⊥
    gone left = let none : group_of new held ≡ 0 = ap (λ (g : Groups). group_of (record new { groups = g }) held) left ∙ group-left desk.groups held.way held.slot in grind (arith, nat_tests)

    joining_by : (result : Result ℕ Errno) (resting : Bool) → rests (channel_at device desk held) ≡ resting → new.groups ≡ groups_joined desk.groups held.way held.slot (join_result result resting)
        → Waits (own_join device (here_at device desk.handed) (join_result result resting) (channel_at device desk held)).book
    joining_by (Err errno) resting r same = old (sym same)
    joining_by (Ok number) true r same = joined_waits device new (here_at device desk.handed) held.slot number (channel_at device desk held) r (ap (λ (way : Way). is_member new (channel_named way held.slot)) (way-at device desk held) ∙ member)
    joining_by (Ok number) false r same = old (sym same)

    at : (event : Event) → descriptor_of event ≢ None → new.groups ≡ groups_after event held (grouping_at device desk held) desk.groups → Waits (own_turn device desk.handed (grouping_at device desk held) event (channel_at device desk held)).book
    at (Open fd way settings) own same = old (sym same)
    at (Write fd source from count) own same = wrote_waits (here_at device desk.handed) count (channel_at device desk held) (old (sym same))
    at (Poke fd offset from count) own same = poked_waits offset count (channel_at device desk held) (old (sym same))
    at (Read fd count) own same = read_waits count (channel_at device desk held) (old (sym same))
    at (Ioctl fd request) own same = requested_waits device request held desk new same (waits held) member
    at (Join fd group) own same = joining_by (joining desk.groups held.way held.slot group) (rests (channel_at device desk held)) refl same
    at (Close fd) own same = absurd (gone same)
    at _ own same = absurd (own refl)

-- ---- the groups of others

-- what an event of one descriptor's channel leaves of the group of another
pub others-group : (event : Event) (mine held : Held) (grouping : Grouping) (old new : Desk) → held ≢ mine → new.groups ≡ groups_after event mine grouping old.groups → group_of new held ≡ group_of old held
others-group event mine held grouping old new differ is = grind (arith, group-other)

-- ---- each event

-- a member is one of the desk before, whose channel is as before
stays_waiting : (device : DeviceSeen) (desk new : Desk) (held : Held) → MembersWait device desk → group_of new held ≡ group_of desk held → channel_at device new held ≡ channel_at device desk held → is_member new held ≡ true → Waits (channel_at device new held)
stays_waiting device desk new held waits group channel member = subst Waits (sym channel) (waits held (ap (nat_lt 0) (sym group) ∙ member))

-- of a descriptor that is open
open_wait : (device : DeviceSeen) (event : Event) (desk : Desk) (fd : ℕ) (mine : Held) → descriptor_of event ≡ Some fd → held_by desk fd ≡ Some mine → HoldApart desk → MembersWait device desk → MembersWait device (after device desk event).desk
open_wait device event desk fd mine n e h waits held member =
    let new : Desk = (after device desk event).desk in
    let turned : GoesByDescriptor device event desk new (after device desk event).reply fd = by-descriptor device event desk fd h n in
    let goes = turned.opened mine e in
    elim (same-channel held mine) [
      | inl same ↦ (
          let own : descriptor_of event ≢ None = λ none. let clash : Some fd ≡ None = sym n ∙ none in cc in
          subst (λ (c : Held). Waits (channel_at device new c)) (sym same)
          (subst Waits (sym goes.own) (own_waits device event mine desk new own goes.groups waits (ap (is_member new) (sym same) ∙ member))))
      | inr differ ↦ stays_waiting device desk new held waits (others-group event mine held (grouping_at device desk mine) desk new differ goes.groups) (goes.others held differ) member
    ]

-- a channel that waits may be held, so what is free is no member
waits_held : (channel : Channel) → Waits channel → may_be_held channel ≡ true
waits_held channel w = grind arith

free_alone : (device : DeviceSeen) (desk : Desk) (held : Held) → may_be_held (channel_at device desk held) ≡ false → MembersWait device desk → is_member desk held ≡ false
free_alone device desk held free waits = let waiting = waits held in grind (arith, waits_held)

-- so an opening is a member of no group
pub opened-alone : (device : DeviceSeen) (desk : Desk) (fd : ℕ) (way : Way) (settings : Settings) (held : Held) → MembersWait device desk → held_by desk fd ≡ None → held_by (open_turn desk fd way settings).desk fd ≡ Some held
    → is_member (open_turn desk fd way settings).desk held ≡ false
opened-alone device desk fd way settings held waits shut =
    by-opening (λ (t : DeskTurn). held_by t.desk fd ≡ Some held → is_member t.desk held ≡ false) desk fd way settings (λ mine e. grind arith) (λ _. grind arith)
    (λ slot _ found holds. rw (opened-is desk.descriptors fd (channel_named way slot) held shut holds) (free_alone device desk (channel_named way slot) (least-unheld device desk way slot found).unheld waits))

-- an open
opening_waits : (device : DeviceSeen) (desk : Desk) (fd : ℕ) (way : Way) (settings : Settings) → MembersWait device desk → MembersWait device (open_turn desk fd way settings).desk
opening_waits device desk fd way settings waits = by-opening (λ (t : DeskTurn). MembersWait device t.desk) desk fd way settings (λ mine e. waits) (λ shut. waits) takes
  where
    takes : (slot : ℕ) → held_by desk fd ≡ None → least_free desk way ≡ Some slot → MembersWait device (opened_at desk fd (channel_named way slot) settings)
    takes slot shut found held member = elim (same-channel held (channel_named way slot)) [
      | inl same ↦ absurd (let none : true ≡ false = sym (ap (is_member desk) (sym same) ∙ member) ∙ free_alone device desk (channel_named way slot) (least-unheld device desk way slot found).unheld waits in cc)
      | inr differ ↦ stays_waiting device desk (opened_at desk fd (channel_named way slot) settings) held waits refl (at-other device desk (channel_named way slot) (channel_begun way settings) held (way-begun way settings) differ) member
    ]

-- of a descriptor that is shut: all but an open is refused
shut_same : (device : DeviceSeen) (event : Event) (desk : Desk) (fd : ℕ) → descriptor_of event ≡ Some fd → held_by desk fd ≡ None → ((at : ℕ) (way : Way) (settings : Settings) → event ≡ Open at way settings → ⊥) → (after device desk event).desk ≡ desk
shut_same device event desk fd n e other = grind arith

own_event_waits : (device : DeviceSeen) (event : Event) (desk : Desk) (fd : ℕ) (held : Option Held) → descriptor_of event ≡ Some fd → held_by desk fd ≡ held → HoldApart desk → MembersWait device desk → MembersWait device (after device desk event).desk
own_event_waits device (Open at way settings) desk fd None n e h waits = opening_waits device desk at way settings waits
own_event_waits device event desk fd None n e h waits = subst (MembersWait device) (sym (shut_same device event desk fd n e (λ at way settings. (λ same. cc)))) waits
own_event_waits device event desk fd (Some mine) n e h waits = open_wait device event desk fd mine n e h waits

-- a start of a group
started_waits_on : (device : DeviceSeen) (desk : Desk) (group : ℕ) → 0 < group → MembersWait device desk → MembersWait device (group_started device desk group)
started_waits_on device desk group some waits held member = at (eqb (group_of desk held) group) refl
  where
    is : group_of (group_started device desk group) held ≡ cond (eqb (group_of desk held) group) 0 (group_of desk held)
    is = group-dissolved group desk.groups held.way held.slot

    at : (b : Bool) → eqb (group_of desk held) group ≡ b → Waits (channel_at device (group_started device desk group) held)
    at true e = absurd (let none : group_of (group_started device desk group) held ≡ 0 = is ∙ ap (λ (b : Bool). cond b 0 (group_of desk held)) e in grind (arith, nat_tests))
    at false e =
        let differ : group_of desk held ≢ group = λ same. grind (arith, nat_tests) in
        stays_waiting device desk (group_started device desk group) held waits (is ∙ ap (λ (b : Bool). cond b 0 (group_of desk held)) e) (other-waits device desk group held some differ) member

-- Each member of a group waits after every event.
pub waits-after : (device : DeviceSeen) (desk : Desk) (event : Event) → HoldApart desk → MembersWait device desk → MembersWait device (after device desk event).desk
waits-after device desk (StartGroup fd group) h waits =
    by-starting device (λ (t : DeskTurn). MembersWait device t.desk) (held_by desk fd) desk group (λ errno. waits) (λ used ready. started_waits_on device desk group (used-some desk.groups group used) waits)
waits-after device desk (Mixer request) h waits = λ held member.
    let goes : GoesByEach device (Mixer request) desk (after device desk (Mixer request)).desk = isolated device (Mixer request) desk h in
    subst Waits (sym (goes.each held)) (waits held member)
waits-after device desk (Intr n) h waits = λ held member.
    let goes : GoesByEach device (Intr n) desk (after device desk (Intr n)).desk = isolated device (Intr n) desk h in
    subst Waits (sym (goes.each held)) (passed_waits device desk.handed n (channel_at device desk held) (waits held member))
waits-after device desk event h waits = let fd = number_of (descriptor_of event) in own_event_waits device event desk fd (held_by desk fd) refl refl h waits

-- and after any events
waits_all : (device : DeviceSeen) (desk : Desk) (events : List Event) → HoldApart desk → MembersWait device desk → MembersWait device (after_all device desk events)
waits_all device desk [] h waits = waits
waits_all device desk (event ∷ events) h waits = waits_all device (after device desk event).desk events (apart-after device desk event h) (waits-after device desk event h waits)

-- before the first event there is none
none_at_start : (slot : ℕ) → let none : List ℕ = replicate SLOTS 0 in get_or none slot 0 ≡ 0
none_at_start slot =
    let nothing : ℕ = 0 in
    let here = cases_lt slot SLOTS in
    grind (arith, get_or-replicate, get_or_past, length-replicate)

alone_at_start : (way : Way) (slot : ℕ) → group_at no_groups way slot ≡ 0
alone_at_start way slot = grind (arith, none_at_start)

-- nor at any desk without a group
pub waits-none : (device : DeviceSeen) (desk : Desk) → desk.groups ≡ no_groups → MembersWait device desk
waits-none device desk is = λ held member.
    absurd (let none : group_of desk held ≡ 0 = ap (λ (g : Groups). group_at g held.way held.slot) is ∙ alone_at_start held.way held.slot in grind (arith, nat_tests))

pub waits-start : (device : DeviceSeen) → MembersWait device (desk_at_start device)
waits-start device = waits-none device (desk_at_start device) refl

pub waits-always : (device : DeviceSeen) (events : List Event) → MembersWait device (after_all device (desk_at_start device) events)
waits-always device events = waits_all device (desk_at_start device) events (apart-start device) (waits-start device)
