-- The replies to a client along a list of events depend on its own events alone.
use Rattle.std.proofs.Common.{◌≡◌, ◌≢◌, ℕ, ◌<◌, Bool, true, false, cond, List, [], ◌∷◌, Option, Some, None, ◌⊎◌, inl, inr, Result, Ok, Err, refl, sym, ap, ◌∙◌, subst, arith}
use Rattle.std.specs.Prelude.{All, IsErr, nat_lt}
use Rattle.std.proofs.lemmas.Bool.{cases_eq}
use Rattle.std.proofs.lemmas.Bool.Decides.{nat_tests}
use Rattle.std.proofs.lemmas.List.Elements.{All-head, All-tail}
use Rattle.pcm_desk.specs.Types.{Answer, Errno, Event, Groups, Held, Settings, Turn, Way}
use Rattle.pcm_oss.specs.declared.event.Event.TheVariants.{Open, Join, StartGroup, Mixer, Intr}
use Rattle.pcm_group.specs.Groups.{groups_joined}
use Rattle.pcm_group.proofs.Members.{group-dissolved, group-left, used-some}
use Rattle.pcm_desk.specs.Device.{DeviceSeen, here_at}
use Rattle.pcm_desk.specs.Channels.{Channel, Grouping, channel_begun, own_join, own_turn, ungrouped}
use Rattle.pcm_desk.specs.Desk.{Desk, DeskTurn, after, channel_at, group_of, grouping_at, groups_after, held_by, is_member, with_channel_at}
use Rattle.pcm_desk.specs.Own.{GoesByDescriptor, GoesByEach, HoldApart, IsIsolatedBy, MembersWait, StartsTogether, descriptor_of, held_after}
use Rattle.pcm_desk.specs.OwnEvents.{JoinsNone, Opens, OpensAlone, closes, concerns, joins, own_after, own_events, own_replies, replies_to, unnamed}
use Rattle.pcm_desk.specs.Events.{after_all, frames_taken}
use Rattle.pcm_desk.proofs.Apart.{apart-after}
use Rattle.pcm_desk.proofs.Channels.{put-again}
use Rattle.pcm_desk.proofs.Grouping.{by-starting, is-this}
use Rattle.pcm_desk.proofs.Members.{opened-alone, others-group}
use Rattle.pcm_desk.proofs.Isolation.{isolated, opened-begins}
use Rattle.pcm_desk.proofs.Turning.{number_of, by-turning, handed-taken}

-- ---- one event

-- a channel turns by an event whatever the number of its descriptor, and whatever bytes a write has
unnamed_same : (device : DeviceSeen) (handed : ℕ) (event : Event) (channel : Channel) → own_turn device handed ungrouped (unnamed event) channel ≡ own_turn device handed ungrouped event channel
unnamed_same device handed event channel = grind arith

-- and it takes as many frames
unnamed_taken : (event : Event) → frames_taken (unnamed event) ≡ frames_taken event
unnamed_taken event = grind arith

-- the replies from an event on are the same where it has no descriptor's number
unnamed_replies : (device : DeviceSeen) (handed : ℕ) (event : Event) (channel : Channel) (more : List Event) → own_replies device handed channel (unnamed event ∷ more) ≡ own_replies device handed channel (event ∷ more)
unnamed_replies device handed event channel more = cc (unnamed_same device handed event channel, unnamed_taken event)

unnamed_after : (device : DeviceSeen) (handed : ℕ) (event : Event) (channel : Channel) (more : List Event) → own_after device handed channel (unnamed event ∷ more) ≡ own_after device handed channel (event ∷ more)
unnamed_after device handed event channel more = cc (unnamed_same device handed event channel, unnamed_taken event)

-- an event of another takes no frames
others_take : (event : Event) (fd : ℕ) → concerns fd event ≡ false → frames_taken event ≡ 0
others_take event fd e = grind arith

-- ---- who is in no group

-- what holds of a channel that is in none, after an event
abbrev IsAlone : Desk → Held → Type 0
IsAlone desk held = group_of desk held ≡ 0

alone_is : (group : ℕ) → nat_lt 0 group ≡ false → group ≡ 0
alone_is group e = grind (arith, nat_tests)

member_alone : (group : ℕ) → group ≡ 0 → nat_lt 0 group ≡ false
member_alone group e = grind (arith, nat_tests)

-- what an event leaves of the group of a channel of its own, which joins none
own_group : (event : Event) (fd : ℕ) (held : Held) (grouping : Grouping) (groups : Groups) (old new : Desk) → concerns fd event ≡ true → old.groups ≡ groups → new.groups ≡ groups_after event held grouping groups → IsAlone old held → IsAlone new held
own_group event fd held grouping groups old new mine was is alone = grind (arith, group-left)

-- what holds of a descriptor's channel of no group after an event that isn't its own, and after one of its own, be that a close or not
pub record IsOther (device : DeviceSeen) (held : Held) (fd : ℕ) (old new : Desk) : Type 0 where
  pub channel : channel_at device new held ≡ channel_at device old held
  pub holds : held_by new fd ≡ Some held
  pub alone : IsAlone new held

pub record IsMine (device : DeviceSeen) (event : Event) (held : Held) (fd : ℕ) (old : Desk) : Type 0 where
  pub reply : (after device old event).reply ≡ (own_turn device old.handed ungrouped event (channel_at device old held)).reply
  pub channel : channel_at device (after device old event).desk held ≡ (own_turn device old.handed ungrouped event (channel_at device old held)).book
  pub holds : closes fd event ≡ false → held_by (after device old event).desk fd ≡ Some held
  pub alone : IsAlone (after device old event).desk held

-- an interrupt is answered alike at every desk
told_alike : (device : DeviceSeen) (event : Event) (desk : Desk) (fd : ℕ) (channel : Channel) → descriptor_of event ≡ None → concerns fd event ≡ true → (after device desk event).reply ≡ (own_turn device desk.handed ungrouped event channel).reply
told_alike device event desk fd channel none mine = grind arith

-- an event of its own that is no close leaves what it holds
stays_open : (event : Event) (fd : ℕ) (held : Held) → descriptor_of event ≡ Some fd → closes fd event ≡ false → held_after event held ≡ Some held
stays_open event fd held n e = grind (arith, nat_tests)

-- an event that starts no group
abbrev StartsNone : Event → Type 0
StartsNone (StartGroup at group) = ⊥
StartsNone _ = Unit {0}

mine_starts : (event : Event) (fd : ℕ) → concerns fd event ≡ true → StartsNone event
mine_starts event fd mine = grind arith

named_starts : (event : Event) (fd : ℕ) → descriptor_of event ≡ Some fd → StartsNone event
named_starts event fd n = grind arith

isolated_by : (device : DeviceSeen) (event : Event) (desk : Desk) (named : Option ℕ) → descriptor_of event ≡ named → StartsNone event → HoldApart desk
    → IsIsolatedBy named device event desk (after device desk event).desk (after device desk event).reply
isolated_by device event desk named n starts h =
    subst (λ (o : Option ℕ). IsIsolatedBy o device event desk (after device desk event).desk (after device desk event).reply) n (by_kind event starts)
  where
    by_kind : (event : Event) → StartsNone event → IsIsolatedBy (descriptor_of event) device event desk (after device desk event).desk (after device desk event).reply
    by_kind (StartGroup at group) starts = absurd starts
    by_kind event starts = isolated device event desk h

-- the groups have no part in an event that concerns a channel of none
ungrouped_same : (device : DeviceSeen) (event : Event) (desk : Desk) (fd : ℕ) (held : Held) (channel : Channel) → concerns fd event ≡ true → IsAlone desk held
    → own_turn device desk.handed (grouping_at device desk held) event channel ≡ own_turn device desk.handed ungrouped event channel
ungrouped_same device event desk fd held channel mine alone = grind arith

mine_by : (device : DeviceSeen) (event : Event) (desk : Desk) (fd : ℕ) (held : Held) (named : Option ℕ) → descriptor_of event ≡ named → concerns fd event ≡ true → (named ≡ None) ⊎ (named ≡ Some fd) → HoldApart desk → held_by desk fd ≡ Some held → IsAlone desk held
    → IsMine device event held fd desk
mine_by device event desk fd held named n c (inl none) h e a =
    let goes : GoesByEach device event desk (after device desk event).desk = isolated_by device event desk None (n ∙ none) (mine_starts event fd c) h in
    let same = ungrouped_same device event desk fd held (channel_at device desk held) c a in
    record {
      reply = told_alike device event desk fd (channel_at device desk held) (n ∙ none) c;
      channel = goes.each held ∙ ap (λ (t : Turn Channel). t.book) same;
      holds = λ still. goes.passes fd ∙ e;
      alone = ap (λ (g : Groups). group_of (record desk { groups = g }) held) goes.groups ∙ a;
    }
mine_by device event desk fd held named n c (inr mine) h e a =
    let turned : GoesByDescriptor device event desk (after device desk event).desk (after device desk event).reply fd = isolated_by device event desk (Some fd) (n ∙ mine) (mine_starts event fd c) h in
    let goes = turned.opened held e in
    let same = ungrouped_same device event desk fd held (channel_at device desk held) c a in
    record {
      reply = goes.answer ∙ ap (λ (t : Turn Channel). t.reply) same;
      channel = goes.own ∙ ap (λ (t : Turn Channel). t.book) same;
      holds = λ still. goes.until ∙ stays_open event fd held (n ∙ mine) still;
      alone = own_group event fd held (grouping_at device desk held) desk.groups desk (after device desk event).desk c refl goes.groups a;
    }

-- another descriptor's event leaves the group of this one's channel
theirs_group : (device : DeviceSeen) (event : Event) (desk : Desk) (fd at : ℕ) (held : Held) (mine : Option Held) → held_by desk at ≡ mine → fd ≢ at → HoldApart desk → held_by desk fd ≡ Some held
    → GoesByDescriptor device event desk (after device desk event).desk (after device desk event).reply at → group_of (after device desk event).desk held ≡ group_of desk held
theirs_group device event desk fd at held None m differ h e turned = ap (λ (g : Groups). group_of (record desk { groups = g }) held) (turned.shut m).groups
theirs_group device event desk fd at held (Some mine) m differ h e turned =
    others-group event mine held (grouping_at device desk mine) desk (after device desk event).desk (λ same. differ (h.apart fd at held mine e m same)) (turned.opened mine m).groups

other_by : (device : DeviceSeen) (event : Event) (desk : Desk) (fd at : ℕ) (held : Held) → descriptor_of event ≡ Some at → fd ≢ at → HoldApart desk → held_by desk fd ≡ Some held → IsAlone desk held → IsOther device held fd desk (after device desk event).desk
other_by device event desk fd at held n differ h e a =
    let turned : GoesByDescriptor device event desk (after device desk event).desk (after device desk event).reply at = isolated_by device event desk (Some at) n (named_starts event at n) h in
    record { channel = turned.strangers fd held differ e; holds = turned.holds fd differ ∙ e; alone = theirs_group device event desk fd at held (held_by desk at) refl differ h e turned ∙ a }

-- whose an event is
concerned : (fd : ℕ) (event : Event) → concerns fd event ≡ true → (descriptor_of event ≡ None) ⊎ (descriptor_of event ≡ Some fd)
concerned fd event e = grind (arith, nat_tests)

pub mine-turns : (device : DeviceSeen) (event : Event) (desk : Desk) (fd : ℕ) (held : Held) → concerns fd event ≡ true → HoldApart desk → held_by desk fd ≡ Some held → IsAlone desk held → IsMine device event held fd desk
mine-turns device event desk fd held e h m a = mine_by device event desk fd held (descriptor_of event) refl e (concerned fd event e) h m a

-- a start of a group leaves what is in none
started_leaves : (device : DeviceSeen) (desk new : Desk) (group fd : ℕ) (held : Held) (reply : Result Answer Errno) → StartsTogether device group desk new reply → held_by desk fd ≡ Some held → IsAlone desk held → (IsErr reply ⊎ (0 < group)) → IsOther device held fd desk new
started_leaves device desk new group fd held reply s m a which = let gone = group-dissolved group desk.groups held.way held.slot in grind arith

started_some : (device : DeviceSeen) (desk : Desk) (fd group : ℕ) → IsErr (after device desk (StartGroup fd group)).reply ⊎ (0 < group)
started_some device desk fd group =
    by-starting device (λ (t : DeskTurn). IsErr t.reply ⊎ (0 < group)) (held_by desk fd) desk group (λ errno. inl refl) (λ used ready. inr (used-some desk.groups group used))

-- a refused join leaves all
refused_leaves : (device : DeviceSeen) (desk : Desk) (fd group : ℕ) → IsErr (after device desk (Join fd group)).reply → (after device desk (Join fd group)).desk ≡ desk
refused_leaves device desk fd group = by-turning (λ (t : DeskTurn). IsErr t.reply → t.desk ≡ desk) device desk (Join fd group) (held_by desk fd) (λ e refused. refl) (λ held e. at held ((grouping_at device desk held).joins group))
  where
    at : (held : Held) (result : Result ℕ Errno) → let turn : Turn Channel = own_join device (here_at device desk.handed) result (channel_at device desk held) in
        IsErr turn.reply → record (with_channel_at desk held.slot turn.book) { groups = groups_joined desk.groups held.way held.slot result } ≡ desk
    at held (Err errno) refused = put-again device desk held
    at held (Ok number) refused = cc

pub other-stays : (device : DeviceSeen) (event : Event) (desk : Desk) (fd : ℕ) (held : Held) → concerns fd event ≡ false → (joins fd event ≡ true → IsErr (after device desk event).reply) → HoldApart desk → held_by desk fd ≡ Some held → IsAlone desk held
    → IsOther device held fd desk (after device desk event).desk
other-stays device (Join at group) desk fd held e refused h m a =
    elim (cases_eq at fd) [
      | inl same ↦ rw (refused_leaves device desk at group (refused (is-this at fd same))) (record { channel = refl; holds = m; alone = a })
      | inr differ ↦ other_by device (Join at group) desk fd at held refl (λ same. differ (sym same)) h m a
    ]
other-stays device (StartGroup at group) desk fd held e refused h m a =
    started_leaves device desk (after device desk (StartGroup at group)).desk group fd held (after device desk (StartGroup at group)).reply (isolated device (StartGroup at group) desk h) m a (started_some device desk at group)
other-stays device (Mixer request) desk fd held e refused h m a =
    let goes : GoesByEach device (Mixer request) desk (after device desk (Mixer request)).desk = isolated device (Mixer request) desk h in
    record { channel = goes.each held; holds = goes.passes fd ∙ m; alone = ap (λ (g : Groups). group_of (record desk { groups = g }) held) goes.groups ∙ a }
other-stays device (Intr n) desk fd held e refused h m a = cc
other-stays device event desk fd held e refused h m a = other_by device event desk fd (number_of (descriptor_of event)) held refl (λ same. grind (arith, nat_tests)) h m a

-- ---- a list of events

-- it gives nothing to the device
handed_stays : (device : DeviceSeen) (desk : Desk) (event : Event) (fd : ℕ) → concerns fd event ≡ false → (after device desk event).desk.handed ≡ desk.handed
handed_stays device desk event fd e = let taken = handed-taken device desk event in let none = others_take event fd e in omega (arith, taken, none)

-- an event that isn't its own doesn't close it
pub others-go : (event : Event) (fd : ℕ) → concerns fd event ≡ false → closes fd event ≡ false
others-go event fd e = grind arith

-- the replies to one event and to those after it
replies_step : (device : DeviceSeen) (event : Event) (events : List Event) (desk : Desk) (fd : ℕ) (held : Held) (own closing : Bool) → concerns fd event ≡ own → closes fd event ≡ closing → HoldApart desk → held_by desk fd ≡ Some held → IsAlone desk held
    → (joins fd event ≡ true → IsErr (after device desk event).reply)
    → let new : Desk = (after device desk event).desk in
    (closes fd event ≡ false → held_by new fd ≡ Some held → IsAlone new held → replies_to device fd new events ≡ own_replies device new.handed (channel_at device new held) (own_events fd events))
    → cond own ((after device desk event).reply ∷ cond closing [] (replies_to device fd new events)) (replies_to device fd new events)
    ≡ own_replies device desk.handed (channel_at device desk held) (cond own (unnamed event ∷ cond closing [] (own_events fd events)) (own_events fd events))
replies_step device event events desk fd held true true o c h m a joined rest =
    let told = mine-turns device event desk fd held o h m a in
    let same = unnamed_replies device desk.handed event (channel_at device desk held) [] in
    cc
replies_step device event events desk fd held true false o c h m a joined rest =
    let told = mine-turns device event desk fd held o h m a in
    let more = rest c (told.holds c) told.alone in
    let taken = handed-taken device desk event in
    let same = unnamed_replies device desk.handed event (channel_at device desk held) (own_events fd events) in
    cc
replies_step device event events desk fd held false closing o c h m a joined rest =
    let theirs = other-stays device event desk fd held o joined h m a in
    let more = rest (others-go event fd o) theirs.holds theirs.alone in
    let stays = handed_stays device desk event fd o in
    cc

-- The replies to the client of a descriptor are what its book and its own events say, as long as it joins no group.
pub replies-own : (device : DeviceSeen) (desk : Desk) (fd : ℕ) (held : Held) (events : List Event) → HoldApart desk → held_by desk fd ≡ Some held → is_member desk held ≡ false → JoinsNone device fd desk events
    → replies_to device fd desk events ≡ own_replies device desk.handed (channel_at device desk held) (own_events fd events)
replies-own device desk fd held [] h m a none = refl
replies-own device desk fd held (event ∷ events) h m a none =
    replies_step device event events desk fd held (concerns fd event) (closes fd event) refl refl h m (alone_is (group_of desk held) a) none.0
    (λ still goes alone. replies-own device (after device desk event).desk fd held events (apart-after device desk event h) goes (member_alone (group_of (after device desk event).desk held) alone) (none.1 still))

-- a descriptor that is open still, and its book
record IsAfter (device : DeviceSeen) (fd : ℕ) (held : Held) (new : Desk) (channel : Channel) : Type 0 where
  holds : held_by new fd ≡ Some held
  book : channel_at device new held ≡ channel

-- the book after one event and those after it, of which none is a close
after_step : (device : DeviceSeen) (event : Event) (events : List Event) (desk : Desk) (fd : ℕ) (held : Held) (own closing : Bool) → concerns fd event ≡ own → closes fd event ≡ closing → closing ≡ false → HoldApart desk → held_by desk fd ≡ Some held → IsAlone desk held
    → (joins fd event ≡ true → IsErr (after device desk event).reply)
    → let new : Desk = (after device desk event).desk in
    (held_by new fd ≡ Some held → IsAlone new held → IsAfter device fd held (after_all device new events) (own_after device new.handed (channel_at device new held) (own_events fd events)))
    → IsAfter device fd held (after_all device new events) (own_after device desk.handed (channel_at device desk held) (cond own (unnamed event ∷ cond closing [] (own_events fd events)) (own_events fd events)))
after_step device event events desk fd held own true o c goes h m a joined rest = cc
after_step device event events desk fd held true false o c goes h m a joined rest =
    let told = mine-turns device event desk fd held o h m a in
    let is = rest (told.holds c) told.alone in
    let taken = handed-taken device desk event in
    let same = unnamed_after device desk.handed event (channel_at device desk held) (own_events fd events) in
    record { holds = is.holds; book = cc }
after_step device event events desk fd held false false o c goes h m a joined rest =
    let theirs = other-stays device event desk fd held o joined h m a in
    let is = rest theirs.holds theirs.alone in
    let stays = handed_stays device desk event fd o in
    record { holds = is.holds; book = cc }

after_own : (device : DeviceSeen) (desk : Desk) (fd : ℕ) (held : Held) (events : List Event) → HoldApart desk → held_by desk fd ≡ Some held → IsAlone desk held → JoinsNone device fd desk events → All (λ (event : Event). closes fd event ≡ false) events
    → IsAfter device fd held (after_all device desk events) (own_after device desk.handed (channel_at device desk held) (own_events fd events))
after_own device desk fd held [] h m a none goes = record { holds = m; book = refl }
after_own device desk fd held (event ∷ events) h m a none goes =
    let still : closes fd event ≡ false = All-head (λ (event : Event). closes fd event ≡ false) event events goes in
    after_step device event events desk fd held (concerns fd event) (closes fd event) refl refl still h m a none.0
    (λ holds alone. after_own device (after device desk event).desk fd held events (apart-after device desk event h) holds alone (none.1 still) (All-tail (λ (event : Event). closes fd event ≡ false) event events goes))

-- ---- what a descriptor holds

-- an event that is of its channel leaves it that until a close, and an event of another leaves it
holds_named : (device : DeviceSeen) (event : Event) (desk : Desk) (fd at : ℕ) (held : Held) → descriptor_of event ≡ Some at → HoldApart desk → held_by desk fd ≡ Some held → closes fd event ≡ false
    → held_by (after device desk event).desk fd ≡ Some held
holds_named device event desk fd at held n h m still =
    let turned : GoesByDescriptor device event desk (after device desk event).desk (after device desk event).reply at = isolated_by device event desk (Some at) n (named_starts event at n) h in
    elim (cases_eq fd at) [
      | inl same ↦ (
          let own : descriptor_of event ≡ Some fd = n ∙ ap (λ (k : ℕ). Some k) (sym same) in
          let mine : GoesByDescriptor device event desk (after device desk event).desk (after device desk event).reply fd = isolated_by device event desk (Some fd) own (named_starts event fd own) h in
          (mine.opened held m).until ∙ stays_open event fd held own still)
      | inr differ ↦ turned.holds fd differ ∙ m
    ]

holds_still : (device : DeviceSeen) (event : Event) (desk : Desk) (fd : ℕ) (held : Held) → HoldApart desk → held_by desk fd ≡ Some held → closes fd event ≡ false → held_by (after device desk event).desk fd ≡ Some held
holds_still device (StartGroup at group) desk fd held h m still = (isolated device (StartGroup at group) desk h).passes fd ∙ m
holds_still device (Mixer request) desk fd held h m still = m
holds_still device (Intr n) desk fd held h m still = m
holds_still device event desk fd held h m still = holds_named device event desk fd (number_of (descriptor_of event)) held refl h m still

-- As long as it isn't closed, a descriptor holds its channel,
pub holds-own : (device : DeviceSeen) (desk : Desk) (fd : ℕ) (held : Held) (events : List Event) → HoldApart desk → held_by desk fd ≡ Some held → All (λ (event : Event). closes fd event ≡ false) events
    → held_by (after_all device desk events) fd ≡ Some held
holds-own device desk fd held [] h m goes = m
holds-own device desk fd held (event ∷ events) h m goes =
    holds-own device (after device desk event).desk fd held events (apart-after device desk event h)
    (holds_still device event desk fd held h m (All-head (λ (event : Event). closes fd event ≡ false) event events goes)) (All-tail (λ (event : Event). closes fd event ≡ false) event events goes)

-- whose book is what its own events make of it, as long as it joins no group.
pub book-own : (device : DeviceSeen) (desk : Desk) (fd : ℕ) (held : Held) (events : List Event) → HoldApart desk → held_by desk fd ≡ Some held → is_member desk held ≡ false → JoinsNone device fd desk events → All (λ (event : Event). closes fd event ≡ false) events
    → channel_at device (after_all device desk events) held ≡ own_after device desk.handed (channel_at device desk held) (own_events fd events)
book-own device desk fd held events h m a none goes = (after_own device desk fd held events h m (alone_is (group_of desk held) a) none goes).book

-- ---- two openings

-- the book that an opening begins with
pub begun-own : (device : DeviceSeen) (fd : ℕ) (way : Way) (settings : Settings) (held : Held) (old new : Desk) → Opens device fd way settings held old new → channel_at device new held ≡ channel_begun way settings
begun-own device fd way settings held old new o = let begins = opened-begins device old fd way settings held o.shut (ap (λ (d : Desk). held_by d fd) (sym o.is) ∙ o.holds) in rw o.is begins

apart_opened : (device : DeviceSeen) (fd : ℕ) (way : Way) (settings : Settings) (held : Held) (old new : Desk) → HoldApart old → Opens device fd way settings held old new → HoldApart new
apart_opened device fd way settings held old new h o = subst HoldApart (sym o.is) (apart-after device old (Open fd way settings) h)

-- an opening gives nothing to the device
handed_opened : (device : DeviceSeen) (fd : ℕ) (way : Way) (settings : Settings) (held : Held) (old new : Desk) → Opens device fd way settings held old new → new.handed ≡ old.handed
handed_opened device fd way settings held old new o =
    let taken = handed-taken device old (Open fd way settings) in
    let is = ap (λ (d : Desk). d.handed) o.is in
    omega (arith, is, taken)

-- it is in no group
alone_opened : (device : DeviceSeen) (fd : ℕ) (way : Way) (settings : Settings) (held : Held) (old new : Desk) → MembersWait device old → Opens device fd way settings held old new → is_member new held ≡ false
alone_opened device fd way settings held old new w o =
    subst (λ (d : Desk). is_member d held ≡ false) (sym o.is) (opened-alone device old fd way settings held w o.shut (ap (λ (d : Desk). held_by d fd) (sym o.is) ∙ o.holds))

pub opened-none : (device : DeviceSeen) (fd : ℕ) (way : Way) (settings : Settings) (held : Held) (old new : Desk) → MembersWait device old → Opens device fd way settings held old new → group_of new held ≡ 0
opened-none device fd way settings held old new w o = alone_is (group_of new held) (alone_opened device fd way settings held old new w o)

-- the replies to the events of an opening
opening_told : (device : DeviceSeen) (fd : ℕ) (way : Way) (settings : Settings) (held : Held) (old new : Desk) (events : List Event) → OpensAlone device fd way settings held old new events
    → replies_to device fd new events ≡ own_replies device old.handed (channel_begun way settings) (own_events fd events)
opening_told device fd way settings held old new events a =
    let o = a.opens in
    let told = replies-own device new fd held events (apart_opened device fd way settings held old new a.apart o) o.holds (alone_opened device fd way settings held old new a.waits o) a.joins_none in
    cc (told, begun-own device fd way settings held old new o, handed_opened device fd way settings held old new o)

-- Two openings with the same settings and the same own events get the same replies, where the device had been given as many frames before.
pub alike-told : (device : DeviceSeen) (fd at : ℕ) (way : Way) (settings : Settings) (held theirs : Held) (one new other anew : Desk) (events others : List Event) → one.handed ≡ other.handed
    → OpensAlone device fd way settings held one new events → OpensAlone device at way settings theirs other anew others → own_events fd events ≡ own_events at others
    → replies_to device fd new events ≡ replies_to device at anew others
alike-told device fd at way settings held theirs one new other anew events others level a b same =
    cc (opening_told device fd way settings held one new events a, opening_told device at way settings theirs other anew others b)

opening_book : (device : DeviceSeen) (fd : ℕ) (way : Way) (settings : Settings) (held : Held) (old new : Desk) (events : List Event) → OpensAlone device fd way settings held old new events → All (λ (event : Event). closes fd event ≡ false) events
    → channel_at device (after_all device new events) held ≡ own_after device old.handed (channel_begun way settings) (own_events fd events)
opening_book device fd way settings held old new events a goes =
    let o = a.opens in
    let book = book-own device new fd held events (apart_opened device fd way settings held old new a.apart o) o.holds (alone_opened device fd way settings held old new a.waits o) a.joins_none goes in
    cc (book, begun-own device fd way settings held old new o, handed_opened device fd way settings held old new o)

-- and their books are equal, as long as neither is closed
pub alike-books : (device : DeviceSeen) (fd at : ℕ) (way : Way) (settings : Settings) (held theirs : Held) (one new other anew : Desk) (events others : List Event) → one.handed ≡ other.handed
    → OpensAlone device fd way settings held one new events → OpensAlone device at way settings theirs other anew others
    → All (λ (event : Event). closes fd event ≡ false) events → All (λ (event : Event). closes at event ≡ false) others → own_events fd events ≡ own_events at others
    → channel_at device (after_all device new events) held ≡ channel_at device (after_all device anew others) theirs
alike-books device fd at way settings held theirs one new other anew events others level a b goes still same =
    cc (opening_book device fd way settings held one new events a goes, opening_book device at way settings theirs other anew others b still)
