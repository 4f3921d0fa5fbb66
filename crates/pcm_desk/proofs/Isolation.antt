-- No channel of a desk depends on another, but for those of a group that starts, and no event but its own changes what a descriptor holds.
use Rattle.std.proofs.Common.{◌≡◌, ℕ, ◌<◌, true, false, List, length, set, get_or, Option, Some, None, Result, refl, sym, ap, ◌∙◌, subst, get_or-set_same, get_or-set_other, arith}
use Rattle.std.specs.Prelude.{◌≢◌}
use Rattle.std.proofs.lemmas.Bool.{cases_lt}
use Rattle.std.proofs.lemmas.List.{get_or_past, set_past}
use Rattle.pcm_desk.specs.Types.{Answer, Errno, Event, Held, Settings, Way}
use Rattle.pcm_oss.specs.declared.event.Event.TheVariants.{Open, StartGroup, Mixer, Intr}
use Rattle.pcm_oss.specs.declared.reply.Errno.TheVariants.{BadF, Busy, Exist}
use Rattle.pcm_group.proofs.Members.{used-some}
use Rattle.pcm_desk.specs.Device.{DeviceSeen}
use Rattle.pcm_desk.specs.Channels.{Channel, channel_begun, may_be_held, own_turn, starting}
use Rattle.pcm_desk.specs.Desk.{Desk, DeskTurn, after, channel_at, channel_turn, desk_here, group_of, group_started, grouping_at, held_by, least_free, open_at, open_turn, opened_at, refusing, start_on}
use Rattle.pcm_desk.specs.Own.{GoesAlone, GoesByDescriptor, HoldApart, IsIsolated, StartsTogether, descriptor_of, held_after}
use Rattle.pcm_desk.proofs.Channels.{at-other, at-put, channel_named, least-unheld, turn-way, way-at, way-begun}
use Rattle.pcm_desk.proofs.Grouping.{by-starting, is-other, is-this, started-at}
use Rattle.pcm_desk.proofs.Slots.{map_at-passing, play_at-passing, record_at-capturing}
use Rattle.pcm_desk.proofs.Turning.{number_of, by-opening}

pub named-fd : (at fd : ℕ) → Some at ≡ Some fd → at ≡ fd
named-fd at fd e = cc

-- ---- an event of a descriptor

-- a descriptor that holds something is there
descriptor_there : (desk : Desk) (fd : ℕ) (held : Held) → held_by desk fd ≡ Some held → fd < length desk.descriptors
descriptor_there desk fd held e = let here = cases_lt fd (length desk.descriptors) in grind (arith, get_or_past)

-- an event of its own leaves an open descriptor its channel, but for a close
holds_until : (device : DeviceSeen) (event : Event) (desk : Desk) (fd : ℕ) (held : Held) → descriptor_of event ≡ Some fd → held_by desk fd ≡ Some held → held_by (channel_turn device desk event (Some held)).desk fd ≡ held_after event held
holds_until device event desk fd held n e = let there = descriptor_there desk fd held e in grind (arith, get_or-set_same)

-- of a descriptor that is open: its channel has its turn
alone : (device : DeviceSeen) (event : Event) (desk : Desk) (fd : ℕ) (held : Held) → HoldApart desk → descriptor_of event ≡ Some fd → held_by desk fd ≡ Some held
    → let turn : DeskTurn = channel_turn device desk event (Some held) in GoesAlone device event desk turn.desk turn.reply fd held
alone device event desk fd held h n e =
    let old : Channel = channel_at device desk held in
    let book : Channel = (own_turn device desk.handed (grouping_at device desk held) event old).book in
    let way = turn-way device desk.handed (grouping_at device desk held) event old ∙ way-at device desk held in
    record {
      own = at-put device desk held book way (h.within fd held e);
      answer = refl;
      until = holds_until device event desk fd held n e;
      groups = refl;
      others = λ other differ. at-other device desk held book other way differ;
    }

-- an open descriptor is refused
exists : (device : DeviceSeen) (desk : Desk) (fd : ℕ) (way : Way) (settings : Settings) (held : Held) → held_by desk fd ≡ Some held
    → GoesAlone device (Open fd way settings) desk (refusing desk Exist).desk (refusing desk Exist).reply fd held
exists device desk fd way settings held e = record { own = refl; answer = refl; until = e; groups = refl; others = λ other differ. refl }

-- any event of another descriptor leaves what this one holds
keeps : (device : DeviceSeen) (event : Event) (desk : Desk) (fd other : ℕ) (held : Held) → descriptor_of event ≡ Some fd → other ≢ fd → held_by (channel_turn device desk event (Some held)).desk other ≡ held_by desk other
keeps device event desk fd other held n differ = grind (arith, get_or-set_other)

-- an event that is refused changes nothing, whatever the descriptor holds
refuses : (device : DeviceSeen) (desk : Desk) (event : Event) (fd : ℕ) (turn : DeskTurn) → turn.desk ≡ desk → ((held : Held) → held_by desk fd ≡ Some held → GoesAlone device event desk turn.desk turn.reply fd held)
    → GoesByDescriptor device event desk turn.desk turn.reply fd
refuses device desk event fd turn same goes = grind arith

-- an event of a channel goes by its descriptor
turned : (device : DeviceSeen) (event : Event) (desk : Desk) (fd : ℕ) (found : Option Held) → HoldApart desk → descriptor_of event ≡ Some fd → held_by desk fd ≡ found
    → let turn : DeskTurn = channel_turn device desk event found in GoesByDescriptor device event desk turn.desk turn.reply fd
turned device event desk fd None h n e = refuses device desk event fd (refusing desk BadF) refl (λ held is. let clash : None ≡ Some held = sym e ∙ is in cc)
turned device event desk fd (Some held) h n e = record {
  opened = λ mine is. subst (λ (c : Held). GoesAlone device event desk (channel_turn device desk event (Some held)).desk (channel_turn device desk event (Some held)).reply fd c) (same mine is) (alone device event desk fd held h n e);
  shut = λ none. (let clash : None ≡ Some held = sym none ∙ e in cc);
  holds = λ other differ. keeps device event desk fd other held n differ;
  strangers = λ other theirs differ m. (alone device event desk fd held h n e).others theirs (λ same. differ (h.apart other fd theirs held m e same));
}
  where
    same : (mine : Held) → held_by desk fd ≡ Some mine → held ≡ mine
    same mine is = cc

-- ---- an open

-- it holds the slot that an open took
taken_there : (desk : Desk) (fd : ℕ) (mine other : Held) → fd < length desk.descriptors → get_or (set desk.descriptors fd (Some mine)) fd None ≢ Some other → other ≢ mine
taken_there desk fd mine other there differ = grind (arith, get_or-set_same)

-- no descriptor holds a slot that an open takes
untaken : (device : DeviceSeen) (desk : Desk) (other : ℕ) (theirs held : Held) → HoldApart desk → may_be_held (channel_at device desk held) ≡ false → held_by desk other ≡ Some theirs → theirs ≢ held
untaken device desk other theirs held h free e same = let clash : false ≡ true = sym free ∙ ap (λ (c : Held). may_be_held (channel_at device desk c)) (sym same) ∙ h.taken other theirs device e in cc

-- and one that is accepted begins the channel at the slot that it takes
takes : (device : DeviceSeen) (desk : Desk) (event : Event) (fd : ℕ) (way : Way) (settings : Settings) (slot : ℕ) (reply : Result Answer Errno) → HoldApart desk → held_by desk fd ≡ None → least_free desk way ≡ Some slot
    → GoesByDescriptor device event desk (opened_at desk fd (channel_named way slot) settings) reply fd
takes device desk event fd way settings slot reply h shut found = record {
  opened = λ mine is. (let clash : None ≡ Some mine = sym shut ∙ is in cc);
  shut = λ _. record { others = λ other there differ. leaves other (taken_there desk fd held other there differ); groups = refl };
  holds = λ other differ. get_or-set_other desk.descriptors fd other (Some held) None differ;
  strangers = λ other theirs differ m. leaves theirs (untaken device desk other theirs held h (least-unheld device desk way slot found).unheld m);
}
  where
    held : Held
    held = channel_named way slot

    leaves : (other : Held) → other ≢ held → channel_at device (opened_at desk fd held settings) other ≡ channel_at device desk other
    leaves other differ = at-other device desk held (channel_begun way settings) other (way-begun way settings) differ

opens : (device : DeviceSeen) (desk : Desk) (fd : ℕ) (way : Way) (settings : Settings) → HoldApart desk → let turn : DeskTurn = open_turn desk fd way settings in GoesByDescriptor device (Open fd way settings) desk turn.desk turn.reply fd
opens device desk fd way settings h =
    by-opening (λ (t : DeskTurn). GoesByDescriptor device (Open fd way settings) desk t.desk t.reply fd) desk fd way settings
    (λ held e. refuses device desk (Open fd way settings) fd (refusing desk Exist) refl (λ mine is. exists device desk fd way settings mine is))
    (λ shut. refuses device desk (Open fd way settings) fd (refusing desk Busy) refl (λ mine is. let clash : None ≡ Some mine = sym shut ∙ is in cc))
    (λ slot shut found. takes device desk (Open fd way settings) fd way settings slot (open_at desk fd way settings (Some slot)).reply h shut found)

-- an event of a descriptor
pub by-descriptor : (device : DeviceSeen) (event : Event) (desk : Desk) (fd : ℕ) → HoldApart desk → descriptor_of event ≡ Some fd → GoesByDescriptor device event desk (after device desk event).desk (after device desk event).reply fd
by-descriptor device (Open at way settings) desk fd h n = subst (λ (k : ℕ). GoesByDescriptor device (Open at way settings) desk (open_turn desk at way settings).desk (open_turn desk at way settings).reply k) (named-fd at fd n) (opens device desk at way settings h)
by-descriptor device (StartGroup at group) desk fd h n = cc
by-descriptor device (Mixer request) desk fd h n = cc
by-descriptor device (Intr frames) desk fd h n = cc
by-descriptor device event desk fd h n = let at = number_of (descriptor_of event) in turned device event desk fd (held_by desk at) h n (ap (λ (k : Option ℕ). held_by desk (number_of k)) (sym n))

-- an interrupt goes by each book alone
pub channel-passed : (device : DeviceSeen) (desk : Desk) (frames : ℕ) (held : Held) → channel_at device (after device desk (Intr frames)).desk held ≡ (own_turn device desk.handed (grouping_at device desk held) (Intr frames) (channel_at device desk held)).book
channel-passed device desk frames held = grind (arith, play_at-passing, record_at-capturing, map_at-passing)

-- ---- a start of a group

-- a member starts
member_starts : (device : DeviceSeen) (desk : Desk) (group : ℕ) (held : Held) → 0 < group → group_of desk held ≡ group
    → channel_at device (group_started device desk group) held ≡ starting device (desk_here device desk) (channel_at device desk held)
member_starts device desk group held some is = let b = is-this (group_of desk held) group is in started-at device device desk group held some ∙ grind arith

-- and no other channel changes
pub other-waits : (device : DeviceSeen) (desk : Desk) (group : ℕ) (held : Held) → 0 < group → (group_of desk held ≢ group)
    → channel_at device (group_started device desk group) held ≡ channel_at device desk held
other-waits device desk group held some differ = let b = is-other (group_of desk held) group differ in started-at device device desk group held some ∙ grind arith

starts_together : (device : DeviceSeen) (held : Option Held) (desk : Desk) (group : ℕ) → let turn : DeskTurn = start_on device held desk group in StartsTogether device group desk turn.desk turn.reply
starts_together device held desk group =
    by-starting device (λ (t : DeskTurn). StartsTogether device group desk t.desk t.reply) held desk group
    (λ errno. grind arith)
    (λ used ready. let some : 0 < group = used-some desk.groups group used in record {
      members = λ mine is. member_starts device desk group mine some is;
      groups = refl;
      refused = tt;
      others = λ mine differ. other-waits device desk group mine some differ;
      passes = λ fd. refl;
    })

-- every event leaves the books of a desk to themselves
pub isolated : (device : DeviceSeen) (event : Event) (desk : Desk) → HoldApart desk → IsIsolated device event desk (after device desk event).desk (after device desk event).reply
isolated device (StartGroup fd group) desk hold = starts_together device (held_by desk fd) desk group
isolated device (Mixer request) desk hold = record { each = λ held. grind arith; passes = λ fd. refl; groups = refl }
isolated device (Intr n) desk hold = record { each = channel-passed device desk n; passes = λ fd. refl; groups = refl }
isolated device event desk hold = by-descriptor device event desk (number_of (descriptor_of event)) hold refl

-- ---- an opening

-- the channel that an opened descriptor holds is the one that it was given
pub opened-is : (descriptors : List (Option Held)) (fd : ℕ) (mine held : Held) → get_or descriptors fd None ≡ None → get_or (set descriptors fd (Some mine)) fd None ≡ Some held → held ≡ mine
opened-is descriptors fd mine held shut reads = let here = cases_lt fd (length descriptors) in grind (arith, get_or-set_same, set_past)

pub opened-begins : (device : DeviceSeen) (desk : Desk) (fd : ℕ) (way : Way) (settings : Settings) (held : Held) → held_by desk fd ≡ None → held_by (open_turn desk fd way settings).desk fd ≡ Some held
    → channel_at device (open_turn desk fd way settings).desk held ≡ channel_begun way settings
opened-begins device desk fd way settings held shut =
    by-opening (λ (t : DeskTurn). held_by t.desk fd ≡ Some held → channel_at device t.desk held ≡ channel_begun way settings) desk fd way settings
    (λ mine e. grind arith) (λ _. grind arith)
    (λ slot _ found holds. (let mine : Held = channel_named way slot in
    ap (channel_at device (opened_at desk fd mine settings)) (opened-is desk.descriptors fd mine held shut holds)
    ∙ at-put device desk mine (channel_begun way settings) (way-begun way settings) (least-unheld device desk way slot found).there))
