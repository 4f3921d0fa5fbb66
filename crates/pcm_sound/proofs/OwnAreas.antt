-- An event changes at most the area of the channel that its descriptor holds, which goes by its own book and the bytes that its pokes bring.
use Rattle.std.proofs.Common.{◌≡◌, ◌≢◌, ℕ, suc, zero, ◌<◌, Bool, true, false, cond, eqb, List, [], ◌∷◌, length, Option, Some, None, refl, sym, ap, ◌∙◌, subst, arith}
use Rattle.std.specs.Prelude.{not, ◌&&◌, ◌||◌}
use Rattle.std.proofs.lemmas.Bool.{eqb-true}
use Rattle.std.proofs.lemmas.Bool.Decides.{nat_tests}
use Rattle.std.proofs.lemmas.List.{length-replicate, length-set}
use Rattle.pcm_format.specs.declared.settings.Settings.{Settings}
use Rattle.pcm_oss.specs.declared.event.Event.{Event}
use Rattle.pcm_oss.specs.declared.event.Event.TheVariants.{Open, Write, Poke, Read, Ioctl, Join, StartGroup, Close, Mixer, Intr}
use Rattle.pcm_oss.specs.declared.event.Way.{Way}
use Rattle.pcm_oss.specs.declared.event.Way.TheVariants.{Play, Record, Map}
use Rattle.pcm_wave.specs.declared.pool.Pool.{Pool}
use Rattle.pcm_wave.specs.declared.pool.Source.TheVariants.{Inline}
use Rattle.pcm_wave.specs.Pools.{bytes_at}
use Rattle.pcm_desk.specs.declared.device.Held.{Held}
use Rattle.pcm_desk.specs.declared.limits.TheConstants.{DESCRIPTORS}
use Rattle.pcm_desk.specs.declared.map_book.MapBook.{MapBook}
use Rattle.pcm_desk.specs.declared.run_state.RunState.{RunState}
use Rattle.pcm_desk.specs.declared.run_state.RunState.TheVariants.{Free, Setup, Running}
use Rattle.pcm_desk.specs.Device.{DeviceSeen}
use Rattle.pcm_desk.specs.RunStates.{is_unheld}
use Rattle.pcm_desk.specs.MapBooks.{map_refilled_in}
use Rattle.pcm_desk.specs.Channels.{Channel, Mapped, channel_begun, map_mixing, map_rate_at, mixed_by, own_turn, ungrouped, is_free}
use Rattle.pcm_desk.specs.Desk.{Desk, DeskTurn, after, channel_at, desk_at_start, grouping_at, held_by, map_at, open_turn, descriptors_after, channel_turn}
use Rattle.pcm_desk.specs.Own.{GoesByDescriptor, HoldApart, descriptor_of, held_after}
use Rattle.pcm_desk.specs.Events.{IsDescriptor, after_all}
use Rattle.pcm_desk.proofs.Apart.{apart-all, apart-start}
use Rattle.pcm_desk.proofs.Grouping.{by-starting}
use Rattle.pcm_desk.proofs.Isolation.{by-descriptor, named-fd, opened-begins, opened-is}
use Rattle.pcm_desk.proofs.Slots.{map_at-passing}
use Rattle.pcm_desk.proofs.Turning.{by-opening, by-turning}
use Rattle.pcm_sound.specs.Areas.{area_after, holds_map, poked, silences, silent_area, written_by}
use Rattle.pcm_sound.specs.OwnAreas.{ChangesOneArea, area_beside, bytes_poked, held_by_named, held_for, mapped_slot, own_area, own_written}
use Rattle.pcm_sound.specs.Story.{Story, story_at_start, story_of, told}
use Rattle.pcm_sound.proofs.AreaLaws.{area-kept}
use Rattle.pcm_sound.proofs.Together.{desk-told}
use Rattle.pcm_desk.proofs.Channels.{channel_named, least-unheld}

-- ---- what an event writes

-- a slot that a descriptor doesn't hold
pub unheld : (held : Option Held) (slot : ℕ) → held ≢ Some (mapped_slot slot) → holds_map held slot ≡ false
unheld None slot differ = refl
unheld (Some held) slot differ = by_way held.way refl
  where
    at : held.way ≡ Map → (b : Bool) → eqb held.slot slot ≡ b → b ≡ false
    at way false e = refl
    at way true e = absurd (differ (ap (λ (h : Held). Some h) (λ i. record { way = way i; slot = eqb-true held.slot slot e i })))

    by_way : (way : Way) → held.way ≡ way → holds_map (Some (record { way = way; slot = held.slot })) slot ≡ false
    by_way Play is = refl
    by_way Record is = refl
    by_way Map is = at is (eqb held.slot slot) refl

pub held-here : (slot : ℕ) → holds_map (Some (mapped_slot slot)) slot ≡ true
held-here slot = grind (arith, nat_tests)

-- into the area of another channel nothing
writes_none : (pool : Pool) (desk : Desk) (event : Event) (slot : ℕ) (area : List ℕ) → held_for event desk ≢ Some (mapped_slot slot) → written_by pool desk event slot area ≡ area
writes_none pool desk (Poke fd offset at count) slot area differ = ap (λ (b : Bool). cond b (poked offset (bytes_at pool Inline at count) area) area) (unheld (held_by desk fd) slot differ)
writes_none pool desk _ slot area differ = refl

-- into that of its own the bytes that it brings
writes_own : (pool : Pool) (desk : Desk) (event : Event) (slot : ℕ) (area : List ℕ) → held_for event desk ≡ Some (mapped_slot slot) → written_by pool desk event slot area ≡ own_written event (bytes_poked pool event) area
writes_own pool desk (Poke fd offset at count) slot area held =
    ap (λ (h : Option Held). cond (holds_map h slot) (poked offset (bytes_at pool Inline at count) area) area) held
    ∙ ap (λ (b : Bool). cond b (poked offset (bytes_at pool Inline at count) area) area) (held-here slot)
writes_own pool desk _ slot area held = refl

-- ---- one area

-- the book of a mapped channel
abbrev pub book_in : MapBook → Channel → MapBook
book_in other (Mapped book) = book
book_in other channel = other

pub same-book : (device : DeviceSeen) (old new : Desk) (slot : ℕ) → channel_at device new (mapped_slot slot) ≡ channel_at device old (mapped_slot slot) → map_at device new slot ≡ map_at device old slot
same-book device old new slot e = ap (book_in (map_at device old slot)) e

-- where its book stays, and nothing is written into it, it does
pub area-stays : (device : DeviceSeen) (pool : Pool) (story : Story) (event : Event) (slot : ℕ) → map_at device (after device story.desk event).desk slot ≡ map_at device story.desk slot
    → written_by pool story.desk event slot (story.areas slot) ≡ story.areas slot → (told device pool story event).areas slot ≡ story.areas slot
area-stays device pool story event slot same unwritten =
    let old : MapBook = map_at device story.desk slot in
    ap (λ (new : MapBook). area_after pool story.desk event slot old new (story.areas slot)) same
    ∙ ap (λ (b : Bool). cond b (silent_area old.opening) (written_by pool story.desk event slot (story.areas slot))) (area-kept old)
    ∙ unwritten

-- the groups have no part in the book of a mapped channel
alone : (device : DeviceSeen) (desk : Desk) (event : Event) (slot : ℕ) (book : MapBook) → (own_turn device desk.handed (grouping_at device desk (mapped_slot slot)) event (Mapped book)).book ≡ (own_turn device desk.handed ungrouped event (Mapped book)).book
alone device desk (Open fd way settings) slot book = refl
alone device desk (Write fd source at count) slot book = refl
alone device desk (Poke fd offset at count) slot book = refl
alone device desk (Read fd count) slot book = refl
alone device desk (Ioctl fd request) slot book = refl
alone device desk (Join fd group) slot book = refl
alone device desk (StartGroup fd group) slot book = refl
alone device desk (Close fd) slot book = refl
alone device desk (Mixer request) slot book = refl
alone device desk (Intr n) slot book = refl

-- where it goes by an event of its own, its area does
pub own-goes : (device : DeviceSeen) (pool : Pool) (story : Story) (event : Event) (slot : ℕ) → written_by pool story.desk event slot (story.areas slot) ≡ own_written event (bytes_poked pool event) (story.areas slot)
    → let held : Held = mapped_slot slot in let channel : Channel = channel_at device story.desk held in
    channel_at device (after device story.desk event).desk held ≡ (own_turn device story.desk.handed ungrouped event channel).book
    → (told device pool story event).areas slot ≡ own_area device story.desk.handed event (bytes_poked pool event) channel (story.areas slot)
own-goes device pool story event slot written goes =
    let channel : Channel = channel_at device story.desk (mapped_slot slot) in
    ap (λ (new : Channel). area_beside channel new (written_by pool story.desk event slot (story.areas slot))) goes
    ∙ ap (area_beside channel (own_turn device story.desk.handed ungrouped event channel).book) written

-- ---- an opening

-- what an open takes was free
taken_free : (device : DeviceSeen) (desk : Desk) (fd : ℕ) (way : Way) (settings : Settings) (slot : ℕ) → held_by desk fd ≡ None → held_by (open_turn desk fd way settings).desk fd ≡ Some (mapped_slot slot)
    → is_unheld (map_at device desk slot).state ≡ true
taken_free device desk fd way settings slot shut =
    by-opening (λ (turn : DeskTurn). held_by turn.desk fd ≡ Some (mapped_slot slot) → is_unheld (map_at device desk slot).state ≡ true) desk fd way settings
    (λ mine e holds. let none : None ≡ Some (mapped_slot slot) = sym shut ∙ holds in cc)
    (λ _ holds. let none : None ≡ Some (mapped_slot slot) = sym shut ∙ holds in cc)
    (λ taken _ found holds. (let mine : Held = channel_named way taken in
    ap (λ (h : Held). is_free (channel_at device desk h)) (opened-is desk.descriptors fd mine (mapped_slot slot) shut holds) ∙ (least-unheld device desk way taken found).free))

-- its book begins
taken_begins : (device : DeviceSeen) (desk : Desk) (fd : ℕ) (way : Way) (settings : Settings) (slot : ℕ) → held_by desk fd ≡ None → held_by (open_turn desk fd way settings).desk fd ≡ Some (mapped_slot slot)
    → is_unheld (map_at device (open_turn desk fd way settings).desk slot).state ≡ false
taken_begins device desk fd way settings slot shut holds = by_way way (opened-begins device desk fd way settings (mapped_slot slot) shut holds)
  where
    new : MapBook
    new = map_at device (open_turn desk fd way settings).desk slot

    by_way : (w : Way) → Mapped new ≡ channel_begun w settings → is_unheld new.state ≡ false
    by_way Map begun = ap (λ (c : Channel). is_unheld (book_in new c).state) begun
    by_way Play begun = cc
    by_way Record begun = cc

-- so its area is silent
pub opened-silent : (device : DeviceSeen) (pool : Pool) (story : Story) (fd : ℕ) (way : Way) (settings : Settings) (slot : ℕ) → held_by story.desk fd ≡ None → held_by (told device pool story (Open fd way settings)).desk fd ≡ Some (mapped_slot slot)
    → let new : Story = told device pool story (Open fd way settings) in new.areas slot ≡ silent_area (map_at device new.desk slot).opening
opened-silent device pool story fd way settings slot shut holds =
    ap (λ (b : Bool). cond b (silent_area (map_at device (told device pool story (Open fd way settings)).desk slot).opening) (story.areas slot)) anew
  where
    begins : (was is recut : Bool) → was ≡ true → is ≡ false → ((was && not is) || recut) ≡ true
    begins true false recut w i = refl
    begins true true recut w i = cc
    begins false is recut w i = cc

    anew : silences (map_at device story.desk slot) (map_at device (told device pool story (Open fd way settings)).desk slot) ≡ true
    anew = begins _ _ _ (taken_free device story.desk fd way settings slot shut holds) (taken_begins device story.desk fd way settings slot shut holds)

-- what no open takes stays shut
shut_stays : (device : DeviceSeen) (event : Event) (desk : Desk) (fd : ℕ) → descriptor_of event ≡ Some fd → held_by desk fd ≡ None
    → ((way : Way) (settings : Settings) → event ≢ Open fd way settings) → held_by (after device desk event).desk fd ≡ None
shut_stays device (Open at way settings) desk fd n e other = absurd (other way settings (ap (λ (k : ℕ). Open k way settings) (named-fd at fd n)))
shut_stays device (Write at source from count) desk fd n e other = rw (ap (held_by desk) (named-fd at fd n) ∙ e) e
shut_stays device (Poke at offset from count) desk fd n e other = rw (ap (held_by desk) (named-fd at fd n) ∙ e) e
shut_stays device (Read at count) desk fd n e other = rw (ap (held_by desk) (named-fd at fd n) ∙ e) e
shut_stays device (Ioctl at request) desk fd n e other = rw (ap (held_by desk) (named-fd at fd n) ∙ e) e
shut_stays device (Join at group) desk fd n e other = rw (ap (held_by desk) (named-fd at fd n) ∙ e) e
shut_stays device (StartGroup at group) desk fd n e other = cc
shut_stays device (Close at) desk fd n e other = rw (ap (held_by desk) (named-fd at fd n) ∙ e) e
shut_stays device (Mixer request) desk fd n e other = cc
shut_stays device (Intr frames) desk fd n e other = cc

opens_silent : (device : DeviceSeen) (pool : Pool) (story : Story) (event : Event) (fd slot : ℕ) → descriptor_of event ≡ Some fd → held_by story.desk fd ≡ None → held_by (told device pool story event).desk fd ≡ Some (mapped_slot slot)
    → let new : Story = told device pool story event in new.areas slot ≡ silent_area (map_at device new.desk slot).opening
opens_silent device pool story (Open at way settings) fd slot n shut holds =
    let same : fd ≡ at = sym (named-fd at fd n) in
    opened-silent device pool story at way settings slot (ap (held_by story.desk) (sym same) ∙ shut) (ap (held_by (told device pool story (Open at way settings)).desk) (sym same) ∙ holds)
opens_silent device pool story event fd slot n shut holds =
    absurd (let none : None ≡ Some (mapped_slot slot) = sym (shut_stays device event story.desk fd n shut (λ way settings e. cc)) ∙ holds in cc)

-- ---- an event of a descriptor

-- where it is open, it holds what it held, or nothing
still_held : (event : Event) (held other : Held) → held_after event held ≡ Some other → held ≡ other
still_held (Close fd) held other e = cc
still_held _ held other e = ap (λ (o : Option Held). held_or o) e
  where
    held_or : Option Held → Held
    held_or None = held
    held_or (Some h) = h

named : (device : DeviceSeen) (pool : Pool) (story : Story) (event : Event) (fd : ℕ) → descriptor_of event ≡ Some fd → HoldApart story.desk → fd < length story.desk.descriptors
    → ChangesOneArea device pool event story (told device pool story event)
named device pool story event fd n apart there = record {
  own = λ slot held. own-goes device pool story event slot (writes_own pool story.desk event slot (story.areas slot) held)
      ((goes.opened (mapped_slot slot) (sym (is story.desk) ∙ held)).own ∙ alone device story.desk event slot (map_at device story.desk slot));
  opened = λ slot differ holds. was slot (held_by story.desk fd) refl differ (sym (is new.desk) ∙ holds);
  others = λ slot differ apart. area-stays device pool story event slot (stays slot (held_by story.desk fd) refl differ apart) (writes_none pool story.desk event slot (story.areas slot) differ);
}
  where
    new : Story
    new = told device pool story event

    is : (desk : Desk) → held_for event desk ≡ held_by desk fd
    is desk = ap (held_by_named desk) n

    goes : GoesByDescriptor device event story.desk new.desk (after device story.desk event).reply fd
    goes = by-descriptor device event story.desk fd apart n

    was : (slot : ℕ) (mine : Option Held) → held_by story.desk fd ≡ mine → held_for event story.desk ≢ Some (mapped_slot slot) → held_by new.desk fd ≡ Some (mapped_slot slot) → new.areas slot ≡ silent_area (map_at device new.desk slot).opening
    was slot None shut differ holds = opens_silent device pool story event fd slot n shut holds
    was slot (Some mine) holding differ holds =
        absurd (differ (is story.desk ∙ holding ∙ ap (λ (h : Held). Some h) (still_held event mine (mapped_slot slot) (sym (goes.opened mine holding).until ∙ holds))))

    stays : (slot : ℕ) (mine : Option Held) → held_by story.desk fd ≡ mine → held_for event story.desk ≢ Some (mapped_slot slot) → held_for event new.desk ≢ Some (mapped_slot slot) → map_at device new.desk slot ≡ map_at device story.desk slot
    stays slot None shut differ apart = same-book device story.desk new.desk slot ((goes.shut shut).others (mapped_slot slot) there (λ holds. apart (is new.desk ∙ holds)))
    stays slot (Some mine) holding differ apart =
        same-book device story.desk new.desk slot ((goes.opened mine holding).others (mapped_slot slot) (λ same. differ (is story.desk ∙ holding ∙ ap (λ (h : Held). Some h) (sym same))))

-- ---- an event of none

-- an interrupt leaves each area
silences_none : (device : DeviceSeen) (state : RunState) (n : ℕ) (book : MapBook) → book.state ≡ state → silences book (map_refilled_in (map_rate_at device book) state n book) ≡ false
silences_none device Free n book e = area-kept book
silences_none device Setup n book e = area-kept book
silences_none device Running n book e = area-kept book

passed_keeps : (device : DeviceSeen) (frames : ℕ) (book : MapBook) → silences book (map_mixing device frames book) ≡ false
passed_keeps device zero book = area-kept book
passed_keeps device (suc n) book = silences_none device book.state (suc n) book refl

passes : (device : DeviceSeen) (pool : Pool) (story : Story) (n slot : ℕ) → (told device pool story (Intr n)).areas slot ≡ story.areas slot
passes device pool story n slot =
    let old : MapBook = map_at device story.desk slot in
    ap (λ (new : MapBook). area_after pool story.desk (Intr n) slot old new (story.areas slot)) (map_at-passing device story.desk n slot)
    ∙ ap (λ (b : Bool). cond b (silent_area (map_mixing device (mixed_by device story.desk.handed n) old).opening) (story.areas slot)) (passed_keeps device (mixed_by device story.desk.handed n) old)

-- so does a start of a group, which no mapped channel is in
started_same : (device : DeviceSeen) (desk : Desk) (fd group slot : ℕ) → map_at device (after device desk (StartGroup fd group)).desk slot ≡ map_at device desk slot
started_same device desk fd group slot =
    by-starting device (λ (t : DeskTurn). map_at device t.desk slot ≡ map_at device desk slot) (held_by desk fd) desk group (λ errno. refl) (λ used ready. refl)

unnamed_leaves : (device : DeviceSeen) (pool : Pool) (event : Event) (old new : Story) → descriptor_of event ≡ None → ((slot : ℕ) → new.areas slot ≡ old.areas slot) → ChangesOneArea device pool event old new
unnamed_leaves device pool event old new none stays = record {
  own = λ slot held. (let clash : None ≡ Some (mapped_slot slot) = sym (ap (held_by_named old.desk) none) ∙ held in cc);
  opened = λ slot differ held. (let clash : None ≡ Some (mapped_slot slot) = sym (ap (held_by_named new.desk) none) ∙ held in cc);
  others = λ slot differ apart. stays slot;
}

-- ---- any event

pub area-alone : (device : DeviceSeen) (pool : Pool) (story : Story) (event : Event) → HoldApart story.desk → length story.desk.descriptors ≡ DESCRIPTORS → IsDescriptor (descriptor_of event)
    → ChangesOneArea device pool event story (told device pool story event)
area-alone device pool story (Open fd way settings) apart count there = named device pool story (Open fd way settings) fd refl apart (omega (arith, there, count))
area-alone device pool story (Write fd source at size) apart count there = named device pool story (Write fd source at size) fd refl apart (omega (arith, there, count))
area-alone device pool story (Poke fd offset at size) apart count there = named device pool story (Poke fd offset at size) fd refl apart (omega (arith, there, count))
area-alone device pool story (Read fd size) apart count there = named device pool story (Read fd size) fd refl apart (omega (arith, there, count))
area-alone device pool story (Ioctl fd request) apart count there = named device pool story (Ioctl fd request) fd refl apart (omega (arith, there, count))
area-alone device pool story (Join fd group) apart count there = named device pool story (Join fd group) fd refl apart (omega (arith, there, count))
area-alone device pool story (StartGroup fd group) apart count there =
    unnamed_leaves device pool (StartGroup fd group) story (told device pool story (StartGroup fd group)) refl
    (λ slot. area-stays device pool story (StartGroup fd group) slot (started_same device story.desk fd group slot) refl)
area-alone device pool story (Close fd) apart count there = named device pool story (Close fd) fd refl apart (omega (arith, there, count))
area-alone device pool story (Mixer request) apart count there =
    unnamed_leaves device pool (Mixer request) story (told device pool story (Mixer request)) refl
    (λ slot. area-stays device pool story (Mixer request) slot refl refl)
area-alone device pool story (Intr n) apart count there = unnamed_leaves device pool (Intr n) story (told device pool story (Intr n)) refl (passes device pool story n)

-- ---- the descriptors of a desk

-- an event leaves their number
abbrev AsMany : Desk → Desk → Type 0
AsMany old new = length new.descriptors ≡ length old.descriptors

counted_turn : (device : DeviceSeen) (desk : Desk) (event : Event) (fd : ℕ) → length (descriptors_after event desk.descriptors) ≡ length desk.descriptors → AsMany desk (channel_turn device desk event (held_by desk fd)).desk
counted_turn device desk event fd same = by-turning (λ (turn : DeskTurn). AsMany desk turn.desk) device desk event (held_by desk fd) (λ e. refl) (λ held e. same)

counted : (device : DeviceSeen) (desk : Desk) (event : Event) → AsMany desk (after device desk event).desk
counted device desk (Open fd way settings) =
    by-opening (λ (turn : DeskTurn). AsMany desk turn.desk) desk fd way settings (λ held e. refl) (λ shut. refl) (λ slot shut found. length-set desk.descriptors fd (Some (channel_named way slot)))
counted device desk (Write fd source at size) = counted_turn device desk (Write fd source at size) fd refl
counted device desk (Poke fd offset at size) = counted_turn device desk (Poke fd offset at size) fd refl
counted device desk (Read fd size) = counted_turn device desk (Read fd size) fd refl
counted device desk (Ioctl fd request) = counted_turn device desk (Ioctl fd request) fd refl
counted device desk (Join fd group) = counted_turn device desk (Join fd group) fd refl
counted device desk (StartGroup fd group) =
    by-starting device (λ (turn : DeskTurn). AsMany desk turn.desk) (held_by desk fd) desk group (λ errno. refl) (λ used ready. refl)
counted device desk (Close fd) = let shut : Option Held = None in counted_turn device desk (Close fd) fd (length-set desk.descriptors fd shut)
counted device desk (Mixer request) = refl
counted device desk (Intr n) = refl

counted_all : (device : DeviceSeen) (desk : Desk) (events : List Event) → AsMany desk (after_all device desk events)
counted_all device desk [] = refl
counted_all device desk (event ∷ events) = counted_all device (after device desk event).desk events ∙ counted device desk event

-- In every story an event changes at most the area of its own channel.
pub area-in-story : (device : DeviceSeen) (pool : Pool) (events : List Event) (event : Event) → IsDescriptor (descriptor_of event)
    → let story : Story = story_of device pool events in ChangesOneArea device pool event story (told device pool story event)
area-in-story device pool events event there =
    let start : Desk = desk_at_start device in
    let none : Option Held = None in
    let told_is = desk-told device pool (story_at_start device) events in
    area-alone device pool (story_of device pool events) event
    (subst HoldApart (sym told_is) (apart-all device start events (apart-start device)))
    (ap (λ (d : Desk). length d.descriptors) told_is ∙ counted_all device start events ∙ length-replicate DESCRIPTORS none) there
