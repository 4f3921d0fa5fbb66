-- The area of an opening goes by its own events, and by the bytes that its pokes bring.
use Rattle.std.proofs.Common.{◌≡◌, ℕ, ◌+◌, Bool, true, false, cond, List, [], ◌∷◌, Option, Some, refl, sym, ap, ◌∙◌, subst, arith}
use Rattle.std.specs.Prelude.{All, IsErr}
use Rattle.std.proofs.lemmas.Bool.{eqb-true}
use Rattle.std.proofs.lemmas.Bool.Decides.{nat_tests}
use Rattle.std.proofs.lemmas.List.Elements.{All-head, All-tail}
use Rattle.pcm_format.specs.declared.settings.Settings.{Settings}
use Rattle.pcm_oss.specs.declared.event.Event.{Event}
use Rattle.pcm_oss.specs.declared.event.Event.TheVariants.{Open, Write, Poke, Read, Ioctl, Join, StartGroup, Close, Mixer, Intr}
use Rattle.pcm_oss.specs.declared.event.Way.TheVariants.{Map}
use Rattle.pcm_wave.specs.declared.pool.Pool.{Pool}
use Rattle.pcm_wave.specs.declared.pool.Source.TheVariants.{Inline}
use Rattle.pcm_wave.specs.Pools.{bytes_at}
use Rattle.pcm_desk.specs.declared.device.Held.{Held}
use Rattle.pcm_desk.specs.declared.map_book.MapBook.{MapBook}
use Rattle.pcm_desk.specs.Device.{DeviceSeen}
use Rattle.pcm_desk.specs.MapBooks.{map_begun}
use Rattle.pcm_desk.specs.Channels.{Channel, Mapped, channel_begun, own_turn, ungrouped}
use Rattle.pcm_desk.specs.Desk.{Desk, after, channel_at, held_by, map_at, channel_turn}
use Rattle.pcm_desk.specs.Own.{HoldApart}
use Rattle.pcm_desk.specs.OwnEvents.{Opens, closes, concerns, joins, own_events, unnamed}
use Rattle.pcm_desk.specs.Events.{frames_taken}
use Rattle.pcm_desk.proofs.Apart.{apart-after}
use Rattle.pcm_desk.proofs.OwnEvents.{IsMine, IsOther, begun-own, mine-turns, other-stays}
use Rattle.pcm_desk.proofs.Turning.{handed-taken}
use Rattle.pcm_sound.specs.Areas.{holds_map, poked, silent_area, written_by}
use Rattle.pcm_sound.specs.OwnAreas.{bytes_poked, mapped_slot, own_area, own_pokes, own_written}
use Rattle.pcm_sound.specs.Story.{Story, told, told_all}
use Rattle.pcm_sound.proofs.OwnAreas.{area-stays, book_in, held-here, opened-silent, own-goes, same-book, unheld}
use Rattle.pcm_sound.proofs.OwnReplies.{takes-none}

-- ---- an area by itself

-- the area of a channel after events of its own, each with the bytes that it brings
abbrev area_along : DeviceSeen → ℕ → Channel → List ℕ → List Event → List (List ℕ) → List ℕ
area_along device handed channel area [] bytes = area
area_along device handed channel area (event ∷ events) [] = area
area_along device handed channel area (event ∷ events) (bytes ∷ more) =
    area_along device (handed + frames_taken event) (own_turn device handed ungrouped event channel).book (own_area device handed event bytes channel area) events more

-- the number of a descriptor, and where a poke's bytes are found, say nothing to it
along_unnamed : (device : DeviceSeen) (handed : ℕ) (event : Event) (book : MapBook) (area bytes : List ℕ) (events : List Event) (more : List (List ℕ))
    → area_along device handed (Mapped book) area (unnamed event ∷ events) (bytes ∷ more) ≡ area_along device handed (Mapped book) area (event ∷ events) (bytes ∷ more)
along_unnamed device handed (Open fd way settings) book area bytes events more = refl
along_unnamed device handed (Write fd source at count) book area bytes events more = refl
along_unnamed device handed (Poke fd offset at count) book area bytes events more = refl
along_unnamed device handed (Read fd count) book area bytes events more = refl
along_unnamed device handed (Ioctl fd request) book area bytes events more = refl
along_unnamed device handed (Join fd group) book area bytes events more = refl
along_unnamed device handed (StartGroup fd group) book area bytes events more = refl
along_unnamed device handed (Close fd) book area bytes events more = refl
along_unnamed device handed (Mixer request) book area bytes events more = refl
along_unnamed device handed (Intr n) book area bytes events more = refl

-- ---- what an event writes

-- one of its own, or an interrupt
own_writes : (pool : Pool) (desk : Desk) (event : Event) (fd slot : ℕ) (area : List ℕ) → concerns fd event ≡ true → held_by desk fd ≡ Some (mapped_slot slot) → written_by pool desk event slot area ≡ own_written event (bytes_poked pool event) area
own_writes pool desk (Poke at offset from count) fd slot area own m =
    ap (λ (h : Option Held). cond (holds_map h slot) (poked offset (bytes_at pool Inline from count) area) area) (ap (held_by desk) (eqb-true at fd own) ∙ m)
    ∙ ap (λ (b : Bool). cond b (poked offset (bytes_at pool Inline from count) area) area) (held-here slot)
own_writes pool desk _ fd slot area own m = refl

-- one of another
others_write : (pool : Pool) (desk : Desk) (event : Event) (fd slot : ℕ) (area : List ℕ) → concerns fd event ≡ false → HoldApart desk → held_by desk fd ≡ Some (mapped_slot slot) → written_by pool desk event slot area ≡ area
others_write pool desk (Poke at offset from count) fd slot area other h m =
    ap (λ (b : Bool). cond b (poked offset (bytes_at pool Inline from count) area) area)
    (unheld (held_by desk at) slot (λ held. let same : at ≡ fd = h.apart at fd (mapped_slot slot) (mapped_slot slot) held m refl in grind (arith, nat_tests)))
others_write pool desk _ fd slot area other h m = refl

-- a mapped channel joins no group
joins_none : (device : DeviceSeen) (desk : Desk) (event : Event) (fd slot : ℕ) → held_by desk fd ≡ Some (mapped_slot slot) → joins fd event ≡ true → IsErr (after device desk event).reply
joins_none device desk (Join at group) fd slot m own = subst (λ (h : Option Held). IsErr (channel_turn device desk (Join at group) h).reply) (sym (ap (held_by desk) (eqb-true at fd own) ∙ m)) refl
joins_none device desk _ fd slot m own = cc

-- ---- a list of events

-- the area of a story, as it goes on by the own events of a descriptor
abbrev along : DeviceSeen → Pool → Story → ℕ → ℕ → List Event → List ℕ
along device pool story fd slot events = area_along device story.desk.handed (channel_at device story.desk (mapped_slot slot)) (story.areas slot) (own_events fd events) (own_pokes pool fd events)

-- one event, and those after it
along_step : (device : DeviceSeen) (pool : Pool) (story : Story) (event : Event) (events : List Event) (fd slot : ℕ) (own closing : Bool) → concerns fd event ≡ own → closes fd event ≡ closing → closing ≡ false → HoldApart story.desk
    → held_by story.desk fd ≡ Some (mapped_slot slot) → let new : Story = told device pool story event in
    (held_by new.desk fd ≡ Some (mapped_slot slot) → (told_all device pool new events).areas slot ≡ along device pool new fd slot events)
    → (told_all device pool new events).areas slot ≡ area_along device story.desk.handed (channel_at device story.desk (mapped_slot slot)) (story.areas slot)
    (cond own (unnamed event ∷ cond closing [] (own_events fd events)) (own_events fd events)) (cond own (bytes_poked pool event ∷ cond closing [] (own_pokes pool fd events)) (own_pokes pool fd events))
along_step device pool story event events fd slot own true o c still h m rest = cc
along_step device pool story event events fd slot true false o c still h m rest =
    rest (is.holds c)
    ∙ ap (λ (k : ℕ). area_along device k (channel_at device new.desk held) (new.areas slot) own_later bytes_later) (handed-taken device story.desk event)
    ∙ ap (λ (c : Channel). area_along device (story.desk.handed + frames_taken event) c (new.areas slot) own_later bytes_later) is.channel
    ∙ ap (λ (area : List ℕ). area_along device (story.desk.handed + frames_taken event) (own_turn device story.desk.handed ungrouped event channel).book area own_later bytes_later)
    (own-goes device pool story event slot (own_writes pool story.desk event fd slot (story.areas slot) o m) is.channel)
    ∙ sym (along_unnamed device story.desk.handed event (map_at device story.desk slot) (story.areas slot) (bytes_poked pool event) own_later bytes_later)
  where
    held : Held
    held = mapped_slot slot

    channel : Channel
    channel = channel_at device story.desk held

    new : Story
    new = told device pool story event

    own_later : List Event
    own_later = own_events fd events

    bytes_later : List (List ℕ)
    bytes_later = own_pokes pool fd events

    is : IsMine device event held fd story.desk
    is = mine-turns device event story.desk fd held o h m refl
along_step device pool story event events fd slot false false o c still h m rest =
    let held : Held = mapped_slot slot in
    let new : Story = told device pool story event in
    let theirs : IsOther device held fd story.desk new.desk = other-stays device event story.desk fd held o (joins_none device story.desk event fd slot m) h m refl in
    let none : story.desk.handed + frames_taken event ≡ story.desk.handed = (let t = takes-none event fd o in omega arith) in
    rest theirs.holds
    ∙ ap (λ (k : ℕ). area_along device k (channel_at device new.desk held) (new.areas slot) (own_events fd events) (own_pokes pool fd events)) (handed-taken device story.desk event ∙ none)
    ∙ ap (λ (c : Channel). area_along device story.desk.handed c (new.areas slot) (own_events fd events) (own_pokes pool fd events)) theirs.channel
    ∙ ap (λ (area : List ℕ). area_along device story.desk.handed (channel_at device story.desk held) area (own_events fd events) (own_pokes pool fd events))
    (area-stays device pool story event slot (same-book device story.desk new.desk slot theirs.channel) (others_write pool story.desk event fd slot (story.areas slot) o h m))

along_own : (device : DeviceSeen) (pool : Pool) (story : Story) (fd slot : ℕ) (events : List Event) → HoldApart story.desk → held_by story.desk fd ≡ Some (mapped_slot slot) → All (λ (event : Event). closes fd event ≡ false) events
    → (told_all device pool story events).areas slot ≡ along device pool story fd slot events
along_own device pool story fd slot [] h m stays = refl
along_own device pool story fd slot (event ∷ events) h m stays =
    along_step device pool story event events fd slot (concerns fd event) (closes fd event) refl refl (All-head (λ (event : Event). closes fd event ≡ false) event events stays) h m
    (λ holds. along_own device pool (told device pool story event) fd slot events (apart-after device story.desk event h) holds (All-tail (λ (event : Event). closes fd event ≡ false) event events stays))

-- ---- two openings

-- the area of an opening, by itself
opening_area : (device : DeviceSeen) (pool : Pool) (fd slot : ℕ) (settings : Settings) (story : Story) (events : List Event) → HoldApart story.desk → let new : Story = told device pool story (Open fd Map settings) in
    Opens device fd Map settings (mapped_slot slot) story.desk new.desk → All (λ (event : Event). closes fd event ≡ false) events
    → (told_all device pool new events).areas slot ≡ area_along device story.desk.handed (channel_begun Map settings) (silent_area (map_begun settings).opening) (own_events fd events) (own_pokes pool fd events)
opening_area device pool fd slot settings story events h o stays =
    let new : Story = told device pool story (Open fd Map settings) in
    let held : Held = mapped_slot slot in
    let begins = begun-own device fd Map settings held story.desk new.desk o in
    let taken : new.desk.handed ≡ story.desk.handed = (let t = handed-taken device story.desk (Open fd Map settings) in omega arith) in
    let silent : new.areas slot ≡ silent_area (map_begun settings).opening =
    opened-silent device pool story fd Map settings slot o.shut o.holds ∙ ap (λ (c : Channel). silent_area (book_in (map_at device new.desk slot) c).opening) begins in
    along_own device pool new fd slot events (apart-after device story.desk (Open fd Map settings) h) o.holds stays
    ∙ ap (λ (k : ℕ). area_along device k (channel_at device new.desk held) (new.areas slot) (own_events fd events) (own_pokes pool fd events)) taken
    ∙ ap (λ (c : Channel). area_along device story.desk.handed c (new.areas slot) (own_events fd events) (own_pokes pool fd events)) begins
    ∙ ap (λ (area : List ℕ). area_along device story.desk.handed (channel_begun Map settings) area (own_events fd events) (own_pokes pool fd events)) silent

-- Two mapped openings with the same settings, the same events of their own and the same bytes that their pokes bring have the same area.
pub areas-alike : (device : DeviceSeen) (pool more : Pool) (fd at slot place : ℕ) (settings : Settings) (one other : Story) (events others : List Event)
    → one.desk.handed ≡ other.desk.handed → HoldApart one.desk → HoldApart other.desk
    → let new : Story = told device pool one (Open fd Map settings) in let anew : Story = told device more other (Open at Map settings) in
    Opens device fd Map settings (mapped_slot slot) one.desk new.desk → Opens device at Map settings (mapped_slot place) other.desk anew.desk
    → All (λ (event : Event). closes fd event ≡ false) events → All (λ (event : Event). closes at event ≡ false) others
    → own_events fd events ≡ own_events at others → own_pokes pool fd events ≡ own_pokes more at others
    → (told_all device pool new events).areas slot ≡ (told_all device more anew others).areas place
areas-alike device pool more fd at slot place settings one other events others handed h k o p stays still same pokes =
    let channel : Channel = channel_begun Map settings in
    let silent : List ℕ = silent_area (map_begun settings).opening in
    opening_area device pool fd slot settings one events h o stays
    ∙ ap (λ (n : ℕ). area_along device n channel silent (own_events fd events) (own_pokes pool fd events)) handed
    ∙ ap (λ (own : List Event). area_along device other.desk.handed channel silent own (own_pokes pool fd events)) same
    ∙ ap (area_along device other.desk.handed channel silent (own_events at others)) pokes
    ∙ sym (opening_area device more at place settings other others k p still)
