-- What an event makes of a channel: nothing, its turn, an opening, or a start with its group.
use Rattle.std.proofs.Common.{◌≡◌, ℕ, ◌<◌, true, Option, Some, None, inl, inr, refl, sym, ap, ◌∙◌, subst, arith}
use Rattle.std.proofs.lemmas.Bool.Decides.{nat_tests}
use Rattle.pcm_desk.specs.Types.{Event, Held, MapBook, PlayBook, RecordBook, Settings, Way}
use Rattle.pcm_oss.specs.declared.event.Event.TheVariants.{Open, StartGroup, Mixer, Intr}
use Rattle.pcm_group.proofs.Members.{used-some}
use Rattle.pcm_desk.specs.Device.{DeviceSeen}
use Rattle.pcm_desk.specs.Channels.{Channel, Mapped, Playing, Recording, channel_begun, is_free, own_turn, starting}
use Rattle.pcm_desk.specs.Desk.{Desk, DeskTurn, after, channel_at, channel_turn, desk_here, group_of, group_started, grouping_at, held_by, least_free, opened_at}
use Rattle.pcm_desk.specs.Own.{descriptor_of}
use Rattle.pcm_desk.proofs.Channels.{at-either, at-other, at-put, channel_named, least-unheld, same-channel, turn-way, way-at, way-begun}
use Rattle.pcm_desk.proofs.Grouping.{by-starting, started-at}
use Rattle.pcm_desk.proofs.Isolation.{channel-passed}
use Rattle.pcm_desk.proofs.Turning.{number_of, by-opening}

-- the book of a channel that plays, of one that records, or of a mapped one; of another way it is the one beside it
abbrev pub playing_or : PlayBook → Channel → PlayBook
playing_or other (Playing book) = book
playing_or other _ = other

abbrev pub recording_or : RecordBook → Channel → RecordBook
recording_or other (Recording book) = book
recording_or other _ = other

abbrev pub mapped_or : MapBook → Channel → MapBook
mapped_or other (Mapped book) = book
mapped_or other _ = other

-- what is so of a channel after an event, where it is so of each that the event may make of it
pub channel-after : (device : DeviceSeen) (desk : Desk) (event : Event) (mine : Held) (P : Channel → Type 0) → P (channel_at device desk mine)
    → P (own_turn device desk.handed (grouping_at device desk mine) event (channel_at device desk mine)).book
    → ((fd : ℕ) (way : Way) (settings : Settings) → event ≡ Open fd way settings → mine.way ≡ way → is_free (channel_at device desk mine) ≡ true → P (channel_begun way settings))
    → ((fd group : ℕ) → event ≡ StartGroup fd group → group_of desk mine ≡ group → P (starting device (desk_here device desk) (channel_at device desk mine)))
    → P (channel_at device (after device desk event).desk mine)
channel-after device desk event mine P same turns begins starts = at event turns begins starts
  where
    own : (event : Event) → P (own_turn device desk.handed (grouping_at device desk mine) event (channel_at device desk mine)).book → P (channel_at device (channel_turn device desk event (Some mine)).desk mine)
    own event t =
        let old : Channel = channel_at device desk mine in
        let new : Channel = (own_turn device desk.handed (grouping_at device desk mine) event old).book in
        let either = at-either device desk mine new (turn-way device desk.handed (grouping_at device desk mine) event old ∙ way-at device desk mine) in
        grind arith

    -- an event of a descriptor
    named : (event : Event) (found : Option Held) → P (own_turn device desk.handed (grouping_at device desk mine) event (channel_at device desk mine)).book → P (channel_at device (channel_turn device desk event found).desk mine)
    named event None t = same
    named event (Some held) t =
        let old : Channel = channel_at device desk held in
        elim (same-channel mine held) [
          | inl is ↦ subst (λ (h : Held). P (channel_at device (channel_turn device desk event (Some h)).desk mine)) is (own event t)
          | inr differ ↦ subst P (sym (at-other device desk held (own_turn device desk.handed (grouping_at device desk held) event old).book mine (turn-way device desk.handed (grouping_at device desk held) event old ∙ way-at device desk held) differ)) same
        ]

    -- an open
    opens : (fd : ℕ) (way : Way) (settings : Settings) (slot : ℕ) → least_free desk way ≡ Some slot → (mine.way ≡ way → is_free (channel_at device desk mine) ≡ true → P (channel_begun way settings)) → P (channel_at device (opened_at desk fd (channel_named way slot) settings) mine)
    opens fd way settings slot found begins =
        let held : Held = channel_named way slot in
        let free = least-unheld device desk way slot found in
        elim (same-channel mine held) [
          | inl is ↦ subst (λ (h : Held). P (channel_at device (opened_at desk fd held settings) h)) (sym is)
              (subst P (sym (at-put device desk held (channel_begun way settings) (way-begun way settings) free.there))
              (begins (ap (λ (h : Held). h.way) is) (ap (λ (h : Held). is_free (channel_at device desk h)) is ∙ free.free)))
          | inr differ ↦ subst P (sym (at-other device desk held (channel_begun way settings) mine (way-begun way settings) differ)) same
        ]

    -- a start of a group
    started : (group : ℕ) → 0 < group → (group_of desk mine ≡ group → P (starting device (desk_here device desk) (channel_at device desk mine))) → P (channel_at device (group_started device desk group) mine)
    started group some starts = let is = started-at device device desk group mine some in grind (arith, nat_tests)

    at : (event : Event) → P (own_turn device desk.handed (grouping_at device desk mine) event (channel_at device desk mine)).book
        → ((fd : ℕ) (way : Way) (settings : Settings) → event ≡ Open fd way settings → mine.way ≡ way → is_free (channel_at device desk mine) ≡ true → P (channel_begun way settings))
        → ((fd group : ℕ) → event ≡ StartGroup fd group → group_of desk mine ≡ group → P (starting device (desk_here device desk) (channel_at device desk mine)))
        → P (channel_at device (after device desk event).desk mine)
    at (Open fd way settings) t b s = by-opening (λ (turn : DeskTurn). P (channel_at device turn.desk mine)) desk fd way settings (λ held e. same) (λ shut. same) (λ slot shut found. opens fd way settings slot found (b fd way settings refl))
    at (StartGroup fd group) t b s = by-starting device (λ (turn : DeskTurn). P (channel_at device turn.desk mine)) (held_by desk fd) desk group (λ errno. same) (λ used ready. started group (used-some desk.groups group used) (s fd group refl))
    at (Mixer request) t b s = same
    at (Intr n) t b s = subst P (sym (channel-passed device desk n mine)) t
    at event t b s = named event (held_by desk (number_of (descriptor_of event))) t
