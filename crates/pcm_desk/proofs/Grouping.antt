-- What is so of a desk after a start of a group, where it is so of each desk that it may lead to; and the channels then.
use Rattle.std.proofs.Common.{◌≡◌, ℕ, ◌<◌, Bool, true, false, cond, length, get_or, Option, Ok, ap, ◌∙◌, arith}
use Rattle.std.specs.Prelude.{eqb}
use Rattle.std.proofs.lemmas.Bool.{cases_lt}
use Rattle.std.proofs.lemmas.Bool.Decides.{nat_tests}
use Rattle.std.proofs.lemmas.List.{get_or_past}
use Rattle.pcm_desk.specs.Types.{Errno, Held, Way}
use Rattle.pcm_oss.specs.declared.event.Way.TheVariants.{Play, Record, Map}
use Rattle.pcm_oss.specs.declared.reply.Answer.TheVariants.{Done}
use Rattle.pcm_group.specs.Groups.{all_in, is_used}
use Rattle.pcm_group.proofs.Members.{get_or-change_in, length-change_in}
use Rattle.pcm_desk.specs.Device.{DeviceSeen}
use Rattle.pcm_desk.specs.PlayBooks.{play_is_ready}
use Rattle.pcm_desk.specs.Channels.{Playing, Recording, play_starting, record_starting, starting}
use Rattle.pcm_desk.specs.Desk.{Desk, DeskTurn, channel_at, desk_here, group_of, group_started, play_at, record_at, refusing, start_on}

-- a start is refused, or all members start
pub by-starting : (device : DeviceSeen) (D : DeskTurn → Type 0) (held : Option Held) (desk : Desk) (group : ℕ) → ((errno : Errno) → D (refusing desk errno))
    → (is_used desk.groups group ≡ true → all_in group play_is_ready desk.groups.play desk.play ≡ true → D (record { desk = group_started device desk group; reply = Ok Done }))
    → D (start_on device held desk group)
by-starting device D held desk group same starts = grind arith

-- the book of a slot: it has started where the slot is a member
pub play_at-started : (seen device : DeviceSeen) (desk : Desk) (group slot : ℕ) → 0 < group
    → play_at seen (group_started device desk group) slot ≡ cond (eqb (get_or desk.groups.play slot 0) group) (play_starting device (desk_here device desk) (play_at seen desk slot)) (play_at seen desk slot)
play_at-started seen device desk group slot some = let here = cases_lt slot (length desk.play) in grind (arith, get_or-change_in, get_or_past, length-change_in)

pub record_at-started : (seen device : DeviceSeen) (desk : Desk) (group slot : ℕ) → 0 < group
    → record_at seen (group_started device desk group) slot ≡ cond (eqb (get_or desk.groups.recording slot 0) group) (record_starting (record_at seen desk slot)) (record_at seen desk slot)
record_at-started seen device desk group slot some = let here = cases_lt slot (length desk.recording) in grind (arith, get_or-change_in, get_or_past, length-change_in)

cond_through : {X Y : Type 0} (f : X → Y) (b : Bool) (x y : X) → f (cond b x y) ≡ cond b (f x) (f y)
cond_through f b x y = grind arith

-- a channel: it has started where it is a member; a mapped one is a member of none
pub started-at : (seen device : DeviceSeen) (desk : Desk) (group : ℕ) (held : Held) → 0 < group
    → channel_at seen (group_started device desk group) held ≡ cond (eqb (group_of desk held) group) (starting device (desk_here device desk) (channel_at seen desk held)) (channel_at seen desk held)
started-at seen device desk group held some = at held.way
  where
    at : (way : Way) → let channel : Held = record { way = way; slot = held.slot } in
        channel_at seen (group_started device desk group) channel ≡ cond (eqb (group_of desk channel) group) (starting device (desk_here device desk) (channel_at seen desk channel)) (channel_at seen desk channel)
    at Play = ap Playing (play_at-started seen device desk group held.slot some) ∙ cond_through Playing (eqb (get_or desk.groups.play held.slot 0) group) (play_starting device (desk_here device desk) (play_at seen desk held.slot)) (play_at seen desk held.slot)
    at Record = ap Recording (record_at-started seen device desk group held.slot some) ∙ cond_through Recording (eqb (get_or desk.groups.recording held.slot 0) group) (record_starting (record_at seen desk held.slot)) (record_at seen desk held.slot)
    at Map = grind arith

-- whether a number is this one
pub is-this : (one other : ℕ) → one ≡ other → eqb one other ≡ true
is-this one other same = grind (arith, nat_tests)

pub is-other : (one other : ℕ) → (one ≡ other → ⊥) → eqb one other ≡ false
is-other one other differ = grind (arith, nat_tests)
