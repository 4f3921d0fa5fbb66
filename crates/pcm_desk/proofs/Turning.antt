-- What is so of a desk after an event, where it is so of each desk that the event may lead to.
use Rattle.std.proofs.Common.{◌≡◌, ℕ, ◌+◌, Option, Some, None, arith}
use Rattle.pcm_desk.specs.Types.{Event, Held, Settings, Way}
use Rattle.pcm_oss.specs.declared.event.Event.TheVariants.{Intr}
use Rattle.pcm_oss.specs.declared.reply.Errno.TheVariants.{BadF, Busy, Exist}
use Rattle.pcm_desk.specs.Device.{DeviceSeen}
use Rattle.pcm_desk.specs.Desk.{Desk, DeskTurn, after, channel_turn, held_by, least_free, open_at, open_turn, refusing}
use Rattle.pcm_desk.specs.Events.{frames_taken}

-- the number of a descriptor
abbrev pub number_of : Option ℕ → ℕ
number_of None = 0
number_of (Some fd) = fd

-- an event of a descriptor, which is refused where nothing is open
pub by-turning : (D : DeskTurn → Type 0) (device : DeviceSeen) (desk : Desk) (event : Event) (found : Option Held) → (found ≡ None → D (refusing desk BadF)) → ((held : Held) → found ≡ Some held → D (channel_turn device desk event (Some held)))
    → D (channel_turn device desk event found)
by-turning D device desk event found none turns = grind arith

-- an open: it is refused, or takes the least slot that is free
pub by-opening : (D : DeskTurn → Type 0) (desk : Desk) (fd : ℕ) (way : Way) (settings : Settings) → ((held : Held) → held_by desk fd ≡ Some held → D (refusing desk Exist)) → (held_by desk fd ≡ None → D (refusing desk Busy))
    → ((slot : ℕ) → held_by desk fd ≡ None → least_free desk way ≡ Some slot → D (open_at desk fd way settings (Some slot))) → D (open_turn desk fd way settings)
by-opening D desk fd way settings exists busy opens = grind arith

-- an event gives the device the frames that it takes
pub handed-taken : (device : DeviceSeen) (desk : Desk) (event : Event) → (after device desk event).desk.handed ≡ desk.handed + frames_taken event
handed-taken device desk event = grind arith

-- an event that is no interrupt mixes none
pub mixed-same : (device : DeviceSeen) (desk : Desk) (event : Event) → ((n : ℕ) → event ≡ Intr n → ⊥) → (after device desk event).desk.mixed ≡ desk.mixed
mixed-same device desk event none = grind arith
