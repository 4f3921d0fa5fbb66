-- Whether a client can go on, by what its descriptor holds.
use Rattle.std.proofs.Common.{◌≡◌, ℕ, Bool, true, false, ◌||◌, Some, refl, sym, ap, ◌∙◌}
use Rattle.std.specs.Prelude.{Option}
use Rattle.pcm_oss.specs.declared.event.Way.TheVariants.{Play, Record, Map}
use Rattle.pcm_desk.specs.declared.device.Held.{Held}
use Rattle.pcm_desk.specs.Device.{DeviceSeen}
use Rattle.pcm_desk.specs.Desk.{Desk, desk_here, held_by, play_at, record_at, channel_turn}
use Rattle.pcm_desk.specs.PlayBooks.{write_turn}
use Rattle.pcm_desk.specs.RecordBooks.{read_turn}
use Rattle.pcm_status.specs.Statuses.{counts}
use Rattle.pcm_status.specs.Waits.{can_go_on}
use Rattle.pcm_oss.specs.declared.event.Event.TheVariants.{Read, Write}
use Rattle.pcm_wave.specs.declared.pool.Source.TheVariants.{Inline}

or_none : (b : Bool) → b ≡ (b || false)
or_none true = refl
or_none false = refl

-- ---- by what a descriptor holds

-- one that plays goes on by a write
pub goes-by-write : (device : DeviceSeen) (desk : Desk) (fd bytes slot : ℕ) → held_by desk fd ≡ Some (record { way = Play; slot = slot })
    → counts bytes (write_turn (desk_here device desk) bytes (play_at device desk slot)).reply ≡ can_go_on device fd bytes desk
goes-by-write device desk fd bytes slot holds =
    or_none (counts bytes (write_turn (desk_here device desk) bytes (play_at device desk slot)).reply)
    ∙ ap (λ (held : Option Held). counts bytes (channel_turn device desk (Write fd Inline 0 bytes) held).reply || counts bytes (channel_turn device desk (Read fd bytes) held).reply) (sym holds)

-- one that records by a read
pub goes-by-read : (device : DeviceSeen) (desk : Desk) (fd bytes slot : ℕ) → held_by desk fd ≡ Some (record { way = Record; slot = slot })
    → counts bytes (read_turn bytes (record_at device desk slot)).reply ≡ can_go_on device fd bytes desk
goes-by-read device desk fd bytes slot holds =
    ap (λ (held : Option Held). counts bytes (channel_turn device desk (Write fd Inline 0 bytes) held).reply || counts bytes (channel_turn device desk (Read fd bytes) held).reply) (sym holds)

-- and a mapped one by neither
pub goes-by-none : (device : DeviceSeen) (desk : Desk) (fd bytes slot : ℕ) → held_by desk fd ≡ Some (record { way = Map; slot = slot }) → false ≡ can_go_on device fd bytes desk
goes-by-none device desk fd bytes slot holds =
    ap (λ (held : Option Held). counts bytes (channel_turn device desk (Write fd Inline 0 bytes) held).reply || counts bytes (channel_turn device desk (Read fd bytes) held).reply) (sym holds)
