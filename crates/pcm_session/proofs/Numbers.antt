-- The number of a slot fits the number that a caller gets.
use Rattle.std.proofs.Common.{◌≡◌, ℕ, ◌<◌, ◌≤◌, ◌^◌, Some, None, length, refl, sym, ap, subst, arith}
use Rattle.std.specs.Prelude.{Option, option_map}
use Rattle.std.proofs.lemmas.List.{length-map}
use Rattle.pcm_sequence.proofs.Items.{items-count}
use Rattle.pcm_oss.specs.declared.event.Way.{Way}
use Rattle.pcm_oss.specs.declared.event.Way.TheVariants.{Play, Record, Map}
use Rattle.pcm_desk.specs.declared.device.Held.{Held}
use Rattle.pcm_desk.specs.Channels.{by_way}
use Rattle.pcm_desk.specs.Desk.{held_by, slot_number}
use Rattle.pcm_play.specs.declared.channel.PlayChannelOf.{PlayChannelOf}
use Rattle.pcm_vchan.specs.Parents.{play_channels}
use Rattle.pcm_engine.specs.declared.engine.EngineOf.{EngineOf}
use Rattle.pcm_engine.specs.Engines.{desk_of, device_of}
use Rattle.pcm_engine.specs.Descriptors.{holding}
use Rattle.pcm_engine.proofs.Turning.{open-few}
use Rattle.pcm_status.specs.declared.status.ChannelStatus.{ChannelStatus}
use Rattle.pcm_status.specs.Statuses.{held_status, client_status}

-- the slot of a status, if there is one
abbrev slot_in : Option ChannelStatus → ℕ
slot_in None = 0
slot_in (Some status) = status.slot

slot_by : (way : Way) (one other third : ChannelStatus) (n : ℕ) → one.slot ≡ n → other.slot ≡ n → third.slot ≡ n → (by_way way one other third).slot ≡ n
slot_by Play one other third n is too also = is
slot_by Record one other third n is too also = too
slot_by Map one other third n is too also = also

number_few : (way : Way) (slots slot : ℕ) → slots ≤ 16 → slot < 16 → slot_number slots way slot < 2 ^ 32
number_few Map slots slot few there = omega (arith, few, there)
number_few way slots slot few there = omega (arith, there)

held_few : {B : Type 0} (engine : EngineOf B) (fd : ℕ) (found : Option Held) → held_by (desk_of engine) fd ≡ found → slot_in (option_map (held_status (device_of engine) (desk_of engine)) found) < 2 ^ 32
held_few engine fd None e = omega arith
held_few {B} engine fd (Some held) e =
    let slots = engine.parent.slots in
    let within = engine.parent.slots_within in
    let count : length (desk_of engine).play ≤ 16 =
    omega (arith, slots, within, items-count engine.parent.channels, length-map (play_channels engine.parent) (λ (channel : PlayChannelOf B). channel.book)) in
    subst (λ (n : ℕ). n < 2 ^ 32)
    (sym (slot_by held.way _ _ _ (slot_number (length (desk_of engine).play) held.way held.slot) refl refl refl))
    (number_few held.way (length (desk_of engine).play) held.slot count (open-few engine.parent engine.descriptors fd held engine.order.apart (ap holding e)))

pub status-few : {B : Type 0} (engine : EngineOf B) (fd : ℕ) (status : ChannelStatus) → client_status (device_of engine) (desk_of engine) fd ≡ Some status → status.slot < 2 ^ 32
status-few engine fd status is = subst (λ (found : Option ChannelStatus). slot_in found < 2 ^ 32) is (held_few engine fd (held_by (desk_of engine) fd) refl)
