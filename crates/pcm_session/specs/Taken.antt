-- Which calls a session takes: those that its engine can.
use Rattle.std.specs.Prelude.{ℕ, ◌+◌, ◌-◌, ◌*◌, ◌%◌, Bool, true, not, ◌&&◌, ◌==◌, nat_le, nat_lt, if◌then◌else◌, Option, None, Some}
use Rattle.pcm_foreign.specs.Devices.{is_rate}
use Rattle.pcm_oss.specs.declared.event.Event.{Event}
use Rattle.pcm_oss.specs.declared.event.Event.TheVariants.{Open, Read, StartGroup, Intr}
use Rattle.pcm_desk.specs.declared.limits.TheConstants.{DESCRIPTORS, READ_BYTES}
use Rattle.pcm_desk.specs.Device.{DeviceSeen, device_frame_bytes, device_settings, ring_frames}
use Rattle.pcm_desk.specs.Events.{bytes_handed, frames_taken}
use Rattle.pcm_desk.specs.Own.{descriptor_of}
use Rattle.pcm_engine.specs.declared.limits.TheConstants.{LIFE}
use Rattle.pcm_engine.specs.Brought.{bytes_asked, samples_asked}
use Rattle.pcm_foreign.specs.declared.call_fault.CallFault.{CallFault}
use Rattle.pcm_foreign.specs.declared.call_fault.CallFault.TheVariants.{Argument, Room, Worn}
use Rattle.pcm_format.specs.Layouts.{channels_of}

abbrev pub is_descriptor : ℕ → Bool
is_descriptor fd = nat_lt fd DESCRIPTORS

-- the descriptor whose channel an event is of, if any, is one
abbrev pub names_descriptor : Option ℕ → Bool
names_descriptor None = true
names_descriptor (Some fd) = is_descriptor fd

-- an event keeps the limits of a device
abbrev pub is_allowed : DeviceSeen → Event → Bool
is_allowed device (Open fd way settings) = is_descriptor fd && is_rate settings.rate
is_allowed device (Read fd count) = is_descriptor fd && nat_le count READ_BYTES
is_allowed device (StartGroup fd group) = is_descriptor fd
is_allowed device (Intr frames) = nat_lt 0 frames && nat_le frames (ring_frames device)
is_allowed device event = names_descriptor (descriptor_of event)

-- as many bytes come as it names, and the samples are whole frames, and no more than it captures
abbrev pub has_right : DeviceSeen → Event → ℕ → ℕ → Bool
has_right device event bytes samples =
    is_allowed device event
    && bytes == bytes_asked event
    && nat_le samples (samples_asked (device_settings device).layout event)
    && samples % channels_of (device_settings device).layout == 0

-- once the device has been given `handed` frames, as many are left as an event gives to it
abbrev pub is_left : ℕ → Event → Bool
is_left handed event = nat_le (handed + frames_taken event) LIFE

-- how many frames are left
abbrev pub frames_left : ℕ → ℕ
frames_left handed = LIFE - handed

-- the room of what nobody hears: an interrupt takes all that the device's ring holds, at most
abbrev pub unheard_room : DeviceSeen → ℕ
unheard_room device = ring_frames device * device_frame_bytes device

-- an event comes with what it brings, its frames are left, and there is room for the bytes that it gives to the device
abbrev pub is_taken : DeviceSeen → ℕ → Event → ℕ → ℕ → ℕ → Bool
is_taken device handed event bytes samples room = has_right device event bytes samples && is_left handed event && nat_le (bytes_handed device event) room

-- why an event isn't taken, where it isn't
abbrev pub fault_of : DeviceSeen → ℕ → Event → ℕ → ℕ → CallFault
fault_of device handed event bytes samples =
    if not (has_right device event bytes samples) then Argument else if not (is_left handed event) then Worn else Room
