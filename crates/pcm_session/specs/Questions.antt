-- Questions in numbers, and what they are answered: Ok what is asked, or Err the number of a refusal or a fault.
use Rattle.std.specs.Prelude.{◌≡◌, ℕ, ℤ, ◌+◌, ◌-◌, Bool, true, false, nat_le, nat_lt, if◌then◌else◌, Option, Some, None, Result, Ok, Err}
use Rattle.pcm_format.specs.Formats.{code_of}
use Rattle.pcm_format.specs.Layouts.{channels_of}
use Rattle.pcm_oss.specs.Fragments.{fragment_size}
use Rattle.pcm_oss.specs.declared.event.Event.TheVariants.{Ioctl}
use Rattle.pcm_oss.specs.declared.event.Way.{Way}
use Rattle.pcm_oss.specs.declared.event.Way.TheVariants.{Play, Record, Map}
use Rattle.pcm_oss.specs.declared.reply.Answer.{Answer}
use Rattle.pcm_oss.specs.declared.reply.Errno.{Errno}
use Rattle.pcm_oss.specs.declared.reply.Errno.TheVariants.{BadF}
use Rattle.pcm_oss.specs.declared.request.Request.{Request}
use Rattle.pcm_desk.specs.declared.limits.TheConstants.{DESCRIPTORS}
use Rattle.pcm_desk.specs.Device.{DeviceSeen, map_slots, play_slots, record_slots}
use Rattle.pcm_desk.specs.Desk.{Desk, held_by}
use Rattle.pcm_foreign.specs.Answers.{answer_numbers, call_fault_number, refusal_number}
use Rattle.pcm_foreign.specs.declared.answers.AnswerNumbers.{AnswerNumbers}
use Rattle.pcm_foreign.specs.declared.call_fault.CallFault.TheVariants.{Argument}
use Rattle.pcm_foreign.specs.Devices.{way_from}
use Rattle.pcm_foreign.specs.Requests.{request_from}
use Rattle.pcm_status.specs.declared.status.ChannelStatus.{ChannelStatus}
use Rattle.pcm_status.specs.declared.status.RunStatus.{RunStatus}
use Rattle.pcm_status.specs.declared.status.RunStatus.TheVariants.{Setup, Primed, Running, Draining}
use Rattle.pcm_status.specs.declared.status.SlotState.{SlotState}
use Rattle.pcm_status.specs.declared.status.SlotState.TheVariants.{Free, Held, Closing}
use Rattle.pcm_status.specs.declared.status.SlotStatus.{SlotStatus}
use Rattle.pcm_status.specs.Statuses.{is_readable, is_writable, slot_status, client_status, would}
use Rattle.pcm_status.specs.Waits.{WaitOf}
use Rattle.pcm_session.specs.declared.questions.SettingsNumbers.{SettingsNumbers}
use Rattle.pcm_session.specs.declared.questions.SlotNumbers.{SlotNumbers}

-- ---- numbers

abbrev pub way_number : Way → ℕ
way_number Play = 0
way_number Record = 1
way_number Map = 2

abbrev pub run_number : RunStatus → ℕ
run_number Setup = 0
run_number Primed = 1
run_number Running = 2
run_number Draining = 3

abbrev pub slot_state_number : SlotState → ℕ
slot_state_number Free = 0
slot_state_number Held = 1
slot_state_number Closing = 2

abbrev pub settings_numbers : ChannelStatus → SettingsNumbers
settings_numbers status = record {
  way = way_number status.way;
  slot = status.slot;
  format = code_of status.settings.format;
  channels = channels_of status.settings.layout;
  rate = status.settings.rate;
  fragments = status.fragments.count;
  fragment_bytes = fragment_size status.fragments;
  trigger = if status.trigger then 1 else 0;
  volume = status.volume;
  group = status.group;
  state = run_number status.run;
}

abbrev pub slot_numbers : SlotStatus → SlotNumbers
slot_numbers status = record { state = slot_state_number status.state; frames = status.frames }

-- ---- what is answered

-- a number is outside its limits
abbrev pub wrong : {X : Type 0} → Result X ℤ
wrong = Err (call_fault_number Argument)

-- of a descriptor that there can be
abbrev pub of_descriptor : {X : Type 0} → ℕ → Result X ℤ → Result X ℤ
of_descriptor fd told = if nat_lt fd DESCRIPTORS then told else wrong

-- of a descriptor that is open
abbrev pub status_told : Option ChannelStatus → Result SettingsNumbers ℤ
status_told None = Err (refusal_number BadF)
status_told (Some status) = Ok (settings_numbers status)

abbrev pub told_settings : DeviceSeen → Desk → ℕ → Result SettingsNumbers ℤ
told_settings device desk fd = of_descriptor fd (status_told (client_status device desk fd))

-- what a request would be answered, if there is one of its number
abbrev pub reply_told : Result Answer Errno → Result AnswerNumbers ℤ
reply_told (Ok answer) = Ok (answer_numbers answer)
reply_told (Err errno) = Err (refusal_number errno)

abbrev pub request_told : DeviceSeen → Desk → ℕ → Option Request → Result AnswerNumbers ℤ
request_told device desk fd None = wrong
request_told device desk fd (Some request) = reply_told (would device desk (Ioctl fd request))

abbrev pub peek_told : DeviceSeen → Desk → ℕ → ℕ → ℕ → Result AnswerNumbers ℤ
peek_told device desk fd request argument = of_descriptor fd (request_told device desk fd (request_from request argument))

-- the place of a slot among those of its way, if it is one
abbrev pub place_below : ℕ → ℕ → Option ℕ
place_below place slots = if nat_lt place slots then Some place else None

abbrev pub place_among : DeviceSeen → ℕ → Way → Option ℕ
place_among device number Play = place_below number (play_slots device)
place_among device number Record = place_below number (record_slots device)
place_among device number Map = if nat_le (play_slots device) number then place_below (number - play_slots device) (map_slots device) else None

abbrev pub place_told : DeviceSeen → Desk → Way → Option ℕ → Result SlotNumbers ℤ
place_told device desk way None = wrong
place_told device desk way (Some place) = Ok (slot_numbers (slot_status device desk way place))

-- of a way that there is, and a slot of it
abbrev pub way_told : DeviceSeen → Desk → ℕ → Option Way → Result SlotNumbers ℤ
way_told device desk number None = wrong
way_told device desk number (Some way) = place_told device desk way (place_among device number way)

abbrev pub slot_told : DeviceSeen → Desk → ℕ → ℕ → Result SlotNumbers ℤ
slot_told device desk way number = way_told device desk number (way_from way)

-- whether a descriptor is ready, a bit for each way
abbrev pub ready_bits : Bool → Bool → ℕ
ready_bits writable readable = (if writable then 1 else 0) + (if readable then 2 else 0)

abbrev pub ready_told : DeviceSeen → Desk → ℕ → Result ℕ ℤ
ready_told device desk fd = of_descriptor fd (Ok (ready_bits (is_writable device desk fd) (is_readable device desk fd)))

-- after how many frames a client can go on
abbrev pub wait_told : Result ℕ Errno → Result ℕ ℤ
wait_told (Ok frames) = Ok frames
wait_told (Err errno) = Err (refusal_number errno)

pub record WaitIs (device : DeviceSeen) (desk : Desk) (fd bytes : ℕ) (result : Result ℕ ℤ) : Type 0 where
  pub wait : Result ℕ Errno
  pub is : WaitOf device desk fd bytes (held_by desk fd) wait
  pub told : result ≡ wait_told wait

abbrev pub WaitWhere : Bool → DeviceSeen → Desk → ℕ → ℕ → Result ℕ ℤ → Type 0
WaitWhere true device desk fd bytes result = WaitIs device desk fd bytes result
WaitWhere false device desk fd bytes result = result ≡ wrong

abbrev pub WaitTold : DeviceSeen → Desk → ℕ → ℕ → Result ℕ ℤ → Type 0
WaitTold device desk fd bytes result = WaitWhere (nat_lt fd DESCRIPTORS) device desk fd bytes result
