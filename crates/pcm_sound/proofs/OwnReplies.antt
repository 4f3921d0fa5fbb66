-- The replies to a client, with the bytes of its reads, depend on its own events and on what is captured.
use Rattle.std.proofs.Common.{◌≡◌, ℕ, ◌+◌, ◌-◌, Bool, true, false, cond, List, [], ◌∷◌, ◌++◌, drop, min, take, Some, Ok, Err, refl, sym, ap, ◌∙◌, subst, arith}
use Rattle.std.specs.Prelude.{IsErr, eqb, nat_lt, not, ◌&&◌}
use Rattle.std.proofs.lemmas.Bool.{eqb-true}
use Rattle.std.proofs.lemmas.List.{append-nil}
use Rattle.pcm_format.specs.declared.settings.Settings.{Settings}
use Rattle.pcm_oss.specs.declared.event.Event.{Event}
use Rattle.pcm_oss.specs.declared.event.Event.TheVariants.{Open, Write, Poke, Read, Ioctl, Join, StartGroup, Close, Mixer, Intr}
use Rattle.pcm_oss.specs.declared.event.Way.{Way}
use Rattle.pcm_oss.specs.declared.event.Way.TheVariants.{Play, Record, Map}
use Rattle.pcm_oss.specs.declared.reply.Answer.TheVariants.{Got}
use Rattle.pcm_oss.specs.declared.reply.Errno.TheVariants.{Again}
use Rattle.pcm_oss.specs.Replies.{Reply}
use Rattle.pcm_wave.specs.declared.pool.Pool.{Pool}
use Rattle.pcm_wave.specs.Pools.{capture_frames}
use Rattle.pcm_desk.specs.declared.turn.Turn.{Turn}
use Rattle.pcm_desk.specs.declared.play_book.PlayBook.{PlayBook}
use Rattle.pcm_desk.specs.declared.map_book.MapBook.{MapBook}
use Rattle.pcm_desk.specs.declared.device.Held.{Held}
use Rattle.pcm_desk.specs.declared.record_book.RecordBook.{RecordBook}
use Rattle.pcm_desk.specs.declared.run_state.RunState.{RunState}
use Rattle.pcm_desk.specs.declared.run_state.RunState.TheVariants.{Free, Setup, Running}
use Rattle.pcm_desk.specs.Device.{DeviceSeen, record_rate_between}
use Rattle.pcm_desk.specs.RecordBooks as records
use Rattle.pcm_desk.specs.RunStates.{is_running}
use Rattle.pcm_desk.specs.RecordBooks.{captured, read_turn, record_fill_of}
use Rattle.pcm_desk.specs.RecordRequests.{record_ask}
use Rattle.pcm_desk.specs.RecordSafe.{RecordIsSafe}
use Rattle.pcm_desk.specs.Channels.{Channel, Mapped, Playing, Recording, by_way, capturing, channel_begun, own_turn, record_rate_at, ungrouped}
use Rattle.pcm_desk.specs.Desk.{after, channel_at, group_of, held_by}
use Rattle.pcm_desk.specs.Own.{HoldApart, MembersWait}
use Rattle.pcm_desk.specs.OwnEvents.{JoinsNone, Opens, closes, concerns, joins, own_events, unnamed}
use Rattle.pcm_desk.specs.Events.{frames_taken}
use Rattle.pcm_desk.proofs.Apart.{apart-after}
use Rattle.pcm_desk.proofs.OwnEvents.{IsMine, begun-own, mine-turns, opened-none, other-stays, others-go}
use Rattle.pcm_desk.proofs.RecordAsking.{record-ask-settings}
use Rattle.pcm_desk.proofs.RecordSafe.{record-safe-ask, record-safe-begun, record-safe-captured, record-safe-closed, record-safe-read}
use Rattle.pcm_desk.proofs.Turning.{handed-taken}
use Rattle.pcm_sound.specs.OwnReplies.{client_replies}
use Rattle.pcm_sound.specs.Recordings as recordings
use Rattle.pcm_sound.specs.Recordings.{going_on, read_bytes, recording_from, starts_recording}
use Rattle.pcm_sound.specs.StoryReplies.{bytes_got, bytes_to, reply_to}
use Rattle.pcm_sound.specs.Story.{Story, told}
use Rattle.pcm_sound.proofs.Pools.{going-alike}
use Rattle.pcm_sound.proofs.Recorded.{idle-unstarted}

-- ---- a channel by itself: its book, its recording, and the frames that the device has been given

-- the bytes that a read gets of a channel
abbrev read_of : ℕ → Channel → recordings.Recording → List ℕ
read_of count (Playing book) recording = []
read_of count (Mapped book) recording = []
read_of count (Recording book) recording = read_bytes count book recording

-- the bytes that an event gets of it
abbrev own_bytes : Event → Channel → recordings.Recording → List ℕ
own_bytes (Read fd count) channel recording = read_of count channel recording
own_bytes _ channel recording = []

-- its recording after an event, from its book before and after
abbrev next_recording : DeviceSeen → Pool → ℕ → Event → Channel → Channel → recordings.Recording → recordings.Recording
next_recording device pool handed event (Recording old) (Recording new) recording = cond (starts_recording old new) (recording_from handed) (going_on device pool event old new recording)
next_recording device pool handed event (Recording old) (Playing new) recording = recording
next_recording device pool handed event (Recording old) (Mapped new) recording = recording
next_recording device pool handed event (Playing old) new recording = recording
next_recording device pool handed event (Mapped old) new recording = recording

-- the replies to its own events
abbrev own_told : DeviceSeen → Pool → Channel → recordings.Recording → ℕ → List Event → List Reply
own_told device pool channel recording handed [] = []
own_told device pool channel recording handed (event ∷ events) =
    record { result = (own_turn device handed ungrouped event channel).reply; bytes = own_bytes event channel recording }
    ∷ own_told device pool (own_turn device handed ungrouped event channel).book (next_recording device pool handed event channel (own_turn device handed ungrouped event channel).book recording) (handed + frames_taken event) events

-- the recording of what a descriptor holds
abbrev own_recording : Story → Held → recordings.Recording
own_recording story held = by_way held.way (recording_from 0) (story.recordings held.slot) (recording_from 0)

-- ---- from a story to one channel of it

-- its recording goes on by its book
next_told : (device : DeviceSeen) (pool : Pool) (story : Story) (event : Event) (way : Way) (slot : ℕ)
    → let held : Held = record { way = way; slot = slot } in let new : Story = told device pool story event in
    own_recording new held ≡ next_recording device pool story.desk.handed event (channel_at device story.desk held) (channel_at device new.desk held) (own_recording story held)
next_told device pool story event Play slot = refl
next_told device pool story event Record slot = refl
next_told device pool story event Map slot = refl

-- an event of another descriptor leaves it
unread : (book : RecordBook) (recording : recordings.Recording) → recordings.handing book book recording ≡ recording
unread book recording =
    let none : book.read - book.read ≡ 0 = omega arith in
    ap (λ (got : List ℕ). record recording { got = got }) (ap (λ n. recording.got ++ take n (drop book.read recording.kept)) none ∙ append-nil recording.got)

goes_nowhere : (device : DeviceSeen) (pool : Pool) (event : Event) (fd : ℕ) (book : RecordBook) (recording : recordings.Recording) → concerns fd event ≡ false → going_on device pool event book book recording ≡ recording
goes_nowhere device pool (Open at way settings) fd book recording n = refl
goes_nowhere device pool (Write at source from count) fd book recording n = refl
goes_nowhere device pool (Poke at offset from count) fd book recording n = refl
goes_nowhere device pool (Read at count) fd book recording n = unread book recording
goes_nowhere device pool (Ioctl at request) fd book recording n = refl
goes_nowhere device pool (Join at group) fd book recording n = refl
goes_nowhere device pool (StartGroup at group) fd book recording n = refl
goes_nowhere device pool (Close at) fd book recording n = refl
goes_nowhere device pool (Mixer request) fd book recording n = refl
goes_nowhere device pool (Intr frames) fd book recording n = cc

starts_none : (running : Bool) (start other : recordings.Recording) → cond (not running && running) start other ≡ other
starts_none true start other = refl
starts_none false start other = refl

next_same : (device : DeviceSeen) (pool : Pool) (handed : ℕ) (event : Event) (fd : ℕ) (channel : Channel) (recording : recordings.Recording) → concerns fd event ≡ false → next_recording device pool handed event channel channel recording ≡ recording
next_same device pool handed event fd (Playing book) recording n = refl
next_same device pool handed event fd (Mapped book) recording n = refl
next_same device pool handed event fd (Recording book) recording n = starts_none (is_running book.state) (recording_from handed) (going_on device pool event book book recording) ∙ goes_nowhere device pool event fd book recording n

-- nor does it hand frames over
pub takes-none : (event : Event) (fd : ℕ) → concerns fd event ≡ false → frames_taken event ≡ 0
takes-none (Open at way settings) fd n = refl
takes-none (Write at source from count) fd n = refl
takes-none (Poke at offset from count) fd n = refl
takes-none (Read at count) fd n = refl
takes-none (Ioctl at request) fd n = refl
takes-none (Join at group) fd n = refl
takes-none (StartGroup at group) fd n = refl
takes-none (Close at) fd n = refl
takes-none (Mixer request) fd n = refl
takes-none (Intr frames) fd n = cc

-- a read of its own gets the bytes of its recording
read_own : (device : DeviceSeen) (story : Story) (count : ℕ) (way : Way) (slot : ℕ)
    → let held : Held = record { way = way; slot = slot } in bytes_got device story count (Some held) ≡ read_of count (channel_at device story.desk held) (own_recording story held)
read_own device story count Play slot = refl
read_own device story count Record slot = refl
read_own device story count Map slot = refl

-- the bytes of a reply to an event of its own, or to an interrupt
bytes_own : (device : DeviceSeen) (pool : Pool) (story : Story) (event : Event) (fd : ℕ) (held : Held) → concerns fd event ≡ true → held_by story.desk fd ≡ Some held
    → bytes_to device story event ≡ own_bytes event (channel_at device story.desk held) (own_recording story held)
bytes_own device pool story (Open at way settings) fd held n e = refl
bytes_own device pool story (Write at source from count) fd held n e = refl
bytes_own device pool story (Poke at offset from count) fd held n e = refl
bytes_own device pool story (Read at count) fd held n e =
    ap (λ (k : ℕ). bytes_got device story count (held_by story.desk k)) (eqb-true at fd n) ∙ ap (bytes_got device story count) e ∙ read_own device story count held.way held.slot
bytes_own device pool story (Ioctl at request) fd held n e = refl
bytes_own device pool story (Join at group) fd held n e = refl
bytes_own device pool story (StartGroup at group) fd held n e = refl
bytes_own device pool story (Close at) fd held n e = refl
bytes_own device pool story (Mixer request) fd held n e = refl
bytes_own device pool story (Intr frames) fd held n e = refl

-- neither the number of a descriptor nor the bytes of a write or a poke say anything to a channel
told_unnamed : (device : DeviceSeen) (pool : Pool) (event : Event) (channel : Channel) (recording : recordings.Recording) (handed : ℕ) (more : List Event)
    → own_told device pool channel recording handed (unnamed event ∷ more) ≡ own_told device pool channel recording handed (event ∷ more)
told_unnamed device pool (Open fd way settings) (Playing book) recording handed more = refl
told_unnamed device pool (Open fd way settings) (Recording book) recording handed more = refl
told_unnamed device pool (Open fd way settings) (Mapped book) recording handed more = refl
told_unnamed device pool (Write fd source at count) (Playing book) recording handed more = refl
told_unnamed device pool (Write fd source at count) (Recording book) recording handed more = refl
told_unnamed device pool (Write fd source at count) (Mapped book) recording handed more = refl
told_unnamed device pool (Read fd count) (Playing book) recording handed more = refl
told_unnamed device pool (Read fd count) (Recording book) recording handed more = refl
told_unnamed device pool (Read fd count) (Mapped book) recording handed more = refl
told_unnamed device pool (Ioctl fd request) (Playing book) recording handed more = refl
told_unnamed device pool (Ioctl fd request) (Recording book) recording handed more = refl
told_unnamed device pool (Ioctl fd request) (Mapped book) recording handed more = refl
told_unnamed device pool (Join fd group) (Playing book) recording handed more = refl
told_unnamed device pool (Join fd group) (Recording book) recording handed more = refl
told_unnamed device pool (Join fd group) (Mapped book) recording handed more = refl
told_unnamed device pool (StartGroup fd group) (Playing book) recording handed more = refl
told_unnamed device pool (StartGroup fd group) (Recording book) recording handed more = refl
told_unnamed device pool (StartGroup fd group) (Mapped book) recording handed more = refl
told_unnamed device pool (Close fd) (Playing book) recording handed more = refl
told_unnamed device pool (Close fd) (Recording book) recording handed more = refl
told_unnamed device pool (Close fd) (Mapped book) recording handed more = refl
told_unnamed device pool (Poke fd offset at count) (Playing book) recording handed more = refl
told_unnamed device pool (Poke fd offset at count) (Recording book) recording handed more = refl
told_unnamed device pool (Poke fd offset at count) (Mapped book) recording handed more = refl
told_unnamed device pool (Mixer request) channel recording handed more = refl
told_unnamed device pool (Intr n) channel recording handed more = refl

-- the replies to a client that holds one channel of a story
abbrev told_by : DeviceSeen → Pool → Story → Held → List Event → List Reply
told_by device pool story held events = own_told device pool (channel_at device story.desk held) (own_recording story held) story.desk.handed events

-- one event, and those after it
told_step : (device : DeviceSeen) (pool : Pool) (story : Story) (event : Event) (events : List Event) (fd : ℕ) (held : Held) (own closing : Bool) → concerns fd event ≡ own → closes fd event ≡ closing → HoldApart story.desk → held_by story.desk fd ≡ Some held → group_of story.desk held ≡ 0
    → (joins fd event ≡ true → IsErr (after device story.desk event).reply)
    → let new : Story = told device pool story event in
    (closes fd event ≡ false → held_by new.desk fd ≡ Some held → group_of new.desk held ≡ 0 → client_replies device pool fd new events ≡ told_by device pool new held (own_events fd events))
    → cond own (reply_to device story event ∷ cond closing [] (client_replies device pool fd new events)) (client_replies device pool fd new events)
    ≡ told_by device pool story held (cond own (unnamed event ∷ cond closing [] (own_events fd events)) (own_events fd events))
told_step device pool story event events fd held true closing o c h m a joined rest =
    behind closing c ∙ sym (told_unnamed device pool event channel recording story.desk.handed (cond closing [] (own_events fd events)))
  where
    channel : Channel
    channel = channel_at device story.desk held

    recording : recordings.Recording
    recording = own_recording story held

    new : Story
    new = told device pool story event

    is : IsMine device event held fd story.desk
    is = mine-turns device event story.desk fd held o h m a

    first : reply_to device story event ≡ record { result = (own_turn device story.desk.handed ungrouped event channel).reply; bytes = own_bytes event channel recording }
    first = λ i. record { result = is.reply i; bytes = bytes_own device pool story event fd held o m i }

    -- from the story's own channel to the channel by itself
    goes_on : (more : List Event) → told_by device pool new held more
        ≡ own_told device pool (own_turn device story.desk.handed ungrouped event channel).book (next_recording device pool story.desk.handed event channel (own_turn device story.desk.handed ungrouped event channel).book recording) (story.desk.handed + frames_taken event) more
    goes_on more =
        ap (λ (r : recordings.Recording). own_told device pool (channel_at device new.desk held) r new.desk.handed more) (next_told device pool story event held.way held.slot)
        ∙ ap (λ (n : ℕ). own_told device pool (channel_at device new.desk held) (next_recording device pool story.desk.handed event channel (channel_at device new.desk held) recording) n more) (handed-taken device story.desk event)
        ∙ ap (λ (c : Channel). own_told device pool c (next_recording device pool story.desk.handed event channel c recording) (story.desk.handed + frames_taken event) more) is.channel

    behind : (b : Bool) → closes fd event ≡ b
        → reply_to device story event ∷ cond b [] (client_replies device pool fd new events) ≡ own_told device pool channel recording story.desk.handed (event ∷ cond b [] (own_events fd events))
    behind true e = ap (λ (r : Reply). r ∷ []) first
    behind false e =
        ap (λ (r : Reply). r ∷ client_replies device pool fd new events) first
        ∙ ap (λ (list : List Reply). record { result = (own_turn device story.desk.handed ungrouped event channel).reply; bytes = own_bytes event channel recording } ∷ list) (rest e (is.holds e) is.alone ∙ goes_on (own_events fd events))
told_step device pool story event events fd held false closing o c h m a joined rest =
    let new : Story = told device pool story event in
    let more : List Event = own_events fd events in
    let channel : Channel = channel_at device story.desk held in
    let is = other-stays device event story.desk fd held o joined h m a in
    let none : new.desk.handed ≡ story.desk.handed = (let taken = handed-taken device story.desk event in let nothing = takes-none event fd o in omega arith) in
    rest (others-go event fd o) is.holds is.alone
    ∙ ap (λ (r : recordings.Recording). own_told device pool (channel_at device new.desk held) r new.desk.handed more)
    (next_told device pool story event held.way held.slot ∙ ap (λ (c : Channel). next_recording device pool story.desk.handed event channel c (own_recording story held)) is.channel
    ∙ next_same device pool story.desk.handed event fd channel (own_recording story held) o)
    ∙ ap (λ (n : ℕ). own_told device pool (channel_at device new.desk held) (own_recording story held) n more) none
    ∙ ap (λ (c : Channel). own_told device pool c (own_recording story held) story.desk.handed more) is.channel

-- The replies to a client go by the book of its channel, its recording and its own events.
told_own : (device : DeviceSeen) (pool : Pool) (story : Story) (fd : ℕ) (held : Held) (events : List Event) → HoldApart story.desk → held_by story.desk fd ≡ Some held → group_of story.desk held ≡ 0 → JoinsNone device fd story.desk events
    → client_replies device pool fd story events ≡ told_by device pool story held (own_events fd events)
told_own device pool story fd held [] h m a none = refl
told_own device pool story fd held (event ∷ events) h m a none =
    told_step device pool story event events fd held (concerns fd event) (closes fd event) refl refl h m a none.0
    (λ still goes alone. told_own device pool (told device pool story event) fd held events (apart-after device story.desk event h) goes alone (none.1 still))

-- ---- two recordings

-- the book of a channel that records is in order
abbrev IsSafe : DeviceSeen → Channel → Type 0
IsSafe device (Playing book) = Unit {0}
IsSafe device (Mapped book) = Unit {0}
IsSafe device (Recording book) = RecordIsSafe (record_rate_at device book) book

-- it has started
abbrev runs : Channel → Bool
runs (Playing book) = false
runs (Mapped book) = false
runs (Recording book) = is_running book.state

captured_settings : (state : RunState) (device : DeviceSeen) (n : ℕ) (book : RecordBook) → (records.captured_in (record_rate_at device book) state n book).opening.settings ≡ book.opening.settings
captured_settings Free device n book = refl
captured_settings Setup device n book = refl
captured_settings Running device n book = refl

read_in : (b : Bool) (count : ℕ) (book : RecordBook) → (cond {A = Turn RecordBook} b (record { book = book; reply = Err Again }) (record { book = record book { read = book.read + min count (record_fill_of book) }; reply = Ok (Got (min count (record_fill_of book))) })).book.opening.settings ≡ book.opening.settings
read_in true count book = refl
read_in false count book = refl

read_settings : (count : ℕ) (book : RecordBook) → (read_turn count book).book.opening.settings ≡ book.opening.settings
read_settings count book = read_in (nat_lt 0 count && eqb (record_fill_of book) 0) count book

-- it stays in order
safe_own : (device : DeviceSeen) (handed : ℕ) (event : Event) (channel : Channel) → IsSafe device channel → IsSafe device (own_turn device handed ungrouped event channel).book
safe_own device handed (Open fd way settings) channel s = s
safe_own device handed (Write fd source at count) (Playing book) s = tt
safe_own device handed (Write fd source at count) (Mapped book) s = tt
safe_own device handed (Write fd source at count) (Recording book) s = s
safe_own device handed (Poke fd offset at count) (Playing book) s = tt
safe_own device handed (Poke fd offset at count) (Recording book) s = s
safe_own device handed (Poke fd offset at count) (Mapped book) s = tt
safe_own device handed (Read fd count) (Playing book) s = tt
safe_own device handed (Read fd count) (Mapped book) s = tt
safe_own device handed (Read fd count) (Recording book) s =
    subst (λ (settings : Settings). RecordIsSafe (record_rate_between device settings) (read_turn count book).book) (sym (read_settings count book)) (record-safe-read (record_rate_at device book) count book s)
safe_own device handed (Ioctl fd request) (Playing book) s = tt
safe_own device handed (Ioctl fd request) (Mapped book) s = tt
safe_own device handed (Ioctl fd request) (Recording book) s =
    let new : RecordBook = (record_ask request book).book in
    record-safe-ask (record_rate_at device book) (record_rate_at device new) request book (λ e. ap (λ (settings : Settings). record_rate_between device settings) (record-ask-settings request book e)) s
safe_own device handed (Join fd group) channel s = s
safe_own device handed (StartGroup fd group) channel s = s
safe_own device handed (Close fd) (Playing book) s = tt
safe_own device handed (Close fd) (Mapped book) s = tt
safe_own device handed (Close fd) (Recording book) s = record-safe-closed (record_rate_at device book) book s
safe_own device handed (Mixer request) channel s = s
safe_own device handed (Intr n) (Playing book) s = tt
safe_own device handed (Intr n) (Mapped book) s = tt
safe_own device handed (Intr n) (Recording book) s =
    subst (λ (settings : Settings). RecordIsSafe (record_rate_between device settings) (capturing device n book)) (sym (captured_settings book.state device n book)) (record-safe-captured (record_rate_at device book) n book s)

-- equal bytes are read of equal recordings, and none of a channel that has none
read_alike : (device : DeviceSeen) (count : ℕ) (channel : Channel) (one other : recordings.Recording) → IsSafe device channel → (runs channel ≡ true → other ≡ one) → read_of count channel other ≡ read_of count channel one
read_alike device count (Playing book) one other s same = refl
read_alike device count (Mapped book) one other s same = refl
read_alike device count (Recording book) one other s same = at (is_running book.state) refl
  where
    at : (b : Bool) → is_running book.state ≡ b → read_bytes count book other ≡ read_bytes count book one
    at true e = ap (read_bytes count book) (same e)
    at false e =
        let none = idle-unstarted book.state book e s.order in
        let empty : min count (record_fill_of book) ≡ 0 = omega (arith, none.kept_none) in
        rw empty refl

bytes_alike : (device : DeviceSeen) (event : Event) (channel : Channel) (one other : recordings.Recording) → IsSafe device channel → (runs channel ≡ true → other ≡ one) → own_bytes event channel other ≡ own_bytes event channel one
bytes_alike device (Read fd count) channel one other s same = read_alike device count channel one other s same
bytes_alike device _ channel one other s same = refl

-- a channel that plays never records
plays_on : (device : DeviceSeen) (handed : ℕ) (event : Event) (book : PlayBook) → runs (own_turn device handed ungrouped event (Playing book)).book ≡ false
plays_on device handed (Open fd way settings) book = refl
plays_on device handed (Write fd source at count) book = refl
plays_on device handed (Poke fd offset at count) book = refl
plays_on device handed (Read fd count) book = refl
plays_on device handed (Ioctl fd request) book = refl
plays_on device handed (Join fd group) book = refl
plays_on device handed (StartGroup fd group) book = refl
plays_on device handed (Close fd) book = refl
plays_on device handed (Mixer request) book = refl
plays_on device handed (Intr n) book = refl

-- nor does a mapped one
maps_on : (device : DeviceSeen) (handed : ℕ) (event : Event) (book : MapBook) → runs (own_turn device handed ungrouped event (Mapped book)).book ≡ false
maps_on device handed (Open fd way settings) book = refl
maps_on device handed (Write fd source at count) book = refl
maps_on device handed (Poke fd offset at count) book = refl
maps_on device handed (Read fd count) book = refl
maps_on device handed (Ioctl fd request) book = refl
maps_on device handed (Join fd group) book = refl
maps_on device handed (StartGroup fd group) book = refl
maps_on device handed (Close fd) book = refl
maps_on device handed (Mixer request) book = refl
maps_on device handed (Intr n) book = refl

-- recordings that are equal while they run go on to be, where the same is captured
going_same : (device : DeviceSeen) (pool more : Pool) (handed : ℕ) (event : Event) (old : RecordBook) (new : Channel) (one other : recordings.Recording) → capture_frames more ≡ capture_frames pool → (is_running old.state ≡ true → other ≡ one)
    → runs new ≡ true → next_recording device more handed event (Recording old) new other ≡ next_recording device pool handed event (Recording old) new one
going_same device pool more handed event old (Playing new) one other frames same running = cc
going_same device pool more handed event old (Mapped new) one other frames same running = cc
going_same device pool more handed event old (Recording new) one other frames same running = at (is_running old.state) refl (is_running new.state) running
  where
    at : (was : Bool) → is_running old.state ≡ was → (is : Bool) → is ≡ true
        → cond (not was && is) (recording_from handed) (going_on device more event old new other) ≡ cond (not was && is) (recording_from handed) (going_on device pool event old new one)
    at false e true running = refl
    at false e false running = cc
    at true e is running = ap (going_on device more event old new) (same e) ∙ going-alike device pool more event old new one frames

next_alike : (device : DeviceSeen) (pool more : Pool) (handed : ℕ) (event : Event) (channel : Channel) (one other : recordings.Recording) → capture_frames more ≡ capture_frames pool → (runs channel ≡ true → other ≡ one)
    → let new : Channel = (own_turn device handed ungrouped event channel).book in
    runs new ≡ true → next_recording device more handed event channel new other ≡ next_recording device pool handed event channel new one
next_alike device pool more handed event (Playing book) one other frames same running = absurd (let clash : true ≡ false = sym running ∙ plays_on device handed event book in cc)
next_alike device pool more handed event (Mapped book) one other frames same running = absurd (let clash : true ≡ false = sym running ∙ maps_on device handed event book in cc)
next_alike device pool more handed event (Recording book) one other frames same running = going_same device pool more handed event book (own_turn device handed ungrouped event (Recording book)).book one other frames same running

told_alike : (device : DeviceSeen) (pool more : Pool) (channel : Channel) (one other : recordings.Recording) (handed : ℕ) (events : List Event) → capture_frames more ≡ capture_frames pool → IsSafe device channel → (runs channel ≡ true → other ≡ one)
    → own_told device more channel other handed events ≡ own_told device pool channel one handed events
told_alike device pool more channel one other handed [] frames s same = refl
told_alike device pool more channel one other handed (event ∷ events) frames s same =
    let turn : Turn Channel = own_turn device handed ungrouped event channel in
    let next : recordings.Recording = next_recording device more handed event channel turn.book other in
    ap (λ (bytes : List ℕ). record { result = turn.reply; bytes = bytes } ∷ own_told device more turn.book next (handed + frames_taken event) events) (bytes_alike device event channel one other s same)
    ∙ ap (λ (list : List Reply). record { result = turn.reply; bytes = own_bytes event channel one } ∷ list)
    (told_alike device pool more turn.book (next_recording device pool handed event channel turn.book one) next (handed + frames_taken event) events frames (safe_own device handed event channel s)
    (λ running. next_alike device pool more handed event channel one other frames same running))

-- ---- two openings

begun_safe : (device : DeviceSeen) (way : Way) (settings : Settings) → IsSafe device (channel_begun way settings)
begun_safe device Play settings = tt
begun_safe device Map settings = tt
begun_safe device Record settings = record-safe-begun (record_rate_between device settings) settings

begun_idle : (way : Way) (settings : Settings) → runs (channel_begun way settings) ≡ false
begun_idle Play settings = refl
begun_idle Record settings = refl
begun_idle Map settings = refl

-- the replies to the events of an opening
opening_told : (device : DeviceSeen) (pool : Pool) (fd : ℕ) (way : Way) (settings : Settings) (held : Held) (story : Story) (events : List Event) → HoldApart story.desk → MembersWait device story.desk
    → Opens device fd way settings held story.desk (told device pool story (Open fd way settings)).desk → JoinsNone device fd (told device pool story (Open fd way settings)).desk events
    → client_replies device pool fd (told device pool story (Open fd way settings)) events
    ≡ own_told device pool (channel_begun way settings) (own_recording (told device pool story (Open fd way settings)) held) story.desk.handed (own_events fd events)
opening_told device pool fd way settings held story events h w o none =
    let new : Story = told device pool story (Open fd way settings) in
    let own : List Event = own_events fd events in
    let taken : new.desk.handed ≡ story.desk.handed = (let t = handed-taken device story.desk (Open fd way settings) in omega arith) in
    told_own device pool new fd held events (apart-after device story.desk (Open fd way settings) h) o.holds (opened-none device fd way settings held story.desk new.desk w o) none
    ∙ ap (λ (c : Channel). own_told device pool c (own_recording new held) new.desk.handed own) (begun-own device fd way settings held story.desk new.desk o)
    ∙ ap (λ (n : ℕ). own_told device pool (channel_begun way settings) (own_recording new held) n own) taken

-- Two openings with the same settings, the same own events and the same frames captured get the same replies, bytes included.
pub clients-alike : (device : DeviceSeen) (pool more : Pool) (fd at : ℕ) (way : Way) (settings : Settings) (held theirs : Held) (one other : Story) (events others : List Event) → capture_frames more ≡ capture_frames pool
    → one.desk.handed ≡ other.desk.handed → HoldApart one.desk → HoldApart other.desk → MembersWait device one.desk → MembersWait device other.desk
    → Opens device fd way settings held one.desk (told device pool one (Open fd way settings)).desk
    → Opens device at way settings theirs other.desk (told device more other (Open at way settings)).desk
    → JoinsNone device fd (told device pool one (Open fd way settings)).desk events → JoinsNone device at (told device more other (Open at way settings)).desk others
    → own_events fd events ≡ own_events at others
    → client_replies device pool fd (told device pool one (Open fd way settings)) events ≡ client_replies device more at (told device more other (Open at way settings)) others
clients-alike device pool more fd at way settings held theirs one other events others frames handed h k w v o p none never same =
    let mine : recordings.Recording = own_recording (told device pool one (Open fd way settings)) held in
    let its : recordings.Recording = own_recording (told device more other (Open at way settings)) theirs in
    opening_told device pool fd way settings held one events h w o none
    ∙ ap (λ (n : ℕ). own_told device pool (channel_begun way settings) mine n (own_events fd events)) handed
    ∙ ap (own_told device pool (channel_begun way settings) mine other.desk.handed) same
    ∙ sym (told_alike device pool more (channel_begun way settings) mine its other.desk.handed (own_events at others) frames (begun_safe device way settings)
    (λ running. absurd (let clash : true ≡ false = sym running ∙ begun_idle way settings in cc)))
    ∙ sym (opening_told device more at way settings theirs other others k v p never)
