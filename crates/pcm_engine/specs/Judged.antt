-- What is judged of a state besides its parts: that no count runs ahead, that each run is where the mix and the device are, that no two
-- descriptors hold one slot, and that the members of groups wait.
use Rattle.std.specs.Prelude.{◌≡◌, ◌<◌, ◌-◌, ◌*◌, ℕ, Bool, true, false, not, ◌&&◌, ◌||◌, nat_le, List, Option, Some, None, slice_get, slice_index_or}
use Rattle.pcm_engine.specs.Types.{Held, Here, MapBook, PlayBook, Rate, RecordBook}
use Rattle.pcm_desk.specs.Channels.{by_way, is_held}
use Rattle.pcm_desk.specs.Own.{is_waiting}
use Rattle.pcm_desk.specs.PlayBooks.{is_draining, is_started, play_settled}
use Rattle.pcm_desk.specs.RunStates.{is_in_setup, is_unheld}
use Rattle.pcm_play.specs.declared.channel.PlayChannelOf.{PlayChannelOf}
use Rattle.pcm_path.specs.Paths.{path_rate}
use Rattle.pcm_vchan.specs.declared.parent.ParentOf.{ParentOf}
use Rattle.pcm_vchan.specs.Parents.{map_channels, play_channels, record_channels}
use Rattle.pcm_engine.specs.Life.{bytes_for_frame}

-- ---- counts

-- no count of a book that plays runs ahead of what is mixed
abbrev pub play_keeps_pace : ℕ → PlayBook → Bool
play_keeps_pace mixed book = nat_le book.given mixed && nat_le book.done (bytes_for_frame * (mixed - book.given))

-- it started no later, and where it drains, it isn't over
abbrev pub play_is_here : Rate → Here → PlayBook → Bool
play_is_here rate here book = (not (is_started book.state) || nat_le book.last here.mixed)
    && (not (is_draining book.state) || is_draining (play_settled rate here.passed book).state)

-- a channel that plays is where the mix and the device are
abbrev pub play_is_in_place : {B : Type 0} → Here → PlayChannelOf B → Bool
play_is_in_place here channel = play_keeps_pace here.mixed channel.book
    && (nat_le channel.book.written (18446744073709551615 - channel.book.done) && play_is_here (path_rate channel.path) here channel.book)

-- no count of a recording runs ahead of what the device was given, and of so many bytes
abbrev pub record_keeps_pace : ℕ → ℕ → RecordBook → Bool
record_keeps_pace handed most book = nat_le book.captured handed && nat_le book.kept most

-- no count of a mapped run runs ahead of what is mixed
abbrev pub map_keeps_pace : ℕ → MapBook → Bool
map_keeps_pace mixed book = nat_le book.given mixed

-- ---- descriptors

-- there is one, and it is so
abbrev pub some_is : {A : Type 0} → (A → Bool) → Option A → Bool
some_is test None = false
some_is test (Some it) = test it

-- a slot is there, and a descriptor may hold its channel
abbrev pub is_held_there : {B : Type 0} → ParentOf B → Held → Bool
is_held_there parent held = by_way held.way
    (some_is (λ channel. is_held channel.book.state) (slice_get (play_channels parent) held.slot))
    (some_is (λ channel. not (is_unheld channel.book.state)) (slice_get (record_channels parent) held.slot))
    (some_is (λ channel. not (is_unheld channel.book.state)) (slice_get (map_channels parent) held.slot))

-- so it is of what a descriptor holds, if it is open
abbrev pub is_held_or_shut : {B : Type 0} → ParentOf B → Option Held → Bool
is_held_or_shut parent None = true
is_held_or_shut parent (Some held) = is_held_there parent held

-- no two numbers of what descriptors hold are one, but that of those which are shut
abbrev pub StandOnce : List ℕ → Type 0
StandOnce numbers = (fd other : ℕ) → 0 < slice_index_or numbers fd 0 → slice_index_or numbers fd 0 ≡ slice_index_or numbers other 0 → fd ≡ other

-- ---- groups

-- a channel that plays waits for its group
abbrev pub play_waits : PlayBook → Bool
play_waits book = is_waiting book.state && not book.opening.trigger

-- and one that records
abbrev pub record_waits : RecordBook → Bool
record_waits book = is_in_setup book.state && not book.opening.trigger

-- each slot of these that has a group is there, and waits
abbrev pub WaitInGroups : {A : Type 0} → (A → Bool) → List ℕ → List A → Type 0
WaitInGroups waits groups channels = (slot : ℕ) → 0 < slice_index_or groups slot 0 → some_is waits (slice_get channels slot) ≡ true
