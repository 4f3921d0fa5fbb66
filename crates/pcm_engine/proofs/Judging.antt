-- What passed all tests is in order.
use Rattle.std.proofs.Common.{◌≡◌, ℕ, zero, suc, ◌<◌, ◌≤◌, ◌*◌, ◌-◌, ℤ, Bool, true, false, if◌then◌else◌, Option, Some, None, List, [], ◌∷◌, length, get_or, map, inl, inr, refl, sym, ap, ◌∙◌, subst, arith, true≢false}
use Rattle.std.specs.Prelude.{All, not, ◌&&◌, ◌||◌, nat_le, slice_get}
use Rattle.std.specs.List.{list_all}
use Rattle.std.proofs.lemmas.Bool.{and_parts, cases_Bool, cases_lt}
use Rattle.std.proofs.lemmas.Bool.Decides.{nat_tests}
use Rattle.std.proofs.lemmas.List.{get_or_past, length-map}
use Rattle.std.proofs.lemmas.List.Elements.{All-map}
use Rattle.std.proofs.lemmas.List.Sums.{AllPass-from_list_all}
use Rattle.pcm_engine.specs.Types.{Filters, Held, Here, Kept, Kind, MapBook, PlayBook, PlayState, Rate, RecordBook, Way}
use Rattle.pcm_oss.specs.declared.event.Way.TheVariants.{Play, Record, Map}
use Rattle.pcm_oss.specs.declared.fragments.TheConstants.{RING_BYTES}
use Rattle.pcm_desk.specs.declared.play_book.PlayState.TheVariants.{Free, Setup, Draining}
use Rattle.pcm_desk.specs.Channels.{is_held, may_be_held}
use Rattle.pcm_desk.specs.Device.{DeviceSeen}
use Rattle.pcm_desk.specs.Desk.{channel_at, held_by, is_member, map_unopened, play_unopened, record_unopened}
use Rattle.pcm_desk.specs.Own.{HoldApart, MembersWait, Waits, slots_of}
use Rattle.pcm_desk.specs.PlayBooks.{finished, is_draining, is_over, is_play_free, is_started, play_settled, play_settled_in}
use Rattle.pcm_desk.specs.PlaySafe.{PlayIsHere}
use Rattle.pcm_desk.specs.RunStates.{is_unheld}
use Rattle.pcm_plan.specs.Plans.{PlanSeen, rate_in_plan}
use Rattle.pcm_path.specs.Paths.{path_rate}
use Rattle.pcm_play.specs.declared.channel.PlayChannelOf.{PlayChannelOf}
use Rattle.pcm_play.specs.Channels.{IsPlayHere, IsPlayServed}
use Rattle.pcm_record.specs.declared.channel.RecordChannelOf.{RecordChannelOf}
use Rattle.pcm_map.specs.declared.channel.MapChannelOf.{MapChannelOf}
use Rattle.pcm_state.specs.HeldRows.{held_number, held_row}
use Rattle.pcm_vchan.specs.declared.parent.ParentOf.{ParentOf}
use Rattle.pcm_vchan.specs.Parents.{here_of, map_channels, play_channels, record_channels, AreServed}
use Rattle.pcm_engine.specs.declared.descriptors.Descriptors.{Descriptors}
use Rattle.pcm_engine.specs.Desks.{desk_with}
use Rattle.pcm_engine.specs.Invariants.{PartsInOrder}
use Rattle.pcm_engine.specs.Judged.{StandOnce, is_held_there, is_held_or_shut, map_keeps_pace, play_is_here, play_is_in_place, play_keeps_pace, play_waits, record_keeps_pace, record_waits, some_is}
use Rattle.pcm_engine.specs.Life.{KeepsPace, MapKeepsPace, PlayKeepsPace, RecordKeepsPace}
use Rattle.pcm_engine.specs.Loads.{AreInPlace}
use Rattle.pcm_engine.specs.declared.limits.TheConstants.{LIFE}

-- ---- counts

play-paced : (mixed : ℕ) (book : PlayBook) → play_keeps_pace mixed book ≡ true → PlayKeepsPace mixed book
play-paced mixed book passes =
    let both : (book.given ≤ mixed) × (book.done ≤ 1536 * (mixed - book.given)) = grind (arith, nat_tests) in
    record { played = omega (arith, both.0, both.1) }

record-paced : (handed : ℕ) (book : RecordBook) → record_keeps_pace handed (RING_BYTES * handed) book ≡ true → RecordKeepsPace handed book
record-paced handed book passes =
    let both : (book.captured ≤ handed) × (book.kept ≤ 131072 * handed) = grind (arith, nat_tests) in
    record { captured = both.0; kept = both.1 }

map-paced : (mixed : ℕ) (book : MapBook) → map_keeps_pace mixed book ≡ true → MapKeepsPace mixed book
map-paced mixed book passes = record { given = grind (arith, nat_tests) }

-- a run that was settled and drains still isn't over
left-by : (over closed : Bool) (book : PlayBook) → is_draining (if over then finished (if closed then Free else Setup) book else book).state ≡ true → over ≡ false
left-by true true book drains = absurd (true≢false (sym drains))
left-by true false book drains = absurd (true≢false (sym drains))
left-by false closed book drains = refl

left-in : (rate : Rate) (passed : ℤ) (state : PlayState) (book : PlayBook) → is_draining state ≡ true → is_draining (play_settled_in rate passed state book).state ≡ true → is_over rate passed book ≡ false
left-in rate passed (Draining closed) book drains still = left-by (is_over rate passed book) closed book still
left-in rate passed state book drains still = absurd (true≢false (sym drains))

or-so : (a b : Bool) → (not a || b) ≡ true → a ≡ true → b ≡ true
or-so true b both is = both
or-so false b both is = absurd (true≢false (sym is))

play-here : (rate : Rate) (here : Here) (book : PlayBook) → play_is_here rate here book ≡ true → PlayIsHere rate here book
play-here rate here book passes =
    let (started, left) = and_parts (not (is_started book.state) || nat_le book.last here.mixed) (not (is_draining book.state) || is_draining (play_settled rate here.passed book).state) passes in
    record {
      last = λ is. (let least = or-so (is_started book.state) (nat_le book.last here.mixed) started is in grind (arith, nat_tests));
      left = λ drains. left-in rate here.passed book.state book drains (or-so (is_draining book.state) (is_draining (play_settled rate here.passed book).state) left drains);
    }

-- a free channel has no run
free-unstarted : (state : PlayState) → is_play_free state ≡ true → is_started state ≡ false
free-unstarted Free free = refl
free-unstarted state free = absurd (true≢false (sym free))

free-undraining : (state : PlayState) → is_play_free state ≡ true → is_draining state ≡ false
free-undraining Free free = refl
free-undraining state free = absurd (true≢false (sym free))

-- so it is anywhere
pub free-here : (rate : Rate) (here : Here) (book : PlayBook) → is_play_free book.state ≡ true → PlayIsHere rate here book
free-here rate here book free = record {
  last = λ started. absurd (true≢false (sym started ∙ free-unstarted book.state free));
  left = λ drains. absurd (true≢false (sym drains ∙ free-undraining book.state free));
}

-- a channel goes by the rate of its plan, unless it is free
here-served : {B : Type 0} (filters : Filters) (here : Here) (channel : PlayChannelOf B) → IsPlayServed filters channel → PlayIsHere (path_rate channel.path) here channel.book → IsPlayHere filters here channel
here-served filters here channel served is =
    elim (cases_Bool (is_play_free channel.book.state)) [
      | inl free ↦ free-here _ here channel.book free
      | inr used ↦ subst (λ (plan : PlanSeen). PlayIsHere (rate_in_plan plan) here channel.book) (served used).plan_is is
    ]

-- each that passed keeps pace, and is here
placed : {B : Type 0} (here : Here) (channel : PlayChannelOf B) → play_is_in_place here channel ≡ true → PlayKeepsPace here.mixed channel.book × PlayIsHere (path_rate channel.path) here channel.book
placed here channel passes =
    let (pace, rest) = and_parts (play_keeps_pace here.mixed channel.book) (nat_le channel.book.written (18446744073709551615 - channel.book.done) && play_is_here (path_rate channel.path) here channel.book) passes in
    let (few, is) = and_parts (nat_le channel.book.written (18446744073709551615 - channel.book.done)) (play_is_here (path_rate channel.path) here channel.book) rest in
    (play-paced here.mixed channel.book pace, play-here (path_rate channel.path) here channel.book is)

pub paced : {B : Type 0} (parent : ParentOf B) (descriptors : Descriptors) → AreInPlace parent descriptors → KeepsPace (desk_with parent descriptors)
paced {B} parent descriptors is = record {
  playing = All-map (PlayKeepsPace parent.mixed) (λ (channel : PlayChannelOf B). channel.book) (play_channels parent)
      (λ slot other there. (placed (here_of parent) (get_or (play_channels parent) slot other) (AllPass-from_list_all _ (play_channels parent) is.playing slot other there)).0);
  recording = All-map (RecordKeepsPace parent.handed) (λ (channel : RecordChannelOf B). channel.book) (record_channels parent)
      (λ slot other there. record-paced parent.handed (get_or (record_channels parent) slot other).book (AllPass-from_list_all _ (record_channels parent) is.recording slot other there));
  mapped = All-map (MapKeepsPace parent.mixed) (λ (channel : MapChannelOf B). channel.book) (map_channels parent)
      (λ slot other there. map-paced parent.mixed (get_or (map_channels parent) slot other).book (AllPass-from_list_all _ (map_channels parent) is.mapped slot other there));
}

pub all-here : {B : Type 0} (kind : B → Kind) (kept : B → Kept) (filters : Filters) (parent : ParentOf B) (descriptors : Descriptors) → AreServed kind kept filters parent → AreInPlace parent descriptors
    → All (IsPlayHere filters (here_of parent)) (play_channels parent)
all-here {B} kind kept filters parent descriptors served is slot other there =
    let channel = get_or (play_channels parent) slot other in
    here-served filters (here_of parent) channel (served.ready slot other there).planned (placed (here_of parent) channel (AllPass-from_list_all _ (play_channels parent) is.playing slot other there)).1

-- ---- descriptors

-- what is so in a slot is there
some-there : {A : Type 0} (test : A → Bool) (list : List A) (slot : ℕ) → some_is test (slice_get list slot) ≡ true → slot < length list
some-there test [] slot is = absurd (true≢false (sym is))
some-there test (one ∷ list) zero is = omega arith
some-there test (one ∷ list) (suc slot) is = omega (arith, some-there test list slot is)

some-so : {A : Type 0} (test : A → Bool) (list : List A) (slot : ℕ) (other : A) → some_is test (slice_get list slot) ≡ true → test (get_or list slot other) ≡ true
some-so test [] slot other is = absurd (true≢false (sym is))
some-so test (one ∷ list) zero other is = is
some-so test (one ∷ list) (suc slot) other is = some-so test list slot other is

-- and so is its book
book-so : {A K : Type 0} (book : A → K) (test : K → Bool) (list : List A) (slot : ℕ) (none : K) → some_is (λ it. test (book it)) (slice_get list slot) ≡ true → test (get_or (map book list) slot none) ≡ true
book-so book test [] slot none is = absurd (true≢false (sym is))
book-so book test (one ∷ list) zero none is = is
book-so book test (one ∷ list) (suc slot) none is = book-so book test list slot none is

taken-there : {B : Type 0} (parent : ParentOf B) (descriptors : Descriptors) (way : Way) (slot : ℕ) → is_held_there parent (record { way = way; slot = slot }) ≡ true → slot < slots_of (desk_with parent descriptors) way
taken-there {B} parent descriptors Play slot is =
    omega (arith, some-there (λ (channel : PlayChannelOf B). is_held channel.book.state) (play_channels parent) slot is, length-map (play_channels parent) (λ (channel : PlayChannelOf B). channel.book))
taken-there {B} parent descriptors Record slot is =
    omega (arith, some-there (λ (channel : RecordChannelOf B). not (is_unheld channel.book.state)) (record_channels parent) slot is, length-map (record_channels parent) (λ (channel : RecordChannelOf B). channel.book))
taken-there {B} parent descriptors Map slot is =
    omega (arith, some-there (λ (channel : MapChannelOf B). not (is_unheld channel.book.state)) (map_channels parent) slot is, length-map (map_channels parent) (λ (channel : MapChannelOf B). channel.book))

taken-held : {B : Type 0} (device : DeviceSeen) (parent : ParentOf B) (descriptors : Descriptors) (way : Way) (slot : ℕ) → is_held_there parent (record { way = way; slot = slot }) ≡ true
    → may_be_held (channel_at device (desk_with parent descriptors) (record { way = way; slot = slot })) ≡ true
taken-held {B} device parent descriptors Play slot is =
    book-so (λ (channel : PlayChannelOf B). channel.book) (λ (book : PlayBook). is_held book.state) (play_channels parent) slot (play_unopened device) is
taken-held {B} device parent descriptors Record slot is =
    book-so (λ (channel : RecordChannelOf B). channel.book) (λ (book : RecordBook). not (is_unheld book.state)) (record_channels parent) slot (record_unopened device) is
taken-held {B} device parent descriptors Map slot is =
    book-so (λ (channel : MapChannelOf B). channel.book) (λ (book : MapBook). not (is_unheld book.state)) (map_channels parent) slot (map_unopened device) is

-- an open descriptor is one of all
open-there : (list : List (Option Held)) (fd : ℕ) (held : Held) → get_or list fd None ≡ Some held → fd < length list
open-there list fd held is = elim (cases_lt fd (length list)) [
  | inl there ↦ there
  | inr past ↦ (let none : None ≡ Some held = sym (get_or_past list fd None past) ∙ is in cc)
]

open-taken : {B : Type 0} (parent : ParentOf B) (descriptors : Descriptors) → list_all (is_held_or_shut parent) descriptors.held.value ≡ true
    → (fd : ℕ) (held : Held) → held_by (desk_with parent descriptors) fd ≡ Some held → is_held_there parent held ≡ true
open-taken parent descriptors all fd held is =
    sym (ap (is_held_or_shut parent) is) ∙ AllPass-from_list_all _ descriptors.held.value all fd None (open-there descriptors.held.value fd held is)

pub number-at : (list : List (Option Held)) (fd : ℕ) → get_or (held_row list) fd 0 ≡ held_number (get_or list fd None)
number-at [] fd = refl
number-at (one ∷ list) zero = refl
number-at (one ∷ list) (suc fd) = number-at list fd

pub held-apart : {B : Type 0} (parent : ParentOf B) (descriptors : Descriptors) → list_all (is_held_or_shut parent) descriptors.held.value ≡ true → StandOnce (held_row descriptors.held.value) → HoldApart (desk_with parent descriptors)
held-apart parent descriptors all apart = record {
  within = λ fd held is. taken-there parent descriptors held.way held.slot (open-taken parent descriptors all fd held is);
  taken = λ fd held device is. taken-held device parent descriptors held.way held.slot (open-taken parent descriptors all fd held is);
  apart = λ fd other held theirs is its same.
      let mine : get_or (held_row descriptors.held.value) fd 0 ≡ held_number (Some held) = number-at descriptors.held.value fd ∙ ap held_number is in
      let other_is : get_or (held_row descriptors.held.value) other 0 ≡ held_number (Some theirs) = number-at descriptors.held.value other ∙ ap held_number its in
      apart fd other (omega (arith, mine)) (mine ∙ ap (λ (it : Held). held_number (Some it)) same ∙ sym other_is);
}

-- ---- groups

waiting : (a b : Bool) → (a && not b) ≡ true → (a ≡ true) × (b ≡ false)
waiting true false is = (refl, refl)
waiting true true is = absurd (true≢false (sym is))
waiting false b is = absurd (true≢false (sym is))

members-wait-in : {B : Type 0} (device : DeviceSeen) (parent : ParentOf B) (descriptors : Descriptors) → AreInPlace parent descriptors → (way : Way) (slot : ℕ)
    → is_member (desk_with parent descriptors) (record { way = way; slot = slot }) ≡ true → Waits (channel_at device (desk_with parent descriptors) (record { way = way; slot = slot }))
members-wait-in {B} device parent descriptors is Play slot member =
    let so = book-so (λ (channel : PlayChannelOf B). channel.book) play_waits (play_channels parent) slot (play_unopened device) (is.players slot (grind (arith, nat_tests))) in
    waiting _ _ so
members-wait-in {B} device parent descriptors is Record slot member =
    let so = book-so (λ (channel : RecordChannelOf B). channel.book) record_waits (record_channels parent) slot (record_unopened device) (is.recorders slot (grind (arith, nat_tests))) in
    waiting _ _ so
members-wait-in {B} device parent descriptors is Map slot member = absurd (true≢false (sym member))

pub members-wait : {B : Type 0} (device : DeviceSeen) (parent : ParentOf B) (descriptors : Descriptors) → AreInPlace parent descriptors → MembersWait device (desk_with parent descriptors)
members-wait device parent descriptors is held member = members-wait-in device parent descriptors is held.way held.slot member

-- ---- all of them

pub judged-in-order : {B : Type 0} (kind : B → Kind) (kept : B → Kept) (filters : Filters) (parent : ParentOf B) (descriptors : Descriptors) → AreServed kind kept filters parent → AreInPlace parent descriptors
    → StandOnce (held_row descriptors.held.value) → parent.handed ≤ LIFE → PartsInOrder parent descriptors
judged-in-order kind kept filters parent descriptors served is apart life = record {
  own = record { playing = served.own; recording = served.recorders_own; mapped = served.maps_own };
  apart = held-apart parent descriptors is.taken apart;
  pace = paced parent descriptors is;
  life = life;
}
