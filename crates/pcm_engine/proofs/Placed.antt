-- What is in order passes all tests.
use Rattle.std.proofs.Common.{◌≡◌, ℕ, zero, suc, ◌+◌, ◌<◌, ◌≤◌, ◌*◌, ◌-◌, ◌^◌, ℤ, Bool, true, false, if◌then◌else◌, Option, Some, None, List, [], ◌∷◌, get_or, map, inl, inr, refl, sym, ap, ◌∙◌, subst, arith, true≢false}
use Rattle.std.specs.Prelude.{not, ◌&&◌, ◌||◌, nat_le, slice_get}
use Rattle.std.proofs.lemmas.Bool.{and_from, cases_Bool}
use Rattle.std.proofs.lemmas.Bool.Decides.{nat_tests}
use Rattle.std.proofs.lemmas.List.{get_or_default}
use Rattle.std.proofs.lemmas.List.Sums.{list_all-from_AllPass}
use Rattle.pcm_engine.specs.Types.{Filters, Held, Here, Kept, Kind, MapBook, PlayBook, PlayState, Rate, RecordBook, Way}
use Rattle.pcm_oss.specs.declared.event.Way.TheVariants.{Play, Record, Map}
use Rattle.pcm_oss.specs.declared.fragments.TheConstants.{RING_BYTES}
use Rattle.pcm_desk.specs.declared.play_book.PlayState.TheVariants.{Free, Setup, Draining}
use Rattle.pcm_desk.specs.Channels.{is_held, may_be_held}
use Rattle.pcm_desk.specs.Device.{DeviceSeen, seen}
use Rattle.pcm_desk.specs.Desk.{channel_at, held_by, is_member, map_unopened, play_unopened, record_unopened}
use Rattle.pcm_desk.specs.Own.{HoldApart, MembersWait}
use Rattle.pcm_desk.specs.PlayBooks.{finished, is_draining, is_over, is_play_free, is_started, play_settled, play_settled_in}
use Rattle.pcm_desk.specs.PlaySafe.{PlayIsHere}
use Rattle.pcm_desk.specs.RunStates.{is_unheld}
use Rattle.pcm_plan.specs.Plans.{PlanSeen, rate_in_plan}
use Rattle.pcm_path.specs.Paths.{path_rate}
use Rattle.pcm_play.specs.declared.channel.PlayChannelOf.{PlayChannelOf}
use Rattle.pcm_play.specs.Channels.{IsPlayHere, IsPlayServed}
use Rattle.pcm_record.specs.declared.channel.RecordChannelOf.{RecordChannelOf}
use Rattle.pcm_map.specs.declared.channel.MapChannelOf.{MapChannelOf}
use Rattle.pcm_state.specs.HeldRows.{held_number, held_row}
use Rattle.pcm_state.proofs.Known.{held-known}
use Rattle.pcm_vchan.specs.declared.parent.ParentOf.{ParentOf}
use Rattle.pcm_vchan.specs.Parents.{here_of, map_channels, play_channels, record_channels, AreServed, HasBus}
use Rattle.pcm_engine.specs.declared.descriptors.Descriptors.{Descriptors}
use Rattle.pcm_engine.specs.Desks.{desk_with}
use Rattle.pcm_engine.specs.Engines.{BooksAreHere}
use Rattle.pcm_engine.specs.Invariants.{PartsInOrder}
use Rattle.pcm_engine.specs.Judged.{StandOnce, WaitInGroups, is_held_there, is_held_or_shut, map_keeps_pace, play_is_here, play_is_in_place, play_keeps_pace, play_waits, record_keeps_pace, record_waits, some_is}
use Rattle.pcm_engine.specs.Life.{MapKeepsPace, PlayKeepsPace, RecordKeepsPace}
use Rattle.pcm_engine.specs.Loads.{AreInPlace}
use Rattle.pcm_engine.proofs.InOrder.{channels-here, map-pace, parent-counted, play-pace, record-pace}
use Rattle.pcm_engine.proofs.Judging.{free-here, number-at}

-- ---- counts

play-passes : (mixed : ℕ) (book : PlayBook) → PlayKeepsPace mixed book → play_keeps_pace mixed book ≡ true
play-passes mixed book pace =
    let played = pace.played in
    let given : book.given ≤ mixed = omega (arith, played) in
    let done : book.done ≤ 1536 * (mixed - book.given) = omega (arith, played) in
    grind (arith, nat_tests)

record-passes : (handed : ℕ) (book : RecordBook) → RecordKeepsPace handed book → record_keeps_pace handed (RING_BYTES * handed) book ≡ true
record-passes handed book pace =
    let captured = pace.captured in
    let kept = pace.kept in
    grind (arith, nat_tests)

map-passes : (mixed : ℕ) (book : MapBook) → MapKeepsPace mixed book → map_keeps_pace mixed book ≡ true
map-passes mixed book pace = (let given = pace.given in grind (arith, nat_tests))

-- a run that isn't over drains still once it is settled
still-by : (over closed : Bool) (book : PlayBook) → over ≡ false → is_draining book.state ≡ true → is_draining (if over then finished (if closed then Free else Setup) book else book).state ≡ true
still-by true closed book left drains = absurd (true≢false left)
still-by false closed book left drains = drains

still-in : (rate : Rate) (passed : ℤ) (state : PlayState) (book : PlayBook) → is_over rate passed book ≡ false → is_draining book.state ≡ true → is_draining (play_settled_in rate passed state book).state ≡ true
still-in rate passed (Draining closed) book left drains = still-by (is_over rate passed book) closed book left drains
still-in rate passed state book left drains = drains

so-or : (a b : Bool) → (a ≡ true → b ≡ true) → (not a || b) ≡ true
so-or true b so = so refl
so-or false b so = refl

here-passes : (rate : Rate) (here : Here) (book : PlayBook) → PlayIsHere rate here book → play_is_here rate here book ≡ true
here-passes rate here book is =
    and_from _ _ (so-or (is_started book.state) (nat_le book.last here.mixed) (λ started. (let last = is.last started in grind (arith, nat_tests))))
    (so-or (is_draining book.state) (is_draining (play_settled rate here.passed book).state) (λ drains. still-in rate here.passed book.state book (is.left drains) drains))

-- a channel is there by the rate of its chain, since that is the rate of its plan, unless it is free
here-by-chain : {B : Type 0} (filters : Filters) (here : Here) (channel : PlayChannelOf B) → IsPlayServed filters channel → IsPlayHere filters here channel → PlayIsHere (path_rate channel.path) here channel.book
here-by-chain filters here channel served is =
    elim (cases_Bool (is_play_free channel.book.state)) [
      | inl free ↦ free-here _ here channel.book free
      | inr used ↦ subst (λ (plan : PlanSeen). PlayIsHere (rate_in_plan plan) here channel.book) (sym (served used).plan_is) is
    ]

place-passes : {B : Type 0} (here : Here) (channel : PlayChannelOf B) → PlayKeepsPace here.mixed channel.book → channel.book.done + channel.book.written < 2 ^ 63 → PlayIsHere (path_rate channel.path) here channel.book
    → play_is_in_place here channel ≡ true
place-passes here channel pace few is =
    let book : PlayBook = channel.book in
    let fits : book.written ≤ 18446744073709551615 - book.done = omega (arith, few) in
    and_from _ _ (play-passes here.mixed book pace) (and_from (nat_le book.written (18446744073709551615 - book.done)) _ (grind (arith, nat_tests)) (here-passes (path_rate channel.path) here book is))

-- ---- descriptors and groups

-- what is so of the book of a slot, and not of one that nobody has opened, is so of a channel that is there
there-so : {A K : Type 0} (book : A → K) (test : K → Bool) (list : List A) (slot : ℕ) (none : K) → test none ≡ false → test (get_or (map book list) slot none) ≡ true → some_is (λ it. test (book it)) (slice_get list slot) ≡ true
there-so book test [] slot none unopened is = absurd (true≢false (sym is ∙ unopened))
there-so book test (one ∷ list) zero none unopened is = is
there-so book test (one ∷ list) (suc slot) none unopened is = there-so book test list slot none unopened is

held-passes : {B : Type 0} (device : DeviceSeen) (parent : ParentOf B) (descriptors : Descriptors) (way : Way) (slot : ℕ)
    → may_be_held (channel_at device (desk_with parent descriptors) (record { way = way; slot = slot })) ≡ true → is_held_there parent (record { way = way; slot = slot }) ≡ true
held-passes {B} device parent descriptors Play slot may =
    there-so (λ (channel : PlayChannelOf B). channel.book) (λ (book : PlayBook). is_held book.state) (play_channels parent) slot (play_unopened device) refl may
held-passes {B} device parent descriptors Record slot may =
    there-so (λ (channel : RecordChannelOf B). channel.book) (λ (book : RecordBook). not (is_unheld book.state)) (record_channels parent) slot (record_unopened device) refl may
held-passes {B} device parent descriptors Map slot may =
    there-so (λ (channel : MapChannelOf B). channel.book) (λ (book : MapBook). not (is_unheld book.state)) (map_channels parent) slot (map_unopened device) refl may

descriptor-passes : {B : Type 0} (device : DeviceSeen) (parent : ParentOf B) (descriptors : Descriptors) (fd : ℕ) (its : Option Held) → HoldApart (desk_with parent descriptors)
    → held_by (desk_with parent descriptors) fd ≡ its → is_held_or_shut parent its ≡ true
descriptor-passes device parent descriptors fd None apart is = refl
descriptor-passes device parent descriptors fd (Some held) apart is = held-passes device parent descriptors held.way held.slot (apart.taken fd held device is)

waiting-both : (a b : Bool) → (a ≡ true) × (b ≡ false) → (a && not b) ≡ true
waiting-both a b both = and_from a (not b) both.0 (ap not both.1)

players-wait : {B : Type 0} (device : DeviceSeen) (parent : ParentOf B) (descriptors : Descriptors) → MembersWait device (desk_with parent descriptors)
    → WaitInGroups (λ (channel : PlayChannelOf B). play_waits channel.book) descriptors.groups.play (play_channels parent)
players-wait {B} device parent descriptors wait slot some =
    let held : Held = record { way = Play; slot = slot } in
    let member : is_member (desk_with parent descriptors) held ≡ true = grind (arith, nat_tests) in
    there-so (λ (channel : PlayChannelOf B). channel.book) play_waits (play_channels parent) slot (play_unopened device) refl (waiting-both _ _ (wait held member))

recorders-wait : {B : Type 0} (device : DeviceSeen) (parent : ParentOf B) (descriptors : Descriptors) → MembersWait device (desk_with parent descriptors)
    → WaitInGroups (λ (channel : RecordChannelOf B). record_waits channel.book) descriptors.groups.recording (record_channels parent)
recorders-wait {B} device parent descriptors wait slot some =
    let held : Held = record { way = Record; slot = slot } in
    let member : is_member (desk_with parent descriptors) held ≡ true = grind (arith, nat_tests) in
    there-so (λ (channel : RecordChannelOf B). channel.book) record_waits (record_channels parent) slot (record_unopened device) refl (waiting-both _ _ (wait held member))

-- ---- all of them

-- A parent and descriptors that are in order pass all tests.
pub in-place : {B : Type 0} (kind : B → Kind) (kept : B → Kept) (filters : Filters) (parent : ParentOf B) (descriptors : Descriptors) → AreServed kind kept filters parent
    → HasBus kept (seen filters parent.device) parent → PartsInOrder parent descriptors → BooksAreHere (seen filters parent.device) (desk_with parent descriptors)
    → MembersWait (seen filters parent.device) (desk_with parent descriptors) → AreInPlace parent descriptors
in-place {B} kind kept filters parent descriptors served has order places wait =
    let device : DeviceSeen = seen filters parent.device in
    let here = channels-here kept filters parent descriptors served.own has places in
    let counted = parent-counted kind kept filters parent descriptors served has order in
    record {
      playing = list_all-from_AllPass _ (play_channels parent) (λ slot other there.
          let channel : PlayChannelOf B = get_or (play_channels parent) slot other in
          place-passes (here_of parent) channel (play-pace order slot other there) (counted slot other there)
          (here-by-chain filters (here_of parent) channel (served.ready slot other there).planned (here slot other there)));
      recording = list_all-from_AllPass _ (record_channels parent) (λ slot other there. record-passes parent.handed (get_or (record_channels parent) slot other).book (record-pace order slot other there));
      mapped = list_all-from_AllPass _ (map_channels parent) (λ slot other there. map-passes parent.mixed (get_or (map_channels parent) slot other).book (map-pace order slot other there));
      taken = list_all-from_AllPass _ descriptors.held.value
          (λ fd other there. descriptor-passes device parent descriptors fd (get_or descriptors.held.value fd other) order.apart (get_or_default descriptors.held.value fd None other there));
      players = players-wait device parent descriptors wait;
      recorders = recorders-wait device parent descriptors wait;
    }

-- ---- numbers of what descriptors hold

-- a number is of one that is held alone
number-known : (one other : Option Held) → held_number one ≡ held_number other → one ≡ other
number-known one other same =
    let alone : one ∷ [] ≡ other ∷ [] = held-known (one ∷ []) (other ∷ []) (ap (λ (number : ℕ). number ∷ []) same) in
    cc

held-once : {B : Type 0} (parent : ParentOf B) (descriptors : Descriptors) (fd other : ℕ) (its : Option Held) → HoldApart (desk_with parent descriptors) → held_by (desk_with parent descriptors) fd ≡ its
    → held_by (desk_with parent descriptors) other ≡ its → 0 < held_number its → fd ≡ other
held-once parent descriptors fd other None apart mine same some = absurd (omega (arith, some))
held-once parent descriptors fd other (Some held) apart mine same some = apart.apart fd other held held mine same refl

-- Of descriptors no two of which hold one slot no two numbers are one.
pub stand-once : {B : Type 0} (parent : ParentOf B) (descriptors : Descriptors) → HoldApart (desk_with parent descriptors) → StandOnce (held_row descriptors.held.value)
stand-once parent descriptors apart fd other some same =
    let list : List (Option Held) = descriptors.held.value in
    let its : Option Held = get_or list fd None in
    let alike = number-known (get_or list other None) its (sym (number-at list other) ∙ sym same ∙ number-at list fd) in
    held-once parent descriptors fd other its apart refl alike (omega (arith, some, number-at list fd))
