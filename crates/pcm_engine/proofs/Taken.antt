-- What was saved of an engine can be loaded, and is in order then.
use Rattle.std.proofs.Common.{◌≡◌, ℕ, ◌≤◌, ◌-◌, List, [], ◌∷◌, ◌++◌, length, get_or, take, drop, All, Result, Ok, Err, refl, sym, ap, ◌∙◌, subst, arith, true, true≢false}
use Rattle.std.specs.Prelude.{is_ok, replicate, IfErr, IsErrAnd}
use Rattle.std.proofs.Math.Seq.{take-append_seam}
use Rattle.std.proofs.lemmas.List.{length-append}
use Rattle.std.proofs.lemmas.List.Elements.{All-head, All-tail}
use Rattle.pcm_sequence.proofs.Items.{items-count}
use Rattle.pcm_engine.specs.Types.{Device, Filters, Kept, Kind}
use Rattle.pcm_desk.specs.Device.{DeviceSeen, seen}
use Rattle.pcm_desk.specs.Own.{HoldApart, MembersWait}
use Rattle.pcm_path.specs.declared.path.PathOf.{PathOf}
use Rattle.pcm_play.specs.declared.channel.PlayChannelOf.{PlayChannelOf}
use Rattle.pcm_play.specs.Channels.{IsPlayReady}
use Rattle.pcm_record.specs.declared.channel.RecordChannelOf.{RecordChannelOf}
use Rattle.pcm_record.specs.Channels.{IsRecordReady}
use Rattle.pcm_map.specs.declared.channel.MapChannelOf.{MapChannelOf}
use Rattle.pcm_map.specs.Channels.{IsMapReady}
use Rattle.pcm_vchan.specs.declared.parent.ParentOf.{ParentOf}
use Rattle.pcm_vchan.specs.Parents.{map_channels, play_channels, record_channels, HasBus}
use Rattle.pcm_digest.specs.Digests.{digest_of}
use Rattle.pcm_state.specs.GroupRows.{groups_row}
use Rattle.pcm_state.specs.HeldRows.{held_row}
use Rattle.pcm_state.specs.MapRows.{FitsMap}
use Rattle.pcm_state.specs.Numbers.{spelled_numbers}
use Rattle.pcm_state.specs.PlayRows.{FitsPlay}
use Rattle.pcm_state.specs.RecordRows.{FitsRecord}
use Rattle.pcm_state.proofs.Spelled.{length-numbers}
use Rattle.pcm_save.specs.Parents.{parent_state, CanParentBeLoaded, FitsParent}
use Rattle.pcm_save.specs.Parts.{HasRow, IsPart}
use Rattle.pcm_save.specs.States.{devices_of, CanAllBeLoaded}
use Rattle.pcm_save.proofs.AlikeParents.{parents-known}
use Rattle.pcm_save.proofs.Joining.{behind}
use Rattle.pcm_save.proofs.Taken.{front-left, row-front, rows-same}
use Rattle.pcm_engine.specs.declared.descriptors.Descriptors.{Descriptors}
use Rattle.pcm_engine.specs.declared.engine.EngineOf.{EngineOf}
use Rattle.pcm_engine.specs.declared.limits.TheConstants.{LIFE}
use Rattle.pcm_engine.specs.declared.load_fault.LoadFault.{LoadFault}
use Rattle.pcm_engine.specs.declared.load_fault.LoadFault.TheVariants.{Memory, Foreign}
use Rattle.pcm_engine.specs.declared.load_fault.LoadFault.TheVariants as whole
use Rattle.pcm_engine.specs.Desks.{desk_with}
use Rattle.pcm_engine.specs.Engines.{BooksAreHere, desk_of, device_of}
use Rattle.pcm_engine.specs.Life.{KeepsPace}
use Rattle.pcm_engine.specs.LoadFaults.{AreNamed, IsCause}
use Rattle.pcm_engine.specs.Loads.{AreInPlace, IsParentFrom}
use Rattle.pcm_engine.specs.Saved.{descriptors_state, head_row, AreWhole, HasState, IsEngineOf}
use Rattle.pcm_engine.proofs.Cloning.{desk-alike}
use Rattle.pcm_engine.proofs.InOrder.{served}
use Rattle.pcm_engine.proofs.KnownByState.{descriptors-known, SameDescriptors}
use Rattle.pcm_engine.proofs.Loading.{AreMade}
use Rattle.pcm_engine.proofs.Placed.{in-place}
use Rattle.pcm_engine.proofs.Saving.{length-groups, length-held}

-- ---- what a new parent is loaded from

-- the devices of channels that are all of one
devices-all : {B C : Type 0} (path : C → PathOf B) (channels : List C) (device : Device) → All (λ channel. (path channel).device ≡ device) channels → devices_of path channels ≡ replicate (length channels) device
devices-all path [] device own = refl
devices-all {B} {C} path (channel ∷ channels) device own =
    let owns : C → Type 0 = λ it. (path it).device ≡ device in
    ap (λ (d : Device). d ∷ devices_of path channels) (All-head owns channel channels own)
    ∙ ap (λ (list : List Device). device ∷ list) (devices-all path channels device (All-tail owns channel channels own))

-- as many channels of the same device
way-can : {B C : Type 0} (path : C → PathOf B) (ready : Filters → C → Type 0) (fits : C → Type 0) (filters : Filters) (device : Device) (saved channels : List C) → All (ready filters) saved → All fits saved
    → All (λ channel. (path channel).device ≡ device) saved → All (λ channel. (path channel).device ≡ device) channels → length saved ≡ length channels → CanAllBeLoaded path ready fits filters saved channels
way-can path ready fits filters device saved channels are fit its own count = record {
  are_ready = are;
  fit = fit;
  devices = devices-all path saved device its ∙ ap (λ (n : ℕ). replicate n device) count ∙ sym (devices-all path channels device own);
}

pub parent-can : {B : Type 0} (kind : B → Kind) (kept : B → Kept) (device : Device) (filters : Filters) (bytes : List ℕ) (engine : EngineOf B) (parent : ParentOf B) → IsEngineOf device filters engine → HasState kind kept bytes engine
    → FitsParent engine.parent → AreMade device parent → CanParentBeLoaded kind kept filters engine.parent parent
parent-can {B} kind kept device filters bytes engine parent of has fits made =
    let own = engine.order.own in
    let ready = has.ready in
    let slots = has.whole.parent.slots in
    let same : engine.parent.device ≡ parent.device = of.device_is ∙ sym made.device_is in
    record {
      output = record {
        device = same;
        bus = subst (λ (f : Filters). HasBus kept (seen f engine.parent.device) engine.parent) of.filters_are ready.bus;
        mixer = has.whole.parent.mixer;
      };
      slots = record {
        playing = way-can (λ (channel : PlayChannelOf B). channel.path) (IsPlayReady kind kept) (λ channel. FitsPlay channel.book) filters device (play_channels engine.parent) (play_channels parent)
            (subst (λ (f : Filters). All (IsPlayReady kind kept f) (play_channels engine.parent)) of.filters_are ready.playing) fits.playing
            (λ slot other there. own.playing slot other there ∙ of.device_is) made.playing
            (slots.playing ∙ ap (λ (d : Device). d.play_slots) same ∙ sym parent.slots ∙ sym (items-count parent.channels));
        recording = way-can (λ (channel : RecordChannelOf B). channel.path) (IsRecordReady kind kept) (λ channel. FitsRecord channel.book) filters device (record_channels engine.parent) (record_channels parent)
            (subst (λ (f : Filters). All (IsRecordReady kind kept f) (record_channels engine.parent)) of.filters_are ready.recording) fits.recording
            (λ slot other there. own.recording slot other there ∙ of.device_is) made.recording
            (slots.recording ∙ ap (λ (d : Device). d.record_slots) same ∙ sym parent.recorders_count ∙ sym (items-count parent.recorders));
        mapped = way-can (λ (channel : MapChannelOf B). channel.path) (IsMapReady kind kept) (λ channel. FitsMap channel.book) filters device (map_channels engine.parent) (map_channels parent)
            (subst (λ (f : Filters). All (IsMapReady kind kept f) (map_channels engine.parent)) of.filters_are ready.mapped) fits.mapped
            (λ slot other there. own.mapped slot other there ∙ of.device_is) made.mapped
            (slots.mapped ∙ ap (λ (d : Device). d.map_slots) same ∙ sym parent.maps_count ∙ sym (items-count parent.maps));
      };
    }

-- ---- what was loaded

-- a parent and descriptors whose bytes are an engine's are where the mix and the device are
pub same-place : {B : Type 0} (kind : B → Kind) (kept : B → Kept) (device : Device) (filters : Filters) (handed : ℕ) (bytes rest : List ℕ) (engine : EngineOf B) (parent : ParentOf B) (descriptors : Descriptors) → IsEngineOf device filters engine
    → HasState kind kept bytes engine → IsParentFrom kind kept filters device handed rest parent → rest ≡ parent_state kept engine.parent → handed ≡ engine.parent.handed → descriptors.held.value ≡ engine.descriptors.held.value
    → descriptors.groups ≡ engine.descriptors.groups → AreInPlace parent descriptors
same-place {B} kind kept device filters handed bytes rest engine parent descriptors of has from is given held groups =
    let same : parent.device ≡ engine.parent.device = from.device_is ∙ sym of.device_is in
    let at : seen filters parent.device ≡ device_of engine = ap (seen filters) same ∙ ap (λ (f : Filters). seen f engine.parent.device) (sym of.filters_are) in
    let bus = subst (λ (d : Device). HasBus kept (seen filters d) parent) (sym from.device_is) from.bus in
    let like = parents-known kind kept filters engine.parent parent (record {
      device_same = same;
      handed_same = from.handed_is ∙ given;
      one_served = rw (sym of.filters_are) (served has.ready);
      other_served = from.served;
      one_bus = subst (λ (f : Filters). HasBus kept (seen f engine.parent.device) engine.parent) of.filters_are has.ready.bus;
      other_bus = bus;
      one_whole = has.whole.parent;
      other_whole = from.whole;
    }) (from.told ∙ is) in
    let desk : desk_with parent descriptors ≡ desk_of engine = desk-alike kind kept (seen filters engine.parent.device) engine.parent parent engine.descriptors descriptors like held groups in
    in-place kind kept filters parent descriptors from.served bus
    (record {
      own = record { playing = from.served.own; recording = from.served.recorders_own; mapped = from.served.maps_own };
      apart = subst HoldApart (sym desk) engine.order.apart;
      pace = subst KeepsPace (sym desk) engine.order.pace;
      life = subst (λ (n : ℕ). n ≤ LIFE) (sym (from.handed_is ∙ given)) engine.order.life;
    })
    (subst (λ (d : DeviceSeen). BooksAreHere d (desk_with parent descriptors)) (sym at) (subst (BooksAreHere (device_of engine)) (sym desk) has.ready.places))
    (subst (λ (d : DeviceSeen). MembersWait d (desk_with parent descriptors)) (sym at) (subst (MembersWait (device_of engine)) (sym desk) has.ready.members))

-- ---- the bytes of an engine

-- its head comes first
pub head-front : {B : Type 0} (kind : B → Kind) (kept : B → Kept) (device : Device) (filters : Filters) (bytes : List ℕ) (engine : EngineOf B) → IsEngineOf device filters engine → HasState kind kept bytes engine
    → HasRow bytes (head_row (digest_of filters device) engine.parent.handed)
head-front kind kept device filters bytes engine of has =
    let digest : digest_of engine.tables engine.parent.device ≡ digest_of filters device = ap (λ (f : Filters). digest_of f engine.parent.device) of.filters_are ∙ ap (digest_of filters) of.device_is in
    subst (λ (number : ℕ). HasRow bytes (head_row number engine.parent.handed)) digest
    (row-front (head_row (digest_of engine.tables engine.parent.device) engine.parent.handed) (descriptors_state engine.descriptors ++ parent_state kept engine.parent) bytes has.is)

-- then what its descriptors are,
pub head-left : {B : Type 0} (kind : B → Kind) (kept : B → Kept) (bytes : List ℕ) (engine : EngineOf B) → HasState kind kept bytes engine → drop 24 bytes ≡ descriptors_state engine.descriptors ++ parent_state kept engine.parent
head-left kind kept bytes engine has =
    let row = head_row (digest_of engine.tables engine.parent.device) engine.parent.handed in
    front-left bytes (spelled_numbers row) (descriptors_state engine.descriptors ++ parent_state kept engine.parent) 24 has.is (sym (length-numbers row))

-- and then its parent
pub parent-left : {B : Type 0} (kind : B → Kind) (kept : B → Kept) (bytes : List ℕ) (engine : EngineOf B) → HasState kind kept bytes engine → drop 768 (take (length bytes - 24) (drop 24 bytes)) ≡ parent_state kept engine.parent
parent-left kind kept bytes engine has =
    let descriptors = engine.descriptors in
    let groups = spelled_numbers (groups_row descriptors.groups) in
    let held = spelled_numbers (held_row descriptors.held.value) in
    front-left (take (length bytes - 24) (drop 24 bytes)) (descriptors_state descriptors) (parent_state kept engine.parent) 768 (behind bytes 24 ∙ head-left kind kept bytes engine has)
    (omega (arith, length-append groups held, length-groups descriptors has.whole.descriptors, length-held descriptors has.whole.descriptors))

-- what the head told
pub handed-read : {B : Type 0} (kind : B → Kind) (kept : B → Kept) (device : Device) (filters : Filters) (bytes : List ℕ) (handed : ℕ) (engine : EngineOf B) → IsEngineOf device filters engine → HasState kind kept bytes engine
    → HasRow bytes (head_row (digest_of filters device) handed) → handed ≡ engine.parent.handed
handed-read kind kept device filters bytes handed engine of has read =
    ap (λ row. get_or row 2 0) (rows-same bytes (head_row (digest_of filters device) engine.parent.handed) (head_row (digest_of filters device) handed) refl (head-front kind kept device filters bytes engine of has) read)

-- and the descriptors that were read
pub descriptors-read : (one other : Descriptors) (rest : List ℕ) {bytes : List ℕ} → AreWhole one → AreWhole other → IsPart bytes 0 768 (descriptors_state other) → bytes ≡ descriptors_state one ++ rest → SameDescriptors one other [] []
descriptors-read one other rest {bytes} whole its read front =
    let groups = spelled_numbers (groups_row one.groups) in
    let held = spelled_numbers (held_row one.held.value) in
    let long : length (descriptors_state one) ≡ 768 = omega (arith, length-append groups held, length-groups one whole, length-held one whole) in
    let same : descriptors_state other ≡ descriptors_state one = read.is ∙ ap (take 768) front ∙ ap (λ n. take n (descriptors_state one ++ rest)) (sym long) ∙ take-append_seam (descriptors_state one) rest in
    descriptors-known one other [] [] whole its (ap (λ l. l ++ []) same)

-- ---- why bytes are refused

-- for want of memory
pub memory-cause : {B : Type 0} (kind : B → Kind) (kept : B → Kept) (device : Device) (filters : Filters) (bytes : List ℕ) (fault : LoadFault) → fault ≡ Memory → IsCause kind kept device filters bytes fault
memory-cause kind kept device filters bytes fault is = record { saved = λ engine of has fits. is; foreign = λ begins no. absurd (no is); other = λ begins no. absurd (no is) }

-- or by what stands behind a head of this version and this device
pub behind-head : {B : Type 0} (kind : B → Kind) (kept : B → Kept) (device : Device) (filters : Filters) (bytes : List ℕ) (handed : ℕ) (fault : LoadFault) → HasRow bytes (head_row (digest_of filters device) handed)
    → ((engine : EngineOf B) → IsEngineOf device filters engine → HasState kind kept bytes engine → FitsParent engine.parent → fault ≡ Memory) → IsCause kind kept device filters bytes fault
behind-head kind kept device filters bytes handed fault head saved =
    let row = head_row (digest_of filters device) handed in
    record {
      saved = saved;
      foreign = λ is no. absurd (is.other (ap (λ list. get_or list 0 0) (rows-same bytes row (is.version ∷ is.digest ∷ is.handed ∷ []) refl head is.row)));
      other = λ is no. absurd (is.other (ap (λ list. get_or list 1 0) (rows-same bytes row (head_row is.digest is.handed) refl head is.row)));
    }

abbrev refusal : (X : Type 0) → LoadFault → Result X LoadFault
refusal X fault = Err fault

abbrev fault_or : {X : Type 0} → LoadFault → Result X LoadFault → LoadFault
fault_or other (Ok made) = other
fault_or other (Err fault) = fault

err-same : {X : Type 0} (one other : LoadFault) → refusal X one ≡ refusal X other → one ≡ other
err-same {X} one other same = ap (λ (result : Result X LoadFault). fault_or other result) same

-- the cause of what is handed on
pub refused-as : {X : Type 0} (P : LoadFault → Type 0) (fault : LoadFault) (result : Result X LoadFault) → IsErrAnd result (λ found. found ≡ fault) → P fault → IfErr result P
refused-as P fault (Ok made) same holds = tt
refused-as P fault (Err found) same holds = subst P (sym same) holds

-- or by its head
pub head-cause : {B X : Type 0} (kind : B → Kind) (kept : B → Kept) (device : Device) (filters : Filters) (bytes : List ℕ) (fault : LoadFault) → AreNamed filters device bytes (refusal X fault)
    → ((handed : ℕ) → HasRow bytes (head_row (digest_of filters device) handed) → handed ≤ LIFE → is_ok (refusal X fault) ≡ true) → IsCause kind kept device filters bytes fault
head-cause kind kept device filters bytes fault named taken = record {
  saved = λ engine of has fits. absurd (true≢false (sym (taken engine.parent.handed (head-front kind kept device filters bytes engine of has) engine.order.life)));
  foreign = λ is no. err-same fault Foreign (named.foreign is);
  other = λ is no. err-same fault whole.Device (named.other is);
}
