-- An engine that was made of bytes has them as its state.
use Rattle.std.proofs.Common.{◌≡◌, ℕ, ◌-◌, List, ◌++◌, length, get_or, take, drop, sym, ap, ◌∙◌, subst, arith}
use Rattle.std.specs.Prelude.{All}
use Rattle.std.proofs.lemmas.List.{length-drop, take-append-drop, take_all}
use Rattle.pcm_engine.specs.Types.{Device, Filters, Here, Kept, Kind, PlayBook}
use Rattle.pcm_desk.specs.Channels.{play_rate_at}
use Rattle.pcm_desk.specs.Desk.{desk_here, play_unopened}
use Rattle.pcm_desk.specs.Device.{DeviceSeen, IsInLimits, seen}
use Rattle.pcm_desk.specs.PlaySafe.{PlayIsHere}
use Rattle.pcm_digest.specs.Digests.{digest_of}
use Rattle.pcm_play.specs.declared.channel.PlayChannelOf.{PlayChannelOf}
use Rattle.pcm_play.specs.Channels.{IsPlayReady}
use Rattle.pcm_record.specs.Channels.{IsRecordReady}
use Rattle.pcm_map.specs.Channels.{IsMapReady}
use Rattle.pcm_vchan.specs.declared.parent.ParentOf.{ParentOf}
use Rattle.pcm_vchan.specs.Parents.{here_of, map_channels, play_channels, record_channels, HasBus}
use Rattle.pcm_state.specs.Numbers.{spelled_numbers}
use Rattle.pcm_save.specs.Parents.{parent_state}
use Rattle.pcm_save.specs.Parts.{HasRow, IsPart}
use Rattle.pcm_engine.specs.declared.descriptors.Descriptors.{Descriptors}
use Rattle.pcm_engine.specs.declared.engine.EngineOf.{EngineOf}
use Rattle.pcm_engine.specs.Engines.{AreReady, desk_of, device_of}
use Rattle.pcm_engine.specs.Loads.{AreInPlace, IsParentFrom}
use Rattle.pcm_engine.specs.Saved.{AreWhole, HasState, descriptors_state, head_row}
use Rattle.pcm_engine.proofs.InOrder.{each_book, here-seen, ready-all}
use Rattle.pcm_engine.proofs.Judging.{all-here, members-wait}

-- a front, the part behind it, and all behind that
pub three-fronts : (bytes one two three : List ℕ) (a b : ℕ) → IsPart bytes 0 a one → IsPart (take (length bytes - a) (drop a bytes)) 0 b two → three ≡ drop b (take (length bytes - a) (drop a bytes)) → bytes ≡ one ++ (two ++ three)
three-fronts bytes one two three a b first second third =
    let rest : take (length bytes - a) (drop a bytes) ≡ drop a bytes = take_all (length bytes - a) (drop a bytes) (omega (arith, length-drop a bytes)) in
    let behind = take (length bytes - a) (drop a bytes) in
    sym (take-append-drop a bytes) ∙ ap (λ l. l ++ drop a bytes) (sym first.is)
    ∙ ap (λ l. one ++ l) (sym rest ∙ sym (take-append-drop b behind) ∙ ap (λ l. l ++ drop b behind) (sym second.is) ∙ ap (λ l. two ++ l) (sym third))

-- the parts of which an engine was made, in its own terms
pub record HasParts {B : Type 0} (kind : B → Kind) (kept : B → Kept) (device : Device) (filters : Filters) (handed : ℕ) (bytes : List ℕ) (engine : EngineOf B) : Type 0 where
  pub from : IsParentFrom kind kept filters device handed bytes engine.parent
  pub place : AreInPlace engine.parent engine.descriptors
  pub whole : AreWhole engine.descriptors
  pub filters_are : engine.tables ≡ filters
  pub limits : IsInLimits (seen filters device)

seen-same : {B : Type 0} (device : Device) (filters : Filters) (engine : EngineOf B) → engine.parent.device ≡ device → engine.tables ≡ filters → device_of engine ≡ seen filters device
seen-same device filters engine is are = ap (λ (d : Device). seen engine.tables d) is ∙ ap (λ (f : Filters). seen f device) are

pub parts-ready : {B : Type 0} (kind : B → Kind) (kept : B → Kept) (device : Device) (filters : Filters) (handed : ℕ) (bytes : List ℕ) (engine : EngineOf B) → HasParts kind kept device filters handed bytes engine
    → AreReady kind kept engine
parts-ready {B} kind kept device filters handed bytes engine has =
    let parent : ParentOf B = engine.parent in
    let served = has.from.served in
    let same = seen-same device filters engine has.from.device_is has.filters_are in
    let bus = subst (λ (d : DeviceSeen). HasBus kept d parent) (sym same) has.from.bus in
    let here = here-seen kept engine.tables engine.parent bus in
    let At : PlayBook → Type 0 = λ book. PlayIsHere (play_rate_at (device_of engine) book) (desk_here (device_of engine) (desk_of engine)) book in
    ready-all kind kept engine
    (subst (λ (f : Filters). All (IsPlayReady kind kept f) (play_channels parent)) (sym has.filters_are) served.ready)
    (subst (λ (f : Filters). All (IsRecordReady kind kept f) (record_channels parent)) (sym has.filters_are) served.recorders_ready)
    (subst (λ (f : Filters). All (IsMapReady kind kept f) (map_channels parent)) (sym has.filters_are) served.maps_ready)
    bus
    (subst IsInLimits (sym same) has.limits)
    (λ slot. each_book (λ (channel : PlayChannelOf B). channel.book) At (play_channels parent) slot (play_unopened (device_of engine))
    (λ at other there.
    let channel : PlayChannelOf B = get_or (play_channels parent) at other in
    subst (λ (place : Here). PlayIsHere (play_rate_at (device_of engine) channel.book) place channel.book) here
    (subst (λ (d : DeviceSeen). PlayIsHere (play_rate_at d channel.book) (here_of parent) channel.book)
    (ap (λ (d : Device). seen filters d) (served.own at other there ∙ has.from.device_is) ∙ sym same)
    (all-here kind kept filters parent engine.descriptors served has.place at other there)))
    (record { last = λ e. cc; left = λ e. cc }))
    (members-wait (device_of engine) parent engine.descriptors has.place)

-- what was read of the bytes
pub record AreRead (device : Device) (filters : Filters) (handed : ℕ) (bytes rest : List ℕ) (descriptors : Descriptors) : Type 0 where
  pub head : HasRow bytes (head_row (digest_of filters device) handed)
  pub described : IsPart (take (length bytes - 24) (drop 24 bytes)) 0 768 (descriptors_state descriptors)
  pub rest_is : rest ≡ drop 768 (take (length bytes - 24) (drop 24 bytes))

pub parts-state : {B : Type 0} (kind : B → Kind) (kept : B → Kept) (device : Device) (filters : Filters) (handed : ℕ) (bytes rest : List ℕ) (engine : EngineOf B) → HasParts kind kept device filters handed rest engine
    → AreRead device filters handed bytes rest engine.descriptors → HasState kind kept bytes engine
parts-state {B} kind kept device filters handed bytes rest engine has read =
    let head : ℕ → ℕ → List ℕ = λ digest count. spelled_numbers (head_row digest count) in
    let digest : digest_of engine.tables engine.parent.device ≡ digest_of filters device =
    ap (λ (f : Filters). digest_of f engine.parent.device) has.filters_are ∙ ap (digest_of filters) has.from.device_is in
    record {
      ready = parts-ready kind kept device filters handed rest engine has;
      whole = record { parent = has.from.whole; descriptors = has.whole };
      is = three-fronts bytes (head (digest_of filters device) handed) (descriptors_state engine.descriptors) (parent_state kept engine.parent) 24 768 read.head read.described (has.from.told ∙ read.rest_is)
          ∙ ap (λ (count : ℕ). head (digest_of filters device) count ++ (descriptors_state engine.descriptors ++ parent_state kept engine.parent)) (sym has.from.handed_is)
          ∙ ap (λ (number : ℕ). head number engine.parent.handed ++ (descriptors_state engine.descriptors ++ parent_state kept engine.parent)) (sym digest);
    }
