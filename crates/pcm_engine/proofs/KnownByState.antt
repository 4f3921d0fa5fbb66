-- Engines of one device with the same filters are known by their states.
use Rattle.std.proofs.Common.{◌≡◌, ℕ, List, ◌++◌, length, sym, ◌∙◌, subst, append_assoc}
use Rattle.pcm_engine.specs.Types.{Device, Filters, Kept, Kind}
use Rattle.pcm_desk.specs.Device.{seen}
use Rattle.pcm_digest.specs.Digests.{digest_of}
use Rattle.pcm_state.specs.GroupRows.{groups_row}
use Rattle.pcm_state.specs.HeldRows.{held_row}
use Rattle.pcm_state.specs.Numbers.{spelled_numbers}
use Rattle.pcm_state.proofs.Known.{groups-known, held-known}
use Rattle.pcm_state.proofs.Pieces.{front-known, rest-known}
use Rattle.pcm_state.proofs.Spelled.{length-numbers, numbers-known}
use Rattle.pcm_save.specs.Parents.{parent_state}
use Rattle.pcm_save.proofs.AlikeParents.{parents-known}
use Rattle.pcm_vchan.specs.Parents.{HasBus}
use Rattle.pcm_engine.specs.declared.descriptors.Descriptors.{Descriptors}
use Rattle.pcm_engine.specs.declared.engine.EngineOf.{EngineOf}
use Rattle.pcm_engine.specs.Clones.{IsCloneOf}
use Rattle.pcm_engine.specs.Saved.{AreWhole, HasState, IsEngineOf, descriptors_state, engine_state, head_row}
use Rattle.pcm_engine.proofs.Cloning.{clone-stands}
use Rattle.pcm_engine.proofs.InOrder.{served}
use Rattle.pcm_engine.proofs.Saving.{length-groups, length-held}

-- descriptors are known by their bytes, and those behind are the same
pub record SameDescriptors (one other : Descriptors) (more rest : List ℕ) : Type 0 where
  pub groups : other.groups ≡ one.groups
  pub held : other.held.value ≡ one.held.value
  pub left : rest ≡ more

pub descriptors-known : (one other : Descriptors) (more rest : List ℕ) → AreWhole one → AreWhole other → descriptors_state other ++ rest ≡ descriptors_state one ++ more → SameDescriptors one other more rest
descriptors-known one other more rest whole its same =
    let groups : Descriptors → List ℕ = λ descriptors. spelled_numbers (groups_row descriptors.groups) in
    let held : Descriptors → List ℕ = λ descriptors. spelled_numbers (held_row descriptors.held.value) in
    let parts : groups other ++ (held other ++ rest) ≡ groups one ++ (held one ++ more) =
    sym (append_assoc (groups other) (held other) rest) ∙ same ∙ append_assoc (groups one) (held one) more in
    let even : length (groups other) ≡ length (groups one) = length-groups other its ∙ sym (length-groups one whole) in
    let behind = rest-known (groups other) (held other ++ rest) (groups one) (held one ++ more) even parts in
    let long : length (held other) ≡ length (held one) = length-held other its ∙ sym (length-held one whole) in
    record {
      groups = groups-known other.groups one.groups its.groups whole.groups (numbers-known (groups_row other.groups) (groups_row one.groups)
          (front-known (groups other) (held other ++ rest) (groups one) (held one ++ more) even parts));
      held = held-known other.held.value one.held.value (numbers-known (held_row other.held.value) (held_row one.held.value)
          (front-known (held other) rest (held one) more long behind));
      left = rest-known (held other) rest (held one) more long behind;
    }

pub states-known : {B : Type 0} (kind : B → Kind) (kept : B → Kept) (device : Device) (filters : Filters) (bytes : List ℕ) (one other : EngineOf B) → IsEngineOf device filters one → IsEngineOf device filters other
    → HasState kind kept bytes one → HasState kind kept bytes other → IsCloneOf kind kept one other
states-known {B} kind kept device filters bytes one other of its has had =
    let same : engine_state kept other ≡ engine_state kept one = sym had.is ∙ has.is in
    let head : EngineOf B → List ℕ = λ engine. spelled_numbers (head_row (digest_of engine.tables engine.parent.device) engine.parent.handed) in
    let rest : EngineOf B → List ℕ = λ engine. descriptors_state engine.descriptors ++ parent_state kept engine.parent in
    let even : length (head other) ≡ length (head one) =
    length-numbers (head_row (digest_of other.tables other.parent.device) other.parent.handed) ∙ sym (length-numbers (head_row (digest_of one.tables one.parent.device) one.parent.handed)) in
    let row = numbers-known (head_row (digest_of other.tables other.parent.device) other.parent.handed) (head_row (digest_of one.tables one.parent.device) one.parent.handed)
    (front-known (head other) (rest other) (head one) (rest one) even same) in
    let handed : other.parent.handed ≡ one.parent.handed = cc in
    let descriptors = descriptors-known one.descriptors other.descriptors (parent_state kept one.parent) (parent_state kept other.parent) has.whole.descriptors had.whole.descriptors
    (rest-known (head other) (rest other) (head one) (rest one) even same) in
    let tables : other.tables ≡ one.tables = its.filters_are ∙ sym of.filters_are in
    let by : Filters → Type 0 = λ filters. HasBus kept (seen filters other.parent.device) other.parent in
    let like = parents-known kind kept one.tables one.parent other.parent (record {
      device_same = its.device_is ∙ sym of.device_is;
      handed_same = handed;
      one_served = served has.ready;
      other_served = rw (sym tables) (served had.ready);
      one_bus = has.ready.bus;
      other_bus = subst by tables had.ready.bus;
      one_whole = has.whole.parent;
      other_whole = had.whole.parent;
    }) descriptors.left in
    clone-stands kind kept one other like tables descriptors.held descriptors.groups has.ready
