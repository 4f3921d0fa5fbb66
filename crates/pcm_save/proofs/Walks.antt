-- Lists of channels of which those below an index went on.
use Rattle.std.proofs.Common.{◌≡◌, ℕ, ◌+◌, ◌<◌, List, [], ◌∷◌, ◌++◌, length, take, drop, get_or, set, All, sym, ap, ◌∙◌, subst, arith, append_assoc}
use Rattle.std.specs.List.{flat_map}
use Rattle.std.proofs.Math.Seq.{take-add}
use Rattle.std.proofs.lemmas.Grind.{flat_map-append}
use Rattle.std.proofs.lemmas.List.{append-nil, drop_more, get_or-map, length-map, take_more_set}
use Rattle.std.proofs.lemmas.List.Elements.{All-nil, All-cons, All-append}
use Rattle.pcm_feeder.specs.Filters.{Filters}
use Rattle.pcm_path.specs.declared.path.PathOf.{PathOf}
use Rattle.pcm_save.specs.States.{devices_of, CanAllBeLoaded, CanBeLoaded}

-- the bytes of those below the next index
pub told-more : {C : Type 0} (state : C → List ℕ) (channels : List C) (i : ℕ) (made : C) (bytes : List ℕ) (at count : ℕ) → i < length channels
    → flat_map state (take i channels) ≡ take at bytes → state made ≡ take count (drop at bytes) → flat_map state (take (i + 1) (set channels i made)) ≡ take (at + count) bytes
told-more state channels i made bytes at count below told more =
    ap (flat_map state) (take_more_set channels i made below)
    ∙ flat_map-append state (take i channels) (made ∷ [])
    ∙ ap (λ left. left ++ (state made ++ [])) told
    ∙ ap (λ right. take at bytes ++ right) (append-nil (state made) ∙ more)
    ∙ sym (take-add at count bytes)

-- what holds of each of them
pub all-more : {C : Type 0} (P : C → Type 0) (channels : List C) (i : ℕ) (made : C) → i < length channels → All P (take i channels) → P made → All P (take (i + 1) (set channels i made))
all-more P channels i made below all here =
    subst (All P) (sym (take_more_set channels i made below)) (All-append P (take i channels) (made ∷ []) all (All-cons P made [] here (All-nil P)))

-- ---- channels that were saved, whose states stand one after another

-- as many as those that they can be loaded into, each of the device of the same slot
pub as-many : {B C : Type 0} {path : C → PathOf B} {ready : Filters → C → Type 0} {fits : C → Type 0} {filters : Filters} {saved channels : List C} → CanAllBeLoaded path ready fits filters saved channels → length saved ≡ length channels
as-many {path = path} {saved = saved} {channels = channels} can =
    sym (length-map saved (λ channel. (path channel).device)) ∙ ap length can.devices ∙ length-map channels (λ channel. (path channel).device)

device-at : {B C : Type 0} (path : C → PathOf B) (saved channels : List C) (slot : ℕ) (other : C) → slot < length saved → slot < length channels → devices_of path saved ≡ devices_of path channels
    → (path (get_or saved slot other)).device ≡ (path (get_or channels slot other)).device
device-at path saved channels slot other within below same =
    sym (get_or-map (λ channel. (path channel).device) saved slot other (path other).device within)
    ∙ ap (λ devices. get_or devices slot (path other).device) same ∙ get_or-map (λ channel. (path channel).device) channels slot other (path other).device below

-- the one of a slot can be loaded into the channel there
pub can-at : {B C : Type 0} (path : C → PathOf B) (ready : Filters → C → Type 0) (fits : C → Type 0) (filters : Filters) (saved channels : List C) (slot : ℕ) (other channel : C) → slot < length channels → get_or channels slot other ≡ channel
    → CanAllBeLoaded path ready fits filters saved channels → CanBeLoaded path ready fits filters (get_or saved slot other) channel
can-at path ready fits filters saved channels slot other channel below there can =
    let within : slot < length saved = omega (arith, below, as-many can) in
    record {
      is_ready = can.are_ready slot other within;
      fit = can.fit slot other within;
      device = device-at path saved channels slot other within below can.devices ∙ ap (λ it. (path it).device) there;
    }

-- its state comes next
pub front-at : {C : Type 0} (state : C → List ℕ) (saved : List C) (slot : ℕ) (other : C) (bytes rest : List ℕ) → slot < length saved → bytes ≡ flat_map state (drop slot saved) ++ rest
    → bytes ≡ state (get_or saved slot other) ++ (flat_map state (drop (slot + 1) saved) ++ rest)
front-at state saved slot other bytes rest within is =
    is ∙ ap (λ left. flat_map state left ++ rest) (drop_more saved slot other within) ∙ append_assoc (state (get_or saved slot other)) (flat_map state (drop (slot + 1) saved)) rest
