-- The boxes of a rack, and whether each is of its place's kind.
use Rattle.std.specs.Prelude.{◌≡◌, ◌≢◌, ◌⊎◌, ℕ, List, [], ◌∷◌, ◌++◌, length, map, All}
use Rattle.pcm_feeder.specs.declared.kind.Kind.{Kind}
use Rattle.pcm_feeder.specs.declared.kind.Kind.TheVariants as kinds
use Rattle.pcm_feeder.specs.declared.rack.SevenOf.{SevenOf}
use Rattle.pcm_feeder.specs.declared.rack.RackOf.{RackOf}
use Rattle.pcm_feeder.specs.declared.rack.RacksOf.{RacksOf}
use Rattle.pcm_feeder.specs.declared.rack.WrongKind.{WrongKind}
use Rattle.pcm_feeder.specs.declared.rack.RackFault.{RackFault}
use Rattle.pcm_feeder.specs.declared.rack.RackFault.TheVariants.{WrongBox, Count, Memory}
use Rattle.pcm_feeder.specs.declared.rack.TheConstants.{RACKS}

-- a place of a rack: the kind that it asks for, and its box
pub record Place (B : Type 0) : Type 0 where
  pub asks : Kind
  pub box : B

-- the places of a rack, in their order
abbrev pub places_of : {B : Type 0} → SevenOf B → List (Place B)
places_of seven =
    record { asks = kinds.Matrix; box = seven.matrix }
    ∷ record { asks = kinds.Hold; box = seven.hold }
    ∷ record { asks = kinds.Linear; box = seven.linear }
    ∷ record { asks = kinds.Poly; box = seven.poly }
    ∷ record { asks = kinds.Volume; box = seven.volume }
    ∷ record { asks = kinds.Depth; box = seven.depth }
    ∷ record { asks = kinds.Eq; box = seven.eq } ∷ []

-- a place's box is of another kind
abbrev pub IsWrongAt : {B : Type 0} → (B → Kind) → Place B → WrongKind → Type 0
IsWrongAt kind place wrong =
    (wrong ≡ record { place = place.asks; found = kind place.box }) × (kind place.box ≢ place.asks)

-- the first place whose box is of another kind
abbrev pub IsFirstWrong : {B : Type 0} → (B → Kind) → List (Place B) → WrongKind → Type 0
IsFirstWrong kind [] wrong = ⊥
IsFirstWrong kind (place ∷ rest) wrong =
    IsWrongAt kind place wrong ⊎ ((kind place.box ≡ place.asks) × IsFirstWrong kind rest wrong)

-- each box is of the kind that its place asks for
pub record HaveKinds {B : Type 0} (kind : B → Kind) (seven : SevenOf B) : Type 0 where
  pub matrix : kind seven.matrix ≡ kinds.Matrix
  pub hold : kind seven.hold ≡ kinds.Hold
  pub linear : kind seven.linear ≡ kinds.Linear
  pub poly : kind seven.poly ≡ kinds.Poly
  pub volume : kind seven.volume ≡ kinds.Volume
  pub depth : kind seven.depth ≡ kinds.Depth
  pub eq : kind seven.eq ≡ kinds.Eq

-- the boxes of a rack
abbrev pub boxes_of : {B : Type 0} → RackOf B → SevenOf B
boxes_of rack = rack.boxes

-- each box of a rack is of the kind that its place asks for
abbrev pub IsRack : {B : Type 0} → (B → Kind) → RackOf B → Type 0
IsRack kind rack = HaveKinds kind (boxes_of rack)

-- and so in each of these racks
abbrev pub AreRacks : {B : Type 0} → (B → Kind) → List (RackOf B) → Type 0
AreRacks kind racks = All (IsRack kind) racks

-- the marks of boxes, by which a proof knows one from another, place by place
abbrev pub marks_of : {B : Type 0} → (B → ℕ) → SevenOf B → SevenOf ℕ
marks_of mark seven = record {
  matrix = mark seven.matrix;
  hold = mark seven.hold;
  linear = mark seven.linear;
  poly = mark seven.poly;
  volume = mark seven.volume;
  depth = mark seven.depth;
  eq = mark seven.eq;
}

-- and those of racks
abbrev pub rack_marks : {B : Type 0} → (B → ℕ) → List (RackOf B) → List (SevenOf ℕ)
rack_marks mark racks = map (λ rack. marks_of mark (boxes_of rack)) racks

-- the racks of a run, in their order
abbrev pub list_of : {B : Type 0} → RacksOf B → List (RackOf B)
list_of racks = racks.list.items

-- how many racks a run has: one for each play slot and each record slot
abbrev pub rack_count : ℕ
rack_count = RACKS

-- the first seven boxes that make no rack, and what is wrong with them
pub record IsFirstFault {B : Type 0} (kind : B → Kind) (boxes : List (SevenOf B)) (found : WrongKind)
    : Type 0 where
  pub before : List (SevenOf B)
  pub seven : SevenOf B
  pub after : List (SevenOf B)
  pub split : boxes ≡ before ++ seven ∷ after
  pub right : All (HaveKinds kind) before
  pub wrong : IsFirstWrong kind (places_of seven) found

-- why boxes don't make the racks of a run
abbrev pub IsRackFault : {B : Type 0} → (B → Kind) → List (SevenOf B) → RackFault → Type 0
IsRackFault kind boxes (WrongBox found) = IsFirstFault kind boxes found
IsRackFault kind boxes (Count found) = (found.found ≡ length boxes) × (length boxes ≢ rack_count)
IsRackFault kind boxes Memory = Unit {0}
