-- Where all stages have the kinds of their places, in as many racks as there are to be, only memory can be at fault.
use Rattle.std.proofs.Common.{◌≡◌, List, [], ◌∷◌, ◌++◌, length, All, inl, inr, refl, arith}
use Rattle.std.proofs.lemmas.List.Elements.{All-from_recursion, All-contains, All-head, All-tail, Contains-append_right}
use Rattle.pcm_feeder.specs.declared.kind.Kind.{Kind}
use Rattle.pcm_feeder.specs.declared.rack.SevenOf.{SevenOf}
use Rattle.pcm_feeder.specs.declared.rack.WrongKind.{WrongKind}
use Rattle.pcm_feeder.specs.declared.rack.RackFault.{RackFault}
use Rattle.pcm_feeder.specs.declared.rack.RackFault.TheVariants.{WrongBox, Count, Memory}
use Rattle.pcm_feeder.specs.Racks.{HaveKinds, Place, IsFirstWrong, IsFirstFault, IsRackFault, places_of, rack_count}

-- where each place has its kind, none is the first without it
none-wrong : {B : Type 0} (kind : B → Kind) (places : List (Place B)) (found : WrongKind) → All (λ (place : Place B). kind place.box ≡ place.asks) places → IsFirstWrong kind places found → ⊥
none-wrong kind [] found right wrong = wrong
none-wrong kind (place ∷ rest) found right (inl wrong) = wrong.1 (All-head (λ (tried : Place _). kind tried.box ≡ tried.asks) place rest right)
none-wrong kind (place ∷ rest) found right (inr later) = none-wrong kind rest found (All-tail (λ (tried : Place _). kind tried.box ≡ tried.asks) place rest right) later.1

-- so none of seven stages of these kinds
seven-right : {B : Type 0} (kind : B → Kind) (seven : SevenOf B) (found : WrongKind) → HaveKinds kind seven → IsFirstWrong kind (places_of seven) found → ⊥
seven-right kind seven found have = none-wrong kind (places_of seven) found (All-from_recursion (λ (place : Place _). kind place.box ≡ place.asks) (places_of seven)
    (have.matrix, (have.hold, (have.linear, (have.poly, (have.volume, (have.depth, (have.eq, tt))))))))

-- and none of several of them
all-right : {B : Type 0} (kind : B → Kind) (boxes : List (SevenOf B)) (found : WrongKind) → All (HaveKinds kind) boxes → IsFirstFault kind boxes found → ⊥
all-right kind boxes found have fault =
    let among = Contains-append_right fault.before (fault.seven ∷ fault.after) fault.seven (0, omega arith, refl) in
    seven-right kind fault.seven found (All-contains (HaveKinds kind) (fault.before ++ fault.seven ∷ fault.after) fault.seven (rw fault.split at have) among) fault.wrong

-- so only memory is left
pub only-memory : {B : Type 0} (kind : B → Kind) (boxes : List (SevenOf B)) (fault : RackFault) → All (HaveKinds kind) boxes → length boxes ≡ rack_count → IsRackFault kind boxes fault → fault ≡ Memory
only-memory kind boxes (WrongBox found) have count fault = absurd (all-right kind boxes found have fault)
only-memory kind boxes (Count found) have count fault = absurd (fault.1 count)
only-memory kind boxes Memory have count fault = refl
