-- Channels and parents are known by their bytes.
use Rattle.std.proofs.Common.{◌≡◌, ℕ, zero, suc, List, [], ◌∷◌, ◌++◌, length, All, sym, ◌∙◌, arith, append_assoc}
use Rattle.std.specs.List.{flat_map}
use Rattle.std.proofs.lemmas.List.Elements.{All-head, All-tail}
use Rattle.pcm_feeder.specs.Filters.{Filters}
use Rattle.pcm_desk.specs.declared.device.Device.{Device}
use Rattle.pcm_path.specs.declared.path.PathOf.{PathOf}
use Rattle.pcm_bus.specs.Slots.{Each}
use Rattle.pcm_save.specs.States.{IsKnown}

-- as many channels of one device are ready with the same filters
pub record ReadyAlike {B C : Type 0} (path : C → PathOf B) (ready : Filters → C → Type 0) (filters : Filters) (device : Device) (ones others : List C) : Type 0 where
  pub count : length others ≡ length ones
  pub one_devices : All (λ channel. (path channel).device ≡ device) ones
  pub other_devices : All (λ channel. (path channel).device ≡ device) others
  pub ones_ready : All (ready filters) ones
  pub others_ready : All (ready filters) others

-- each stands for whatever that of its slot does, and behind their bytes the same ones are left
pub record SlotsKnown {C : Type 0} (stands_as : C → C → Type 0) (ones others : List C) (more rest : List ℕ) : Type 0 where
  pub stand : Each stands_as ones others
  pub left : rest ≡ more

each-cons : {C : Type 0} (how : C → C → Type 0) (one other : C) (ones others : List C) → how one other → Each how ones others → Each how (one ∷ ones) (other ∷ others)
each-cons how one other ones others first each zero d below = first
each-cons how one other ones others first each (suc slot) d below = each slot d (omega (arith, below))

pub slots-known : {B C : Type 0} (path : C → PathOf B) (ready : Filters → C → Type 0) (stands_as : C → C → Type 0) (state : C → List ℕ) → IsKnown path ready stands_as state
    → (filters : Filters) (device : Device) (ones others : List C) (more rest : List ℕ) → ReadyAlike path ready filters device ones others
    → flat_map state others ++ rest ≡ flat_map state ones ++ more → SlotsKnown stands_as ones others more rest
slots-known path ready stands_as state known filters device [] [] more rest alike same = record { stand = λ slot d below. absurd (omega (arith, below)); left = same }
slots-known path ready stands_as state known filters device [] (other ∷ others) more rest alike same = absurd (omega (arith, alike.count))
slots-known path ready stands_as state known filters device (one ∷ ones) [] more rest alike same = absurd (omega (arith, alike.count))
slots-known {B} {C} path ready stands_as state known filters device (one ∷ ones) (other ∷ others) more rest alike same =
    let owns : C → Type 0 = λ channel. (path channel).device ≡ device in
    let first = known filters one other (flat_map state ones ++ more) (flat_map state others ++ rest)
    (record {
      device = All-head owns other others alike.other_devices ∙ sym (All-head owns one ones alike.one_devices);
      one_ready = All-head (ready filters) one ones alike.ones_ready;
      other_ready = All-head (ready filters) other others alike.others_ready;
    })
    (sym (append_assoc (state other) (flat_map state others) rest) ∙ same ∙ append_assoc (state one) (flat_map state ones) more) in
    let behind = slots-known path ready stands_as state known filters device ones others more rest
    (record {
      count = omega (arith, alike.count);
      one_devices = All-tail owns one ones alike.one_devices;
      other_devices = All-tail owns other others alike.other_devices;
      ones_ready = All-tail (ready filters) one ones alike.ones_ready;
      others_ready = All-tail (ready filters) other others alike.others_ready;
    })
    first.left in
    record { stand = each-cons stands_as one other ones others first.stands behind.stand; left = behind.left }
