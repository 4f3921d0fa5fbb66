-- A parent that was loaded, and what an engine is made of.
use Rattle.std.proofs.Common.{◌≡◌, ℕ, ◌<◌, ◌≤◌, ◌^◌, ℤ, pos, List, [], ◌∷◌, length, take, drop, map, sym, ap, ◌∙◌, subst, arith}
use Rattle.std.specs.Prelude.{All, ◌≤ℤ◌}
use Rattle.std.proofs.lemmas.Int.{ints}
use Rattle.std.proofs.lemmas.List.{take_all}
use Rattle.std.proofs.lemmas.List.Elements.{All-nil, All-cons, All-head, All-tail}
use Rattle.pcm_engine.specs.Types.{Device, Filters, Kept, Kind}
use Rattle.pcm_feeder.specs.declared.rack.RackOf.{RackOf}
use Rattle.pcm_feeder.specs.Racks.{rack_marks}
use Rattle.pcm_chain.proofs.Counting.{need-near, rate-near}
use Rattle.pcm_desk.specs.Device.{DeviceSeen, IsInLimits, mixed_for, parent_plan, parent_rate, passed_for, seen, unfiltered}
use Rattle.pcm_desk.proofs.Passing.{here-is}
use Rattle.pcm_desk.proofs.Ratios.{parent-plan-fits}
use Rattle.pcm_oss.specs.declared.event.TheConstants.{SLOTS}
use Rattle.pcm_play.specs.declared.channel.PlayChannelOf.{PlayChannelOf}
use Rattle.pcm_record.specs.declared.channel.RecordChannelOf.{RecordChannelOf}
use Rattle.pcm_map.specs.declared.channel.MapChannelOf.{MapChannelOf}
use Rattle.pcm_vchan.specs.declared.parent.ParentOf.{ParentOf}
use Rattle.pcm_vchan.specs.Parents.{map_channels, play_channels, record_channels, AreMapUnopened, ArePlayUnopened, AreRecordUnopened, AreServed, HasBus, HasRacks}
use Rattle.pcm_save.specs.Outputs.{HandedFits}
use Rattle.pcm_save.specs.Parents.{HasLoadedParent}
use Rattle.pcm_engine.specs.declared.limits.TheConstants.{LIFE}
use Rattle.pcm_engine.specs.Loads.{IsParentFrom}

-- few frames are mixed for those that an engine hands over
pub mixed-life : (device : DeviceSeen) (handed : ℕ) → IsInLimits device → handed ≤ LIFE → mixed_for device handed < 2 ^ 53
mixed-life device handed limits few = omega (arith, need-near (parent_rate device) handed (rate-near (parent_plan device) (parent-plan-fits device limits.device_is)), few)

int-below : {a : ℤ} {m n : ℕ} → a ≤ℤ pos m → m ≤ n → a ≤ℤ pos n
int-below {a} {m} {n} less most = omega (arith, ints, less, most)

-- so the counts of a parent have room
pub handed-fits : {B : Type 0} (filters : Filters) (device : Device) (handed : ℕ) (parent : ParentOf B) → IsInLimits (seen filters device) → handed ≤ LIFE → parent.device ≡ device → HandedFits filters handed parent
handed-fits filters device handed parent limits few is =
    let mixed = mixed-life (seen filters device) handed limits few in
    let here = here-is (seen filters device) handed limits (omega (arith, mixed)) in
    let fits = subst (λ (d : Device). (mixed_for (seen filters d) handed < 2 ^ 64) × (passed_for (unfiltered d) handed ≤ℤ pos (2 ^ 62))) (sym is)
    (omega (arith, mixed), int-below here.past (omega (arith, mixed))) in
    record { mixed = fits.0; passed = fits.1 }

-- what is the same of each of other elements is so of these
same-all : {C D : Type 0} (f : C → D) (old new : List C) (it : D) → map f new ≡ map f old → All (λ one. f one ≡ it) old → All (λ one. f one ≡ it) new
same-all f old [] it same all = All-nil (λ one. f one ≡ it)
same-all f [] (one ∷ new) it same all = cc
same-all f (was ∷ old) (one ∷ new) it same all =
    let first : f one ≡ f was = cc in
    let rest : map f new ≡ map f old = cc in
    All-cons (λ one. f one ≡ it) one new (first ∙ All-head (λ one. f one ≡ it) was old all) (same-all f old new it rest (All-tail (λ one. f one ≡ it) was old all))

-- the channels of a parent that was made new are of its device
pub record AreMade {B : Type 0} (device : Device) (parent : ParentOf B) : Type 0 where
  pub device_is : parent.device ≡ device
  pub playing : All (λ (channel : PlayChannelOf B). channel.path.device ≡ device) (play_channels parent)
  pub recording : All (λ (channel : RecordChannelOf B). channel.path.device ≡ device) (record_channels parent)
  pub mapped : All (λ (channel : MapChannelOf B). channel.path.device ≡ device) (map_channels parent)

pub are-made : {B : Type 0} (kind : B → Kind) (kept : B → Kept) (filters : Filters) (device : Device) (parent : ParentOf B) → parent.device ≡ device → ArePlayUnopened kind kept filters device parent
    → AreRecordUnopened kind kept filters device parent → AreMapUnopened kind kept filters device parent → AreMade device parent
are-made kind kept filters device parent is playing recording mapped = record {
  device_is = is;
  playing = λ slot other there. (playing slot other there).device_is;
  recording = λ slot other there. (recording slot other there).device_is;
  mapped = λ slot other there. (mapped slot other there).device_is;
}

-- and once it was loaded they are so still, and ready
pub loaded-served : {B : Type 0} (kind : B → Kind) (kept : B → Kept) (mark : B → ℕ) (filters : Filters) (device : Device) (handed : ℕ) (bytes : List ℕ) (count : ℕ) (old new : ParentOf B) → AreMade device old
    → HasLoadedParent kind kept mark filters handed bytes count old new → AreServed kind kept filters new
loaded-served {B} kind kept mark filters device handed bytes count old new made loaded =
    let is : new.device ≡ device = loaded.device_same ∙ made.device_is in
    let all = loaded.all in
    record {
      own = λ slot other there. same-all (λ (channel : PlayChannelOf B). channel.path.device) (play_channels old) (play_channels new) device all.playing.devices made.playing slot other there ∙ sym is;
      recorders_own = λ slot other there. same-all (λ (channel : RecordChannelOf B). channel.path.device) (record_channels old) (record_channels new) device all.recording.devices made.recording slot other there ∙ sym is;
      maps_own = λ slot other there. same-all (λ (channel : MapChannelOf B). channel.path.device) (map_channels old) (map_channels new) device all.mapped.devices made.mapped slot other there ∙ sym is;
      ready = all.playing.are_ready;
      recorders_ready = all.recording.are_ready;
      maps_ready = all.mapped.are_ready;
    }

-- it has the boxes of its racks
pub loaded-racks : {B : Type 0} (kind : B → Kind) (kept : B → Kept) (mark : B → ℕ) (filters : Filters) (handed : ℕ) (bytes : List ℕ) (count : ℕ) (old new : ParentOf B) (racks : List (RackOf B)) → HasRacks mark racks old
    → HasLoadedParent kind kept mark filters handed bytes count old new → HasRacks mark racks new
loaded-racks {B} kind kept mark filters handed bytes count old new racks has loaded = record {
  playing = loaded.all.playing.marks ∙ has.playing ∙ ap (λ (d : Device). rack_marks mark (take d.play_slots racks)) (sym loaded.device_same);
  mapped = loaded.all.mapped.marks ∙ has.mapped ∙ ap (λ (d : Device). rack_marks mark (take d.map_slots (drop d.play_slots racks))) (sym loaded.device_same);
  recording = loaded.all.recording.marks ∙ has.recording ∙ ap (λ (d : Device). rack_marks mark (take d.record_slots (drop SLOTS racks))) (sym loaded.device_same);
  bus = ap (λ marks. marks ∷ []) loaded.bus_marks ∙ has.bus;
}

-- all of the bytes were loaded, so they spell it
pub loaded-from : {B : Type 0} (kind : B → Kind) (kept : B → Kept) (mark : B → ℕ) (filters : Filters) (device : Device) (handed : ℕ) (bytes : List ℕ) (old new : ParentOf B) → AreMade device old
    → HasLoadedParent kind kept mark filters handed bytes (length bytes) old new → IsParentFrom kind kept filters device handed bytes new
loaded-from {B} kind kept mark filters device handed bytes old new made loaded =
    let is : new.device ≡ device = loaded.device_same ∙ made.device_is in
    record {
      device_is = is;
      handed_is = loaded.handed_is;
      told = loaded.told ∙ take_all (length bytes) bytes (omega arith);
      served = loaded-served kind kept mark filters device handed bytes (length bytes) old new made loaded;
      bus = subst (λ (d : Device). HasBus kept (seen filters d) new) is loaded.has_bus;
      whole = loaded.whole;
    }
