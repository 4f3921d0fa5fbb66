-- Parents whose parts were loaded one after another.
use Rattle.std.proofs.Common.{◌≡◌, ℕ, ◌+◌, ◌-◌, List, ◌++◌, length, take, drop, sym, ap, ◌∙◌, subst, arith}
use Rattle.std.proofs.Math.Seq.{take-add}
use Rattle.std.proofs.lemmas.List.{length-drop, take_all}
use Rattle.pcm_feeder.specs.Filters.{Filters}
use Rattle.pcm_feeder.specs.Kept.{Kept}
use Rattle.pcm_chain.specs.Pasts.{past_of}
use Rattle.pcm_mixdev.specs.Mixers.{Levels}
use Rattle.pcm_ring.specs.Ring.{Ring}
use Rattle.pcm_desk.specs.declared.device.Device.{Device}
use Rattle.pcm_desk.specs.Device.{mixed_for, seen}
use Rattle.pcm_bus.specs.declared.bus.BusOf.{BusOf}
use Rattle.pcm_bus.specs.Handovers.{HasMadeFar, IsPlannedBy}
use Rattle.pcm_vchan.specs.declared.parent.ParentOf.{ParentOf}
use Rattle.pcm_vchan.specs.Parents.{HasBus}
use Rattle.pcm_state.specs.MixerRows.{mixer_row}
use Rattle.pcm_state.specs.Numbers.{spelled_numbers}
use Rattle.pcm_state.specs.Samples.{sample_bytes}
use Rattle.pcm_save.specs.Outputs.{output_state}

-- all bytes from a place on
pub behind : (bytes : List ℕ) (at : ℕ) → take (length bytes - at) (drop at bytes) ≡ drop at bytes
behind bytes at = take_all (length bytes - at) (drop at bytes) (omega (arith, length-drop at bytes))

pub length-behind : (bytes : List ℕ) (at : ℕ) → length (take (length bytes - at) (drop at bytes)) ≡ length bytes - at
length-behind bytes at = ap length (behind bytes at) ∙ length-drop at bytes

-- a front, and one of what is behind it
pub fronts : (bytes : List ℕ) (a b : ℕ) (one two : List ℕ) → one ≡ take a bytes → two ≡ take b (drop a bytes) → one ++ two ≡ take (a + b) bytes
fronts bytes a b one two first second = ap (λ l. l ++ two) first ∙ ap (λ l. take a bytes ++ l) second ∙ sym (take-add a b bytes)

-- what goes to the device is spelled alike where it is the same
pub output-same : {B : Type 0} (kept : B → Kept) (old new : ParentOf B) → new.mixer ≡ old.mixer → new.ring ≡ old.ring → new.bus ≡ old.bus → output_state kept new ≡ output_state kept old
output-same {B} kept old new mixer ring bus =
    ap (λ (m : Levels). spelled_numbers (mixer_row m) ++ (new.ring.bytes ++ sample_bytes (past_of kept new.bus.chain))) mixer
    ∙ ap (λ (r : Ring). spelled_numbers (mixer_row old.mixer) ++ (r.bytes ++ sample_bytes (past_of kept new.bus.chain))) ring
    ∙ ap (λ (b : BusOf B). spelled_numbers (mixer_row old.mixer) ++ (old.ring.bytes ++ sample_bytes (past_of kept b.chain))) bus

-- and so is what the bus has made
pub bus-same : {B : Type 0} (kept : B → Kept) (filters : Filters) (old new : ParentOf B) → new.device ≡ old.device → new.bus ≡ old.bus → new.handed ≡ old.handed → new.mixed ≡ old.mixed
    → HasBus kept (seen filters old.device) old → HasBus kept (seen filters new.device) new
bus-same {B} kept filters old new device bus handed mixed has =
    subst (λ (d : Device). HasBus kept (seen filters d) new) (sym device) (record {
      planned = subst (λ (b : BusOf B). IsPlannedBy (seen filters old.device) b.chain) (sym bus) has.planned;
      made = subst (λ n. HasMadeFar kept (seen filters old.device) new.bus.chain n) (sym handed)
          (subst (λ (b : BusOf B). HasMadeFar kept (seen filters old.device) b.chain old.handed) (sym bus) has.made);
      level = mixed ∙ has.level ∙ ap (mixed_for (seen filters old.device)) (sym handed);
    })
