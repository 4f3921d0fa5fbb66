-- An engine that is ready can be saved.
use Rattle.std.proofs.Common.{◌≡◌, ℕ, zero, suc, ◌<◌, ◌≤◌, Option, Some, None, List, [], ◌∷◌, ◌++◌, ◌+◌, ◌-◌, length, get_or, take, drop, refl, sym, ap, ◌∙◌, subst, arith}
use Rattle.std.specs.Prelude.{All}
use Rattle.std.proofs.Math.Seq.{take-add}
use Rattle.std.proofs.lemmas.List.{length-append, length-drop, length-map, take_all}
use Rattle.pcm_engine.specs.Types.{Held, Kept, Kind, Way}
use Rattle.pcm_oss.specs.declared.event.Way.TheVariants.{Play, Record, Map}
use Rattle.pcm_oss.specs.declared.event.TheConstants.{SLOTS}
use Rattle.pcm_chain.proofs.Far.{far-fitted}
use Rattle.pcm_desk.specs.Own.{slots_of}
use Rattle.pcm_play.specs.declared.channel.PlayChannelOf.{PlayChannelOf}
use Rattle.pcm_record.specs.declared.channel.RecordChannelOf.{RecordChannelOf}
use Rattle.pcm_map.specs.declared.channel.MapChannelOf.{MapChannelOf}
use Rattle.pcm_vchan.specs.declared.parent.ParentOf.{ParentOf}
use Rattle.pcm_vchan.specs.Parents.{map_channels, play_channels, record_channels}
use Rattle.pcm_state.specs.GroupRows.{groups_row}
use Rattle.pcm_state.specs.HeldRows.{held_number, held_row, FitsHeld}
use Rattle.pcm_state.specs.Numbers.{spelled_numbers}
use Rattle.pcm_state.proofs.Spelled.{length-numbers}
use Rattle.pcm_save.specs.Parents.{HaveSlots, IsFittedParent}
use Rattle.pcm_save.specs.Parts.{IsPart}
use Rattle.pcm_engine.specs.declared.descriptors.Descriptors.{Descriptors}
use Rattle.pcm_engine.specs.declared.engine.EngineOf.{EngineOf}
use Rattle.pcm_engine.specs.Desks.{desk_with}
use Rattle.pcm_engine.specs.Engines.{AreReady}
use Rattle.pcm_engine.specs.Saved.{AreWhole}

-- its chains are fitted
pub ready-fitted : {B : Type 0} (kind : B → Kind) (kept : B → Kept) (engine : EngineOf B) → AreReady kind kept engine → IsFittedParent kept engine.parent
ready-fitted {B} kind kept engine ready = record {
  playing = λ slot other there used. (let far = (ready.playing slot other there).far in far-fitted kept engine.tables (get_or (play_channels engine.parent) slot other).path.chain _ _ _ (far.chain_is used));
  recording = λ slot other there used. far-fitted kept engine.tables (get_or (record_channels engine.parent) slot other).path.chain _ _ _ ((ready.recording slot other there).far used);
  mapped = λ slot other there used. far-fitted kept engine.tables (get_or (map_channels engine.parent) slot other).path.chain _ _ _ ((ready.mapped slot other there).far used);
  bus = far-fitted kept engine.tables engine.parent.bus.chain _ _ _ ready.bus.made.far;
}

-- no way has more slots than there may be
slots-few : {B : Type 0} (parent : ParentOf B) (descriptors : Descriptors) → HaveSlots parent → (way : Way) → slots_of (desk_with parent descriptors) way ≤ SLOTS
slots-few {B} parent descriptors has Play = omega (arith, length-map (play_channels parent) (λ (channel : PlayChannelOf B). channel.book), has.playing, parent.slots_within)
slots-few {B} parent descriptors has Record = omega (arith, length-map (record_channels parent) (λ (channel : RecordChannelOf B). channel.book), has.recording, parent.recorders_within)
slots-few {B} parent descriptors has Map = omega (arith, length-map (map_channels parent) (λ (channel : MapChannelOf B). channel.book), has.mapped, parent.slots_within)

-- what is there is there whatever stands past the end
at-default : {A : Type 0} (list : List A) (i : ℕ) (one other : A) → i < length list → get_or list i one ≡ get_or list i other
at-default [] i one other there = absurd (omega (arith, there))
at-default (it ∷ list) zero one other there = refl
at-default (it ∷ list) (suc i) one other there = at-default list i one other (omega (arith, there))

fits-by : (held : Option Held) → ((it : Held) → held ≡ Some it → it.slot < SLOTS) → FitsHeld held
fits-by None fits = tt
fits-by (Some it) fits = fits it refl

-- each descriptor holds a slot that may be
pub held-fit : {B : Type 0} (engine : EngineOf B) → HaveSlots engine.parent → All FitsHeld engine.descriptors.held.value
held-fit {B} engine has fd other there =
    let list : List (Option Held) = engine.descriptors.held.value in
    subst FitsHeld (at-default list fd None other there) (fits-by (get_or list fd None)
    (λ it is. omega (arith, engine.order.apart.within fd it is, slots-few engine.parent engine.descriptors has it.way)))

-- the bytes of all groups, and of all that descriptors hold
pub length-groups : (descriptors : Descriptors) → AreWhole descriptors → length (spelled_numbers (groups_row descriptors.groups)) ≡ 256
length-groups descriptors whole =
    let play = whole.groups.play.count in
    let recording = whole.groups.recording.count in
    omega (arith, length-numbers (groups_row descriptors.groups), length-append descriptors.groups.play descriptors.groups.recording, play, recording)

pub length-held : (descriptors : Descriptors) → AreWhole descriptors → length (spelled_numbers (held_row descriptors.held.value)) ≡ 512
length-held descriptors whole =
    let held = whole.held in
    omega (arith, length-numbers (held_row descriptors.held.value), length-map descriptors.held.value held_number, held)

-- three numbers are all of a row of three
pub three-read : (row : List ℕ) → length row ≡ 3 → get_or row 0 0 ∷ get_or row 1 0 ∷ get_or row 2 0 ∷ [] ≡ row
three-read (a ∷ b ∷ c ∷ []) long = refl
three-read _ long = absurd (omega (arith, long))

-- three parts that are the same join to the same
pub three-same : (a b c one two three : List ℕ) → a ≡ one → b ≡ two → c ≡ three → a ++ (b ++ c) ≡ one ++ (two ++ three)
three-same a b c one two three first second third = rw (first, second, third) refl

-- a part and the one behind it are one part
pub two-parts : (bytes one two : List ℕ) (a b : ℕ) → IsPart bytes 0 a one → IsPart (take (length bytes - a) (drop a bytes)) 0 b two → IsPart bytes 0 (a + b) (one ++ two)
two-parts bytes one two a b first second =
    let rest : take (length bytes - a) (drop a bytes) ≡ drop a bytes = take_all (length bytes - a) (drop a bytes) (omega (arith, length-drop a bytes)) in
    record {
      within = omega (arith, first.within, second.within, ap length rest, length-drop a bytes);
      is = ap (λ l. l ++ two) first.is ∙ ap (λ l. take a bytes ++ l) (second.is ∙ ap (take b) rest) ∙ sym (take-add a b bytes);
    }
