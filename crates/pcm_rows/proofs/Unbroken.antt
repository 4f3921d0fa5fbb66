-- Runs without a shortage, and scripts that sound alike: slot by slot, since nothing is ever heard of those after the first.
use Rattle.std.proofs.Common.{◌≡◌, ◌-◌, ℕ, zero, suc, Bool, true, false, cond, List, [], ◌∷◌, Some, None, All, refl, sym, ◌∙◌, ap, arith}
use Rattle.std.specs.Prelude.{◌≢◌, nat_lt}
use Rattle.std.proofs.lemmas.Bool.Decides.{nat_tests}
use Rattle.std.proofs.lemmas.List.Elements.{All-from_recursion, All-nil}
use Rattle.pcm_feeder.specs.declared.stage.Gain.{Gain}
use Rattle.pcm_feeder.specs.Layouts.{unity}
use Rattle.pcm_oss.specs.declared.event.TheConstants.{SLOTS}
use Rattle.pcm_oss.specs.declared.volume.TheConstants.{VOLUME}
use Rattle.pcm_oss.specs.Volumes.{gain_of}
use Rattle.pcm_mixdev.specs.Mixers.{full_mixer, no_gain, slot_gain, slot_volume}
use Rattle.pcm_desk.specs.Device.{play_slots}
use Rattle.pcm_sound.specs.Gains.{GainSet, fader_after, last_gain}
use Rattle.pcm_sound.specs.Plain.{HasNoShortage, IsUnbroken, SoundAlike, Span, is_within, span_at, spans_of}
use Rattle.pcm_sound.specs.Runs.{Piece}
use Rattle.pcm_sound.specs.Story.{Story}
use Rattle.pcm_sound.proofs.Stories.{get_or-same}
use Rattle.pcm_rows.specs.Calls.{piece, small_device, story_after}
use Rattle.pcm_rows.specs.PlainRows.{behind_script, brief_script, four_frames, span, usual_plan, whole_script}

abbrev whole : Story
whole = story_after small_device whole_script

abbrev brief : Story
brief = story_after small_device brief_script

abbrev behind : Story
behind = story_after small_device behind_script

-- what holds of the first four numbers, and of every greater one
by_four : (P : ℕ → Type 0) → P 0 → P 1 → P 2 → P 3 → ((n : ℕ) → P (suc (suc (suc (suc n))))) → (n : ℕ) → P n
by_four P a b c d more zero = a
by_four P a b c d more (suc zero) = b
by_four P a b c d more (suc (suc zero)) = c
by_four P a b c d more (suc (suc (suc zero))) = d
by_four P a b c d more (suc (suc (suc (suc n)))) = more n

-- ---- no piece is short

abbrev IsFull : Piece → Type 0
IsFull piece = piece.short ≡ 0

pub whole-unbroken : HasNoShortage whole
whole-unbroken = by_four (λ slot. All IsUnbroken (whole.runs slot))
    (All-from_recursion IsUnbroken (whole.runs 0) (All-from_recursion IsFull (piece 4 4 0 0 ∷ piece 0 0 4 0 ∷ []) (refl, (refl, tt)), tt))
    (All-nil IsUnbroken) (All-nil IsUnbroken) (All-nil IsUnbroken) (λ slot. All-nil IsUnbroken)

pub brief-unbroken : HasNoShortage brief
brief-unbroken = by_four (λ slot. All IsUnbroken (brief.runs slot))
    (All-from_recursion IsUnbroken (brief.runs 0) (All-from_recursion IsFull (piece 3 3 1 0 ∷ piece 1 1 2 0 ∷ piece 0 0 1 0 ∷ []) (refl, (refl, (refl, tt))), tt))
    (All-nil IsUnbroken) (All-nil IsUnbroken) (All-nil IsUnbroken) (λ slot. All-nil IsUnbroken)

-- ---- nothing is asked of the mixer device

-- a fader's gains after events that leave it at its gain; each position is how many frames were mixed before
abbrev kept_at : List ℕ → Gain → List GainSet
kept_at [] gain = []
kept_at (position ∷ positions) gain = fader_after position gain gain (kept_at positions gain)

-- each slot is at full volume
full_gain : (slot : ℕ) → slot_gain full_mixer slot ≡ unity
full_gain slot = ap (λ (muted : Bool). cond muted no_gain (gain_of (slot_volume full_mixer slot))) (get_or-same SLOTS slot false) ∙ ap gain_of (get_or-same SLOTS slot VOLUME)

whole-kept : (slot : ℕ) → whole.faders.slots slot ≡ []
whole-kept slot = ap (kept_at (4 ∷ 0 ∷ 0 ∷ 0 ∷ 0 ∷ [])) (full_gain slot)

brief-kept : (slot : ℕ) → brief.faders.slots slot ≡ []
brief-kept slot = ap (kept_at (3 ∷ 1 ∷ 1 ∷ 1 ∷ 0 ∷ 0 ∷ 0 ∷ 0 ∷ 0 ∷ [])) (full_gain slot)

behind-kept : (slot : ℕ) → behind.faders.slots slot ≡ []
behind-kept slot = ap (kept_at (4 ∷ 4 ∷ 0 ∷ 0 ∷ 0 ∷ 0 ∷ [])) (full_gain slot)

-- ---- the same is heard

-- what two stories give by number, where no channel is mapped: that of the slots that play
abbrev Alike : Story → Story → Bool → ℕ → Type 0
Alike one other plays slot =
    spans_of small_device 6 (cond plays (one.runs slot) (one.map_runs (slot - 4))) ≡ spans_of small_device 6 (cond plays (other.runs slot) (other.map_runs (slot - 4)))

-- and so are their gains at a position, where they are heard
abbrev AlikeAt : Story → Story → ℕ → Bool → ℕ → Type 0
AlikeAt one other position plays slot =
    span_at (spans_of small_device 6 (cond plays (one.runs slot) (one.map_runs (slot - 4)))) position ≢ None
    → last_gain (cond plays (one.gains slot) (one.map_gains (slot - 4))) position ≡ last_gain (cond plays (other.gains slot) (other.map_gains (slot - 4))) position

pub brief-alike : SoundAlike small_device 6 whole brief
brief-alike = record {
  spans = λ slot. elim (nat_lt slot (play_slots small_device)) as (λ (plays : Bool). Alike whole brief plays slot) [
    | true ↦ by_four (Alike whole brief true) refl refl refl refl (λ slot. refl) slot
    | false ↦ refl
  ];
  gains = λ slot position. elim (nat_lt slot (play_slots small_device)) as (λ (plays : Bool). AlikeAt whole brief position plays slot) [
    | true ↦ by_four (AlikeAt whole brief position true) (λ heard. refl) (λ heard. refl) (λ heard. refl) (λ heard. refl) (λ other heard. refl) slot
    | false ↦ λ heard. refl
  ];
  faders = λ slot position heard. ap (λ (gains : List GainSet). last_gain gains position) (whole-kept slot ∙ sym (brief-kept slot));
  master = λ position below. refl;
}

-- its only span
abbrev only_span : Span
only_span = span usual_plan four_frames 0 4

past_the_end : (n : ℕ) → span_at (only_span ∷ []) (suc (suc (suc (suc n)))) ≡ None
past_the_end n =
    let past : is_within (suc (suc (suc (suc n)))) only_span ≡ false = grind (arith, nat_tests) in
    ap (λ (within : Bool). cond within (Some only_span) None) past

-- where the first slot is heard, the volumes are equal: they differ from position 4 on, and there its run is over
behind_first : (position : ℕ) → span_at (spans_of small_device 6 (whole.runs 0)) position ≢ None → last_gain (whole.gains 0) position ≡ last_gain (behind.gains 0) position
behind_first = by_four (λ position. span_at (spans_of small_device 6 (whole.runs 0)) position ≢ None → last_gain (whole.gains 0) position ≡ last_gain (behind.gains 0) position)
    (λ heard. refl) (λ heard. refl) (λ heard. refl) (λ heard. refl) (λ n heard. absurd (heard (past_the_end n)))

pub behind-alike : SoundAlike small_device 6 whole behind
behind-alike = record {
  spans = λ slot. elim (nat_lt slot (play_slots small_device)) as (λ (plays : Bool). Alike whole behind plays slot) [
    | true ↦ by_four (Alike whole behind true) refl refl refl refl (λ slot. refl) slot
    | false ↦ refl
  ];
  gains = λ slot position. elim (nat_lt slot (play_slots small_device)) as (λ (plays : Bool). AlikeAt whole behind position plays slot) [
    | true ↦ by_four (AlikeAt whole behind position true) (behind_first position) (λ not. refl) (λ not. refl) (λ not. refl) (λ other not. refl) slot
    | false ↦ λ heard. refl
  ];
  faders = λ slot position heard. ap (λ (gains : List GainSet). last_gain gains position) (whole-kept slot ∙ sym (behind-kept slot));
  master = λ position below. refl;
}
