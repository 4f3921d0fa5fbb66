-- What a converter needs to write its next frames: they are there, one stands after another, and the last ones stay.
use Rattle.std.proofs.Common.{◌≡◌, ◌<◌, ◌≤◌, ◌+◌, ◌-◌, ◌*◌, ◌/◌, ◌%◌, ℕ, zero, suc, ℤ, pos, ◌+ℤ◌, ◌-ℤ◌, List, [], ◌∷◌, ◌++◌, length, map, take, drop, get_or, None, Some, sym, ap, ◌∙◌, arith}
use Rattle.std.specs.List.{range_with_len}
use Rattle.std.proofs.Math.Nat.{mul-div_cancel, mul-le-mul_right, mul-mod_left, div-mul-le_self, div-le_self, lt_of_mul-lt-mul_right}
use Rattle.std.proofs.Math.Seq.{drop-append-add}
use Rattle.std.proofs.lemmas.Nat.{div-add-mod'}
use Rattle.std.proofs.lemmas.Int.{ints}
use Rattle.std.proofs.lemmas.List.{length-take-le, length-append, length-drop, drop-drop, take-append-drop, drop-append-le, take-append-le, drop_at}
use Rattle.std.proofs.lemmas.List.Elements.{All-map, All-take}
use Rattle.std.proofs.lemmas.List.FromFn.{length-map-range_with_len, map-range_with_len_more, get_or-map-range_with_len}
use Rattle.pcm_format.specs.Frames.{Frame}
use Rattle.pcm_format.specs.Samples.{natural}
use Rattle.pcm_rate.specs.declared.rate.Rate.{Rate}
use Rattle.pcm_feeder.specs.declared.pace.Pace.{Pace}
use Rattle.pcm_feeder.specs.declared.pace.Step.{Step}
use Rattle.pcm_feeder.specs.Fractions.{IsAhead}
use Rattle.pcm_feeder.specs.declared.stage.Gain.{Gain}
use Rattle.pcm_feeder.specs.declared.stage.Spec.{Spec}
use Rattle.pcm_feeder.specs.Filters.{Filters}
use Rattle.pcm_feeder.specs.Kept.{Kept, past_after}
use Rattle.pcm_feeder.specs.Pace.{rate_by, phase_by, ahead_by, factor_of, IsStep}
use Rattle.pcm_feeder.specs.Stages.{rate_of, channels_in}
use Rattle.pcm_feeder.specs.Streams.{frames_of, interleaved, written, silence, HaveChannels, moved_on}
use Rattle.pcm_feeder.specs.Turns.{Turn, step_of, phase_of, reach, eaten_by, given_by, frames_by, kept_after, fed}
use Rattle.pcm_feeder.proofs.Fitted.{natural-above, reach-grows, step-zero, step-more, ahead-least-after, ahead-most-after}
use Rattle.pcm_feeder.proofs.Frames.{frame_in, written-more, length-interleaved, frames_of-channels, frames_of-append, frames_of-interleaved, interleaved-take, length-frames_of}
use Rattle.pcm_feeder.proofs.Mapped.{frames-there}
use Rattle.pcm_feeder.proofs.Phases.{reach_allowed}
use Rattle.pcm_feeder.proofs.Turns.{fed-fitted, turn-fitted}

-- ---- the counts of a feed

-- what counts at a pace
abbrev paced : ℕ → ℤ → Kept
paced phase ahead = record { spec = None; phase = phase; ahead = ahead; tail = [] }

-- a phase lies within a frame
pub phase-below : (pace : Pace) → phase_by pace < (rate_by pace).dst
phase-below pace =
    let next : suc pace.phase ≤ pace.dst = omega (arith, pace.below) in
    omega (arith, pace.fraction.dst, pace.fraction.above, mul-le-mul_right pace.factor next)

-- the frames given are allowed by those eaten and offered
pub given-enough : (pace : Pace) (offered want given : ℕ) → given ≡ given_by (rate_by pace) (phase_by pace) (ahead_by pace) offered want
    → reach (rate_by pace) (phase_by pace) given ≤ natural (ahead_by pace +ℤ pos offered)
given-enough pace offered want given is =
    (reach_allowed (rate_by pace) (phase_by pace) given (natural (ahead_by pace +ℤ pos offered))
    (omega (arith, pace.paced.source.least)) (omega (arith, pace.paced.target.least))).1 (omega (arith, is))

-- a pace that has moved on by a feed stays within its bounds
pub moved-within : (pace : Pace) (offered want eaten given : ℕ) (step : Step) → eaten ≡ eaten_by (rate_by pace) (phase_by pace) (ahead_by pace) offered want
    → given ≡ given_by (rate_by pace) (phase_by pace) (ahead_by pace) offered want → IsStep pace step given
    → IsAhead (rate_by pace) (ahead_by pace +ℤ pos eaten -ℤ pos step.frames)
moved-within pace offered want eaten given step eats gives at =
    let rate = rate_by pace in
    let kept = paced (phase_by pace) (ahead_by pace) in
    let src : 0 < rate.src = omega (arith, pace.paced.source.least) in
    let dst : 0 < rate.dst = omega (arith, pace.paced.target.least) in
    let passed : step.frames ≡ step_of rate (phase_by pace) (given_by rate (phase_by pace) (ahead_by pace) offered want) = at.frames ∙ ap (step_of rate (phase_by pace)) gives in
    rw (eats, passed) (record {
      least = ahead-least-after rate kept offered want src dst (phase-below pace) pace.bounds.least;
      most = ahead-most-after rate kept offered want src dst (phase-below pace) pace.bounds.most;
    })

-- ---- the frames under the outputs

-- the frames that an allowed output uses were kept or offered
pub place-within : (rate : Rate) (phase j count kept offered start : ℕ) (ahead : ℤ) → 0 < rate.dst → j < count
    → reach rate phase count ≤ natural (ahead +ℤ pos offered) → pos start ≡ (pos kept -ℤ ahead)
    → start + step_of rate phase j + 1 + rate.lookahead ≤ kept + offered
place-within rate phase j count kept offered start ahead dst below enough is =
    let grown = reach-grows rate phase (suc j) count dst below in
    omega (arith, ints, natural-above (ahead +ℤ pos offered) (reach rate phase (suc j)) (omega arith) (omega arith))

-- the same, at the step of the output
pub step-within : (pace : Pace) (j count kept offered start : ℕ) (step : Step) → IsStep pace step j → j < count
    → reach (rate_by pace) (phase_by pace) count ≤ natural (ahead_by pace +ℤ pos offered) → pos start ≡ (pos kept -ℤ ahead_by pace)
    → start + step.frames + 1 + (rate_by pace).lookahead ≤ kept + offered
step-within pace j count kept offered start step at below enough is =
    omega (arith, at.frames, place-within (rate_by pace) (phase_by pace) j count kept offered start (ahead_by pace) (omega (arith, pace.paced.target.least)) below enough is)

-- so no output up to the last one lies far past the frames offered
pub step-short : (pace : Pace) (j count offered : ℕ) (step : Step) → IsStep pace step j → j ≤ count
    → reach (rate_by pace) (phase_by pace) count ≤ natural (ahead_by pace +ℤ pos offered) → step.frames ≤ offered + 200000
step-short pace zero count offered step at within enough = omega (arith, at.frames, step-zero (rate_by pace) (phase_by pace) (phase-below pace))
step-short pace (suc j) count offered step at within enough =
    let rate = rate_by pace in
    let phase = phase_by pace in
    let dst : 0 < rate.dst = omega (arith, pace.paced.target.least) in
    let grown = reach-grows rate phase (suc j) count dst within in
    let reached = natural-above (ahead_by pace +ℤ pos offered) (reach rate phase (suc j)) (omega arith) (omega arith) in
    omega (arith, ints, reached, at.frames, step-more rate phase j dst, div-le_self rate.src rate.dst, pace.paced.source.most, pace.bounds.most)

-- ---- one frame after another

-- one frame more was written
write-more : (c : ℕ) (next : ℕ → Frame) (frame : Frame) (old : List ℤ) (j : ℕ) → ((k : ℕ) → length (next k) ≡ c) → frame ≡ next j
    → take (j * c) (written (map next (range_with_len 0 j)) old) ++ (frame ++ drop (j * c + c) (written (map next (range_with_len 0 j)) old)) ≡ written (map next (range_with_len 0 (j + 1))) old
write-more c next frame old j have is =
    let list = map next (range_with_len 0 j) in
    let P : Frame → Type 0 = λ f. length f ≡ c in
    let all : HaveChannels c list = All-map P next (range_with_len 0 j) (λ i d below. have (get_or (range_with_len 0 j) i d)) in
    let count : length (interleaved list) ≡ j * c = length-interleaved c list all ∙ ap (λ n. n * c) (length-map-range_with_len next 0 j) in
    let long : j * c + c ≡ j * c + length frame = omega (arith, ap length is, have j) in
    ap (λ n. take (j * c) (written list old) ++ (frame ++ drop n (written list old))) long
    ∙ written-more list frame old (j * c) count
    ∙ ap (λ f. written (list ++ f ∷ []) old) is
    ∙ ap (λ l. written l old) (sym (map-range_with_len_more next 0 j j (omega arith)))

-- the same, as a loop writes it
pub write-step : (c : ℕ) (next : ℕ → Frame) (output new frame old : List ℤ) (j : ℕ) → ((k : ℕ) → length (next k) ≡ c) → output ≡ written (map next (range_with_len 0 j)) old → new ≡ frame → frame ≡ next j
    → take (j * c) output ++ (new ++ drop (j * c + c - j * c) (drop (j * c) output)) ≡ written (map next (range_with_len 0 (j + 1))) old
write-step c next output new frame old j have before same is =
    let part : j * c + (j * c + c - j * c) ≡ j * c + c = omega arith in
    ap (λ l. take (j * c) output ++ (new ++ l)) (drop-drop (j * c + c - j * c) (j * c) output ∙ ap (λ n. drop n output) part)
    ∙ ap (λ l. take (j * c) l ++ (new ++ drop (j * c + c) l)) before
    ∙ ap (λ f. take (j * c) (written (map next (range_with_len 0 j)) old) ++ (f ++ drop (j * c + c) (written (map next (range_with_len 0 j)) old))) same
    ∙ write-more c next frame old j have is

-- ---- the frames kept, and those that come

-- frames of samples that are cut
frames_of-take : (c n : ℕ) (samples : List ℤ) → 0 < c → n ≤ length samples / c → frames_of c (take (n * c) samples) ≡ take n (frames_of c samples)
frames_of-take c n samples above within =
    let P : Frame → Type 0 = λ f. length f ≡ c in
    ap (frames_of c) (sym (interleaved-take c n samples within))
    ∙ frames_of-interleaved c (take n (frames_of c samples)) above (All-take P n (frames_of c samples) (frames_of-channels c samples))

frames_of-drop : (c n : ℕ) (samples : List ℤ) → 0 < c → n * c ≤ length samples → frames_of c (drop (n * c) samples) ≡ drop n (frames_of c samples)
frames_of-drop c n samples above fits =
    let front = take (n * c) samples in
    let back = drop (n * c) samples in
    let long : length front ≡ n * c = length-take-le (n * c) samples fits in
    let even : length front % c ≡ 0 = ap (λ z. z % c) long ∙ mul-mod_left n c in
    let count : length (frames_of c front) ≡ n = length-frames_of c front ∙ ap (λ z. z / c) long ∙ mul-div_cancel n above in
    sym (drop_at (frames_of c front) (frames_of c back) n count)
    ∙ ap (drop n) (sym (frames_of-append c front back above even))
    ∙ ap (λ all. drop n (frames_of c all)) (take-append-drop (n * c) samples)

-- a frame among both, by its place
frame-among : (c : ℕ) (kept input : List ℤ) (place : ℕ) → 0 < c → length kept % c ≡ 0 → (place + 1) * c ≤ length kept + length input
    → take c (drop (place * c) (kept ++ input)) ≡ get_or (frames_of c kept ++ frames_of c input) place (silence c)
frame-among c kept input place above even there =
    let all = kept ++ input in
    let next : place + 1 ≤ length all / c = frames-there c (length all) (place + 1) above (omega (arith, length-append kept input)) in
    let below : place < length all / c = omega arith in
    sym (get_or-map-range_with_len (frame_in c all) 0 (length all / c) place place (silence c) below (omega arith))
    ∙ ap (λ frames. get_or frames place (silence c)) (frames_of-append c kept input above even)

-- one that was kept
pub frame-kept : (c : ℕ) (kept input : List ℤ) (place : ℕ) → 0 < c → length kept % c ≡ 0 → (place + 1) * c ≤ length kept + length input → place * c < length kept
    → take (place * c + c - place * c) (drop (place * c) kept) ≡ get_or (frames_of c kept ++ frames_of c input) place (silence c)
frame-kept c kept input place above even there before =
    let count = length kept / c in
    let parts : length kept ≡ count * c = omega (arith, div-add-mod' (length kept) c) in
    let below : place < count = lt_of_mul-lt-mul_right c (omega (arith, parts)) in
    let next : suc place ≤ count = omega arith in
    let fits : place * c + c ≤ length kept = omega (arith, parts, mul-le-mul_right c next) in
    let width : place * c + c - place * c ≡ c = omega arith in
    ap (λ w. take w (drop (place * c) kept)) width
    ∙ sym (take-append-le c (drop (place * c) kept) input (omega (arith, length-drop (place * c) kept)))
    ∙ ap (take c) (sym (drop-append-le (place * c) kept input (omega arith)))
    ∙ frame-among c kept input place above even there

-- one that comes
pub frame-behind : (c : ℕ) (kept input : List ℤ) (place : ℕ) → 0 < c → length kept % c ≡ 0 → (place + 1) * c ≤ length kept + length input → length kept ≤ place * c
    → take (place * c - length kept + c - (place * c - length kept)) (drop (place * c - length kept) input) ≡ get_or (frames_of c kept ++ frames_of c input) place (silence c)
frame-behind c kept input place above even there past =
    let at = place * c - length kept in
    let width : at + c - at ≡ c = omega arith in
    let same : length kept + at ≡ place * c = omega arith in
    ap (λ w. take w (drop at input)) width
    ∙ ap (take c) (sym (drop-append-add kept input at))
    ∙ ap (λ n. take c (drop n (kept ++ input))) same
    ∙ frame-among c kept input place above even there

-- the last frames, after n more were eaten
pub frames-moved : (c n : ℕ) (kept input : List ℤ) → 0 < c → length kept % c ≡ 0 → n ≤ length input / c
    → frames_of c (drop (length (take (n * c) input)) (kept ++ take (n * c) input)) ≡ moved_on (frames_of c kept) (take n (frames_of c input))
frames-moved c n kept input above even within =
    let eaten = take (n * c) input in
    let frames = frames_of-take c n input above within in
    let fits : n * c ≤ length input = omega (arith, mul-le-mul_right c within, div-mul-le_self (length input) c) in
    let long : length eaten ≡ n * c = length-take-le (n * c) input fits in
    let count : n ≡ length (take n (frames_of c input)) = sym (length-take-le n (frames_of c input) (omega (arith, length-frames_of c input))) in
    ap (λ k. frames_of c (drop k (kept ++ eaten))) long
    ∙ frames_of-drop c n (kept ++ eaten) above (omega (arith, length-append kept eaten))
    ∙ ap (drop n) (frames_of-append c kept eaten above even)
    ∙ ap (λ more. drop n (frames_of c kept ++ more)) frames
    ∙ ap (λ k. drop k (frames_of c kept ++ take n (frames_of c input))) count

-- ---- a feed

-- what a feed does, by how many frames it eats and gives
abbrev pub turn_by : Spec → Kept → Filters → Gain → List Frame → ℕ → ℕ → Turn
turn_by spec kept tables gain input eaten given = record {
  eaten = eaten;
  given = given;
  frames = frames_by spec kept tables gain input given;
  kept = kept_after spec tables kept input eaten given;
}

pub fed-by : (spec : Spec) (kept : Kept) (tables : Filters) (gain : Gain) (samples : List ℤ) (rate : Rate) (want eaten given : ℕ) → kept.spec ≡ Some spec → rate ≡ rate_of spec
    → eaten ≡ eaten_by rate kept.phase kept.ahead (length samples / channels_in spec) want → given ≡ given_by rate kept.phase kept.ahead (length samples / channels_in spec) want
    → fed kept tables gain samples want ≡ turn_by spec kept tables gain (frames_of (channels_in spec) samples) eaten given
fed-by spec kept tables gain samples rate want eaten given fitted same eats gives =
    let input = frames_of (channels_in spec) samples in
    let count : length samples / channels_in spec ≡ length input = sym (length-frames_of (channels_in spec) samples) in
    let eaten_is : eaten ≡ eaten_by (rate_of spec) kept.phase kept.ahead (length input) want =
    eats ∙ ap (λ r. eaten_by r kept.phase kept.ahead (length samples / channels_in spec) want) same ∙ ap (λ n. eaten_by (rate_of spec) kept.phase kept.ahead n want) count in
    let given_is : given ≡ given_by (rate_of spec) kept.phase kept.ahead (length input) want =
    gives ∙ ap (λ r. given_by r kept.phase kept.ahead (length samples / channels_in spec) want) same ∙ ap (λ n. given_by (rate_of spec) kept.phase kept.ahead n want) count in
    fed-fitted spec kept tables gain samples want fitted
    ∙ turn-fitted spec kept tables gain input want fitted
    ∙ ap (λ e. turn_by spec kept tables gain input e (given_by (rate_of spec) kept.phase kept.ahead (length input) want)) (sym eaten_is)
    ∙ ap (turn_by spec kept tables gain input eaten) (sym given_is)

-- what is kept after a feed, by the pace that has moved on
pub kept-by : (spec : Spec) (tables : Filters) (kept : Kept) (input tail : List Frame) (pace moved : Pace) (eaten given : ℕ) (step : Step) → rate_by pace ≡ rate_of spec
    → kept.phase ≡ phase_by pace → kept.ahead ≡ ahead_by pace → IsStep pace step given → phase_by moved ≡ step.phase * factor_of pace
    → ahead_by moved ≡ (ahead_by pace +ℤ pos eaten -ℤ pos step.frames) → tail ≡ past_after spec tables kept.tail (take eaten input)
    → record { spec = Some spec; phase = phase_by moved; ahead = ahead_by moved; tail = tail } ≡ kept_after spec tables kept input eaten given
kept-by spec tables kept input tail pace moved eaten given step same phase ahead at phase_is ahead_is tail_is =
    let rate = rate_of spec in
    let make : ℕ → ℤ → List Frame → Kept = λ p a t. record { spec = Some spec; phase = p; ahead = a; tail = t } in
    let passed : step.frames ≡ step_of rate kept.phase given = at.frames ∙ ap (λ r. step_of r (phase_by pace) given) same ∙ ap (λ p. step_of rate p given) (sym phase) in
    let parts : phase_by moved ≡ phase_of rate kept.phase given = phase_is ∙ at.phase ∙ ap (λ r. phase_of r (phase_by pace) given) same ∙ ap (λ p. phase_of rate p given) (sym phase) in
    let eaten_on : ahead_by moved ≡ (kept.ahead +ℤ pos eaten -ℤ pos (step_of rate kept.phase given)) = omega (arith, ints, ahead_is, ahead, passed) in
    ap (λ p. make p (ahead_by moved) tail) parts
    ∙ ap (λ a. make (phase_of rate kept.phase given) a tail) eaten_on
    ∙ ap (make (phase_of rate kept.phase given) (kept.ahead +ℤ pos eaten -ℤ pos (step_of rate kept.phase given))) tail_is
