-- What a fitted feeder keeps is bounded, whatever it is fed.
use Rattle.std.proofs.Common.{◌≡◌, ◌<◌, ◌≤◌, ◌+◌, ◌*◌, ◌/◌, ℕ, zero, suc, ℤ, pos, negsuc, neg_ℤ, ◌+ℤ◌, ◌-ℤ◌, ◌≤ℤ◌, ◌<ℤ◌, ◌⊎◌, List, [], length, take, inl, inr, refl, sym, ap, ◌∙◌, arith}
use Rattle.std.proofs.Math.Nat.{mul-le-mul_right, lt-div-mul-add, div-lt_iff_lt-mul}
use Rattle.std.proofs.lemmas.Bool.{cases_lt}
use Rattle.std.proofs.lemmas.Int.{ints, clamps, by_lt_z}
use Rattle.std.specs.Int.{int_max}
use Rattle.std.proofs.lemmas.List.Elements.{All-take, All-nil, All-same}
use Rattle.pcm_format.specs.Frames.{Frame}
use Rattle.pcm_format.specs.Samples.{natural}
use Rattle.pcm_feeder.specs.declared.stage.Gain.{Gain}
use Rattle.pcm_feeder.specs.declared.stage.Spec.{Spec}
use Rattle.pcm_feeder.specs.Filters.{Filters}
use Rattle.pcm_feeder.specs.Limits.{IsSpec}
use Rattle.pcm_rate.specs.declared.rate.Rate.{Rate}
use Rattle.pcm_rate.specs.Rates.{unchanged}
use Rattle.pcm_feeder.specs.Streams.{HaveChannels}
use Rattle.pcm_feeder.specs.Stages.{rate_of, channels_in}
use Rattle.pcm_feeder.specs.Kept.{Kept, fresh, past, StandsFor, IsFitted}
use Rattle.pcm_feeder.specs.Turns.{step_of, reach, eaten_by, given_by, kept_after, turn}
use Rattle.pcm_rate.proofs.Counts.{div_grows}
use Rattle.pcm_feeder.proofs.Phases.{reach_allowed}
use Rattle.pcm_feeder.proofs.Resumed.{phase-after, phase-behind}
use Rattle.pcm_feeder.proofs.Outputs.{src-above, dst-above}
use Rattle.pcm_feeder.proofs.Past.{past-begin, past-count, past-channels, past_after-count, past_after-channels}
use Rattle.pcm_feeder.proofs.Turns.{natural-is, eaten-within, reach-above, ahead-most, ahead-unrated, turn-fitted}

-- ---- the distance to the next output

-- the integer that a natural number bounds
pub natural-above : (z : ℤ) (n : ℕ) → 0 < n → n ≤ natural z → pos n ≤ℤ z
natural-above (pos k) n above h = omega (arith, ints)
natural-above (negsuc k) n above h = absurd (omega arith)

pub natural-below : (z : ℤ) (n : ℕ) → pos n ≤ℤ z → n ≤ natural z
natural-below (pos k) n h = omega (arith, ints)
natural-below (negsuc k) n h = absurd (omega (arith, ints))

-- the next output itself lies no frame further
pub step-zero : (rate : Rate) (phase : ℕ) → phase < rate.dst → step_of rate phase 0 ≡ 0
step-zero rate phase below = omega (arith, (div-lt_iff_lt-mul {k = rate.dst} {x = phase + 0 * rate.src} {y = 1} (omega arith)).1 (omega arith))

-- one output more lies at most the whole quotient and one frame further
pub step-more : (rate : Rate) (phase j : ℕ) → 0 < rate.dst → step_of rate phase (suc j) ≤ step_of rate phase j + rate.src / rate.dst + 1
step-more rate phase j dst =
    let q = step_of rate phase j in
    let r = rate.src / rate.dst in
    let low = lt-div-mul-add {a = phase + j * rate.src} {b = rate.dst} dst in
    let step = lt-div-mul-add {a = rate.src} {b = rate.dst} dst in
    let next = (div-lt_iff_lt-mul {k = rate.dst} {x = phase + suc j * rate.src} {y = q + r + 2} dst).1 (omega arith) in
    omega arith

pub step-grows : (rate : Rate) (phase j k : ℕ) → 0 < rate.dst → j ≤ k → step_of rate phase j ≤ step_of rate phase k
step-grows rate phase j k dst h =
    div_grows (phase + j * rate.src) (phase + k * rate.src) rate.dst dst (omega (arith, mul-le-mul_right rate.src h))

pub reach-grows : (rate : Rate) (phase j k : ℕ) → 0 < rate.dst → j ≤ k → reach rate phase j ≤ reach rate phase k
reach-grows rate phase zero k dst h = omega arith
reach-grows rate phase (suc j) zero dst h = absurd (omega arith)
reach-grows rate phase (suc j) (suc k) dst h = let less : j ≤ k = omega arith in omega (arith, step-grows rate phase j k dst less)

-- the frames given reach no further than all frames offered
pub given-reach : (rate : Rate) (kept : Kept) (o want : ℕ) → 0 < rate.src → 0 < rate.dst → 0 < given_by rate kept.phase kept.ahead o want
    → pos (reach rate kept.phase (given_by rate kept.phase kept.ahead o want)) ≤ℤ (kept.ahead +ℤ pos o)
given-reach rate kept o want src dst above =
    let given = given_by rate kept.phase kept.ahead o want in
    let n = natural (kept.ahead +ℤ pos o) in
    natural-above (kept.ahead +ℤ pos o) (reach rate kept.phase given) (reach-above rate kept.phase given above)
    ((reach_allowed rate kept.phase given n src dst).1 (omega arith))

-- and where fewer are given than wanted, one more would
pub given-most : (rate : Rate) (kept : Kept) (o want : ℕ) → 0 < rate.src → 0 < rate.dst → given_by rate kept.phase kept.ahead o want < want
    → (kept.ahead +ℤ pos o) <ℤ pos (reach rate kept.phase (suc (given_by rate kept.phase kept.ahead o want)))
given-most rate kept o want src dst fewer =
    let given = given_by rate kept.phase kept.ahead o want in
    let n = natural (kept.ahead +ℤ pos o) in
    let more = reach_allowed rate kept.phase (suc given) n src dst in
    by_lt_z (kept.ahead +ℤ pos o) (pos (reach rate kept.phase (suc given))) (λ h. h)
    (λ h. absurd (omega (arith, more.0 (natural-below (kept.ahead +ℤ pos o) (reach rate kept.phase (suc given)) h))))

-- an integer cut off at 0 is the integer, or 0
pub natural-cases : (z : ℤ) → (pos (natural z) ≡ z) ⊎ ((z ≤ℤ pos 0) × (natural z ≡ 0))
natural-cases (pos n) = inl refl
natural-cases (negsuc n) = inr (omega (arith, ints), refl)

-- a feed eats no frame beyond those that the wanted outputs use
pub eaten-most : (rate : Rate) (kept : Kept) (o want : ℕ)
    → (kept.ahead +ℤ pos (eaten_by rate kept.phase kept.ahead o want)) ≤ℤ int_max kept.ahead (pos (reach rate kept.phase want))
eaten-most rate kept o zero = omega (arith, ints, clamps)
eaten-most rate kept o (suc j) =
    elim (natural-cases (pos (reach rate kept.phase (suc j)) -ℤ kept.ahead)) [
      | inl same ↦ omega (arith, ints, clamps, same)
      | inr none ↦ omega (arith, ints, clamps, none.1)
    ]

-- and leaves none of them, unless it eats all that it is offered
pub eaten-least : (rate : Rate) (kept : Kept) (o want : ℕ) → 0 < want
    → (eaten_by rate kept.phase kept.ahead o want ≡ o) ⊎ (pos (reach rate kept.phase want) ≤ℤ (kept.ahead +ℤ pos (eaten_by rate kept.phase kept.ahead o want)))
eaten-least rate kept o zero above = absurd (omega arith)
eaten-least rate kept o (suc j) above =
    let gap = pos (reach rate kept.phase (suc j)) -ℤ kept.ahead in
    elim (cases_lt (natural gap) o) [
      | inl fewer ↦ inr (elim (natural-cases gap) [
        | inl same ↦ omega (arith, ints, same)
        | inr none ↦ omega (arith, ints, none.0)
      ])
      | inr all ↦ inl (omega arith)
    ]

-- ---- the bounds

-- so the frames eaten are never too far past the next output
pub ahead-most-after : (rate : Rate) (kept : Kept) (o want : ℕ) → 0 < rate.src → 0 < rate.dst → kept.phase < rate.dst → kept.ahead ≤ℤ pos (1 + rate.lookahead)
    → (kept.ahead +ℤ pos (eaten_by rate kept.phase kept.ahead o want) -ℤ pos (step_of rate kept.phase (given_by rate kept.phase kept.ahead o want))) ≤ℤ pos (1 + rate.lookahead)
ahead-most-after rate kept o zero src dst phase most =
    let none : given_by rate kept.phase kept.ahead o 0 ≡ 0 = omega arith in
    omega (arith, ints)
ahead-most-after rate kept o (suc j) src dst phase most =
    let given = given_by rate kept.phase kept.ahead o (suc j) in
    elim (cases_lt given (suc j)) [
      | inl fewer ↦ omega (arith, ints, given-most rate kept o (suc j) src dst fewer, eaten-within rate kept o (suc j))
      | inr all ↦ omega (arith, ints, clamps, eaten-most rate kept o (suc j), step-grows rate kept.phase j given dst (omega arith))
    ]

-- nor too far ahead
pub ahead-least-after : (rate : Rate) (kept : Kept) (o want : ℕ) → 0 < rate.src → 0 < rate.dst → kept.phase < rate.dst
    → neg_ℤ (pos (rate.src / rate.dst)) ≤ℤ kept.ahead
    → neg_ℤ (pos (rate.src / rate.dst)) ≤ℤ (kept.ahead +ℤ pos (eaten_by rate kept.phase kept.ahead o want) -ℤ pos (step_of rate kept.phase (given_by rate kept.phase kept.ahead o want)))
ahead-least-after rate kept o want src dst phase least = from_given (given_by rate kept.phase kept.ahead o want) refl
  where
    from_given : (given : ℕ) → given ≡ given_by rate kept.phase kept.ahead o want
        → neg_ℤ (pos (rate.src / rate.dst)) ≤ℤ (kept.ahead +ℤ pos (eaten_by rate kept.phase kept.ahead o want) -ℤ pos (step_of rate kept.phase (given_by rate kept.phase kept.ahead o want)))
    from_given zero e = rw (← e) (omega (arith, ints, step-zero rate kept.phase phase))
    from_given (suc g) e =
        let wanted : 0 < want = omega arith in
        let below : suc g ≤ want = omega arith in
        let reached = given-reach rate kept o want src dst (omega arith) in
        let same : reach rate kept.phase (given_by rate kept.phase kept.ahead o want) ≡ reach rate kept.phase (suc g) = ap (reach rate kept.phase) (sym e) in
        let step : step_of rate kept.phase (given_by rate kept.phase kept.ahead o want) ≡ step_of rate kept.phase (suc g) = ap (step_of rate kept.phase) (sym e) in
        let grown = reach-grows rate kept.phase (suc g) want dst below in
        let more = step-more rate kept.phase g dst in
        elim (eaten-least rate kept o want wanted) [
          | inl all ↦ omega (arith, ints)
          | inr enough ↦ omega (arith, ints)
        ]

-- a stage without a change of rate gives what it eats
ahead-unchanged-after : (kept : Kept) (o want : ℕ) → kept.phase < 1 → kept.ahead ≡ pos 0
    → (kept.ahead +ℤ pos (eaten_by unchanged kept.phase kept.ahead o want) -ℤ pos (step_of unchanged kept.phase (given_by unchanged kept.phase kept.ahead o want))) ≡ pos 0
ahead-unchanged-after kept o zero phase even = omega (arith, ints)
ahead-unchanged-after kept o (suc j) phase even =
    let offered = natural-is (kept.ahead +ℤ pos o) o 0 (omega (arith, ints)) in
    let wanted = natural-is (pos (reach unchanged kept.phase (suc j)) -ℤ kept.ahead) (suc j) 0 (omega (arith, ints)) in
    omega (arith, ints, offered, wanted)

ahead-unrated-after : (rate : Rate) (kept : Kept) (o want : ℕ) → rate ≡ unchanged → kept.phase < rate.dst → kept.ahead ≡ pos 0
    → (kept.ahead +ℤ pos (eaten_by rate kept.phase kept.ahead o want) -ℤ pos (step_of rate kept.phase (given_by rate kept.phase kept.ahead o want))) ≡ pos 0
ahead-unrated-after rate kept o want level = rw level (ahead-unchanged-after kept o want)

-- ---- the law

-- a feed leaves a fitted feeder fitted
fitted-after : (spec : Spec) (tables : Filters) (kept : Kept) (input : List Frame) (want : ℕ) → IsSpec spec → IsFitted spec kept → HaveChannels (channels_in spec) input
    → IsFitted spec (kept_after spec tables kept input (eaten_by (rate_of spec) kept.phase kept.ahead (length input) want) (given_by (rate_of spec) kept.phase kept.ahead (length input) want))
fitted-after spec tables kept input want is h have =
    let rate = rate_of spec in
    let o = length input in
    let eaten = eaten_by rate kept.phase kept.ahead o want in
    let given = given_by rate kept.phase kept.ahead o want in
    let within = eaten-within rate kept o want in
    let P : Frame → Type 0 = λ frame. length frame ≡ channels_in spec in
    record {
      fitted = refl;
      phase = phase-after rate kept.phase given (dst-above spec is) h.phase;
      least = ahead-least-after rate kept o want (src-above spec is) (dst-above spec is) h.phase.below h.least;
      most = ahead-most-after rate kept o want (src-above spec is) (dst-above spec is) h.phase.below h.most;
      unrated = λ level. ahead-unrated-after rate kept o want level h.phase.below (h.unrated level);
      count = past_after-count spec tables kept.tail (take eaten input) h.count;
      frames = past_after-channels spec tables kept.tail (take eaten input) h.frames (All-take P eaten input have);
    }

pub turn-fits : (spec : Spec) (kept : Kept) (tables : Filters) (gain : Gain) (input : List Frame) (want : ℕ) → IsSpec spec → IsFitted spec kept
    → HaveChannels (channels_in spec) input → IsFitted spec (turn kept tables gain input want).kept
turn-fits spec kept tables gain input want is h have =
    rw (turn-fitted spec kept tables gain input want h.fitted) (fitted-after spec tables kept input want is h have)

-- a feeder that stands for frames is fitted
ahead-least : (spec : Spec) (tables : Filters) (kept : Kept) (x : List Frame) (given : ℕ) → IsSpec spec → StandsFor spec tables kept x given
    → neg_ℤ (pos ((rate_of spec).src / (rate_of spec).dst)) ≤ℤ kept.ahead
ahead-least spec tables kept x zero is h = omega (arith, ints, h.ahead, step-zero (rate_of spec) 0 (dst-above spec is))
ahead-least spec tables kept x (suc given) is h =
    let rate = rate_of spec in
    let start : (0 + suc given * rate.src) / rate.dst ≡ suc given * rate.src / rate.dst = ap (λ z. z / rate.dst) (omega arith) in
    let before : (0 + given * rate.src) / rate.dst ≡ given * rate.src / rate.dst = ap (λ z. z / rate.dst) (omega arith) in
    omega (arith, ints, h.ahead, h.least, step-more rate 0 given (dst-above spec is))

pub StandsFor-fitted : (spec : Spec) (tables : Filters) (kept : Kept) (x : List Frame) (given : ℕ) → IsSpec spec → StandsFor spec tables kept x given → IsFitted spec kept
StandsFor-fitted spec tables kept x given is h =
    let P : Frame → Type 0 = λ frame. length frame ≡ channels_in spec in
    record {
      fitted = h.fitted;
      phase = rw h.phase (phase-behind (rate_of spec) given (dst-above spec is));
      least = ahead-least spec tables kept x given is h;
      most = ahead-most spec tables kept x given is h;
      unrated = ahead-unrated spec tables kept x given h;
      count = ap length h.tail ∙ past-count spec tables x;
      frames = All-same P kept.tail (past spec tables x) h.tail (past-channels spec tables x h.frames);
    }

-- a feeder that was just fitted stands for no frames
pub fresh-stands : (spec : Spec) (tables : Filters) → IsSpec spec → StandsFor spec tables (fresh spec) [] 0
fresh-stands spec tables is = record {
  fitted = refl;
  phase = omega (arith, dst-above spec is);
  ahead = omega (arith, ints, step-zero (rate_of spec) 0 (dst-above spec is));
  least = omega arith;
  most = omega arith;
  tail = past-begin spec tables;
  frames = All-nil (λ frame. length frame ≡ channels_in spec);
}
