-- A walk from output to output: the frames that each needs are there, and each is what the definition says.
use Rattle.std.proofs.Common.{◌≡◌, ◌<◌, ◌≤◌, ◌+◌, ◌*◌, ℕ, zero, suc, ℤ, pos, ◌+ℤ◌, ◌-ℤ◌, List, take, inl, inr, sym, ap, ◌∙◌, arith}
use Rattle.std.proofs.Math.Nat.{mul-le-mul_left}
use Rattle.std.proofs.lemmas.Int.{ints}
use Rattle.std.proofs.lemmas.List.{append-nil}
use Rattle.pcm_format.specs.Frames.{Frame}
use Rattle.pcm_format.specs.Samples.{natural}
use Rattle.pcm_feeder.specs.declared.pace.Pace.{Pace}
use Rattle.pcm_feeder.specs.declared.pace.Step.{Step}
use Rattle.pcm_feeder.specs.Filters.{Filters}
use Rattle.pcm_feeder.specs.Kept.{Kept, unfitted}
use Rattle.pcm_feeder.specs.Streams.{moved_on}
use Rattle.pcm_feeder.specs.Pace.{rate_by, phase_by, ahead_by, factor_of, IsStep}
use Rattle.pcm_feeder.specs.Turns.{step_of, phase_of, reach, eaten_by, given_by}
use Rattle.pcm_feeder.proofs.Fitted.{natural-below, reach-grows, step-grows, eaten-least}
use Rattle.pcm_feeder.proofs.Writing.{given-enough, step-within}
use Rattle.feed_rate.specs.declared.fitted.Fitted.{Fitted}
use Rattle.feed_rate.specs.declared.point.Point.{Point}
use Rattle.feed_rate.specs.Methods.{Method, history_by, lookahead_by, converter_by}
use Rattle.feed_rate.specs.Outputs.{around_place, output_by, output_at}

-- the frames given are allowed by those eaten
pub given-eaten : (pace : Pace) (offered want eaten given : ℕ) → eaten ≡ eaten_by (rate_by pace) (phase_by pace) (ahead_by pace) offered want
    → given ≡ given_by (rate_by pace) (phase_by pace) (ahead_by pace) offered want → reach (rate_by pace) (phase_by pace) given ≤ natural (ahead_by pace +ℤ pos eaten)
given-eaten pace offered zero eaten given eats gives = let none : given ≡ 0 = omega (arith, gives) in rw none (omega arith)
given-eaten pace offered (suc j) eaten given eats gives =
    let rate = rate_by pace in
    let kept : Kept = record unfitted { phase = phase_by pace; ahead = ahead_by pace } in
    let most : given ≤ suc j = omega (arith, gives) in
    elim (eaten-least rate kept offered (suc j) (omega arith)) [
      | inl all ↦ rw (eats ∙ all) (given-enough pace offered (suc j) given gives)
      | inr enough ↦
          let there : reach rate (phase_by pace) (suc j) ≤ natural (ahead_by pace +ℤ pos eaten) = rw eats (natural-below (ahead_by pace +ℤ pos (eaten_by rate (phase_by pace) (ahead_by pace) offered (suc j))) (reach rate (phase_by pace) (suc j)) enough) in
          omega (arith, there, reach-grows rate (phase_by pace) given (suc j) (omega (arith, pace.paced.target.least)) most)
    ]

-- the frames that an output needs are among those eaten
pub needed-within : (fitted : Fitted) (j count start eaten : ℕ) (step : Step) → IsStep fitted.pace step j → j < count
    → reach (rate_by fitted.pace) (phase_by fitted.pace) count ≤ natural (ahead_by fitted.pace +ℤ pos eaten)
    → pos start ≡ (pos fitted.used -ℤ ahead_by fitted.pace) → start + step.frames ≤ eaten
needed-within fitted j count start eaten step at below enough begins =
    omega (arith, fitted.used_is, step-within fitted.pace j count fitted.used eaten start step at below enough begins)

-- frames eaten are no more than their samples
pub eaten-few : (c eaten n : ℕ) → 0 < c → eaten * c ≤ n → eaten ≤ n
eaten-few c eaten n above there = omega (arith, mul-le-mul_left {m = 1} {n = c} eaten (omega arith))

-- an output lies no earlier than the one before
pub step-on : (pace : Pace) (step next : Step) (j : ℕ) → IsStep pace step j → IsStep pace next (j + 1) → step.frames ≤ next.frames
step-on pace step next j at on = omega (arith, at.frames, on.frames, step-grows (rate_by pace) (phase_by pace) j (j + 1) (omega (arith, pace.paced.target.least)) (omega arith))

-- the output at a step is output j from now
pub output-is : (method : Method) (tables : Filters) (fitted : Fitted) (before : List Frame) (input : List ℤ) (j start : ℕ) (point : Point) (step : Step) → (rate_by fitted.pace).lookahead ≡ lookahead_by method → IsStep fitted.pace step j
    → pos start ≡ (pos fitted.used -ℤ ahead_by fitted.pace) → point.needed ≡ start + step.frames → point.whole.divisor ≡ fitted.whole.divisor → point.parts ≡ step.phase * factor_of fitted.pace
    → output_by method tables before input point ≡ output_at method tables fitted.pace before input j
output-is method tables fitted before input j start point step level at begins needs whole phase =
    let pace = fitted.pace in
    let place = pos (history_by method + point.needed) -ℤ pos (1 + lookahead_by method) in
    let there : place ≡ (pos (history_by method + step_of (rate_by pace) (phase_by pace) j) -ℤ ahead_by pace) = omega (arith, ints, needs, begins, at.frames, level, fitted.used_is) in
    ap (λ d. converter_by method tables d point.parts (around_place method before input place)) (whole ∙ fitted.whole_is)
    ∙ ap (λ p. converter_by method tables (rate_by pace).dst p (around_place method before input place)) (phase ∙ at.phase)
    ∙ ap (λ p. converter_by method tables (rate_by pace).dst (phase_of (rate_by pace) (phase_by pace) j) (around_place method before input p)) there

-- no frames were passed yet
pub none-passed : (tail input : List Frame) (passed : ℕ) → passed ≡ 0 → tail ≡ moved_on tail (take passed input)
none-passed tail input passed none = sym (ap (λ n. moved_on tail (take n input)) none ∙ append-nil tail)
