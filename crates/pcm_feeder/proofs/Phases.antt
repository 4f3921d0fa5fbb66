-- From a phase on: which outputs are allowed, and how far more outputs lie.
use Rattle.std.proofs.Common.{◌≡◌, ◌↔◌, ◌<◌, ◌≤◌, ◌+◌, ◌*◌, ◌/◌, ◌%◌, ℕ, zero, suc, sym, ap, ◌∙◌, arith}
use Rattle.std.proofs.Math.Nat.{mod-add-mod}
use Rattle.std.proofs.lemmas.Nat.{div-add-mod'}
use Rattle.pcm_rate.specs.declared.rate.Rate.{Rate}
use Rattle.pcm_rate.specs.Rates.{need}
use Rattle.pcm_rate.proofs.Counts.{div_more, output_allowed}
use Rattle.pcm_feeder.specs.Turns.{step_of, phase_of, reach, allowed}

-- an output is allowed exactly where it reaches no further
pub reach_allowed : (rate : Rate) (phase c n : ℕ) → 0 < rate.src → 0 < rate.dst → (reach rate phase c ≤ n) ↔ (c ≤ allowed rate phase n)
reach_allowed rate phase zero n src dst = (λ q. omega arith, λ q. omega arith)
reach_allowed rate phase (suc j) n src dst = output_allowed rate phase j n src dst

-- how far k + j outputs lie from the begin, by how far k do
pub place_from : (rate : Rate) (k j : ℕ) → 0 < rate.dst
    → (k + j) * rate.src / rate.dst ≡ k * rate.src / rate.dst + step_of rate (k * rate.src % rate.dst) j
place_from rate k j dst =
    div_more (k * rate.src % rate.dst + j * rate.src) ((k + j) * rate.src) rate.dst (k * rate.src / rate.dst) dst (omega (arith, div-add-mod' (k * rate.src) rate.dst))
    ∙ omega arith

pub phase_from : (rate : Rate) (k j : ℕ) → (k + j) * rate.src % rate.dst ≡ phase_of rate (k * rate.src % rate.dst) j
phase_from rate k j =
    let more : (k + j) * rate.src ≡ k * rate.src + j * rate.src = omega arith in
    ap (λ z. z % rate.dst) more ∙ sym (mod-add-mod (k * rate.src) rate.dst (j * rate.src))

-- the frames that more outputs use, by how far they reach from the next output on
pub need_from : (rate : Rate) (k j : ℕ) → 0 < rate.dst → 0 < j
    → need rate (k + j) ≡ k * rate.src / rate.dst + reach rate (k * rate.src % rate.dst) j
need_from rate k zero dst above = absurd (omega arith)
need_from rate k (suc j) dst above =
    let first : k + suc j ≡ suc (k + j) = omega arith in
    ap (need rate) first ∙ omega (arith, place_from rate k j dst)
