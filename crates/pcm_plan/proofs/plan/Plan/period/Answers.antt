use Rattle.std.proofs.Common.{◌≡◌, ◌*◌, ap, ◌∙◌, sym, arith, subst}
use Rattle.pcm_rate.specs.declared.rate.Rate.{Rate}
use Rattle.pcm_rate.specs.Rates.{IsPeriod, IsRatio}
use Rattle.pcm_plan.proofs.Fits.{ratio-in}
use Rattle.pcm_plan.proofs.plan.Plan.period.Goals as goal

pub returns-clause-period : goal.returns-clause-period
returns-clause-period c =
    let rate = c.self.inside.rate in
    let s = c.self.inside.period.0 in
    let d = c.self.inside.period.1 in
    let kept = c.self.invariant in
    let P : Rate → Type 0 = λ r. IsPeriod r s d in
    let cross : s * rate.dst ≡ d * rate.src =
    ap (λ z. s * z) kept.same.dst_is ∙ (let order : s * (d * kept.same.factor) ≡ d * (s * kept.same.factor) = omega arith in order)
    ∙ ap (λ z. d * z) (sym kept.same.src_is) in
    let ratio : IsRatio rate = rw (kept.rate_is) (ratio-in _ kept.fits) in
    rw (← c.self.view_is) (subst P kept.rate_is (record { src_above = ratio.src; dst_above = ratio.dst; same = cross }))
