use Rattle.std.proofs.Common.{sym, ap, ◌∙◌}
use Rattle.pcm_rate.specs.declared.rate.Rate.{Rate}
use Rattle.pcm_plan.specs.Plans.{PlanSeen}
use Rattle.pcm_chain.specs.declared.counts.Counts.{Counts}
use Rattle.pcm_chain.specs.Pasts.{past_sizes}
use Rattle.pcm_chain.proofs.Counting.{all-stand, part-within, rate-near}
use Rattle.pcm_chain.proofs.Telling.{can-told, chain-told}
use Rattle.pcm_chain.proofs.chain.ChainOf.tell.Goals as goal

pub told-told-requires-clause-near : goal.told-told-requires-clause-near
told-told-requires-clause-near g c = rw c.rate.ensures.value (rate-near c.go_by.new.self.plan c.rate.ensures.fits)

pub told-told-requires-clause-within : goal.told-told-requires-clause-within
told-told-requires-clause-within g c =
    let whole = ap (λ (r : Rate). r.dst) c.rate.ensures.value in
    part-within c.rate.result.dst c.period.result.1 c.period.ensures.same.factor c.rate.ensures.ratio.dst (whole ∙ c.period.ensures.same.dst_is)

pub tell_stages-requires : goal.tell_stages-requires
tell_stages-requires g c =
    let plan = c.go_by.new.self.plan in
    let fits = c.rate.ensures.fits in
    let rated = c.told-told.result in
    let same = c.told-told.ensures.rate ∙ c.rate.ensures.value in
    rw (c.stages.ensures.value, c.go_by.ensures.boxes) (record {
      kinds = c.requires.kinds;
      limits = fits.specs;
      distinct = fits.distinct;
      bounds = can-told plan rated.counts c.progress.result fits (rw same at rated.bounded.in_time) (rw same at c.progress.ensures);
      size = c.requires.can.size ∙ ap (λ (p : PlanSeen). past_sizes p.stages) (sym c.go_by.ensures.plan);
    })

pub returns : goal.returns
returns g c =
    let kind = g.B.Feeder.kind in
    let kept = g.B.Feeder.kept in
    let mark = g.B.Feeder.mark in
    let all : Counts = record { eaten = c.args.eaten; given = c.args.given } in
    let same = c.told-told.ensures.rate ∙ c.rate.ensures.value in
    let stands = c.told-told.ensures.stands c.args.eaten c.args.given (all-stand c.rate.result all c.rate.ensures.ratio) in
    chain-told kind kept mark c.args.plan.now c.args.eaten c.args.given c.args.past.now c.progress.result c.args.self.now _ c.go_by.ensures.plan c.rate.ensures.fits
    c.requires.can.in_time (rw c.rate.ensures.value at stands) (rw same at c.progress.ensures) (rw (c.stages.ensures.value, c.go_by.ensures.boxes) at c.tell_stages.ensures)
