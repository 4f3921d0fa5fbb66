use Rattle.std.proofs.Common.{sym, ap, ◌∙◌, subst, inl, inr}
use Rattle.pcm_oss.specs.declared.event.Way.{Way}
use Rattle.pcm_rate.specs.Rates.{IsRatio}
use Rattle.pcm_plan.specs.Plans.{PlanSeen, rate_in_plan}
use Rattle.pcm_desk.specs.Device.{seen}
use Rattle.pcm_desk.proofs.Ratios.{device-is, ratio-between, record-ratio-between}
use Rattle.pcm_path.specs.Ways.{plan_between}
use Rattle.pcm_path.proofs.path.plan_of.Goals as goal

pub returns-in-Play-clause-value : goal.returns-in-Play-clause-value
returns-in-Play-clause-value c =
    elim c.in-Play.is [
      | inl play ↦ c.plan_play.ensures.value ∙ sym
          (ap (λ (way : Way). plan_between way (seen c.args.tables.now c.args.device.now) c.args.client.now) play)
      | inr map ↦ c.plan_play.ensures.value ∙ sym
          (ap (λ (way : Way). plan_between way (seen c.args.tables.now c.args.device.now) c.args.client.now) map)
    ]

pub returns-in-Record-clause-value : goal.returns-in-Record-clause-value
returns-in-Record-clause-value c =
    c.plan_record.ensures.value ∙ sym (ap (λ (way : Way). plan_between way (seen c.args.tables.now c.args.device.now) c.args.client.now)
    c.in-Record.is)

pub returns-in-Play-clause-ratio : goal.returns-in-Play-clause-ratio
returns-in-Play-clause-ratio c =
    subst (λ (p : PlanSeen). IsRatio (rate_in_plan p)) (sym c.plan_play.ensures.value)
    (ratio-between (seen c.args.tables.now c.args.device.now) c.args.client.now
    (device-is c.args.tables.now c.args.device.now c.requires.device c.plan_play.ensures.limits) c.requires.client)

pub returns-in-Record-clause-ratio : goal.returns-in-Record-clause-ratio
returns-in-Record-clause-ratio c =
    subst (λ (p : PlanSeen). IsRatio (rate_in_plan p)) (sym c.plan_record.ensures.value)
    (record-ratio-between (seen c.args.tables.now c.args.device.now) c.args.client.now
    (device-is c.args.tables.now c.args.device.now c.requires.device c.plan_record.ensures.limits) c.requires.client)
