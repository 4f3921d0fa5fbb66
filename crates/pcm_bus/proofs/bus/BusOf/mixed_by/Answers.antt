use Rattle.std.proofs.Common.{◌+◌, ◌-◌, ◌≤◌, ap, ◌∙◌, arith}
use Rattle.pcm_rate.specs.Rates.{need}
use Rattle.pcm_plan.specs.Plans.{PlanSeen, rate_in_plan}
use Rattle.pcm_desk.specs.Device.{mix_frames, seen, unfiltered}
use Rattle.pcm_desk.proofs.Ratios.{mix-within, mixed-grows}
use Rattle.pcm_bus.proofs.bus.BusOf.mixed_by.Goals as goal

-- what the plan needs grows, by no more than an interrupt mixes at most
needs : (g : _) (c : goal.After-need-2 g)
    → (c.need-2.result ≤ c.need.result) × (c.need.result - c.need-2.result ≤ mix_frames (unfiltered c.args.self.now.device))
needs g c =
    let device = seen c.args.tables.now c.args.self.now.device in
    let handed = c.args.handed in
    let planned = c.requires.planned in
    let plan = c.plan-plan.ensures ∙ planned.plan_is in
    let later = c.need.ensures ∙ ap (λ (p : PlanSeen). need (rate_in_plan p) (handed + c.args.n)) plan in
    let before = c.need-2.ensures ∙ ap (λ (p : PlanSeen). need (rate_in_plan p) handed) plan in (
      omega (arith, later, before, mixed-grows device handed (handed + c.args.n) planned.limits (omega arith)),
      omega
          (arith, later, before, mix-within device handed c.args.n planned.limits c.requires.within),
    )

pub overflow_sub-result : goal.overflow_sub-result
overflow_sub-result g c = (needs g c).0

pub overflow_cast-result : goal.overflow_cast-result
overflow_cast-result g c =
    let few = c.args.self.now.mix_within in
    record { fits = omega (arith, few, (needs g c).1) }

pub returns-clause-most : goal.returns-clause-most
returns-clause-most g c = (needs g c).1
