-- A bus that is told what it has made.
use Rattle.std.proofs.Common.{◌≡◌, ℕ, ◌-◌, ◌++◌, List, [], length, take, min, sym, ap, ◌∙◌, subst, arith}
use Rattle.std.proofs.lemmas.List.{take_all}
use Rattle.pcm_feeder.specs.Kept.{Kept}
use Rattle.pcm_rate.specs.declared.rate.Rate.{Rate}
use Rattle.pcm_rate.specs.Rates.{need, IsRatio}
use Rattle.pcm_rate.proofs.Counts.{can-greatest, can-le-len}
use Rattle.pcm_plan.specs.Plans.{PlanSeen, rate_in_plan}
use Rattle.pcm_chain.specs.declared.chain.ChainOf.{ChainOf}
use Rattle.pcm_chain.specs.Chains.{plan_in}
use Rattle.pcm_chain.specs.Counts.{InTime}
use Rattle.pcm_chain.specs.Far.{ChainIsSoFar}
use Rattle.pcm_desk.specs.Device.{DeviceSeen, device_filters, mixed_for, parent_plan}
use Rattle.pcm_bus.specs.Handovers.{HasMadeFar}

-- just what the frames given need is in time
pub needed-in_time : (rate : Rate) (given eaten : ℕ) → IsRatio rate → eaten ≡ need rate given → InTime rate (record { eaten = eaten; given = given })
needed-in_time rate given eaten ratio is =
    let some = (can-greatest rate ratio.src ratio.dst given eaten).0 (omega (arith, is)) in
    record { early = omega (arith, is); late = omega (arith, some, can-le-len rate eaten ratio.src) }

-- and no silence was eaten then
pub made-told : {B : Type 0} (kept : B → Kept) (device : DeviceSeen) (chain : ChainOf B) (plan : PlanSeen) (mixed handed : ℕ) → plan ≡ parent_plan device → plan_in chain ≡ plan
    → mixed ≡ need (rate_in_plan plan) handed → ChainIsSoFar kept (device_filters device) chain mixed (need (rate_in_plan plan) handed - mixed) handed → HasMadeFar kept device chain handed
made-told kept device chain plan mixed handed is goes level far =
    let none : need (rate_in_plan plan) handed - mixed ≡ 0 = omega (arith, level) in
    let all : mixed ≡ mixed_for device handed = level ∙ ap (λ (p : PlanSeen). need (rate_in_plan p) handed) is in
    record {
      far = subst (λ n. ChainIsSoFar kept (device_filters device) chain n 0 handed) all (subst (λ zeros. ChainIsSoFar kept (device_filters device) chain mixed zeros handed) none far);
      exact = ap (λ (p : PlanSeen). need (rate_in_plan p) handed) (sym is ∙ sym goes);
    }

-- a full ring that was emptied and got as many bytes has just these
pub refilled : (bytes held waiting : List ℕ) (size count free : ℕ) → length bytes ≡ size → length waiting ≡ length bytes → held ≡ [] → free ≡ size - length held → count ≡ min (length waiting) free
    → held ++ take count waiting ≡ waiting
refilled bytes held waiting size count free full long none room is =
    ap (λ l. l ++ take count waiting) none ∙ take_all count waiting (omega (arith, full, long, room, is, ap length none))
