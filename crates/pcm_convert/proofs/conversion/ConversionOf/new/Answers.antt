use Rattle.std.proofs.Common.{◌≡◌, ◌*◌, ◌≤◌, ℕ, rules, take, drop, sym, ap, ◌∙◌, arith}
use Rattle.pcm_format.specs.Frames.{frame_bytes}
use Rattle.pcm_format.proofs.Streams.{frame_bytes-most}
use Rattle.pcm_plan.specs.Fits.{IsPlan}
use Rattle.pcm_plan.specs.Plans.{rate_in_plan}
use Rattle.pcm_plan.proofs.Fits.{record-fits}
use Rattle.pcm_chain.proofs.Counting.{need-near, rate-near}
use Rattle.pcm_ring.specs.Ring.{Ring}
use Rattle.pcm_feeder.specs.Filters.{no_filters}
use Rattle.pcm_convert.proofs.conversion.ConversionOf.new.Goals as goal

pub returns-clause-stands : goal.returns-clause-stands
returns-clause-stands g c = λ body.
    let none : 0 * frame_bytes c.args.source ≡ 0 = omega arith in
    record {
      eaten = 0;
      zeros = 0;
      read = omega arith;
      within = omega (arith, none);
      ring_is = ap (λ (ring : Ring). ring.bytes) c.in_ok-ring.ensures.ok ∙ ap (λ n. drop n (take 0 body)) (sym none);
      chain_is = c.reset.ensures.begins no_filters;
      ended = λ some. absurd (omega arith);
    }

product-fits : (a b : ℕ) → a ≤ 1048576 → b ≤ 32 → a * b ≤ 33554432
product-fits a b few small = grind arith

pub overflow_mul-frames : goal.overflow_mul-frames
overflow_mul-frames g c =
    let plan : IsPlan c.plan_record-plan.result = rw c.plan_record-plan.ensures.value
    (record-fits c.none-tables.result 1 c.args.target c.args.source c.plan_record-plan.ensures.limits c.requires.target
    c.requires.source) in
    let near = need-near (rate_in_plan c.plan_record-plan.result) 16385 (rate-near c.plan_record-plan.result plan) in
    let small = product-fits c.need-frames.result c.frame_bytes.result (omega (arith, near, c.need-frames.ensures))
    (omega (arith, frame_bytes-most c.args.source, c.frame_bytes.ensures)) in
    search (rules, small)
