use Rattle.std.proofs.Common.{rules, ◌≡◌, ◌*◌, ◌/◌, ◌-◌, Fits, w64, ap, arith}
use Rattle.pcm_chain.proofs.Counting.{settled, stands-less}
use Rattle.pcm_chain.proofs.counts.RatedCounts.told.Goals as goal

pub overflow_mul-counts : goal.overflow_mul-counts
overflow_mul-counts c =
    let s = c.args.period.0 in
    let d = c.args.period.1 in
    let j = c.saturating_sub.result / d in
    let is : j ≡ (c.args.all.given - 1) / d = ap (λ z. z / d) c.saturating_sub.ensures in
    let h = settled c.args.rate s d c.args.all.eaten c.args.all.given j c.requires.near c.requires.period c.requires.outputs c.requires.within
    c.requires.in_time is in
    let fits : Fits w64 c.args.all.eaten = search rules in
    rw (c.from-frames.ensures, c.from-outputs.ensures) (omega (arith, h.eaten_within, fits))

pub overflow_sub-counts : goal.overflow_sub-counts
overflow_sub-counts c =
    let s = c.args.period.0 in
    let d = c.args.period.1 in
    let j = c.saturating_sub.result / d in
    let is : j ≡ (c.args.all.given - 1) / d = ap (λ z. z / d) c.saturating_sub.ensures in
    let h = settled c.args.rate s d c.args.all.eaten c.args.all.given j c.requires.near c.requires.period c.requires.outputs c.requires.within
    c.requires.in_time is in
    rw (c.from-frames.ensures, c.from-outputs.ensures) h.eaten_within

pub invariant_of-result : goal.invariant_of-result
invariant_of-result c =
    let s = c.args.period.0 in
    let d = c.args.period.1 in
    let j = c.saturating_sub.result / d in
    let is : j ≡ (c.args.all.given - 1) / d = ap (λ z. z / d) c.saturating_sub.ensures in
    let h = settled c.args.rate s d c.args.all.eaten c.args.all.given j c.requires.near c.requires.period c.requires.outputs c.requires.within
    c.requires.in_time is in
    rw (c.from-frames.ensures, c.from-outputs.ensures) (record { near = c.requires.near; bounded = h.bounded })

pub returns-clause-stands : goal.returns-clause-stands
returns-clause-stands c eaten given stands =
    let s = c.args.period.0 in
    let d = c.args.period.1 in
    let j = c.saturating_sub.result / d in
    let is : j ≡ (c.args.all.given - 1) / d = ap (λ z. z / d) c.saturating_sub.ensures in
    let h = settled c.args.rate s d c.args.all.eaten c.args.all.given j c.requires.near c.requires.period c.requires.outputs c.requires.within
    c.requires.in_time is in
    rw (c.from-frames.ensures, c.from-outputs.ensures)
    (stands-less c.args.rate s d c.args.all eaten given j (c.args.all.eaten - j * s) (c.args.all.given - j * d) c.requires.period stands
    (omega (arith, h.eaten_within)) (omega (arith, h.given_within)) h.begun)
