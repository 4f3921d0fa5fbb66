use Rattle.std.proofs.Common.{◌≡◌, ◌+◌, ◌^◌, sym, ap, subst, arith}
use Rattle.std.specs.Prelude.{◌≤ℤ◌, pos}
use Rattle.std.proofs.lemmas.Int.{ints}
use Rattle.pcm_rate.specs.Rates.{need}
use Rattle.pcm_chain.proofs.Counting.{need-near}
use Rattle.pcm_desk.specs.declared.device.Device.{Device}
use Rattle.pcm_desk.specs.Device.{mixed_for, passed_for, unfiltered}
use Rattle.pcm_desk.proofs.Passing.{past-is}
use Rattle.pcm_engine.specs.Engines.{device_of}
use Rattle.pcm_status.proofs.waits.here_after.Goals as goal

pub overflow_cast-result : goal.overflow_cast-result
overflow_cast-result g c =
    let most = need-near c.parent_rate.result (c.handed.result + c.args.frames) c.parent_rate.ensures.near in
    let handed = c.handed.ensures.within in
    let few = c.ranges.frames in
    let is = c.need.ensures in
    omega (arith, most, handed, few, is)

pub passed-requires-clause-count : goal.passed-requires-clause-count
passed-requires-clause-count g c =
    let device = device_of c.args.engine.now in
    let handed = c.handed.result + c.args.frames in
    let limits = c.requires.ready.limits in
    let some = limits.block in
    let ring = limits.ring in
    let past = past-is device handed limits.device_is (omega (arith, some, ring)) in
    let most = need-near c.parent_rate.result handed c.parent_rate.ensures.near in
    let rate : need c.parent_rate.result handed ≡ mixed_for device handed = ap (λ (r : _). need r handed) c.parent_rate.ensures.is in
    let within = c.handed.ensures.within in
    let few = c.ranges.frames in
    subst (λ (d : Device). passed_for (unfiltered d) handed ≤ℤ pos (2 ^ 62)) (sym c.device.ensures)
    (omega (arith, ints, past, most, rate, within, few))

pub returns-clause-few : goal.returns-clause-few
returns-clause-few g c =
    let most = need-near c.parent_rate.result (c.handed.result + c.args.frames) c.parent_rate.ensures.near in
    let handed = c.handed.ensures.within in
    let few = c.ranges.frames in
    let is = c.need.ensures in
    omega (arith, most, handed, few, is)
