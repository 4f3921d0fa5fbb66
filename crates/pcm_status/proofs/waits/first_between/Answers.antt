use Rattle.std.proofs.Common.{◌≡◌, ℕ, false, subst, arith}
use Rattle.pcm_engine.specs.Engines.{desk_of, device_of}
use Rattle.pcm_status.specs.Waits.{goes_on_after}
use Rattle.pcm_status.proofs.waits.first_between.Goals as goal

pub returns : goal.returns
returns g c =
    let device = device_of c.args.engine.now in
    let desk = desk_of c.args.engine.now in
    let apart = c.loop-after.invariant.0 in
    record {
      met = c.loop-after.invariant.3;
      fewer = λ before one.
          subst (λ (n : ℕ). goes_on_after device desk c.args.fd c.args.bytes n ≡ false)
          (let next : c.loop-after.before ≡ before = omega (arith, one, apart, c.loop-after-test.false) in next) c.loop-after.invariant.2;
    }
