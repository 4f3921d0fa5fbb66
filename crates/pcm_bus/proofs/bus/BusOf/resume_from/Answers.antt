use Rattle.std.proofs.Common.{refl}
use Rattle.pcm_desk.specs.Device.{device_filters}
use Rattle.pcm_bus.proofs.Resuming.{made-as, made-as-far}
use Rattle.pcm_bus.proofs.bus.BusOf.resume_from.Goals as goal

pub returns : goal.returns
returns g c =
    let resumes = c.resume_from.ensures in
    record {
      device = refl;
      kinds = resumes.kinds;
      marks = resumes.marks;
      plan = resumes.plan;
      far = λ device handed. made-as-far g.B.Feeder.kept device c.args.other.now.chain c.resume_from.new.self handed resumes.plan resumes.far;
      made = λ device x handed.
          made-as g.B.Feeder.kept device c.args.other.now.chain c.resume_from.new.self x handed (resumes.exactly (device_filters device) x handed);
    }
