use Rattle.std.proofs.Common.{refl}
use Rattle.pcm_path.proofs.Telling.{told-path}
use Rattle.pcm_path.proofs.path.PathOf.tell.Goals as goal

pub returns : goal.returns
returns g c =
    told-path g.B.Feeder.kind g.B.Feeder.kept g.B.Feeder.mark c.args.way c.args.tables.now c.args.opening.now c.args.waiting.now c.args.eaten c.args.given c.args.past.now
    c.args.self.now c.begin.new.self _ c.put.result c.plan_of-plan.result c.requires.room c.begin.ensures refl c.put.ensures.count c.put.ensures.kept
    c.plan_of-plan.ensures.value c.tell.ensures
