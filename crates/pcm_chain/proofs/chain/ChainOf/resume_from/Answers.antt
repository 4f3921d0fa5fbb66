use Rattle.std.proofs.Common.{refl}
use Rattle.pcm_chain.proofs.Resuming.{chain-resumes}
use Rattle.pcm_chain.proofs.chain.ChainOf.resume_from.Goals as goal

pub returns : goal.returns
returns g c =
    chain-resumes g.B.Feeder.kind g.B.Feeder.kept g.B.Feeder.mark c.args.other.now c.args.self.now _ c.requires.fitted c.go_by.ensures.plan refl
    (rw (c.stages.ensures.value, c.go_by.ensures.boxes) at c.resume_stages.ensures)
