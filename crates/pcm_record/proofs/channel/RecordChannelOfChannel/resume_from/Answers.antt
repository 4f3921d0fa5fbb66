use Rattle.std.proofs.Common.{not, refl, ap, ◌∙◌}
use Rattle.pcm_record.proofs.Resuming.{resumed, safe-resumed}
use Rattle.pcm_record.proofs.channel.RecordChannelOfChannel.resume_from.Goals as goal

pub returns : goal.returns
returns g c =
    resumed g.B.Feeder.kind g.B.Feeder.kept g.B.Feeder.mark _ c.args.other.now c.args.self.now _
    (λ used. ap not (c.is_free.ensures ∙ used)) c.requires.device refl c.resume_from.ensures

pub invariant_of-self-clause-safe : goal.invariant_of-self-clause-safe
invariant_of-self-clause-safe g c =
    safe-resumed g.B.Feeder.kind g.B.Feeder.kept g.B.Feeder.mark _ c.args.other.now c.args.self.now.path c.resume_from.new.self
    (λ used. ap not (c.is_free.ensures ∙ used)) c.resume_from.ensures
