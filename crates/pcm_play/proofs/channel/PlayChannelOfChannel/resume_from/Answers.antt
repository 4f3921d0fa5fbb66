use Rattle.std.proofs.Common.{not, refl, ap, ◌∙◌}
use Rattle.pcm_play.proofs.Resuming.{resumed}
use Rattle.pcm_play.proofs.channel.PlayChannelOfChannel.resume_from.Goals as goal

pub returns : goal.returns
returns g c =
    resumed g.B.Feeder.kind g.B.Feeder.kept g.B.Feeder.mark _ c.args.other.now c.args.self.now _
    (λ used. ap not (c.is_free.ensures ∙ used)) c.requires.device refl c.resume_from.ensures
