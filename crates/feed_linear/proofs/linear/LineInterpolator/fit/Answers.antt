-- A stream begins with silence.
use Rattle.std.proofs.Common.{sym, ap, ◌∙◌}
use Rattle.pcm_feeder.specs.Kept.{fresh}
use Rattle.feed_linear.proofs.linear.LineInterpolator.fit.Goals as goal

pub returns-in-Linear-clause-tail : goal.returns-in-Linear-clause-tail
returns-in-Linear-clause-tail c = c.silent-self.ensures.silence ∙ ap (λ spec. (fresh spec).tail) (sym c.in-Linear.is)
