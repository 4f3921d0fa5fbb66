-- A stream begins with silence.
use Rattle.std.proofs.Common.{sym, ap, ◌∙◌}
use Rattle.pcm_feeder.specs.Kept.{fresh}
use Rattle.feed_hold.proofs.hold.HoldInterpolator.fit.Goals as goal

pub returns-in-Hold-clause-tail : goal.returns-in-Hold-clause-tail
returns-in-Hold-clause-tail c = c.silent-self.ensures.silence ∙ ap (λ spec. (fresh spec).tail) (sym c.in-Hold.is)
