-- The last frame moves on.
use Rattle.feed_rate.proofs.Histories.{last-on}
use Rattle.feed_hold.proofs.hold.HoldInterpolator.eat.Goals as goal

pub returns-clause-tail : goal.returns-clause-tail
returns-clause-tail c before was = last-on c.args.self.now.last c.eat.new.self c.args.input.now c.args.eaten before c.eat.ensures.kept was
