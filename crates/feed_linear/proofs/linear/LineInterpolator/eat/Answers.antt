-- The last two frames move on.
use Rattle.feed_rate.proofs.Histories.{last-on}
use Rattle.feed_linear.proofs.linear.LineInterpolator.eat.Goals as goal

pub returns-clause-tail : goal.returns-clause-tail
returns-clause-tail c before was = last-on c.args.self.now.last c.eat.new.self c.args.input.now c.args.eaten before c.eat.ensures.kept was
