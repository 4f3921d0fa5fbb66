use Rattle.std.proofs.Common.{◌≡◌, ◌+◌, ap, ◌∙◌, arith}
use Rattle.pcm_rate.specs.Rates.{can}
use Rattle.pcm_chain.specs.Counts.{fed_in_all}
use Rattle.pcm_chain.proofs.Counting.{block-some, block-reach}
use Rattle.pcm_chain.proofs.counts.RatedCounts.block.Goals as goal

pub returns-clause-block : goal.returns-clause-block
returns-clause-block c =
    let rate = c.args.self.rate in
    let counts = c.args.self.counts in
    let allowed : c.can-allowed.result ≡ can rate (fed_in_all rate counts + 256) = c.can-allowed.ensures
    ∙ ap (λ n. can rate (n + 256)) c.fed.ensures in
    let one = block-some rate counts c.args.self.near in
    record {
      some = omega (arith, allowed, c.min-2.ensures, c.min.ensures, c.from.ensures, c.requires, one);
      few = omega (arith, c.min-2.ensures, c.min.ensures);
      reach = block-reach rate counts c.min-2.result c.args.self.near (omega (arith, allowed, c.min-2.ensures, c.from.ensures, one));
    }
