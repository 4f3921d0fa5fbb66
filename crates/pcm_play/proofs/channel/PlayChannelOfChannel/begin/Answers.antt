use Rattle.std.proofs.Common.{ap, arith}
use Rattle.pcm_desk.specs.declared.play_book.PlayBook.{PlayBook}
use Rattle.pcm_play.proofs.Moving.{moves-ended}
use Rattle.pcm_play.proofs.channel.PlayChannelOfChannel.begin.Goals as goal

pub returns : goal.returns
returns g c =
    let begun = c.begun-self.ensures in
    let done = ap (λ (b : PlayBook). b.done) begun in
    record {
      device_same = c.begin.ensures.device;
      book = begun;
      moves = moves-ended g.B.Feeder.kind g.B.Feeder.kept c.args.tables.now _ 0 c.args.self.now _ c.begin.ensures.kinds
          (λ p used. c.begin.ensures.planned)
          (ap (λ (b : PlayBook). b.written) begun) (ap (λ (b : PlayBook). b.eaten) begun) (ap (λ (b : PlayBook). b.given) begun)
          c.begin.ensures.empty (omega (arith, done));
    }
