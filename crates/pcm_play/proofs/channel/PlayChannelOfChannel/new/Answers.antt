use Rattle.std.proofs.Common.{ap, ◌∙◌}
use Rattle.pcm_desk.specs.declared.play_book.PlayBook.{PlayBook}
use Rattle.pcm_desk.specs.declared.play_book.PlayState.TheVariants.{Free}
use Rattle.pcm_play.proofs.Stands.{stands-empty}
use Rattle.pcm_play.proofs.channel.PlayChannelOfChannel.new.Goals as goal

pub returns : goal.returns
returns g c =
    let begun = c.begun.ensures in
    record {
      unopened = record {
        device_is = c.begin.ensures.device ∙ c.in_ok-path.ensures.device;
        book = ap (λ (b : PlayBook). record b { state = Free }) begun;
        kinds = c.begin.ensures.kinds;
        planned = c.begin.ensures.planned;
        stands = stands-empty g.B.Feeder.kept c.args.tables.now _ (ap (λ (b : PlayBook). b.written) begun)
            (ap (λ (b : PlayBook). b.eaten) begun) (ap (λ (b : PlayBook). b.given) begun) c.begin.ensures.empty;
      };
      boxes = c.begin.ensures.marks ∙ c.in_ok-path.ensures.boxes;
    }
