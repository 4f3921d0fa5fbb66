use Rattle.std.proofs.Common.{ap, ◌∙◌}
use Rattle.pcm_desk.specs.declared.record_book.RecordBook.{RecordBook}
use Rattle.pcm_desk.specs.declared.run_state.RunState.TheVariants.{Free}
use Rattle.pcm_record.proofs.Stands.{stands-empty}
use Rattle.pcm_record.proofs.channel.RecordChannelOfChannel.new.Goals as goal

pub returns : goal.returns
returns g c =
    let begun = c.begun.ensures in
    record {
      unopened = record {
        device_is = c.begin.ensures.device ∙ c.in_ok-path.ensures.device;
        book = ap (λ (b : RecordBook). record b { state = Free }) begun;
        kinds = c.begin.ensures.kinds;
        planned = c.begin.ensures.planned;
        stands = stands-empty g.B.Feeder.kept c.args.tables.now _
            (record {
              captured_none = ap (λ (b : RecordBook). b.captured) begun;
              kept_none = ap (λ (b : RecordBook). b.kept) begun;
              read_none = ap (λ (b : RecordBook). b.read) begun;
            })
            c.begin.ensures.empty;
      };
      boxes = c.begin.ensures.marks ∙ c.in_ok-path.ensures.boxes;
    }
