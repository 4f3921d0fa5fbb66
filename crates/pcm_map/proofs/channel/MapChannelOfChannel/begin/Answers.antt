use Rattle.std.proofs.Common.{[], take, ap, ◌∙◌}
use Rattle.pcm_sequence.proofs.Items.{items-written}
use Rattle.pcm_desk.specs.Openings.{ring_bytes}
use Rattle.pcm_desk.specs.declared.map_book.MapBook.{MapBook}
use Rattle.pcm_map.proofs.Moving.{moves-ended}
use Rattle.pcm_map.proofs.channel.MapChannelOfChannel.begin.Goals as goal

pub returns : goal.returns
returns g c =
    let begun = c.begun-self.ensures in
    let old = c.args.self.now in
    record {
      device_same = c.begin_run.ensures.device;
      book = begun;
      moves = record {
        moves = moves-ended g.B.Feeder.kind g.B.Feeder.kept c.args.tables.now [] 0 old _ c.begin_run.ensures.kinds
            (λ p used. c.begin_run.ensures.planned)
            (ap (λ (b : MapBook). b.eaten) begun) (ap (λ (b : MapBook). b.given) begun) c.begin_run.ensures.empty;
        area = ap (take (ring_bytes c.begun-self.result.opening))
            (items-written old.area c.silence.new.area (c.silence.auto.area ∙ c.deref_mut.ensures.len)) ∙ c.silence.ensures;
      };
    }
