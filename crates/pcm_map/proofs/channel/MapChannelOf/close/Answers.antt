use Rattle.std.proofs.Common.{take, ◌≡◌, true, false, [], sym, ap, ◌∙◌}
use Rattle.pcm_sequence.specs.Fixed.{fixed_items}
use Rattle.pcm_desk.specs.declared.map_book.MapBook.{MapBook}
use Rattle.pcm_desk.specs.Openings.{ring_bytes}
use Rattle.pcm_desk.specs.RunStates.{is_unheld}
use Rattle.pcm_map.proofs.Moving.{moves-ended}
use Rattle.pcm_map.proofs.channel.MapChannelOf.close.Goals as goal

pub returns : goal.returns
returns g c =
    let closed = c.closed-self.ensures in
    record {
      book = closed;
      device = c.restart.ensures.device;
      area = ap (λ (b : MapBook). take (ring_bytes b.opening) (fixed_items c.args.self.now.area)) closed;
      moves = λ filters.
          moves-ended g.B.Feeder.kind g.B.Feeder.kept filters [] 0 c.args.self.now _ c.restart.ensures.kinds
          (λ p used. absurd (let clash : true ≡ false = sym (ap (λ (b : MapBook). is_unheld b.state) closed) ∙ used in cc))
          (ap (λ (b : MapBook). b.eaten) closed) (ap (λ (b : MapBook). b.given) closed) c.restart.ensures.empty;
    }
