use Rattle.std.proofs.Common.{ℤ, List, ap, ◌∙◌}
use Rattle.pcm_bus.specs.Blocks.{turned_ring}
use Rattle.pcm_bus.proofs.bus.hand_on.Goals as goal

pub returns-clause-turns : goal.returns-clause-turns
returns-clause-turns g c = λ x handed made mixed.
    let more = c.hand_over-made.ensures.makes x handed made mixed in
    record {
      made = more.made;
      ring = c.turn_ring.ensures.ring
          ∙ ap (λ (block : List ℤ). turned_ring c.args.device.settings c.args.n block c.args.ring.now.bytes) more.frames;
    }
