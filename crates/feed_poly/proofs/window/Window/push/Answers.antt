use Rattle.std.proofs.Common.{◌≡◌, ◌≢◌, ◌⊎◌, ◌+◌, length, inl, inr, ap, ◌∙◌}
use Rattle.pcm_sequence.specs.Fixed.{fixed_items}
use Rattle.pcm_sequence.proofs.Items.{items-count, items-written}
use Rattle.feed_poly.specs.Places.{ArePut, frames_from}
use Rattle.feed_poly.proofs.Places.{twice-again, put-moves}
use Rattle.feed_poly.proofs.window.Window.push.Goals as goal
use Rattle.feed_poly.proofs.window.Window.push.Goals.{then-next-taps, else-next-taps}

pub invariant_of-self-clause-twice : goal.invariant_of-self-clause-twice
invariant_of-self-clause-twice c =
    let window = c.args.self.now in
    let new = c.put_twice.new.samples in
    let put : ArePut window.taps window.at c.args.frame.now (length c.args.frame.now) (fixed_items window.samples)
    new = rw c.deref_mut.ensures.value at c.put_twice.ensures in
    let stay = items-written window.samples new (put.size ∙ items-count window.samples) in
    rw stay (twice-again window.taps window.at (length c.args.frame.now) c.args.frame.now (fixed_items window.samples) new window.inside
    window.most window.twice put)

pub returns-clause-frames : goal.returns-clause-frames
returns-clause-frames c =
    let window = c.args.self.now in
    let new = c.put_twice.new.samples in
    let put : ArePut window.taps window.at c.args.frame.now window.channels (fixed_items window.samples)
    new = rw (c.deref_mut.ensures.value, c.requires) at c.put_twice.ensures in
    let goes : ((window.at + 1 ≡ window.taps) × (c.if-next-taps.self ≡ 0)) ⊎
    ((window.at + 1 ≢ window.taps) × (c.if-next-taps.self ≡ window.at + 1)) =
    elim c.if-next-taps.branch [
      | then-next-taps w ↦ inl (w.if-next-taps.true, w.self-is)
      | else-next-taps w ↦ inr
          (w.if-next-taps.false, w.self-is)
    ] in
    ap (λ items. frames_from window.channels window.taps items c.if-next-taps.self)
    (items-written window.samples new (put.size ∙ items-count window.samples))
    ∙ put-moves window.channels window.taps window.at c.if-next-taps.self c.args.frame.now (fixed_items window.samples) new window.inside
    window.most window.limits.most c.requires
    window.twice put goes
