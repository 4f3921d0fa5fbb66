use Rattle.std.proofs.Common.{◌≡◌, List, ℤ, pos, get_or, replicate, length, ap, ◌∙◌, arith}
use Rattle.std.proofs.lemmas.List.{get_or-replicate}
use Rattle.pcm_sequence.specs.Fixed.{fixed_items, with_fixed_items}
use Rattle.pcm_sequence.proofs.Items.{items-written}
use Rattle.feed_poly.proofs.Windows.{silent-frames}
use Rattle.feed_poly.proofs.window.Window.clear.Goals as goal

pub returns-clause-frames : goal.returns-clause-frames
returns-clause-frames c =
    let window = c.args.self.now in
    let n = length c.deref_mut.result.now in
    let all : fixed_items (with_fixed_items window.samples c.fill.new.self) ≡ replicate n (pos 0) =
    items-written window.samples c.fill.new.self (c.fill.ensures.len ∙ c.deref_mut.ensures.len) ∙ c.fill.ensures.after (λ y is. is) in
    silent-frames c.args.channels c.args.taps (fixed_items (with_fixed_items window.samples c.fill.new.self))
    (omega (arith, c.requires.some)) c.requires.most c.requires.limits.most
    (λ k below. ap (λ (items : List ℤ). get_or items k (pos 0)) all
    ∙ get_or-replicate n k (pos 0) (pos 0) (omega (arith, c.deref_mut.ensures.len, window.size)))
