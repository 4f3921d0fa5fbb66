use Rattle.std.proofs.Common.{◌+◌, ◌-◌, ◌*◌, take, drop, ap, ◌∙◌}
use Rattle.pcm_sequence.specs.Fixed.{fixed_items}
use Rattle.pcm_sequence.proofs.Items.{items-count}
use Rattle.feed_poly.proofs.Windows.{channel-is}
use Rattle.feed_poly.proofs.window.Window.channel.Goals as goal

pub returns-clause-value : goal.returns-clause-value
returns-clause-value c =
    let window = c.args.self.now in
    let at = c.args.channel * 128 + window.at in
    ap (λ list. take (at + window.taps - at) (drop at list)) c.deref.ensures.value
    ∙ channel-is window.channels window.taps window.at c.args.channel (fixed_items window.samples) c.requires window.limits.most
    window.inside window.most (items-count window.samples ∙ window.size)
