use Rattle.std.proofs.Common.{◌≡◌, take}
use Rattle.pcm_sequence.specs.Fixed.{fixed_items}
use Rattle.feed_poly.specs.Places.{window_frame}
use Rattle.feed_poly.proofs.window.Window.copy_frame.Given as goal

-- the first channels are copied
abbrev pub invariant-loop-channel : goal.invariant-loop-channel
invariant-loop-channel l = take l.channel l.frame ≡ window_frame l.channel (fixed_items l.self.samples) l.at
