use Rattle.std.proofs.Common.{◌≡◌, take}
use Rattle.feed_poly.specs.Rows.{row_frame}
use Rattle.feed_poly.specs.Window.{window_frames}
use Rattle.feed_poly.proofs.row.Row.put_frame.Given as goal

-- the first channels are written
abbrev pub invariant-loop-channel : goal.invariant-loop-channel
invariant-loop-channel l = take l.channel l.output ≡ row_frame l.self.shift l.self.coefs.now l.channel (window_frames l.window)
