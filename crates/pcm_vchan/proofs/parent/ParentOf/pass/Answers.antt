use Rattle.std.proofs.Common.{◌≡◌, ◌+◌, subst}
use Rattle.pcm_sequence.specs.Fixed.{fixed_items}
use Rattle.pcm_desk.specs.declared.here.Here.{Here}
use Rattle.pcm_desk.specs.Device.{passed_for, unfiltered}
use Rattle.pcm_bus.specs.Slots.{Each}
use Rattle.pcm_play.specs.Channels.{PlayLeaves, SettlesBook}
use Rattle.pcm_vchan.specs.Parents.{play_channels}
use Rattle.pcm_vchan.proofs.parent.ParentOf.pass.Goals as goal

pub returns-clause-settled : goal.returns-clause-settled
returns-clause-settled g c =
    let old = c.args.self.now in
    let here : Here = record { mixed = old.mixed + c.args.mixed; passed = passed_for (unfiltered old.device) (old.handed + c.args.n) } in
    let is : c.here-here.result ≡ here = c.here-here.ensures in
    subst (λ (at : Here). Each (PlayLeaves g.B.Feeder.kind g.B.Feeder.kept (SettlesBook at)) (play_channels old)
    (fixed_items c.walk.new.channels)) is c.walk.ensures.each
