use Rattle.std.proofs.Common.{◌≡◌, All, ◌∙◌, subst}
use Rattle.pcm_num.specs.Limit.{FitsBits}
use Rattle.pcm_format.specs.Formats.{bits_of}
use Rattle.pcm_desk.specs.Channels.{map_mixing}
use Rattle.pcm_desk.specs.Device.{seen}
use Rattle.pcm_desk.specs.declared.device.Device.{Device}
use Rattle.pcm_map.specs.Channels.{MapAddsTo}
use Rattle.pcm_bus.proofs.mix.MapChannelOfMixed.mix_in.Goals as goal

pub returns-clause-left : goal.returns-clause-left
returns-clause-left g c =
    let old = c.args.self.now in
    let book = subst (λ (device : Device). c.refill.new.self.book ≡ map_mixing (seen c.args.tables.now device) c.args.n old.book)
    c.requires.due.own c.refill.ensures.book in
    record {
      own = c.refill.ensures.device
          ∙ c.requires.due.own;
      plays = record { book = book; moves = c.refill.ensures.moves; area = c.refill.ensures.area };
    }

pub returns-clause-adds : goal.returns-clause-adds
returns-clause-adds g c =
    subst (λ (device : Device). MapAddsTo g.B.Feeder.kept c.args.tables.now device c.args.n c.args.gain c.args.sum.now c.refill.new.sum
    c.args.self.now) c.requires.due.own c.refill.ensures.sum

pub returns-clause-fits : goal.returns-clause-fits
returns-clause-fits g c =
    subst (λ (device : Device). All (FitsBits (bits_of device.mix.format)) c.refill.new.sum) c.requires.due.own c.refill.ensures.fits
