use Rattle.std.proofs.Common.{◌*◌, ◌%◌, sym, ap, ◌∙◌, subst, All, arith}
use Rattle.std.proofs.Math.Nat.{mul-mod_left}
use Rattle.std.proofs.lemmas.List.{take_all}
use Rattle.pcm_num.specs.Limit.{FitsBits}
use Rattle.pcm_format.specs.Formats.{bits_of}
use Rattle.pcm_format.specs.Layouts.{channels_of}
use Rattle.pcm_mix.specs.Mix.{mixed}
use Rattle.pcm_feeder.proofs.FadedBits.{faded-fits}
use Rattle.pcm_desk.specs.Device.{seen}
use Rattle.pcm_map.specs.Channels.{area_of}
use Rattle.pcm_map.proofs.Books.{mixing-gives}
use Rattle.pcm_map.proofs.Moving.{moves-given, moves-nothing, turned-given, turned-none}
use Rattle.pcm_map.proofs.channel.MapChannelOf.refill.Goals as goal

pub returns-then-not-is_running-clause-moves : goal.returns-then-not-is_running-clause-moves
returns-then-not-is_running-clause-moves g c = moves-nothing g.B.Feeder.kind g.B.Feeder.kept c.args.tables.now _ c.args.n c.args.self.now

pub returns-then-not-is_running-clause-sum : goal.returns-then-not-is_running-clause-sum
returns-then-not-is_running-clause-sum g c = λ bytes s.
    let old = c.args.self.now in
    turned-none (seen c.args.tables.now old.path.device) c.args.n c.args.slot_gain old.book bytes (area_of old) c.args.sum.now
    (sym c.if-not-is_running.ensures)

pub returns-clause-book : goal.returns-clause-book
returns-clause-book g c =
    let old = c.args.self.now in
    c.give.ensures.gives.book ∙ sym (mixing-gives (seen c.args.tables.now old.path.device) c.args.n old.book c.requires.adds.some
    (sym c.if-not-is_running.ensures))

pub returns-clause-moves : goal.returns-clause-moves
returns-clause-moves g c =
    moves-given g.B.Feeder.kind g.B.Feeder.kept c.args.tables.now c.args.n c.args.self.now c.give.new.self c.give.new.frames
    c.requires.adds.some (sym c.if-not-is_running.ensures) c.give.ensures.gives

pub apply_gain-requires-clause-whole : goal.apply_gain-requires-clause-whole
apply_gain-requires-clause-whole g c =
    let size = channels_of c.args.self.now.path.device.mix.layout in
    ap (λ k. k % size) (c.give.auto.frames ∙ c.requires.adds.block.frames_whole) ∙ mul-mod_left c.args.n size

pub mix_into-requires-clause-held : goal.mix_into-requires-clause-held
mix_into-requires-clause-held g c = rw c.bits.ensures c.requires.adds.block.fits

pub mix_into-requires-clause-added : goal.mix_into-requires-clause-added
mix_into-requires-clause-added g c =
    let device = c.args.self.now.path.device in
    let bits = bits_of device.mix.format in
    let frames = c.give.new.frames in
    let whole = take_all (c.args.n * channels_of device.mix.layout) frames
    (omega (arith, c.give.auto.frames, c.requires.adds.block.frames_whole)) in
    rw (c.bits.ensures, c.apply_gain.ensures)
    (faded-fits bits device.mix.layout c.args.slot_gain frames c.requires.adds.limits
    (subst (All (FitsBits bits)) whole c.give.ensures.gives.fits))

pub returns-clause-sum : goal.returns-clause-sum
returns-clause-sum g c =
    let old = c.args.self.now in
    turned-given g.B.Feeder.kind g.B.Feeder.kept c.args.tables.now c.args.n c.args.slot_gain old c.give.new.self c.give.new.frames
    c.args.sum.now c.mix_into.new.acc c.bits.result c.requires.adds.some (sym c.if-not-is_running.ensures) c.give.ensures.gives
    (c.give.auto.frames ∙ c.requires.adds.block.frames_whole) c.requires.adds.block.sum_whole c.bits.ensures
    (c.mix_into.ensures.value ∙ ap (mixed c.bits.result c.args.sum.now) c.apply_gain.ensures)

pub returns-clause-fits : goal.returns-clause-fits
returns-clause-fits g c = subst (λ bits. All (FitsBits bits) c.mix_into.new.acc) c.bits.ensures c.mix_into.ensures.fits
