use Rattle.std.proofs.Common.{◌+◌, ◌<◌, ◌^◌, sym, subst, arith}
use Rattle.pcm_sequence.proofs.Items.{items-count}
use Rattle.pcm_play.specs.declared.channel.PlayChannelOf.{PlayChannelOf}
use Rattle.pcm_engine.proofs.InOrder.{bytes-counted, few-mixed, play-pace}
use Rattle.pcm_engine.proofs.engine.EngineOf.play_book.Goals as goal

pub returns-clause-counted : goal.returns-clause-counted
returns-clause-counted g c =
    let engine = c.args.self.now in
    let there = c.requires.there in
    let slots = engine.parent.slots in
    subst (λ (channel : PlayChannelOf _). channel.book.done + channel.book.written < 2 ^ 63) (sym c.index.ensures)
    (bytes-counted c.requires.ready c.args.slot c.index.result.now (omega (arith, there, slots, items-count engine.parent.channels)))

pub returns-clause-given : goal.returns-clause-given
returns-clause-given g c =
    let engine = c.args.self.now in
    let there = c.requires.there in
    let slots = engine.parent.slots in
    let played = (play-pace engine.order c.args.slot c.index.result.now
    (omega (arith, there, slots, items-count engine.parent.channels))).played in
    subst (λ (channel : PlayChannelOf _). channel.book.given < 2 ^ 53) (sym c.index.ensures)
    (omega (arith, played, few-mixed g.B.Feeder.kept engine c.requires.ready.bus))
