use Rattle.std.proofs.Common.{◌<◌, ◌^◌, sym, subst, arith}
use Rattle.pcm_desk.specs.MapBooks.{taken_of}
use Rattle.pcm_map.specs.declared.channel.MapChannelOf.{MapChannelOf}
use Rattle.pcm_sequence.proofs.Items.{items-count}
use Rattle.pcm_engine.proofs.InOrder.{maps-taken}
use Rattle.pcm_engine.proofs.engine.EngineOf.map_book.Goals as goal

pub returns-clause-taken : goal.returns-clause-taken
returns-clause-taken g c =
    let engine = c.args.self.now in
    let count = engine.parent.maps_count in
    let there = c.requires.there in
    subst (λ (channel : MapChannelOf _). taken_of channel.book < 2 ^ 64) (sym c.index.ensures)
    (maps-taken g.B.Feeder.kind g.B.Feeder.kept engine c.requires.ready c.args.place c.index.result.now
    (omega (arith, there, count, items-count engine.parent.maps)))
