use Rattle.std.proofs.Common.{sym, subst}
use Rattle.pcm_oss.specs.Fragments.{AreFragments}
use Rattle.pcm_status.specs.declared.status.ChannelStatus.{ChannelStatus}
use Rattle.pcm_status.proofs.Held.{map-within, play-safe, play-within, record-safe}
use Rattle.pcm_status.proofs.status.held_status.Goals as goal

pub play_book-book-requires : goal.play_book-book-requires
play_book-book-requires g c = record {
  ready = c.requires.ready;
  there = play-within c.args.engine.now c.args.held c.requires.there
      c.in-Play.is;
}

pub map_book-book-requires : goal.map_book-book-requires
map_book-book-requires g c = record {
  ready = c.requires.ready;
  there = map-within c.args.engine.now c.args.held c.requires.there
      c.in-Map.is;
}

pub returns-in-Play-clause-fragments : goal.returns-in-Play-clause-fragments
returns-in-Play-clause-fragments g c =
    let book = c.play_book-book in
    subst (λ (status : ChannelStatus). AreFragments status.fragments) (sym c.channel_status.ensures)
    (play-safe g.B.Feeder.kind g.B.Feeder.kept c.args.engine.now c.args.held.slot book.result c.requires.ready book.ensures.is).fragments

pub returns-in-Record-clause-fragments : goal.returns-in-Record-clause-fragments
returns-in-Record-clause-fragments g c =
    let book = c.record_book-book in
    subst (λ (status : ChannelStatus). AreFragments status.fragments) (sym c.channel_status-in-Record.ensures)
    (record-safe g.B.Feeder.kind g.B.Feeder.kept c.args.engine.now c.args.held.slot book.result c.requires.ready book.ensures.is).fragments
