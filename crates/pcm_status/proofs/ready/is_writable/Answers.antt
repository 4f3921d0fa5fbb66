use Rattle.std.proofs.Common.{sym, ap, ◌∙◌}
use Rattle.std.specs.Prelude.{Option}
use Rattle.pcm_oss.specs.declared.event.Way.TheVariants.{Play, Record, Map}
use Rattle.pcm_desk.specs.declared.device.Held.{Held}
use Rattle.pcm_desk.specs.declared.play_book.PlayBook.{PlayBook}
use Rattle.pcm_desk.specs.Desk.{desk_here, held_by, channel_turn}
use Rattle.pcm_desk.specs.PlayBooks.{write_turn}
use Rattle.pcm_engine.specs.Engines.{desk_of, device_of}
use Rattle.pcm_status.specs.Statuses.{counts}
use Rattle.pcm_status.proofs.Held.{at-way, play-safe, play-slot}
use Rattle.pcm_status.proofs.ready.is_writable.Goals as goal
use Rattle.pcm_oss.specs.declared.event.Event.TheVariants.{Write}
use Rattle.pcm_wave.specs.declared.pool.Source.TheVariants.{Inline}

pub play_book-requires : goal.play_book-requires
play_book-requires g c = record {
  ready = c.requires.ready;
  there = play-slot c.args.engine.now c.args.fd c.in-Some.held
      (sym c.held.ensures ∙ c.in-Some.is) c.in-Play.is;
}

pub takes_whole-requires : goal.takes_whole-requires
takes_whole-requires g c =
    record {
      fragments = (play-safe g.B.Feeder.kind g.B.Feeder.kept c.args.engine.now c.in-Some.held.slot c.play_book.result
          c.requires.ready c.play_book.ensures.is).fragments;
    }

pub returns-in-Play : goal.returns-in-Play
returns-in-Play g c =
    let device = device_of c.args.engine.now in
    let desk = desk_of c.args.engine.now in
    c.takes_whole.ensures (desk_here device desk)
    ∙ ap (λ (book : PlayBook). counts 1 (write_turn (desk_here device desk) 1 book).reply) c.play_book.ensures.is
    ∙ ap (λ (found : Option Held). counts 1 (channel_turn device desk (Write c.args.fd Inline 0 1) found).reply)
    (sym (at-way (held_by desk c.args.fd) c.in-Some.held Play (sym c.held.ensures ∙ c.in-Some.is) c.in-Play.is))

pub returns-in-Record : goal.returns-in-Record
returns-in-Record g c =
    let device = device_of c.args.engine.now in
    let desk = desk_of c.args.engine.now in
    ap (λ (found : Option Held). counts 1 (channel_turn device desk (Write c.args.fd Inline 0 1) found).reply)
    (sym (at-way (held_by desk c.args.fd) c.in-Some.held Record (sym c.held.ensures ∙ c.in-Some.is) c.in-Record.is))

pub returns-in-Map : goal.returns-in-Map
returns-in-Map g c =
    let device = device_of c.args.engine.now in
    let desk = desk_of c.args.engine.now in
    ap (λ (found : Option Held). counts 1 (channel_turn device desk (Write c.args.fd Inline 0 1) found).reply)
    (sym (at-way (held_by desk c.args.fd) c.in-Some.held Map (sym c.held.ensures ∙ c.in-Some.is) c.in-Map.is))
