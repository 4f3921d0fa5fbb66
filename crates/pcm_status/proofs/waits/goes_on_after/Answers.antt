use Rattle.std.proofs.Common.{ap, ◌∙◌}
use Rattle.pcm_oss.specs.declared.event.Way.TheVariants.{Play, Record}
use Rattle.pcm_desk.specs.declared.play_book.PlayBook.{PlayBook}
use Rattle.pcm_desk.specs.declared.record_book.RecordBook.{RecordBook}
use Rattle.pcm_desk.specs.Desk.{desk_here, held_by}
use Rattle.pcm_desk.specs.PlayBooks.{write_turn}
use Rattle.pcm_desk.specs.RecordBooks.{read_turn}
use Rattle.pcm_engine.specs.Engines.{desk_of, device_of}
use Rattle.pcm_status.specs.Statuses.{counts}
use Rattle.pcm_status.specs.Waits.{desk_after}
use Rattle.pcm_status.proofs.Going.{goes-by-read, goes-by-write}
use Rattle.pcm_status.proofs.Held.{at-way, play-slot, play-taken, record-slot, record-taken}
use Rattle.pcm_status.proofs.Passing.{held-after}
use Rattle.pcm_status.proofs.waits.goes_on_after.Goals as goal

pub play_book_after-requires : goal.play_book_after-requires
play_book_after-requires g c = record {
  ready = c.requires.holds.ready;
  there = play-slot c.args.engine.now c.args.fd c.args.held c.requires.holds.is c.in-Play.is;
  taken = play-taken c.args.engine.now c.args.fd c.args.held c.requires.holds.is c.in-Play.is;
}

pub record_book_after-requires : goal.record_book_after-requires
record_book_after-requires g c = record {
  ready = c.requires.holds.ready;
  there = record-slot c.args.engine.now c.args.fd c.args.held c.requires.holds.is c.in-Record.is;
  taken = record-taken c.args.engine.now c.args.fd c.args.held c.requires.holds.is c.in-Record.is;
}

pub returns-in-Play : goal.returns-in-Play
returns-in-Play g c =
    let device = device_of c.args.engine.now in
    let desk = desk_of c.args.engine.now in
    let after = desk_after device desk c.args.frames in
    c.takes_whole.ensures (desk_here device after)
    ∙ ap (λ (book : PlayBook). counts c.args.bytes (write_turn (desk_here device after) c.args.bytes book).reply)
    c.play_book_after.ensures.is
    ∙ goes-by-write device after c.args.fd c.args.bytes c.args.held.slot
    (held-after device desk c.args.fd c.args.frames ∙ at-way (held_by desk c.args.fd) c.args.held Play c.requires.holds.is c.in-Play.is)

pub returns-in-Record : goal.returns-in-Record
returns-in-Record g c =
    let device = device_of c.args.engine.now in
    let desk = desk_of c.args.engine.now in
    let after = desk_after device desk c.args.frames in
    c.has_whole.ensures
    ∙ ap (λ (book : RecordBook). counts c.args.bytes (read_turn c.args.bytes book).reply) c.record_book_after.ensures
    ∙ goes-by-read device after c.args.fd c.args.bytes c.args.held.slot
    (held-after device desk c.args.fd c.args.frames ∙ at-way (held_by desk c.args.fd) c.args.held Record c.requires.holds.is c.in-Record.is)
