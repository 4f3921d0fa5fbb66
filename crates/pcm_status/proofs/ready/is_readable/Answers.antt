use Rattle.std.proofs.Common.{sym, ap, ◌∙◌}
use Rattle.std.specs.Prelude.{Option}
use Rattle.pcm_oss.specs.declared.event.Way.TheVariants.{Play, Map}
use Rattle.pcm_desk.specs.declared.device.Held.{Held}
use Rattle.pcm_desk.specs.Desk.{held_by, channel_turn}
use Rattle.pcm_engine.specs.Engines.{desk_of, device_of}
use Rattle.pcm_status.specs.Statuses.{counts}
use Rattle.pcm_status.proofs.Held.{at-way, record-slot}
use Rattle.pcm_status.proofs.ready.is_readable.Goals as goal
use Rattle.pcm_oss.specs.declared.event.Event.TheVariants.{Read}

pub record_book-requires : goal.record_book-requires
record_book-requires g c = record-slot c.args.engine.now c.args.fd c.in-Some.held (sym c.held.ensures ∙ c.in-Some.is) c.in-Record.is

pub returns-in-Play : goal.returns-in-Play
returns-in-Play g c =
    let device = device_of c.args.engine.now in
    let desk = desk_of c.args.engine.now in
    ap (λ (found : Option Held). counts 1 (channel_turn device desk (Read c.args.fd 1) found).reply)
    (sym (at-way (held_by desk c.args.fd) c.in-Some.held Play (sym c.held.ensures ∙ c.in-Some.is) c.in-Play.is))

pub returns-in-Map : goal.returns-in-Map
returns-in-Map g c =
    let device = device_of c.args.engine.now in
    let desk = desk_of c.args.engine.now in
    ap (λ (found : Option Held). counts 1 (channel_turn device desk (Read c.args.fd 1) found).reply)
    (sym (at-way (held_by desk c.args.fd) c.in-Some.held Map (sym c.held.ensures ∙ c.in-Some.is) c.in-Map.is))
