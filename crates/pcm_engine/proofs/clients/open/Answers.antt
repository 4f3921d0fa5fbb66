use Rattle.std.proofs.Common.{rules, ℕ, [], Some, ◌≤◌, refl, sym, ap, ◌∙◌, subst}
use Rattle.std.specs.Prelude.{IsOk}
use Rattle.pcm_oss.specs.declared.event.Event.TheVariants.{Open}
use Rattle.pcm_desk.specs.declared.device.Device.{Device}
use Rattle.pcm_desk.specs.Desk.{held_by}
use Rattle.pcm_vchan.specs.Slots.{slot_place}
use Rattle.pcm_engine.specs.Desks.{desk_with, with_held, turn_on}
use Rattle.pcm_engine.proofs.Answering.{answers-refusal, own-served}
use Rattle.pcm_engine.proofs.Grouping.{handed-on}
use Rattle.pcm_engine.proofs.Opening.{leaves-opened, opened-behind, opened-reply, opened-turn, Opens}
use Rattle.pcm_engine.proofs.Turning.{shut-none}
use Rattle.pcm_engine.proofs.clients.open.Goals as goal

pub returns-in_err-shut : goal.returns-in_err-shut
returns-in_err-shut g c =
    answers-refusal g.B.Feeder.kind g.B.Feeder.kept c.args.tables.now (turn_on (Open c.args.fd c.args.way c.args.settings))
    c.args.parent.now c.args.descriptors.now [] _ c.in_err-shut.field-0.0 (own-served c.requires.served)
    (search rules) (handed-on c.from_residual.result c.in_err-shut.field-0.0 c.from_residual.ensures.0 c.from_residual.ensures.1)

pub returns-in_err-number : goal.returns-in_err-number
returns-in_err-number g c =
    let made = c.open_slot.ensures in
    record {
      silent = search rules;
      takes = record {
        refused = search rules;
        desk = search rules;
        reply = search rules;
        leaves = leaves-opened g.B.Feeder.kind g.B.Feeder.kept c.args.tables.now c.args.settings c.args.way c.args.parent.now
            c.open_slot.new.self c.open_slot.result (own-served c.requires.served)
            (record { play = made.play; recording = made.recording; mapped = made.mapped; output = made.output });
      };
    }

pub place_of-slot-requires : goal.place_of-slot-requires
place_of-slot-requires g c = λ is.
    let made = c.open_slot.ensures in
    let opens : Opens g.B.Feeder.kind g.B.Feeder.kept c.args.tables.now c.args.settings c.args.way c.args.parent.now c.open_slot.new.self
    c.open_slot.result =
    record { play = made.play; recording = made.recording; mapped = made.mapped; output = made.output } in
    subst (λ (d : Device). d.play_slots ≤ c.in_ok-number.number) (sym made.output.device_same)
    (opened-behind g.B.Feeder.kind g.B.Feeder.kept c.args.tables.now c.args.settings c.args.way c.args.parent.now c.open_slot.new.self
    c.open_slot.result c.in_ok-number.number opens c.in_ok-number.was is)

pub returns : goal.returns
returns g c =
    let parent = c.args.parent.now in
    let tables = c.args.tables.now in
    let new = c.open_slot.new.self in
    let told = c.in_ok-number.number in
    let made = c.open_slot.ensures in
    let opens : Opens g.B.Feeder.kind g.B.Feeder.kept tables c.args.settings c.args.way parent new c.open_slot.result =
    record { play = made.play; recording = made.recording; mapped = made.mapped; output = made.output } in
    let none = shut-none (held_by (desk_with parent c.args.descriptors.now) c.args.fd)
    (subst IsOk (sym c.in_ok-shut.was ∙ c.shut.ensures) refl) in
    let place = c.place_of-slot.ensures ∙ ap (λ (d : Device). slot_place d.play_slots c.args.way told) made.output.device_same in
    record {
      silent = search rules;
      takes = record {
        refused = search rules;
        desk = opened-turn g.B.Feeder.kind g.B.Feeder.kept tables c.args.settings c.args.way parent new c.open_slot.result told c.args.fd
            c.args.descriptors.now c.set.new.self opens c.in_ok-number.was none
            (c.set.ensures ∙ ap (λ (slot : ℕ). with_held c.args.descriptors.now c.args.fd (Some (record { way = c.args.way; slot = slot })))
            place);
        reply = opened-reply g.B.Feeder.kind g.B.Feeder.kept tables c.args.settings c.args.way parent new c.open_slot.result told c.args.fd
            c.args.descriptors.now opens c.in_ok-number.was none;
        leaves = leaves-opened g.B.Feeder.kind g.B.Feeder.kept tables c.args.settings c.args.way parent new c.open_slot.result
            (own-served c.requires.served) opens;
      };
    }
