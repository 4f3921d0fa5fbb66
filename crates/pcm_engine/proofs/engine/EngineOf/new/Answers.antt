use Rattle.pcm_engine.specs.Types.{Device, Held}
use Rattle.std.proofs.Common.{◌≡◌, List, [], Option, None, Some, get_or, sym, ap, ◌∙◌, subst, arith}
use Rattle.std.proofs.lemmas.List.Elements.{All-map}
use Rattle.pcm_desk.proofs.Apart.{apart-shut}
use Rattle.pcm_desk.proofs.Members.{waits-none}
use Rattle.pcm_sound.proofs.Stories.{get_or-same}
use Rattle.pcm_desk.specs.Desk.{play_unopened, record_unopened}
use Rattle.pcm_desk.specs.Device.{IsInLimits, here_at, mixed_for, seen}
use Rattle.pcm_sound.specs.Story.{story_at_start}
use Rattle.pcm_play.specs.declared.channel.PlayChannelOf.{PlayChannelOf}
use Rattle.pcm_record.specs.declared.channel.RecordChannelOf.{RecordChannelOf}
use Rattle.pcm_map.specs.declared.channel.MapChannelOf.{MapChannelOf}
use Rattle.pcm_engine.specs.Desks.{desk_with}
use Rattle.pcm_engine.specs.Life.{MapKeepsPace, PlayKeepsPace, RecordKeepsPace}
use Rattle.pcm_engine.specs.Stands.{RecordersStand}
use Rattle.pcm_engine.proofs.InOrder.{books-start, ready-all}
use Rattle.pcm_engine.proofs.Starting.{books-unopened, parent-starts, recorders-start}
use Rattle.pcm_engine.proofs.engine.EngineOf.new.Goals as goal
use Rattle.pcm_bus.specs.Handovers.{HasMadeFar}
use Rattle.pcm_bus.proofs.Handovers.{made-far}
use Rattle.pcm_play.proofs.Stands.{play-far}
use Rattle.pcm_record.proofs.Stands.{record-far}
use Rattle.pcm_map.proofs.Far.{map-far}
use Rattle.pcm_vchan.specs.Parents.{HasBus, map_channels, play_channels, record_channels}

pub invariant_of-result : goal.invariant_of-result
invariant_of-result g c =
    let parent = c.in_ok-parent.parent in
    let made = c.in_ok-parent.ensures in
    record {
      order = record {
        own = record {
          playing = λ slot other there. (made.channels slot other there).device_is ∙ sym made.device;
          recording = λ slot other there. (made.recording slot other there).device_is ∙ sym made.device;
          mapped = λ slot other there. (made.mapped slot other there).device_is ∙ sym made.device;
        };
        apart = apart-shut _ (λ fd held e. let none : None ≡ Some held = sym (get_or-same 64 fd None)
            ∙ sym (ap (λ (list : List (Option Held)). get_or list fd None) c.in_ok-descriptors.ensures.held) ∙ e in cc);
        pace = record {
          playing = All-map (PlayKeepsPace parent.mixed) (λ (channel : PlayChannelOf _). channel.book) (play_channels parent)
              (λ slot other there. subst (PlayKeepsPace parent.mixed) (sym (made.channels slot other there).book)
              (record { played = omega arith }));
          recording = All-map (RecordKeepsPace parent.handed) (λ (channel : RecordChannelOf _). channel.book) (record_channels parent)
              (λ slot other there. subst (RecordKeepsPace parent.handed) (sym (made.recording slot other there).book)
              (record { captured = omega arith; kept = omega arith }));
          mapped = All-map (MapKeepsPace parent.mixed) (λ (channel : MapChannelOf _). channel.book) (map_channels parent)
              (λ slot other there. subst (MapKeepsPace parent.mixed) (sym (made.mapped slot other there).book)
              (record { given = omega arith }));
        };
        life = omega (arith, made.handed);
      };
      captured_size = c.in_ok-captured.ensures.captured;
      answered_size = c.in_ok-captured.ensures.answered;
    }

pub returns-clause-ready : goal.returns-clause-ready
returns-clause-ready g c = ready-all g.B.Feeder.kind g.B.Feeder.kept _
    (λ slot other there. let u = c.in_ok-parent.ensures.channels slot other there in record
    { kinds = u.kinds; planned = λ used. u.planned; far = play-far g.B.Feeder.kept c.args.tables _ [] u.stands })
    (λ slot other there. let u = c.in_ok-parent.ensures.recording slot other there in record
    { kinds = u.kinds; planned = λ used. u.planned; far = record-far g.B.Feeder.kept c.args.tables _ [] [] u.stands })
    (λ slot other there. let u = c.in_ok-parent.ensures.mapped slot other there in record
    { kinds = u.kinds; planned = λ used. u.planned; far = map-far g.B.Feeder.kept c.args.tables _ [] u.stands })
    (let e = c.in_ok-parent.ensures in
    let parent = c.in_ok-parent.parent in
    subst (λ (d : Device). HasBus g.B.Feeder.kept (seen c.args.tables d) parent) (sym e.device) (record {
      planned = e.planned;
      made = subst (HasMadeFar g.B.Feeder.kept (seen c.args.tables c.args.device) parent.bus.chain) (sym e.handed)
          (made-far g.B.Feeder.kept (seen c.args.tables c.args.device) parent.bus.chain [] 0 e.made);
      level = e.mixed ∙ ap (mixed_for (seen c.args.tables c.args.device)) (sym e.handed);
    }))
    (subst (λ (d : Device). IsInLimits (seen c.args.tables d)) (sym c.in_ok-parent.ensures.device) c.requires.limits)
    (λ slot.
    let parent = c.in_ok-parent.parent in
    let e = c.in_ok-parent.ensures in
    books-start c.args.tables parent.device (play_channels parent) slot (here_at (seen c.args.tables parent.device) parent.handed)
    (λ at other there. (e.channels at other there).book ∙ ap (λ (d : Device). play_unopened (seen c.args.tables d)) (sym e.device)))
    (waits-none (seen c.args.tables c.in_ok-parent.parent.device) (desk_with c.in_ok-parent.parent c.in_ok-descriptors.descriptors)
    c.in_ok-descriptors.ensures.groups)

pub returns-clause-stands : goal.returns-clause-stands
returns-clause-stands g c = λ pool.
    let e = c.in_ok-parent.ensures in
    let parent = c.in_ok-parent.parent in
    let books = books-unopened (λ channel. channel.book) (record_channels parent) c.args.device.record_slots
    (record_unopened (seen c.args.tables c.args.device)) e.recorders (λ slot other there. (e.recording slot other there).book) in
    let started = recorders-start g.B.Feeder.kind g.B.Feeder.kept c.args.tables c.args.device pool (record_channels parent)
    c.requires.limits.device_is e.recording in
    record {
      playing = parent-starts g.B.Feeder.kind g.B.Feeder.kept c.args.tables c.args.device parent c.in_ok-descriptors.descriptors
          c.requires.limits.device_is (record {
            device_is = e.device;
            slots = e.slots;
            channels = e.channels;
            recorders = books;
            mapped = e.maps;
            maps = e.mapped;
            shut = c.in_ok-descriptors.ensures.held;
            groups = c.in_ok-descriptors.ensures.groups;
            mixer = e.mixer;
            made = e.made;
            ring = e.ring;
            handed = e.handed;
            mixed = e.mixed;
          });
      recording = subst (λ (d : Device). RecordersStand g.B.Feeder.kept (seen c.args.tables d) pool (record_channels parent)
          (story_at_start (seen c.args.tables d))) (sym e.device) started;
    }
