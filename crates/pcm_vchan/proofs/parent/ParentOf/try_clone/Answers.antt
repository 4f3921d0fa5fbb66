use Rattle.std.proofs.Common.{rules, to_z, of_z, ◌≡◌, ◌<◌, [], ◌∷◌, length, get_or, w64, refl, sym, ap, ◌∙◌, arith}
use Rattle.pcm_sequence.specs.Fixed.{fixed_items}
use Rattle.pcm_sequence.proofs.Items.{items-count}
use Rattle.pcm_ring.specs.Ring.{Ring}
use Rattle.pcm_desk.specs.declared.device.Device.{Device}
use Rattle.pcm_desk.specs.Device.{passed_for, seen, unfiltered}
use Rattle.pcm_play.specs.Channels.{PlayStandsAs}
use Rattle.pcm_record.specs.Channels.{RecordStandsAs}
use Rattle.pcm_map.specs.Channels.{MapStandsAs}
use Rattle.pcm_bus.proofs.Resuming.{made-fitted}
use Rattle.pcm_vchan.proofs.Cloning.{map-fitted, marks-stay, play-fitted, record-fitted, slots-stand}
use Rattle.pcm_vchan.proofs.parent.ParentOf.try_clone.Goals as goal

pub resume_all-requires-clause-can : goal.resume_all-requires-clause-can
resume_all-requires-clause-can g c = λ slot other there.
    let parent = c.args.self.now in
    let made = c.in_ok-clone.ensures in
    let before : slot < length (fixed_items c.in_ok-clone.clone.channels) = omega (arith, made.slots, items-count parent.channels, parent.slots) in
    let unopened = made.channels slot other before in
    record {
      device = c.requires.served.own slot other there ∙ sym unopened.device_is;
      kinds = unopened.kinds;
      fitted = play-fitted g.B.Feeder.kind g.B.Feeder.kept c.args.tables.now (get_or (fixed_items parent.channels) slot other)
          (c.requires.served.ready slot other there);
    }

pub resume_all-requires-2-clause-can : goal.resume_all-requires-2-clause-can
resume_all-requires-2-clause-can g c = λ slot other there.
    let parent = c.args.self.now in
    let made = c.in_ok-clone.ensures in
    let before : slot < length (fixed_items c.in_ok-clone.clone.recorders) = omega (arith, made.recorders, items-count parent.recorders, parent.recorders_count) in
    let unopened = made.recording slot other before in
    record {
      device = c.requires.served.recorders_own slot other there ∙ sym unopened.device_is;
      kinds = unopened.kinds;
      fitted = record-fitted g.B.Feeder.kind g.B.Feeder.kept c.args.tables.now (get_or (fixed_items parent.recorders) slot other)
          (c.requires.served.recorders_ready slot other there);
    }

pub resume_all-requires-3-clause-can : goal.resume_all-requires-3-clause-can
resume_all-requires-3-clause-can g c = λ slot other there.
    let parent = c.args.self.now in
    let made = c.in_ok-clone.ensures in
    let before : slot < length (fixed_items c.in_ok-clone.clone.maps) = omega (arith, made.maps, items-count parent.maps, parent.maps_count) in
    let unopened = made.mapped slot other before in
    record {
      device = c.requires.served.maps_own slot other there ∙ sym unopened.device_is;
      kinds = unopened.kinds;
      fitted = map-fitted g.B.Feeder.kind g.B.Feeder.kept c.args.tables.now (get_or (fixed_items parent.maps) slot other)
          (c.requires.served.maps_ready slot other there);
    }

pub resume_from-requires-clause-fitted : goal.resume_from-requires-clause-fitted
resume_from-requires-clause-fitted g c =
    let parent = c.args.self.now in
    made-fitted g.B.Feeder.kept (seen c.args.tables.now parent.device) parent.bus.chain parent.handed c.requires.bus.made

pub invariant_of-clone-clause-bus_of : goal.invariant_of-clone-clause-bus_of
invariant_of-clone-clause-bus_of g c = c.resume_from.ensures.device ∙ c.in_ok-clone.clone.bus_of

pub invariant_of-clone-clause-passed_is : goal.invariant_of-clone-clause-passed_is
invariant_of-clone-clause-passed_is g c =
    let parent = c.args.self.now in
    let same : to_z w64 (of_z w64 parent.passed) ≡ parent.passed = search rules in
    same ∙ parent.passed_is ∙ ap (λ (device : Device). passed_for (unfiltered device) parent.handed) (sym c.in_ok-clone.ensures.device)

pub returns-clause-clone : goal.returns-clause-clone
returns-clause-clone g c =
    let kind = g.B.Feeder.kind in
    let kept = g.B.Feeder.kept in
    let mark = g.B.Feeder.mark in
    let parent = c.args.self.now in
    let clone = c.in_ok-clone.clone in
    let made = c.in_ok-clone.ensures in
    let went = c.resume_from.ensures in
    record {
      device = made.device;
      playing = slots-stand (λ channel. channel.path) (PlayStandsAs kept) kind mark parent.device (fixed_items parent.channels) (fixed_items clone.channels)
          (fixed_items c.resume_all.new.channels) (items-count parent.channels ∙ parent.slots ∙ sym made.slots)
          (λ slot other there. (made.channels slot other there).device_is) c.resume_all.ensures.resumed;
      recording = slots-stand (λ channel. channel.path) (RecordStandsAs kept) kind mark parent.device (fixed_items parent.recorders) (fixed_items clone.recorders)
          (fixed_items c.resume_all-2.new.channels) (items-count parent.recorders ∙ parent.recorders_count ∙ sym made.recorders)
          (λ slot other there. (made.recording slot other there).device_is) c.resume_all-2.ensures.resumed;
      mapped = slots-stand (λ channel. channel.path) (MapStandsAs kept) kind mark parent.device (fixed_items parent.maps) (fixed_items clone.maps)
          (fixed_items c.resume_all-3.new.channels) (items-count parent.maps ∙ parent.maps_count ∙ sym made.maps)
          (λ slot other there. (made.mapped slot other there).device_is) c.resume_all-3.ensures.resumed;
      mixer = c.copy_from.ensures;
      plan = went.plan;
      far = went.far;
      made = went.made;
      ring = ap (λ (ring : Ring). ring.bytes) c.copy_from-2.ensures;
      handed = refl;
      mixed = refl;
    }

pub returns-clause-racks : goal.returns-clause-racks
returns-clause-racks g c =
    let kind = g.B.Feeder.kind in
    let kept = g.B.Feeder.kept in
    let mark = g.B.Feeder.mark in
    let parent = c.args.self.now in
    let clone = c.in_ok-clone.clone in
    let made = c.in_ok-clone.ensures in
    record {
      playing = marks-stay (λ channel. channel.path) (PlayStandsAs kept) kind mark (fixed_items parent.channels) (fixed_items clone.channels)
          (fixed_items c.resume_all.new.channels) (items-count parent.channels ∙ parent.slots ∙ sym made.slots) c.resume_all.ensures.resumed ∙ made.racks.playing;
      mapped = marks-stay (λ channel. channel.path) (MapStandsAs kept) kind mark (fixed_items parent.maps) (fixed_items clone.maps)
          (fixed_items c.resume_all-3.new.channels) (items-count parent.maps ∙ parent.maps_count ∙ sym made.maps) c.resume_all-3.ensures.resumed ∙ made.racks.mapped;
      recording = marks-stay (λ channel. channel.path) (RecordStandsAs kept) kind mark (fixed_items parent.recorders) (fixed_items clone.recorders)
          (fixed_items c.resume_all-2.new.channels) (items-count parent.recorders ∙ parent.recorders_count ∙ sym made.recorders) c.resume_all-2.ensures.resumed
          ∙ made.racks.recording;
      bus = ap (λ marks. marks ∷ []) c.resume_from.ensures.marks ∙ made.racks.bus;
    }
