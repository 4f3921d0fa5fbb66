use Rattle.std.proofs.Common.{◌≡◌, arith, [], ◌∷◌, ◌++◌, length, take, drop, w64, sym, ap, ◌∙◌, subst}
use Rattle.std.proofs.lemmas.Int.{ints, to_z-of_z}
use Rattle.std.specs.Prelude.{IfSome, Option}
use Rattle.std.specs.Option.{option_to_list}
use Rattle.std.proofs.lemmas.List.{drop-drop, length-append, length-drop, take-append-le, take-take}
use Rattle.std.proofs.lemmas.List.Elements.{All-pop, All-take, All-drop}
use Rattle.pcm_feeder.specs.declared.rack.RackOf.{RackOf}
use Rattle.pcm_feeder.specs.Racks.{AreRacks, IsRack, list_of, rack_marks}
use Rattle.pcm_desk.specs.Device.{unfiltered}
use Rattle.pcm_desk.proofs.Passing.{passed-none}
use Rattle.pcm_vchan.proofs.Racks.{drop_length, part-of-first}
use Rattle.pcm_vchan.proofs.parent.ParentOf.new.Goals as goal

pub new-requires : goal.new-requires
new-requires g c =
    let all : AreRacks g.B.Feeder.kind c.in_ok-recording.recording.items =
    subst (AreRacks g.B.Feeder.kind) (sym c.in_ok-recording.ensures.tail)
    (All-drop (IsRack g.B.Feeder.kind) 16 c.into_list-playing.result.items (c.into_list-playing.ensures.kinds c.requires.kinds)) in
    record {
      rates = c.requires.limits.rates;
      ring = c.requires.limits.ring;
      mix = c.requires.limits.mix;
      kinds = subst (λ (last : Option (RackOf _)). IfSome last (IsRack g.B.Feeder.kind)) c.unwrap.ensures
          (All-pop (IsRack g.B.Feeder.kind) c.in_ok-recording.recording.items c.pop.new.self.items c.pop.result c.pop.ensures.items all).1;
    }

pub split_off-requires-2 : goal.split_off-requires-2
split_off-requires-2 g c = omega (arith, c.in_ok-recording.ensures.len, c.requires.limits.slots)

pub unopened-requires-clause-kinds : goal.unopened-requires-clause-kinds
unopened-requires-clause-kinds g c =
    let first : AreRacks g.B.Feeder.kind c.split_off.new.self.items =
    subst (AreRacks g.B.Feeder.kind) (sym c.in_ok-recording.ensures.items)
    (All-take (IsRack g.B.Feeder.kind) 16 c.into_list-playing.result.items (c.into_list-playing.ensures.kinds c.requires.kinds)) in
    subst (AreRacks g.B.Feeder.kind) (sym c.in_ok-mapped.ensures.items)
    (All-take (IsRack g.B.Feeder.kind) c.args.device.play_slots c.split_off.new.self.items first)

pub unopened-requires-2-clause-enough : goal.unopened-requires-2-clause-enough
unopened-requires-2-clause-enough g c = omega (
  arith,
  c.in_ok-recording.ensures.len,
  c.in_ok-mapped.ensures.tail_len,
  c.requires.limits.slots,
)

pub unopened-requires-2-clause-kinds : goal.unopened-requires-2-clause-kinds
unopened-requires-2-clause-kinds g c =
    let first : AreRacks g.B.Feeder.kind c.split_off.new.self.items =
    subst (AreRacks g.B.Feeder.kind) (sym c.in_ok-recording.ensures.items)
    (All-take (IsRack g.B.Feeder.kind) 16 c.into_list-playing.result.items (c.into_list-playing.ensures.kinds c.requires.kinds)) in
    subst (AreRacks g.B.Feeder.kind) (sym c.in_ok-mapped.ensures.tail)
    (All-drop (IsRack g.B.Feeder.kind) c.args.device.play_slots c.split_off.new.self.items first)

pub unopened-requires-3-clause-kinds : goal.unopened-requires-3-clause-kinds
unopened-requires-3-clause-kinds g c =
    let all : AreRacks g.B.Feeder.kind c.in_ok-recording.recording.items =
    subst (AreRacks g.B.Feeder.kind) (sym c.in_ok-recording.ensures.tail)
    (All-drop (IsRack g.B.Feeder.kind) 16 c.into_list-playing.result.items (c.into_list-playing.ensures.kinds c.requires.kinds)) in
    (All-pop (IsRack g.B.Feeder.kind) c.in_ok-recording.recording.items c.pop.new.self.items c.pop.result c.pop.ensures.items all).0

pub invariant_of-result : goal.invariant_of-result
invariant_of-result g c =
    record {
      rates = c.requires.limits.rates;
      bus_of = c.in_ok-bus.ensures.device;
      passed_is = to_z-of_z w64 c.passed.result (record { sfits = c.passed.type_inv }) ∙ c.passed.ensures;
      within = c.requires.limits.ring;
      slots = c.in_ok-channels.ensures.slots;
      maps_count = c.in_ok-maps.ensures.slots;
      slots_within = c.requires.limits.slots;
      recorders_count = c.in_ok-recorders.ensures.slots;
      recorders_within = c.requires.limits.recorders;
      size = c.in_ok-ring.ensures.size;
      full = c.in_ok-ring.ensures.full;
    }

pub returns-clause-racks : goal.returns-clause-racks
returns-clause-racks g c =
    let mark = g.B.Feeder.mark in
    let device = c.args.device in
    let p = device.play_slots in
    let all = c.into_list-playing.result.items in
    let racks = list_of c.args.racks in
    let whole : all ≡ racks = c.into_list-playing.ensures.same in
    let first : c.split_off.new.self.items ≡ take 16 racks = c.in_ok-recording.ensures.items ∙ ap (take 16) whole in
    let tail : c.in_ok-recording.recording.items ≡ drop 16 racks = c.in_ok-recording.ensures.tail ∙ ap (drop 16) whole in
    let front = c.pop.new.self.items in
    let parted : drop 16 racks ≡ front ++ c.unwrap.result ∷ [] =
    sym tail ∙ c.pop.ensures.items ∙ ap (λ last. front ++ option_to_list last) c.unwrap.ensures in
    let sixteen : length front ≡ 16 = omega (
      arith,
      ap length parted,
      length-append front (c.unwrap.result ∷ []),
      length-drop 16 racks,
      ap
          length whole,
      c.into_list-playing.ensures.count,
    ) in
    record {
      playing = c.in_ok-channels.ensures.boxes
          ∙ ap (λ list. rack_marks mark (take p list)) (c.in_ok-mapped.ensures.items ∙ ap (take p) first)
          ∙ ap (rack_marks mark) (take-take p p (take 16 racks) (omega arith)
          ∙ take-take p 16 racks (omega (arith, c.requires.limits.slots)));
      mapped = c.in_ok-maps.ensures.boxes
          ∙ ap (λ list. rack_marks mark (take device.map_slots list)) (c.in_ok-mapped.ensures.tail ∙ ap (drop p) first)
          ∙ ap (rack_marks mark) (part-of-first p device.map_slots 16 racks c.requires.limits.slots);
      recording = c.in_ok-recorders.ensures.boxes
          ∙ ap (rack_marks mark) (sym (take-append-le device.record_slots front (c.unwrap.result ∷ [])
          (omega (arith, sixteen, c.requires.limits.recorders))) ∙ ap (take device.record_slots) (sym parted));
      bus = ap (λ marks. marks ∷ []) c.in_ok-bus.ensures.boxes
          ∙ ap (rack_marks mark) (sym (drop_length front (c.unwrap.result ∷ []) 16 sixteen) ∙ ap (drop 16) (sym parted)
          ∙ drop-drop 16 16 racks);
    }

pub passed-requires-clause-count : goal.passed-requires-clause-count
passed-requires-clause-count g c =
    let none = passed-none (unfiltered c.args.device) c.requires.limits.rates.mix_rate in
    omega (arith, ints, none)

pub returns-clause-bus_kinds : goal.returns-clause-bus_kinds
returns-clause-bus_kinds g c = c.in_ok-bus.ensures.kinds
