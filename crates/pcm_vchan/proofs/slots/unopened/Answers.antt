use Rattle.std.proofs.Common.{◌≡◌, ◌+◌, ◌++◌, ◌∷◌, [], List, length, refl, ap, ◌∙◌, arith, length-take}
use Rattle.std.proofs.lemmas.List.{length_push}
use Rattle.std.proofs.lemmas.List.Elements.{All-nil, All-push, All-same, All-take, All-head, All-tail}
use Rattle.pcm_feeder.specs.declared.rack.RackOf.{RackOf}
use Rattle.pcm_feeder.specs.Racks.{IsRack, boxes_of, marks_of}
use Rattle.pcm_chain.specs.Chains.{marks_in}
use Rattle.pcm_vchan.specs.Racks.{channel_marks}
use Rattle.pcm_vchan.proofs.Racks.{none-left, one-more}
use Rattle.pcm_vchan.proofs.slots.unopened.Goals as goal

pub loop-rack-init : goal.loop-rack-init
loop-rack-init g c =
    let rest = c.into_iter-rack-iterator.ensures.into_iter_gives.0 ∙ c.truncate.ensures.items in
    let none = c.new-channels.ensures.items in
    record {
      amount = rw (none, rest) (omega (arith, length-take c.args.count c.args.racks.items, c.args.racks.ok.0, c.requires.enough));
      made = rw none (All-nil (g.C.Channel.is_unopened c.args.tables.now c.args.device));
      kinds = rw rest (All-take (IsRack g.B.Feeder.kind) c.args.count c.args.racks.items c.requires.kinds);
      boxes = rw (none, rest) refl;
    }

pub new-requires : goal.new-requires
new-requires g c = record {
  device = c.requires.device;
  kinds = All-head (IsRack g.B.Feeder.kind) c.in-Some.rack c.next.new.self.rest.items
      (rw (c.in-Some.ensures.steps.0) at c.loop-rack.invariant.kinds);
}

pub loop-rack-preserved : goal.loop-rack-preserved
loop-rack-preserved g c =
    let channel = c.in_ok-new.field-0 in
    let P = g.C.Channel.is_unopened c.args.tables.now c.args.device in
    let steps = c.in-Some.ensures.steps.0 in
    let before = c.loop-rack.channels.items in
    let made : P channel = c.in_ok-new.ensures.unopened in
    let items = c.in_ok-push.ensures.items in
    let longer : length c.push.new.self.items ≡ length before + 1 = ap (λ (list : List _). length list) items
    ∙ length_push before channel in
    let shorter : length c.loop-rack.rack-iterator.rest.items ≡ length (c.in-Some.rack ∷ c.next.new.self.rest.items) = ap
    (λ (list : List (RackOf _)). length list) steps in
    let amount = c.loop-rack.invariant.amount in
    record {
      amount = omega arith;
      made = All-same P c.push.new.self.items (before ++ channel ∷ []) items (All-push P before channel c.loop-rack.invariant.made made);
      kinds = All-tail (IsRack g.B.Feeder.kind) c.in-Some.rack c.next.new.self.rest.items (rw steps at c.loop-rack.invariant.kinds);
      boxes = one-more (λ made. marks_in g.B.Feeder.mark (g.C.Channel.path made).chain)
          (λ (rack : RackOf _). marks_of g.B.Feeder.mark (boxes_of rack)) before c.push.new.self.items
          c.loop-rack.rack-iterator.rest.items c.next.new.self.rest.items channel c.in-Some.rack _ c.loop-rack.invariant.boxes items steps
          c.in_ok-new.ensures.boxes;
    }

pub returns-clause-boxes : goal.returns-clause-boxes
returns-clause-boxes g c =
    ap (channel_marks g.C.Channel.path g.B.Feeder.mark) c.new-2.ensures.items
    ∙ none-left (λ (rack : RackOf _). marks_of g.B.Feeder.mark (boxes_of rack))
    (channel_marks g.C.Channel.path g.B.Feeder.mark c.loop-rack.channels.items) _ c.loop-rack.rack-iterator.rest.items
    (omega (arith, c.in-None.ensures.steps.0, c.loop-rack.rack-iterator.rest.ok.0)) c.loop-rack.invariant.boxes
