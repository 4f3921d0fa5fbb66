use Rattle.std.proofs.Common.{◌≡◌, ◌+◌, ◌++◌, length, take, All}
use Rattle.pcm_feeder.specs.Racks.{AreRacks, rack_marks}
use Rattle.pcm_vchan.specs.Racks.{channel_marks}
use Rattle.pcm_vchan.proofs.slots.unopened.Given as goal

-- A channel was made with each rack so far, and has its boxes.
abbrev pub invariant-loop-rack : goal.invariant-loop-rack
invariant-loop-rack g l = record {
  amount : length l.channels.items + length l.rack-iterator.rest.items ≡ l.count;
  made : All (g.C.Channel.is_unopened l.tables l.device) l.channels.items;
  kinds : AreRacks g.B.Feeder.kind l.rack-iterator.rest.items;
  boxes : channel_marks g.C.Channel.path g.B.Feeder.mark l.channels.items ++ rack_marks g.B.Feeder.mark l.rack-iterator.rest.items ≡ rack_marks g.B.Feeder.mark (take l.count l.fn.racks.items);
}
