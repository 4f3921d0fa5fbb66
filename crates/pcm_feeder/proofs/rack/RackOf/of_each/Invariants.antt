use Rattle.std.proofs.Common.{◌≡◌, ◌++◌, map}
use Rattle.pcm_feeder.specs.Racks.{AreRacks, boxes_of}
use Rattle.pcm_feeder.proofs.rack.RackOf.of_each.Given as goal

abbrev pub invariant-loop-seven : goal.invariant-loop-seven
invariant-loop-seven g l = record {
  kinds : AreRacks g.B.Feeder.kind l.racks.items;
  same : map boxes_of l.racks.items ≡ l.yielded;
  left : l.fn.boxes.items ≡ l.yielded ++ l.seven-iterator.rest.items;
}
