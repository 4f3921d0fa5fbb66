use Rattle.std.proofs.Common.{◌≡◌, length, All}
use Rattle.feed_stages.proofs.Cases.{HaveTheirKinds}
use Rattle.feed_stages.proofs.racks.sevens.Given as goal

-- as many sevens of stages as were counted are there, each stage of its place's kind
abbrev pub invariant-loop : goal.invariant-loop
invariant-loop l = record {
  kinds : All HaveTheirKinds l.sevens.items;
  count : length l.sevens.items ≡ l.counter;
}
