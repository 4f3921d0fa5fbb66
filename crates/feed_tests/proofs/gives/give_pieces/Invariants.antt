use Rattle.std.proofs.Common.{◌≡◌, ◌≤◌, List}
use Rattle.pcm_format.specs.declared.layout.Layout.TheVariants.{One}
use Rattle.pcm_format.specs.Frames.{Frame}
use Rattle.pcm_plan.specs.Fits.{HaveTables}
use Rattle.pcm_chain.specs.Chains.{plan_in}
use Rattle.pcm_chain.specs.Gives.{GivesExactly}
use Rattle.feed_tests.proofs.gives.give_pieces.Given as goal

-- the chain has given just what the pieces so far add up to
abbrev pub invariant-loop-at : goal.invariant-loop-at
invariant-loop-at g l = record {
  given : l.given ≤ 4;
  eaten : l.eaten ≤ 8;
  source : (plan_in l.chain).source ≡ One;
  target : (plan_in l.chain).target ≡ One;
  tables : HaveTables (plan_in l.chain).stages l.tables;
  gives : (x : List Frame) × GivesExactly g.B.Feeder.kept l.tables l.chain x l.given;
}
