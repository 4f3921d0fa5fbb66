use Rattle.std.proofs.Common.{◌≡◌, ◌≤◌, length, Some}
use Rattle.pcm_feeder.specs.declared.stage.Spec.TheVariants.{Poly}
use Rattle.feed_tests.proofs.cuts.fed.Given as goal

-- the feeder stays fitted, and no more moves than there is
abbrev pub invariant-loop-turn : goal.invariant-loop-turn
invariant-loop-turn g l = record {
  spec : (g.B.Feeder.kept l.feeder).spec ≡ Some (Poly 44100 48000 2 0 32);
  eaten : l.eaten ≤ length l.input;
  given : l.given ≤ length l.output;
}
