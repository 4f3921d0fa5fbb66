use Rattle.std.proofs.Common.{sym, ◌∙◌}
use Rattle.pcm_status.proofs.waits.wait_of.Goals as goal

pub first_between-requires : goal.first_between-requires
first_between-requires g c = record {
  holds = c.requires.holds;
  least = sym c.goes_on_after.ensures ∙ c.if-goes_on_after.false;
  most = sym c.goes_on_after-2.ensures ∙ c.if-not-goes_on_after.false;
}
