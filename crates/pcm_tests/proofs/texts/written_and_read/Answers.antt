use Rattle.std.proofs.Common.{[], subst, sym}
use Rattle.pcm_desk.specs.Usual.{usual_device}
use Rattle.pcm_soak.specs.Soak.{soak_script}
use Rattle.pcm_soak.proofs.Kept.{soak_script-fits}
use Rattle.pcm_text.specs.Texts.{AllFound}
use Rattle.pcm_text.proofs.Scripts.{found-fits}
use Rattle.pcm_tests.proofs.texts.written_and_read.Goals as goal

-- the writes of the script of a number name bytes that are there
pub script_text-requires : goal.script_text-requires
script_text-requires c = record {
  found = subst (λ script. AllFound [] script) (sym c.in_ok-script.ensures.made)
      (found-fits usual_device [] (soak_script c.args.n) (soak_script-fits c.args.n));
}
