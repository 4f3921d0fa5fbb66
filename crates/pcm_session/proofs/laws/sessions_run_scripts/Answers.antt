use Rattle.pcm_session.proofs.Runs.{runs-as}
use Rattle.pcm_session.proofs.laws.sessions_run_scripts.Goals as goal

pub returns : goal.returns
returns g c = λ pool before events calls old new s follows. runs-as g.B.Feeder.kept pool before events calls old new s follows
