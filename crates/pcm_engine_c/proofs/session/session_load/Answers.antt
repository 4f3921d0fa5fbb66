use Rattle.std.proofs.Common.{refl}
use Rattle.pcm_engine.specs.declared.load_fault.LoadFault.TheVariants.{Memory}
use Rattle.pcm_engine.proofs.Taken.{memory-cause, refused-as}
use Rattle.pcm_engine_c.proofs.session.session_load.Goals as goal

pub returns-in_err-session-2-clause-cause : goal.returns-in_err-session-2-clause-cause
returns-in_err-session-2-clause-cause c =
    let engine = c.args.session.now.of.engine in
    refused-as _ Memory c.from_residual-in_err-session-2.result c.from_residual-in_err-session-2.ensures.1 (memory-cause _ _ engine.parent.device engine.tables c.args.bytes.now Memory refl)
