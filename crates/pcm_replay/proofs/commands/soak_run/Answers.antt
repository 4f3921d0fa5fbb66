use Rattle.std.proofs.Common.{Some, refl}
use Rattle.pcm_verdict.specs.Commands.{SoakRun}
use Rattle.pcm_verdict.specs.Soaks.{soak_line}
use Rattle.pcm_verdict.specs.Verdict.{Soaks}
use Rattle.pcm_inputs.specs.Outside.{Outside, outside}
use Rattle.pcm_replay.specs.Endings.{EndsCommand}
use Rattle.pcm_replay.proofs.Doing.{comes-soak, cuts-command, cuts-lines, does-command, writes-lines}
use Rattle.pcm_inputs.proofs.Parts.{nothing}
use Rattle.pcm_inputs.proofs.Refusing.{err-as}
use Rattle.pcm_replay.proofs.commands.soak_run.Goals as goal

-- its line was not put
pub returns-in_err-engine-clause-err : goal.returns-in_err-engine-clause-err
returns-in_err-engine-clause-err g c =
    let n = c.args.seed in
    let before : Outside = outside (g.F.Files.seen c.args.files.now) (g.K.Sink.seen c.args.out.now) in
    let after : Outside = outside (g.F.Files.seen c.args.files.now) (g.K.Sink.seen c.run_soak.new.out) in
    let ending = c.in_err-engine.field-0.0 in
    err-as (EndsCommand (SoakRun n) before after) ending c.from_residual.result c.from_residual.ensures.1
    (cuts-command (SoakRun n) (Soaks n) ending before before after refl (comes-soak n before.files) (nothing before)
    (cuts-lines ending (Soaks n) (soak_line n) before.files before.sink after.sink refl c.in_err-engine.ensures.err))

-- it ran, and its line was put
pub returns-clause-ok : goal.returns-clause-ok
returns-clause-ok g c =
    let n = c.args.seed in
    let before : Outside = outside (g.F.Files.seen c.args.files.now) (g.K.Sink.seen c.args.out.now) in
    let after : Outside = outside (g.F.Files.seen c.args.files.now) (g.K.Sink.seen c.run_soak.new.out) in
    does-command g.B.Feeder.kind g.B.Feeder.kept (SoakRun n) (Soaks n) (Some c.in_ok-engine.engine) before before after refl
    (comes-soak n before.files) (nothing before) c.in_ok-engine.ensures.ran
    (writes-lines (Soaks n) (soak_line n) before.files before.sink after.sink refl c.in_ok-engine.ensures.ok)
