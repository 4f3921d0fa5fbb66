use Rattle.std.proofs.Common.{Some, refl}
use Rattle.pcm_verdict.specs.Commands.{Command, RunScript}
use Rattle.pcm_verdict.specs.Verdict.{Accepted, Inputs, Runs}
use Rattle.pcm_inputs.specs.Commands.{named}
use Rattle.pcm_inputs.specs.Outside.{Outside, outside}
use Rattle.pcm_inputs.specs.Parts.{inputs_part, inputs_seen}
use Rattle.pcm_replay.specs.Endings.{EndsCommand}
use Rattle.pcm_replay.proofs.Doing.{comes-run, cuts-command, does-command, ends-command, leads-run}
use Rattle.pcm_inputs.proofs.Refusing.{err-as}
use Rattle.pcm_replay.proofs.commands.run.Goals as goal

-- what it works on was not read
pub returns-in_err-inputs-clause-err : goal.returns-in_err-inputs-clause-err
returns-in_err-inputs-clause-err g c =
    let command : Command = RunScript c.args.script.now c.args.name.now (named c.args.config) in
    let before : Outside = outside (g.F.Files.seen c.args.files.now) (g.K.Sink.seen c.args.out.now) in
    let after : Outside = outside (g.F.Files.seen c.read_inputs.new.files) (g.K.Sink.seen c.read_inputs.new.out) in
    err-as (EndsCommand command before after) c.in_err-inputs.field-0.0 c.from_residual.result c.from_residual.ensures.1
    (ends-command command (inputs_part c.args.script.now (named c.args.config)) c.in_err-inputs.field-0.0 before after
    (leads-run c.args.script.now c.args.name.now (named c.args.config) before.files) c.in_err-inputs.ensures.err)

-- what it was to leave was cut short
pub returns-in_err-engine-clause-err : goal.returns-in_err-engine-clause-err
returns-in_err-engine-clause-err g c =
    let command : Command = RunScript c.args.script.now c.args.name.now (named c.args.config) in
    let inputs : Inputs = inputs_seen c.in_ok-inputs.inputs in
    let accepted : Accepted = Runs c.args.name.now inputs in
    let before : Outside = outside (g.F.Files.seen c.args.files.now) (g.K.Sink.seen c.args.out.now) in
    let between : Outside = outside (g.F.Files.seen c.read_inputs.new.files) (g.K.Sink.seen c.read_inputs.new.out) in
    let after : Outside = outside (g.F.Files.seen c.run_script.new.files) (g.K.Sink.seen c.run_script.new.out) in
    let read = c.in_ok-inputs.ensures.ok in
    err-as (EndsCommand command before after) c.in_err-engine.field-0.0 c.from_residual-in_err-engine.result
    c.from_residual-in_err-engine.ensures.1
    (cuts-command command accepted c.in_err-engine.field-0.0 before between after refl
    (comes-run c.args.script.now c.args.name.now (named c.args.config) inputs before.files read.came) read.only c.in_err-engine.ensures.err)

-- it ran
pub returns-clause-ok : goal.returns-clause-ok
returns-clause-ok g c =
    let command : Command = RunScript c.args.script.now c.args.name.now (named c.args.config) in
    let inputs : Inputs = inputs_seen c.in_ok-inputs.inputs in
    let accepted : Accepted = Runs c.args.name.now inputs in
    let before : Outside = outside (g.F.Files.seen c.args.files.now) (g.K.Sink.seen c.args.out.now) in
    let between : Outside = outside (g.F.Files.seen c.read_inputs.new.files) (g.K.Sink.seen c.read_inputs.new.out) in
    let after : Outside = outside (g.F.Files.seen c.run_script.new.files) (g.K.Sink.seen c.run_script.new.out) in
    let read = c.in_ok-inputs.ensures.ok in
    does-command g.B.Feeder.kind g.B.Feeder.kept command accepted (Some c.in_ok-engine.engine) before between after refl
    (comes-run c.args.script.now c.args.name.now (named c.args.config) inputs before.files read.came) read.only c.in_ok-engine.ensures.ran
    c.in_ok-engine.ensures.ok
