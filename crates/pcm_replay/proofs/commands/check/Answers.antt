use Rattle.std.proofs.Common.{None, refl}
use Rattle.pcm_verdict.specs.Commands.{CheckScript, Command}
use Rattle.pcm_verdict.specs.Outputs.{check_line}
use Rattle.pcm_verdict.specs.Verdict.{Checks, Inputs}
use Rattle.pcm_inputs.specs.Commands.{named}
use Rattle.pcm_inputs.specs.Outside.{Outside, outside}
use Rattle.pcm_inputs.specs.Parts.{inputs_part, inputs_seen}
use Rattle.pcm_replay.specs.Endings.{EndsCommand}
use Rattle.pcm_replay.proofs.Doing.{comes-check, cuts-command, cuts-lines, does-command, ends-command, leads-check, writes-lines}
use Rattle.pcm_inputs.proofs.Refusing.{err-as}
use Rattle.pcm_replay.proofs.commands.check.Goals as goal

-- what it works on was not read
pub returns-in_err-inputs-clause-err : goal.returns-in_err-inputs-clause-err
returns-in_err-inputs-clause-err g c =
    let command : Command = CheckScript c.args.script.now (named c.args.config) in
    let before : Outside = outside (g.F.Files.seen c.args.files.now) (g.K.Sink.seen c.args.out.now) in
    let after : Outside = outside (g.F.Files.seen c.read_inputs.new.files) (g.K.Sink.seen c.read_inputs.new.out) in
    err-as (EndsCommand command before after) c.in_err-inputs.field-0.0 c.from_residual.result c.from_residual.ensures.1
    (ends-command command (inputs_part c.args.script.now (named c.args.config)) c.in_err-inputs.field-0.0 before after
    (leads-check c.args.script.now (named c.args.config) before.files) c.in_err-inputs.ensures.err)

-- its line was not put
pub returns-in_err-tell_script-clause-err : goal.returns-in_err-tell_script-clause-err
returns-in_err-tell_script-clause-err g c =
    let command : Command = CheckScript c.args.script.now (named c.args.config) in
    let inputs : Inputs = inputs_seen c.in_ok-inputs.inputs in
    let before : Outside = outside (g.F.Files.seen c.args.files.now) (g.K.Sink.seen c.args.out.now) in
    let between : Outside = outside (g.F.Files.seen c.read_inputs.new.files) (g.K.Sink.seen c.read_inputs.new.out) in
    let after : Outside = outside (g.F.Files.seen c.read_inputs.new.files) (g.K.Sink.seen c.tell_script.new.out) in
    let read = c.in_ok-inputs.ensures.ok in
    let ending = c.in_err-tell_script.field-0.0 in
    err-as (EndsCommand command before after) ending c.from_residual-in_err-tell_script.result c.from_residual-in_err-tell_script.ensures.1
    (cuts-command command (Checks inputs) ending before between after tt
    (comes-check c.args.script.now (named c.args.config) inputs before.files read.came) read.only
    (cuts-lines ending (Checks inputs) (check_line inputs) between.files between.sink after.sink refl c.in_err-tell_script.ensures.err))

-- its line was put
pub returns-clause-ok : goal.returns-clause-ok
returns-clause-ok g c =
    let command : Command = CheckScript c.args.script.now (named c.args.config) in
    let inputs : Inputs = inputs_seen c.in_ok-inputs.inputs in
    let before : Outside = outside (g.F.Files.seen c.args.files.now) (g.K.Sink.seen c.args.out.now) in
    let between : Outside = outside (g.F.Files.seen c.read_inputs.new.files) (g.K.Sink.seen c.read_inputs.new.out) in
    let after : Outside = outside (g.F.Files.seen c.read_inputs.new.files) (g.K.Sink.seen c.tell_script.new.out) in
    let read = c.in_ok-inputs.ensures.ok in
    does-command g.B.Feeder.kind g.B.Feeder.kept command (Checks inputs) None before between after tt
    (comes-check c.args.script.now (named c.args.config) inputs before.files read.came) read.only tt
    (writes-lines (Checks inputs) (check_line inputs) between.files between.sink after.sink refl c.in_ok-tell_script.ensures.ok)
