use Rattle.std.proofs.Common.{None, refl}
use Rattle.pcm_verdict.specs.Commands.{Command, ConvertWave}
use Rattle.pcm_verdict.specs.Verdict.{Accepted, Conversion, Converts}
use Rattle.pcm_inputs.specs.Outside.{Outside, outside}
use Rattle.pcm_inputs.specs.Parts.{conversion_part, conversion_to}
use Rattle.pcm_replay.specs.Endings.{EndsCommand}
use Rattle.pcm_replay.proofs.Doing.{comes-convert, cuts-command, cuts-conversion, does-command, ends-command, leads-convert}
use Rattle.pcm_inputs.proofs.Refusing.{err-as}
use Rattle.pcm_replay.proofs.commands.convert.Goals as goal

-- the wave was not read
pub returns-in_err-source-clause-err : goal.returns-in_err-source-clause-err
returns-in_err-source-clause-err g c =
    let command : Command = ConvertWave c.args.input.now c.args.name.now c.args.target in
    let before : Outside = outside (g.F.Files.seen c.args.files.now) (g.K.Sink.seen c.args.out.now) in
    let after : Outside = outside (g.F.Files.seen c.read_source.new.files) (g.K.Sink.seen c.read_source.new.out) in
    err-as (EndsCommand command before after) c.in_err-source.field-0.0 c.from_residual.result c.from_residual.ensures.1
    (ends-command command (conversion_part c.args.input.now c.args.target) c.in_err-source.field-0.0 before after
    (leads-convert c.args.input.now c.args.name.now c.args.target before.files) c.in_err-source.ensures.err)

-- what it was to leave was cut short
pub returns-in_err-convert_wave-clause-err : goal.returns-in_err-convert_wave-clause-err
returns-in_err-convert_wave-clause-err g c =
    let command : Command = ConvertWave c.args.input.now c.args.name.now c.args.target in
    let conversion : Conversion = conversion_to c.in_ok-source.source c.args.target in
    let accepted : Accepted = Converts c.args.name.now conversion in
    let before : Outside = outside (g.F.Files.seen c.args.files.now) (g.K.Sink.seen c.args.out.now) in
    let between : Outside = outside (g.F.Files.seen c.read_source.new.files) (g.K.Sink.seen c.read_source.new.out) in
    let after : Outside = outside (g.F.Files.seen c.convert_wave.new.files) (g.K.Sink.seen c.convert_wave.new.out) in
    let read = c.in_ok-source.ensures.ok in
    let ending = c.in_err-convert_wave.field-0.0 in
    err-as (EndsCommand command before after) ending c.from_residual-in_err-convert_wave.result
    c.from_residual-in_err-convert_wave.ensures.1
    (cuts-command command accepted ending before between after (refl, refl)
    (comes-convert c.args.input.now c.args.name.now c.args.target conversion before.files read.came) read.only
    (cuts-conversion c.args.name.now conversion ending between after c.in_err-convert_wave.ensures.err))

-- it was converted
pub returns-clause-ok : goal.returns-clause-ok
returns-clause-ok g c =
    let command : Command = ConvertWave c.args.input.now c.args.name.now c.args.target in
    let conversion : Conversion = conversion_to c.in_ok-source.source c.args.target in
    let accepted : Accepted = Converts c.args.name.now conversion in
    let before : Outside = outside (g.F.Files.seen c.args.files.now) (g.K.Sink.seen c.args.out.now) in
    let between : Outside = outside (g.F.Files.seen c.read_source.new.files) (g.K.Sink.seen c.read_source.new.out) in
    let after : Outside = outside (g.F.Files.seen c.convert_wave.new.files) (g.K.Sink.seen c.convert_wave.new.out) in
    let read = c.in_ok-source.ensures.ok in
    does-command g.B.Feeder.kind g.B.Feeder.kept command accepted None before between after (refl, refl)
    (comes-convert c.args.input.now c.args.name.now c.args.target conversion before.files read.came) read.only tt
    c.in_ok-convert_wave.ensures.ok
