use Rattle.std.proofs.Common.{Result, Ok, Err, IfErr, IfOk, Option, map, string_bytes, sym}
use Rattle.pcm_engine.specs.declared.engine.EngineOf.{EngineOf}
use Rattle.pcm_feeder.specs.declared.kind.Kind.{Kind}
use Rattle.pcm_feeder.specs.Kept.{Kept}
use Rattle.pcm_inputs.specs.Commands.{command_seen}
use Rattle.pcm_inputs.specs.declared.ending.Ending.{Ending}
use Rattle.pcm_replay.specs.Calls.{Call}
use Rattle.pcm_replay.specs.Endings.{DoesCommand, DoesWords, EndsCall, EndsCommand}
use Rattle.pcm_replay.specs.Outcomes.{Spells}
use Rattle.pcm_inputs.specs.Outside.{outside}
use Rattle.pcm_replay.proofs.Doing.{ends-call, ends-formless}
use Rattle.pcm_replay.proofs.top.carry_out.Goals as goal

-- what a command was done to, its words were
does-words : {B : Type 0} (kind : B → Kind) (kept : B → Kept) (call : Call) (spells : Spells call.words)
    (r : Result (Option (EngineOf B)) Ending)
    → IfOk r (DoesCommand kind kept spells.command call.before call.after) → IfOk r (DoesWords kind kept call)
does-words kind kept call spells (Ok engine) does = record { spells = spells; does = does }
does-words kind kept call spells (Err ending) does = tt

ends-words : {T : Type 0} (call : Call) (spells : Spells call.words) (r : Result T Ending)
    → IfErr r (EndsCommand spells.command call.before call.after) → IfErr r (EndsCall call)
ends-words call spells (Ok made) ends = tt
ends-words call spells (Err ending) ends = ends-call call spells ending ends

pub returns-clause-ok : goal.returns-clause-ok
returns-clause-ok g c =
    let here : Call = record {
      words = map string_bytes c.args.words.now;
      before = outside (g.F.Files.seen c.args.files.now) (g.K.Sink.seen c.args.out.now);
      after = outside (g.F.Files.seen c.do_command.new.files) (g.K.Sink.seen c.do_command.new.out);
    } in
    let spells : Spells here.words = record { command = command_seen c.in-Some.command; is = sym c.in-Some.ensures.value } in
    does-words g.B.Feeder.kind g.B.Feeder.kept here spells c.do_command.result c.do_command.ensures.ok

pub returns-clause-err : goal.returns-clause-err
returns-clause-err g c =
    let here : Call = record {
      words = map string_bytes c.args.words.now;
      before = outside (g.F.Files.seen c.args.files.now) (g.K.Sink.seen c.args.out.now);
      after = outside (g.F.Files.seen c.do_command.new.files) (g.K.Sink.seen c.do_command.new.out);
    } in
    let spells : Spells here.words = record { command = command_seen c.in-Some.command; is = sym c.in-Some.ensures.value } in
    ends-words here spells c.do_command.result c.do_command.ensures.err

-- the words match no form
pub returns-in_default-clause-err : goal.returns-in_default-clause-err
returns-in_default-clause-err g c = ends-formless _ (g.F.Files.seen c.args.files.now) _ _ c.refuse_words.result
    (sym c.in_default.ensures.value) c.refuse_words.ensures
