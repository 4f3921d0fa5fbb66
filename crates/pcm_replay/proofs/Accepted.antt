-- What a call that was done to its end leaves, by what its words ask for.
use Rattle.std.proofs.Common.{◌≡◌, ℕ, List, Option, None, Some, Ok, sym, ap, ◌∙◌, subst}
use Rattle.std.specs.Prelude.{IsSomeAnd}
use Rattle.pcm_feeder.specs.declared.kind.Kind.{Kind}
use Rattle.pcm_feeder.specs.Kept.{Kept}
use Rattle.pcm_engine.specs.declared.engine.EngineOf.{EngineOf}
use Rattle.pcm_verdict.specs.Commands.{Command, command_of, SoakRun}
use Rattle.pcm_verdict.specs.Outputs.{output_of}
use Rattle.pcm_verdict.specs.Verdict.{Accepted, Checks, Converts, Inputs, Runs, Soaks}
use Rattle.pcm_inputs.specs.Commands.{IsOf}
use Rattle.pcm_inputs.specs.Outside.{Lent}
use Rattle.pcm_soak_command.specs.Soaking.{RanSoak}
use Rattle.pcm_replay.specs.Accepted.{AsksFor, FinishesAs, LeavesAll}
use Rattle.pcm_replay.specs.Calls.{Call}
use Rattle.pcm_replay.specs.Endings.{DoesWords, HasRun, LeavesEngine, RanInputs}
use Rattle.pcm_replay.specs.Outcomes.{IsAccepted, Spells}
use Rattle.pcm_convert_command.specs.Written.{WritesAll}
use Rattle.pcm_replay.proofs.Doing.{verdict-of}

-- the number of a soak says all
soaks-of : (n : ℕ) (accepted : Accepted) → IsOf (SoakRun n) accepted → accepted ≡ Soaks n
soaks-of n (Soaks number) is = ap (λ (m : ℕ). Soaks m) is
soaks-of n (Runs name inputs) is = absurd is
soaks-of n (Checks inputs) is = absurd is
soaks-of n (Converts name conversion) is = absurd is

-- words spell one command
spells-same : (words : List (List ℕ)) (spells : Spells words) (command : Command) → command_of words ≡ Some command → spells.command ≡ command
spells-same words spells command asked = let e : Some spells.command ≡ Some command = sym spells.is ∙ asked in cc

-- where the files tell, the verdict says all
told-as : {B : Type 0} (kind : B → Kind) (kept : B → Kept) (call : Call) (engine : Option (EngineOf B)) (does : DoesWords kind kept call engine) (accepted : Accepted)
    → IsAccepted call.words call.before.files accepted → does.does.accepted ≡ accepted
told-as kind kept call engine does accepted is =
    let same : Ok does.does.accepted ≡ Ok accepted = sym (verdict-of call.words does.spells does.does.accepted call.before.files does.does.came is.tells) ∙ is.accepts in
    cc

-- what was asked for is what was done
done-as : {B : Type 0} (kind : B → Kind) (kept : B → Kept) (call : Call) (engine : Option (EngineOf B)) (does : DoesWords kind kept call engine) (accepted : Accepted)
    → AsksFor call accepted → does.does.accepted ≡ accepted
done-as kind kept call engine does (Runs name inputs) asked = told-as kind kept call engine does (Runs name inputs) asked
done-as kind kept call engine does (Checks inputs) asked = told-as kind kept call engine does (Checks inputs) asked
done-as kind kept call engine does (Converts name conversion) asked = told-as kind kept call engine does (Converts name conversion) asked
done-as kind kept call engine does (Soaks n) asked = soaks-of n does.does.accepted
    (subst (λ (command : Command). IsOf command does.does.accepted) (spells-same call.words does.spells (SoakRun n) asked) does.does.is_of)

pub leaves-all : {B : Type 0} (kind : B → Kind) (kept : B → Kept) (call : Call) (engine : Option (EngineOf B)) → DoesWords kind kept call engine → (accepted : Accepted) → LeavesAll call accepted
leaves-all kind kept call engine does accepted asked =
    subst (λ (a : Accepted). WritesAll (output_of a) call.before call.after) (done-as kind kept call engine does accepted asked) does.does.writes

ran-as : {B : Type 0} (kind : B → Kind) (kept : B → Kept) (call : Call) (engine : Option (EngineOf B)) → DoesWords kind kept call engine → (accepted : Accepted) → AsksFor call accepted → HasRun kind kept engine accepted
ran-as kind kept call engine does accepted asked =
    subst (λ (a : Accepted). HasRun kind kept engine a) (done-as kind kept call engine does accepted asked) does.does.ran

-- an engine that ran is the one that is left
run-left : {B : Type 0} (kind : B → Kind) (kept : B → Kept) (engine old new : Option (EngineOf B)) (name : List ℕ) (inputs : Inputs) → LeavesEngine engine old new
    → HasRun kind kept engine (Runs name inputs) → IsSomeAnd new (λ left. RanInputs kind kept left inputs)
run-left kind kept None old new name inputs leaves run = absurd run
run-left kind kept (Some engine) old new name inputs leaves run = rw leaves run

soak-left : {B : Type 0} (kind : B → Kind) (kept : B → Kept) (engine old new : Option (EngineOf B)) (n : ℕ) → LeavesEngine engine old new
    → HasRun kind kept engine (Soaks n) → IsSomeAnd new (λ left. RanSoak kind kept left n)
soak-left kind kept None old new n leaves run = absurd run
soak-left kind kept (Some engine) old new n leaves run = rw leaves run

pub finishes-as : {B : Type 0} (kind : B → Kind) (kept : B → Kept) (ran : Lent (Option (EngineOf B))) (call : Call) (engine : Option (EngineOf B)) → DoesWords kind kept call engine
    → LeavesEngine engine ran.entry.now ran.exit.now → FinishesAs kind kept ran call
finishes-as kind kept ran call engine does leaves = record {
  does = record { engine = engine; does = does; leaves = leaves };
  run = λ name inputs asked. run-left kind kept engine ran.entry.now ran.exit.now name inputs leaves (ran-as kind kept call engine does (Runs name inputs) asked);
  soak = λ n asked. soak-left kind kept engine ran.entry.now ran.exit.now n leaves (ran-as kind kept call engine does (Soaks n) asked);
}
