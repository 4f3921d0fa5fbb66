-- A call's clauses, by how it ended.
use Rattle.std.proofs.Common.{refl}
use Rattle.pcm_inputs.specs.declared.ending.Ending.TheVariants.{CannotRead, BadConfig, BadScript, BadWave, NoMemory}
use Rattle.pcm_verdict.specs.Verdict.{Checks, Converts, Runs, Soaks}
use Rattle.pcm_replay.proofs.Accepted.{finishes-as, leaves-all}
use Rattle.pcm_replay.proofs.Judged.{cut-left, judged-done, judged-ended}
use Rattle.pcm_replay.proofs.Plain.{alike-run, plain-run}
use Rattle.pcm_replay.proofs.Statuses.{ended-as}
use Rattle.pcm_replay.proofs.top.dsp_main.Goals as goal

-- ---- what was asked for is there, and no engine is left

pub returns-in-Ok-None-clause-judged : goal.returns-in-Ok-None-clause-judged
returns-in-Ok-None-clause-judged g c = judged-done _ _ _ _ c.in-Ok-None.ensures.ok

pub returns-in-Ok-None-clause-headline : goal.returns-in-Ok-None-clause-headline
returns-in-Ok-None-clause-headline g c = λ is name inputs. leaves-all _ _ _ _ c.in-Ok-None.ensures.ok (Runs name inputs)

pub returns-in-Ok-None-clause-plain : goal.returns-in-Ok-None-clause-plain
returns-in-Ok-None-clause-plain g c = λ is. plain-run _ (λ name inputs. leaves-all _ _ _ _ c.in-Ok-None.ensures.ok (Runs name inputs))

pub returns-in-Ok-None-clause-alike : goal.returns-in-Ok-None-clause-alike
returns-in-Ok-None-clause-alike g c = λ is. alike-run _ (λ name inputs. leaves-all _ _ _ _ c.in-Ok-None.ensures.ok (Runs name inputs))

pub returns-in-Ok-None-clause-checked : goal.returns-in-Ok-None-clause-checked
returns-in-Ok-None-clause-checked g c = λ is inputs. leaves-all _ _ _ _ c.in-Ok-None.ensures.ok (Checks inputs)

pub returns-in-Ok-None-clause-soaked : goal.returns-in-Ok-None-clause-soaked
returns-in-Ok-None-clause-soaked g c = λ is n. leaves-all _ _ _ _ c.in-Ok-None.ensures.ok (Soaks n)

pub returns-in-Ok-None-clause-converted : goal.returns-in-Ok-None-clause-converted
returns-in-Ok-None-clause-converted g c = λ is name conversion. leaves-all _ _ _ _ c.in-Ok-None.ensures.ok (Converts name conversion)

pub returns-in-Ok-None-clause-finished : goal.returns-in-Ok-None-clause-finished
returns-in-Ok-None-clause-finished g c = λ is. finishes-as _ _ _ _ c.in-Ok-None.field-0 c.in-Ok-None.ensures.ok
    (rw c.in-Ok-None.field-0-is refl)

-- ---- what was asked for is there, and its engine is left

pub returns-in-Ok-Some-clause-judged : goal.returns-in-Ok-Some-clause-judged
returns-in-Ok-Some-clause-judged g c = judged-done _ _ _ _ c.in-Ok-Some.ensures.ok

pub returns-in-Ok-Some-clause-headline : goal.returns-in-Ok-Some-clause-headline
returns-in-Ok-Some-clause-headline g c = λ is name inputs. leaves-all _ _ _ _ c.in-Ok-Some.ensures.ok (Runs name inputs)

pub returns-in-Ok-Some-clause-plain : goal.returns-in-Ok-Some-clause-plain
returns-in-Ok-Some-clause-plain g c = λ is. plain-run _ (λ name inputs. leaves-all _ _ _ _ c.in-Ok-Some.ensures.ok (Runs name inputs))

pub returns-in-Ok-Some-clause-alike : goal.returns-in-Ok-Some-clause-alike
returns-in-Ok-Some-clause-alike g c = λ is. alike-run _ (λ name inputs. leaves-all _ _ _ _ c.in-Ok-Some.ensures.ok (Runs name inputs))

pub returns-in-Ok-Some-clause-checked : goal.returns-in-Ok-Some-clause-checked
returns-in-Ok-Some-clause-checked g c = λ is inputs. leaves-all _ _ _ _ c.in-Ok-Some.ensures.ok (Checks inputs)

pub returns-in-Ok-Some-clause-soaked : goal.returns-in-Ok-Some-clause-soaked
returns-in-Ok-Some-clause-soaked g c = λ is n. leaves-all _ _ _ _ c.in-Ok-Some.ensures.ok (Soaks n)

pub returns-in-Ok-Some-clause-converted : goal.returns-in-Ok-Some-clause-converted
returns-in-Ok-Some-clause-converted g c = λ is name conversion. leaves-all _ _ _ _ c.in-Ok-Some.ensures.ok (Converts name conversion)

pub returns-in-Ok-Some-clause-finished : goal.returns-in-Ok-Some-clause-finished
returns-in-Ok-Some-clause-finished g c = λ is. finishes-as _ _ _ _ c.in-Ok-Some.field-0 c.in-Ok-Some.ensures.ok
    (rw c.in-Ok-Some.field-0-is refl)

-- ---- what ended early

pub returns-in-Err-clause-judged : goal.returns-in-Err-clause-judged
returns-in-Err-clause-judged g c = judged-ended _ c.in-Err.ending c.status.result c.status.ensures c.in-Err.ensures.err

pub returns-in-Err-clause-read_cause : goal.returns-in-Err-clause-read_cause
returns-in-Err-clause-read_cause g c = λ named. ended-as _ c.in-Err.ending CannotRead c.status.result c.status.ensures named
    c.in-Err.ensures.err

pub returns-in-Err-clause-bad_config : goal.returns-in-Err-clause-bad_config
returns-in-Err-clause-bad_config g c = λ named. ended-as _ c.in-Err.ending BadConfig c.status.result c.status.ensures named
    c.in-Err.ensures.err

pub returns-in-Err-clause-bad_script : goal.returns-in-Err-clause-bad_script
returns-in-Err-clause-bad_script g c = λ named. ended-as _ c.in-Err.ending BadScript c.status.result c.status.ensures named
    c.in-Err.ensures.err

pub returns-in-Err-clause-bad_wave : goal.returns-in-Err-clause-bad_wave
returns-in-Err-clause-bad_wave g c = λ named. ended-as _ c.in-Err.ending BadWave c.status.result c.status.ensures named c.in-Err.ensures.err

pub returns-in-Err-clause-cut : goal.returns-in-Err-clause-cut
returns-in-Err-clause-cut g c = cut-left _ c.in-Err.ending c.status.result c.status.ensures c.in-Err.ensures.err

pub returns-in-Err-clause-memory : goal.returns-in-Err-clause-memory
returns-in-Err-clause-memory g c = λ named. ended-as _ c.in-Err.ending NoMemory c.status.result c.status.ensures named c.in-Err.ensures.err
