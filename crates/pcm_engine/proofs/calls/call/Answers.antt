use Rattle.std.proofs.Common.{ℕ, [], subst}
use Rattle.pcm_oss.specs.declared.event.Event.{Event}
use Rattle.pcm_oss.specs.declared.event.Event.TheVariants.{Write, Poke}
use Rattle.pcm_wave.specs.declared.pool.Source.TheVariants.{Inline}
use Rattle.pcm_vchan.specs.Parents.{untouched}
use Rattle.pcm_engine.specs.Answered.{AnswersWith}
use Rattle.pcm_engine.specs.Desks.{desk_with, turn_on}
use Rattle.pcm_engine.specs.Steps.{poked_by}
use Rattle.pcm_engine.proofs.Answering.{own-served}
use Rattle.pcm_engine.proofs.Applying.{applied-answer, applied-at, applied-mixer}
use Rattle.pcm_engine.proofs.calls.call.Goals as goal

pub returns-in-Open-clause-applied : goal.returns-in-Open-clause-applied
returns-in-Open-clause-applied g c = λ samples. applied-at (λ (event : Event). samples) c.in-Open.is
    (applied-answer _ tt c.requires.able.bus c.open.ensures)

pub returns-in-Write-clause-applied : goal.returns-in-Write-clause-applied
returns-in-Write-clause-applied g c = λ samples.
    let long = rw c.in-Write.is at c.requires.bytes in
    let wrote = c.write.ensures c.args.tables.now (record { within = rw c.in-Write.is at c.requires.within; able = c.requires.able }) in
    applied-at (λ (event : Event). samples) c.in-Write.is (applied-answer _ tt c.requires.able.bus
    (subst (λ (n : ℕ). AnswersWith g.B.Feeder.kind g.B.Feeder.kept c.args.tables.now c.args.bytes.now untouched
    (turn_on (Write c.in-Write.fd Inline 0 n)) c.args.parent.now c.args.descriptors.now c.write.new.parent c.args.descriptors.now
    c.write.result) long wrote))

pub returns-in-Poke-clause-applied : goal.returns-in-Poke-clause-applied
returns-in-Poke-clause-applied g c = λ samples.
    let long = rw c.in-Poke.is at c.requires.bytes in
    let writes = poked_by c.in-Poke.fd c.in-Poke.offset c.args.bytes.now (desk_with c.args.parent.now c.args.descriptors.now) in
    applied-at (λ (event : Event). samples) c.in-Poke.is (applied-answer _ tt c.requires.able.bus
    (subst (λ (n : ℕ). AnswersWith g.B.Feeder.kind g.B.Feeder.kept c.args.tables.now [] writes
    (turn_on (Poke c.in-Poke.fd c.in-Poke.offset 0 n)) c.args.parent.now c.args.descriptors.now c.poke.new.parent c.args.descriptors.now
    c.poke.result) long (c.poke.ensures c.args.tables.now)))

pub returns-in-Poke-clause-silent : goal.returns-in-Poke-clause-silent
returns-in-Poke-clause-silent g c = (c.poke.ensures c.args.tables.now).silent

pub returns-in-Ioctl-clause-applied : goal.returns-in-Ioctl-clause-applied
returns-in-Ioctl-clause-applied g c = λ samples. applied-at (λ (event : Event). samples) c.in-Ioctl.is
    (applied-answer _ tt c.requires.able.bus c.ioctl.ensures)

pub returns-in-Join-clause-applied : goal.returns-in-Join-clause-applied
returns-in-Join-clause-applied g c = λ samples. applied-at (λ (event : Event). samples) c.in-Join.is
    (applied-answer _ tt c.requires.able.bus c.join.ensures)

pub returns-in-StartGroup-clause-applied : goal.returns-in-StartGroup-clause-applied
returns-in-StartGroup-clause-applied g c = λ samples. applied-at (λ (event : Event). samples) c.in-StartGroup.is
    (applied-answer _ tt c.requires.able.bus c.start_group.ensures)

pub returns-in-Close-clause-applied : goal.returns-in-Close-clause-applied
returns-in-Close-clause-applied g c = λ samples.
    applied-at (λ (event : Event). samples) c.in-Close.is
    (applied-answer _ tt c.requires.able.bus
    (c.close.ensures c.args.tables.now (record { within = rw c.in-Close.is at c.requires.within; able = c.requires.able })))

pub returns-in-Mixer-clause-applied : goal.returns-in-Mixer-clause-applied
returns-in-Mixer-clause-applied g c = λ samples.
    let asked = c.ask_mixer.ensures in
    applied-at (λ (event : Event). samples) c.in-Mixer.is
    (applied-mixer c.in-Mixer.request (own-served c.requires.able.served) c.requires.able.bus asked.refused asked.parent asked.reply)
