use Rattle.std.proofs.Common.{◌≡◌, ◌≤◌, ℕ, List, [], Result, length, take, sym, subst, ap, ◌∙◌, arith, length-take}
use Rattle.std.proofs.lemmas.List.{take-append-le}
use Rattle.pcm_engine.specs.Types.{Answer, Errno}
use Rattle.pcm_oss.specs.Replies.{Reply, bytes_due}
use Rattle.pcm_desk.specs.Device.{DeviceSeen, seen}
use Rattle.pcm_oss.specs.declared.event.Event.TheVariants.{Read}
use Rattle.pcm_desk.specs.Desk.{Desk, held_by}
use Rattle.pcm_vchan.specs.Parents.{untouched}
use Rattle.pcm_engine.specs.Answered.{TakesBy}
use Rattle.pcm_engine.specs.Desks.{desk_with, turn_on}
use Rattle.pcm_engine.specs.Steps.{bytes_read}
use Rattle.pcm_engine.proofs.Answering.{own-served}
use Rattle.pcm_engine.proofs.clients.answer_read.Goals as goal

-- as many bytes as are asked for are there
there : (n : ℕ) (bytes : List ℕ) → length bytes ≡ 4096 → n ≤ 4096 → length (take n bytes) ≡ n
there n bytes room few = omega (arith, length-take n bytes, room)

pub read-answer-requires-clause-own : goal.read-answer-requires-clause-own
read-answer-requires-clause-own g c = own-served c.requires.called.asks.able.served

pub returns-clause-takes : goal.returns-clause-takes
returns-clause-takes g c = λ filters.
    let desk : Desk = desk_with c.args.parent.now c.args.descriptors.now in
    let device : DeviceSeen = seen filters c.args.parent.now.device in
    let asked = there c.args.len c.args.bytes.now c.requires.room c.requires.called.asks.within.1 in
    let took = c.read-answer.ensures.takes filters in
    let kept = ap (λ (r : Reply). r.result) c.keep.ensures in
    subst (λ (r : Result Answer Errno). TakesBy g.B.Feeder.kind g.B.Feeder.kept filters [] untouched (turn_on (Read c.args.fd c.args.len))
    c.args.parent.now c.args.descriptors.now c.read-answer.new.parent c.args.descriptors.now r) (sym kept)
    (subst (λ (n : ℕ). TakesBy g.B.Feeder.kind g.B.Feeder.kept filters [] untouched (turn_on (Read c.args.fd n)) c.args.parent.now
    c.args.descriptors.now c.read-answer.new.parent c.args.descriptors.now c.read-answer.result) asked took)

pub returns-clause-bytes : goal.returns-clause-bytes
returns-clause-bytes g c = λ filters bytes stand.
    let desk : Desk = desk_with c.args.parent.now c.args.descriptors.now in
    let device : DeviceSeen = seen filters c.args.parent.now.device in
    let within = c.read-answer.ensures.within in
    ap (λ (r : Reply). r.bytes) c.keep.ensures
    ∙ take-append-le (bytes_due c.read-answer.result) c.read-answer.new.out _ (omega (arith, within, c.read-answer.ensures.length))
    ∙ c.read-answer.ensures.bytes filters bytes stand
    ∙ ap (λ (n : ℕ). bytes_read device desk bytes n (held_by desk c.args.fd))
    (there c.args.len c.args.bytes.now c.requires.room c.requires.called.asks.within.1)
