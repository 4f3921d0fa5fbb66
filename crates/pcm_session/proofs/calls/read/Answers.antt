use Rattle.std.proofs.Common.{ℕ, ◌≤◌, List, [], length, Option, refl, sym, subst}
use Rattle.std.specs.Prelude.{IsOk}
use Rattle.pcm_oss.specs.declared.event.Event.{Event}
use Rattle.pcm_session.specs.Calls.{IsStepOf}
use Rattle.pcm_session.proofs.Reading.{read-within}
use Rattle.pcm_session.proofs.calls.read.Goals as goal

pub put_front-requires : goal.put_front-requires
put_front-requires g c =
    let old = c.args.session.now.engine in
    let new = c.takes.new.session in
    subst (λ (bytes : List ℕ). length bytes ≤ length c.args.out.now) (sym c.bytes.ensures)
    (read-within g.B.Feeder.kept c.args.fd (length c.args.out.now) old new.engine new.reply
    (subst (λ (event : Option Event). IsStepOf g.B.Feeder.kept event [] [] old new.engine new.reply []) c.event_for_read.ensures
    (c.takes.ensures.step (subst IsOk (sym c.in-Ok.is) refl))))
