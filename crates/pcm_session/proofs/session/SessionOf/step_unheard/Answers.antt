use Rattle.std.proofs.Common.{◌≡◌, ◌++◌, List, ℕ, drop, length, take, sym, ◌∙◌, subst, arith}
use Rattle.std.proofs.lemmas.List.{take-append-le, take_all}
use Rattle.pcm_sequence.specs.Fixed.{fixed_items, fixed_len}
use Rattle.pcm_session.specs.Steps.{IsCallStep}
use Rattle.pcm_session.proofs.Taken.{can-step}
use Rattle.pcm_session.proofs.session.SessionOf.step_unheard.Goals as goal

-- the bytes for the device have room where nobody hears them
pub step_with-count-requires : goal.step_with-count-requires
step_with-count-requires g c =
    let session = c.args.self.now in
    let room : c.unheard_room.result ≡ length
    c.deref_mut.result.now = omega (arith, c.unheard_room.ensures, session.room, c.deref_mut.ensures.len) in
    let can = can-step g.B.Feeder.kind g.B.Feeder.kept session.engine c.args.event.now c.args.bytes.now (length c.args.samples.now)
    c.deref_mut.result.now c.unheard_room.result (sym c.if-not-takes.ensures) room c.requires.ready in
    record { samples = can.0; can = can.1 }

-- and stands there
pub returns-clause-step : goal.returns-clause-step
returns-clause-step g c =
    let session = c.args.self.now in
    let step = c.step_with-count in
    let out = step.new.out in
    let long : length out ≡ fixed_len session.unheard = step.auto.out ∙ c.deref_mut.ensures.len in
    let there : take (fixed_len session.unheard) (out ++ drop (length out) (fixed_items session.unheard)) ≡ out =
    take-append-le (fixed_len session.unheard) out (drop (length out) (fixed_items session.unheard)) (omega (arith, long))
    ∙ take_all (fixed_len session.unheard) out (omega (arith, long)) in
    subst (λ (bytes : List ℕ). IsCallStep g.B.Feeder.kept c.args.event.now c.args.bytes.now c.args.samples.now session.engine step.new.self
    step.new.reply (take step.result bytes)) (sym there)
    (record { rules = step.ensures.stepped.rules; called = step.ensures.called })
