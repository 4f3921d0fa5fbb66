use Rattle.std.proofs.Common.{Ok, inl, ℤ, List, [], take, sym, subst, arith}
use Rattle.pcm_oss.specs.declared.event.Event.{Event}
use Rattle.pcm_oss.specs.declared.event.Event.TheVariants.{Intr}
use Rattle.pcm_oss.specs.declared.reply.Answer.TheVariants.{Number}
use Rattle.pcm_oss.specs.Replies.{Reply}
use Rattle.pcm_sequence.specs.Fixed.{fixed_items}
use Rattle.pcm_engine.specs.Applied.{Applied}
use Rattle.pcm_engine.specs.Engines.{samples_at_hand, samples_most}
use Rattle.pcm_engine.proofs.Applying.{applied-at, applied-read, order-after, samples-sized}
use Rattle.pcm_engine.proofs.InOrder.{can-be-asked, due, few-mixed}
use Rattle.pcm_engine.proofs.engine.EngineOf.apply.Goals as goal

-- ---- a read

pub answer_read-requires-clause-called : goal.answer_read-requires-clause-called
answer_read-requires-clause-called g c = record {
  filters = c.args.self.now.tables;
  place = c.here-here.result;
  asks = record { within = rw c.in-Read.is at c.requires.within; able = can-be-asked c.requires.step.ready c.here-here.ensures };
}

pub returns-in-Read-clause-applied : goal.returns-in-Read-clause-applied
returns-in-Read-clause-applied g c =
    let old = c.args.self.now in
    applied-read c.in-Read.fd c.in-Read.len {bytes = c.args.bytes.now} (samples_at_hand old) c.in-Read.is c.requires.step.ready.bus
    (c.answer_read.ensures.takes old.tables) (c.answer_read.ensures.bytes old.tables)

pub invariant_of-self : goal.invariant_of-self
invariant_of-self g c =
    let old = c.args.self.now in
    let applied = applied-read c.in-Read.fd c.in-Read.len {bytes = c.args.bytes.now} (samples_at_hand old) c.in-Read.is
    c.requires.step.ready.bus (c.answer_read.ensures.takes old.tables) (c.answer_read.ensures.bytes old.tables) in
    record {
      order = order-after c.requires.step.ready c.requires.within c.requires.step.life applied;
      captured_size = samples-sized old c.answer_read.new.parent applied.device;
      answered_size = old.answered_size;
    }

-- ---- an interrupt

pub returns-in-Intr-clause-applied : goal.returns-in-Intr-clause-applied
returns-in-Intr-clause-applied g c =
    let old = c.args.self.now in
    let n = c.in-Intr.frames in
    let Does : List ℤ → Reply → Type 0 = λ samples. Applied g.B.Feeder.kind g.B.Feeder.kept old.tables (Intr n) c.args.bytes.now
    (take (samples_most old (Intr n)) samples) old.parent old.descriptors c.interrupt.new.parent old.descriptors in
    applied-at (samples_at_hand old) c.in-Intr.is
    (subst (Does (fixed_items old.captured)) (sym c.keep.ensures)
    (subst (λ (samples : List ℤ). Does samples (record { result = Ok (Number n); bytes = [] })) c.deref.ensures.value
    (c.interrupt.ensures.applied old.descriptors c.args.bytes.now)))

pub invariant_of-self-in-Intr : goal.invariant_of-self-in-Intr
invariant_of-self-in-Intr g c =
    let old = c.args.self.now in
    let applied = applied-at (λ (event : Event). take (samples_most old (Intr c.in-Intr.frames)) c.deref.result.now) c.in-Intr.is
    (c.interrupt.ensures.applied old.descriptors c.args.bytes.now) in
    record {
      order = order-after c.requires.step.ready c.requires.within c.requires.step.life applied;
      captured_size = samples-sized old c.interrupt.new.parent applied.device;
      answered_size = old.answered_size;
    }

-- few frames were mixed and given to the device, so an interrupt finds room in every count
pub interrupt-requires-clause-due : goal.interrupt-requires-clause-due
interrupt-requires-clause-due g c = due c.requires.step.ready (rw c.in-Intr.is at c.requires.within)

pub interrupt-requires-clause-counts : goal.interrupt-requires-clause-counts
interrupt-requires-clause-counts g c = inl
    (let few = few-mixed g.B.Feeder.kept c.args.self.now c.requires.step.ready.bus in omega (arith, few))

-- ---- what is answered by the rules alone

pub call-requires-clause-able : goal.call-requires-clause-able
call-requires-clause-able g c = can-be-asked c.requires.step.ready c.here-here.ensures

pub returns-in_default-clause-applied : goal.returns-in_default-clause-applied
returns-in_default-clause-applied g c =
    let old = c.args.self.now in
    let event = c.args.event.now in
    subst (λ (told : Reply). Applied g.B.Feeder.kind g.B.Feeder.kept old.tables event c.args.bytes.now (samples_at_hand old event)
    old.parent old.descriptors c.call.new.parent c.call.new.descriptors told) (sym c.tell.ensures.kept)
    (c.call.ensures.applied (samples_at_hand old event))

pub invariant_of-self-in_default : goal.invariant_of-self-in_default
invariant_of-self-in_default g c =
    let old = c.args.self.now in
    let applied = c.call.ensures.applied (samples_at_hand old c.args.event.now) in
    record {
      order = order-after c.requires.step.ready c.requires.within c.requires.step.life applied;
      captured_size = samples-sized old c.call.new.parent applied.device;
      answered_size = old.answered_size;
    }
