use Rattle.std.proofs.Common.{◌*◌, ◌≤◌, sym, subst, arith}
use Rattle.pcm_sequence.proofs.Items.{items-count}
use Rattle.pcm_oss.specs.declared.fragments.TheConstants.{RING_BYTES}
use Rattle.pcm_record.specs.declared.channel.RecordChannelOf.{RecordChannelOf}
use Rattle.pcm_engine.specs.declared.limits.TheConstants.{LIFE}
use Rattle.pcm_engine.proofs.InOrder.{record-pace}
use Rattle.pcm_engine.proofs.engine.EngineOf.record_book.Goals as goal

pub returns-clause-captured : goal.returns-clause-captured
returns-clause-captured g c =
    let engine = c.args.self.now in
    let there = c.requires in
    let slots = engine.parent.recorders_count in
    let captured = (record-pace engine.order c.args.slot c.index.result.now
    (omega (arith, there, slots, items-count engine.parent.recorders))).captured in
    subst (λ (channel : RecordChannelOf _). channel.book.captured ≤ LIFE) (sym c.index.ensures) (omega (arith, captured, engine.order.life))

pub returns-clause-kept : goal.returns-clause-kept
returns-clause-kept g c =
    let engine = c.args.self.now in
    let there = c.requires in
    let slots = engine.parent.recorders_count in
    let kept = (record-pace engine.order c.args.slot c.index.result.now
    (omega (arith, there, slots, items-count engine.parent.recorders))).kept in
    subst (λ (channel : RecordChannelOf _). channel.book.kept ≤ RING_BYTES * LIFE) (sym c.index.ensures)
    (omega (arith, kept, engine.order.life))
