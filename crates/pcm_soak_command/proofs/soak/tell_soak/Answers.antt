use Rattle.std.proofs.Common.{◌≡◌, List, ℕ, OnErr, OnOk, length, take, subst, ◌∙◌, ap}
use Rattle.pcm_outside.specs.Sink.{FailsToPut, Puts}
use Rattle.pcm_oss.specs.declared.event.Event.{Event}
use Rattle.pcm_wave.specs.declared.pool.Pool.{Pool}
use Rattle.pcm_desk.specs.Usual.{usual_device}
use Rattle.pcm_soak.specs.declared.tally.Tally.{Tally}
use Rattle.pcm_verdict.specs.Soaks.{tally_line, tally_of}
use Rattle.pcm_soak_command.specs.Soaking.{line_of}
use Rattle.pcm_soak_command.proofs.Running.{front}
use Rattle.pcm_soak_command.proofs.soak.tell_soak.Goals as goal

-- what was written of the sums is the line of the events
told : (events : List Event) (pool : Pool) (tally : Tally) (frames wide : ℕ) (bytes written : List ℕ) → bytes ≡ written
    → written ≡ tally_line (length events) wide tally → wide ≡ frames → tally ≡ tally_of usual_device pool events
    → bytes ≡ line_of frames pool events
told events pool tally frames wide bytes written same line width sums =
    same ∙ line ∙ ap (λ (n : ℕ). tally_line (length events) n tally) width ∙ ap (λ (t : Tally). tally_line (length events) frames t) sums

-- its line was put
pub returns-clause-ok : goal.returns-clause-ok
returns-clause-ok g c =
    let size = c.write_tally-size.result in
    subst (λ (bytes : List ℕ). OnOk c.put.result (Puts (g.K.Sink.seen c.args.out.now) (g.K.Sink.seen c.put.new.self) bytes))
    (told c.args.events.now c.args.pool.now c.soak_through.new.soak.tally c.args.frames c.from.result (take size c.deref.result.now)
    (take size c.write_tally-size.new.out)
    (ap (λ (bytes : List ℕ). take size bytes)
    (c.deref.ensures.value ∙ front _ c.write_tally-size.new.out _ (c.write_tally-size.auto.out ∙ c.deref_mut.ensures.len)))
    c.write_tally-size.ensures.line c.from.ensures c.soak_through.ensures.tally) c.put.ensures.ok

-- its line was not put
pub returns-clause-err : goal.returns-clause-err
returns-clause-err g c =
    let size = c.write_tally-size.result in
    subst (λ (bytes : List ℕ). OnErr c.put.result (FailsToPut (g.K.Sink.seen c.args.out.now) (g.K.Sink.seen c.put.new.self) bytes))
    (told c.args.events.now c.args.pool.now c.soak_through.new.soak.tally c.args.frames c.from.result (take size c.deref.result.now)
    (take size c.write_tally-size.new.out)
    (ap (λ (bytes : List ℕ). take size bytes)
    (c.deref.ensures.value ∙ front _ c.write_tally-size.new.out _ (c.write_tally-size.auto.out ∙ c.deref_mut.ensures.len)))
    c.write_tally-size.ensures.line c.from.ensures c.soak_through.ensures.tally) c.put.ensures.err
