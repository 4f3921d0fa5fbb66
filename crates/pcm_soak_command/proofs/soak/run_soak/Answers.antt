use Rattle.std.proofs.Common.{List, ℕ, subst, refl, ◌∙◌}
use Rattle.pcm_outside.specs.Sink.{FailsToPut, Puts}
use Rattle.pcm_soak_command.proofs.Soaking.{IsSoak, soak-runs, soak-told}
use Rattle.pcm_soak_command.proofs.soak.run_soak.Goals as goal

pub tell_soak-requires-clause-events : goal.tell_soak-requires-clause-events
tell_soak-requires-clause-events g c =
    soak-runs c.args.seed c.in-Ok.script c.new-3.result c.as_slice.result.now
    (record { made = c.in-Ok.ensures.made; none = c.new-3.ensures ∙ c.new-2.ensures.items; same = c.as_slice.ensures })

-- its line was put
pub returns-in-Ok-tell_soak-clause-ok : goal.returns-in-Ok-tell_soak-clause-ok
returns-in-Ok-tell_soak-clause-ok g c =
    let events = c.as_slice.result.now in
    let is : IsSoak c.args.seed c.in-Ok.script c.new-3.result events =
    record { made = c.in-Ok.ensures.made; none = c.new-3.ensures ∙ c.new-2.ensures.items; same = c.as_slice.ensures } in
    subst (λ (line : List ℕ). Puts (g.K.Sink.seen c.args.out.now) (g.K.Sink.seen c.tell_soak.new.out) line)
    (soak-told c.args.seed c.in-Ok.script c.new-3.result events events _ is c.as_slice.ensures refl) c.in-Ok-tell_soak.ensures.ok

-- its line was not put
pub returns-in-Err-clause-err : goal.returns-in-Err-clause-err
returns-in-Err-clause-err g c =
    let events = c.as_slice.result.now in
    let is : IsSoak c.args.seed c.in-Ok.script c.new-3.result events =
    record { made = c.in-Ok.ensures.made; none = c.new-3.ensures ∙ c.new-2.ensures.items; same = c.as_slice.ensures } in
    subst (λ (line : List ℕ). FailsToPut (g.K.Sink.seen c.args.out.now) (g.K.Sink.seen c.tell_soak.new.out) line)
    (soak-told c.args.seed c.in-Ok.script c.new-3.result events events _ is c.as_slice.ensures refl) c.in-Err.ensures.err
