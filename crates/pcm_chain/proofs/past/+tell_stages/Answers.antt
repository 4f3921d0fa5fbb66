use Rattle.std.proofs.Common.{rules, ◌<◌, length, arith}
use Rattle.pcm_chain.proofs.Feeding.{stages-cut}
use Rattle.pcm_chain.proofs.Telling.{tells-all, tells-head}
use Rattle.pcm_chain.proofs.past.+tell_stages.Goals as goal

pub resume_stage-requires-clause-can : goal.resume_stage-requires-clause-can
resume_stage-requires-clause-can g t c =
    let stages = c.args.stages.now in
    let some : 0 < length stages = search rules in
    let cut = stages-cut stages _ (λ none. absurd (omega (arith, none, some))) in
    rw (c.progress_in-at.ensures, c.history.ensures, c.channels_in.ensures)
    (tells-head g.B.Feeder.kind stages _ _ c.args.progress c.args.past.now c.args.boxes.now cut c.requires).can

pub tell_stages-requires : goal.tell_stages-requires
tell_stages-requires g t c κs within =
    let stages = c.args.stages.now in
    let some : 0 < length stages = search rules in
    let cut = stages-cut stages _ (λ none. absurd (omega (arith, none, some))) in
    let tells = tells-head g.B.Feeder.kind stages _ _ c.args.progress c.args.past.now c.args.boxes.now cut c.requires in
    (search rules, (within, rw (c.history.ensures, c.channels_in.ensures) (tells.others c.resume_stage.new.boxes c.resume_stage.ensures.kinds)))

pub returns : goal.returns
returns g t c =
    let stages = c.args.stages.now in
    let some : 0 < length stages = search rules in
    let cut = stages-cut stages _ (λ none. absurd (omega (arith, none, some))) in
    tells-all g.B.Feeder.kind g.B.Feeder.kept g.B.Feeder.mark stages _ _ c.args.progress c.args.past.now c.args.boxes.now c.resume_stage.new.boxes c.tell_stages.new.boxes
    cut c.requires (rw (c.progress_in-at.ensures, c.history.ensures, c.channels_in.ensures) at c.resume_stage.ensures)
    (rw (c.history.ensures, c.channels_in.ensures) at c.tell_stages.ensures)
