use Rattle.std.proofs.Common.{◌≡◌, take, sym, ◌∙◌}
use Rattle.std.proofs.lemmas.List.{take_all}
use Rattle.std.proofs.lemmas.List.Elements.{All-same}
use Rattle.pcm_feeder.specs.declared.stage.Spec.{Spec}
use Rattle.pcm_chain.specs.Boxes.{kept_in}
use Rattle.pcm_chain.proofs.Fitting.{kept-more}
use Rattle.pcm_chain.proofs.Resuming.{resumes-at}
use Rattle.pcm_chain.proofs.stages.resume_stages.Goals as goal

pub resume_stage-requires-clause-can : goal.resume_stage-requires-clause-can
resume_stage-requires-clause-can g c =
    (resumes-at g.B.Feeder.kept c.args.others.now c.args.stages.now c.loop-spec.spec-index _ c.keep_stage-progress.result
    c.keep_stage-progress.new.samples c.requires.can.limits c.requires.can.fitted c.loop-spec-test.true c.keep_stage-progress.ensures).0

pub loop-spec-preserved : goal.loop-spec-preserved
loop-spec-preserved g c =
    let kept = g.B.Feeder.kept in
    let others = c.args.others.now in
    let stages = c.args.stages.now in
    let i = c.loop-spec.spec-index in
    let samples = c.keep_stage-progress.new.samples in
    let same = (resumes-at kept others stages i _ c.keep_stage-progress.result samples c.requires.can.limits c.requires.can.fitted
    c.loop-spec-test.true c.keep_stage-progress.ensures).1 in
    record {
      kinds = c.resume_stage.ensures.kinds;
      alike = kept-more kept c.loop-spec.boxes c.resume_stage.new.boxes (kept_in kept others) stages i _ c.requires.can.distinct
          c.loop-spec-test.true c.loop-spec.invariant.alike (c.resume_stage.ensures.told ∙ same) c.resume_stage.ensures.others;
      marks = c.resume_stage.ensures.marks ∙ c.loop-spec.invariant.marks;
    }

pub returns : goal.returns
returns g c =
    let stages = c.args.stages.now in
    let P : Spec → Type 0 = λ spec. kept_in g.B.Feeder.kept c.loop-spec.boxes spec ≡ kept_in g.B.Feeder.kept c.args.others.now spec in
    record {
      kinds = c.loop-spec.invariant.kinds;
      alike = All-same P stages (take c.loop-spec.spec-index stages) (sym (take_all c.loop-spec.spec-index stages c.loop-spec-test.false))
          c.loop-spec.invariant.alike;
      marks = c.loop-spec.invariant.marks;
    }
