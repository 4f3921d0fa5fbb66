use Rattle.std.proofs.Common.{◌≡◌, take, sym, ◌∙◌}
use Rattle.std.proofs.lemmas.List.{take_all}
use Rattle.std.proofs.lemmas.List.Elements.{All-same}
use Rattle.pcm_feeder.specs.declared.stage.Spec.{Spec}
use Rattle.pcm_feeder.specs.Kept.{fresh}
use Rattle.pcm_chain.specs.Boxes.{kept_in}
use Rattle.pcm_chain.proofs.Fitting.{kept-more}
use Rattle.pcm_chain.proofs.stages.fit_stages.Goals as goal

pub loop-spec-preserved : goal.loop-spec-preserved
loop-spec-preserved g c = record {
  kinds = c.fit_stage.ensures.kinds;
  fresh = kept-more g.B.Feeder.kept c.loop-spec.boxes c.fit_stage.new.boxes fresh c.args.stages.now c.loop-spec.spec-index _ c.requires.distinct
      c.loop-spec-test.true c.loop-spec.invariant.fresh c.fit_stage.ensures.fresh c.fit_stage.ensures.others;
  marks = c.fit_stage.ensures.marks ∙ c.loop-spec.invariant.marks;
}

pub returns-clause-fresh : goal.returns-clause-fresh
returns-clause-fresh g c =
    let stages = c.args.stages.now in
    let P : Spec → Type 0 = λ spec. kept_in g.B.Feeder.kept c.loop-spec.boxes spec ≡ fresh spec in
    All-same P stages (take c.loop-spec.spec-index stages) (sym (take_all c.loop-spec.spec-index stages c.loop-spec-test.false))
    c.loop-spec.invariant.fresh
