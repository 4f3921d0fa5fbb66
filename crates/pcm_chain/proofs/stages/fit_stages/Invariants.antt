use Rattle.std.proofs.Common.{◌≡◌, take, All}
use Rattle.pcm_feeder.specs.Kept.{fresh}
use Rattle.pcm_feeder.specs.Racks.{HaveKinds, marks_of}
use Rattle.pcm_chain.specs.Boxes.{kept_in}
use Rattle.pcm_chain.proofs.stages.fit_stages.Given as goal

-- the boxes of the first stages are fitted, and each is in its place
abbrev pub invariant-loop-spec : goal.invariant-loop-spec
invariant-loop-spec g l = record {
  kinds : HaveKinds g.B.Feeder.kind l.boxes;
  fresh : All (λ spec. kept_in g.B.Feeder.kept l.boxes spec ≡ fresh spec) (take l.spec-index l.stages);
  marks : marks_of g.B.Feeder.mark l.boxes ≡ marks_of g.B.Feeder.mark l.fn.boxes;
}
