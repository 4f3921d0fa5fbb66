use Rattle.std.proofs.Common.{◌≡◌, take}
use Rattle.pcm_feeder.specs.Racks.{HaveKinds, marks_of}
use Rattle.pcm_chain.specs.Boxes.{KeepAlike}
use Rattle.pcm_chain.proofs.stages.resume_stages.Given as goal

-- the boxes of the first stages keep what the others' do, and each is in its place
abbrev pub invariant-loop-spec : goal.invariant-loop-spec
invariant-loop-spec g l = record {
  kinds : HaveKinds g.B.Feeder.kind l.boxes;
  alike : KeepAlike g.B.Feeder.kept (take l.spec-index l.stages) l.boxes l.others;
  marks : marks_of g.B.Feeder.mark l.boxes ≡ marks_of g.B.Feeder.mark l.fn.boxes;
}
