use Rattle.std.proofs.Common.{All}
use Rattle.pcm_verdict.specs.Captures.{IsShaped}
use Rattle.pcm_inputs.specs.Outside.{outside}
use Rattle.pcm_inputs.proofs.Loading.{HasLoaded}
use Rattle.pcm_inputs.proofs.data_files.read_data_files.Given as goal

-- the files so far were read, and have the shape that they are to have
abbrev pub invariant-loop-at : goal.invariant-loop-at
invariant-loop-at g l = record {
  loaded : HasLoaded l.config l.at l.loaded.files.items
      (outside (g.F.Files.seen l.fn.files) (g.K.Sink.seen l.fn.out)) (outside (g.F.Files.seen l.files) (g.K.Sink.seen l.out));
  shaped : All (IsShaped l.config) l.loaded.files.items;
}
