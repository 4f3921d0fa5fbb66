use Rattle.pcm_feeder.proofs.Unrated.{maps-matrix, maps-volume, maps-depth}
use Rattle.pcm_feeder.proofs.laws.stages_without_a_rate_map_frames.Goals as goal

pub returns-clause-matrix : goal.returns-clause-matrix
returns-clause-matrix c = maps-matrix

pub returns-clause-volume : goal.returns-clause-volume
returns-clause-volume c = maps-volume

pub returns-clause-depth : goal.returns-clause-depth
returns-clause-depth c = maps-depth
