use Rattle.pcm_feeder.proofs.Silence.{at_bits-silence}
use Rattle.pcm_feeder.proofs.Driven.{all_outputs-matrix, all_outputs-volume, all_outputs-depth}
use Rattle.pcm_feeder.proofs.laws.silence_stays_silence.Goals as goal

pub returns-clause-bits : goal.returns-clause-bits
returns-clause-bits c = at_bits-silence

pub returns-clause-layout_list : goal.returns-clause-layout_list
returns-clause-layout_list c from to tables gain list place = all_outputs-matrix from to tables gain list place

pub returns-clause-gain_list : goal.returns-clause-gain_list
returns-clause-gain_list c layout tables gain list place = all_outputs-volume layout tables gain list place

pub returns-clause-bits_list : goal.returns-clause-bits_list
returns-clause-bits_list c bits channels tables gain list place = all_outputs-depth bits channels tables gain list place
