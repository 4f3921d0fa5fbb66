-- As many frames are mixed as are handed over, and each comes through the plan as it was.
use Rattle.pcm_rows.proofs.Straight.{device_list-straight}
use Rattle.pcm_rows.proofs.mixes.a_straight_device_gets_the_mix.Goals as goal

pub returns-clause-list : goal.returns-clause-list
returns-clause-list c = device_list-straight
