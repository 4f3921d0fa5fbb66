use Rattle.pcm_state.proofs.Known.{groups-known, held-known, map-known, mixer-known, opening-known, play-known, record-known}
use Rattle.pcm_state.proofs.laws.rows_tell_what_has_them.Goals as goal

pub returns-clause-openings : goal.returns-clause-openings
returns-clause-openings c = opening-known

pub returns-clause-play : goal.returns-clause-play
returns-clause-play c = play-known

pub returns-clause-recording : goal.returns-clause-recording
returns-clause-recording c = record-known

pub returns-clause-mapped : goal.returns-clause-mapped
returns-clause-mapped c = map-known

pub returns-clause-mixers : goal.returns-clause-mixers
returns-clause-mixers c = mixer-known

pub returns-clause-groups : goal.returns-clause-groups
returns-clause-groups c = groups-known

pub returns-clause-held : goal.returns-clause-held
returns-clause-held c = held-known
