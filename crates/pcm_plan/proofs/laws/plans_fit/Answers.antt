use Rattle.pcm_plan.proofs.Fits.{play-fits, play-tables, record-fits, record-tables, record-volume, ratio-in}
use Rattle.pcm_plan.proofs.laws.plans_fit.Goals as goal

pub returns-clause-fits : goal.returns-clause-fits
returns-clause-fits c = play-fits

pub returns-clause-tables : goal.returns-clause-tables
returns-clause-tables c = play-tables

pub returns-clause-record_fits : goal.returns-clause-record_fits
returns-clause-record_fits c = record-fits

pub returns-clause-record_tables : goal.returns-clause-record_tables
returns-clause-record_tables c = record-tables

pub returns-clause-record_volume : goal.returns-clause-record_volume
returns-clause-record_volume c = record-volume

pub returns-clause-ratio : goal.returns-clause-ratio
returns-clause-ratio c = ratio-in
