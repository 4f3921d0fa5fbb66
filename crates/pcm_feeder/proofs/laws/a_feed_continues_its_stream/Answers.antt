use Rattle.pcm_feeder.proofs.Turns.{turn-continues}
use Rattle.pcm_feeder.proofs.Past.{StandsFor-any}
use Rattle.pcm_feeder.proofs.Fitted.{StandsFor-fitted, fresh-stands, turn-fits}
use Rattle.pcm_feeder.proofs.laws.a_feed_continues_its_stream.Goals as goal

pub returns-clause-continues : goal.returns-clause-continues
returns-clause-continues c spec is kept tables gain x input given want h have = turn-continues spec kept tables gain x input given want is h
    have

pub returns-clause-begins : goal.returns-clause-begins
returns-clause-begins c = fresh-stands

pub returns-clause-any_tables : goal.returns-clause-any_tables
returns-clause-any_tables c = StandsFor-any

pub returns-clause-bounded : goal.returns-clause-bounded
returns-clause-bounded c spec is tables kept x given = StandsFor-fitted spec tables kept x given is

pub returns-clause-stays : goal.returns-clause-stays
returns-clause-stays c spec is kept tables gain input want = turn-fits spec kept tables gain input want is
