-- A frame lies among those kept, or after them.
use Rattle.pcm_feeder.proofs.Writing.{frame-kept, frame-behind}
use Rattle.pcm_feeder.proofs.history.frame_among.Goals as goal

pub returns-then-at-kept-clause-value : goal.returns-then-at-kept-clause-value
returns-then-at-kept-clause-value c =
    frame-kept c.args.channels c.args.kept.now c.args.input.now c.args.place c.requires.some c.requires.whole_frames c.requires.there
    c.if-at-kept.true

pub returns-clause-value : goal.returns-clause-value
returns-clause-value c =
    frame-behind c.args.channels c.args.kept.now c.args.input.now c.args.place c.requires.some c.requires.whole_frames c.requires.there
    c.if-at-kept.false
