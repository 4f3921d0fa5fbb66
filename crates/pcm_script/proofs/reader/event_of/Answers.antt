use Rattle.std.proofs.Common.{ap, ◌∙◌}
use Rattle.pcm_desk.specs.Device.{unfiltered}
use Rattle.pcm_script.specs.Commands.{line_event}
use Rattle.pcm_script.specs.Words.{lent, words_of}
use Rattle.pcm_script.proofs.FirstWords.{line_event-first}
use Rattle.pcm_script.proofs.reader.event_of.Goals as goal

pub returns : goal.returns
returns c =
    let asked = line_event (unfiltered c.args.device.now) c.args.files.now.all.now in
    let same = ap (λ w. asked (lent w)) c.as_slice.ensures.value ∙ ap asked c.first_words-words.ensures
    ∙ line_event-first (unfiltered c.args.device.now) c.args.files.now.all.now (words_of c.args.text.now) in
    rw (← same) c.line_event.ensures
