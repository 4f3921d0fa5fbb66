use Rattle.std.proofs.Common.{◌≡◌, ◌++◌, drop}
use Rattle.pcm_script.specs.Lines.{pool_of}
use Rattle.pcm_text.specs.Texts.{lines_for, text_of}
use Rattle.pcm_text.proofs.text.script_text.Given as goal

-- what is text_for, and the lines of the events that are left, are the whole text
abbrev pub invariant-loop-event : goal.invariant-loop-event
invariant-loop-event l = l.text.items ++ lines_for (pool_of l.files l.script) (drop l.event-index l.script.events) ≡ text_of l.files l.script
