-- What is printed of a run: one reply line per event.
use Rattle.std.specs.Prelude.{ℕ, ◌+◌, List, [], ◌∷◌, ◌++◌}
use Rattle.pcm_oss.specs.declared.event.Event.{Event}
use Rattle.pcm_wave.specs.declared.pool.Pool.{Pool}
use Rattle.pcm_oss.specs.Replies.{Reply}
use Rattle.pcm_report.specs.Lines.{reply_line}
use Rattle.pcm_desk.specs.Device.{DeviceSeen}
use Rattle.pcm_sound.specs.StoryReplies.{replies}
use Rattle.pcm_sound.specs.Story.{story_at_start}

-- the lines of replies, numbered from a number on
abbrev pub lines_from : ℕ → List Reply → List ℕ
lines_from number [] = []
lines_from number (reply ∷ replies) = reply_line number reply ++ lines_from (number + 1) replies

-- all that a run prints
abbrev pub transcript : DeviceSeen → Pool → List Event → List ℕ
transcript device pool events = lines_from 1 (replies device pool (story_at_start device) events)
