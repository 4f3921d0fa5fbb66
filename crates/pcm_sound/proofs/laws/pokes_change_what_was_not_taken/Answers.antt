use Rattle.pcm_desk.specs.Desk.{map_at}
use Rattle.pcm_sound.specs.Story.{story_of}
use Rattle.pcm_sound.proofs.AreaLaws.{areas-sized, next-at-pointer, poke-takes-nothing, poke-writes}
use Rattle.pcm_sound.proofs.laws.pokes_change_what_was_not_taken.Goals as goal

pub returns-clause-written : goal.returns-clause-written
returns-clause-written c = poke-writes

pub returns-clause-taken : goal.returns-clause-taken
returns-clause-taken c = poke-takes-nothing

pub returns-clause-next : goal.returns-clause-next
returns-clause-next c = λ device pool events slot n first bytes blocks ptr rest taken told.
    let story = story_of device pool events in
    next-at-pointer device n (map_at device story.desk slot) (story.areas slot) rest first bytes blocks ptr
    (areas-sized device pool events slot) taken told
