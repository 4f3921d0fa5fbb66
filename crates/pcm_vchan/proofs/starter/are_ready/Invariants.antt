use Rattle.std.proofs.Common.{◌≡◌, drop}
use Rattle.pcm_group.specs.Groups.{all_in}
use Rattle.pcm_desk.specs.PlayBooks.{play_is_ready}
use Rattle.pcm_bus.specs.Slots.{play_books_of}
use Rattle.pcm_vchan.proofs.starter.are_ready.Given as goal

-- The members below the index are ready, so all are where the others are.
abbrev pub invariant-loop-slot : goal.invariant-loop-slot
invariant-loop-slot g l =
    all_in l.group play_is_ready (drop l.slot l.groups.play) (drop l.slot (play_books_of l.channels)) ≡ all_in l.group play_is_ready l.groups.play (play_books_of l.channels)
