use Rattle.std.proofs.Common.{refl}
use Rattle.pcm_soak.specs.Draws.{next_state, state_number}
use Rattle.pcm_soak.specs.Events.{drawn_event}
use Rattle.pcm_soak.specs.Soak.{drawn_events, inline_bytes}
use Rattle.pcm_soak.proofs.laws.some_numbers_draw_so.Goals as goal

pub returns-clause-seven : goal.returns-clause-seven
unfolding drawn_events drawn_event next_state state_number
returns-clause-seven c = refl

pub returns-clause-read : goal.returns-clause-read
unfolding drawn_event next_state state_number
returns-clause-read c = refl

pub returns-clause-question : goal.returns-clause-question
unfolding drawn_event next_state state_number
returns-clause-question c = refl

pub returns-clause-delay : goal.returns-clause-delay
unfolding drawn_event next_state state_number
returns-clause-delay c = refl

pub returns-clause-order : goal.returns-clause-order
unfolding drawn_event next_state state_number
returns-clause-order c = refl

pub returns-clause-speed : goal.returns-clause-speed
unfolding drawn_event next_state state_number
returns-clause-speed c = refl

pub returns-clause-bytes : goal.returns-clause-bytes
unfolding inline_bytes
returns-clause-bytes c = refl
