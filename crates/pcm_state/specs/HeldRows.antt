-- What each descriptor holds, as a row of numbers.
use Rattle.std.specs.Prelude.{ℕ, ◌+◌, ◌*◌, ◌<◌, Option, None, Some, IfSome, List, map}
use Rattle.pcm_desk.specs.declared.device.Held.{Held}
use Rattle.pcm_oss.specs.declared.event.Way.{Way}
use Rattle.pcm_oss.specs.declared.event.Way.TheVariants.{Play, Record, Map}
use Rattle.pcm_oss.specs.declared.event.TheConstants.{SLOTS}

-- a way as a number
abbrev pub way_code : Way → ℕ
way_code Play = 0
way_code Record = 1
way_code Map = 2

-- 0 for one that is shut, else the numbers of the ways of slot 0, then those of slot 1, and so on
abbrev pub held_number : Option Held → ℕ
held_number None = 0
held_number (Some held) = 1 + (3 * held.slot + way_code held.way)

-- the row of all
abbrev pub held_row : List (Option Held) → List ℕ
held_row = map held_number

-- the slot, where there is one, is one of those that may be
abbrev pub FitsHeld : Option Held → Type 0
FitsHeld held = IfSome held (λ it. it.slot < SLOTS)
