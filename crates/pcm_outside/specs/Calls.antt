-- The calls of a form in memory, counted from 1, and which of them are to fail.
use Rattle.std.specs.Prelude.{ℕ, Bool, List, ◌∷◌, ◌==◌}
use Rattle.std.specs.List.{list_any}
use Rattle.pcm_outside.specs.Counts.{raised}

-- how many calls were made, and the numbers of those that are to fail
pub record Calls : Type 0 where
  pub made : ℕ
  pub listed : List ℕ

-- whether the call that comes next is to fail
abbrev pub is_next_listed : Calls → Bool
is_next_listed calls = list_any (λ number. number == raised calls.made) calls.listed

-- one more call was made
abbrev pub counted : Calls → Calls
counted calls = record calls { made = raised calls.made }

-- one more call is to fail
abbrev pub with_listed : Calls → ℕ → Calls
with_listed calls number = record calls { listed = number ∷ calls.listed }
