-- Arrays of tables at the top of a configuration: which keys their tables have, and what is read of them.
use Rattle.std.specs.Prelude.{ℕ, ◌≤◌, Bool, nat_lt, if◌then◌else◌, List, [], ◌∷◌, length, map, All, Option, Some, None, is_some, Result, Ok}
use Rattle.std.specs.List.{list_all, list_any}
use Rattle.std.specs.Borrow.{Bor}
use Rattle.std.specs.Str.{bytes_eq}
use Rattle.toml.specs.Data.{Members, get_member, as_table}
use Rattle.pcm_config.specs.declared.fault.ConfigKind.TheVariants.{Count}
use Rattle.pcm_config.specs.declared.fault.ConfigRefusal.{ConfigRefusal}
use Rattle.pcm_config.specs.declared.place.ConfigPlace.{ConfigPlace}
use Rattle.pcm_config.specs.Judgements.{◌>>=◌, fault_at}
use Rattle.pcm_config.specs.Lookups.{entries_of, value_at, as_array_of}

-- an array of tables, or the one without any
abbrev pub or_none : Option (List Members) → List Members
or_none None = []
or_none (Some tables) = tables

-- the tables of the array at a place of the top
abbrev pub tables_at : ConfigPlace → Members → Result (List Members) ConfigRefusal
tables_at place top = do
  found ← value_at (as_array_of as_table) place top
  Ok (or_none found)

-- ---- keys

-- keys as the code holds them
abbrev pub keys_seen : List (Bor (List ℕ)) → List (List ℕ)
keys_seen keys = map (λ key. key.now) keys

-- whether a key is one of these
abbrev pub is_one_of : List (List ℕ) → List ℕ → Bool
is_one_of keys key = list_any (λ known. bytes_eq known key) keys

-- whether a table has no key but these
abbrev pub has_no_other : List (List ℕ) → Members → Bool
has_no_other keys table = list_all (λ entry. is_one_of keys entry.0) (entries_of table)

-- whether a table has each of these keys
abbrev pub has_each : List (List ℕ) → Members → Bool
has_each keys table = list_all (λ key. is_some (get_member key table)) keys

-- ---- what is read

-- tables, of which there are at most `most` at a place
abbrev pub few : ℕ → ConfigPlace → List Members → Result (List Members) ConfigRefusal
few most place tables = if nat_lt most (length tables) then fault_at Count place else Ok tables

-- what is read of tables, of each wholly before the next
abbrev pub each_read : {A : Type 0} → (Members → Result A ConfigRefusal) → List Members → Result (List A) ConfigRefusal
each_read read [] = Ok []
each_read read (table ∷ tables) = do
  first ← read table
  others ← each_read read tables
  Ok (first ∷ others)

-- and of those of which there are at most `most`
abbrev pub few_read : {A : Type 0} → ℕ → ConfigPlace → (Members → Result A ConfigRefusal) → List Members → Result (List A) ConfigRefusal
few_read most place read tables = do
  counted ← few most place tables
  each_read read counted

-- at most `most` items, each of which is what it must be
pub record AreFew {A : Type 0} (most : ℕ) (P : A → Type 0) (list : List A) : Type 0 where
  pub count : length list ≤ most
  pub each : All P list
