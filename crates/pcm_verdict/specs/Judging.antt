-- Files that are read and judged in turn: the first that is refused gives the verdict.
use Rattle.std.specs.Prelude.{ℕ, List, [], ◌∷◌, ◌++◌, Option, Some, None, Result, Ok, Err}
use Rattle.pcm_verdict.specs.Faults.{Fault, Missing}

-- the contents of files by their names
abbrev pub Contents : Type 0
Contents = List ℕ → Option (List ℕ)

-- The names of the files that are read, in their order, and what comes of them.
pub record Judged (A : Type 0) : Type 0 where
  pub names : List (List ℕ)
  pub came : Result A Fault

-- a judgement that reads nothing
abbrev pub judge : {A : Type 0} → Result A Fault → Judged A
judge came = record { names = []; came = came }

-- a value that needs no judgement
abbrev pub given : {A : Type 0} → A → Judged A
given value = judge (Ok value)

-- what a judgement reads after a value, and what comes of it
abbrev pub names_after : {A B : Type 0} → Result A Fault → (A → Judged B) → List (List ℕ)
names_after (Ok value) next = (next value).names
names_after (Err fault) next = []

abbrev pub came_after : {A B : Type 0} → Result A Fault → (A → Judged B) → Result B Fault
came_after (Ok value) next = (next value).came
came_after (Err fault) next = Err fault

-- the next judgement, if this one gave a value
infixl 10 ◌>>=◌
abbrev pub ◌>>=◌ : {A B : Type 0} → Judged A → (A → Judged B) → Judged B
judged >>= next = record { names = judged.names ++ names_after judged.came next; came = came_after judged.came next }

-- the content of a name, which is missing if there is none
abbrev pub or_missing : List ℕ → Option (List ℕ) → Result (List ℕ) Fault
or_missing name None = Err (Missing name)
or_missing name (Some bytes) = Ok bytes

-- the file of a name is read
abbrev pub read_file : Contents → List ℕ → Judged (List ℕ)
read_file content name = record { names = name ∷ []; came = or_missing name (content name) }
