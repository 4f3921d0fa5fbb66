-- The files of a configuration: their names and where they lie.
use Rattle.std.specs.Prelude.{ℕ, Bool, ◌&&◌, ◌||◌, ◌==◌, nat_le, if◌then◌else◌, List, [], ◌∷◌, length, map, Option, Some, None, Result, Ok}
use Rattle.std.specs.List.{list_all, list_any}
use Rattle.std.specs.Str.{bytes_eq}
use Rattle.toml.specs.Data.{Data, Members, as_str}
use Rattle.pcm_config.specs.declared.config.FilePath.{FilePath}
use Rattle.pcm_config.specs.declared.fault.ConfigKind.TheVariants.{Kind, Name}
use Rattle.pcm_config.specs.declared.fault.ConfigRefusal.{ConfigRefusal}
use Rattle.pcm_config.specs.declared.place.ConfigPlace.TheVariants.{Files}
use Rattle.pcm_config.specs.Judgements.{◌>>=◌, fault_at, required}
use Rattle.pcm_config.specs.Lookups.{entries_of}

-- a small letter, a digit or `_`
abbrev pub is_name_byte : ℕ → Bool
is_name_byte byte = ((nat_le 97 byte && nat_le byte 122) || (nat_le 48 byte && nat_le byte 57)) || byte == 95

-- a name of 1 to 32 such bytes
abbrev pub is_file_name : List ℕ → Bool
is_file_name name = (nat_le 1 (length name) && nat_le (length name) 32) && list_all is_name_byte name

-- a file with a name in its set, and with a path
abbrev pub is_file : FilePath → Bool
is_file file = is_file_name file.name && nat_le 1 (length file.path)

-- a file more, if its path and the others' are texts
abbrev pub with_file : List ℕ → Option (List ℕ) → Option (List FilePath) → Option (List FilePath)
with_file name (Some path) (Some others) = Some (record { name = name; path = path } ∷ others)
with_file name path others = None

-- the files that entries are, if each path is a text
abbrev pub files_of : List (List ℕ × Data) → Option (List FilePath)
files_of [] = Some []
files_of ((name, path) ∷ entries) = with_file name (as_str path) (files_of entries)

-- The files of their table, in the byte order of their names: first each path is a text, then each file is in its set.
abbrev pub files_in : Members → Result (List FilePath) ConfigRefusal
files_in table = do
  files ← required Kind Files (files_of (entries_of table))
  if list_all is_file files then Ok files else fault_at Name Files

-- the names of files
abbrev pub names_of : List FilePath → List (List ℕ)
names_of files = map (λ file. file.name) files

-- whether a file has this name
abbrev pub is_named : List FilePath → List ℕ → Bool
is_named files name = list_any (λ file. bytes_eq file.name name) files
