-- What a contract sees of a `MemFiles`: a folder whose listed calls fail.
use Rattle.std.specs.Prelude.{ℕ, ◌+◌, ◌++◌, Bool, true, false, not, ◌||◌, List, [], ◌∷◌, length, Option, Some, None, bytes_eq, nat_lt, option_map, if◌then◌else◌, take}
use Rattle.std.specs.Option.{option_map_or}
use Rattle.pcm_outside.specs.Counts.{raised}
use Rattle.pcm_outside.specs.Calls.{Calls, is_next_listed, counted, with_listed}
use Rattle.pcm_outside.specs.Files.{FilesSeen}

-- a name and its content
pub record Named : Type 0 where
  pub name : List ℕ
  pub bytes : List ℕ

-- Added names stand newest first. The created name and what was written have at most `room` bytes each.
pub record Folder : Type 0 where
  pub room : ℕ
  pub added : List Named
  pub created : Option (List ℕ)
  pub written : List ℕ
  pub stands : Bool
  pub calls : Calls
  pub read_faults : ℕ
  pub write_faults : ℕ
  pub failed : Option (List ℕ)

-- a folder of nothing
abbrev pub empty_folder : ℕ → Folder
empty_folder room = record {
  room = room;
  added = [];
  created = None;
  written = [];
  stands = false;
  calls = record { made = 0; listed = [] };
  read_faults = 0;
  write_faults = 0;
  failed = None;
}

-- the folder with this content of one more name
abbrev pub with_added : Folder → List ℕ → List ℕ → Folder
with_added folder name bytes = record folder { added = record { name = name; bytes = bytes } ∷ folder.added }

-- the folder with one more call that is to fail
abbrev pub with_listed_call : Folder → ℕ → Folder
with_listed_call folder number = record folder { calls = with_listed folder.calls number }

-- the content of the newest of these names
abbrev pub bytes_named : List Named → List ℕ → Option (List ℕ)
bytes_named [] name = None
bytes_named (entry ∷ entries) name = if bytes_eq entry.name name then Some entry.bytes else bytes_named entries name

-- whether this is the created name
abbrev pub is_created : Folder → List ℕ → Bool
is_created folder name = option_map_or (λ created. bytes_eq created name) folder.created false

-- the content of a name: what was written to it, or what was added
abbrev pub content_of : Folder → List ℕ → Option (List ℕ)
content_of folder name = if is_created folder name then Some folder.written else bytes_named folder.added name

-- what a `Files` shows of a folder, always with its contents
abbrev pub folder_seen : Folder → FilesSeen
folder_seen folder = record {
  tells = true;
  content = content_of folder;
  created = folder.created;
  stands = folder.stands;
  read_faults = folder.read_faults;
  write_faults = folder.write_faults;
  failed = folder.failed;
}

-- what a read gives, or None where it fails: at a listed call, and where the name isn't there
abbrev pub read_of : Folder → List ℕ → ℕ → Option (List ℕ)
read_of folder name most = if is_next_listed folder.calls then None else option_map (take most) (content_of folder name)

-- the folder after a call that only counts
abbrev pub after_call : Folder → Folder
after_call folder = record folder { calls = counted folder.calls }

-- the folder after a read that failed
abbrev pub after_failed_read : Folder → List ℕ → Folder
after_failed_read folder name = record (after_call folder) { read_faults = raised folder.read_faults; failed = Some name }

-- whether a different name was created
abbrev pub is_other_created : Folder → List ℕ → Bool
is_other_created folder name = option_map_or (λ created. not (bytes_eq created name)) folder.created false

-- whether a create fails: at a listed call, at a name longer than the room, and after a different name
abbrev pub create_fails : Folder → List ℕ → Bool
create_fails folder name = is_next_listed folder.calls || (nat_lt folder.room (length name) || is_other_created folder name)

-- the folder after a create
abbrev pub after_create : Folder → List ℕ → Folder
after_create folder name = record (after_call folder) { created = Some name; written = []; stands = true }

-- the folder after a create that failed
abbrev pub after_failed_create : Folder → Folder
after_failed_create folder = record (after_call folder) { write_faults = raised folder.write_faults; stands = false }

-- whether an append fails: at a listed call, and where more than the room would be written
abbrev pub append_fails : Folder → List ℕ → Bool
append_fails folder piece = is_next_listed folder.calls || nat_lt folder.room (length folder.written + length piece)

-- the folder after an append
abbrev pub after_append : Folder → List ℕ → Folder
after_append folder piece = record (after_call folder) { written = folder.written ++ piece }

-- the folder after an append that failed
abbrev pub after_failed_append : Folder → Folder
after_failed_append folder = record (after_call folder) { write_faults = raised folder.write_faults }
