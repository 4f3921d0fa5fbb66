-- The files of a table are in the order of the map that it is.
use Rattle.std.proofs.Common.{◌≡◌, ℕ, List, [], ◌∷◌, map, Option, Some, None, String, Global, Less, nat_cmp, string_bytes, refl, sym, ap, ◌∙◌}
use Rattle.std.proofs.lemmas.Bool.{false≢true}
use Rattle.std.proofs.lemmas.Option.{same_Some}
use Rattle.std.proofs.lemmas.List.{append-nil}
use Rattle.std.specs.Prelude.{is_some}
use Rattle.std.specs.Cmp.Lexicographic.{slice_cmp}
use Rattle.std.specs.List.{AllByRecursion}
use Rattle.std.specs.List.Sorted.{IsStrictlySortedBy}
use Rattle.std.specs.Map.{keys_of}
use Rattle.std.specs.String.{string_cmp}
use Rattle.toml.specs.Data.{as_str}
use Rattle.toml.specs.View.{view}
use Rattle.toml.proofs.Views.{Entry}
use Rattle.pcm_config.specs.declared.config.FilePath.{FilePath}
use Rattle.pcm_config.specs.Configs.{AreInOrder}
use Rattle.pcm_config.specs.Files.{names_of, with_file}
use Rattle.pcm_config.proofs.Entries.{files_seen}
use Rattle.pcm_config.proofs.Arrays.{joined}

-- no file is in any order
pub none-in-order : AreInOrder []
unfolding IsStrictlySortedBy
none-in-order = tt

-- what stands in a file that was found
names-with : (name : List ℕ) (path : Option (List ℕ)) (more : Option (List FilePath)) (files : List FilePath) (names : List (List ℕ))
    → ((others : List FilePath) → more ≡ Some others → names_of others ≡ names)
    → with_file name path more ≡ Some files → names_of files ≡ name ∷ names
names-with name None more files names known found = absurd (false≢true (ap is_some found))
names-with name (Some path) None files names known found = absurd (false≢true (ap is_some found))
names-with name (Some path) (Some others) files names known found =
    let same : record { name = name; path = path } ∷ others ≡ files = same_Some _ _ found in
    rw (← same) (ap (λ rest. name ∷ rest) (known others refl))

-- the names of a map's files are its keys
names-seen : (entries : List Entry) (files : List FilePath) → files_seen entries ≡ Some files → names_of files ≡ map string_bytes (keys_of entries)
names-seen [] files found = rw (← same_Some _ _ found)
names-seen (entry ∷ entries) files found =
    names-with (string_bytes entry.0) (as_str (view entry.1)) (files_seen entries) files (map string_bytes (keys_of entries)) (names-seen entries) found

-- a key is before others as their bytes are
all-before : (key : String Global) (keys : List (String Global)) → AllByRecursion (λ other. string_cmp key other ≡ Less) keys
    → AllByRecursion (λ other. slice_cmp nat_cmp (string_bytes key) other ≡ Less) (map string_bytes keys)
all-before key [] before = tt
all-before key (other ∷ keys) before = (before.0, all-before key keys before.1)

-- keys in order are so as bytes
bytes-in-order : (keys : List (String Global)) → IsStrictlySortedBy string_cmp keys → IsStrictlySortedBy (slice_cmp nat_cmp) (map string_bytes keys)
unfolding IsStrictlySortedBy
bytes-in-order [] order = tt
bytes-in-order (key ∷ keys) order = (all-before key keys order.0, bytes-in-order keys order.1)

-- the files of a whole map are in order
pub files-in-order : (entries : List Entry) (files : List FilePath) → IsStrictlySortedBy string_cmp (keys_of entries)
    → joined files (files_seen []) ≡ files_seen entries → AreInOrder files
files-in-order entries files order all =
    let found : files_seen entries ≡ Some files = sym all ∙ ap Some (append-nil files) in
    rw (names-seen entries files found) (bytes-in-order (keys_of entries) order)
