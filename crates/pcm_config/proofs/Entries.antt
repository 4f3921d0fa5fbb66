-- The entries of a table's map, beside those that a contract sees.
use Rattle.std.proofs.Common.{◌≡◌, ℕ, Bool, ◌&&◌, ◌||◌, List, [], ◌∷◌, ◌++◌, Option, Some, None, string_bytes, refl, sym, ap, ◌∙◌, append_assoc}
use Rattle.std.specs.Borrow.{Bor}
use Rattle.std.specs.List.{list_all, list_any}
use Rattle.std.specs.Map.{keys_of}
use Rattle.toml.specs.Data.{as_str}
use Rattle.toml.specs.View.{view, members_view}
use Rattle.toml.proofs.Views.{Entry}
use Rattle.pcm_config.specs.declared.config.FilePath.{FilePath}
use Rattle.pcm_config.specs.Files.{files_of, with_file}
use Rattle.pcm_config.specs.Lists.{keys_seen}
use Rattle.pcm_config.specs.Lookups.{entries_of}
use Rattle.pcm_config.proofs.Arrays.{joined}

-- whether all keys of a map pass a test
pub keys-seen : (test : List ℕ → Bool) (entries : List Entry)
    → list_all (λ key. test (string_bytes key)) (keys_of entries) ≡ list_all (λ entry. test entry.0) (entries_of (members_view entries))
keys-seen test [] = refl
keys-seen test (entry ∷ entries) = ap (λ b. test (string_bytes entry.0) && b) (keys-seen test entries)

-- whether a key among those that the code holds passes a test
pub any-seen : (test : List ℕ → Bool) (keys : List (Bor (List ℕ))) → list_any (λ key. test key.now) keys ≡ list_any test (keys_seen keys)
any-seen test [] = refl
any-seen test (key ∷ keys) = ap (λ b. test key.now || b) (any-seen test keys)

-- the files of a map's entries
abbrev pub files_seen : List Entry → Option (List FilePath)
files_seen entries = files_of (entries_of (members_view entries))

-- one file more, from the front of those that follow
pub joined-file : (files : List FilePath) (name path : List ℕ) (more : Option (List FilePath))
    → joined (files ++ record { name = name; path = path } ∷ []) more ≡ joined files (with_file name (Some path) more)
joined-file files name path None = refl
joined-file files name path (Some others) = ap Some (append_assoc files (record { name = name; path = path } ∷ []) others)

-- one entry less, whose path is a text
pub seen-more : (files : List FilePath) (entry : Entry) (entries : List Entry) (path : List ℕ) (all : Option (List FilePath))
    → as_str (view entry.1) ≡ Some path
    → joined files (files_seen (entry ∷ entries)) ≡ all
    → joined (files ++ record { name = string_bytes entry.0; path = path } ∷ []) (files_seen entries) ≡ all
seen-more files entry entries path all text before =
    joined-file files (string_bytes entry.0) path (files_seen entries)
    ∙ ap (λ found. joined files (with_file (string_bytes entry.0) found (files_seen entries))) (sym text)
    ∙ before
