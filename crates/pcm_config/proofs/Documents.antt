-- What bytes are as a document.
use Rattle.std.proofs.Common.{◌≡◌, ℕ, List, Some, None, inl, inr}
use Rattle.std.specs.Prelude.{IsUtf8}
use Rattle.std.specs.Str.{is_utf8}
use Rattle.std.proofs.lemmas.Bool.{cases_Bool}
use Rattle.std.proofs.lemmas.Str.{IsUtf8-from_is_utf8, is_utf8-from_IsUtf8}
use Rattle.toml.specs.Data.{Members}
use Rattle.toml.specs.Parse.{parse_document}
use Rattle.pcm_config.specs.Configs.{document_of}

-- a text of UTF-8 that is one
pub document-is : (bytes : List ℕ) (table : Members) → IsUtf8 bytes → parse_document bytes ≡ Some table → document_of bytes ≡ Some table
document-is bytes table utf8 parsed = rw (is_utf8-from_IsUtf8 bytes utf8) parsed

-- bytes that are none, where they are UTF-8 at all
pub document-none : (bytes : List ℕ) → (IsUtf8 bytes → parse_document bytes ≡ None) → document_of bytes ≡ None
document-none bytes refused =
    elim (cases_Bool (is_utf8 bytes)) [
      | inl utf8 ↦ rw utf8 (refused (IsUtf8-from_is_utf8 bytes utf8))
      | inr other ↦ rw other
    ]
